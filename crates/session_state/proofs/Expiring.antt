-- The expiries of the evented tables, one after another.
use Rattle.std.proofs.Common.{◌≡◌, ℕ, ◌+◌, Bool, false, cond, List, [], ◌∷◌, ◌++◌, length, Option, Some, None, refl, sym, ap, ◌∙◌, subst, arith}
use Rattle.std.specs.Prelude.{if◌then◌else◌, ◌==◌, unwrap_or, option_map}
use Rattle.std.specs.List.{cons_option}
use Rattle.entry_model.specs.declared.entry.Entry.{Entry}
use Rattle.entry_model.specs.declared.entry.Entry.TheVariants.{Expired}
use Rattle.entry_model.specs.declared.restored.Restored.{Restored}
use Rattle.entry_model.specs.Values.{schedule_in, tick_in}
use Rattle.event_store.specs.Contents.{Contents, live_at}
use Rattle.event_store.specs.Laws.{StandsFor, Follows}
use Rattle.event_store.specs.Owed.{owed_of}
use Rattle.event_store.specs.Queues.{above}
use Rattle.session_state.specs.Kept.{Counts, Kept, counts_next}
use Rattle.session_state.specs.Marks.{mark_in}
use Rattle.session_state.specs.StateOf.{IsStateOf, Adds}
use Rattle.session_state.proofs.Known.{known_alike}
use Rattle.session_state.specs.Ticks.{owed_at, reached_by}
use Rattle.session_state.specs.Expiries.{expiry_of, expiries, Stays, AddsAll, AddsSome}

stays_stands : (s t : Kept) → Stays s t → (base : Restored) (added : List Entry) → IsStateOf base added s → IsStateOf base added t
stays_stands s t same base added stands = record {
  values = λ before legal is.
      let h = stands.values before legal is in
      record {
        legal = h.legal;
        counts = h.counts ∙ sym same.counts;
        image = subst (λ (image : Contents). StandsFor (before ++ added) image) (sym same.image) h.image;
        schedule = h.schedule ∙ sym same.schedule;
        ticked = h.ticked ∙ sym same.ticked;
        rules = h.rules;
      };
  marks = same.marks ∙ stands.marks;
  position = ap (λ (c : Counts). c.position) same.counts ∙ stands.position;
}

stays_adds : (s t new : Kept) (e : Entry) → Stays s t → Adds t e new → Adds s e new
stays_adds s t new e same a = record {
  moves = record {
    counts = a.moves.counts ∙ ap (λ (c : Counts). counts_next c e) same.counts;
    image = subst (λ (image : Contents). Follows e image new.image) same.image a.moves.image;
    schedule = a.moves.schedule ∙ ap (unwrap_or (schedule_in e)) same.schedule;
    ticked = a.moves.ticked ∙ ap (unwrap_or (tick_in e)) same.ticked;
    marks = a.moves.marks ∙ (λ i. same.marks i ++ mark_in (same.counts i).position e);
    tail = a.moves.tail ∙ ap (λ (es : List Entry). es ++ e ∷ []) same.tail;
  };
  stands = λ base added stands. a.stands base added (stays_stands s t same base added stands);
  cuts = λ cut of. a.cuts cut (known_alike s t (record {
    position = (let p = ap (λ (c : Counts). c.position) same.counts in omega (arith, p));
    batches = ap (λ (c : Counts). c.batches) same.counts;
    runs = ap (λ (c : Counts). c.runs) same.counts;
    moment = ap (λ (c : Counts). c.moment) same.counts;
    schedule = same.schedule;
    ticked = same.ticked;
    marks = same.marks;
  }) cut of);
}

stays_stays : (s t new : Kept) → Stays s t → Stays t new → Stays s new
stays_stays s t new first second = record {
  counts = second.counts ∙ first.counts;
  image = second.image ∙ first.image;
  schedule = second.schedule ∙ first.schedule;
  ticked = second.ticked ∙ first.ticked;
  marks = second.marks ∙ first.marks;
  tail = second.tail ∙ first.tail;
}

stays_all : (s t new : Kept) (es : List Entry) → Stays s t → AddsAll t es new → AddsAll s es new
stays_all s t new [] same h = stays_stays s t new same h
stays_all s t new (e ∷ es) same h = (h.0, stays_adds s t h.0 e same h.1, h.2)

some_all : (s t new : Kept) (o : Option Entry) (es : List Entry) → AddsSome s o t → AddsAll t es new → AddsAll s (cons_option o es) new
some_all s t new None es some all = stays_all s t new es some all
some_all s t new (Some e) es some all = (t, some, all)

expiry_stays : (s t : Kept) → Stays s t → (table : ℕ) → expiry_of t table ≡ expiry_of s table
expiry_stays s t same table =
    λ i. option_map (λ (floor : ℕ). Expired (record { 0 = table }) floor (same.counts i).moment) (if same.ticked i then owed_of (same.schedule i).events_expiry (same.schedule i).events_max (same.counts i).moment (reached_by (same.counts i).runs (same.schedule i).queries (same.image i).last table) (live_at (same.image i) table) else None)

-- what expires of one table changes no other
expiry_other : (s t : Kept) (expired table floor moment : ℕ) → (table == expired) ≡ false → Adds s (Expired (record { 0 = expired }) floor moment) t → expiry_of t table ≡ expiry_of s table
expiry_other s t expired table floor moment other a =
    let live = a.moves.image.live table ∙ ap (λ (b : Bool). cond b (above floor (live_at s.image table)) (live_at s.image table)) other in
    λ i. option_map (λ (floor : ℕ). Expired (record { 0 = table }) floor (a.moves.counts i).moment) (if a.moves.ticked i then owed_of (a.moves.schedule i).events_expiry (a.moves.schedule i).events_max (a.moves.counts i).moment (reached_by (a.moves.counts i).runs (a.moves.schedule i).queries (a.moves.image.last i) table) (live i) else None)

expiry_kept : (s t : Kept) (expired table : ℕ) → (table == expired) ≡ false → AddsSome s (expiry_of s expired) t → expiry_of t table ≡ expiry_of s table
expiry_kept s t expired table other h = by_owed (owed_at s expired) h
  where
    by_owed : (o : Option ℕ) → AddsSome s (option_map (λ (floor : ℕ). Expired (record { 0 = expired }) floor s.counts.moment) o) t → expiry_of t table ≡ expiry_of s table
    by_owed None h = expiry_stays s t h table
    by_owed (Some floor) h = expiry_other s t expired table floor s.counts.moment other h

count_first : (o : Option Entry) (es : List Entry) → length (cons_option o es) ≡ length (cons_option o []) + length es
count_first None es = omega arith
count_first (Some e) es = omega arith

-- over three states, each with the expiry of one table more
module _ (s0 s s1 s2 s3 new : Kept) (before : Stays s0 s) (h0 : AddsSome s (expiry_of s 0) s1) (h1 : AddsSome s1 (expiry_of s1 1) s2) (h2 : AddsSome s2 (expiry_of s2 2) s3) where
  first_is : expiry_of s 0 ≡ expiry_of s0 0
  first_is = expiry_stays s0 s before 0

  second_is : expiry_of s1 1 ≡ expiry_of s0 1
  second_is = expiry_kept s s1 0 1 refl h0 ∙ expiry_stays s0 s before 1

  third_is : expiry_of s2 2 ≡ expiry_of s0 2
  third_is = expiry_kept s1 s2 1 2 refl h1 ∙ expiry_kept s s1 0 2 refl h0 ∙ expiry_stays s0 s before 2

  pub all_expire : Stays s3 new → AddsAll s0 (expiries s0) new
  all_expire after =
      let third = some_all s2 s3 new (expiry_of s0 2) [] (subst (λ (o : Option Entry). AddsSome s2 o s3) third_is h2) after in
      let second = some_all s1 s2 new (expiry_of s0 1) (cons_option (expiry_of s0 2) []) (subst (λ (o : Option Entry). AddsSome s1 o s2) second_is h1) third in
      let first = some_all s s1 new (expiry_of s0 0) (cons_option (expiry_of s0 1) (cons_option (expiry_of s0 2) [])) (subst (λ (o : Option Entry). AddsSome s o s1) first_is h0) second in
      stays_all s0 s new (expiries s0) before first

  pub all_counted : (a b c : ℕ) → a ≡ length (cons_option (expiry_of s 0) []) → b ≡ length (cons_option (expiry_of s1 1) []) → c ≡ length (cons_option (expiry_of s2 2) []) → a + b + c ≡ length (expiries s0)
  all_counted a b c first second third =
      let one = first ∙ ap (λ (o : Option Entry). length (cons_option o [])) first_is in
      let two = second ∙ ap (λ (o : Option Entry). length (cons_option o [])) second_is in
      let three = third ∙ ap (λ (o : Option Entry). length (cons_option o [])) third_is in
      let outer = count_first (expiry_of s0 0) (cons_option (expiry_of s0 1) (cons_option (expiry_of s0 2) [])) in
      let inner = count_first (expiry_of s0 1) (cons_option (expiry_of s0 2) []) in
      omega (arith, one, two, three, outer, inner)

pub stays_from : (s t new : Kept) → t ≡ s → Stays t new → Stays s new
stays_from s t new same h = subst (λ (s : Kept). Stays s new) same h

pub owed_adds : (s new : Kept) (table floor : ℕ) → owed_at s table ≡ Some floor → Adds s (Expired (record { 0 = table }) floor s.counts.moment) new → AddsSome s (expiry_of s table) new
owed_adds s new table floor owed a =
    subst (λ (o : Option ℕ). AddsSome s (option_map (λ (floor : ℕ). Expired (record { 0 = table }) floor s.counts.moment) o) new) (sym owed) a
