-- Marks are acknowledged one after another.
use Rattle.std.proofs.Common.{◌≡◌, ℕ, zero, suc, ◌+◌, ◌<◌, ◌≤◌, arith, Bool, true, false, List, [], ◌∷◌, ◌++◌, length, map, take, drop, get_or, refl, sym, ap, ◌∙◌, subst, Option, Some, None, true≢false}
use Rattle.std.specs.Prelude.{nat_lt, nat_le, ◌&&◌, if◌then◌else◌}
use Rattle.std.proofs.lemmas.Bool.Decides.{nat_tests}
use Rattle.std.proofs.lemmas.List.{take_all, take_more}
use Rattle.entry_model.specs.declared.entry.Entry.{Entry}
use Rattle.entry_model.specs.declared.entry.Entry.TheVariants.{Acked}
use Rattle.pack_rules.specs.declared.schedule.Form.{Form}
use Rattle.query_cursors.specs.Due as cursors
use Rattle.event_store.specs.Contents.{live_at}
use Rattle.event_store.specs.Owed.{owed_of}
use Rattle.session_state.specs.Kept.{Counts, Kept}
use Rattle.session_state.specs.StateOf.{Adds}
use Rattle.session_state.specs.Ticks.{first_due, owed_at, reached_by}
use Rattle.session_model.specs.Working.{marks_beyond}
use Rattle.daemon_rounds.specs.Adding.{AddsEntries, counts_after}
use Rattle.batch_forwarder.specs.Polling.{AreMarks}
use Rattle.daemon_rounds.specs.Telling.{AreLinesOf, AreTellable}
use Rattle.daemon_rounds.proofs.Adding.{brings_one, brings_same, brings_then, still_free}
use Rattle.forward_rounds.specs.Forwarding.{AreBeyond}
use Rattle.forward_rounds.proofs.Acks.{acks_schedule, acks_tick}

-- the first of the marks are acknowledged, and the others pass the last of them
pub record AreAcknowledged (old : Kept) (marks : List ℕ) (at : ℕ) (new : Kept) : Type 0 where
  pub adds : AddsEntries old (map Acked (take at marks)) new
  pub image : new.image ≡ old.image
  pub claims : new.claims ≡ old.claims
  pub beyond : AreBeyond new.counts.acked new.counts.batches (drop at marks)

pub none_acknowledged : (old : Kept) (marks : List ℕ) → AreBeyond old.counts.acked old.counts.batches marks → AreAcknowledged old marks 0 old
none_acknowledged old marks beyond = record { adds = brings_same old; image = refl; claims = refl; beyond = beyond }

map_push : (xs : List ℕ) (x : ℕ) → map Acked (xs ++ x ∷ []) ≡ map Acked xs ++ Acked x ∷ []
map_push [] x = refl
map_push (y ∷ ys) x = ap (λ (es : List Entry). Acked y ∷ es) (map_push ys x)

-- the mark at a place passes the last one, and the others pass it
here : (mark batches : ℕ) (marks : List ℕ) (at upto : ℕ) → at < length marks → upto ≡ get_or marks at 0 → AreBeyond mark batches (drop at marks) → (mark < upto) × (upto ≤ batches) × AreBeyond upto batches (drop (at + 1) marks)
here mark batches [] at upto within is beyond = absurd (omega (arith, within))
here mark batches (first ∷ marks) zero upto within is beyond =
    subst (λ (u : ℕ). (mark < u) × (u ≤ batches) × AreBeyond u batches marks) (sym is) beyond
here mark batches (first ∷ marks) (suc at) upto within is beyond =
    let same : suc (at + 1) ≡ suc at + 1 = omega (arith) in
    subst (λ (n : ℕ). (mark < upto) × (upto ≤ batches) × AreBeyond upto batches (drop n (first ∷ marks))) same (here mark batches marks at upto (omega (arith, within)) is beyond)

pub next_acknowledged : (old : Kept) (marks : List ℕ) (at upto : ℕ) (s t : Kept) → at < length marks → upto ≡ get_or marks at 0 → AreAcknowledged old marks at s → Adds s (Acked upto) t → t.claims ≡ s.claims → AreAcknowledged old marks (at + 1) t
next_acknowledged old marks at upto s t within is h adds claims =
    let more : take (at + 1) marks ≡ take at marks ++ upto ∷ [] = take_more marks at 0 within ∙ ap (λ (e : ℕ). take at marks ++ e ∷ []) (sym is) in
    record {
      adds = subst (λ (es : List Entry). AddsEntries old es t) (sym (ap (map Acked) more ∙ map_push (take at marks) upto)) (brings_then old s t (map Acked (take at marks)) (Acked upto ∷ []) h.adds (brings_one s t (Acked upto) adds (still_free s t claims)));
      image = adds.moves.image ∙ h.image;
      claims = claims ∙ h.claims;
      beyond = subst (λ (c : Counts). AreBeyond c.acked c.batches (drop (at + 1) marks)) (sym adds.moves.counts) (here s.counts.acked s.counts.batches marks at upto within is h.beyond).2;
    }

-- all are
pub all_acknowledged : (old : Kept) (marks : List ℕ) (at : ℕ) (new : Kept) → length marks ≤ at → AreAcknowledged old marks at new → AddsEntries old (map Acked marks) new
all_acknowledged old marks at new past h = subst (λ (ms : List ℕ). AddsEntries old (map Acked ms) new) (take_all at marks past) h.adds

-- marks that answers move on pass one another
and_both : (a b : Bool) → (a && b) ≡ true → (a ≡ true) × (b ≡ true)
and_both true true h = (refl, refl)
and_both true false h = absurd (true≢false (sym h))
and_both false b h = absurd (true≢false (sym h))

pub are_beyond : (mark batches : ℕ) (found : List (Option ℕ)) → AreBeyond mark batches (marks_beyond mark batches found)
are_beyond mark batches [] = tt
are_beyond mark batches (None ∷ found) = are_beyond mark batches found
are_beyond mark batches (Some upto ∷ found) =
    by (nat_lt mark upto && nat_le upto batches) refl (are_beyond upto batches found) (are_beyond mark batches found)
  where
    by : (moves : Bool) → (nat_lt mark upto && nat_le upto batches) ≡ moves → AreBeyond upto batches (marks_beyond upto batches found) → AreBeyond mark batches (marks_beyond mark batches found) → AreBeyond mark batches (if moves then upto ∷ marks_beyond upto batches found else marks_beyond mark batches found)
    by true moves beyond still =
        let both = and_both (nat_lt mark upto) (nat_le upto batches) moves in
        let above = both.0 in
        let most = both.1 in
        (grind (arith, nat_tests, above), grind (arith, nat_tests, most), beyond)
    by false moves beyond still = still

-- what is acknowledged makes no query due and owes nothing
runs_stay : (c : Counts) (marks : List ℕ) → (counts_after c (map Acked marks)).runs ≡ c.runs
runs_stay c [] = refl
runs_stay c (mark ∷ marks) = runs_stay (record c { position = c.position + 1; acked = mark }) marks

moment_stays : (c : Counts) (marks : List ℕ) → (counts_after c (map Acked marks)).moment ≡ c.moment
moment_stays c [] = refl
moment_stays c (mark ∷ marks) = moment_stays (record c { position = c.position + 1; acked = mark }) marks

module _ (old new : Kept) (marks : List ℕ) (adds : AddsEntries old (map Acked marks) new) where
  runs : new.counts.runs ≡ old.counts.runs
  runs = ap (λ (c : Counts). c.runs) adds.counts ∙ runs_stay old.counts marks

  moment : new.counts.moment ≡ old.counts.moment
  moment = ap (λ (c : Counts). c.moment) adds.counts ∙ moment_stays old.counts marks

  schedule : new.schedule ≡ old.schedule
  schedule = adds.schedule ∙ acks_schedule old.schedule marks

  ticked : new.ticked ≡ old.ticked
  ticked = adds.ticked ∙ acks_tick old.ticked marks

  pub due_stays : first_due new ≡ first_due old
  due_stays = λ i. if ticked i then cursors.first_due (runs i) (schedule i).queries (moment i) else None

  pub owed_stays : new.image ≡ old.image → (table : ℕ) → owed_at new table ≡ owed_at old table
  owed_stays image table = λ i. if ticked i then owed_of (schedule i).events_expiry (schedule i).events_max (moment i) (reached_by (runs i) (schedule i).queries (image i).last table) (live_at (image i) table) else None

pub acks_tellable : (marks : List ℕ) → AreTellable (map Acked marks)
acks_tellable [] = tt
acks_tellable (mark ∷ marks) = (tt, acks_tellable marks)

-- the tail of a state that was sealed has them alone
pub tail_tellable : (old new : Kept) (marks : List ℕ) → old.tail ≡ [] → AddsEntries old (map Acked marks) new → AreTellable new.tail
tail_tellable old new marks sealed adds =
    subst AreTellable (sym (adds.tail ∙ ap (λ (es : List Entry). es ++ map Acked marks) sealed)) (acks_tellable marks)

-- they have no lines
pub acks_tell_none : (host : List ℕ) (form : Form) (marks : List ℕ) → AreLinesOf host form (map Acked marks) []
acks_tell_none host form [] = refl
acks_tell_none host form (mark ∷ marks) = ([], [], refl, acks_tell_none host form marks, refl)

-- answers polled behind others give their marks behind theirs
pub marks-append : (host : List ℕ) (lines others : List (List ℕ)) (found rest : List (Option ℕ)) → AreMarks host lines found → AreMarks host others rest → AreMarks host (lines ++ others) (found ++ rest)
marks-append host [] others [] rest are more = more
marks-append host [] others (mark ∷ found) rest are more = absurd are
marks-append host (line ∷ lines) others [] rest are more = absurd are
marks-append host (line ∷ lines) others (mark ∷ found) rest are more = (are.0, marks-append host lines others found rest are.1 more)
