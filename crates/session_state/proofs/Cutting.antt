-- The cut of a state is one of its list.
use Rattle.std.proofs.Common.{◌≡◌, ℕ, zero, suc, ◌<◌, ◌≤◌, Bool, true, false, cond, List, [], ◌∷◌, ◌++◌, length, get_or, Option, Some, None, refl, sym, ap, ◌∙◌, subst, arith}
use Rattle.std.specs.Prelude.{All, Contains, IfSome, filter, map, position, unwrap_or, option_map, slice_get, not, ◌&&◌}
use Rattle.std.specs.List.{zip}
use Rattle.std.specs.Option.{option_map_or}
use Rattle.std.proofs.lemmas.List.Quantifiers.{position-Some}
use Rattle.std.proofs.lemmas.Slice.Zip.{get_or-zip}
use Rattle.std.proofs.lemmas.Option.{get_or_from_slice_get, slice_get_within}
use Rattle.pack_rules.specs.declared.schedule.Mode.{Mode}
use Rattle.pack_rules.specs.declared.schedule.Mode.TheVariants.{Evented, Snapshot}
use Rattle.pack_rules.specs.declared.schedule.QueryKey.{QueryKey}
use Rattle.pack_rules.specs.declared.schedule.Scheduled.{Scheduled}
use Rattle.entry_model.specs.declared.entry.Entry.{Entry}
use Rattle.entry_model.specs.declared.restored.Restored.{Restored}
use Rattle.entry_model.specs.declared.restored.Run.{Run}
use Rattle.entry_model.specs.Values.{batches_of, number_of}
use Rattle.entry_model.specs.Legal.{begins_at}
use Rattle.entry_model.specs.Next.{no_run}
use Rattle.entry_model.proofs.Commits.{Contains-map}
use Rattle.entry_model.proofs.Lists.{Contains-filter, and_true}
use Rattle.query_cursors.specs.Due as cursors
use Rattle.session_state.specs.Kept.{Counts, Kept, IsRun, IsState}
use Rattle.session_state.specs.CutOf.{IsCutOf}
use Rattle.session_state.specs.StateOf.{HasValues, IsStateOf}
use Rattle.session_state.specs.Ticks.{first_due}
use Rattle.session_state.specs.Cut.{CutValue}
use Rattle.session_state.specs.Cutting.{next_place, lower_at, cut_of, HasCut, CutStands}
use Rattle.session_state.proofs.Counted.{known_run}
use Rattle.session_state.proofs.Dues.{due_queries_are, none_pass, no_position, cursor_same}
use Rattle.session_state.proofs.Known.{IsAlike, known_alike}
use Rattle.session_state.proofs.Shown.{run_same, shows}

pub contains_at : {X : Type 0} (xs : List X) (i : ℕ) (x : X) → slice_get xs i ≡ Some x → Contains xs x
contains_at xs i x e = (i, slice_get_within xs i x e, get_or_from_slice_get xs i x x e)

number_by : (key : QueryKey) (o : Option Run) → (unwrap_or o (no_run key)).number ≡ option_map_or (λ (run : Run). run.number) o 0
number_by key None = refl
number_by key (Some run) = refl

-- the number of a query's last batch by the state is the list's
pub number_same : (K : List Entry) (s : Kept) → HasValues K s → (key : QueryKey) → number_of (batches_of K key) ≡ cursors.number_of s.counts.runs key
number_same K s h key =
    ap (λ (run : Run). run.number) (run_same K s h key) ∙ number_by key (cursors.run_of s.counts.runs key)

lower_same : (K : List Entry) (s : Kept) → HasValues K s → (key : QueryKey) (mode : Mode) → lower_at s key mode ≡ begins_at K key mode
lower_same K s h key Evented = sym (cursor_same K s h key)
lower_same K s h key Snapshot = refl

-- the query that is cut next is due
module _ (runs : List Run) (queries : List Scheduled) (claims : List Bool) (moment : ℕ) (place : ℕ) (scheduled : Scheduled) (stands : slice_get queries place ≡ Some scheduled) (long : length claims ≡ length queries) where
  due_first : cursors.first_due runs queries moment ≡ Some place → cursors.is_due_by runs moment scheduled ≡ true
  due_first h =
      let at = position-Some (cursors.is_due_by runs moment) queries place scheduled h in
      ap (cursors.is_due_by runs moment) (sym (get_or_from_slice_get queries place scheduled scheduled stands)) ∙ at.1

  due_free : cursors.first_free runs queries claims moment ≡ Some place → cursors.is_due_by runs moment scheduled ≡ true
  due_free h =
      let within = slice_get_within queries place scheduled stands in
      let at = position-Some (λ (pair : Scheduled × Bool). cursors.is_due_by runs moment pair.0 && not pair.1) (zip queries claims) place (scheduled, false) h in
      let pair = get_or-zip queries claims place (scheduled, false) within (omega (arith, within, long)) in
      let due = sym (ap (λ (pair : Scheduled × Bool). cursors.is_due_by runs moment pair.0 && not pair.1) pair) ∙ at.1 in
      ap (cursors.is_due_by runs moment) (sym (get_or_from_slice_get queries place scheduled scheduled stands)) ∙ (and_true (cursors.is_due_by runs moment (get_or queries place scheduled)) (not (get_or claims place false)) due).0

  due_next : cursors.next_of runs queries claims moment ≡ Some place → cursors.is_due_by runs moment scheduled ≡ true
  due_next = by_free (cursors.first_free runs queries claims moment) refl
    where
      by_free : (o : Option ℕ) → cursors.first_free runs queries claims moment ≡ o → cursors.or_else o (cursors.first_due runs queries moment) ≡ Some place → cursors.is_due_by runs moment scheduled ≡ true
      by_free None e h = due_first h
      by_free (Some other) e h = due_free (e ∙ h)

-- where a place is next, a tick has begun, and its query is due
pub record IsNext (s : Kept) (scheduled : Scheduled) : Type 0 where
  pub ticked : s.ticked ≡ true
  pub due : cursors.is_due_by s.counts.runs s.counts.moment scheduled ≡ true

pub is_next : (s : Kept) → IsState s → (place : ℕ) (scheduled : Scheduled) → slice_get s.schedule.queries place ≡ Some scheduled → next_place s ≡ Some place → IsNext s scheduled
is_next s is place scheduled stands h = by_tick s.ticked refl
  where
    by_tick : (b : Bool) → s.ticked ≡ b → IsNext s scheduled
    by_tick false e =
        absurd (let k = sym (ap (λ (b : Bool). cond b (cursors.next_of s.counts.runs s.schedule.queries s.claims s.counts.moment) None) e) ∙ h in cc)
    by_tick true e =
        let k = sym (ap (λ (b : Bool). cond b (cursors.next_of s.counts.runs s.schedule.queries s.claims s.counts.moment) None) e) ∙ h in
        record { ticked = e; due = due_next s.counts.runs s.schedule.queries s.claims s.counts.moment place scheduled stands is.claims k }

pub has_cut : (K : List Entry) (s : Kept) → IsState s → HasValues K s → (place : ℕ) (scheduled : Scheduled) → slice_get s.schedule.queries place ≡ Some scheduled → IsNext s scheduled → HasCut K (cut_of s place scheduled)
has_cut K s is h place scheduled stands next = record {
  position = sym (ap (λ (c : Counts). c.position) h.counts);
  due =
      let p = cursors.is_due_by s.counts.runs s.counts.moment in
      let keys = λ (scheduled : Scheduled). scheduled.key in
      let due : Contains (map keys (filter p s.schedule.queries)) scheduled.key = Contains-map keys (filter p s.schedule.queries) scheduled (Contains-filter p s.schedule.queries scheduled (contains_at s.schedule.queries place scheduled stands) next.due) in
      subst (λ (queries : List QueryKey). Contains queries scheduled.key) (sym (due_queries_are K s h is.runs)) (subst (λ (b : Bool). Contains (cond b (map keys (filter p s.schedule.queries)) []) scheduled.key) (sym next.ticked) due);
  lower = lower_same K s h scheduled.key scheduled.key.mode;
  upper = h.image.last;
  now = sym (ap (λ (c : Counts). c.moment) h.counts);
  last = sym (number_same K s h scheduled.key);
  view = λ table. shows K s is h (lower_at s scheduled.key scheduled.key.mode) s.counts.moment table;
}

-- the cut of a state stands for what the state does
pub cut_stands : (s : Kept) → IsState s → (place : ℕ) (scheduled : Scheduled) → slice_get s.schedule.queries place ≡ Some scheduled → next_place s ≡ Some place → (base : Restored) (added : List Entry) → IsStateOf base added s → CutStands base added (cut_of s place scheduled)
cut_stands s is place scheduled at next base added stands before legal same =
    has_cut (before ++ added) s is (stands.values before legal same) place scheduled at (is_next s is place scheduled at next)

-- where no query is cut next, none is due
pub none_next : (s : Kept) → next_place s ≡ None → first_due s ≡ None
none_next s h = by_tick s.ticked refl
  where
    by_free : (o : Option ℕ) → cursors.or_else o (cursors.first_due s.counts.runs s.schedule.queries s.counts.moment) ≡ None → cursors.first_due s.counts.runs s.schedule.queries s.counts.moment ≡ None
    by_free None k = k
    by_free (Some place) k = absurd (cc)

    by_tick : (b : Bool) → s.ticked ≡ b → first_due s ≡ None
    by_tick false e = ap (λ (b : Bool). cond b (cursors.first_due s.counts.runs s.schedule.queries s.counts.moment) None) e
    by_tick true e =
        let k = sym (ap (λ (b : Bool). cond b (cursors.next_of s.counts.runs s.schedule.queries s.claims s.counts.moment) None) e) ∙ h in
        ap (λ (b : Bool). cond b (cursors.first_due s.counts.runs s.schedule.queries s.counts.moment) None) e ∙ by_free (cursors.first_free s.counts.runs s.schedule.queries s.claims s.counts.moment) k

-- where one is, one is due
pub some_next : (s : Kept) → IsState s → (place : ℕ) (scheduled : Scheduled) → slice_get s.schedule.queries place ≡ Some scheduled → next_place s ≡ Some place → first_due s ≡ None → false ≡ true
some_next s is place scheduled stands h none =
    let next = is_next s is place scheduled stands h in
    let p = cursors.is_due_by s.counts.runs s.counts.moment in
    let at : position p s.schedule.queries ≡ None = sym (ap (λ (b : Bool). cond b (position p s.schedule.queries) None) next.ticked) ∙ none in
    let kept = Contains-filter p s.schedule.queries scheduled (contains_at s.schedule.queries place scheduled stands) next.due in
    let empty : Contains [] scheduled = subst (λ (queries : List Scheduled). Contains queries scheduled) (none_pass p s.schedule.queries (no_position p s.schedule.queries at)) kept in
    absurd (let lt = empty.1 in omega (arith, lt))

-- the query at a place of the schedule
pub record IsAt (queries : List Scheduled) (place : ℕ) : Type 0 where
  pub scheduled : Scheduled
  pub stands : slice_get queries place ≡ Some scheduled

pub at_place : (queries : List Scheduled) (place : ℕ) → place < length queries → IsAt queries place
at_place [] place within = absurd (omega (arith, within))
at_place (query ∷ queries) zero within = record { scheduled = query; stands = refl }
at_place (query ∷ queries) (suc place) within =
    let at = at_place queries place (omega (arith, within)) in
    record { scheduled = at.scheduled; stands = at.stands }

number_known : (batches : ℕ) (runs : List Run) (key : QueryKey) → All (IsRun batches) runs → cursors.number_of runs key ≤ batches
number_known batches runs key known = by_run (cursors.run_of runs key) (known_run batches runs key known)
  where
    by_run : (o : Option Run) → IfSome o (IsRun batches) → option_map_or (λ (run : Run). run.number) o 0 ≤ batches
    by_run None known = omega arith
    by_run (Some run) known = known.given

-- the cut that a state gives is one of the state, also behind the claim
pub own_cut : (s : Kept) → IsState s → (place : ℕ) (scheduled : Scheduled) → slice_get s.schedule.queries place ≡ Some scheduled → next_place s ≡ Some place → IsCutOf s (cut_of s place scheduled)
own_cut s is place scheduled stands h =
    let next = is_next s is place scheduled stands h in
    record {
      past = omega arith;
      known = number_known s.counts.batches s.counts.runs scheduled.key is.runs;
      current = λ unmarked. record { ticked = next.ticked; now = refl; scheduled = scheduled; stands = stands; key = refl; due = λ number. next.due };
    }

-- other claims change nothing of what is known of cuts
pub claims_alike : (s : Kept) (claims : List Bool) → IsAlike s (record s { claims = claims })
claims_alike s claims =
    record { position = omega arith; batches = refl; runs = refl; moment = refl; schedule = refl; ticked = refl; marks = refl }

pub not_none : (s : Kept) → IsState s → (place : ℕ) → place < length s.schedule.queries → next_place s ≡ Some place → first_due s ≡ None → false ≡ true
not_none s is place within next =
    let at = at_place s.schedule.queries place within in
    some_next s is place at.scheduled at.stands next

module _ (s : Kept) (is : IsState s) (place : ℕ) (within : place < length s.schedule.queries) (next : next_place s ≡ Some place) (cut : CutValue) (given : Some cut ≡ option_map (cut_of s place) (slice_get s.schedule.queries place)) where
  at : IsAt s.schedule.queries place
  at = at_place s.schedule.queries place within

  is_cut : cut ≡ cut_of s place at.scheduled
  is_cut = let k = given ∙ ap (option_map (cut_of s place)) at.stands in cc

  -- what is given stands for what the state does
  pub given_stands : (base : Restored) (added : List Entry) → IsStateOf base added s → CutStands base added cut
  given_stands base added stands =
      subst (CutStands base added) (sym is_cut) (cut_stands s is place at.scheduled at.stands next base added stands)

  -- and is a cut of the state, also when its query is claimed
  pub given_own : (claims : List Bool) → IsCutOf (record s { claims = claims }) cut
  given_own claims =
      subst (IsCutOf (record s { claims = claims })) (sym is_cut) (known_alike s (record s { claims = claims }) (claims_alike s claims) (cut_of s place at.scheduled) (own_cut s is place at.scheduled at.stands next))

  pub given_own_of : (t : Kept) → t ≡ s → (claims : List Bool) → IsCutOf (record t { claims = claims }) cut
  given_own_of t same claims =
      subst (λ (t : Kept). IsCutOf (record t { claims = claims }) cut) (sym same) (given_own claims)
