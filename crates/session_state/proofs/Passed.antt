-- Each query before a place is claimed or not due, whatever becomes of the claims and of the runs.
use Rattle.std.proofs.Common.{◌≡◌, ◌≢◌, ◌⊎◌, inl, inr, ℕ, zero, suc, ◌+◌, ◌<◌, ◌≤◌, Bool, true, false, cond, List, [], ◌∷◌, length, set, get_or, Option, Some, None, refl, sym, ap, ◌∙◌, arith}
use Rattle.std.specs.Prelude.{position, slice_get, not, ◌&&◌}
use Rattle.std.specs.List.{position_from, zip}
use Rattle.std.proofs.lemmas.List.{get_or-set_same, get_or-set_other}
use Rattle.std.proofs.lemmas.List.Elements.{All-contains}
use Rattle.std.proofs.lemmas.List.Quantifiers.{position-Some}
use Rattle.std.proofs.lemmas.Iterator.Adapters.{position_from-zero}
use Rattle.std.proofs.lemmas.Slice.Zip.{get_or-zip, length-zip}
use Rattle.std.proofs.lemmas.Option.{get_or_from_slice_get, slice_get_within}
use Rattle.pack_rules.specs.declared.schedule.Scheduled.{Scheduled}
use Rattle.pack_rules.specs.Sound.{IsRunnable}
use Rattle.entry_model.specs.declared.restored.Run.{Run}
use Rattle.entry_model.specs.Runs.{with_batch}
use Rattle.entry_model.proofs.Lists.{is_below}
use Rattle.query_cursors.specs.Due.{is_due_by, first_due, first_free, next_of, or_else, NoneFree}
use Rattle.session_state.specs.Kept.{Kept, IsState}
use Rattle.session_state.specs.Cut.{CutValue}
use Rattle.session_state.specs.CutOf.{IsCurrent}
use Rattle.session_state.specs.Cutting.{next_place}
use Rattle.session_state.proofs.Rooms.{was_due, not_due}
use Rattle.session_state.proofs.Cutting.{contains_at}
use Rattle.session_state.proofs.Committing.{IsReady}

-- where nothing passes, what stands at a place doesn't
none_from : {X : Type 0} (test : X → Bool) (from : ℕ) (xs : List X) (k : ℕ) (d : X) → k < length xs → position_from test from xs ≡ None → test (get_or xs k d) ≡ false
none_from test from [] k d lt h = absurd (omega (arith, lt))
none_from test from (x ∷ xs) k d lt h =
    by_first (test x) refl h (λ rest k lt. none_from test (from + 1) xs k d lt rest)
  where
    at : (k : ℕ) → k < length (x ∷ xs) → test x ≡ false → ((k : ℕ) → k < length xs → test (get_or xs k d) ≡ false) → test (get_or (x ∷ xs) k d) ≡ false
    at zero lt fails behind = fails
    at (suc k) lt fails behind = behind k (omega (arith, lt))

    by_first : (b : Bool) → test x ≡ b → cond b (Some from) (position_from test (from + 1) xs) ≡ None → (position_from test (from + 1) xs ≡ None → (k : ℕ) → k < length xs → test (get_or xs k d) ≡ false) → test (get_or (x ∷ xs) k d) ≡ false
    by_first true e h behind = absurd (cc)
    by_first false e h behind = at k lt e (behind h)

none_at : {X : Type 0} (test : X → Bool) (xs : List X) (k : ℕ) (d : X) → k < length xs → position test xs ≡ None → test (get_or xs k d) ≡ false
none_at test xs k d lt h = none_from test 0 xs k d lt (sym (position_from-zero test xs) ∙ h)

module _ (runs : List Run) (queries : List Scheduled) (claims : List Bool) (moment : ℕ) where
  -- none before the first place
  pub none_passed : NoneFree runs queries claims moment 0
  none_passed place scheduled lt = absurd (omega (arith, lt))

  -- a query that is not claimed any more is not among those before its own place
  pub passed_released : (from place at : ℕ) (after : List Bool) → NoneFree runs queries claims moment from → after ≡ set claims place false → at ≤ from → at ≤ place → NoneFree runs queries after moment at
  passed_released from place at after passed is low before k scheduled lt there unclaimed =
      let differs : k ≢ place = λ same. absurd (omega (arith, same, lt, before)) in
      passed k scheduled (omega (arith, lt, low)) there (sym (get_or-set_other claims place k false false differs) ∙ sym (ap (λ (flags : List Bool). get_or flags k false) is) ∙ unclaimed)

  module _ (long : length claims ≡ length queries) where
    abbrev free : Scheduled × Bool → Bool
    free pair = is_due_by runs moment pair.0 && not pair.1

    and_not : (b : Bool) → (b && true) ≡ b
    and_not true = refl
    and_not false = refl

    -- where the pair at a place isn't free, and its query isn't claimed, that isn't due
    not_due_at : (k : ℕ) (scheduled : Scheduled) → slice_get queries k ≡ Some scheduled → get_or claims k false ≡ false → free (get_or (zip queries claims) k (scheduled, false)) ≡ false → is_due_by runs moment scheduled ≡ false
    not_due_at k scheduled there unclaimed fails =
        let within = slice_get_within queries k scheduled there in
        let pair = get_or-zip queries claims k (scheduled, false) within (omega (arith, within, long)) in
        let query = get_or_from_slice_get queries k scheduled scheduled there in
        sym (and_not (is_due_by runs moment scheduled))
        ∙ (λ i. is_due_by runs moment (sym query i) && not (sym unclaimed i))
        ∙ sym (ap free pair)
        ∙ fails

    none_before : (place k : ℕ) (scheduled : Scheduled) → (o : Option ℕ) → first_free runs queries claims moment ≡ o → or_else o (first_due runs queries moment) ≡ Some place → k < place → slice_get queries k ≡ Some scheduled → get_or claims k false ≡ false → is_due_by runs moment scheduled ≡ false
    none_before place k scheduled (Some other) e h lt there unclaimed =
        let same : first_free runs queries claims moment ≡ Some place = e ∙ h in
        not_due_at k scheduled there unclaimed ((position-Some free (zip queries claims) place (scheduled, false) same).2 k lt)
    none_before place k scheduled None e h lt there unclaimed =
        let within = slice_get_within queries k scheduled there in
        let both = length-zip queries claims in
        not_due_at k scheduled there unclaimed (none_at free (zip queries claims) k (scheduled, false) (omega (arith, within, both, long)) e)

    -- the next query to cut is claimed now, and those before it were
    pub passed_claimed : (place : ℕ) → place < length queries → next_of runs queries claims moment ≡ Some place → NoneFree runs queries (set claims place true) moment (place + 1)
    passed_claimed place inside next k scheduled lt there unclaimed = by_place (is_below place k)
      where
        by_place : (place ≤ k) ⊎ (k < place) → is_due_by runs moment scheduled ≡ false
        by_place (inl late) =
            let same : k ≡ place = omega (arith, late, lt) in
            let set_here = get_or-set_same claims place true false (omega (arith, inside, long)) in
            absurd (let b : true ≡ false = sym set_here ∙ sym (ap (λ (n : ℕ). get_or (set claims place true) n false) same) ∙ unclaimed in cc)
        by_place (inr before) =
            let differs : k ≢ place = λ same. absurd (omega (arith, same, before)) in
            let was : get_or claims k false ≡ false = sym (get_or-set_other claims place k true false differs) ∙ unclaimed in
            none_before place k scheduled (first_free runs queries claims moment) refl next before there was

-- behind the claim of the place that a state gives
pub passed_next : (s : Kept) → IsState s → (place : ℕ) → place < length s.schedule.queries → next_place s ≡ Some place → NoneFree s.counts.runs s.schedule.queries (set s.claims place true) s.counts.moment (place + 1)
passed_next s is place within next = by_tick s.ticked refl
  where
    by_tick : (b : Bool) → s.ticked ≡ b → NoneFree s.counts.runs s.schedule.queries (set s.claims place true) s.counts.moment (place + 1)
    by_tick false e =
        absurd (let k = sym (ap (λ (b : Bool). cond b (next_of s.counts.runs s.schedule.queries s.claims s.counts.moment) None) e) ∙ next in cc)
    by_tick true e =
        passed_claimed s.counts.runs s.schedule.queries s.claims s.counts.moment is.claims place within (sym (ap (λ (b : Bool). cond b (next_of s.counts.runs s.schedule.queries s.claims s.counts.moment) None) e) ∙ next)

-- a query whose batch was added is not due, and no other one is that was not
pub passed_after : (s : Kept) (cut : CutValue) → IsReady s cut → (number from : ℕ) → NoneFree s.counts.runs s.schedule.queries s.claims s.counts.moment from → NoneFree (with_batch s.counts.runs cut.key number cut.hi cut.moment) s.schedule.queries (set s.claims cut.place false) s.counts.moment from
passed_after s cut r number from passed k scheduled lt there unclaimed =
    by_due (is_due_by after s.counts.moment scheduled) refl
  where
    current : IsCurrent s cut
    current = r.of.current r.free.unmarked

    after : List Run
    after = with_batch s.counts.runs cut.key number cut.hi cut.moment

    least : 1 ≤ scheduled.interval
    least =
        (All-contains IsRunnable s.schedule.queries scheduled r.is.schedule.runnable (contains_at s.schedule.queries k scheduled there)).at_least

    at_now : is_due_by after s.counts.moment scheduled ≡ is_due_by after cut.moment scheduled
    at_now = ap (λ (m : ℕ). is_due_by after m scheduled) current.now

    elsewhere : is_due_by after cut.moment scheduled ≡ true → k ≢ cut.place → true ≡ false
    elsewhere due differs =
        let was : get_or s.claims k false ≡ false = sym (get_or-set_other s.claims cut.place k false false differs) ∙ unclaimed in
        let due_before : is_due_by s.counts.runs cut.moment scheduled ≡ true = was_due cut.key number cut.hi cut.moment s.counts.runs scheduled least due in
        sym due_before ∙ ap (λ (m : ℕ). is_due_by s.counts.runs m scheduled) (sym current.now) ∙ passed k scheduled lt there was

    here : is_due_by after cut.moment scheduled ≡ true → cut.place ≡ k → true ≡ false
    here due same =
        let query : current.scheduled ≡ scheduled = (let e = sym current.stands ∙ ap (slice_get s.schedule.queries) same ∙ there in cc) in
        sym due ∙ not_due cut.key number cut.hi cut.moment s.counts.runs scheduled (sym current.key ∙ ap (λ (s : Scheduled). s.key) query) least

    by_place : is_due_by after cut.moment scheduled ≡ true → (cut.place ≤ k) ⊎ (k < cut.place) → (k ≤ cut.place) ⊎ (cut.place < k) → true ≡ false
    by_place due (inl late) (inl early) = here due (omega (arith, late, early))
    by_place due (inl late) (inr past) = elsewhere due (λ same. absurd (omega (arith, same, past)))
    by_place due (inr before) other = elsewhere due (λ same. absurd (omega (arith, same, before)))

    by_due : (b : Bool) → is_due_by after s.counts.moment scheduled ≡ b → b ≡ false
    by_due false e = refl
    by_due true e = by_place (sym at_now ∙ e) (is_below cut.place k) (is_below k cut.place)
