-- What a shared state stands for after a call.
use Rattle.std.proofs.Common.{◌≡◌, inl, inr, ℕ, Bool, true, false, List, [], ◌∷◌, ◌++◌, map, Option, Some, None, Result, Ok, Err, refl, sym, ap, ◌∙◌, subst, append_assoc, append-nil, arith}
use Rattle.std.specs.Prelude.{IfOk, IfSome, OnOk, OnErr, MatchBool, cond, set, is_some, option_map, slice_get}
use Rattle.osq_value.specs.declared.memory.NoMemory.{NoMemory}
use Rattle.osq_value.specs.declared.value.Value.{Value}
use Rattle.pack_rules.specs.declared.schedule.Scheduled.{Scheduled}
use Rattle.entry_model.specs.declared.entry.Entry.{Entry}
use Rattle.entry_model.specs.declared.restored.Restored.{Restored}
use Rattle.session_state.specs.Kept.{Counts, Kept}
use Rattle.session_state.specs.Cut.{CutValue}
use Rattle.session_state.specs.CutOf.{mark_from, IsCutOf}
use Rattle.session_state.specs.Cutting.{CutStands, cut_of, cut_at, next_cut, next_place, claimed_at, released}
use Rattle.session_state.specs.Commits.{Commits, committed}
use Rattle.session_state.specs.declared.state.CommitRefusal.{CommitRefusal}
use Rattle.session_state.specs.Expiries.{AddsAll}
use Rattle.session_state.specs.StateOf.{IsStateOf, Adds}
use Rattle.session_state.proofs.Known.{known_alike}
use Rattle.session_state.proofs.Cutting.{claims_alike}
use Rattle.shared_store.specs.declared.noted.Noted.{Noted}
use Rattle.shared_store.specs.declared.noted.Noted.TheVariants.{Added, Taken, Given}
use Rattle.shared_store.specs.Notes.{entries_in, untaken, WasGiven, grown, taken_by, given_by}
use Rattle.shared_store.specs.Values.{ComesBy}
use Rattle.shared_store.specs.Shares.{KnowsCut, StandsBehind, StandsFor, IsMadeFrom}
use Rattle.shared_store.specs.Answers.{Notes}
use Rattle.shared_store.proofs.Lists.{entries_in-append, untaken-append, entries_in-added, untaken-added, grown_by, cut_among, added_no_cut, no_cut_before, mark_no_cut, one_cut}
use Rattle.shared_store.proofs.Goes.{Goes, behind_push, comes_moves, placed_after, stands_alike, goes_same, goes_adds, goes_all, all_tail}

knows_still : (start : Kept) (before : List Noted) (cut : CutValue) (was now : Kept) → ((cut : CutValue) → IsCutOf was cut → IsCutOf now cut) → KnowsCut start before cut was → KnowsCut start before cut now
knows_still start before cut was now cuts k = record { made = k.made; own = cuts cut k.own }

module _ (start : Kept) (notes : List Noted) where
  pub goes_stands : (was now : Kept) (es : List Entry) → Goes start (entries_in notes) was now es → StandsFor start notes was → StandsFor start (notes ++ map Added es) now
  goes_stands was now es g s =
      let entries : entries_in (notes ++ map Added es) ≡ entries_in notes ++ es = entries_in-append notes (map Added es) ∙ ap (λ (l : List Entry). entries_in notes ++ l) (entries_in-added es) in
      record {
        stands = subst (λ (l : List Entry). StandsBehind start l now) (sym entries) (g.stands s.stands);
        comes = subst (λ (l : List Entry). ComesBy start l now) (sym entries) (g.comes s.comes);
        tail = g.tail ∙ ap (λ (t : List Entry). t ++ es) s.tail ∙ sym (untaken-append start.tail notes (map Added es) ∙ untaken-added (untaken start.tail notes) es);
        cuts = λ before after cut e. elim (cut_among before after notes (map Added es) cut e) [
          | inl t ↦ knows_still start before cut was now g.cuts (s.cuts before t.0 cut t.1)
          | inr t ↦ absurd (added_no_cut es t.0 after cut t.2)
        ];
      }

  -- by the entries that its tail grew by
  pub grown_stands : (was now : Kept) (es : List Entry) → Goes start (entries_in notes) was now es → StandsFor start notes was → StandsFor start (notes ++ grown was.tail now.tail) now
  grown_stands was now es g s =
      subst (λ (more : List Noted). StandsFor start (notes ++ more) now) (sym (grown_by was.tail es now.tail g.tail)) (goes_stands was now es g s)

pub grown_one : (was now : Kept) (e : Entry) → Adds was e now → grown was.tail now.tail ≡ Added e ∷ []
grown_one was now e a = grown_by was.tail (e ∷ []) now.tail a.moves.tail

pub grown_none : (was now : Kept) → now ≡ was → grown was.tail now.tail ≡ []
grown_none was now same = grown_by was.tail [] now.tail (ap (λ (s : Kept). s.tail) same ∙ sym (append-nil was.tail))

-- a state stands for what it stands for itself
pub still_stands : (state : Kept) → StandsFor state [] state
still_stands state = record {
  stands = λ base added begun. subst (λ (l : List Entry). IsStateOf base l state) (sym (append-nil added)) begun;
  comes = record { image = refl; counts = refl; schedule = refl; ticked = refl };
  tail = refl;
  cuts = λ before after cut e. absurd (no_cut_before before after cut e);
}

-- the same state, where nothing is noted
pub same_stands : (start : Kept) (notes : List Noted) (was now : Kept) → now ≡ was → StandsFor start notes was → StandsFor start (notes ++ []) now
same_stands start notes was now same s =
    subst (λ (l : List Noted). StandsFor start l now) (sym (append-nil notes)) (subst (λ (state : Kept). StandsFor start notes state) (sym same) s)

-- the state with another tail or other claims, where the list says so
mark_stands : (start : Kept) (notes : List Noted) (was : Kept) → StandsFor start notes was → StandsFor start (notes ++ Taken ∷ []) (record was { tail = [] })
mark_stands start notes was s =
    let entries : entries_in (notes ++ Taken ∷ []) ≡ entries_in notes = entries_in-append notes (Taken ∷ []) ∙ append-nil (entries_in notes) in
    record {
      stands = subst (λ (l : List Entry). StandsBehind start l (record was { tail = [] })) (sym entries) (λ base all begun. stands_alike was (record was { tail = [] }) refl refl refl refl refl base (all ++ entries_in notes) (s.stands base all begun));
      comes = subst (λ (l : List Entry). ComesBy start l (record was { tail = [] })) (sym entries) (record { image = s.comes.image; counts = s.comes.counts; schedule = s.comes.schedule; ticked = s.comes.ticked });
      tail = sym (untaken-append start.tail notes (Taken ∷ []));
      cuts = λ before after cut e. elim (cut_among before after notes (Taken ∷ []) cut e) [
        | inl t ↦ knows_still start before cut was (record was { tail = [] }) (λ cut of. known_alike was (record was { tail = [] }) (record { position = omega arith; batches = refl; runs = refl; moment = refl; schedule = refl; ticked = refl; marks = refl }) cut of) (s.cuts before t.0 cut t.1)
        | inr t ↦ absurd (mark_no_cut t.0 after cut t.2)
      ];
    }

-- the state with other claims
pub claims_stand_as : (start : Kept) (notes : List Noted) (was : Kept) (claims : List Bool) → StandsFor start notes was → StandsFor start notes (record was { claims = claims })
claims_stand_as start notes was claims s = record {
  stands = λ base all begun. stands_alike was (record was { claims = claims }) refl refl refl refl refl base (all ++ entries_in notes) (s.stands base all begun);
  comes = record { image = s.comes.image; counts = s.comes.counts; schedule = s.comes.schedule; ticked = s.comes.ticked };
  tail = s.tail;
  cuts = λ before after cut e. knows_still start before cut was (record was { claims = claims }) (known_alike was (record was { claims = claims }) (claims_alike was claims)) (s.cuts before after cut e);
}

claims_stand : (start : Kept) (notes : List Noted) (was now : Kept) (place : Option ℕ) → now ≡ claimed_at was place → StandsFor start notes was → StandsFor start notes now
claims_stand start notes was now None is s = subst (λ (state : Kept). StandsFor start notes state) (sym is) s
claims_stand start notes was now (Some place) is s =
    subst (λ (state : Kept). StandsFor start notes state) (sym is) (claims_stand_as start notes was (set was.claims place true) s)

pub release_stands : (start : Kept) (notes : List Noted) (was now : Kept) (cut : CutValue) → now ≡ released was cut → StandsFor start notes was → StandsFor start (notes ++ []) now
release_stands start notes was now cut is s =
    subst (λ (l : List Noted). StandsFor start l now) (sym (append-nil notes)) (subst (λ (state : Kept). StandsFor start notes state) (sym is) (by_mark (is_some (mark_from was cut.position))))
  where
    by_mark : (b : Bool) → StandsFor start notes (cond b was (record was { claims = set was.claims cut.place false }))
    by_mark true = s
    by_mark false = claims_stand_as start notes was (set was.claims cut.place false) s

-- the cut that a state gives is made from all entries
made_at : (start : Kept) (notes : List Noted) (was : Kept) (place : Option ℕ) (cut : CutValue) → cut_at was place ≡ Some cut → ((base : Restored) (added : List Entry) → IsStateOf base added was → CutStands base added cut) → StandsFor start notes was → IsMadeFrom start (entries_in notes) cut
made_at start notes was None cut is stands s = absurd (cc)
made_at start notes was (Some place) cut is stands s =
    record {
      stands = λ base all begun. stands base (all ++ entries_in notes) (s.stands base all begun);
      position = placed (slice_get was.schedule.queries place) is ∙ ap (λ (c : Counts). c.position) s.comes.counts ∙ placed_after start.counts (entries_in notes);
    }
  where
    placed : (o : Option Scheduled) → option_map (cut_of was place) o ≡ Some cut → cut.position ≡ was.counts.position
    placed None h = absurd (cc)
    placed (Some scheduled) h = let same : cut_of was place scheduled ≡ cut = cc in sym (ap (λ (c : CutValue). c.position) same)

-- a cut that is noted
cut_noted : (start : Kept) (notes : List Noted) (now : Kept) (cut : CutValue) → StandsFor start notes now → IsMadeFrom start (entries_in notes) cut → IsCutOf now cut → StandsFor start (notes ++ Given cut ∷ []) now
cut_noted start notes now cut s made own =
    let entries : entries_in (notes ++ Given cut ∷ []) ≡ entries_in notes = entries_in-append notes (Given cut ∷ []) ∙ append-nil (entries_in notes) in
    record {
      stands = subst (λ (l : List Entry). StandsBehind start l now) (sym entries) s.stands;
      comes = subst (λ (l : List Entry). ComesBy start l now) (sym entries) s.comes;
      tail = s.tail ∙ sym (untaken-append start.tail notes (Given cut ∷ []));
      cuts = λ before after other e. elim (cut_among before after notes (Given cut ∷ []) other e) [
        | inl t ↦ s.cuts before t.0 other t.1
        | inr t ↦
            let one = one_cut t.0 after other cut t.2 in
            let here : before ≡ notes = t.1 ∙ ap (λ (l : List Noted). notes ++ l) one.0 ∙ append-nil notes in
            subst (λ (b : List Noted). KnowsCut start b other now) (sym here) (subst (λ (c : CutValue). KnowsCut start notes c now) one.1 (record { made = made; own = own }))
      ];
    }

-- a cut that was given is one of the state
pub knows_given : (start : Kept) (notes : List Noted) (was : Kept) (cut : CutValue) → WasGiven cut notes → StandsFor start notes was → IsCutOf was cut
knows_given start notes was cut given s = (s.cuts given.0 given.1 cut given.2).own

-- what a turn leaves, by what the call answered
module _ (start : Kept) (notes : List Noted) (was now : Kept) where
  pub by_result : {X Y : Type 0} (result : Result X Y) (e : Entry) → OnOk result (Adds was e now) → OnErr result (now ≡ was) → StandsFor start notes was → StandsFor start (notes ++ grown was.tail now.tail) now
  by_result (Ok x) e added same s = grown_stands start notes was now (e ∷ []) (goes_adds start (entries_in notes) was now e added) s
  by_result (Err y) e added same s = grown_stands start notes was now [] (goes_same start (entries_in notes) was now same) s

  -- an acknowledgement, where one was added
  pub by_done : (result : Result Bool NoMemory) (e : Entry) → IfOk result (λ done. MatchBool done (Adds was e now) (now ≡ was)) → OnErr result (now ≡ was) → StandsFor start notes was → StandsFor start (notes ++ grown was.tail now.tail) now
  by_done (Ok true) e added same s = grown_stands start notes was now (e ∷ []) (goes_adds start (entries_in notes) was now e added) s
  by_done (Ok false) e added same s = grown_stands start notes was now [] (goes_same start (entries_in notes) was now added) s
  by_done (Err y) e added same s = grown_stands start notes was now [] (goes_same start (entries_in notes) was now same) s

  -- expiries
  pub by_all : (result : Result ℕ NoMemory) (es : List Entry) → OnOk result (AddsAll was es now) → OnErr result (now ≡ was) → StandsFor start notes was → StandsFor start (notes ++ grown was.tail now.tail) now
  by_all (Ok n) es added same s = grown_stands start notes was now es (goes_all start (entries_in notes) was now es added) s
  by_all (Err y) es added same s = grown_stands start notes was now [] (goes_same start (entries_in notes) was now same) s

  -- a commit of a cut that was given
  goes_commits : (cut : CutValue) (rows : List (List Value)) → WasGiven cut notes → StandsFor start notes was → Commits was cut rows now → Goes start (entries_in notes) was now (committed was cut rows ∷ [])
  goes_commits cut rows given s c =
      let made = (s.cuts given.0 given.1 cut given.2).made in
      let split : entries_in notes ≡ entries_in given.0 ++ entries_in given.1 = ap entries_in given.2 ∙ entries_in-append given.0 (Given cut ∷ given.1) in
      record {
        tail = c.moves.tail;
        stands = λ stands. behind_push start (entries_in notes) now (committed was cut rows) (λ base all begun.
            let there : all ++ entries_in notes ≡ (all ++ entries_in given.0) ++ entries_in given.1 = ap (λ (l : List Entry). all ++ l) split ∙ sym (append_assoc all (entries_in given.0) (entries_in given.1)) in
            subst (λ (l : List Entry). IsStateOf base (l ++ committed was cut rows ∷ []) now) (sym there)
            (c.stands base (all ++ entries_in given.0) (entries_in given.1) (made.stands base all begun) (subst (λ (l : List Entry). IsStateOf base l was) there (stands base all begun))));
        comes = λ comes. comes_moves start (entries_in notes) was now (committed was cut rows) c.moves comes;
        cuts = c.cuts;
      }

  pub by_commit : (result : Result ℕ CommitRefusal) (cut : CutValue) (rows : List (List Value)) → WasGiven cut notes → OnOk result (Commits was cut rows now) → OnErr result (now ≡ was) → StandsFor start notes was → StandsFor start (notes ++ grown was.tail now.tail) now
  by_commit (Ok n) cut rows given commits same s = grown_stands start notes was now (committed was cut rows ∷ []) (goes_commits cut rows given s commits) s
  by_commit (Err y) cut rows given commits same s = grown_stands start notes was now [] (goes_same start (entries_in notes) was now same) s

  -- a tail that was taken
  pub by_take : (result : Result (List Entry) NoMemory) → OnOk result (now ≡ record was { tail = [] }) → OnErr result (now ≡ was) → StandsFor start notes was → StandsFor start (notes ++ taken_by result) now
  by_take (Ok taken) new same s = subst (λ (state : Kept). StandsFor start (notes ++ Taken ∷ []) state) (sym new) (mark_stands start notes was s)
  by_take (Err y) new same s = same_stands start notes was now same s

  -- a cut that was given
  pub by_cut : (result : Result (Option CutValue) NoMemory) → IfOk result (λ given. given ≡ next_cut was) → OnOk result (now ≡ claimed_at was (next_place was)) → IfOk result (λ given. IfSome given (IsCutOf now)) → IfOk result (λ given. IfSome given (λ cut. (base : Restored) (added : List Entry) → IsStateOf base added was → CutStands base added cut)) → OnErr result (now ≡ was) → StandsFor start notes was → StandsFor start (notes ++ given_by result) now
  by_cut (Ok (Some cut)) is claimed own stands same s =
      cut_noted start notes now cut (claims_stand start notes was now (next_place was) claimed s) (made_at start notes was (next_place was) cut (sym is) stands s) own
  by_cut (Ok None) is claimed own stands same s =
      subst (λ (l : List Noted). StandsFor start l now) (sym (append-nil notes)) (claims_stand start notes was now (next_place was) claimed s)
  by_cut (Err y) is claimed own stands same s = same_stands start notes was now same s

-- what is then noted
module _ (was now : Kept) where
  pub noted_ok : {X Y : Type 0} (result : Result X Y) (e : Entry) → OnOk result (Adds was e now) → OnOk result (Adds was e now × (grown was.tail now.tail ≡ Added e ∷ []))
  noted_ok (Ok x) e added = (added, grown_one was now e added)
  noted_ok (Err y) e added = added

  pub noted_err : {X Y : Type 0} (result : Result X Y) → OnErr result (now ≡ was) → OnErr result ((now ≡ was) × (grown was.tail now.tail ≡ []))
  noted_err (Ok x) same = same
  noted_err (Err y) same = (same, grown_none was now same)

  pub noted_done : (result : Result Bool NoMemory) (e : Entry) → IfOk result (λ done. MatchBool done (Adds was e now) (now ≡ was))
      → IfOk result (λ done. MatchBool done (Adds was e now × (grown was.tail now.tail ≡ Added e ∷ [])) ((now ≡ was) × (grown was.tail now.tail ≡ [])))
  noted_done (Ok true) e added = (added, grown_one was now e added)
  noted_done (Ok false) e same = (same, grown_none was now same)
  noted_done (Err y) e added = added

  pub noted_all : (result : Result ℕ NoMemory) (es : List Entry) → OnOk result (AddsAll was es now) → OnOk result (AddsAll was es now × (grown was.tail now.tail ≡ map Added es))
  noted_all (Ok n) es added = (added, grown_by was.tail es now.tail (all_tail was now es added))
  noted_all (Err y) es added = added

  pub noted_commit : (result : Result ℕ CommitRefusal) (cut : CutValue) (rows : List (List Value)) → OnOk result (Commits was cut rows now) → OnOk result (Commits was cut rows now × (grown was.tail now.tail ≡ Added (committed was cut rows) ∷ []))
  noted_commit (Ok n) cut rows commits = (commits, grown_by was.tail (committed was cut rows ∷ []) now.tail commits.moves.tail)
  noted_commit (Err y) cut rows commits = commits

  pub noted_take : (result : Result (List Entry) NoMemory) → OnOk result (now ≡ record was { tail = [] }) → OnOk result ((now ≡ record was { tail = [] }) × (taken_by result ≡ Taken ∷ []))
  noted_take (Ok taken) new = (new, refl)
  noted_take (Err y) new = new

  pub unmarked : (result : Result (List Entry) NoMemory) → OnErr result (now ≡ was) → OnErr result ((now ≡ was) × (taken_by result ≡ []))
  unmarked (Ok taken) same = same
  unmarked (Err y) same = (same, refl)

  pub ungiven : (result : Result (Option CutValue) NoMemory) → OnErr result (now ≡ was) → OnErr result ((now ≡ was) × (given_by result ≡ []))
  ungiven (Ok given) same = same
  ungiven (Err y) same = (same, refl)

pub noted_cut : (result : Result (Option CutValue) NoMemory) → IfOk result (λ given. Notes given (given_by result))
noted_cut (Ok None) = refl
noted_cut (Ok (Some cut)) = refl
noted_cut (Err y) = tt
