-- A call of a store is one turn.
use Rattle.std.proofs.Common.{◌≡◌, ℕ, List, [], ◌∷◌, ◌++◌, Option, Some, None, Result, Ok, Err, refl, sym, ap, ◌∙◌, subst, append_assoc}
use Rattle.std.specs.Prelude.{IfOk, IfSome}
use mathlib.Core.List.{map-append}
use Rattle.osq_value.specs.declared.memory.NoMemory.{NoMemory}
use Rattle.entry_model.specs.declared.entry.Entry.{Entry}
use Rattle.session_state.specs.Kept.{Kept}
use Rattle.session_state.specs.Cut.{CutValue}
use Rattle.turn_lock.specs.declared.board.Stands.{Ghosts}
use Rattle.turn_lock.specs.declared.lock.TurnSeat.{TurnSeat}
use Rattle.turn_lock.specs.Turns.{Grows, entries, stamp}
use Rattle.turn_lock.specs.Words.{number, seen, IsOther, IsSame, Overhears}
use Rattle.turn_lock.proofs.Lists.{entries-stamp}
use Rattle.shared_store.specs.declared.noted.Noted.{Noted}
use Rattle.shared_store.specs.declared.noted.Noted.TheVariants.{Given}
use Rattle.shared_store.specs.Notes.{entries_in, WasGiven, given_by, grown}
use Rattle.shared_store.specs.Shares.{StandsFor, IsMadeFrom, IsNoOlder}
use Rattle.shared_store.specs.Turns.{notes_of, EndsTurn}
use Rattle.shared_store.proofs.Lists.{entries_in-append}

-- what was given stays given
pub given_more : (cut : CutValue) (notes more : List Noted) → WasGiven cut notes → WasGiven cut (notes ++ more)
given_more cut notes more is =
    (is.0, is.1 ++ more, ap (λ (l : List Noted). l ++ more) is.2 ∙ append_assoc is.0 (Given cut ∷ is.1) more)

entries-grows : (P : ℕ → Type 0) (xs ys : List (ℕ × Noted)) → Grows P xs ys → (more : List Noted) × (entries ys ≡ entries xs ++ more)
entries-grows P xs ys grows = (entries grows.0, ap (λ (l : List (ℕ × Noted)). entries l) grows.1 ∙ map-append (λ (x : ℕ × Noted). x.1) xs grows.0)

pub given_grows : (cut : CutValue) (P : ℕ → Type 0) (xs ys : List (ℕ × Noted)) → Grows P xs ys → WasGiven cut (entries xs) → WasGiven cut (entries ys)
given_grows cut P xs ys grows is =
    let more = entries-grows P xs ys grows in
    subst (WasGiven cut) (sym more.1) (given_more cut (entries xs) more.0 is)

no_older_by : (start : Kept) (cut : CutValue) (P : ℕ → Type 0) (xs ys : List (ℕ × Noted)) → Grows P xs ys → IsMadeFrom start (entries_in (entries ys)) cut → IsNoOlder start (entries xs) cut
no_older_by start cut P xs ys grows made =
    let more = entries-grows P xs ys grows in
    let all : entries_in (entries ys) ≡ entries_in (entries xs) ++ entries_in more.0 = ap entries_in more.1 ∙ entries_in-append (entries xs) more.0 in
    (entries_in more.0, subst (λ (es : List Entry). IsMadeFrom start es cut) all made)

-- by the tail of a state like the one that was
pub grown_like : (start : Kept) (notes : List Noted) (was like now : Kept) → like ≡ was → StandsFor start (notes ++ grown was.tail now.tail) now → StandsFor start (notes ++ grown like.tail now.tail) now
grown_like start notes was like now same stands =
    subst (λ (s : Kept). StandsFor start (notes ++ grown s.tail now.tail) now) (sym same) stands

pub ends_like : {T : Type 0} {g : Ghosts T Kept Noted} (start : Kept) (mid new : TurnSeat T Kept Noted g) (was like now : Kept) → like ≡ was → IsSame mid new → seen new ≡ seen mid ++ stamp (number mid) (grown like.tail now.tail) → StandsFor start (notes_of mid ++ grown was.tail now.tail) now → EndsTurn start mid new now (grown was.tail now.tail)
ends_like start mid new was like now same seat sees stands = record {
  same = seat;
  stands = stands;
  sees = sees ∙ ap (λ (s : Kept). seen mid ++ stamp (number mid) (grown s.tail now.tail)) same;
}

-- by what a snapshot says of the result
pub stands_said : {X : Type 0} (notes_by : X → List Noted) (start : Kept) (notes : List Noted) (now : Kept) (said result : X) → said ≡ result → StandsFor start (notes ++ notes_by result) now → StandsFor start (notes ++ notes_by said) now
stands_said notes_by start notes now said result same stands =
    let P = λ (x : _). StandsFor start (notes ++ notes_by x) now in subst P (sym same) stands

pub ends_said : {T X : Type 0} {g : Ghosts T Kept Noted} (notes_by : X → List Noted) (start : Kept) (mid new : TurnSeat T Kept Noted g) (now : Kept) (said result : X) → said ≡ result → IsSame mid new → seen new ≡ seen mid ++ stamp (number mid) (notes_by said) → StandsFor start (notes_of mid ++ notes_by result) now → EndsTurn start mid new now (notes_by result)
ends_said notes_by start mid new now said result same seat sees stands = record {
  same = seat;
  stands = stands;
  sees = sees ∙ ap (λ (x : _). seen mid ++ stamp (number mid) (notes_by x)) same;
}

module _ {T : Type 0} {g : Ghosts T Kept Noted} (start : Kept) (old mid new : TurnSeat T Kept Noted g) where
  -- the cut of a turn is given in it, and is no older than what the seat had seen
  gives : (now : Kept) (result : Result (Option CutValue) NoMemory) → seen new ≡ seen mid ++ stamp (number mid) (given_by result) → IfOk result (λ given. IfSome given (λ cut. WasGiven cut (notes_of new)))
  gives now (Ok None) sees = tt
  gives now (Ok (Some cut)) sees = (notes_of mid, [], ap (λ (l : List (ℕ × Noted)). entries l) sees ∙ entries-stamp (seen mid) (number mid) (Given cut ∷ []))
  gives now (Err y) sees = tt

  pub gives_said : (now : Kept) (said result : Result (Option CutValue) NoMemory) → said ≡ result → seen new ≡ seen mid ++ stamp (number mid) (given_by said) → IfOk result (λ given. IfSome given (λ cut. WasGiven cut (notes_of new)))
  gives_said now said result same sees =
      gives now result (sees ∙ ap (λ (x : Result (Option CutValue) NoMemory). seen mid ++ stamp (number mid) (given_by x)) same)

  pub gives_no_older : (now : Kept) (result : Result (Option CutValue) NoMemory) → Overhears old mid → StandsFor start (notes_of mid ++ given_by result) now → IfOk result (λ given. IfSome given (IsNoOlder start (notes_of old)))
  gives_no_older now (Ok None) overhears left = tt
  gives_no_older now (Ok (Some cut)) overhears left =
      no_older_by start cut (IsOther old) (seen old) (seen mid) overhears (left.cuts (notes_of mid) [] cut refl).made
  gives_no_older now (Err y) overhears left = tt
