-- The statements of a seal, one after another.
use Rattle.std.proofs.Common.{◌≡◌, ℕ, ◌+◌, ◌<◌, Bool, true, nat_eq, Option, None, Some, Ok, List, [], ◌∷◌, length, drop, get_or, refl, sym, ap, ◌∙◌, subst, arith}
use Rattle.std.specs.Option.{ok_or}
use Rattle.std.proofs.Math.Dec.{eqb-suc-zero}
use Rattle.std.proofs.lemmas.Bool.{true≢false}
use Rattle.std.proofs.lemmas.List.{drop_more}
use Rattle.sqlite_trees.specs.declared.store.Store.{Ghosts}
use Rattle.sqlite.specs.Held.{Held}
use Rattle.sqlite.specs.State.{State, HasCleanDisk}
use Rattle.kept_tables.specs.declared.changes.Change.{Change}
use Rattle.keeper_sqlite.specs.Commits.{CommitsNothing}
use Rattle.keeper_sqlite.specs.Asking.{AreMade, IsMade}

-- a disk that has failed nowhere had failed nowhere before
pub clean_before : (old new : State) → CommitsNothing old new → HasCleanDisk new → HasCleanDisk old
clean_before old new nothing clean =
    let doubts = nothing.clean in
    omega (arith, doubts, clean)

-- one change more was made
pub made_on : {S : Type 0} (g : Ghosts S) (changes items : List Change) (at : ℕ) (change : Change) (first old new : Held S) → items ≡ changes → at < length items → change ≡ get_or items at change → IsMade g change old new
    → ((end : Held S) → AreMade g (drop at changes) old end → AreMade g changes first end) → (end : Held S) → AreMade g (drop (at + 1) changes) new end → AreMade g changes first end
made_on g changes items at change first old new same within is made earlier end rest =
    let here : at < length changes = subst (λ (cs : List Change). at < length cs) same within in
    let left = drop_more changes at change here ∙ ap (λ (c : Change). c ∷ drop (at + 1) changes) (sym (is ∙ ap (λ (cs : List Change). get_or cs at change) same)) in
    earlier end (subst (λ (cs : List Change). AreMade g cs old end) (sym left) (new, made, rest))

-- a list that is told to be empty
pub none_of : {X : Type 0} (xs : List X) (told : Bool) → told ≡ nat_eq (length xs) 0 → told ≡ true → xs ≡ []
none_of [] told is so = refl
none_of (x ∷ xs) told is so = absurd (true≢false (sym so ∙ is ∙ eqb-suc-zero (length xs)))

-- what is read is what was shown
pub counted_of : {X E : Type 0} (shown : Option X) (fault : E) (read : X) → ok_or shown fault ≡ Ok read → shown ≡ Some read
counted_of None fault read is = cc
counted_of (Some other) fault read is =
    let same : other ≡ read = cc in
    ap Some same
