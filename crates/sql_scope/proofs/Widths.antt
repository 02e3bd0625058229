-- The tables of FROM, one after another, and that the places of their columns are narrow.
use Rattle.std.proofs.Common.{◌≡◌, ℕ, ◌+◌, ◌<◌, ◌∙◌, ap, refl, append_assoc, ◌++◌, List, [], ◌∷◌, length, arith, suc, zero, take, get_or, sym, subst}
use Rattle.sql_scope.specs.declared.scope.Seen.{Seen}
use Rattle.sql_tree.specs.Select.{RefTree}
use Rattle.sql_query.specs.declared.derived.Derived.{Derived}
use Rattle.sql_scope.specs.Scope.{columns_seen, seen_at, scope_from, IsNarrow, AreNarrow}

pub scope_next : (derived : List Derived) (text : List ℕ) (before new : List Seen) (source at behind : ℕ) (seen : Seen) (ref : RefTree) (refs : List RefTree) → seen ≡ seen_at derived text source at ref → behind ≡ seen.at + length seen.columns → new ≡ before ++ seen ∷ [] → new ++ scope_from derived text (source + 1) behind refs ≡ before ++ scope_from derived text source at (ref ∷ refs)
scope_next derived text before new source at behind seen ref refs made behind-is pushed =
    let place : behind ≡ at + length (columns_seen derived text ref) = behind-is ∙ ap (λ (s : Seen). s.at + length s.columns) made in
    let all : new ≡ before ++ seen_at derived text source at ref ∷ [] = pushed ∙ ap (λ (s : Seen). before ++ s ∷ []) made in rw (all, place, append_assoc) refl

pub narrow_push : (scope : List Seen) (seen : Seen) → AreNarrow scope → IsNarrow seen → AreNarrow (scope ++ seen ∷ [])
narrow_push [] seen narrow here = (here, tt)
narrow_push (first ∷ scope) seen narrow here = (narrow.0, narrow_push scope seen narrow.1 here)

pub narrow_take : (scope : List Seen) (n : ℕ) → AreNarrow scope → AreNarrow (take n scope)
narrow_take [] zero narrow = tt
narrow_take [] (suc n) narrow = tt
narrow_take (seen ∷ scope) zero narrow = tt
narrow_take (seen ∷ scope) (suc n) narrow = (narrow.0, narrow_take scope n narrow.1)

pub narrow_at : (scope : List Seen) (n : ℕ) (seen : Seen) → AreNarrow scope → n < length scope → seen ≡ get_or scope n seen → IsNarrow seen
narrow_at [] n seen narrow within at = absurd (omega arith)
narrow_at (first ∷ scope) zero seen narrow within at = subst IsNarrow (sym at) narrow.0
narrow_at (first ∷ scope) (suc n) seen narrow within at = narrow_at scope n seen narrow.1 (omega arith) at
