-- A walk over a list that compares each thing with those behind it.
use Rattle.std.proofs.Common.{◌≡◌, ◌↔◌, ℕ, ◌+◌, ◌-◌, ◌<◌, Bool, false, List, length, get_or, take, drop, sym, ap, ◌∙◌, subst}
use Rattle.std.specs.List.{list_any}
use Rattle.std.proofs.lemmas.List.{drop_more, take_rest}
use Rattle.entry_model.specs.Fits.{IsDistinct}

-- a thing that is like none of those behind it
pub apart : {X : Type 0} (same : X → X → Bool) (xs : List X) (i : ℕ) (d : X) → i < length xs → (IsDistinct same (drop i xs) ↔ IsDistinct same xs) → false ≡ list_any (λ y. same y (get_or xs i d)) (take (length xs - (i + 1)) (drop (i + 1) xs)) → IsDistinct same (drop (i + 1) xs) ↔ IsDistinct same xs
apart {X} same xs i d lt so_far none = (
  λ rest. so_far.0 (subst (IsDistinct same) (sym (drop_more xs i d lt)) (alone, rest)),
  λ whole. (subst (IsDistinct same) (drop_more xs i d lt) (so_far.1 whole)).1,
)
  where
    alone : list_any (λ y. same y (get_or xs i d)) (drop (i + 1) xs) ≡ false
    alone = ap (list_any (λ y. same y (get_or xs i d))) (sym (take_rest xs (i + 1))) ∙ sym none
