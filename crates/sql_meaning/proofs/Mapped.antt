-- The steps take rows for what they stand for: a step of what was made of rows is what is made of the step of the rows.
use Rattle.std.proofs.Common.{◌≡◌, refl, ap, ap₂, ◌∙◌, Bool, true, false, cond, List, [], ◌∷◌, filter, map, drop, Option, Some, None, ℤ, pos, negsuc}
use Rattle.std.proofs.lemmas.List.{take-map, drop-map}
use Rattle.osq_value.specs.declared.value.Value.{Value}
use Rattle.sql_meaning.specs.Cut.{cut_by, kept_by, passed_over}
use Rattle.sql_meaning.specs.Firsts.{same_values, firsts_by}
use Rattle.sql_meaning.specs.Groups.{groups_by}
use Rattle.sql_meaning.specs.Order.{ordered_by, put_in, sorted_by}
use Rattle.sql_meaning.proofs.FirstsLaws.{differs}
use Rattle.sql_meaning.proofs.OrderLaws.{is_less}

pub map_twice : {X Y Z : Type 0} (f : Y → Z) (g : X → Y) (xs : List X) → map f (map g xs) ≡ map (λ x. f (g x)) xs
map_twice f g [] = refl
map_twice f g (x ∷ xs) = ap (λ (zs : List _). f (g x) ∷ zs) (map_twice f g xs)

pub maps_twice : {X Y Z : Type 0} (f : Y → Z) (g : X → Y) (xss : List (List X)) → map (map f) (map (map g) xss) ≡ map (map (λ x. f (g x))) xss
maps_twice f g [] = refl
maps_twice f g (xs ∷ xss) = ap₂ (λ (zs : List _) (zss : List (List _)). zs ∷ zss) (map_twice f g xs) (maps_twice f g xss)

module _ {X Y : Type 0} (g : X → Y) where
  kept_if : (x : X) (xs : List X) (kept : List Y) → kept ≡ map g xs → (s : Bool) → cond s (g x ∷ kept) kept ≡ map g (cond s (x ∷ xs) xs)
  kept_if x xs kept h true = ap (λ (ys : List Y). g x ∷ ys) h
  kept_if x xs kept h false = h

  pub filter_mapped : (p : Y → Bool) (xs : List X) → filter p (map g xs) ≡ map g (filter (λ x. p (g x)) xs)
  filter_mapped p [] = refl
  filter_mapped p (x ∷ xs) = kept_if x (filter (λ y. p (g y)) xs) (filter p (map g xs)) (filter_mapped p xs) (p (g x))

  pub firsts_mapped : (key : Y → List Value) (xs : List X) → firsts_by key (map g xs) ≡ map g (firsts_by (λ x. key (g x)) xs)
  firsts_mapped key [] = refl
  firsts_mapped key (x ∷ xs) =
      ap (λ (ys : List Y). g x ∷ filter (differs key (g x)) ys) (firsts_mapped key xs)
      ∙ ap (λ (ys : List Y). g x ∷ ys) (filter_mapped (differs key (g x)) (firsts_by (λ y. key (g y)) xs))

  lists_mapped : (key : Y → List Value) (xs firsts : List X)
      → map (λ first. filter (λ y. same_values (key first) (key y)) (map g xs)) (map g firsts) ≡ map (map g) (map (λ first. filter (λ x. same_values (key (g first)) (key (g x))) xs) firsts)
  lists_mapped key xs [] = refl
  lists_mapped key xs (first ∷ firsts) =
      ap₂ (λ (ys : List Y) (yss : List (List Y)). ys ∷ yss) (filter_mapped (λ y. same_values (key (g first)) (key y)) xs) (lists_mapped key xs firsts)

  pub groups_mapped : (key : Y → List Value) (xs : List X) → groups_by key (map g xs) ≡ map (map g) (groups_by (λ x. key (g x)) xs)
  groups_mapped key xs =
      ap (map (λ first. filter (λ y. same_values (key first) (key y)) (map g xs))) (firsts_mapped key xs)
      ∙ lists_mapped key xs (firsts_by (λ x. key (g x)) xs)

  module _ (less : Y → Y → Bool) where
    put_if : (x y : X) (xs : List X) (ys : List Y) → ys ≡ map g (put_in (λ a b. less (g a) (g b)) x xs) → (s : Bool)
        → cond s (g y ∷ ys) (g x ∷ g y ∷ map g xs) ≡ map g (cond s (y ∷ put_in (λ a b. less (g a) (g b)) x xs) (x ∷ y ∷ xs))
    put_if x y xs ys h true = ap (λ (zs : List Y). g y ∷ zs) h
    put_if x y xs ys h false = refl

    put_mapped : (x : X) (xs : List X) → put_in less (g x) (map g xs) ≡ map g (put_in (λ a b. less (g a) (g b)) x xs)
    put_mapped x [] = refl
    put_mapped x (y ∷ ys) = put_if x y ys (put_in less (g x) (map g ys)) (put_mapped x ys) (less (g y) (g x))

    sorted_mapped : (xs : List X) → sorted_by less (map g xs) ≡ map g (sorted_by (λ a b. less (g a) (g b)) xs)
    sorted_mapped [] = refl
    sorted_mapped (x ∷ xs) = ap (put_in less (g x)) (sorted_mapped xs) ∙ put_mapped x (sorted_by (λ a b. less (g a) (g b)) xs)

  pub ordered_mapped : (key : Y → List Value) (descending : List Bool) (xs : List X) → ordered_by key descending (map g xs) ≡ map g (ordered_by (λ x. key (g x)) descending xs)
  ordered_mapped key descending xs = sorted_mapped (is_less key descending) xs

  kept_mapped : (limit : Option ℤ) (xs : List X) → kept_by limit (map g xs) ≡ map g (kept_by limit xs)
  kept_mapped None xs = refl
  kept_mapped (Some (pos n)) xs = take-map g n xs
  kept_mapped (Some (negsuc n)) xs = refl

  pub cut_mapped : (limit skip : Option ℤ) (xs : List X) → cut_by limit skip (map g xs) ≡ map g (cut_by limit skip xs)
  cut_mapped limit skip xs = ap (λ (ys : List Y). kept_by limit ys) (drop-map g (passed_over skip) xs) ∙ kept_mapped limit (drop (passed_over skip) xs)
