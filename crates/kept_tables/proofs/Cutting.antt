-- Lists that are cut into groups, and facts of each item of a list.
use Rattle.std.proofs.Common.{◌≡◌, Bool, true, false, cond, List, [], ◌∷◌, ◌++◌, map, refl, sym, ap, ◌∙◌, append_assoc}
use Rattle.std.specs.Prelude.{filter, fold, ◌&&◌}
use Rattle.std.specs.List.{AllByRecursion}
use Rattle.std.proofs.lemmas.List.{append-nil}
use Rattle.std.proofs.lemmas.List.Concat.{flat_map-append}
use Rattle.kept_tables.specs.Groups.{Grouped, with_item, some_group, all_groups, no_groups, groups, joined}

module _ {X : Type 0} (is_full : List X → Bool) where
  some_is : (xs : List X) → joined (some_group xs) ≡ xs
  some_is [] = refl
  some_is (x ∷ xs) = append-nil (x ∷ xs)

  one_by : (b : Bool) (held : Grouped X) (x : X)
      → let room = cond b (record { full = held.full ++ held.growing ∷ []; growing = [] }) held in
      joined room.full ++ (room.growing ++ x ∷ []) ≡ (joined held.full ++ held.growing) ++ x ∷ []
  one_by true held x =
      ap (λ ys. ys ++ x ∷ []) (flat_map-append (λ (xs : List X). xs) held.full (held.growing ∷ []) ∙ ap (λ ys. joined held.full ++ ys) (append-nil held.growing))
  one_by false held x = sym (append_assoc (joined held.full) held.growing (x ∷ []))

  go : (held : Grouped X) (xs : List X) → joined (all_groups (fold (with_item is_full) held xs)) ≡ (joined held.full ++ held.growing) ++ xs
  go held [] =
      flat_map-append (λ (xs : List X). xs) held.full (some_group held.growing) ∙ ap (λ ys. joined held.full ++ ys) (some_is held.growing) ∙ sym (append-nil (joined held.full ++ held.growing))
  go held (x ∷ xs) = go (with_item is_full held x) xs ∙ ap (λ ys. ys ++ xs) (one_by (is_full held.growing) held x) ∙ append_assoc (joined held.full ++ held.growing) (x ∷ []) xs

  -- the groups hold each item once, in order
  pub groups_join : (xs : List X) → joined (groups is_full xs) ≡ xs
  groups_join xs = go no_groups xs

module _ {X : Type 0} (P : X → Type 0) where
  pub all_front : (xs ys : List X) → AllByRecursion P (xs ++ ys) → AllByRecursion P xs
  all_front [] ys h = tt
  all_front (x ∷ xs) ys h = (h.0, all_front xs ys h.1)

  pub all_back : (xs ys : List X) → AllByRecursion P (xs ++ ys) → AllByRecursion P ys
  all_back [] ys h = h
  all_back (x ∷ xs) ys h = all_back xs ys h.1

  pub all_both : (xs ys : List X) → AllByRecursion P xs → AllByRecursion P ys → AllByRecursion P (xs ++ ys)
  all_both [] ys h k = k
  all_both (x ∷ xs) ys h k = (h.0, all_both xs ys h.1 k)

  pub all_groups_hold : (gs : List (List X)) → AllByRecursion P (joined gs) → AllByRecursion (AllByRecursion P) gs
  all_groups_hold [] h = tt
  all_groups_hold (g ∷ gs) h = (all_front g (joined gs) h, all_groups_hold gs (all_back g (joined gs) h))

  either : (b : Bool) (x : X) (xs : List X) → P x → AllByRecursion P xs → AllByRecursion P (cond b (x ∷ xs) xs)
  either true x xs h k = (h, k)
  either false x xs h k = k

  pub all_kept : (test : X → Bool) (xs : List X) → AllByRecursion P xs → AllByRecursion P (filter test xs)
  all_kept test [] h = tt
  all_kept test (x ∷ xs) h = either (test x) x (filter test xs) h.0 (all_kept test xs h.1)

pub all_mapped : {X Y : Type 0} (P : Y → Type 0) (f : X → Y) (xs : List X) → AllByRecursion (λ (x : X). P (f x)) xs → AllByRecursion P (map f xs)
all_mapped P f [] h = tt
all_mapped P f (x ∷ xs) h = (h.0, all_mapped P f xs h.1)

pub all_weaker : {X : Type 0} (P Q : X → Type 0) → ((x : X) → P x → Q x) → (xs : List X) → AllByRecursion P xs → AllByRecursion Q xs
all_weaker P Q w [] h = tt
all_weaker P Q w (x ∷ xs) h = (w x h.0, all_weaker P Q w xs h.1)

and_turned : (a b : Bool) → (a && b) ≡ (b && a)
and_turned true true = refl
and_turned true false = refl
and_turned false true = refl
and_turned false false = refl

module _ {X : Type 0} where
  -- what passes r passes q and p
  pub filter_both : (p q r : X → Bool) → ((x : X) → r x ≡ (q x && p x)) → (xs : List X) → filter r xs ≡ filter p (filter q xs)
  filter_both p q r h [] = refl
  filter_both p q r h (x ∷ xs) = by_first (q x) refl (filter_both p q r h xs)
    where
      by_first : (b : Bool) → q x ≡ b → filter r xs ≡ filter p (filter q xs) → cond (r x) (x ∷ filter r xs) (filter r xs) ≡ filter p (cond (q x) (x ∷ filter q xs) (filter q xs))
      by_first true is ih =
          let here : r x ≡ p x = h x ∙ ap (λ (b : Bool). b && p x) is in
          ap (λ (b : Bool). cond b (x ∷ filter r xs) (filter r xs)) here ∙ ap (λ (ys : List X). cond (p x) (x ∷ ys) ys) ih ∙ ap (λ (b : Bool). filter p (cond b (x ∷ filter q xs) (filter q xs))) (sym is)
      by_first false is ih =
          let here : r x ≡ false = h x ∙ ap (λ (b : Bool). b && p x) is in
          ap (λ (b : Bool). cond b (x ∷ filter r xs) (filter r xs)) here ∙ ih ∙ ap (λ (b : Bool). filter p (cond b (x ∷ filter q xs) (filter q xs))) (sym is)

  pub filter_turned : (p q : X → Bool) (xs : List X) → filter p (filter q xs) ≡ filter q (filter p xs)
  filter_turned p q xs =
      sym (filter_both p q (λ (x : X). q x && p x) (λ x. refl) xs) ∙ filter_both q p (λ (x : X). q x && p x) (λ x. and_turned (q x) (p x)) xs

  pub filter_all : (p : X → Bool) (xs : List X) → AllByRecursion (λ (x : X). p x ≡ true) xs → filter p xs ≡ xs
  filter_all p [] h = refl
  filter_all p (x ∷ xs) h = ap (λ (b : Bool). cond b (x ∷ filter p xs) (filter p xs)) h.0 ∙ ap (λ (ys : List X). x ∷ ys) (filter_all p xs h.1)

  pub filter_none : (p : X → Bool) (xs : List X) → AllByRecursion (λ (x : X). p x ≡ false) xs → filter p xs ≡ []
  filter_none p [] h = refl
  filter_none p (x ∷ xs) h = ap (λ (b : Bool). cond b (x ∷ filter p xs) (filter p xs)) h.0 ∙ filter_none p xs h.1

  pub filter_passed : (p : X → Bool) (xs : List X) → AllByRecursion (λ (x : X). p x ≡ true) (filter p xs)
  filter_passed p [] = tt
  filter_passed p (x ∷ xs) = by (p x) refl (filter_passed p xs)
    where
      by : (b : Bool) → p x ≡ b → AllByRecursion (λ (y : X). p y ≡ true) (filter p xs) → AllByRecursion (λ (y : X). p y ≡ true) (cond b (x ∷ filter p xs) (filter p xs))
      by true is rest = (is, rest)
      by false is rest = rest
