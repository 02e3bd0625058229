-- Lists that grow, sums over views, and a view that changes among the others.
use Rattle.std.proofs.Common.{◌≡◌, ◌≢◌, ℕ, zero, suc, ◌+◌, ◌≤◌, ◌⊎◌, inl, inr, List, [], ◌∷◌, ◌++◌, length, get_or, set, All, refl, sym, ap, ◌∙◌, subst, arith, append_assoc, append-nil, length-append, drop_of_length-le}
use Rattle.std.proofs.Math.Seq.{drop-append_seam}
use Rattle.std.proofs.lemmas.List.Elements.{All-append, All-cons, All-nil}
use mathlib.Core.Option.{some, some-injective, some-ne-none}
use mathlib.Core.List.{map-append}
use lib.ListN.{get_elem?}
use Rattle.atomic_table.specs.Table.{rest}
use Rattle.turn_lock.specs.Turns.{Grows, entries, longer, stamp, total}

module _ {X : Type 0} where
  pub all_head : (P : X → Type 0) (x : X) (xs : List X) → All P (x ∷ xs) → P x
  all_head P x xs a = a zero x (omega arith)

  pub all_tail : (P : X → Type 0) (x : X) (xs : List X) → All P (x ∷ xs) → All P xs
  all_tail P x xs a = λ k d h. a (suc k) d (omega arith)

  pub all_left : (P : X → Type 0) (xs ys : List X) → All P (xs ++ ys) → All P xs
  all_left P [] ys a = All-nil P
  all_left P (x ∷ xs) ys a = All-cons P x xs (all_head P x (xs ++ ys) a) (all_left P xs ys (all_tail P x (xs ++ ys) a))

  pub all_right : (P : X → Type 0) (xs ys : List X) → All P (xs ++ ys) → All P ys
  all_right P [] ys a = a
  all_right P (x ∷ xs) ys a = all_right P xs ys (all_tail P x (xs ++ ys) a)

  pub all_more : (P Q : X → Type 0) (xs : List X) → ((x : X) → P x → Q x) → All P xs → All Q xs
  all_more P Q xs f a = λ k d h. f (get_or xs k d) (a k d h)

  -- of two beginnings of one list, the second is the first and more, or the other way round
  pub two_fronts : (xs ys r q : List X) → xs ++ r ≡ ys ++ q → ((m : List X) × (ys ≡ xs ++ m) × (r ≡ m ++ q)) ⊎ ((m : List X) × (xs ≡ ys ++ m) × (q ≡ m ++ r))
  two_fronts [] ys r q e = inl (ys, refl, e)
  two_fronts (x ∷ xs) [] r q e = inr (x ∷ xs, refl, sym e)
  two_fronts (x ∷ xs) (y ∷ ys) r q e =
      let heads : x ≡ y = cc in
      let tails : xs ++ r ≡ ys ++ q = cc in
      elim (two_fronts xs ys r q tails) [ inl t ↦ inl (t.0, cc (heads, t.1), t.2) | inr t ↦ inr (t.0, cc (heads, t.1), t.2) ]

  pub longer_further : (xs m : List X) → longer xs (xs ++ m) ≡ xs ++ m
  longer_further xs m = ap (λ z. xs ++ z) (drop-append_seam xs m)

  pub longer_behind : (ys m : List X) → longer (ys ++ m) ys ≡ ys ++ m
  longer_behind ys m =
      let short : length ys ≤ length (ys ++ m) = omega (arith, length-append ys m) in
      ap (λ z. (ys ++ m) ++ z) (drop_of_length-le ys {i = length (ys ++ m)} short) ∙ append-nil (ys ++ m)

  pub longer_one : (xs ys all r q : List X) → all ≡ xs ++ r → all ≡ ys ++ q → (longer xs ys ≡ xs) ⊎ (longer xs ys ≡ ys)
  longer_one xs ys all r q e h = elim (two_fronts xs ys r q (sym e ∙ h)) [
    | inl t ↦ inr (subst (λ (z : List X). longer xs z ≡ z) (sym t.1) (longer_further xs t.0))
    | inr t ↦ inl (subst (λ (z : List X). longer z ys ≡ z) (sym t.1) (longer_behind ys t.0))
  ]

  pub at_end : (l : List X) (a b : X) (j : ℕ) → get_elem? (l ++ a ∷ []) j ≡ some b → (get_elem? l j ≡ some b) ⊎ ((j ≡ length l) × (a ≡ b))
  at_end [] a b zero e = inr (refl, some-injective a b e)
  at_end [] a b (suc j) e = absurd (some-ne-none b (sym e))
  at_end (x ∷ xs) a b zero e = inl e
  at_end (x ∷ xs) a b (suc j) e = elim (at_end xs a b j e) [ inl t ↦ inl t | inr t ↦ inr (omega (arith, t.0), t.1) ]

  pub set_there : (l : List X) (i : ℕ) (a b : X) → get_elem? l i ≡ some a → get_elem? (set l i b) i ≡ some b
  set_there [] i a b e = absurd (some-ne-none a (sym e))
  set_there (x ∷ xs) zero a b e = refl
  set_there (x ∷ xs) (suc i) a b e = set_there xs i a b e

  -- ---- sums
  pub total_set : (f : X → ℕ) (l : List X) (i : ℕ) (v w : X) → get_elem? l i ≡ some v → total f (set l i w) + f v ≡ total f l + f w
  total_set f [] i v w e = absurd (some-ne-none v (sym e))
  total_set f (x ∷ xs) zero v w e = let same : f x ≡ f v = ap f (some-injective x v e) in omega arith
  total_set f (x ∷ xs) (suc i) v w e = let more = total_set f xs i v w e in omega arith

  pub total_snoc : (f : X → ℕ) (l : List X) (w : X) → total f (l ++ w ∷ []) ≡ total f l + f w
  total_snoc f [] w = omega arith
  total_snoc f (x ∷ xs) w = let more = total_snoc f xs w in omega arith

  pub total_le : (f g : X → ℕ) → ((x : X) → f x ≤ g x) → (l : List X) → total f l ≤ total g l
  total_le f g le [] = omega arith
  total_le f g le (x ∷ xs) = let here = le x in let more = total_le f g le xs in omega arith

  pub total_one : (f : X → ℕ) (l : List X) (i : ℕ) (v : X) → get_elem? l i ≡ some v → f v ≤ total f l
  total_one f [] i v e = absurd (some-ne-none v (sym e))
  total_one f (x ∷ xs) zero v e = let same : f x ≡ f v = ap f (some-injective x v e) in omega arith
  total_one f (x ∷ xs) (suc i) v e = let more = total_one f xs i v e in omega arith

  pub total_two : (f : X → ℕ) (l : List X) (i j : ℕ) (v w : X) → i ≢ j → get_elem? l i ≡ some v → get_elem? l j ≡ some w → f v + f w ≤ total f l
  total_two f [] i j v w apart e h = absurd (some-ne-none v (sym e))
  total_two f (x ∷ xs) zero zero v w apart e h = absurd (apart refl)
  total_two f (x ∷ xs) zero (suc j) v w apart e h =
      let same : f x ≡ f v = ap f (some-injective x v e) in let more = total_one f xs j w h in omega arith
  total_two f (x ∷ xs) (suc i) zero v w apart e h =
      let same : f x ≡ f w = ap f (some-injective x w h) in let more = total_one f xs i v e in omega arith
  total_two f (x ∷ xs) (suc i) (suc j) v w apart e h =
      let more = total_two f xs i j v w (λ q. apart (ap suc q)) e h in omega arith

  -- two places with different elements differ
  pub apart_at : (l : List X) (i j : ℕ) (v w : X) → get_elem? l i ≡ some v → get_elem? l j ≡ some w → (v ≢ w) → i ≢ j
  apart_at l i j v w e h differ q = differ (some-injective v w (sym e ∙ (ap (λ (k : ℕ). get_elem? l k) q ∙ h)))

module _ {E : Type 0} (P : ℕ → Type 0) where
  pub grows_none : (xs : List (ℕ × E)) → Grows P xs xs
  grows_none xs = ([], sym (append-nil xs), All-nil (λ (x : ℕ × E). P x.0))

  pub grows_more : (xs ys zs : List (ℕ × E)) → Grows P xs ys → All (λ x. P x.0) zs → Grows P xs (ys ++ zs)
  grows_more xs ys zs g h = (g.0 ++ zs, ap (λ w. w ++ zs) g.1 ∙ append_assoc xs g.0 zs, All-append (λ (x : ℕ × E). P x.0) g.0 zs g.2 h)

  pub grows_weaker : (Q : ℕ → Type 0) → ((n : ℕ) → P n → Q n) → (xs ys : List (ℕ × E)) → Grows P xs ys → Grows Q xs ys
  grows_weaker Q f xs ys g = (g.0, g.1, all_more (λ (x : ℕ × E). P x.0) (λ x. Q x.0) g.0 (λ x. f x.0) g.2)

  -- two beginnings of one list, and the longer of them
  pub grows_longer : (Q : ℕ → Type 0) (xs ys all : List (ℕ × E)) → Grows P xs all → Grows Q ys all
      → Grows (λ n. P n × Q n) (longer xs ys) all × Grows P xs (longer xs ys) × Grows Q ys (longer xs ys)
  grows_longer Q xs ys all g h = elim (two_fronts xs ys g.0 h.0 (sym g.1 ∙ h.1)) [
    | inl t ↦
        let long : longer xs ys ≡ ys = subst (λ (z : List (ℕ × E)). longer xs z ≡ z) (sym t.1) (longer_further xs t.0) in
        let rest : All (λ (x : ℕ × E). P x.0) (t.0 ++ h.0) = subst (λ (z : List (ℕ × E)). All (λ x. P x.0) z) t.2 g.2 in
        let own = all_right (λ (x : ℕ × E). P x.0) t.0 h.0 rest in (
          subst (λ (z : List (ℕ × E)). Grows (λ n. P n × Q n) z all) (sym long) (h.0, h.1, λ k d l. (own k d l, h.2 k d l)),
          subst (λ (z : List (ℕ × E)). Grows P xs z) (sym long) (t.0, t.1, all_left (λ (x : ℕ × E). P x.0) t.0 h.0 rest),
          subst (λ (z : List (ℕ × E)). Grows Q ys z) (sym long) ([], sym (append-nil ys), All-nil (λ (x : ℕ × E). Q x.0)),
        )
    | inr t ↦
        let long : longer xs ys ≡ xs = subst (λ (z : List (ℕ × E)). longer z ys ≡ z) (sym t.1) (longer_behind ys t.0) in
        let rest : All (λ (x : ℕ × E). Q x.0) (t.0 ++ g.0) = subst (λ (z : List (ℕ × E)). All (λ x. Q x.0) z) t.2 h.2 in
        let theirs = all_right (λ (x : ℕ × E). Q x.0) t.0 g.0 rest in (
          subst (λ (z : List (ℕ × E)). Grows (λ n. P n × Q n) z all) (sym long) (g.0, g.1, λ k d l. (g.2 k d l, theirs k d l)),
          subst (λ (z : List (ℕ × E)). Grows P xs z) (sym long) ([], sym (append-nil xs), All-nil (λ (x : ℕ × E). P x.0)),
          subst (λ (z : List (ℕ × E)). Grows Q ys z) (sym long) (t.0, t.1, all_left (λ (x : ℕ × E). Q x.0) t.0 g.0 rest),
        )
  ]

-- the slot that was taken last, as a step asks for it
pub carries : {S : Type 0} (cs ds : List (ℕ × S)) (k : ℕ) (x : S) → cs ≡ (k, x) ∷ ds → cs ≡ (k, x) ∷ rest cs
carries {S} cs ds k x e = e ∙ ap (λ (z : List (ℕ × S)). (k, x) ∷ z) (sym (ap (λ (z : List (ℕ × S)). rest z) e))

entries_of-stamp : {E : Type 0} (n : ℕ) (es : List E) → entries (stamp n es) ≡ es
entries_of-stamp n [] = refl
entries_of-stamp n (e ∷ es) = ap (λ (z : List _). e ∷ z) (entries_of-stamp n es)

pub entries-stamp : {E : Type 0} (xs : List (ℕ × E)) (n : ℕ) (es : List E) → entries (xs ++ stamp n es) ≡ entries xs ++ es
entries-stamp xs n es = map-append (λ x. x.1) xs (stamp n es) ∙ ap (λ (z : List _). entries xs ++ z) (entries_of-stamp n es)
