-- Lists that are walked together, place by place.
use Rattle.std.proofs.Common.{◌≡◌, ℕ, zero, suc, ◌+◌, ◌<◌, ◌≤◌, List, [], ◌∷◌, ◌++◌, length, get_or, map, take, drop, refl, sym, subst, ap, ◌∙◌, add-one, arith}
use Rattle.std.specs.Prelude.{zip, filter_map, Option, Some, None}
use Rattle.std.specs.List.{AllByRecursion, cons_option}
use Rattle.std.specs.Option.{option_to_list}
use Rattle.std.proofs.lemmas.List.{take_more}
use Rattle.std.proofs.lemmas.List.Elements.{filter_map-append}

-- the value at a place of a list of which each value is shown by an image
pub record Placed {T R : Type 0} (shown : T → R) (Held : T → Type 0) (values : List T) (i : ℕ) : Type 0 where
  pub value : T
  pub held : Held value
  pub is : (d : R) → get_or (map shown values) i d ≡ shown value
  pub more : take (suc i) values ≡ take i values ++ value ∷ []

pub placed : {T R : Type 0} (shown : T → R) (Held : T → Type 0) (values : List T) (i : ℕ) → i < length (map shown values) → AllByRecursion Held values → Placed shown Held values i
placed shown Held [] i lt held = absurd (let no : ⊥ = omega (arith, lt) in no)
placed shown Held (v ∷ vs) zero lt held = record { value = v; held = held.0; is = λ d. refl; more = refl }
placed shown Held (v ∷ vs) (suc i) lt held =
    let later = placed shown Held vs i (omega (arith, lt)) held.1 in
    record { value = later.value; held = later.held; is = later.is; more = ap (λ zs. v ∷ zs) later.more }

pub take_past : {T R : Type 0} (shown : T → R) (values : List T) (i : ℕ) → length (map shown values) ≤ i → take i values ≡ values
take_past shown [] zero le = refl
take_past shown [] (suc i) le = refl
take_past shown (v ∷ vs) zero le = absurd (let no : ⊥ = omega (arith, le) in no)
take_past shown (v ∷ vs) (suc i) le = ap (λ zs. v ∷ zs) (take_past shown vs i (omega (arith, le)))

-- one more key of a list whose values are taken one by one
next_pair : {K X : Type 0} (ks : List K) (vs : List X) (i : ℕ) (d : K) (v : X) (rest : List X) → i < length ks → drop i vs ≡ v ∷ rest → zip (take (suc i) ks) vs ≡ zip (take i ks) vs ++ (get_or ks i d, v) ∷ []
next_pair [] vs i d v rest lt at = absurd (let no : ⊥ = omega (arith, lt) in no)
next_pair (x ∷ ks) [] i d v rest lt at = absurd (let no : ⊥ = none i at in no)
  where
    none : (i : ℕ) → drop i [] ≡ v ∷ rest → ⊥
    none zero e = cc
    none (suc i) e = cc
next_pair (x ∷ ks) (w ∷ vs) zero d v rest lt at = let same : w ≡ v = cc in ap (λ y. (x, y) ∷ []) same
next_pair (x ∷ ks) (w ∷ vs) (suc i) d v rest lt at = ap (λ zs. (x, w) ∷ zs) (next_pair ks vs i d v rest (omega (arith, lt)) at)

pub zip_more : {K X : Type 0} (ks : List K) (vs : List X) (i : ℕ) (d : K) (v : X) (rest : List X) → i < length ks → drop i vs ≡ v ∷ rest → zip (take (i + 1) ks) vs ≡ zip (take i ks) vs ++ (get_or ks i d, v) ∷ []
zip_more ks vs i d v rest lt at = subst (λ j. zip (take j ks) vs ≡ zip (take i ks) vs ++ (get_or ks i d, v) ∷ []) (sym (add-one i)) (next_pair ks vs i d v rest lt at)

next_left : {X : Type 0} (vs : List X) (i : ℕ) (v : X) (rest : List X) → drop i vs ≡ v ∷ rest → drop (suc i) vs ≡ rest
next_left [] zero v rest at = absurd (let no : ⊥ = cc in no)
next_left [] (suc i) v rest at = absurd (let no : ⊥ = cc in no)
next_left (w ∷ vs) zero v rest at = cc
next_left (w ∷ vs) (suc i) v rest at = next_left vs i v rest at

pub drop_more : {X : Type 0} (vs : List X) (i : ℕ) (v : X) (rest : List X) → drop i vs ≡ v ∷ rest → drop (i + 1) vs ≡ rest
drop_more vs i v rest at = subst (λ j. drop j vs ≡ rest) (sym (add-one i)) (next_left vs i v rest at)

-- where no value is left, the keys that are left have none
pub zip_done : {K X : Type 0} (ks : List K) (vs : List X) (i : ℕ) → drop i vs ≡ [] → zip (take i ks) vs ≡ zip ks vs
zip_done [] vs zero at = refl
zip_done [] vs (suc i) at = refl
zip_done (k ∷ ks) [] zero at = refl
zip_done (k ∷ ks) [] (suc i) at = refl
zip_done (k ∷ ks) (v ∷ vs) zero at = absurd (let no : ⊥ = cc in no)
zip_done (k ∷ ks) (v ∷ vs) (suc i) at = ap (λ zs. (k, v) ∷ zs) (zip_done ks vs i at)

pub none_left : {X : Type 0} (xs : List X) → length xs ≡ 0 → xs ≡ []
none_left [] e = refl
none_left (x ∷ xs) e = absurd (let no : ⊥ = omega (arith, e) in no)

one_mapped : {X Y : Type 0} (h : X → Option Y) (x : X) → filter_map h (x ∷ []) ≡ option_to_list (h x)
one_mapped {Y = Y} h x = by (h x)
  where
    by : (o : Option Y) → cons_option o [] ≡ option_to_list o
    by None = refl
    by (Some y) = refl

-- one more item of a list of which some give something
pub filter_map-more : {X Y : Type 0} (h : X → Option Y) (xs : List X) (i : ℕ) (d : X) → i < length xs → filter_map h (take (i + 1) xs) ≡ filter_map h (take i xs) ++ option_to_list (h (get_or xs i d))
filter_map-more h xs i d lt =
    ap (filter_map h) (take_more xs i d lt) ∙ filter_map-append h (take i xs) (get_or xs i d ∷ []) ∙ ap (λ ys. filter_map h (take i xs) ++ ys) (one_mapped h (get_or xs i d))

pub all_held : {X : Type 0} (xs : List X) → AllByRecursion (λ (x : X). Unit {0}) xs
all_held [] = tt
all_held (x ∷ xs) = (tt, all_held xs)
