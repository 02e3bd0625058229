-- Texts of which no two are the same, beside those that were seen.
use Rattle.std.proofs.Common.{◌≡◌, ◌∙◌, ◌<◌, ◌+◌, ℕ, suc, ◌&&◌, ◌||◌, not, Bool, true, false, cond, List, [], ◌∷◌, refl, ap, sym, map, arith, drop, drop-cons, get_or, length}
use Rattle.std.specs.Prelude.{bytes_eq}
use Rattle.std.specs.Borrow.{Bor}
use Rattle.std.specs.List.{list_all, list_any}
use Rattle.program_words.specs.Reading.{are_apart}

abbrev pub Text : Type 0
Text = Bor (List ℕ)

abbrev pub same_text : Text → Text → Bool
same_text a b = bytes_eq a.now b.now

abbrev pub texts_now : List Text → List (List ℕ)
texts_now texts = map (λ text. text.now) texts

-- the texts are apart, and none of them was seen
abbrev pub unseen_apart : (Text → Bool) → List Text → Bool
unseen_apart seen texts = list_all (λ text. not (seen text)) texts && are_apart (texts_now texts)

-- one more was seen
more_seen : (seen now : Text → Bool) (text : Text) → ((other : Text) → now other ≡ cond (same_text text other) true (seen other)) → (texts : List Text)
    → list_all (λ other. not (now other)) texts ≡ list_all (λ other. not (seen other)) texts && not (list_any (bytes_eq text.now) (texts_now texts))
more_seen seen now text adds [] = refl
more_seen seen now text adds (other ∷ texts) =
    let here = adds other in
    let rest = more_seen seen now text adds texts in
    (λ i. not (here i) && rest i) ∙ go (same_text text other) (seen other) (list_all (λ t. not (seen t)) texts) (list_any (bytes_eq text.now) (texts_now texts))
  where
    go : (s o a b : Bool) → not (cond s true o) && (a && not b) ≡ not o && a && not (s || b)
    go true true a b = refl
    go true false true b = refl
    go true false false b = refl
    go false true a b = refl
    go false false a b = refl

pub apart_next : (seen now : Text → Bool) (text : Text) (texts : List Text) → ((other : Text) → now other ≡ cond (same_text text other) true (seen other)) → seen text ≡ false
    → unseen_apart seen (text ∷ texts) ≡ unseen_apart now texts
unfolding are_apart
apart_next seen now text texts adds new =
    ap (λ b. not b && list_all (λ t. not (seen t)) texts && (not (list_any (bytes_eq text.now) (texts_now texts)) && are_apart (texts_now texts))) new
    ∙ go (list_all (λ t. not (seen t)) texts) (list_any (bytes_eq text.now) (texts_now texts)) (are_apart (texts_now texts)) ∙ ap (λ b. b && are_apart (texts_now texts)) (sym (more_seen seen now text adds texts))
  where
    go : (a b d : Bool) → a && (not b && d) ≡ a && not b && d
    go true b d = refl
    go false b d = refl

-- a text that was seen stands twice
pub seen_again : (seen : Text → Bool) (text : Text) (texts : List Text) → seen text ≡ true → unseen_apart seen (text ∷ texts) ≡ false
seen_again seen text texts again = ap (λ b. not b && list_all (λ t. not (seen t)) texts && are_apart (texts_now (text ∷ texts))) again

pub none_seen : (seen : Text → Bool) (texts : List Text) → ((text : Text) → seen text ≡ false) → unseen_apart seen texts ≡ are_apart (texts_now texts)
none_seen seen texts none = ap (λ b. b && are_apart (texts_now texts)) (all texts)
  where
    all : (ts : List Text) → list_all (λ t. not (seen t)) ts ≡ true
    all [] = refl
    all (t ∷ ts) = ap (λ b. not b && list_all (λ u. not (seen u)) ts) (none t) ∙ all ts

not_true : (b : Bool) → true ≡ not b → b ≡ false
not_true true e = absurd cc
not_true false e = refl

not_false : (b : Bool) → false ≡ not b → b ≡ true
not_false true e = refl
not_false false e = absurd cc

-- a step of the loop: the text at its place wasn't seen before, or was
module _ (seen : Text → Bool) (texts : List Text) (i : ℕ) (d : Text) (within : i < length texts) where
  pub apart_step : (now : Text → Bool) → ((other : Text) → now other ≡ cond (same_text (get_or texts i d) other) true (seen other)) → true ≡ not (seen (get_or texts i d))
      → unseen_apart now (drop (i + 1) texts) ≡ unseen_apart seen (drop i texts)
  apart_step now adds new =
      let next : i + 1 ≡ suc i = omega arith in
      ap (λ k. unseen_apart now (drop k texts)) next ∙ sym (apart_next seen now (get_or texts i d) (drop (suc i) texts) adds (not_true _ new)) ∙ ap (unseen_apart seen) (sym (drop-cons texts i d within))

  pub found_step : false ≡ not (seen (get_or texts i d)) → false ≡ unseen_apart seen (drop i texts)
  found_step again = sym (seen_again seen (get_or texts i d) (drop (suc i) texts) (not_false _ again)) ∙ ap (unseen_apart seen) (sym (drop-cons texts i d within))
