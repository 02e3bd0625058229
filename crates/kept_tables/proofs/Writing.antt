-- The text of a list that is being written, item by item.
use Rattle.std.proofs.Common.{◌≡◌, ℕ, true, false, List, [], ◌∷◌, ◌++◌, refl, sym, ap, ◌∙◌, append_assoc, append-nil, arith}
use Rattle.std.proofs.lemmas.Bool.{eqb-true}
use Rattle.std.specs.Prelude.{◌==◌, length}
use Rattle.result_batches.specs.Json.{array, each_behind_comma}
use Rattle.kept_tables.specs.Lists.{opened}

one_more : (rest : List (List ℕ)) (text : List ℕ) → each_behind_comma (rest ++ text ∷ []) ≡ each_behind_comma rest ++ 44 ∷ text
one_more [] text = ap (λ t. 44 ∷ t) (append-nil text)
one_more (x ∷ xs) text = ap (λ t. 44 ∷ t) (ap (λ m. x ++ m) (one_more xs text) ∙ sym (append_assoc x (each_behind_comma xs) (44 ∷ text)))

not_none : (bytes : List ℕ) (first : ℕ) (rest : List ℕ) → bytes ≡ first ∷ rest → (length bytes == 0) ≡ true → ⊥
not_none [] first rest is none = absurd (let e = is in cc)
not_none (x ∷ xs) first rest is none = let e : length (x ∷ xs) ≡ 0 = eqb-true (length (x ∷ xs)) 0 none in omega arith

pub opens : (old : List ℕ) (texts : List (List ℕ)) (text : List ℕ) → old ≡ opened texts → (length old == 0) ≡ true → (old ++ 91 ∷ []) ++ text ≡ opened (texts ++ text ∷ [])
opens old [] text is none = rw is (ap (λ t. 91 ∷ t) (sym (append-nil text)))
opens old (x ∷ xs) text is none = absurd (not_none old 91 (x ++ each_behind_comma xs) is none)

pub goes_on : (old : List ℕ) (texts : List (List ℕ)) (text : List ℕ) → old ≡ opened texts → (length old == 0) ≡ false → (old ++ 44 ∷ []) ++ text ≡ opened (texts ++ text ∷ [])
goes_on old [] text is some = absurd (let e = rw is at some in cc)
goes_on old (x ∷ xs) text is some =
    rw is (ap (λ t. 91 ∷ t) (append_assoc (x ++ each_behind_comma xs) (44 ∷ []) text ∙ append_assoc x (each_behind_comma xs) (44 ∷ text) ∙ ap (λ m. x ++ m) (sym (one_more xs text))))

pub closes_none : (old : List ℕ) (texts : List (List ℕ)) → old ≡ opened texts → (length old == 0) ≡ true → old ++ 91 ∷ 93 ∷ [] ≡ array texts
closes_none old [] is none = rw is refl
closes_none old (x ∷ xs) is none = absurd (not_none old 91 (x ++ each_behind_comma xs) is none)

pub closes : (old : List ℕ) (texts : List (List ℕ)) → old ≡ opened texts → (length old == 0) ≡ false → old ++ 93 ∷ [] ≡ array texts
closes old [] is some = absurd (let e = rw is at some in cc)
closes old (x ∷ xs) is some = rw is refl
