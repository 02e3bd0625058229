-- A text up to the first place of another one, and a text without it.
use Rattle.std.proofs.Common.{◌≡◌, ◌≢◌, ℕ, suc, ◌-◌, ◌<◌, ◌≤◌, false, List, [], ◌∷◌, ◌++◌, length, take, drop, take-append-drop, refl, ap, sym, subst, ◌∙◌, arith}
use Rattle.std.proofs.lemmas.Bool.{false_from_ne_true}
use Rattle.sql_scalar.specs.Finds.{begins, replaced}
use Rattle.sql_scalar.proofs.Beginnings.{begins-append, begins-split}

-- what is still to be passed is passed
passed : (wanted other front rest : List ℕ) → replaced wanted other (length front) (front ++ rest) ≡ replaced wanted other 0 rest
passed wanted other [] rest = refl
passed wanted other (byte ∷ front) rest = passed wanted other front rest

lacks : (wanted whole : List ℕ) → ((rest : List ℕ) → whole ≢ wanted ++ rest) → begins wanted whole ≡ false
lacks wanted whole none = false_from_ne_true _ (λ e. let found = begins-split wanted whole e in none found.0 found.1)

replaced_at : (first : ℕ) (others other front behind : List ℕ)
    → ((place : ℕ) → place < length front → (rest : List ℕ) → drop place (front ++ ((first ∷ others) ++ behind)) ≢ (first ∷ others) ++ rest)
    → replaced (first ∷ others) other 0 (front ++ ((first ∷ others) ++ behind))
    ≡ front ++ (other ++ replaced (first ∷ others) other 0 behind)
replaced_at first others other [] behind none =
    rw (begins-append (first ∷ others) behind)
    (ap (λ r. other ++ r)
    (ap (λ left. replaced (first ∷ others) other left (others ++ behind)) (let e : suc (length others) - 1
    ≡ length others = omega arith in e)
    ∙ passed (first ∷ others) other others behind))
replaced_at first others other (byte ∷ front) behind none =
    rw (lacks (first ∷ others) (byte ∷ (front ++ ((first ∷ others) ++ behind))) (none 0 (let lt : 0 < length
    (byte ∷ front) = omega arith in lt)))
    (ap (λ r. byte ∷ r)
    (replaced_at first others other front behind (λ place h. none (suc place) (let lt : suc place < length
    (byte ∷ front) = omega arith in lt))))

replaced_nowhere : (first : ℕ) (others other whole : List ℕ)
    → ((place : ℕ) → place ≤ length whole → (rest : List ℕ) → drop place whole ≢ (first ∷ others) ++ rest)
    → replaced (first ∷ others) other 0 whole ≡ whole
replaced_nowhere first others other [] none = refl
replaced_nowhere first others other (byte ∷ rest) none =
    rw (lacks (first ∷ others) (byte ∷ rest) (none 0 (let le : 0 ≤ length (byte ∷ rest) = omega arith in le)))
    (ap (λ r. byte ∷ r) (replaced_nowhere first others other rest (λ place h. none (suc place) (let le : suc place ≤ length
    (byte ∷ rest) = omega arith in le))))

-- up to the first place, and on behind it
pub replaced_once : (wanted other whole front behind : List ℕ) → 0 < length wanted → whole ≡ front ++ (wanted ++ behind)
    → ((place : ℕ) → place < length front → (rest : List ℕ) → drop place whole ≢ wanted ++ rest)
    → replaced wanted other 0 whole ≡ front ++ (other ++ replaced wanted other 0 behind)
replaced_once [] other whole front behind some split none = absurd (omega arith)
replaced_once (first ∷ others) other whole front behind some split none =
    ap (replaced (first ∷ others) other 0) split
    ∙ replaced_at first others other front behind
    (subst (λ w. (place : ℕ) → place < length front → (rest : List ℕ) → drop place w ≢ (first ∷ others) ++ rest) split none)

pub replaced_never : (wanted other whole : List ℕ) → 0 < length wanted
    → ((place : ℕ) → place ≤ length whole → (rest : List ℕ) → drop place whole ≢ wanted ++ rest) → replaced wanted other 0 whole ≡ whole
replaced_never [] other whole some none = absurd (omega arith)
replaced_never (first ∷ others) other whole some none = replaced_nowhere first others other whole none

pub whole_split : (wanted whole front behind : List ℕ) (i j : ℕ) → front ≡ take i whole → behind ≡ drop j whole
    → drop i whole ≡ wanted ++ drop j whole
    → whole ≡ front ++ (wanted ++ behind)
whole_split wanted whole front behind i j before after split =
    sym (take-append-drop i whole) ∙ ap (λ s. take i whole ++ s) (split ∙ ap (λ s. wanted ++ s) (sym after))
    ∙ ap (λ s. s ++ (wanted ++ behind)) (sym before)
