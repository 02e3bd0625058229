-- The lines of a stream, as more of it comes.
use Rattle.std.proofs.Common.{◌≡◌, ◌≢◌, ◌∙◌, ℕ, ◌==◌, Bool, true, false, cond, List, [], ◌∷◌, ◌++◌, ap, refl, sym}
use Rattle.std.proofs.lemmas.Bool.Decides.{Decides-eqb}
use Rattle.std.proofs.lemmas.Bool.{true≢false}
use Rattle.record_lines.specs.Lines.{HasNoFeed, lines_behind, lines_of, rest_behind, rest_of}
use Rattle.record_lines.proofs.Cuts.{all_rest, no_cuts}

pub lines-append : (begun bytes more : List ℕ) → lines_behind begun (bytes ++ more) ≡ lines_behind begun bytes ++ lines_behind (rest_behind begun bytes) more
lines-append begun [] more = refl
lines-append begun (b ∷ bytes) more =
    elim (b == 10) as (λ t. cond t (begun ∷ lines_behind [] (bytes ++ more)) (lines_behind (begun ++ b ∷ []) (bytes ++ more)) ≡ cond t (begun ∷ lines_behind [] bytes) (lines_behind (begun ++ b ∷ []) bytes) ++ lines_behind (cond t (rest_behind [] bytes) (rest_behind (begun ++ b ∷ []) bytes)) more) [
      | true ↦ ap (λ ls. begun ∷ ls) (lines-append [] bytes more)
      | false ↦ lines-append (begun ++ b ∷ []) bytes more
    ]

pub rest-append : (begun bytes more : List ℕ) → rest_behind begun (bytes ++ more) ≡ rest_behind (rest_behind begun bytes) more
rest-append begun [] more = refl
rest-append begun (b ∷ bytes) more =
    elim (b == 10) as (λ t. cond t (rest_behind [] (bytes ++ more)) (rest_behind (begun ++ b ∷ []) (bytes ++ more)) ≡ rest_behind (cond t (rest_behind [] bytes) (rest_behind (begun ++ b ∷ []) bytes)) more) [
      | true ↦ rest-append [] bytes more
      | false ↦ rest-append (begun ++ b ∷ []) bytes more
    ]

-- a byte more that is no line feed
pub plain-append : (bytes : List ℕ) (b : ℕ) → HasNoFeed bytes → b ≢ 10 → HasNoFeed (bytes ++ b ∷ [])
plain-append [] b plain other = (other, tt)
plain-append (x ∷ bytes) b plain other = (plain.0, plain-append bytes b plain.1 other)

rest-plain : (begun bytes : List ℕ) → HasNoFeed begun → HasNoFeed (rest_behind begun bytes)
rest-plain begun [] plain = plain
rest-plain begun (b ∷ bytes) plain = by (b == 10) refl (rest-plain [] bytes tt) (λ other. rest-plain (begun ++ b ∷ []) bytes (plain-append begun b plain other))
  where
    by : (t : Bool) → (b == 10) ≡ t → HasNoFeed (rest_behind [] bytes) → (b ≢ 10 → HasNoFeed (rest_behind (begun ++ b ∷ []) bytes))
        → HasNoFeed (cond t (rest_behind [] bytes) (rest_behind (begun ++ b ∷ []) bytes))
    by true is ended longer = ended
    by false is ended longer = longer (λ same. true≢false (sym ((Decides-eqb b 10).1 same) ∙ is))

-- what stands behind the last line feed has none
pub plain-rest : (bytes : List ℕ) → HasNoFeed (rest_of bytes)
unfolding rest_of
plain-rest bytes = rest-plain [] bytes tt

begun-lines : (begun more : List ℕ) → HasNoFeed begun → lines_behind begun more ≡ lines_of (begun ++ more)
unfolding lines_of rest_of
begun-lines begun more plain =
    sym (lines-append [] begun more ∙ ap (λ (ls : List (List ℕ)). ls ++ lines_behind (rest_behind [] begun) more) (no_cuts begun plain) ∙ ap (λ (r : List ℕ). lines_behind r more) (all_rest begun plain))

begun-rest : (begun more : List ℕ) → HasNoFeed begun → rest_behind begun more ≡ rest_of (begun ++ more)
unfolding rest_of
begun-rest begun more plain = sym (rest-append [] begun more ∙ ap (λ (r : List ℕ). rest_behind r more) (all_rest begun plain))

pub lines-more : (given piece : List ℕ) → lines_of (given ++ piece) ≡ lines_of given ++ lines_of (rest_of given ++ piece)
unfolding lines_of rest_of
lines-more given piece = lines-append [] given piece ∙ ap (λ (ls : List (List ℕ)). lines_behind [] given ++ ls) (begun-lines (rest_behind [] given) piece (rest-plain [] given tt))

pub rest-more : (given piece : List ℕ) → rest_of (given ++ piece) ≡ rest_of (rest_of given ++ piece)
unfolding rest_of
rest-more given piece = rest-append [] given piece ∙ begun-rest (rest_behind [] given) piece (rest-plain [] given tt)
