-- How files end.
use Rattle.std.proofs.Common.{◌≡◌, ℕ, suc, ◌-◌, ◌==◌, true, false, cond, List, [], ◌∷◌, ◌++◌, length, length-append, Some, None, refl, sym, ap, ◌∙◌, arith}
use Rattle.std.specs.Prelude.{nat_le, not, slice_get}
use Rattle.record_lines.specs.Lines.{rest_behind, rest_of}
use Rattle.collector_ledger.specs.Files.{has_rest}

longer : (begun : List ℕ) (byte : ℕ) → nat_le 1 (length (begun ++ byte ∷ [])) ≡ true
longer begun byte = let size = length-append begun (byte ∷ []) in grind (arith, size)

one_byte : (begun : List ℕ) (byte : ℕ) → nat_le 1 (length (rest_behind begun (byte ∷ []))) ≡ not (byte == 10)
one_byte begun byte =
    elim (byte == 10) as (λ t. nat_le 1 (length (cond t [] (begun ++ byte ∷ []))) ≡ not t) [
      | true ↦ refl
      | false ↦ longer begun byte
    ]

same_some : (one other : ℕ) → Some one ≡ Some other → one ≡ other
same_some one other e = cc

last_behind : (begun bytes : List ℕ) (last : ℕ) → slice_get bytes (length bytes - 1) ≡ Some last → nat_le 1 (length (rest_behind begun bytes)) ≡ not (last == 10)
last_behind begun [] last e = absurd (let gone : ⊥ = cc in gone)
last_behind begun (byte ∷ []) last e = one_byte begun byte ∙ ap (λ (b : ℕ). not (b == 10)) (same_some byte last e)
last_behind begun (byte ∷ next ∷ bytes) last e =
    let place : length (byte ∷ next ∷ bytes) - 1 ≡ suc (length (next ∷ bytes) - 1) = omega arith in
    let later : slice_get (next ∷ bytes) (length (next ∷ bytes) - 1) ≡ Some last = ap (λ (n : ℕ). slice_get (byte ∷ next ∷ bytes) n) (sym place) ∙ e in
    elim (byte == 10) as (λ t. nat_le 1 (length (cond t (rest_behind [] (next ∷ bytes)) (rest_behind (begun ++ byte ∷ []) (next ∷ bytes)))) ≡ not (last == 10)) [
      | true ↦ last_behind [] (next ∷ bytes) last later
      | false ↦ last_behind (begun ++ byte ∷ []) (next ∷ bytes) last later
    ]

-- something stands behind the last line feed where the last byte is none
pub rest_by_last : (bytes : List ℕ) (last : ℕ) → Some last ≡ slice_get bytes (length bytes - 1) → has_rest bytes ≡ not (last == 10)
unfolding rest_of
rest_by_last bytes last e = last_behind [] bytes last (sym e)

found_last : (byte : ℕ) (bytes : List ℕ) → (last : ℕ) × (slice_get (byte ∷ bytes) (length bytes) ≡ Some last)
found_last byte [] = (byte, refl)
found_last byte (next ∷ bytes) = found_last next bytes

pub no_rest : (bytes : List ℕ) → None ≡ slice_get bytes (length bytes - 1) → has_rest bytes ≡ false
unfolding rest_of
no_rest [] e = refl
no_rest (byte ∷ bytes) e =
    let place : length (byte ∷ bytes) - 1 ≡ length bytes = omega arith in
    let there = found_last byte bytes in
    let found : None ≡ Some there.0 = e ∙ ap (slice_get (byte ∷ bytes)) place ∙ there.1 in
    absurd (let gone : ⊥ = cc in gone)
