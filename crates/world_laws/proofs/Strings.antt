-- Of what stands inside a string there is one text.
use Rattle.std.proofs.Common.{◌≡◌, ◌∙◌, ℕ, zero, suc, ◌-◌, ◌/◌, ◌%◌, ◌<◌, true, false, List, [], ◌∷◌, ◌++◌, append_assoc, refl, sym, ap, arith, ◌==◌}
use Rattle.std.specs.Prelude.{flat_map, if◌then◌else◌, nat_lt}
use Rattle.control_escapes.specs.Escapes.{hex_digit}
use Rattle.result_batches.specs.Json.{escaped, quoted}
use Rattle.batch_frames.specs.Escapes.{is_special, meant}
use Rattle.batch_frames.proofs.Escapes.{closes, escape_of, long, same, short}

-- what a hexadecimal digit stands for
abbrev digit_value : ℕ → ℕ
digit_value d = if nat_lt d 58 then d - 48 else d - 87

value_is : (n : ℕ) → n < 16 → digit_value (hex_digit n) ≡ n
value_is zero h = refl
value_is (suc zero) h = refl
value_is (suc (suc zero)) h = refl
value_is (suc (suc (suc zero))) h = refl
value_is (suc (suc (suc (suc zero)))) h = refl
value_is (suc (suc (suc (suc (suc zero))))) h = refl
value_is (suc (suc (suc (suc (suc (suc zero)))))) h = refl
value_is (suc (suc (suc (suc (suc (suc (suc zero))))))) h = refl
value_is (suc (suc (suc (suc (suc (suc (suc (suc zero)))))))) h = refl
value_is (suc (suc (suc (suc (suc (suc (suc (suc (suc zero))))))))) h = refl
value_is (suc (suc (suc (suc (suc (suc (suc (suc (suc (suc zero)))))))))) h = refl
value_is (suc (suc (suc (suc (suc (suc (suc (suc (suc (suc (suc zero))))))))))) h = refl
value_is (suc (suc (suc (suc (suc (suc (suc (suc (suc (suc (suc (suc zero)))))))))))) h = refl
value_is (suc (suc (suc (suc (suc (suc (suc (suc (suc (suc (suc (suc (suc zero))))))))))))) h = refl
value_is (suc (suc (suc (suc (suc (suc (suc (suc (suc (suc (suc (suc (suc (suc zero)))))))))))))) h = refl
value_is (suc (suc (suc (suc (suc (suc (suc (suc (suc (suc (suc (suc (suc (suc (suc zero))))))))))))))) h = refl
value_is (suc (suc (suc (suc (suc (suc (suc (suc (suc (suc (suc (suc (suc (suc (suc (suc n)))))))))))))))) h = absurd (omega (arith, h))

digits_once : (m n : ℕ) → m < 16 → n < 16 → hex_digit m ≡ hex_digit n → m ≡ n
digits_once m n small less e = sym (value_is m small) ∙ ap digit_value e ∙ value_is n less

-- a byte is its escape and what stands behind it
abbrev Same : ℕ → ℕ → List ℕ → List ℕ → Type 0
Same a b r s = (a ≡ b) × (r ≡ s)

no_slash : {P : Type 0} → (a : ℕ) → is_special a ≡ false → a ≡ 92 → P
no_slash a plain e = let bad : true ≡ false = sym (ap is_special e) ∙ plain in absurd (let gone : ⊥ = cc in gone)

no_letter : {P : Type 0} → (letter : ℕ) → (letter == 117) ≡ false → letter ≡ 117 → P
no_letter letter other e = let bad : true ≡ false = sym (ap (λ (n : ℕ). n == 117) e) ∙ other in absurd (let gone : ⊥ = cc in gone)

-- the texts of two escapes of each kind
same_same : (a b : ℕ) (r s : List ℕ) → a ∷ r ≡ b ∷ s → Same a b r s
same_same a b r s e = let heads : a ≡ b = cc in let tails : r ≡ s = cc in (heads, tails)

short_short : (a b k l : ℕ) (r s : List ℕ) → meant k ≡ a → meant l ≡ b → 92 ∷ k ∷ r ≡ 92 ∷ l ∷ s → Same a b r s
short_short a b k l r s one other e = let heads : k ≡ l = cc in let tails : r ≡ s = cc in (sym one ∙ ap meant heads ∙ other, tails)

abbrev four : ℕ → List ℕ → List ℕ
four b rest = 92 ∷ 117 ∷ 48 ∷ 48 ∷ hex_digit (b / 16) ∷ hex_digit (b % 16) ∷ rest

long_long : (a b : ℕ) (r s : List ℕ) → a < 32 → b < 32 → four a r ≡ four b s → Same a b r s
long_long a b r s small less e =
    let whole : 92 ∷ 117 ∷ 48 ∷ 48 ∷ hex_digit (a / 16) ∷ hex_digit (a % 16) ∷ r ≡ 92 ∷ 117 ∷ 48 ∷ 48 ∷ hex_digit (b / 16) ∷ hex_digit (b % 16) ∷ s = e in
    let highs : hex_digit (a / 16) ≡ hex_digit (b / 16) = cc in
    let lows : hex_digit (a % 16) ≡ hex_digit (b % 16) = cc in
    let tails : r ≡ s = cc in
    let high = digits_once (a / 16) (b / 16) (omega (arith, small)) (omega (arith, less)) highs in
    let low = digits_once (a % 16) (b % 16) (omega arith) (omega arith) lows in
    (omega (arith, high, low), tails)

same_long : (a b : ℕ) (r s : List ℕ) → is_special a ≡ false → a ∷ r ≡ four b s → Same a b r s
same_long a b r s plain e =
    let whole : a ∷ r ≡ 92 ∷ 117 ∷ 48 ∷ 48 ∷ hex_digit (b / 16) ∷ hex_digit (b % 16) ∷ s = e in
    no_slash a plain (let heads : a ≡ 92 = cc in heads)

same_short : (a b l : ℕ) (r s : List ℕ) → is_special a ≡ false → a ∷ r ≡ 92 ∷ l ∷ s → Same a b r s
same_short a b l r s plain e = no_slash a plain (let heads : a ≡ 92 = cc in heads)

short_long : (a b k : ℕ) (r s : List ℕ) → (k == 117) ≡ false → 92 ∷ k ∷ r ≡ four b s → Same a b r s
short_long a b k r s other e =
    let whole : 92 ∷ k ∷ r ≡ 92 ∷ 117 ∷ 48 ∷ 48 ∷ hex_digit (b / 16) ∷ hex_digit (b % 16) ∷ s = e in
    no_letter k other (let heads : k ≡ 117 = cc in heads)

turned : (a b : ℕ) (r s : List ℕ) → Same a b r s → Same b a s r
turned a b r s is = (sym is.0, sym is.1)

bytes_once : (a b : ℕ) (r s : List ℕ) → escaped a ++ r ≡ escaped b ++ s → Same a b r s
bytes_once a b r s e =
    elim (escape_of a) [
      | same h ↦
          elim (escape_of b) [
            | same k ↦ same_same a b r s (sym (ap (λ t. t ++ r) h.text) ∙ e ∙ ap (λ t. t ++ s) k.text)
            | short k ↦ same_short a b k.letter r s h.plain (sym (ap (λ t. t ++ r) h.text) ∙ e ∙ ap (λ t. t ++ s) k.text)
            | long k ↦ same_long a b r s h.plain (sym (ap (λ t. t ++ r) h.text) ∙ e ∙ ap (λ t. t ++ s) k.text)
          ]
      | short h ↦
          elim (escape_of b) [
            | same k ↦ turned b a s r (same_short b a h.letter s r k.plain (sym (sym (ap (λ t. t ++ r) h.text) ∙ e ∙ ap (λ t. t ++ s) k.text)))
            | short k ↦ short_short a b h.letter k.letter r s h.meaning k.meaning (sym (ap (λ t. t ++ r) h.text) ∙ e ∙ ap (λ t. t ++ s) k.text)
            | long k ↦ short_long a b h.letter r s h.other (sym (ap (λ t. t ++ r) h.text) ∙ e ∙ ap (λ t. t ++ s) k.text)
          ]
      | long h ↦
          elim (escape_of b) [
            | same k ↦ turned b a s r (same_long b a s r k.plain (sym (sym (ap (λ t. t ++ r) h.text) ∙ e ∙ ap (λ t. t ++ s) k.text)))
            | short k ↦ turned b a s r (short_long b a k.letter s r k.other (sym (sym (ap (λ t. t ++ r) h.text) ∙ e ∙ ap (λ t. t ++ s) k.text)))
            | long k ↦ long_long a b r s h.small k.small (sym (ap (λ t. t ++ r) h.text) ∙ e ∙ ap (λ t. t ++ s) k.text)
          ]
    ]

-- two texts with their closing quotes, and what stands behind them
inside_once : (one other x y : List ℕ) → flat_map escaped one ++ 34 ∷ x ≡ flat_map escaped other ++ 34 ∷ y → (one ≡ other) × (x ≡ y)
inside_once [] other x y e = let c = closes other y x e in (sym c.0, c.1)
inside_once (a ∷ one) [] x y e = let c = closes (a ∷ one) x y (sym e) in (c.0, sym c.1)
inside_once (a ∷ one) (b ∷ other) x y e =
    let first =
    bytes_once a b (flat_map escaped one ++ 34 ∷ x) (flat_map escaped other ++ 34 ∷ y)
    (sym (append_assoc (escaped a) (flat_map escaped one) (34 ∷ x)) ∙ e ∙ append_assoc (escaped b) (flat_map escaped other) (34 ∷ y)) in
    let rest = inside_once one other x y first.1 in
    (ap (λ c. c ∷ one) first.0 ∙ ap (λ t. b ∷ t) rest.0, rest.1)

-- two strings, and what stands behind them
pub strings_once : (one other x y : List ℕ) → quoted one ++ x ≡ quoted other ++ y → (one ≡ other) × (x ≡ y)
strings_once one other x y e =
    let whole : 34 ∷ ((flat_map escaped one ++ 34 ∷ []) ++ x) ≡ 34 ∷ ((flat_map escaped other ++ 34 ∷ []) ++ y) = e in
    let inside : (flat_map escaped one ++ 34 ∷ []) ++ x ≡ (flat_map escaped other ++ 34 ∷ []) ++ y = cc in
    inside_once one other x y (sym (append_assoc (flat_map escaped one) (34 ∷ []) x) ∙ inside ∙ append_assoc (flat_map escaped other) (34 ∷ []) y)
