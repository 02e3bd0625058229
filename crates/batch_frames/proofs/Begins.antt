-- How texts of values begin.
use Rattle.std.proofs.Common.{◌≡◌, ℕ, ◌+◌, ◌%◌, ◌<◌, ◌≤◌, ◌^◌, ℤ, pos, negsuc, false, List, [], ◌∷◌, ◌++◌, refl, sym, ap, ◌∙◌, arith, rules, drop, ◌==◌, suc}
use Rattle.std.specs.Prelude.{◌||◌, flat_map}
use Rattle.std.specs.List.{list_any}
use Rattle.std.specs.Fmt.{decimal, signed_decimal}
use Rattle.std.proofs.lemmas.Fmt.{decimal_by_steps}
use Rattle.std.proofs.lemmas.Bool.Decides.{nat_tests}
use Rattle.std.proofs.lemmas.List.Folds.{list_any-append}
use lib.Signed.{mag}
use Rattle.std.proofs.lemmas.Bool.{both_ways}
use Rattle.std.specs.Int.RustNames.{FitsSigned}
use Rattle.std.specs.Int.{w64}
use Rattle.osq_value.specs.declared.value.Value.{Value}
use Rattle.osq_value.specs.declared.value.Value.TheVariants.{Null, Int, Text}
use Rattle.pack_rules.specs.declared.schedule.Mode.{Mode}
use Rattle.pack_rules.specs.declared.schedule.Mode.TheVariants.{Evented, Snapshot}
use Rattle.result_batches.specs.Json.{escaped, quoted}
use Rattle.result_batches.specs.Frames.{json_value, mode_text}
use Rattle.batch_frames.specs.Ends.{is_end, BeginsValue}
use Rattle.batch_frames.specs.Texts.{IsHeldValue}
use Rattle.batch_frames.specs.Takes.{Takes}
use Rattle.batch_frames.specs.Ends.{IsAtEnd, BeginsWithEnd, begins_with}
use Rattle.batch_frames.proofs.Cuts.{cut_once, unlike_heads}
use Rattle.std.specs.Str.{IsUtf8}

digit_is_inside : (k : ℕ) → k < 10 → is_end (48 + k) ≡ false
digit_is_inside k h = grind (arith, nat_tests)

digit_begins : (k : ℕ) → k < 10 → ((48 + k) == 93) ≡ false
digit_begins k h = grind (arith, nat_tests)

one_is_inside : (k : ℕ) → k < 10 → list_any is_end ((48 + k) ∷ []) ≡ false
one_is_inside k h = rw (digit_is_inside k h) refl

-- begins with a digit or a sign
abbrev BeginsLow : List ℕ → Type 0
BeginsLow [] = ⊥
BeginsLow (b ∷ bs) = (45 ≤ b) × (b < 58)

low-append : (xs ys : List ℕ) → BeginsLow xs → BeginsLow (xs ++ ys)
low-append [] ys h = absurd h
low-append (x ∷ xs) ys h = h

-- no end among the bytes, and the first isn't the closing bracket
pub record IsPlain (bytes : List ℕ) : Type 0 where
  pub plain : list_any is_end bytes ≡ false
  pub begins : BeginsValue bytes
  pub low : BeginsLow bytes

any-append : (xs ys : List ℕ) → list_any is_end xs ≡ false → list_any is_end ys ≡ false → list_any is_end (xs ++ ys) ≡ false
any-append xs ys h k = list_any-append is_end xs ys ∙ ap (λ b. b || list_any is_end ys) h ∙ k

begins-append : (xs ys : List ℕ) → BeginsValue xs → BeginsValue (xs ++ ys)
begins-append [] ys h = absurd h
begins-append (x ∷ xs) ys h = h

pub decimal_is_plain : (n : ℕ) → n < 2 ^ 64 → IsPlain (decimal n)
decimal_is_plain =
    decimal_by_steps (λ n ds. IsPlain ds)
    (λ n h. record { plain = one_is_inside n h; begins = digit_begins n h; low = ((omega arith), (omega arith)) })
    (λ n ds h before. record {
      plain = any-append ds ((48 + n % 10) ∷ []) before.plain (one_is_inside (n % 10) (let small : n % 10 < 10 = omega arith in small));
      begins = begins-append ds ((48 + n % 10) ∷ []) before.begins;
      low = low-append ds ((48 + n % 10) ∷ []) before.low;
    })

pub begins_decimal : (n : ℕ) → n < 2 ^ 64 → BeginsValue (decimal n)
begins_decimal n h = (decimal_is_plain n h).begins

pub signed_is_plain : (z : ℤ) → mag z < 2 ^ 63 → IsPlain (signed_decimal z)
signed_is_plain (pos n) h = decimal_is_plain n (let small : n < 2 ^ 64 = omega arith in small)
signed_is_plain (negsuc n) h =
    record { plain = (decimal_is_plain (suc n) (let small : suc n < 2 ^ 64 = omega arith in small)).plain; begins = refl; low = ((omega arith), (omega arith)) }

pub begins_value : (value : Value) → IsHeldValue value → BeginsValue (json_value value)
begins_value Null h = refl
begins_value (Int n) h = (signed_is_plain n h).begins
begins_value (Text text) h = refl

pub begins_mode : (mode : Mode) → BeginsValue (quoted (mode_text mode))
begins_mode Evented = refl
begins_mode Snapshot = refl

-- a number of 64 bits
pub fits_signed : (z : ℤ) → mag z < 2 ^ 63 → FitsSigned w64 z
fits_signed (pos n) h = search rules
fits_signed (negsuc n) h = search rules

no_sign : (c : ℕ) (text rest bytes : List ℕ) → BeginsLow text → c ∷ bytes ≡ text ++ rest → ((45 ≤ c) × (c < 58) → ⊥) → ⊥
no_sign c [] rest bytes low e other = low
no_sign c (b ∷ bs) rest bytes low e other = let same : c ≡ b = cc in other ((omega (arith, low.0, same)), (omega (arith, low.1, same)))

-- what begins with `n` is null
pub null_value : (bytes after : List ℕ) → bytes ≡ 110 ∷ after → (value : Value) (behind : List ℕ) → IsHeldValue value → bytes ≡ json_value value ++ behind → (Null ≡ value) × (drop 4 bytes ≡ behind)
null_value bytes after at Null behind held is = (refl, ap (drop 4) is)
null_value bytes after at (Int n) behind held is = absurd (no_sign 110 (signed_decimal n) behind after (signed_is_plain n held).low (sym at ∙ is) (λ both. let gone : ⊥ = omega (arith, both.1) in gone))
null_value bytes after at (Text text) behind held is = absurd (unlike_heads 110 34 after ((flat_map escaped text ++ 34 ∷ []) ++ behind) (sym at ∙ is) refl)

-- what begins with a quote is a text
pub text_taken : (bytes after text rest : List ℕ) → bytes ≡ 34 ∷ after → Takes quoted IsUtf8 bytes text rest → (value : Value) (behind : List ℕ) → IsHeldValue value → BeginsWithEnd behind → bytes ≡ json_value value ++ behind → (Text text ≡ value) × (rest ≡ behind)
text_taken bytes after text rest at takes Null behind held ended is = absurd (unlike_heads 34 110 after (117 ∷ 108 ∷ 108 ∷ behind) (sym at ∙ is) refl)
text_taken bytes after text rest at takes (Int n) behind held ended is = absurd (no_sign 34 (signed_decimal n) behind after (signed_is_plain n held).low (sym at ∙ is) (λ both. let gone : ⊥ = omega (arith, both.0) in gone))
text_taken bytes after text rest at takes (Text t) behind held ended is = let taken = takes t behind held ended is in (ap Text taken.0, taken.1)

-- anything else is a number
number_taken : (bytes digits rest : List ℕ) (number : ℤ) → bytes ≡ digits ++ rest → list_any is_end digits ≡ false → IsAtEnd rest → ((n : ℤ) → mag n < 2 ^ 63 → digits ≡ signed_decimal n → number ≡ n)
    → (n : ℤ) (behind : List ℕ) → mag n < 2 ^ 63 → BeginsWithEnd behind → bytes ≡ signed_decimal n ++ behind → (number ≡ n) × (rest ≡ behind)
number_taken bytes digits rest number whole plain stops reads n behind held ended is =
    let cut = cut_once digits rest (signed_decimal n) behind plain stops (signed_is_plain n held).plain ended (sym whole ∙ is) in
    (reads n held cut.0, cut.1)

-- what begins neither so nor so is a number
pub value_taken : (bytes digits rest : List ℕ) (number : ℤ) → begins_with 110 bytes ≡ false → begins_with 34 bytes ≡ false → bytes ≡ digits ++ rest → list_any is_end digits ≡ false → IsAtEnd rest
    → ((n : ℤ) → mag n < 2 ^ 63 → digits ≡ signed_decimal n → number ≡ n)
    → (value : Value) (behind : List ℕ) → IsHeldValue value → BeginsWithEnd behind → bytes ≡ json_value value ++ behind → (Int number ≡ value) × (rest ≡ behind)
value_taken bytes digits rest number null text whole plain stops reads Null behind held ended is = absurd (both_ways (begins_with 110 bytes) null (ap (begins_with 110) is))
value_taken bytes digits rest number null text whole plain stops reads (Text t) behind held ended is = absurd (both_ways (begins_with 34 bytes) text (ap (begins_with 34) is))
value_taken bytes digits rest number null text whole plain stops reads (Int n) behind held ended is =
    let taken = number_taken bytes digits rest number whole plain stops reads n behind held ended is in
    (ap Int taken.0, taken.1)
