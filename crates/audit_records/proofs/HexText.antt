-- The bytes and the texts that pairs of hexadecimal digits stand for.
use Rattle.std.proofs.Common.{◌≡◌, ℕ, Bool, true, false, cond, List, refl, ap, sym, Some, None, Ok, Err}
use Rattle.std.specs.Prelude.{IsUtf8}
use Rattle.std.specs.Str.{is_utf8}
use Rattle.std.proofs.lemmas.Str.{IsUtf8-from_is_utf8, is_utf8-from_IsUtf8}
use Rattle.hex.specs.Hex.{decode_of}
use Rattle.hex.specs.declared.error.FromHexError.{FromHexError}
use Rattle.audit_records.specs.FieldValues.{bytes_of, hex_bytes, utf8_text}

pub is_utf8-broken : (bytes : List ℕ) → ¬ (IsUtf8 bytes) → is_utf8 bytes ≡ false
is_utf8-broken bytes broken = by_test (is_utf8 bytes) refl where
  by_test : (t : Bool) → is_utf8 bytes ≡ t → t ≡ false
  by_test true whole = absurd (broken (IsUtf8-from_is_utf8 bytes whole))
  by_test false _ = refl

pub utf8_text-whole : (bytes : List ℕ) → IsUtf8 bytes → utf8_text bytes ≡ Some bytes
utf8_text-whole bytes whole = ap (λ t. cond t (Some bytes) None) (is_utf8-from_IsUtf8 bytes whole)

pub utf8_text-broken : (bytes : List ℕ) → ¬ (IsUtf8 bytes) → utf8_text bytes ≡ None
utf8_text-broken bytes broken = ap (λ t. cond t (Some bytes) None) (is_utf8-broken bytes broken)

pub hex_bytes-read : (text bytes : List ℕ) → decode_of text ≡ Ok bytes → Some bytes ≡ hex_bytes text
unfolding hex_bytes
hex_bytes-read text bytes is = sym (ap bytes_of is)

pub hex_bytes-refused : (text : List ℕ) (e : FromHexError) → decode_of text ≡ Err e → None ≡ hex_bytes text
unfolding hex_bytes
hex_bytes-refused text e is = sym (ap bytes_of is)
