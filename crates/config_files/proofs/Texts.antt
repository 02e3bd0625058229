-- The text of bytes, by whether they are UTF-8.
use Rattle.std.proofs.Common.{◌≡◌, refl, ap, ℕ, List, [], if◌then◌else◌}
use Rattle.std.specs.Prelude.{Bool, true, false}
use Rattle.std.specs.Str.{IsUtf8, is_utf8}
use Rattle.std.proofs.lemmas.Str.{IsUtf8-from_is_utf8, is_utf8-from_IsUtf8}
use Rattle.config_files.specs.Texts.{text_of}

pub text_of-utf8 : (bytes : List ℕ) → IsUtf8 bytes → text_of bytes ≡ bytes
text_of-utf8 bytes is = ap (λ (test : Bool). if test then bytes else []) (is_utf8-from_IsUtf8 bytes is)

text_by : (bytes : List ℕ) → (IsUtf8 bytes → ⊥) → (test : Bool) → is_utf8 bytes ≡ test → text_of bytes ≡ []
text_by bytes refused true is = absurd (refused (IsUtf8-from_is_utf8 bytes is))
text_by bytes refused false is = ap (λ (test : Bool). if test then bytes else []) is

pub text_of-others : (bytes : List ℕ) → (IsUtf8 bytes → ⊥) → text_of bytes ≡ []
text_of-others bytes refused = text_by bytes refused (is_utf8 bytes) refl
