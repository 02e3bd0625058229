-- The text that is kept of a file.
use Rattle.std.specs.Prelude.{ℕ, if◌then◌else◌, List, [], map, Option, Some, None}
use Rattle.std.specs.Str.{is_utf8}
use Rattle.osq_config.specs.declared.file.PackFile.{PackFile}

-- the bytes where they are UTF-8, and the empty text for all others
abbrev pub text_of : List ℕ → List ℕ
text_of bytes = if is_utf8 bytes then bytes else []

-- a missing file has the empty text
abbrev pub text_in : Option (List ℕ) → List ℕ
text_in None = []
text_in (Some bytes) = text_of bytes

-- a text for each file of a pack
abbrev pub texts_in : (List ℕ → Option (List ℕ)) → List PackFile → List (List ℕ)
texts_in file packs = map (λ (pack : PackFile). text_in (file pack.path)) packs
