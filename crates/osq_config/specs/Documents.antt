-- The JSON value of a document with comments.
use Rattle.std.specs.Prelude.{◌≡◌, ℕ, ◌==◌, ◌||◌, nat_eq, bytes_eq, Bool, List, [], ◌∷◌, codes, if◌then◌else◌, Some}
use Rattle.std.specs.List.{flat_map, starts_with}
use Rattle.std.specs.Str.{IsUtf8}
use Rattle.serde_json.specs.Data.{Data}
use Rattle.serde_json.specs.Read.{read}

-- the byte belongs to the first line
abbrev pub in_first : ℕ → List (List ℕ) → List (List ℕ)
in_first byte [] = (byte ∷ []) ∷ []
in_first byte (line ∷ lines) = (byte ∷ line) ∷ lines

-- a line feed ends a line
abbrev pub before_lines : ℕ → List (List ℕ) → List (List ℕ)
before_lines byte lines = if byte == 10 then (10 ∷ []) ∷ lines else in_first byte lines

-- the lines of a text, each with its line feed; the last has none
abbrev pub lines_of : List ℕ → List (List ℕ)
lines_of [] = [] ∷ []
lines_of (byte ∷ bytes) = before_lines byte (lines_of bytes)

-- a line without the backslash and the line feed at its end
abbrev pub without_continuation : List ℕ → List ℕ
without_continuation [] = []
without_continuation (byte ∷ rest) = if bytes_eq (byte ∷ rest) (92 ∷ 10 ∷ []) then [] else byte ∷ without_continuation rest

abbrev pub without_continuations : List ℕ → List ℕ
without_continuations text = flat_map without_continuation (lines_of text)

-- what stands behind the spaces and tabs at the front
abbrev pub behind_blanks : List ℕ → List ℕ
behind_blanks [] = []
behind_blanks (byte ∷ rest) = if byte == 32 || byte == 9 then behind_blanks rest else byte ∷ rest

unfoldable pub is_comment : List ℕ → Bool
is_comment line = starts_with nat_eq (behind_blanks line) (codes "//") || starts_with nat_eq (behind_blanks line) (codes "#")

abbrev pub unless_comment : List ℕ → List ℕ
unless_comment line = if is_comment line then [] else line

abbrev pub without_comments : List ℕ → List ℕ
without_comments text = flat_map unless_comment (lines_of text)

-- the text that is read as JSON
unfoldable pub text_of : List ℕ → List ℕ
text_of document = without_comments (without_continuations document)

pub record HasValue (document : List ℕ) (value : Data) : Type 0 where
  pub is_text : IsUtf8 document
  pub is_json : read (text_of document) ≡ Some value
