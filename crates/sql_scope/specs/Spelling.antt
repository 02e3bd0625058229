-- The texts that spans and names spell.
use Rattle.std.specs.Prelude.{ℕ, ◌-◌, ◌==◌, if◌then◌else◌, Bool, true, false, List, [], ◌∷◌, length, take, drop}
use Rattle.std.specs.Str.{str_eq_ignore_ascii_case}
use Rattle.std.specs.Str.Lossy.{utf8_lossy}
use Rattle.sql_tree.specs.declared.span.Span.{Span}
use Rattle.sql_tree.specs.declared.tree.Name.{Name}

-- the bytes of a span
abbrev pub piece : List ℕ → Span → List ℕ
piece text span = take (span.end - span.start) (drop span.start text)

-- without the first byte and the last, which are the quotes
abbrev pub inside : List ℕ → List ℕ
inside bytes = take (length bytes - 2) (drop 1 bytes)

-- a quote is written twice, and the second is left out; `after` says that the byte before was the first
abbrev pub single : ℕ → Bool → List ℕ → List ℕ
single quote after [] = []
single quote true (byte ∷ rest) = single quote false rest
single quote false (byte ∷ rest) = byte ∷ single quote (byte == quote) rest

abbrev pub unquoted : ℕ → List ℕ → List ℕ
unquoted quote bytes = single quote false (inside bytes)

-- The text of a span. The spans of a parsed text cut no character; of others the broken characters are replaced.
unfoldable pub span_text : List ℕ → Span → List ℕ
span_text text span = utf8_lossy (piece text span)

-- the text of a literal between single quotes
unfoldable pub literal_text : List ℕ → Span → List ℕ
literal_text text span = utf8_lossy (unquoted 39 (piece text span))

-- the text of a name, without its quotes
unfoldable pub name_text : List ℕ → Name → List ℕ
name_text text name = if name.is_quoted then utf8_lossy (unquoted 34 (piece text name.span)) else utf8_lossy (piece text name.span)

-- names ignore ASCII case
unfoldable pub same_name : List ℕ → List ℕ → Bool
same_name a b = str_eq_ignore_ascii_case a b
