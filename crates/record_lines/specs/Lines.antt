-- The lines of a byte string: what stands before each line feed. What stands behind the last one is no line.
use Rattle.std.specs.Prelude.{◌≢◌, ℕ, ◌+◌, ◌==◌, if◌then◌else◌, nat_le, List, [], ◌∷◌, ◌++◌, length}
use Rattle.record_lines.specs.declared.line.Cut.{Cut}
use Rattle.record_lines.specs.declared.line.Cut.TheVariants as cut

-- the lines, where some bytes of the first one stand before these
abbrev pub lines_behind : List ℕ → List ℕ → List (List ℕ)
lines_behind begun [] = []
lines_behind begun (byte ∷ bytes) = if byte == 10 then begun ∷ lines_behind [] bytes else lines_behind (begun ++ byte ∷ []) bytes

-- what stands behind the last line feed
abbrev pub rest_behind : List ℕ → List ℕ → List ℕ
rest_behind begun [] = begun
rest_behind begun (byte ∷ bytes) = if byte == 10 then rest_behind [] bytes else rest_behind (begun ++ byte ∷ []) bytes

unfoldable pub lines_of : List ℕ → List (List ℕ)
lines_of bytes = lines_behind [] bytes

unfoldable pub rest_of : List ℕ → List ℕ
rest_of bytes = rest_behind [] bytes

-- no byte is a line feed
abbrev pub HasNoFeed : List ℕ → Type 0
HasNoFeed [] = Unit {0}
HasNoFeed (byte ∷ bytes) = (byte ≢ 10) × HasNoFeed bytes

-- what becomes of a line whose line feed ends at this offset
abbrev pub cut_of : ℕ → ℕ → List ℕ → Cut
cut_of limit end line = if nat_le (length line) limit then cut.Line (record { text = line; end = end }) else cut.Skipped end

-- what becomes of each line, where the first begins at this offset
abbrev pub cuts_of : ℕ → ℕ → List (List ℕ) → List Cut
cuts_of limit start [] = []
cuts_of limit start (line ∷ lines) = cut_of limit (start + length line + 1) line ∷ cuts_of limit (start + length line + 1) lines
