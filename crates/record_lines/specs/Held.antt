-- How much text a cutter keeps.
use Rattle.std.specs.Prelude.{ℕ, ◌+◌, ◌≤◌, List, [], ◌∷◌, length}
use Rattle.record_lines.specs.declared.line.Cut.{Cut}
use Rattle.record_lines.specs.declared.line.Cut.TheVariants as cut
use Rattle.record_lines.specs.declared.partial.Partial.{Partial}
use Rattle.record_lines.specs.Cutting.{Cutter}

-- the bytes of a line's text; none of one that was skipped
abbrev pub text_size : Cut → ℕ
text_size (cut.Line line) = length line.text
text_size (cut.Skipped end) = 0

-- of all these lines
abbrev pub texts_size : List Cut → ℕ
texts_size [] = 0
texts_size (one ∷ cuts) = text_size one + texts_size cuts

-- the lines that are ready, and what is kept of the line that was begun
abbrev pub held_by : Cutter → ℕ
held_by cutter = texts_size cutter.ready + length cutter.partial.bytes

-- The lines that are ready came before the line that was begun, of which no more is kept than came, and than the limit.
pub record IsBounded (limit begun : ℕ) (ready : List Cut) (partial : Partial) : Type 0 where
  pub lines : texts_size ready ≤ begun
  pub came : length partial.bytes ≤ partial.size
  pub rest : length partial.bytes ≤ limit
