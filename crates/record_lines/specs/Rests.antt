-- What is kept of a line that has no line feed yet.
use Rattle.std.specs.Prelude.{◌≡◌, ℕ, if◌then◌else◌, nat_le, List, [], length}
use Rattle.record_lines.specs.declared.partial.Partial.{Partial}

-- nothing of a line that is longer than the limit
abbrev pub kept : ℕ → List ℕ → List ℕ
kept limit rest = if nat_le (length rest) limit then rest else []

pub record IsRest (limit : ℕ) (rest : List ℕ) (partial : Partial) : Type 0 where
  pub size : partial.size ≡ length rest
  pub bytes : partial.bytes ≡ kept limit rest
