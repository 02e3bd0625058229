-- How much of a source is read, and what a line may have.
use Rattle.std.specs.Prelude.{ℕ}

-- a line has at most so many bytes; a longer one is skipped
abbrev pub LINE_LIMIT : ℕ
LINE_LIMIT = 65536

-- a step ends once it has read so many bytes
abbrev pub STEP_BYTES : ℕ
STEP_BYTES = 16777216

-- one read takes at most so many
abbrev pub PIECE_BYTES : ℕ
PIECE_BYTES = 65536
