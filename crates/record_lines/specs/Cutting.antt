-- What a cutter of lines stands for.
use Rattle.std.specs.Prelude.{◌≡◌, ℕ, ◌+◌, List, ◌∷◌, ◌++◌, length}
use Rattle.record_lines.specs.declared.line.Cut.{Cut}
use Rattle.record_lines.specs.declared.partial.Partial.{Partial}
use Rattle.record_lines.specs.Lines.{lines_of, rest_of, HasNoFeed, cut_of, cuts_of}
use Rattle.record_lines.specs.Rests.{IsRest}

pub record Cutter : Type 0 where
  pub limit : ℕ
  pub ready : List Cut
  pub begun : ℕ
  pub partial : Partial

-- The cutter has these bytes of its stream before it, from this offset on: the lines in them are ready, and of the rest it keeps no
-- more than the limit.
pub record HasCut (cutter : Cutter) (start : ℕ) (stream : List ℕ) : Type 0 where
  pub ready : cutter.ready ≡ cuts_of cutter.limit start (lines_of stream)
  pub begun : cutter.begun + length (rest_of stream) ≡ start + length stream
  pub rest : IsRest cutter.limit (rest_of stream) cutter.partial

-- the first line of the stream was taken
pub record TakesLine (old new : Cutter) (start : ℕ) (stream : List ℕ) (cut : Cut) : Type 0 where
  pub line : List ℕ
  pub behind : List ℕ
  pub stream_is : stream ≡ line ++ 10 ∷ behind
  pub plain : HasNoFeed line
  pub cut_is : cut ≡ cut_of old.limit (start + length line + 1) line
  pub limit : new.limit ≡ old.limit
  pub stands : HasCut new (start + length line + 1) behind
