use Rattle.std.proofs.Common.{◌≡◌, ℕ, List, ◌∷◌, ◌++◌, length}
use Rattle.std.specs.Prelude.{flat_map}
use Rattle.result_batches.specs.Json.{escaped}
use Rattle.batch_frames.specs.Escapes.{BeginsSpecial}
use Rattle.batch_frames.proofs.Escapes.{Front}
use Rattle.batch_frames.proofs.strings.inside.Given as goal

abbrev pub invariant-loop-byte : goal.invariant-loop-byte
invariant-loop-byte l = record {
  stops : BeginsSpecial l.rest;
  read : (text tail : List ℕ) → l.fn.bytes ≡ flat_map escaped text ++ 34 ∷ tail → Front l.inside l.rest text tail;
}

abbrev pub decreases-loop-byte : goal.decreases-loop-byte
decreases-loop-byte l = length l.rest
