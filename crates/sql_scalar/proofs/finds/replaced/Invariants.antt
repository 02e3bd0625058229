use Rattle.std.proofs.Common.{◌≡◌, ◌++◌, length}
use denote.Text.{Utf8}
use denote.Shadow.{shadow}
use Rattle.std.specs.String.{string_bytes}
use Rattle.sql_scalar.specs.Finds.{replaced}
use Rattle.sql_scalar.proofs.finds.replaced.Given as goal

abbrev pub invariant-loop-front : goal.invariant-loop-front
invariant-loop-front l = record {
  text : shadow (Utf8 l.rest);
  so_far : replaced l.fn.wanted l.fn.other 0 l.fn.text ≡ string_bytes l.made ++ replaced l.fn.wanted l.fn.other 0 l.rest;
}

abbrev pub decreases-loop-front : goal.decreases-loop-front
decreases-loop-front l = length l.rest
