use Rattle.std.proofs.Common.{◌≡◌, ◌++◌, length}
use denote.Shadow.{shadow}
use denote.Text.{Utf8}
use Rattle.std.specs.String.{string_bytes}
use Rattle.osq_config.specs.Documents.{without_continuations}
use Rattle.osq_config.proofs.document.without_continuations.Given as goal

abbrev pub invariant-loop-line : goal.invariant-loop-line
invariant-loop-line l = record { text : shadow (Utf8 l.rest); so_far : without_continuations l.text ≡ string_bytes l.joined ++ without_continuations l.rest }

abbrev pub decreases-loop-line : goal.decreases-loop-line
decreases-loop-line l = length l.rest
