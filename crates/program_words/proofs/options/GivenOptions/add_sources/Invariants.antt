use Rattle.std.proofs.Common.{◌≡◌, ◌++◌, drop, map}
use Rattle.program_words.proofs.Told.{source_at}
use Rattle.program_words.proofs.options.GivenOptions.add_sources.Given as goal

abbrev pub invariant-loop-path : goal.invariant-loop-path
invariant-loop-path l =
    l.sources ++ map (λ v. source_at l.kind v.now) (drop l.path-index l.path-items) ≡ l.initial.sources ++ map (λ v. source_at l.kind v.now) l.path-items
