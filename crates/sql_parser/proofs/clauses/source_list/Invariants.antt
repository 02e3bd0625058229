use Rattle.std.proofs.Common.{length, map, [], ◌∷◌}
use Rattle.sql_faults.specs.declared.part.Part.TheVariants.{One, May}
use Rattle.sql_faults.specs.declared.part.Expected.TheVariants as expected
use Rattle.sql_faults.specs.declared.part.Optional.TheVariants as optional
use Rattle.sql_tree.specs.Select.{ref_of}
use Rattle.sql_parser.specs.SelectGrammar as grammar
use Rattle.sql_parser.proofs.SelectLists.{IsSoFar}
use Rattle.sql_parser.proofs.clauses.source_list.Given as goal

abbrev pub invariant-loop-sources : goal.invariant-loop-sources
invariant-loop-sources l = IsSoFar (grammar.SpellsFurtherTable) grammar.SpellsTables (One expected.Name ∷ May optional.Alias ∷ May optional.Sources ∷ []) (May optional.Sources ∷ []) l.fn.reader (map ref_of l.sources) l.reader

abbrev pub decreases-loop-sources : goal.decreases-loop-sources
decreases-loop-sources l = length l.reader
