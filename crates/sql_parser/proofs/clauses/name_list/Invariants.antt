use Rattle.std.proofs.Common.{length, [], ◌∷◌}
use Rattle.sql_faults.specs.declared.part.Part.TheVariants.{One, May}
use Rattle.sql_faults.specs.declared.part.Expected.TheVariants as expected
use Rattle.sql_faults.specs.declared.part.Optional.TheVariants as optional
use Rattle.sql_parser.specs.SelectGrammar as grammar
use Rattle.sql_parser.proofs.SelectLists.{IsSoFar}
use Rattle.sql_parser.proofs.clauses.name_list.Given as goal

abbrev pub invariant-loop-reader : goal.invariant-loop-reader
invariant-loop-reader l = IsSoFar (grammar.BehindComma grammar.SpellsName) (grammar.WithCommas grammar.SpellsName) (One expected.Name ∷ May optional.Names ∷ []) (May optional.Names ∷ []) l.fn.reader (l.names) l.reader

abbrev pub decreases-loop-reader : goal.decreases-loop-reader
decreases-loop-reader l = length l.reader
