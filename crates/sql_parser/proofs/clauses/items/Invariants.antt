use Rattle.std.proofs.Common.{length, map, [], ◌∷◌}
use Rattle.sql_faults.specs.declared.part.Part.TheVariants.{Must, May}
use Rattle.sql_faults.specs.declared.part.Rule.TheVariants as rule
use Rattle.sql_faults.specs.declared.part.Optional.TheVariants as optional
use Rattle.sql_tree.specs.Select.{item_of}
use Rattle.sql_parser.specs.SelectGrammar as grammar
use Rattle.sql_parser.proofs.SelectLists.{IsSoFar}
use Rattle.sql_parser.proofs.clauses.items.Given as goal

abbrev pub invariant-loop-reader : goal.invariant-loop-reader
invariant-loop-reader l = IsSoFar (grammar.BehindComma grammar.SpellsItem) (grammar.WithCommas grammar.SpellsItem) (Must rule.SelectItem ∷ May optional.SelectItems ∷ []) (May optional.SelectItems ∷ []) l.fn.reader (map item_of l.items) l.reader

abbrev pub decreases-loop-reader : goal.decreases-loop-reader
decreases-loop-reader l = length l.reader
