use Rattle.std.proofs.Common.{length, map, [], ◌∷◌}
use Rattle.sql_faults.specs.declared.part.Part.TheVariants.{Must, May}
use Rattle.sql_faults.specs.declared.part.Rule.TheVariants as rule
use Rattle.sql_faults.specs.declared.part.Optional.TheVariants as optional
use Rattle.sql_tokens.specs.declared.level.Level.TheVariants as level
use Rattle.sql_tree.specs.View.{tree_of}
use Rattle.sql_parser.specs.SelectGrammar as grammar
use Rattle.sql_parser.proofs.SelectLists.{IsSoFar}
use Rattle.sql_parser.proofs.clauses.expression_list.Given as goal

abbrev pub invariant-loop-reader : goal.invariant-loop-reader
invariant-loop-reader l = IsSoFar (grammar.BehindComma grammar.SpellsExpression) (grammar.WithCommas grammar.SpellsExpression) (Must (rule.Chain level.Or 0) ∷ May (optional.Item 0) ∷ []) (May (optional.Item 0) ∷ []) l.fn.reader (map tree_of l.nodes) l.reader

abbrev pub decreases-loop-reader : goal.decreases-loop-reader
decreases-loop-reader l = length l.reader
