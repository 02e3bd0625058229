use Rattle.std.proofs.Common.{length, map, [], ◌∷◌}
use Rattle.sql_faults.specs.declared.part.Part.TheVariants.{Must, May}
use Rattle.sql_faults.specs.declared.part.Rule.TheVariants as rule
use Rattle.sql_faults.specs.declared.part.Optional.TheVariants as optional
use Rattle.sql_tokens.specs.declared.level.Level.TheVariants as level
use Rattle.sql_tree.specs.Select.{term_of}
use Rattle.sql_parser.specs.SelectGrammar as grammar
use Rattle.sql_parser.proofs.SelectLists.{IsSoFar}
use Rattle.sql_parser.proofs.clauses.term_list.Given as goal

abbrev pub invariant-loop-reader : goal.invariant-loop-reader
invariant-loop-reader l = IsSoFar (grammar.BehindComma grammar.SpellsTerm) (grammar.WithCommas grammar.SpellsTerm) (Must (rule.Chain level.Or 0) ∷ May optional.Direction ∷ May optional.Terms ∷ []) (May optional.Terms ∷ []) l.fn.reader (map term_of l.terms) l.reader

abbrev pub decreases-loop-reader : goal.decreases-loop-reader
decreases-loop-reader l = length l.reader
