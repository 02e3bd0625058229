use Rattle.sql_tree.specs.View.{tree_of}
use Rattle.sql_parser.proofs.SelectArms.{a_term}
use Rattle.std.proofs.Common.{[], ◌∷◌}
use Rattle.std.proofs.lemmas.Result.{err_from_is_err_and}
use Rattle.sql_tokens.specs.declared.level.Level.TheVariants as level
use Rattle.sql_faults.specs.declared.part.Part.TheVariants.{Must, May}
use Rattle.sql_faults.specs.declared.part.Rule.TheVariants as rule
use Rattle.sql_faults.specs.declared.part.Optional.TheVariants as optional
use Rattle.sql_parser.proofs.Arms.{stopped_with}
use Rattle.sql_parser.proofs.clauses.term.Goals as goal

pub returns-in_err-node : goal.returns-in_err-node
returns-in_err-node c =
    let p = err_from_is_err_and c.from_residual.result c.from_residual.ensures.1 in
    rw (p.1, p.2) (stopped_with (Must (rule.Chain level.Or 0) ∷ []) (May optional.Direction ∷ []) c.args.reader.now c.in_err-node.field-0.0 c.in_err-node.ensures)

pub returns : goal.returns
returns c =
    a_term c.args.reader.now c.expression.new.reader c.direction-is_descending.new.reader (tree_of c.in_ok-node.node) c.direction-is_descending.result c.in_ok-node.ensures c.direction-is_descending.ensures
