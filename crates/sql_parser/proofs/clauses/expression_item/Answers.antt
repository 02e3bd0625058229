use Rattle.sql_tree.specs.View.{tree_of}
use Rattle.std.proofs.Common.{refl, [], ◌∷◌}
use Rattle.sql_parser.proofs.SelectArms.{an_expression_item}
use Rattle.std.proofs.lemmas.Result.{err_from_is_err_and}
use Rattle.sql_tokens.specs.declared.level.Level.TheVariants as level
use Rattle.sql_faults.specs.declared.part.Part.TheVariants.{Must, May}
use Rattle.sql_faults.specs.declared.part.Rule.TheVariants as rule
use Rattle.sql_faults.specs.declared.part.Optional.TheVariants as optional
use Rattle.sql_parser.proofs.Laws.{leads_with}
use Rattle.sql_parser.proofs.Arms.{stopped_with, stops_behind}
use Rattle.sql_parser.proofs.clauses.expression_item.Goals as goal

pub returns-in_err-node : goal.returns-in_err-node
returns-in_err-node c =
    let p = err_from_is_err_and c.from_residual.result c.from_residual.ensures.1 in
    rw (p.1, p.2) (stopped_with (Must (rule.Chain level.Or 0) ∷ []) (May optional.Alias ∷ []) c.args.reader.now c.in_err-node.field-0.0 c.in_err-node.ensures)

pub returns-in_err-alias : goal.returns-in_err-alias
returns-in_err-alias c =
    let p = err_from_is_err_and c.from_residual-in_err-alias.result c.from_residual-in_err-alias.ensures.1 in
    rw (p.1, p.2) (stops_behind (May optional.Alias ∷ []) [] c.in_err-alias.field-0.0 (leads_with (May optional.Alias ∷ []) c.in_ok-node.ensures.leads) c.in_err-alias.ensures)

pub returns : goal.returns
returns c =
    an_expression_item c.args.reader.now c.expression.new.reader c.alias.new.reader (tree_of c.in_ok-node.node) c.in_ok-alias.alias _ c.in_ok-node.ensures c.in_ok-alias.ensures (rw (c.peek-start.ensures, c.peek-end.ensures) refl)
