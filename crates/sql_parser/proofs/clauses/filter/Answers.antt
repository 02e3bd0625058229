use Rattle.std.proofs.lemmas.Result.{err_from_is_err_and}
use Rattle.sql_tokens.specs.declared.token.Kind.TheVariants as kind
use Rattle.sql_tokens.specs.declared.token.Clause.TheVariants as clause
use Rattle.sql_tree.specs.View.{tree_of}
use Rattle.sql_parser.proofs.SelectArms.{took_yes, took_no, no_filter, stopped_filter, a_filter}
use Rattle.sql_parser.proofs.clauses.filter.Goals as goal

pub returns-then-not-take : goal.returns-then-not-take
returns-then-not-take c =
    let t = took_no (kind.Clause clause.Where) c.args.reader.now c.take.new.reader c.take.result c.take.ensures c.if-not-take.true in
    no_filter c.args.reader.now c.take.new.reader t.0 t.1

pub returns-in_err-node : goal.returns-in_err-node
returns-in_err-node c =
    let t = took_yes (kind.Clause clause.Where) c.args.reader.now c.take.new.reader c.take.result c.take.ensures c.if-not-take.false in
    let p = err_from_is_err_and c.from_residual.result c.from_residual.ensures.1 in
    rw (p.1, p.2) (stopped_filter c.args.reader.now c.take.new.reader c.in_err-node.field-0.0 t.0 t.1 c.in_err-node.ensures)

pub returns : goal.returns
returns c =
    let t = took_yes (kind.Clause clause.Where) c.args.reader.now c.take.new.reader c.take.result c.take.ensures c.if-not-take.false in
    a_filter c.args.reader.now c.take.new.reader c.expression.new.reader (tree_of c.in_ok-node.node) t.0 t.1 c.in_ok-node.ensures
