use Rattle.std.proofs.lemmas.Result.{err_from_is_err_and}
use Rattle.sql_tokens.specs.declared.token.Kind.TheVariants as kind
use Rattle.sql_tokens.specs.declared.token.Clause.TheVariants as clause
use Rattle.sql_tree.specs.View.{tree_of}
use Rattle.sql_parser.proofs.SelectArms.{took_yes, took_no, an_on, stopped_on, a_using, stopped_using, no_condition}
use Rattle.sql_parser.proofs.clauses.condition.Goals as goal

pub returns-in_err-node : goal.returns-in_err-node
returns-in_err-node c =
    let t = took_yes (kind.Clause clause.On) c.args.reader.now c.take.new.reader c.take.result c.take.ensures c.if-take.true in
    let p = err_from_is_err_and c.from_residual.result c.from_residual.ensures.1 in
    rw (p.1, p.2) (stopped_on c.args.reader.now c.take.new.reader c.in_err-node.field-0.0 t.0 t.1 c.in_err-node.ensures)

pub returns-then-take : goal.returns-then-take
returns-then-take c =
    let t = took_yes (kind.Clause clause.On) c.args.reader.now c.take.new.reader c.take.result c.take.ensures c.if-take.true in
    an_on c.args.reader.now c.take.new.reader c.expression.new.reader (tree_of c.in_ok-node.node) c.new.result t.0 t.1 c.new.ensures c.in_ok-node.ensures

pub returns-in_err-names : goal.returns-in_err-names
returns-in_err-names c =
    let t = took_no (kind.Clause clause.On) c.args.reader.now c.take.new.reader c.take.result c.take.ensures c.if-take.false in
    let u = took_yes (kind.Clause clause.Using) c.take.new.reader c.take-2.new.reader c.take-2.result c.take-2.ensures c.if-take-2.true in
    let p = err_from_is_err_and c.from_residual-in_err-names.result c.from_residual-in_err-names.ensures.1 in
    rw (p.1, p.2) (stopped_using c.args.reader.now c.take.new.reader c.take-2.new.reader c.in_err-names.field-0.0 t.1 u.0 u.1 c.in_err-names.ensures)

pub returns-then-take-2 : goal.returns-then-take-2
returns-then-take-2 c =
    let t = took_no (kind.Clause clause.On) c.args.reader.now c.take.new.reader c.take.result c.take.ensures c.if-take.false in
    let u = took_yes (kind.Clause clause.Using) c.take.new.reader c.take-2.new.reader c.take-2.result c.take-2.ensures c.if-take-2.true in
    a_using c.args.reader.now c.take.new.reader c.take-2.new.reader c.names.new.reader c.in_ok-names.names t.1 u.0 u.1 c.in_ok-names.ensures

pub returns : goal.returns
returns c =
    let t = took_no (kind.Clause clause.On) c.args.reader.now c.take.new.reader c.take.result c.take.ensures c.if-take.false in
    let u = took_no (kind.Clause clause.Using) c.take.new.reader c.take-2.new.reader c.take-2.result c.take-2.ensures c.if-take-2.false in
    no_condition c.args.reader.now c.take.new.reader c.take-2.new.reader c.new-2.result t.0 t.1 u.0 u.1 c.new-2.ensures
