use Rattle.sql_tokens.specs.declared.token.Kind.TheVariants as kind
use Rattle.sql_tokens.specs.declared.token.Clause.TheVariants as clause
use Rattle.sql_parser.proofs.SelectArms.{a_join, took_yes, took_no, fails_join}
use Rattle.sql_parser.proofs.clauses.join.Goals as goal

pub returns-then-take : goal.returns-then-take
returns-then-take c =
    let t = took_yes (kind.Clause clause.Join) c.args.reader.now c.take.new.reader c.take.result c.take.ensures c.if-take.true in
    a_join c.args.form c.args.reader.now c.take.new.reader t.0 t.1

pub returns-else-take : goal.returns-else-take
returns-else-take c =
    let t = took_no (kind.Clause clause.Join) c.args.reader.now c.take.new.reader c.take.result c.take.ensures c.if-take.false in
    fails_join c.args.reader.now t.0
