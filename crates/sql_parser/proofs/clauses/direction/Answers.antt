use Rattle.sql_tokens.specs.declared.token.Kind.TheVariants as kind
use Rattle.sql_tokens.specs.declared.token.Clause.TheVariants as clause
use Rattle.sql_parser.proofs.SelectArms.{took_yes, took_no, ascending, desc_or_none}
use Rattle.sql_parser.proofs.clauses.direction.Goals as goal

pub returns-then-take : goal.returns-then-take
returns-then-take c =
    let t = took_yes (kind.Clause clause.Asc) c.args.reader.now c.take.new.reader c.take.result c.take.ensures c.if-take.true in
    ascending c.args.reader.now c.take.new.reader t.0 t.1

pub returns : goal.returns
returns c =
    let t = took_no (kind.Clause clause.Asc) c.args.reader.now c.take.new.reader c.take.result c.take.ensures c.if-take.false in
    desc_or_none c.args.reader.now c.take.new.reader c.take-2.new.reader c.take-2.result t.0 t.1 c.take-2.ensures
