use Rattle.sql_tokens.specs.declared.token.Kind.TheVariants as kind
use Rattle.sql_tokens.specs.declared.token.Clause.TheVariants as clause
use Rattle.sql_parser.proofs.Arms.{kind_at, kind_not}
use Rattle.std.proofs.Common.{true, false}
use Rattle.sql_parser.proofs.SelectArms.{took_yes, took_no, no_opening, an_opening, a_distinct, no_distinct}
use Rattle.sql_parser.proofs.clauses.opening.Goals as goal

pub returns-then-not-take : goal.returns-then-not-take
returns-then-not-take c =
    let t = took_no (kind.Clause clause.Select) c.args.reader.now c.take.new.reader c.take.result c.take.ensures c.if-not-take.true in
    no_opening c.args.reader.now t.0

pub returns-in-Distinct : goal.returns-in-Distinct
returns-in-Distinct c =
    let t = took_yes (kind.Clause clause.Select) c.args.reader.now c.take.new.reader c.take.result c.take.ensures c.if-not-take.false in
    an_opening c.args.reader.now c.take.new.reader c.advance.new.self true t.0 t.1 (a_distinct c.take.new.reader c.advance.new.self (kind_at c.take.new.reader c.peek.ensures c.in-Distinct.is) c.advance.ensures)

pub returns-in_default : goal.returns-in_default
returns-in_default c =
    let t = took_yes (kind.Clause clause.Select) c.args.reader.now c.take.new.reader c.take.result c.take.ensures c.if-not-take.false in
    an_opening c.args.reader.now c.take.new.reader c.take.new.reader false t.0 t.1 (no_distinct c.take.new.reader (kind_not c.take.new.reader c.peek.ensures c.in_default.not-Distinct))
