use Rattle.std.proofs.lemmas.Result.{err_from_is_err_and}
use Rattle.sql_tokens.specs.declared.token.Kind.TheVariants as kind
use Rattle.sql_tokens.specs.declared.token.Clause.TheVariants as clause
use Rattle.std.proofs.Common.{rules, w64, FitsSigned}
use Rattle.std.proofs.lemmas.Int.{to_z-of_z}
use Rattle.sql_parser.proofs.SelectArms.{took_yes, took_no, no_offset, stopped_offset, a_offset}
use Rattle.sql_parser.proofs.clauses.offset.Goals as goal

pub returns-then-not-take : goal.returns-then-not-take
returns-then-not-take c =
    let t = took_no (kind.Clause clause.Offset) c.args.reader.now c.take.new.reader c.take.result c.take.ensures c.if-not-take.true in
    no_offset c.args.reader.now c.take.new.reader t.0 t.1

pub returns-in_err-skip : goal.returns-in_err-skip
returns-in_err-skip c =
    let t = took_yes (kind.Clause clause.Offset) c.args.reader.now c.take.new.reader c.take.result c.take.ensures c.if-not-take.false in
    let p = err_from_is_err_and c.from_residual.result c.from_residual.ensures.1 in
    rw (p.1, p.2) (stopped_offset c.args.reader.now c.take.new.reader c.in_err-skip.field-0.0 t.0 t.1 c.in_err-skip.ensures)

pub returns : goal.returns
returns c =
    let t = took_yes (kind.Clause clause.Offset) c.args.reader.now c.take.new.reader c.take.result c.take.ensures c.if-not-take.false in
    let fits : FitsSigned w64 c.in_ok-skip.skip = search rules in
    rw (to_z-of_z w64 c.in_ok-skip.skip fits) (a_offset c.args.reader.now c.take.new.reader c.integer.new.reader c.in_ok-skip.skip t.0 t.1 c.in_ok-skip.ensures)
