use Rattle.std.proofs.lemmas.Result.{err_from_is_err_and}
use Rattle.sql_tokens.specs.declared.token.Kind.TheVariants as kind
use Rattle.sql_tokens.specs.declared.token.Clause.TheVariants as clause
use Rattle.std.proofs.Common.{[], ◌∷◌, rules, w64, FitsSigned}
use Rattle.sql_faults.specs.declared.part.Part.TheVariants.{Must, May}
use Rattle.sql_faults.specs.declared.part.Rule.TheVariants as rule
use Rattle.sql_faults.specs.declared.part.Optional.TheVariants as optional
use Rattle.std.proofs.lemmas.Int.{to_z-of_z}
use Rattle.sql_parser.proofs.Arms.{stopped_with}
use Rattle.sql_parser.proofs.SelectArms.{took_yes, took_no, no_limits, stopped_limits, a_limits, stopped_offset_behind}
use Rattle.sql_parser.proofs.clauses.limits.Goals as goal

pub returns-then-not-take : goal.returns-then-not-take
returns-then-not-take c =
    let t = took_no (kind.Clause clause.Limit) c.args.reader.now c.take.new.reader c.take.result c.take.ensures c.if-not-take.true in
    no_limits c.args.reader.now c.take.new.reader t.0 t.1

pub returns-in_err-limit : goal.returns-in_err-limit
returns-in_err-limit c =
    let t = took_yes (kind.Clause clause.Limit) c.args.reader.now c.take.new.reader c.take.result c.take.ensures c.if-not-take.false in
    let p = err_from_is_err_and c.from_residual.result c.from_residual.ensures.1 in
    rw (p.1, p.2) (stopped_limits c.args.reader.now c.take.new.reader c.in_err-limit.field-0.0 t.0 t.1 (stopped_with (Must rule.Integer ∷ []) (May optional.Offset ∷ []) c.take.new.reader c.in_err-limit.field-0.0 c.in_err-limit.ensures))

pub returns-in_err-skip : goal.returns-in_err-skip
returns-in_err-skip c =
    let t = took_yes (kind.Clause clause.Limit) c.args.reader.now c.take.new.reader c.take.result c.take.ensures c.if-not-take.false in
    let p = err_from_is_err_and c.from_residual-in_err-skip.result c.from_residual-in_err-skip.ensures.1 in
    rw (p.1, p.2) (stopped_offset_behind c.args.reader.now c.take.new.reader c.integer.new.reader c.in_ok-limit.limit c.in_err-skip.field-0.0 t.0 t.1 c.in_ok-limit.ensures c.in_err-skip.ensures)

pub returns : goal.returns
returns c =
    let t = took_yes (kind.Clause clause.Limit) c.args.reader.now c.take.new.reader c.take.result c.take.ensures c.if-not-take.false in
    let fits : FitsSigned w64 c.in_ok-limit.limit = search rules in
    rw (to_z-of_z w64 c.in_ok-limit.limit fits) (a_limits c.args.reader.now c.take.new.reader c.integer.new.reader c.offset.new.reader c.in_ok-limit.limit c.in_ok-skip.skip t.0 t.1 c.in_ok-limit.ensures c.in_ok-skip.ensures)
