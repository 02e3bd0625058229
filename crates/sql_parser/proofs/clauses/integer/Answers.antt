use Rattle.std.proofs.lemmas.Result.{err_from_is_err_and}
use Rattle.std.proofs.Common.{rules, w64, FitsSigned, ap, ◌∙◌}
use Rattle.std.proofs.lemmas.Int.{to_z-of_z}
use Rattle.sql_parser.specs.SelectGrammar as grammar
use Rattle.sql_parser.proofs.Arms.{kind_at, kind_not, stopped_later}
use Rattle.sql_parser.proofs.SelectArms.{plus_integer, minus_integer, unsigned_integer, leads_minus_sign}
use Rattle.sql_parser.proofs.clauses.integer.Goals as goal

pub returns-in_err-size-in-Minus : goal.returns-in_err-size-in-Minus
returns-in_err-size-in-Minus c =
    let p = err_from_is_err_and c.from_residual.result c.from_residual.ensures.1 in
    rw (p.1, p.2) (stopped_later c.in_err-size-in-Minus.field-0.0 (leads_minus_sign c.args.reader.now c.advance-in-Minus.new.self (kind_at c.args.reader.now c.peek.ensures c.in-Minus.is) c.advance-in-Minus.ensures) c.in_err-size-in-Minus.ensures)

pub returns-in-Plus : goal.returns-in-Plus
returns-in-Plus c =
    plus_integer c.args.reader.now c.advance.new.self c.number.new.reader c.number.result (kind_at c.args.reader.now c.peek.ensures c.in-Plus.is) c.advance.ensures c.number.ensures

pub returns-in_ok-size-in-Minus : goal.returns-in_ok-size-in-Minus
returns-in_ok-size-in-Minus c =
    let size_fits : FitsSigned w64 c.in_ok-size-in-Minus.size = search rules in
    let fits : FitsSigned w64 c.minus.result = search rules in
    rw (to_z-of_z w64 c.minus.result fits) (minus_integer c.args.reader.now c.advance-in-Minus.new.self c.number-in-Minus.new.reader c.in_ok-size-in-Minus.size c.minus.result (kind_at c.args.reader.now c.peek.ensures c.in-Minus.is) c.advance-in-Minus.ensures c.in_ok-size-in-Minus.ensures (c.minus.ensures ∙ ap grammar.minus (to_z-of_z w64 c.in_ok-size-in-Minus.size size_fits)))

pub returns-in_default : goal.returns-in_default
returns-in_default c =
    unsigned_integer c.args.reader.now c.number-in_default.new.reader c.number-in_default.result (kind_not c.args.reader.now c.peek.ensures c.in_default.not-Plus) (kind_not c.args.reader.now c.peek.ensures c.in_default.not-Minus) c.number-in_default.ensures
