use Rattle.sql_tree.specs.Select.{select_of}
use Rattle.sql_parser.proofs.Whole.{whole_select_read, whole_select_stops, whole_select_unended}
use Rattle.std.proofs.lemmas.Result.{err_from_is_err_and}
use Rattle.sql_parser.proofs.parse.whole_select.Goals as goal

pub returns-in_err-select : goal.returns-in_err-select
returns-in_err-select c =
    let p = err_from_is_err_and c.from_residual.result c.from_residual.ensures.1 in
    rw (p.1, p.2) (whole_select_stops c.args.tokens.now c.in_err-select.field-0.0 (rw c.new-reader.ensures at c.in_err-select.ensures))

pub returns-else-is_ended : goal.returns-else-is_ended
returns-else-is_ended c = whole_select_unended c.args.tokens.now c.select.new.reader (select_of c.in_ok-select.select) c.is_ended.result (rw c.new-reader.ensures at c.in_ok-select.ensures) c.is_ended.ensures c.if-is_ended.false

pub returns-then-is_ended : goal.returns-then-is_ended
returns-then-is_ended c = whole_select_read c.args.tokens.now c.select.new.reader (select_of c.in_ok-select.select) c.is_ended.result (rw c.new-reader.ensures at c.in_ok-select.ensures) c.is_ended.ensures c.if-is_ended.true
