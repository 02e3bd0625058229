use Rattle.std.proofs.lemmas.Result.{err_from_is_err_and}
use Rattle.sql_tree.specs.View.{trees_of}
use Rattle.sql_parser.proofs.Arms.{kind_at, kind_not}
use Rattle.sql_parser.proofs.Calls.{call_unclosed, call_refused}
use Rattle.sql_parser.proofs.descent.close_call.Goals as goal

pub returns-in_default : goal.returns-in_default
returns-in_default c = call_unclosed c.args.place c.args.word c.args.shape c.args.reader.now (kind_not c.args.reader.now c.peek.ensures c.in_default.not-Close)

pub returns-in_err-node : goal.returns-in_err-node
returns-in_err-node c =
    let p = err_from_is_err_and c.from_residual.result c.from_residual.ensures.1 in
    rw (p.1, p.2) (call_refused c.args.place c.args.word c.args.shape (trees_of c.args.arguments.items) c.args.reader.now c.in_err-node.field-0.0 (kind_at c.args.reader.now c.peek.ensures c.in-Close.is) c.in_err-node.ensures)
