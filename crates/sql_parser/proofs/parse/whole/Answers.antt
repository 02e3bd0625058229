use Rattle.sql_tree.specs.View.{tree_of}
use Rattle.sql_parser.proofs.Arms.{kind_at, kind_not}
use Rattle.sql_parser.proofs.Whole.{whole_read, whole_unended, whole_stops}
use Rattle.std.proofs.lemmas.Result.{err_from_is_err_and}
use Rattle.sql_parser.proofs.parse.whole.Goals as goal

pub returns-in_err-node : goal.returns-in_err-node
returns-in_err-node c =
    let p = err_from_is_err_and c.from_residual.result c.from_residual.ensures.1 in
    rw (p.1, p.2) (whole_stops c.args.tokens.now c.in_err-node.field-0.0 (rw c.new-reader.ensures at c.in_err-node.ensures))

pub returns-in-End : goal.returns-in-End
returns-in-End c = whole_read c.args.tokens.now c.chain.new.reader (tree_of c.in_ok-node.node) (rw c.new-reader.ensures at c.in_ok-node.ensures) (kind_at c.chain.new.reader c.peek.ensures c.in-End.is)

pub returns-in_default : goal.returns-in_default
returns-in_default c = whole_unended c.args.tokens.now c.chain.new.reader (tree_of c.in_ok-node.node) (rw c.new-reader.ensures at c.in_ok-node.ensures) (kind_not c.chain.new.reader c.peek.ensures c.in_default.not-End)
