use Rattle.std.proofs.Common.{Bor, map, sym, ◌∙◌}
use Rattle.std.proofs.lemmas.Result.{on_ok_weaker}
use Rattle.sql_query.specs.declared.tree.Expr.{Expr}
use Rattle.sql_query.specs.View.{expr_of}
use Rattle.sql_meaning.specs.Firsts.{same_values}
use Rattle.sql_groups.specs.Different.{keys_of}
use Rattle.sql_groups.specs.Keys.{key_worths, row_values}
use Rattle.sql_groups.proofs.Adding.{alike-rows, stands-more, stands-still}
use Rattle.sql_groups.proofs.different.look_by.Goals as goal

pub returns-in_ok-key : goal.returns-in_ok-key
returns-in_ok-key c =
    let exprs = map (λ (expr : Bor Expr). expr_of expr.now) c.args.exprs.now in
    on_ok_weaker c.add_key.result
    (λ adds rows was.
    stands-more same_values (row_values exprs) (row_values exprs) (alike-rows exprs) (map expr_of c.args.condition.now.parts) rows c.args.row (key_worths c.in_ok-key.key)
    (keys_of c.args.found.now) (keys_of c.add_key.new.found) c.args.found.now.rows c.add_key.new.found.rows
    (sym c.in_ok-is_kept.ensures ∙ c.if-branch.true) c.in_ok-key.ensures adds.0 adds.1 was)
    c.add_key.ensures

pub returns-else-branch : goal.returns-else-branch
returns-else-branch c = λ rows was.
    let exprs = map (λ (expr : Bor Expr). expr_of expr.now) c.args.exprs.now in
    stands-still same_values (row_values exprs) (row_values exprs) (alike-rows exprs) (map expr_of c.args.condition.now.parts) rows c.args.row (keys_of c.args.found.now) c.args.found.now.rows
    (sym c.in_ok-is_kept.ensures ∙ c.if-branch.false) was
