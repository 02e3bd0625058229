use Rattle.std.proofs.Common.{Bor, map, sym, ◌∙◌}
use Rattle.std.proofs.lemmas.Result.{IfOk-weaker}
use Rattle.sql_query.specs.declared.tree.Expr.{Expr}
use Rattle.sql_query.specs.View.{expr_of}
use Rattle.sql_meaning.specs.Firsts.{same_values}
use Rattle.sql_groups.specs.Grouping.{keys_of}
use Rattle.sql_groups.specs.Keys.{key_worths, row_values}
use Rattle.sql_groups.proofs.Adding.{alike-rows}
use Rattle.sql_groups.proofs.Gathered.{folds-more, folds-still}
use Rattle.sql_groups.proofs.grouped.look_by.Goals as goal

pub returns : goal.returns
returns c =
    let exprs = map (λ (expr : Bor Expr). expr_of expr.now) c.args.exprs.now in
    IfOk-weaker c.add_by.result _ _
    (λ told adds h rows was.
    folds-more same_values (row_values exprs) (row_values exprs) (alike-rows exprs) (map expr_of c.args.condition.now.parts) c.args.items.now rows c.args.row (key_worths c.in_ok-key.key)
    (keys_of c.args.found.now) (keys_of c.add_by.new.found) c.args.found.now.groups.items c.add_by.new.found.groups.items
    (sym c.in_ok-is_kept.ensures ∙ c.if-not-branch.false) c.in_ok-key.ensures (adds h).0 (adds h).1 was)
    c.add_by.ensures

pub returns-then-not-branch : goal.returns-then-not-branch
returns-then-not-branch c = λ h rows was.
    let exprs = map (λ (expr : Bor Expr). expr_of expr.now) c.args.exprs.now in
    folds-still same_values (row_values exprs) (row_values exprs) (alike-rows exprs) (map expr_of c.args.condition.now.parts) c.args.items.now rows c.args.row (keys_of c.args.found.now) c.args.found.now.groups.items
    (sym c.in_ok-is_kept.ensures ∙ c.if-not-branch.true) was
