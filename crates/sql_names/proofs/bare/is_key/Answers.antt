use Rattle.std.proofs.Common.{◌≡◌, sym, ◌∙◌, ap, true, false, Bool, if◌then◌else◌, map, drop, ◌+◌}
use Rattle.sql_query.specs.View.{expr_of}
use Rattle.sql_names.specs.Bare.{is_key}
use Rattle.sql_names.proofs.SameTrees.{key_then}
use Rattle.sql_names.proofs.bare.is_key.Goals as goal

pub returns-then-is_one_expr : goal.returns-then-is_one_expr
returns-then-is_one_expr c =
    let told : c.is_one_expr.result ≡ true = cc in
    sym (c.loop-key.invariant
    ∙ key_then c.args.keys.now c.loop-key.key-index c.key-item.result (expr_of c.args.expr.now) c.is_one_expr.result c.loop-key-test.true c.key-item.is c.is_one_expr.ensures
    ∙ ap (λ (b : Bool). if b then true else is_key (map expr_of (drop (c.loop-key.key-index + 1) c.args.keys.now)) (expr_of c.args.expr.now)) told)

pub loop-key-preserved : goal.loop-key-preserved
loop-key-preserved c =
    let told : c.is_one_expr.result ≡ false = cc in
    c.loop-key.invariant
    ∙ key_then c.args.keys.now c.loop-key.key-index c.key-item.result (expr_of c.args.expr.now) c.is_one_expr.result c.loop-key-test.true c.key-item.is c.is_one_expr.ensures
    ∙ ap (λ (b : Bool). if b then true else is_key (map expr_of (drop (c.loop-key.key-index + 1) c.args.keys.now)) (expr_of c.args.expr.now)) told
