-- A loop that makes the parts of a tree has one part more.
use Rattle.std.proofs.Common.{◌≡◌, ℕ, ◌+◌, ◌<◌, ◌++◌, List, [], ◌∷◌, length, take, get_or, ap, sym, ◌∙◌}
use Rattle.sql_tree.specs.declared.tree.Node.{Node}
use Rattle.sql_tree.specs.declared.tree.Step.{Step}
use Rattle.sql_tree.specs.View.{tree_of}
use Rattle.sql_tree.specs.View.{step_of as step_tree}
use Rattle.sql_tree.specs.View.{steps_of as step_trees}
use Rattle.sql_tree.specs.View.{trees_of}
use Rattle.sql_query.specs.declared.tree.Expr.{Expr}
use Rattle.sql_query.specs.declared.tree.ExprStep.{ExprStep}
use Rattle.sql_query.specs.Exprs.{ExprSteps, no_steps, then, Exprs, no_exprs, and_expr}
use Rattle.sql_query.specs.View.{expr_of, step_of, steps_of, exprs_of}
use Rattle.sql_scope.specs.Shown.{Names}
use Rattle.sql_scope.specs.Naming.{expr_steps_of, expr_step_of}
use Rattle.sql_scope.specs.Naming.{expr_of as expr_among}
use Rattle.sql_scope.specs.Naming.{exprs_of as exprs_among}
use Rattle.sql_query.proofs.Pushed.{steps_after-push, exprs_after-push}
use Rattle.sql_scope.proofs.Walks.{steps_more, trees_more}

pub steps_made : (names : Names) (made new : List ExprStep) (one : ExprStep) (steps : List Step) (i : ℕ) (item : Step) → i < length steps → item ≡ get_or steps i item → steps_of made ≡ expr_steps_of names (step_trees (take i steps)) → new ≡ made ++ one ∷ [] → step_of one ≡ expr_step_of names (step_tree item) → steps_of new ≡ expr_steps_of names (step_trees (take (i + 1) steps))
steps_made names made new one steps i item within is old pushed same =
    ap steps_of pushed ∙ steps_after-push no_steps made one ∙ ap (λ (x : ExprSteps). then x (step_of one)) old ∙ ap (then (expr_steps_of names (step_trees (take i steps)))) same ∙ sym (ap (expr_steps_of names) (steps_more steps i item within is))

pub exprs_made : (names : Names) (made new : List Expr) (one : Expr) (nodes : List Node) (i : ℕ) (item : Node) → i < length nodes → item ≡ get_or nodes i item → exprs_of made ≡ exprs_among names (trees_of (take i nodes)) → new ≡ made ++ one ∷ [] → expr_of one ≡ expr_among names (tree_of item) → exprs_of new ≡ exprs_among names (trees_of (take (i + 1) nodes))
exprs_made names made new one nodes i item within is old pushed same =
    ap exprs_of pushed ∙ exprs_after-push no_exprs made one ∙ ap (λ (x : Exprs). and_expr x (expr_of one)) old ∙ ap (and_expr (exprs_among names (trees_of (take i nodes)))) same ∙ sym (ap (exprs_among names) (trees_more nodes i item within is))
