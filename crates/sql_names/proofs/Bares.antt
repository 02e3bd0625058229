-- A loop that looks for bare columns has one part more.
use Rattle.std.proofs.Common.{◌≡◌, ℕ, ◌+◌, ◌<◌, List, length, take, get_or, ap, ◌∙◌, Option}
use Rattle.sql_tree.specs.declared.tree.Node.{Node}
use Rattle.sql_tree.specs.declared.tree.Step.{Step}
use Rattle.sql_tree.specs.View.{tree_of, step_of, steps_of, trees_of}
use Rattle.sql_names.specs.Bare.{bare, bare_step, bare_steps, bare_trees}
use Rattle.sql_query.specs.Exprs.{ExprTree}
use Rattle.sql_names.specs.Least.{lesser}
use Rattle.sql_scope.specs.Shown.{Names}
use Rattle.sql_scope.proofs.Walks.{steps_more, trees_more}

pub steps_bare : (names : Names) (keys : List ExprTree) (place new one : Option ℕ) (steps : List Step) (i : ℕ) (item : Step) → i < length steps → item ≡ get_or steps i item → place ≡ bare_steps names keys (steps_of (take i steps)) → new ≡ lesser place one → one ≡ bare_step names keys (step_of item) → new ≡ bare_steps names keys (steps_of (take (i + 1) steps))
steps_bare names keys place new one steps i item within is old next here =
    rw (steps_more steps i item within is) (next ∙ ap (λ (x : Option ℕ). lesser x one) old ∙ ap (lesser (bare_steps names keys (steps_of (take i steps)))) here)

pub trees_bare : (names : Names) (keys : List ExprTree) (place new one : Option ℕ) (nodes : List Node) (i : ℕ) (item : Node) → i < length nodes → item ≡ get_or nodes i item → place ≡ bare_trees names keys (trees_of (take i nodes)) → new ≡ lesser place one → one ≡ bare names keys (tree_of item) → new ≡ bare_trees names keys (trees_of (take (i + 1) nodes))
trees_bare names keys place new one nodes i item within is old next here =
    rw (trees_more nodes i item within is) (next ∙ ap (λ (x : Option ℕ). lesser x one) old ∙ ap (lesser (bare_trees names keys (trees_of (take i nodes)))) here)
