-- A loop over the parts of a tree has one part more.
use Rattle.std.proofs.Common.{◌≡◌, ℕ, ◌+◌, ◌<◌, ◌++◌, Bool, List, length, take, get_or, ap, sym, ◌∙◌, append_assoc}
use Rattle.std.proofs.lemmas.List.{take_more}
use Rattle.sql_tree.specs.declared.tree.Node.{Node}
use Rattle.sql_tree.specs.declared.tree.Step.{Step}
use Rattle.sql_tree.specs.Tree.{no_steps, then, no_trees, and_tree}
use Rattle.sql_tree.specs.View.{tree_of, step_of, steps_of, trees_of}
use Rattle.sql_tree.proofs.Trees.{steps_after-push, trees_after-push}
use Rattle.sql_scope.specs.declared.mention.Clause.{Clause}
use Rattle.sql_scope.specs.declared.mention.Mention.{Mention}
use Rattle.sql_scope.specs.Mentions.{mentions, mentions_of_step, mentions_of_steps, mentions_of_trees}

pub steps_more : (steps : List Step) (i : ℕ) (item : Step) → i < length steps → item ≡ get_or steps i item → steps_of (take (i + 1) steps) ≡ then (steps_of (take i steps)) (step_of item)
steps_more steps i item within is =
    ap steps_of (take_more steps i item within) ∙ steps_after-push no_steps (take i steps) (get_or steps i item) ∙ ap (λ (s : Step). then (steps_of (take i steps)) (step_of s)) (sym is)

pub trees_more : (nodes : List Node) (i : ℕ) (item : Node) → i < length nodes → item ≡ get_or nodes i item → trees_of (take (i + 1) nodes) ≡ and_tree (trees_of (take i nodes)) (tree_of item)
trees_more nodes i item within is =
    ap trees_of (take_more nodes i item within) ∙ trees_after-push no_trees (take i nodes) (get_or nodes i item) ∙ ap (λ (n : Node). and_tree (trees_of (take i nodes)) (tree_of n)) (sym is)

pub mentions_then : (c : Clause) (inside : Bool) (before found new : List Mention) (steps : List Step) (i : ℕ) (item : Step) → i < length steps → item ≡ get_or steps i item → found ≡ before ++ mentions_of_steps c inside (steps_of (take i steps)) → new ≡ found ++ mentions_of_step c inside (step_of item) → new ≡ before ++ mentions_of_steps c inside (steps_of (take (i + 1) steps))
mentions_then c inside before found new steps i item within is old one =
    rw (steps_more steps i item within is) (one ∙ ap (λ (x : List Mention). x ++ mentions_of_step c inside (step_of item)) old ∙ append_assoc before _ _)

pub mentions_and : (c : Clause) (inside : Bool) (before found new : List Mention) (nodes : List Node) (i : ℕ) (item : Node) → i < length nodes → item ≡ get_or nodes i item → found ≡ before ++ mentions_of_trees c inside (trees_of (take i nodes)) → new ≡ found ++ mentions c inside (tree_of item) → new ≡ before ++ mentions_of_trees c inside (trees_of (take (i + 1) nodes))
mentions_and c inside before found new nodes i item within is old one =
    rw (trees_more nodes i item within is) (one ∙ ap (λ (x : List Mention). x ++ mentions c inside (tree_of item)) old ∙ append_assoc before _ _)
