-- The view of a list that grows at its end, and of a chain.
use Rattle.std.proofs.Common.{◌≡◌, ℕ, ℤ, Bool, Option, Some, List, [], ◌∷◌, ◌++◌, refl, sym, ap, ◌∙◌, rules, ◌≢◌, map}
use Rattle.std.specs.Global.{Vec as GlobalVec}
use Rattle.std.specs.declared.boxed.Box.{Box}
use Rattle.std.specs.declared.alloc.Global.{Global}
use Rattle.sql_tree.specs.Tree.{Tree, OneStep, Steps, no_steps, then, Trees, no_trees, and_tree, chained}
use Rattle.sql_tree.specs.Tree as tree
use Rattle.sql_tree.specs.View.{steps_after, trees_after, tree_of, step_of, steps_of, trees_of}
use Rattle.sql_tree.specs.declared.tree.Node.{Node, Chain, Number, Text, Null, Column, Folded, the_lemmas}
use Rattle.sql_tree.specs.declared.functions.Fold.{Fold}
use Rattle.sql_tree.specs.declared.tree.Name.{Name}
use Rattle.sql_tree.specs.declared.tree.Step.{Step, Binary, In, Between}
use Rattle.sql_tree.specs.declared.tree.Operator.{Operator}
use Rattle.sql_tree.specs.declared.span.Span.{Span}

pub steps_after-push : (before : Steps) (steps : List Step) (step : Step) → steps_after before (map step_of (steps ++ step ∷ [])) ≡ then (steps_after before (map step_of steps)) (step_of step)
steps_after-push before [] step = refl
steps_after-push before (s ∷ ss) step = steps_after-push (then before (step_of s)) ss step

pub trees_after-push : (before : Trees) (nodes : List Node) (node : Node) → trees_after before (map tree_of (nodes ++ node ∷ [])) ≡ and_tree (trees_after before (map tree_of nodes)) (tree_of node)
trees_after-push before [] node = refl
trees_after-push before (n ∷ ns) node = trees_after-push (and_tree before (tree_of n)) ns node

pub view-Chain : (first : Box Node Global) (steps : GlobalVec Step) → tree_of (Chain first steps) ≡ tree.chain (tree_of first.value) (steps_of steps.items)
view-Chain first steps = search (rules, the_lemmas)

steps_after-then : (before : Steps) (s : OneStep) (ss : List OneStep) → (b : Steps) × (t : OneStep) × (steps_after before (s ∷ ss) ≡ then b t)
steps_after-then before s [] = (before, s, refl)
steps_after-then before s (r ∷ rs) = steps_after-then (then before s) r rs

pub chained-some : (first : Tree) (steps : List Step) → steps ≢ [] → tree.chain first (steps_of steps) ≡ chained first (steps_of steps)
chained-some first [] h = absurd (h refl)
chained-some first (s ∷ ss) h = let k = steps_after-then no_steps (step_of s) (map step_of ss) in ap (tree.chain first) k.2 ∙ sym (ap (chained first) k.2)

pub view-Binary : (op : Operator) (right : Node) → step_of (Binary op right) ≡ tree.binary op (tree_of right)
view-Binary op right = search (rules, the_lemmas)

pub view-In : (is_negated : Bool) (items : GlobalVec Node) → step_of (In is_negated items) ≡ tree.among is_negated (trees_of items.items)
view-In is_negated items = search (rules, the_lemmas)

pub view-Between : (is_negated : Bool) (low high : Node) → step_of (Between is_negated low high) ≡ tree.between is_negated (tree_of low) (tree_of high)
view-Between is_negated low high = search (rules, the_lemmas)

pub view-Number : (place : ℕ) (value : ℤ) → tree_of (Number place value) ≡ tree.number place value
view-Number place value = search (rules, the_lemmas)

pub view-Text : (span : Span) → tree_of (Text span) ≡ tree.text span
view-Text span = search (rules, the_lemmas)

pub view-Null : tree_of Null ≡ tree.null
view-Null = search (rules, the_lemmas)

pub view-Column : (table : Option Name) (column : Name) → tree_of (Column table column) ≡ tree.column table column
view-Column table column = search (rules, the_lemmas)

pub view-Folded : (place : ℕ) (fold : Fold) (is_distinct : Bool) (argument : Box Node Global) → tree_of (Folded place fold is_distinct (Some argument)) ≡ tree.folded place fold is_distinct (tree_of argument.value)
view-Folded place fold is_distinct argument = search (rules, the_lemmas)
