-- The tree that a `Node` stands for.
use Rattle.std.specs.Prelude.{List, [], ◌∷◌, Some, None, map}
use Rattle.sql_tree.specs.Tree.{Tree, OneStep, Steps, no_steps, then, Trees, no_trees, and_tree}
use Rattle.sql_tree.specs.Tree as tree
use Rattle.sql_tree.specs.declared.tree.Node.{Node, fold-Node}
use Rattle.sql_tree.specs.declared.tree.Step.{Step, fold-Step}
use Rattle.sql_tree.specs.declared.tree.Node.TheOpen.{Node-F, Step-F}

abbrev pub steps_after : Steps → List OneStep → Steps
steps_after before [] = before
steps_after before (s ∷ ss) = steps_after (then before s) ss

abbrev pub trees_after : Trees → List Tree → Trees
trees_after before [] = before
trees_after before (t ∷ ts) = trees_after (and_tree before t) ts

-- one level, with each child already seen
abbrev pub node_level : Node-F Tree OneStep → Tree
node_level (Node-F.Number place value) = tree.number place value
node_level (Node-F.Text span) = tree.text span
node_level Node-F.Null = tree.null
node_level (Node-F.Column table column) = tree.column table column
node_level (Node-F.Chain first steps) = tree.chain first.value (steps_after no_steps steps.items)
node_level (Node-F.Negation inner) = tree.negation inner.value
node_level (Node-F.Minus inner) = tree.minus inner.value
node_level (Node-F.Plus inner) = tree.plus inner.value
node_level (Node-F.Cast inner is_text) = tree.cast inner.value is_text
node_level (Node-F.Call function arguments) = tree.call function (trees_after no_trees arguments.items)
node_level (Node-F.Folded place fold is_distinct None) = tree.count_all place fold is_distinct
node_level (Node-F.Folded place fold is_distinct (Some argument)) = tree.folded place fold is_distinct argument.value

abbrev pub step_level : Step-F Tree OneStep → OneStep
step_level (Step-F.Binary op right) = tree.binary op right
step_level (Step-F.In is_negated items) = tree.among is_negated (trees_after no_trees items.items)
step_level (Step-F.Between is_negated low high) = tree.between is_negated low high

abbrev pub tree_of : Node → Tree
tree_of = fold-Node Tree OneStep node_level step_level

abbrev pub step_of : Step → OneStep
step_of = fold-Step Tree OneStep node_level step_level

abbrev pub steps_of : List Step → Steps
steps_of steps = steps_after no_steps (map step_of steps)

abbrev pub trees_of : List Node → Trees
trees_of nodes = trees_after no_trees (map tree_of nodes)
