use Rattle.std.proofs.Common.{ap, ◌∙◌}
use Rattle.sql_tree.specs.Tree as tree
use Rattle.sql_tree.specs.View.{tree_of}
use Rattle.sql_tree.proofs.Trees.{view-Folded}
use Rattle.sql_tree.proofs.nodes.folded.Goals as goal

pub returns : goal.returns
returns c =
    view-Folded c.args.place c.args.fold c.args.is_distinct c.in_ok-argument.argument ∙ ap (λ n. tree.folded c.args.place c.args.fold c.args.is_distinct (tree_of n)) c.in_ok-argument.ensures.ok
