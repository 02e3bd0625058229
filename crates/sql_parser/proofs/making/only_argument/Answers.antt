use Rattle.std.proofs.Common.{ap, ◌∙◌, sym, ◌++◌, List}
use Rattle.std.specs.Prelude.{option_to_list, Option}
use Rattle.sql_tree.specs.declared.tree.Node.{Node}
use Rattle.sql_tree.specs.Tree.{no_trees}
use Rattle.sql_faults.specs.Calls.{only}
use Rattle.sql_tree.specs.View.{trees_of}
use Rattle.sql_tree.proofs.Trees.{trees_after-push}
use Rattle.sql_parser.proofs.making.only_argument.Goals as goal

pub returns-in-Some : goal.returns-in-Some
returns-in-Some c =
    sym (ap (λ (x : List Node). only (trees_of x)) (c.pop.ensures.items ∙ ap (λ (o : Option Node). c.pop.new.self.items ++ option_to_list o) c.in-Some.is) ∙ ap only (trees_after-push no_trees c.pop.new.self.items c.in-Some.argument))
