use Rattle.sql_texts.proofs.DerivedTree.{tree_derived, tree_given}
use Rattle.sql_texts.proofs.text.derived_tree.Goals as goal

pub returns-clause-derived : goal.returns-clause-derived
returns-clause-derived c = tree_derived

pub returns-clause-given : goal.returns-clause-given
returns-clause-given c = tree_given
