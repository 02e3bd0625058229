use Rattle.std.proofs.Common.{◌∙◌, ◌&&◌, ◌++◌, ◌∷◌, [], List, Option, ap, ap₂}
use Rattle.std.proofs.lemmas.List.{append_assoc}
use Rattle.osq_value.specs.declared.value.Value.{Value}
use Rattle.osq_value.specs.declared.catalogue.Affinity.{Affinity}
use Rattle.sql_scalar.specs.Operators.{apply_of}
use Rattle.sql_query.specs.View.{expr_of}
use Rattle.sql_meaning.specs.Expressions.{is_true, value_of}
use Rattle.sql_meaning.specs.Steps.{together}
use Rattle.sql_groups.specs.declared.having.GroupTest.TheVariants as test
use Rattle.sql_groups.specs.Having.{over_all, tests_hold}
use Rattle.sql_groups.proofs.having.push_applied.Goals as goal

pub returns : goal.returns
returns c = λ h rows.
    let left = value_of (together rows) (expr_of c.args.first.now) in
    let right = value_of (together rows) (expr_of c.args.right.now) in
    record {
      test = test.Applied c.args.op c.affinity_of.result c.affinity_of-2.result;
      sides = left ∷ right ∷ [];
      tested = c.in_ok-push.ensures.items;
      sided =
          c.in_ok-push_item-2.ensures c.if-not-branch-2.false rows
          ∙ ap (λ (vs : List Value). vs ++ right ∷ []) (c.in_ok-push_item.ensures c.if-not-branch.false rows)
          ∙ append_assoc (over_all c.args.items.now rows) (left ∷ []) (right ∷ []);
      means = λ others values. ap₂ (λ (a b : Option Affinity). is_true (apply_of c.args.op a b left right) && tests_hold others values) c.affinity_of.ensures c.affinity_of-2.ensures;
    }
