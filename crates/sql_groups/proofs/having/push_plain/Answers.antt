use Rattle.std.proofs.Common.{refl, ◌∷◌, []}
use Rattle.sql_query.specs.View.{expr_of}
use Rattle.sql_meaning.specs.Expressions.{value_of}
use Rattle.sql_meaning.specs.Steps.{together}
use Rattle.sql_groups.specs.declared.having.GroupTest.TheVariants as test
use Rattle.sql_groups.proofs.having.push_plain.Goals as goal

pub returns : goal.returns
returns c = λ h rows. record {
  test = test.Plain;
  sides = value_of (together rows) (expr_of c.args.part.now) ∷ [];
  tested = c.in_ok-push.ensures.items;
  sided = c.in_ok-push_item.ensures c.if-not-branch.false rows;
  means = λ others values. refl;
}
