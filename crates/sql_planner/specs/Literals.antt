-- What borrowed parts of an expression stand for.
use Rattle.osq_value.specs.declared.value.Value.{Value}
use Rattle.osq_value.specs.declared.value.Value.TheVariants.{Int, Text}
use Rattle.sql_query.specs.View.{expr_of}
use Rattle.sql_planner.specs.declared.comparison.Literal.{Literal}
use Rattle.sql_planner.specs.declared.comparison.Literal.TheVariants as literal
use Rattle.sql_planner.specs.declared.comparison.Comparison.{Comparison}
use Rattle.sql_planner.specs.declared.comparison.Sides.{Sides}
use Rattle.sql_planner.specs.Comparisons.{ComparisonTree, SidesTree}

abbrev pub literal_value : Literal → Value
literal_value (literal.Number value) = Int value
literal_value (literal.Text text) = Text text.now

abbrev pub comparison_tree : Comparison → ComparisonTree
comparison_tree c = record { place = c.place; op = c.op; literal = literal_value c.literal }

abbrev pub sides_tree : Sides → SidesTree
sides_tree s = record { left = expr_of s.left.now; op = s.op; right = expr_of s.right.now }
