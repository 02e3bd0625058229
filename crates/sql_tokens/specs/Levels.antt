-- The levels of operators, and which token is an operator of which level.
use Rattle.std.specs.Prelude.{ℕ, Option, Some, None, ◌==◌, if◌then◌else◌}
use Rattle.sql_tokens.specs.declared.level.Level.{Level}
use Rattle.sql_tokens.specs.declared.level.Level.TheVariants as level
use Rattle.sql_tokens.specs.declared.level.Sign.{Sign}
use Rattle.sql_tokens.specs.declared.level.Sign.TheVariants as sign
use Rattle.sql_tree.specs.declared.tree.Operator.TheVariants as op
use Rattle.sql_tokens.specs.declared.token.Kind.{Kind}
use Rattle.sql_tokens.specs.declared.token.Kind.TheVariants as kind

abbrev pub rank : Level → ℕ
rank level.Or = 6
rank level.And = 5
rank level.Equal = 4
rank level.Less = 3
rank level.Sum = 2
rank level.Product = 1
rank level.Joined = 0

abbrev pub sign_of : Kind → Option (Level × Sign)
sign_of kind.Or = Some (level.Or, sign.Binary op.Or)
sign_of kind.And = Some (level.And, sign.Binary op.And)
sign_of kind.Equal = Some (level.Equal, sign.Binary op.Equal)
sign_of kind.NotEqual = Some (level.Equal, sign.Binary op.NotEqual)
sign_of kind.Like = Some (level.Equal, sign.Binary op.Like)
sign_of kind.Is = Some (level.Equal, sign.Is)
sign_of kind.Not = Some (level.Equal, sign.Not)
sign_of kind.In = Some (level.Equal, sign.In)
sign_of kind.Between = Some (level.Equal, sign.Between)
sign_of kind.Less = Some (level.Less, sign.Binary op.Less)
sign_of kind.LessEqual = Some (level.Less, sign.Binary op.LessEqual)
sign_of kind.Greater = Some (level.Less, sign.Binary op.Greater)
sign_of kind.GreaterEqual = Some (level.Less, sign.Binary op.GreaterEqual)
sign_of kind.Plus = Some (level.Sum, sign.Binary op.Add)
sign_of kind.Minus = Some (level.Sum, sign.Binary op.Subtract)
sign_of kind.Star = Some (level.Product, sign.Binary op.Multiply)
sign_of kind.Slash = Some (level.Product, sign.Binary op.Divide)
sign_of kind.Percent = Some (level.Product, sign.Binary op.Remainder)
sign_of kind.Concat = Some (level.Joined, sign.Binary op.Concat)
sign_of other = None

abbrev pub of_level : Level → Option (Level × Sign) → Option Sign
of_level l None = None
of_level l (Some found) = if rank found.0 == rank l then Some found.1 else None

abbrev pub sign_at : Level → Kind → Option Sign
sign_at l k = of_level l (sign_of k)
