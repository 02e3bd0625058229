-- What the columns of the result are to names, and what names may stand for.
use Rattle.std.specs.Prelude.{ℕ, Bool, List, map, Option}
use Rattle.sql_query.specs.declared.derived.Derived.{Derived}
use Rattle.sql_scope.specs.declared.scope.Seen.{Seen}
use Rattle.sql_scope.specs.declared.naming.Rule.{Rule}
use Rattle.sql_scope.specs.declared.naming.Shown.{Shown}
use Rattle.sql_scope.specs.declared.naming.Names.{Names as NamesValue}
use Rattle.sql_query.specs.Exprs.{ExprTree}
use Rattle.sql_query.specs.View.{expr_of}

-- a column of the result: its name, whether the text gives it that name, its expression, and the place of the first aggregate in it
pub record ShownTree : Type 0 where
  pub name : List ℕ
  pub expr : ExprTree
  pub is_alias : Bool
  pub aggregate : Option ℕ

-- what names may stand for where an expression stands: the derived tables that FROM may mean, the tables that are seen from there, the columns of the result, and which of them a plain name is first
pub record Names : Type 0 where
  pub derived : List Derived
  pub text : List ℕ
  pub scope : List Seen
  pub shown : List ShownTree
  pub rule : Rule

abbrev pub shown_of : Shown → ShownTree
shown_of s = record { name = s.name; expr = expr_of s.expr; is_alias = s.is_alias; aggregate = s.aggregate }

abbrev pub names_of : NamesValue → Names
names_of n = record { derived = n.derived.now; text = n.text.now; scope = n.scope.now; shown = map shown_of n.shown.now; rule = n.rule }
