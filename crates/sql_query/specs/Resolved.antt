-- What contracts see of a query whose names are resolved.
use Rattle.std.specs.Prelude.{ℕ, ℤ, Bool, false, List, map, Option, Some}
use Rattle.osq_value.specs.Catalogue.{Column}
use Rattle.sql_query.specs.declared.query.SourceColumn.{SourceColumn}
use Rattle.sql_query.specs.declared.query.QuerySource.{QuerySource}
use Rattle.sql_query.specs.declared.query.QueryItem.{QueryItem}
use Rattle.sql_query.specs.declared.query.Order.{Order}
use Rattle.sql_query.specs.declared.query.Query.{Query}
use Rattle.sql_query.specs.Exprs.{ExprTree}
use Rattle.sql_query.specs.View.{expr_of}

-- a column as the catalogue gives it to a FROM table
abbrev pub source_column : Column → SourceColumn
source_column column = record { name = column.name; affinity = Some column.affinity; hidden = false }

pub record SourceTree : Type 0 where
  pub table : ℕ
  pub name : List ℕ
  pub alias : List ℕ
  pub columns : List SourceColumn
  pub is_outer : Bool
  pub on : List ExprTree

pub record ResultTree : Type 0 where
  pub name : List ℕ
  pub expr : ExprTree

pub record OrderTree : Type 0 where
  pub expr : ExprTree
  pub is_descending : Bool

pub record QueryTree : Type 0 where
  pub sources : List SourceTree
  pub filter : List ExprTree
  pub is_grouped : Bool
  pub keys : List ExprTree
  pub having : List ExprTree
  pub items : List ResultTree
  pub is_distinct : Bool
  pub terms : List OrderTree
  pub limit : Option ℤ
  pub skip : Option ℤ

abbrev pub source_of : QuerySource → SourceTree
source_of s = record { table = s.table.0; name = s.name; alias = s.alias; columns = s.columns; is_outer = s.is_outer; on = map expr_of s.on.parts }

abbrev pub result_of : QueryItem → ResultTree
result_of i = record { name = i.name; expr = expr_of i.expr }

abbrev pub order_of : Order → OrderTree
order_of o = record { expr = expr_of o.expr; is_descending = o.is_descending }

-- the tree that a `Query` stands for
abbrev pub query_of : Query → QueryTree
query_of q = record { sources = map source_of q.sources; filter = map expr_of q.filter.parts; is_grouped = q.is_grouped; keys = map expr_of q.keys; having = map expr_of q.having.parts; items = map result_of q.items; is_distinct = q.is_distinct; terms = map order_of q.terms; limit = q.limit; skip = q.skip }
