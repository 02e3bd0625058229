-- The steps of a query behind FROM: WHERE, groups, the columns of the result, DISTINCT, ORDER BY, and LIMIT with OFFSET.
use Rattle.std.specs.Prelude.{Bool, if◌then◌else◌, List, [], ◌∷◌, ◌++◌, map, length, take, drop, Option, Some, None}
use Rattle.std.specs.List.{filter}
use Rattle.osq_value.specs.declared.value.Value.{Value}
use Rattle.sql_tree.specs.declared.functions.Fold.{Fold}
use Rattle.sql_query.specs.Exprs.{ExprTree}
use Rattle.sql_query.specs.Resolved.{ResultTree, OrderTree, QueryTree}
use Rattle.sql_meaning.specs.Cut.{cut_by}
use Rattle.sql_meaning.specs.Expressions.{Environment, alone, holds, value_of}
use Rattle.sql_meaning.specs.Firsts.{firsts_by}
use Rattle.sql_meaning.specs.Folds.{counted_rows, folded_over}
use Rattle.sql_meaning.specs.Groups.{groups_by}
use Rattle.sql_meaning.specs.Order.{ordered_by}

-- WHERE keeps the rows of which its condition holds
abbrev pub filtered : QueryTree → List (List Value) → List (List Value)
filtered query rows = filter (λ row. holds (alone row) query.filter) rows

-- an aggregate over the rows of a group: of its argument's values, or of the rows themselves where it has none
abbrev pub aggregate_over : List (List Value) → Fold → Bool → Option ExprTree → Value
aggregate_over rows fold is_distinct None = counted_rows fold (length rows)
aggregate_over rows fold is_distinct (Some e) = folded_over fold is_distinct (map (λ row. value_of (alone row) e) rows)

-- the first row; without rows none, so that each of its places is Null
abbrev pub first_row : List (List Value) → List Value
first_row [] = []
first_row (row ∷ rows) = row

-- what an expression sees of a group: a column outside the aggregates is that of the first row
abbrev pub together : List (List Value) → Environment
together rows = record { row = first_row rows; aggregate = aggregate_over rows }

-- the values of GROUP BY
abbrev pub key_values : List ExprTree → List Value → List Value
key_values keys row = map (value_of (alone row)) keys

-- the groups; without GROUP BY all rows are one group, also where there is none
abbrev pub groups : List ExprTree → List (List Value) → List (List (List Value))
groups [] rows = rows ∷ []
groups (key ∷ keys) rows = groups_by (key_values (key ∷ keys)) rows

-- HAVING keeps the groups of which its condition holds
abbrev pub kept_groups : QueryTree → List (List Value) → List Environment
kept_groups query rows = filter (λ env. holds env query.having) (map together (groups query.keys rows))

-- what the columns of the result see, once for each row of the result: the groups, or else the rows
abbrev pub environments : QueryTree → List (List Value) → List Environment
environments query rows = if query.is_grouped then kept_groups query rows else map alone rows

-- a row of the result, and behind it what it is sorted by
abbrev pub result_row : QueryTree → Environment → List Value
result_row query env = map (λ (item : ResultTree). value_of env item.expr) query.items ++ map (λ (term : OrderTree). value_of env term.expr) query.terms

abbrev pub items_in : QueryTree → List Value → List Value
items_in query row = take (length query.items) row

abbrev pub keys_in : QueryTree → List Value → List Value
keys_in query row = drop (length query.items) row

-- DISTINCT keeps the first of the rows with equal items
abbrev pub distinct : QueryTree → List (List Value) → List (List Value)
distinct query rows = if query.is_distinct then firsts_by (items_in query) rows else rows

-- ORDER BY: stable by the terms, the first before the others
abbrev pub ordered : QueryTree → List (List Value) → List (List Value)
ordered query rows = ordered_by (keys_in query) (map (λ (term : OrderTree). term.is_descending) query.terms) rows

-- LIMIT and OFFSET
abbrev pub cut : QueryTree → List (List Value) → List (List Value)
cut query rows = cut_by query.limit query.skip rows

-- the steps behind FROM, one after another
abbrev pub behind_from : QueryTree → List (List Value) → List (List Value)
behind_from query rows = cut query (map (items_in query) (ordered query (distinct query (map (result_row query) (environments query (filtered query rows))))))

-- the query with another condition in the place of WHERE
abbrev pub asked_by : List ExprTree → QueryTree → QueryTree
asked_by condition query = record {
  sources = query.sources;
  filter = condition;
  is_grouped = query.is_grouped;
  keys = query.keys;
  having = query.having;
  items = query.items;
  is_distinct = query.is_distinct;
  terms = query.terms;
  limit = query.limit;
  skip = query.skip;
}
