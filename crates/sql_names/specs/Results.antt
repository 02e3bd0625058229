-- The columns of the result, conditions, and what GROUP BY and ORDER BY stand for.
use Rattle.std.specs.Prelude.{ℕ, ℤ, pos, negsuc, ◌+◌, ◌-◌, ◌&&◌, ◌||◌, Bool, true, false, if◌then◌else◌, nat_le, List, [], ◌∷◌, ◌++◌, length, map, Option, Some, None, slice_get, is_some}
use Rattle.std.specs.Option.{option_map_or}
use Rattle.osq_value.specs.declared.value.Value.TheVariants as value
use Rattle.sql_tree.specs.declared.span.Span.{Span}
use Rattle.sql_tree.specs.declared.tree.Name.{Name}
use Rattle.sql_tree.specs.declared.tree.Operator.{Operator}
use Rattle.sql_tree.specs.declared.tree.Operator.TheVariants as operator
use Rattle.sql_tree.specs.Tree.{Tree, OneStep, Steps, Trees}
use Rattle.sql_tree.specs.Tree as tree
use Rattle.sql_tree.specs.Select.{ItemTree, all, all_of, one}
use Rattle.sql_scope.specs.declared.mention.Clause.TheVariants as clause
use Rattle.sql_scope.specs.declared.mention.Mentioned.{Mentioned}
use Rattle.sql_scope.specs.declared.mention.Mentioned.TheVariants as mentioned
use Rattle.sql_scope.specs.declared.mention.Mention.{Mention}
use Rattle.sql_query.specs.declared.query.SourceColumn.{SourceColumn}
use Rattle.sql_names.specs.declared.results.Numbered.{Numbered}
use Rattle.sql_query.specs.declared.place.Place.{Place}
use Rattle.sql_scope.specs.declared.scope.Seen.{Seen}
use Rattle.sql_scope.specs.Spelling.{name_text, span_text, same_name}
use Rattle.sql_scope.specs.Scope.{is_listed, plain_place, known_place}
use Rattle.sql_scope.specs.Mentions.{mentions}
use Rattle.sql_query.specs.Exprs.{ExprTree}
use Rattle.sql_query.specs.Exprs as expr
use Rattle.sql_scope.specs.Shown.{ShownTree, Names}
use Rattle.sql_scope.specs.Naming.{expr_of}
use Rattle.sql_names.specs.Least.{least}

-- a column of a table, which is the table's column of that number
abbrev pub column_shown : Seen → ℕ → SourceColumn → ShownTree
column_shown seen number column = record { name = column.name; expr = expr.column seen.source number (seen.at + number) column.affinity; is_alias = false; aggregate = None }

-- the columns of a table that are not hidden; `*` alone passes over those too that USING joins to an earlier table
abbrev pub columns_from : Bool → Seen → ℕ → List SourceColumn → List ShownTree
columns_from hides seen number [] = []
columns_from hides seen number (column ∷ columns) =
    if column.hidden || hides && is_listed column.name seen.joined then columns_from hides seen (number + 1) columns else column_shown seen number column ∷ columns_from hides seen (number + 1) columns

-- `*`
abbrev pub all_columns : List Seen → List ShownTree
all_columns [] = []
all_columns (seen ∷ scope) = columns_from true seen 0 seen.columns ++ all_columns scope

-- `x.*`
abbrev pub known_columns : List ℕ → List Seen → List ShownTree
known_columns table [] = []
known_columns table (seen ∷ scope) = if same_name seen.known table then columns_from false seen 0 seen.columns ++ known_columns table scope else known_columns table scope

-- the catalogue's name of a column
abbrev pub column_name : List Seen → Place → List ℕ
column_name scope place = option_map_or (λ (seen : Seen). option_map_or (λ (c : SourceColumn). c.name) (slice_get seen.columns place.column) []) (slice_get scope place.source) []

abbrev pub column_place : Names → Option Name → Name → Option Place
column_place names None column = plain_place (name_text names.text column) names.scope
column_place names (Some table) column = known_place (name_text names.text table) (name_text names.text column) names.scope

-- the column that a whole expression is
abbrev pub tree_place : Names → Tree → Option Place
tree_place names (tree.number place number) = None
tree_place names (tree.text span) = None
tree_place names tree.null = None
tree_place names (tree.column table column) = column_place names table column
tree_place names (tree.chain first steps) = None
tree_place names (tree.negation t) = None
tree_place names (tree.minus t) = None
tree_place names (tree.plus t) = None
tree_place names (tree.cast t is_text) = None
tree_place names (tree.call function arguments) = None
tree_place names (tree.folded place fold is_distinct t) = None
tree_place names (tree.count_all place fold is_distinct) = None

-- an item's name: its alias; for a column the catalogue's name; else its text
abbrev pub own_name : Names → Span → Option Place → List ℕ
own_name names span None = span_text names.text span
own_name names span (Some place) = column_name names.scope place

abbrev pub item_name : Names → Tree → Span → Option Name → List ℕ
item_name names t span (Some alias) = name_text names.text alias
item_name names t span None = own_name names span (tree_place names t)

abbrev pub aggregate_place : Mentioned → Option ℕ
aggregate_place (mentioned.Column table column) = None
aggregate_place (mentioned.Aggregate place fold) = Some place

-- where the first aggregate of an expression stands
abbrev pub first_aggregate : Tree → Option ℕ
first_aggregate t = least (map (λ (m : Mention). aggregate_place m.what) (mentions clause.Item false t))

abbrev pub results_of_item : Names → ItemTree → List ShownTree
results_of_item names (all place) = all_columns names.scope
results_of_item names (all_of table) = known_columns (name_text names.text table) names.scope
results_of_item names (one t span alias) = record { name = item_name names t span alias; expr = expr_of names t; is_alias = is_some alias; aggregate = first_aggregate t } ∷ []

-- the columns of the result, where the items' names are these
abbrev pub results : Names → List ItemTree → List ShownTree
results names [] = []
results names (item ∷ items) = results_of_item names item ++ results names items

-- an expression that is a number literal
abbrev pub numbered : Tree → Option Numbered
numbered (tree.number place number) = Some (record { place = place; value = number })
numbered (tree.text span) = None
numbered tree.null = None
numbered (tree.column table column) = None
numbered (tree.chain first steps) = None
numbered (tree.negation t) = None
numbered (tree.minus t) = None
numbered (tree.plus t) = None
numbered (tree.cast t is_text) = None
numbered (tree.call function arguments) = None
numbered (tree.folded place fold is_distinct t) = None
numbered (tree.count_all place fold is_distinct) = None

-- result columns are counted from 1
abbrev pub index_in : ℕ → ℤ → Option ℕ
index_in count (pos number) = if nat_le 1 number && nat_le number count then Some (number - 1) else None
index_in count (negsuc number) = None

-- what a number of GROUP BY or ORDER BY stands for; one that is no result column's, which is a fault, stands for itself
abbrev pub numbered_expr : List ShownTree → ℤ → ExprTree
numbered_expr shown number = option_map_or (λ (s : ShownTree). s.expr) (option_map_or (slice_get shown) (index_in (length shown) number) None) (expr.literal (value.Int number))

abbrev pub term_by : Names → Tree → Option Numbered → ExprTree
term_by names t None = expr_of names t
term_by names t (Some n) = numbered_expr names.shown n.value

-- an expression of GROUP BY or ORDER BY
abbrev pub term_expr : Names → Tree → ExprTree
term_expr names t = term_by names t (numbered t)

abbrev pub is_and : Operator → Bool
is_and operator.Or = false
is_and operator.And = true
is_and operator.Equal = false
is_and operator.NotEqual = false
is_and operator.Is = false
is_and operator.IsNot = false
is_and operator.Less = false
is_and operator.LessEqual = false
is_and operator.Greater = false
is_and operator.GreaterEqual = false
is_and operator.Like = false
is_and operator.NotLike = false
is_and operator.Add = false
is_and operator.Subtract = false
is_and operator.Multiply = false
is_and operator.Divide = false
is_and operator.Remainder = false
is_and operator.Concat = false

-- every operator of a chain is AND
abbrev pub is_and_step : OneStep → Bool
is_and_step (tree.binary op right) = is_and op
is_and_step (tree.among is_negated items) = false
is_and_step (tree.between is_negated low high) = false

abbrev pub are_ands : Steps → Bool
are_ands tree.no_steps = true
are_ands (tree.then before step) = are_ands before && is_and_step step

-- the right sides of a chain's operators
abbrev pub right_of : OneStep → List Tree
right_of (tree.binary op right) = right ∷ []
right_of (tree.among is_negated items) = []
right_of (tree.between is_negated low high) = []

abbrev pub rights_of : Steps → List Tree
rights_of tree.no_steps = []
rights_of (tree.then before step) = rights_of before ++ right_of step

-- the parts of a tree's outermost chain of ANDs
abbrev pub conjuncts : Tree → List Tree
conjuncts (tree.number place number) = tree.number place number ∷ []
conjuncts (tree.text span) = tree.text span ∷ []
conjuncts tree.null = tree.null ∷ []
conjuncts (tree.column table column) = tree.column table column ∷ []
conjuncts (tree.chain first steps) = if are_ands steps then first ∷ rights_of steps else tree.chain first steps ∷ []
conjuncts (tree.negation t) = tree.negation t ∷ []
conjuncts (tree.minus t) = tree.minus t ∷ []
conjuncts (tree.plus t) = tree.plus t ∷ []
conjuncts (tree.cast t is_text) = tree.cast t is_text ∷ []
conjuncts (tree.call function arguments) = tree.call function arguments ∷ []
conjuncts (tree.folded place fold is_distinct t) = tree.folded place fold is_distinct t ∷ []
conjuncts (tree.count_all place fold is_distinct) = tree.count_all place fold is_distinct ∷ []

-- a condition by its conjuncts; a missing one has none
abbrev pub condition : Names → Option Tree → List ExprTree
condition names None = []
condition names (Some t) = map (expr_of names) (conjuncts t)
