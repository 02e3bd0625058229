-- The query that a select stands for.
use Rattle.std.specs.Prelude.{ℕ, ◌+◌, List, [], ◌∷◌, ◌++◌, map, take, Option, Some, None}
use Rattle.sql_tree.specs.declared.tree.Name.{Name}
use Rattle.sql_tree.specs.declared.tree.Operator.TheVariants as operator
use Rattle.sql_tree.specs.Tree.{Tree}
use Rattle.sql_tree.specs.Select.{RefTree, HavingTree, TermTree, SelectTree}
use Rattle.sql_scope.specs.declared.mention.Clause.TheVariants as clause
use Rattle.sql_scope.specs.declared.mention.Mention.{Mention}
use Rattle.sql_scope.specs.Spelling.{name_text}
use Rattle.sql_scope.specs.Scope.{table_number, columns_seen, plain_place}
use Rattle.sql_query.specs.Tables.{name_at}
use Rattle.sql_query.specs.Exprs.{ExprTree}
use Rattle.sql_query.specs.Exprs as expr
use Rattle.sql_query.specs.Resolved.{SourceTree, ResultTree, OrderTree, QueryTree}
use Rattle.sql_scope.specs.Shown.{ShownTree, Names}
use Rattle.sql_scope.specs.Naming.{place_or_word}
use Rattle.sql_names.specs.Results.{term_expr, condition}
use Rattle.sql_names.specs.Kinds.{names_in, place_at, is_grouped}

-- USING: the column in the first table before equals that in the table of that number
abbrev pub equality : Names → ℕ → List ℕ → ExprTree
equality names number name =
    expr.chain (place_or_word (plain_place name (take number names.scope)) name) (expr.then expr.no_steps (expr.binary operator.Equal (place_or_word (place_at number name names.scope) name)))

abbrev pub joined_name : Names → ℕ → Name → ExprTree
joined_name names number name = equality names number (name_text names.text name)

-- a FROM table: by its own name, and by its alias or else that name
abbrev pub source_alias : List ℕ → List ℕ → Option Name → List ℕ
source_alias text name None = name
source_alias text name (Some alias) = name_text text alias

-- ON and USING of the table of that number
abbrev pub join_exprs : Names → ℕ → RefTree → List ExprTree
join_exprs names number ref = condition (names_in names (clause.On (number + 1))) ref.on ++ map (joined_name names number) ref.using

abbrev pub source_tree : Names → ℕ → RefTree → SourceTree
source_tree names number ref = record {
  table = table_number names.derived (name_text names.text ref.table);
  name = name_at names.derived (table_number names.derived (name_text names.text ref.table));
  alias = source_alias names.text (name_at names.derived (table_number names.derived (name_text names.text ref.table))) ref.alias;
  columns = columns_seen names.derived names.text ref;
  is_outer = ref.is_outer;
  on = join_exprs names number ref;
}

-- of these tables, the first of which has that number
abbrev pub source_trees : Names → ℕ → List RefTree → List SourceTree
source_trees names number [] = []
source_trees names number (ref ∷ refs) = source_tree names number ref ∷ source_trees names (number + 1) refs

abbrev pub result_tree : ShownTree → ResultTree
result_tree shown = record { name = shown.name; expr = shown.expr }

abbrev pub order_by : Names → TermTree → OrderTree
order_by names term = record { expr = term_expr names term.tree; is_descending = term.is_descending }

abbrev pub orders : Names → List TermTree → List OrderTree
orders names terms = map (order_by (names_in names clause.Term)) terms

abbrev pub key_exprs : Names → List Tree → List ExprTree
key_exprs names keys = map (term_expr (names_in names clause.Key)) keys

abbrev pub having_tree : Option HavingTree → Option Tree
having_tree None = None
having_tree (Some having) = Some having.tree

-- the query of the select with these mentions, the names of which stand for what these names say
abbrev pub query_tree : Names → SelectTree → List Mention → QueryTree
query_tree names select found = record {
  sources = source_trees names 0 select.sources;
  filter = condition (names_in names clause.Where) select.filter;
  is_grouped = is_grouped select.keys found;
  keys = key_exprs names select.keys;
  having = condition (names_in names clause.Having) (having_tree select.having);
  items = map result_tree names.shown;
  is_distinct = select.is_distinct;
  terms = orders names select.terms;
  limit = select.limit;
  skip = select.skip;
}
