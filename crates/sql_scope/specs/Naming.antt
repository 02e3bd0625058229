-- What a name without a table stands for, and the tree of an expression whose names stand for columns.
use Rattle.std.specs.Prelude.{ℕ, ◌+◌, Bool, true, false, ◌&&◌, if◌then◌else◌, List, [], ◌∷◌, Option, Some, None, slice_get}
use Rattle.std.specs.Option.{option_map_or}
use Rattle.osq_value.specs.declared.value.Value.TheVariants as value
use Rattle.osq_value.specs.declared.catalogue.Affinity.{Affinity}
use Rattle.osq_value.specs.declared.catalogue.Affinity.TheVariants as affinity
use Rattle.sql_tree.specs.declared.tree.Name.{Name}
use Rattle.sql_tree.specs.Tree.{Tree, OneStep, Steps, Trees}
use Rattle.sql_tree.specs.Tree as tree
use Rattle.sql_query.specs.declared.place.Place.{Place}
use Rattle.sql_scope.specs.declared.naming.Rule.{Rule}
use Rattle.sql_scope.specs.declared.naming.Rule.TheVariants as rule
use Rattle.sql_scope.specs.declared.naming.Meaning.{Meaning}
use Rattle.sql_scope.specs.declared.naming.Meaning.TheVariants as meaning
use Rattle.sql_scope.specs.Spelling.{name_text, literal_text, same_name}
use Rattle.sql_scope.specs.Scope.{plain_place, known_place}
use Rattle.sql_query.specs.Exprs.{ExprTree, OneExprStep, ExprSteps, Exprs, at_place}
use Rattle.sql_query.specs.Exprs as expr
use Rattle.sql_scope.specs.Shown.{ShownTree, Names}

-- the first column of the result with that alias; the first of those here has that number
abbrev pub alias_from : List ℕ → ℕ → List ShownTree → Option ℕ
alias_from name number [] = None
alias_from name number (shown ∷ rest) = if shown.is_alias && same_name shown.name name then Some number else alias_from name (number + 1) rest

-- by the column and the alias that have the name
abbrev pub meaning_by : Rule → Option Place → Option ℕ → Meaning
meaning_by rule.Columns (Some place) alias = meaning.Column place
meaning_by rule.Columns None alias = meaning.Word
meaning_by rule.AliasFirst place (Some number) = meaning.Alias number
meaning_by rule.AliasFirst (Some place) None = meaning.Column place
meaning_by rule.AliasFirst None None = meaning.Word
meaning_by rule.ColumnFirst (Some place) alias = meaning.Column place
meaning_by rule.ColumnFirst None (Some number) = meaning.Alias number
meaning_by rule.ColumnFirst None None = meaning.Word

unfoldable pub meaning_of : Names → List ℕ → Meaning
meaning_of names name = meaning_by names.rule (plain_place name names.scope) (alias_from name 0 names.shown)

-- a word that is no column is a text
abbrev pub word : List ℕ → ExprTree
word name = expr.literal (value.Text name)

abbrev pub place_or_word : Option Place → List ℕ → ExprTree
place_or_word None name = word name
place_or_word (Some place) name = at_place place

-- the expression of a column of the result
abbrev pub shown_expr : List ShownTree → ℕ → List ℕ → ExprTree
shown_expr shown number name = option_map_or (λ (s : ShownTree). s.expr) (slice_get shown number) (word name)

abbrev pub meant : Names → List ℕ → Meaning → ExprTree
meant names name (meaning.Column place) = at_place place
meant names name (meaning.Alias number) = shown_expr names.shown number name
meant names name meaning.Word = word name

-- a column of an expression
unfoldable pub named : Names → Option Name → Name → ExprTree
named names (Some table) column = place_or_word (known_place (name_text names.text table) (name_text names.text column) names.scope) (name_text names.text column)
named names None column = meant names (name_text names.text column) (meaning_of names (name_text names.text column))

abbrev pub affinity_of : Bool → Affinity
affinity_of true = affinity.Text
affinity_of false = affinity.Integer

abbrev mutual
  -- an expression with each of its names for what it stands for
  pub expr_of : Names → Tree → ExprTree
  expr_of names (tree.number place number) = expr.literal (value.Int number)
  expr_of names (tree.text span) = expr.literal (value.Text (literal_text names.text span))
  expr_of names tree.null = expr.literal value.Null
  expr_of names (tree.column table column) = named names table column
  expr_of names (tree.chain first steps) = expr.chain (expr_of names first) (expr_steps_of names steps)
  expr_of names (tree.negation t) = expr.negation (expr_of names t)
  expr_of names (tree.minus t) = expr.minus (expr_of names t)
  expr_of names (tree.plus t) = expr.plus (expr_of names t)
  expr_of names (tree.cast t is_text) = expr.cast (expr_of names t) (affinity_of is_text)
  expr_of names (tree.call function arguments) = expr.call function (exprs_of names arguments)
  expr_of names (tree.folded place fold is_distinct t) = expr.folded fold is_distinct (expr_of names t)
  expr_of names (tree.count_all place fold is_distinct) = expr.count_all fold is_distinct

  pub expr_step_of : Names → OneStep → OneExprStep
  expr_step_of names (tree.binary op right) = expr.binary op (expr_of names right)
  expr_step_of names (tree.among is_negated items) = expr.among is_negated (exprs_of names items)
  expr_step_of names (tree.between is_negated low high) = expr.between is_negated (expr_of names low) (expr_of names high)

  pub expr_steps_of : Names → Steps → ExprSteps
  expr_steps_of names tree.no_steps = expr.no_steps
  expr_steps_of names (tree.then before step) = expr.then (expr_steps_of names before) (expr_step_of names step)

  pub exprs_of : Names → Trees → Exprs
  exprs_of names tree.no_trees = expr.no_exprs
  exprs_of names (tree.and_tree before t) = expr.and_expr (exprs_of names before) (expr_of names t)
