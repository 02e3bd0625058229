-- Columns outside every aggregate and every expression of GROUP BY, beside MIN or MAX.
use Rattle.std.specs.Prelude.{ℕ, ◌&&◌, Bool, true, false, not, if◌then◌else◌, List, [], ◌∷◌, map, Option, Some, None}
use Rattle.std.proofs.Math.Bool.{decide}
use Rattle.sql_tree.specs.declared.functions.Fold.{Fold}
use Rattle.sql_tree.specs.declared.functions.Fold.TheVariants as fold
use Rattle.sql_tree.specs.declared.tree.Name.{Name}
use Rattle.sql_tree.specs.Tree.{Tree, OneStep, Steps, Trees}
use Rattle.sql_tree.specs.Tree as tree
use Rattle.sql_tree.specs.Select.{ItemTree, HavingTree, TermTree, SelectTree, all, all_of, one}
use Rattle.sql_scope.specs.declared.mention.Clause.TheVariants as clause
use Rattle.sql_scope.specs.declared.mention.Mentioned.{Mentioned}
use Rattle.sql_scope.specs.declared.mention.Mentioned.TheVariants as mentioned
use Rattle.sql_scope.specs.declared.mention.Mention.{Mention}
use Rattle.sql_scope.specs.declared.naming.Meaning.{Meaning}
use Rattle.sql_scope.specs.declared.naming.Meaning.TheVariants as meaning
use Rattle.sql_scope.specs.Spelling.{name_text}
use Rattle.sql_query.specs.Exprs.{ExprTree}
use Rattle.sql_scope.specs.Shown.{ShownTree, Names}
use Rattle.sql_scope.specs.Naming.{meaning_of, expr_of}
use Rattle.sql_names.specs.Results.{all_columns, known_columns}
use Rattle.sql_names.specs.Kinds.{names_in, forbids, place_of}
use Rattle.sql_names.specs.Least.{lesser, least}
use Rattle.sql_query.proofs.Decided.{decided}

-- two expressions are one tree: they are equal
unfoldable pub is_same : ExprTree → ExprTree → Bool
is_same e other = decide (decided e other)

-- the expression is one of GROUP BY
abbrev pub is_key : List ExprTree → ExprTree → Bool
is_key [] e = false
is_key (key ∷ keys) e = if is_same key e then true else is_key keys e

abbrev pub unless : Bool → Option ℕ → Option ℕ
unless true place = None
unless false place = place

-- a plain name that is a column; what an alias stands for is looked at in its item
abbrev pub bare_meaning : Meaning → ℕ → Option ℕ
bare_meaning (meaning.Column column) place = Some place
bare_meaning (meaning.Alias number) place = None
bare_meaning meaning.Word place = None

abbrev pub bare_column : Names → Option Name → Name → Option ℕ
bare_column names None column = bare_meaning (meaning_of names (name_text names.text column)) (place_of column)
bare_column names (Some table) column = Some (place_of table)

abbrev mutual
  -- the least place of such a column in an expression
  pub bare : Names → List ExprTree → Tree → Option ℕ
  bare names keys (tree.number place number) = None
  bare names keys (tree.text span) = None
  bare names keys tree.null = None
  bare names keys (tree.column table column) = unless (is_key keys (expr_of names (tree.column table column))) (bare_column names table column)
  bare names keys (tree.chain first steps) = unless (is_key keys (expr_of names (tree.chain first steps))) (lesser (bare names keys first) (bare_steps names keys steps))
  bare names keys (tree.negation t) = unless (is_key keys (expr_of names (tree.negation t))) (bare names keys t)
  bare names keys (tree.minus t) = unless (is_key keys (expr_of names (tree.minus t))) (bare names keys t)
  bare names keys (tree.plus t) = unless (is_key keys (expr_of names (tree.plus t))) (bare names keys t)
  bare names keys (tree.cast t is_text) = unless (is_key keys (expr_of names (tree.cast t is_text))) (bare names keys t)
  bare names keys (tree.call function arguments) = unless (is_key keys (expr_of names (tree.call function arguments))) (bare_trees names keys arguments)
  bare names keys (tree.folded place fold is_distinct t) = None
  bare names keys (tree.count_all place fold is_distinct) = None

  pub bare_step : Names → List ExprTree → OneStep → Option ℕ
  bare_step names keys (tree.binary op right) = bare names keys right
  bare_step names keys (tree.among is_negated items) = bare_trees names keys items
  bare_step names keys (tree.between is_negated low high) = lesser (bare names keys low) (bare names keys high)

  pub bare_steps : Names → List ExprTree → Steps → Option ℕ
  bare_steps names keys tree.no_steps = None
  bare_steps names keys (tree.then before step) = lesser (bare_steps names keys before) (bare_step names keys step)

  pub bare_trees : Names → List ExprTree → Trees → Option ℕ
  bare_trees names keys tree.no_trees = None
  bare_trees names keys (tree.and_tree before t) = lesser (bare_trees names keys before) (bare names keys t)

-- every column that `*` stands for is an expression of GROUP BY
abbrev pub are_keys : List ExprTree → List ShownTree → Bool
are_keys keys [] = true
are_keys keys (shown ∷ rest) = if is_key keys shown.expr then are_keys keys rest else false

abbrev pub item_bare : Names → List ExprTree → ItemTree → Option ℕ
item_bare names keys (all place) = unless (are_keys keys (all_columns names.scope)) (Some place)
item_bare names keys (all_of table) = unless (are_keys keys (known_columns (name_text names.text table) names.scope)) (Some (place_of table))
item_bare names keys (one t span alias) = bare names keys t

abbrev pub having_bare : Names → List ExprTree → Option HavingTree → Option ℕ
having_bare names keys None = None
having_bare names keys (Some having) = bare names keys having.tree

abbrev pub term_bare : Names → List ExprTree → TermTree → Option ℕ
term_bare names keys term = bare names keys term.tree

-- MIN or MAX where an aggregate may stand
abbrev pub is_extreme_fold : Fold → Bool
is_extreme_fold fold.Count = false
is_extreme_fold fold.Sum = false
is_extreme_fold fold.Min = true
is_extreme_fold fold.Max = true

abbrev pub is_extreme : Mentioned → Bool
is_extreme (mentioned.Column table column) = false
is_extreme (mentioned.Aggregate place f) = is_extreme_fold f

abbrev pub has_extreme : List Mention → Bool
has_extreme [] = false
has_extreme (m ∷ found) = if is_extreme m.what && not (forbids m.clause) then true else has_extreme found

abbrev pub bare_in : Names → List ExprTree → SelectTree → Option ℕ
bare_in names keys select =
    lesser (least (map (item_bare (names_in names clause.Item) keys) select.items))
    (lesser (having_bare (names_in names clause.Having) keys select.having)
    (least (map (term_bare (names_in names clause.Term) keys) select.terms)))

-- BareColumn, by the expressions of GROUP BY
abbrev pub bare_column_of : Names → List ExprTree → SelectTree → List Mention → Option ℕ
bare_column_of names keys select found = if has_extreme found then bare_in names keys select else None
