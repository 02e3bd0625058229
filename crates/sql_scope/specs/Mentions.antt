-- The columns and aggregates that a select mentions, each with the clause in which it stands.
use Rattle.std.specs.Prelude.{ℕ, ◌+◌, Bool, true, false, List, [], ◌∷◌, ◌++◌, Option, Some, None}
use Rattle.sql_tree.specs.Tree.{Tree, OneStep, Steps, no_steps, then, Trees, no_trees, and_tree}
use Rattle.sql_tree.specs.Tree as tree
use Rattle.sql_tree.specs.Select.{ItemTree, RefTree, HavingTree, TermTree, SelectTree, all, all_of, one}
use Rattle.sql_scope.specs.declared.mention.Clause.{Clause}
use Rattle.sql_scope.specs.declared.mention.Clause.TheVariants as clause
use Rattle.sql_scope.specs.declared.mention.Mentioned.TheVariants as mentioned
use Rattle.sql_scope.specs.declared.mention.Mention.{Mention}

abbrev mutual
  -- of an expression, which stands inside an aggregate or outside every one
  pub mentions : Clause → Bool → Tree → List Mention
  mentions c inside (tree.number place value) = []
  mentions c inside (tree.text span) = []
  mentions c inside tree.null = []
  mentions c inside (tree.column table column) = record { clause = c; is_inside = inside; what = mentioned.Column table column } ∷ []
  mentions c inside (tree.chain first steps) = mentions c inside first ++ mentions_of_steps c inside steps
  mentions c inside (tree.negation t) = mentions c inside t
  mentions c inside (tree.minus t) = mentions c inside t
  mentions c inside (tree.plus t) = mentions c inside t
  mentions c inside (tree.cast t is_text) = mentions c inside t
  mentions c inside (tree.call function arguments) = mentions_of_trees c inside arguments
  mentions c inside (tree.folded place fold is_distinct t) = record { clause = c; is_inside = inside; what = mentioned.Aggregate place fold } ∷ mentions c true t
  mentions c inside (tree.count_all place fold is_distinct) = record { clause = c; is_inside = inside; what = mentioned.Aggregate place fold } ∷ []

  pub mentions_of_step : Clause → Bool → OneStep → List Mention
  mentions_of_step c inside (tree.binary op right) = mentions c inside right
  mentions_of_step c inside (tree.among is_negated items) = mentions_of_trees c inside items
  mentions_of_step c inside (tree.between is_negated low high) = mentions c inside low ++ mentions c inside high

  pub mentions_of_steps : Clause → Bool → Steps → List Mention
  mentions_of_steps c inside no_steps = []
  mentions_of_steps c inside (then before step) = mentions_of_steps c inside before ++ mentions_of_step c inside step

  pub mentions_of_trees : Clause → Bool → Trees → List Mention
  mentions_of_trees c inside no_trees = []
  mentions_of_trees c inside (and_tree before t) = mentions_of_trees c inside before ++ mentions c inside t

abbrev pub mentions_of_option : Clause → Option Tree → List Mention
mentions_of_option c None = []
mentions_of_option c (Some t) = mentions c false t

abbrev pub mentions_of_items : List ItemTree → List Mention
mentions_of_items [] = []
mentions_of_items (all place ∷ items) = mentions_of_items items
mentions_of_items (all_of table ∷ items) = mentions_of_items items
mentions_of_items (one t span alias ∷ items) = mentions clause.Item false t ++ mentions_of_items items

-- of the ONs; from the first of these, so many tables and itself are seen
abbrev pub mentions_of_sources : ℕ → List RefTree → List Mention
mentions_of_sources before [] = []
mentions_of_sources before (ref ∷ refs) = mentions_of_option (clause.On (before + 1)) ref.on ++ mentions_of_sources (before + 1) refs

abbrev pub mentions_of_keys : List Tree → List Mention
mentions_of_keys [] = []
mentions_of_keys (t ∷ keys) = mentions clause.Key false t ++ mentions_of_keys keys

abbrev pub mentions_of_having : Option HavingTree → List Mention
mentions_of_having None = []
mentions_of_having (Some having) = mentions clause.Having false having.tree

abbrev pub mentions_of_terms : List TermTree → List Mention
mentions_of_terms [] = []
mentions_of_terms (term ∷ terms) = mentions clause.Term false term.tree ++ mentions_of_terms terms

unfoldable pub mentions_of_select : SelectTree → List Mention
mentions_of_select select =
    mentions_of_items select.items ++ (mentions_of_sources 0 select.sources ++ (mentions_of_option clause.Where select.filter ++ (mentions_of_keys select.keys ++ (mentions_of_having select.having ++ mentions_of_terms select.terms))))
