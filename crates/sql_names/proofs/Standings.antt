-- An expression stands where its mentions do.
use Rattle.std.proofs.Common.{◌≡◌, ℕ, zero, suc, Bool, true, false, List, [], ◌∷◌, Option, Some, None, refl, ap, sym, ◌∙◌, subst}
use Rattle.std.specs.Prelude.{slice_get, ◌||◌, if◌then◌else◌}
use Rattle.std.specs.Option.{option_map_or}
use Rattle.osq_value.specs.declared.value.Value.{Value}
use Rattle.osq_value.specs.declared.value.Value.TheVariants.{Text}
use Rattle.sql_tree.specs.declared.tree.Name.{Name}
use Rattle.sql_tree.specs.declared.functions.Fold.{Fold}
use Rattle.sql_tree.specs.Tree.{Tree, OneStep, Steps, Trees}
use Rattle.sql_tree.specs.Tree as tree
use Rattle.sql_scope.specs.declared.mention.Clause.{Clause}
use Rattle.sql_scope.specs.declared.mention.Mentioned.TheVariants as mentioned
use Rattle.sql_scope.specs.declared.naming.Meaning.{Meaning}
use Rattle.sql_scope.specs.declared.naming.Meaning.TheVariants as meaning
use Rattle.sql_scope.specs.declared.naming.Rule.{Rule}
use Rattle.sql_scope.specs.declared.naming.Rule.TheVariants as rule
use Rattle.sql_query.specs.declared.query.SourceColumn.{SourceColumn}
use Rattle.sql_query.specs.declared.place.Place.{Place}
use Rattle.sql_scope.specs.declared.scope.Seen.{Seen}
use Rattle.sql_query.specs.Exprs.{literal}
use Rattle.sql_names.specs.Kinds.{forbids, names_in, seen_from, aggregate_at, aggregate_meant}
use Rattle.sql_scope.specs.Mentions.{mentions, mentions_of_step, mentions_of_steps, mentions_of_trees}
use Rattle.sql_scope.specs.Naming.{meaning_by, meaning_of, alias_from, place_or_word, shown_expr, meant, named, expr_of, expr_step_of, expr_steps_of, exprs_of}
use Rattle.sql_scope.specs.Scope.{plain_place, known_place}
use Rattle.sql_scope.specs.Shown.{ShownTree, Names}
use Rattle.sql_scope.specs.Spelling.{name_text}
use Rattle.sql_query.specs.Standing.{IsScoped, IsStepScoped, AreStepsScoped, AreExprsScoped}
use Rattle.sql_names.proofs.Places.{AreSeen, IsPlace, plain_place_is, known_place_is}
use Rattle.sql_names.proofs.Fines.{IsFine, AreFine, fine_left, fine_right}

-- whether an aggregate may stand where it is or is not forbidden
abbrev pub allowed : Bool → Bool → Bool
allowed grouped true = false
allowed grouped false = grouped

-- These names stand for columns of these tables, and an alias for an expression that stands; where an aggregate is forbidden, by the names of the whole select, the alias has none.
pub record Reads (tables : List (List SourceColumn)) (grouped : Bool) (names : Names) (c : Clause) (n : Names) : Type 0 where
  pub text : n.text ≡ names.text
  pub scope : AreSeen tables n.scope
  pub alias : (name : List ℕ) (number : ℕ) → meaning_of n name ≡ meaning.Alias number → IsScoped tables grouped (shown_expr n.shown number name)
  pub plain : (name : List ℕ) (number : ℕ) → meaning_of n name ≡ meaning.Alias number → aggregate_meant names.shown (meaning_of (names_in names c) name) ≡ None → IsScoped tables false (shown_expr n.shown number name)

meant_column : (rule : Rule) (place : Option Place) (alias : Option ℕ) (p : Place) → meaning_by rule place alias ≡ meaning.Column p → place ≡ Some p
meant_column rule.Columns None alias p e = absurd (let no : ⊥ = cc in no)
meant_column rule.Columns (Some q) alias p e = cc
meant_column rule.AliasFirst None None p e = absurd (let no : ⊥ = cc in no)
meant_column rule.AliasFirst (Some q) None p e = cc
meant_column rule.AliasFirst None (Some k) p e = absurd (let no : ⊥ = cc in no)
meant_column rule.AliasFirst (Some q) (Some k) p e = absurd (let no : ⊥ = cc in no)
meant_column rule.ColumnFirst None None p e = absurd (let no : ⊥ = cc in no)
meant_column rule.ColumnFirst None (Some k) p e = absurd (let no : ⊥ = cc in no)
meant_column rule.ColumnFirst (Some q) alias p e = cc

no_alias : (place : Option Place) (alias : Option ℕ) (number : ℕ) → meaning_by rule.Columns place alias ≡ meaning.Alias number → ⊥
no_alias None alias number e = let no : ⊥ = cc in no
no_alias (Some q) alias number e = let no : ⊥ = cc in no

column_is : (tables : List (List SourceColumn)) (n : Names) (name : List ℕ) (p : Place) → AreSeen tables n.scope → meaning_of n name ≡ meaning.Column p → IsPlace tables p
unfolding meaning_of
column_is tables n name p seen e = plain_place_is tables n.scope name p seen (meant_column n.rule (plain_place name n.scope) (alias_from name 0 n.shown) p e)

pub place_stands : (tables : List (List SourceColumn)) (may_fold : Bool) (o : Option Place) (name : List ℕ) → ((p : Place) → o ≡ Some p → IsPlace tables p) → IsScoped tables may_fold (place_or_word o name)
place_stands tables may_fold None name is = tt
place_stands tables may_fold (Some p) name is = is p refl

alias_stands : {tables : List (List SourceColumn)} {grouped : Bool} {names : Names} {c : Clause} {n : Names} (r : Reads tables grouped names c n) (forbidden : Bool) (name : List ℕ) (number : ℕ) → meaning_of n name ≡ meaning.Alias number → (if forbidden then aggregate_meant names.shown (meaning_of (names_in names c) name) else None) ≡ None → IsScoped tables (allowed grouped forbidden) (shown_expr n.shown number name)
alias_stands r true name number is fine = r.plain name number is fine
alias_stands r false name number is fine = r.alias name number is

meant_stands : {tables : List (List SourceColumn)} {grouped : Bool} {names : Names} {c : Clause} {n : Names} (r : Reads tables grouped names c n) (forbidden : Bool) (name : List ℕ) (m : Meaning) → meaning_of n name ≡ m → (if forbidden then aggregate_meant names.shown (meaning_of (names_in names c) name) else None) ≡ None → IsScoped tables (allowed grouped forbidden) (meant n name m)
meant_stands {tables = tables} {n = n} r forbidden name (meaning.Column p) is fine = column_is tables n name p r.scope is
meant_stands r forbidden name (meaning.Alias number) is fine = alias_stands r forbidden name number is fine
meant_stands r forbidden name meaning.Word is fine = tt

named_stands : {tables : List (List SourceColumn)} {grouped : Bool} {names : Names} {c : Clause} {n : Names} (r : Reads tables grouped names c n) (inside : Bool) (table : Option Name) (column : Name) → IsFine names grouped (record { clause = c; is_inside = inside; what = mentioned.Column table column }) → IsScoped tables (allowed grouped (forbids c || inside)) (named n table column)
unfolding named
named_stands {tables = tables} {grouped = grouped} {c = c} {n = n} r inside (Some table) column fine =
    place_stands tables (allowed grouped (forbids c || inside)) (known_place (name_text n.text table) (name_text n.text column) n.scope) (name_text n.text column) (λ p. known_place_is tables n.scope (name_text n.text table) (name_text n.text column) p r.scope)
named_stands {names = names} {c = c} {n = n} r inside None column fine =
    meant_stands r (forbids c || inside) (name_text n.text column) (meaning_of n (name_text n.text column)) refl
    (subst (λ (text : List ℕ). (if forbids c || inside then aggregate_meant names.shown (meaning_of (names_in names c) (name_text text column)) else None) ≡ None) (sym r.text) fine.0)

not_forbidden : (forbidden : Bool) (place : ℕ) → (if forbidden then Some place else None) ≡ None → forbidden ≡ false
not_forbidden true place e = absurd (let no : ⊥ = cc in no)
not_forbidden false place e = refl

or_left : (a b : Bool) → (a || b) ≡ false → a ≡ false
or_left true b e = e
or_left false b e = refl

or_true : (a : Bool) → (a || true) ≡ true
or_true true = refl
or_true false = refl

fold_stands : (names : Names) (grouped : Bool) (c : Clause) (inside : Bool) (place : ℕ) (fold : Fold) → IsFine names grouped (record { clause = c; is_inside = inside; what = mentioned.Aggregate place fold }) → allowed grouped (forbids c || inside) ≡ true
fold_stands names grouped c inside place fold fine =
    let free : (forbids c || inside) ≡ false = not_forbidden (forbids c || inside) place fine.0 in
    ap (allowed grouped) free ∙ fine.1 refl (or_left (forbids c) inside free)

mutual
  pub expr_stands : {tables : List (List SourceColumn)} {grouped : Bool} {names : Names} {c : Clause} {n : Names} (r : Reads tables grouped names c n) (inside : Bool) (t : Tree) → AreFine names grouped (mentions c inside t) → IsScoped tables (allowed grouped (forbids c || inside)) (expr_of n t)
  expr_stands r inside (tree.number place number) fine = tt
  expr_stands r inside (tree.text span) fine = tt
  expr_stands r inside tree.null fine = tt
  expr_stands r inside (tree.column table column) fine = named_stands r inside table column fine.0
  expr_stands {grouped = grouped} {names = names} {c = c} r inside (tree.chain first steps) fine = (
    expr_stands r inside first (fine_left names grouped (mentions c inside first) (mentions_of_steps c inside steps) fine),
    steps_stand r inside steps (fine_right names grouped (mentions c inside first) (mentions_of_steps c inside steps) fine),
  )
  expr_stands r inside (tree.negation t) fine = expr_stands r inside t fine
  expr_stands r inside (tree.minus t) fine = expr_stands r inside t fine
  expr_stands r inside (tree.plus t) fine = expr_stands r inside t fine
  expr_stands r inside (tree.cast t is_text) fine = expr_stands r inside t fine
  expr_stands r inside (tree.call function arguments) fine = trees_stand r inside arguments fine
  expr_stands {tables = tables} {grouped = grouped} {names = names} {c = c} {n = n} r inside (tree.folded place fold is_distinct t) fine = (
    fold_stands names grouped c inside place fold fine.0,
    subst (λ (forbidden : Bool). IsScoped tables (allowed grouped forbidden) (expr_of n t)) (or_true (forbids c)) (expr_stands r true t fine.1),
  )
  expr_stands {grouped = grouped} {names = names} {c = c} r inside (tree.count_all place fold is_distinct) fine = fold_stands names grouped c inside place fold fine.0

  pub step_stands : {tables : List (List SourceColumn)} {grouped : Bool} {names : Names} {c : Clause} {n : Names} (r : Reads tables grouped names c n) (inside : Bool) (step : OneStep) → AreFine names grouped (mentions_of_step c inside step) → IsStepScoped tables (allowed grouped (forbids c || inside)) (expr_step_of n step)
  step_stands r inside (tree.binary op right) fine = expr_stands r inside right fine
  step_stands r inside (tree.among is_negated items) fine = trees_stand r inside items fine
  step_stands {grouped = grouped} {names = names} {c = c} r inside (tree.between is_negated low high) fine = (
    expr_stands r inside low (fine_left names grouped (mentions c inside low) (mentions c inside high) fine),
    expr_stands r inside high (fine_right names grouped (mentions c inside low) (mentions c inside high) fine),
  )

  pub steps_stand : {tables : List (List SourceColumn)} {grouped : Bool} {names : Names} {c : Clause} {n : Names} (r : Reads tables grouped names c n) (inside : Bool) (steps : Steps) → AreFine names grouped (mentions_of_steps c inside steps) → AreStepsScoped tables (allowed grouped (forbids c || inside)) (expr_steps_of n steps)
  steps_stand r inside tree.no_steps fine = tt
  steps_stand {grouped = grouped} {names = names} {c = c} r inside (tree.then before step) fine = (
    steps_stand r inside before (fine_left names grouped (mentions_of_steps c inside before) (mentions_of_step c inside step) fine),
    step_stands r inside step (fine_right names grouped (mentions_of_steps c inside before) (mentions_of_step c inside step) fine),
  )

  trees_stand : {tables : List (List SourceColumn)} {grouped : Bool} {names : Names} {c : Clause} {n : Names} (r : Reads tables grouped names c n) (inside : Bool) (trees : Trees) → AreFine names grouped (mentions_of_trees c inside trees) → AreExprsScoped tables (allowed grouped (forbids c || inside)) (exprs_of n trees)
  trees_stand r inside tree.no_trees fine = tt
  trees_stand {grouped = grouped} {names = names} {c = c} r inside (tree.and_tree before t) fine = (
    trees_stand r inside before (fine_left names grouped (mentions_of_trees c inside before) (mentions c inside t) fine),
    expr_stands r inside t (fine_right names grouped (mentions_of_trees c inside before) (mentions c inside t) fine),
  )

-- where a plain name is a column or a word
pub reads_columns : (tables : List (List SourceColumn)) (grouped : Bool) (names : Names) (c : Clause) (scope : List Seen) (shown : List ShownTree) → AreSeen tables scope → Reads tables grouped names c (record { derived = names.derived; text = names.text; scope = scope; shown = shown; rule = rule.Columns })
unfolding meaning_of
reads_columns tables grouped names c scope shown seen = record {
  text = refl;
  scope = seen;
  alias = λ name number is. absurd (no_alias (plain_place name scope) (alias_from name 0 shown) number is);
  plain = λ name number is none. absurd (no_alias (plain_place name scope) (alias_from name 0 shown) number is);
}

-- a column of the result stands, and without an aggregate it is a plain expression
abbrev pub IsShown : List (List SourceColumn) → Bool → ShownTree → Type 0
IsShown tables grouped s = IsScoped tables grouped s.expr × (s.aggregate ≡ None → IsScoped tables false s.expr)

abbrev pub AreShown : List (List SourceColumn) → Bool → List ShownTree → Type 0
AreShown tables grouped [] = Unit {0}
AreShown tables grouped (s ∷ shown) = IsShown tables grouped s × AreShown tables grouped shown

pub shown_stands : (tables : List (List SourceColumn)) (grouped : Bool) (shown : List ShownTree) (number : ℕ) (other : Value) → AreShown tables grouped shown → IsScoped tables grouped (option_map_or (λ (s : ShownTree). s.expr) (slice_get shown number) (literal other))
shown_stands tables grouped [] number other are = tt
shown_stands tables grouped (s ∷ shown) zero other are = are.0.0
shown_stands tables grouped (s ∷ shown) (suc number) other are = shown_stands tables grouped shown number other are.1

pub shown_plain : (tables : List (List SourceColumn)) (grouped : Bool) (shown : List ShownTree) (number : ℕ) (other : Value) → AreShown tables grouped shown → aggregate_at shown number ≡ None → IsScoped tables false (option_map_or (λ (s : ShownTree). s.expr) (slice_get shown number) (literal other))
shown_plain tables grouped [] number other are none = tt
shown_plain tables grouped (s ∷ shown) zero other are none = are.0.1 none
shown_plain tables grouped (s ∷ shown) (suc number) other are none = shown_plain tables grouped shown number other are.1 none

-- where a plain name may be an alias
pub reads_shown : (tables : List (List SourceColumn)) (grouped : Bool) (names : Names) (c : Clause) → AreSeen tables (seen_from c names.scope) → AreShown tables grouped names.shown → Reads tables grouped names c (names_in names c)
reads_shown tables grouped names c seen are = record {
  text = refl;
  scope = seen;
  alias = λ name number is. shown_stands tables grouped names.shown number (Text name) are;
  plain = λ name number is none. shown_plain tables grouped names.shown number (Text name) are (sym (ap (aggregate_meant names.shown) is) ∙ none);
}
