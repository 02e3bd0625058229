-- What a text means depends on the tables alone that its FROM names.
use Rattle.std.proofs.Common.{◌≡◌, ℕ, refl, ap, ◌∙◌, Bool, true, false, List, [], ◌∷◌, Option, Some, None}
use Rattle.std.specs.Prelude.{◌==◌, if◌then◌else◌}
use Rattle.std.proofs.lemmas.Bool.{eq-eqb}
use Rattle.osq_value.specs.declared.value.Value.{Value}
use Rattle.sql_query.specs.Answers.{is_among}
use Rattle.sql_query.specs.Resolved.{QueryTree, SourceTree}
use Rattle.sql_meaning.specs.Joins.{join, join_by, joins, rule_of}
use Rattle.sql_meaning.specs.Meaning.{View}
use Rattle.sql_meaning.specs.Steps.{behind_from}
use Rattle.sql_texts.specs.Meaning.{has_table_if, meaning, meaning_if, names_table}
use Rattle.sql_texts.specs.Texts.{query_in}
use Rattle.sql_texts.specs.Laws.{DependOnNamed, DependOnSources}

-- what a join has is decided by the rows of its own table
join_same : (one other : View) (source : SourceTree) → one source.table ≡ other source.table → (lefts : List (List Value)) → join one lefts source ≡ join other lefts source
join_same one other source same lefts = ap (λ (rows : List (List Value)). join_by (rule_of source) lefts rows) same

first_among : (source : SourceTree) (sources : List SourceTree) → is_among source.table (source ∷ sources) ≡ true
first_among source sources = ap (λ (b : Bool). if b then true else is_among source.table sources) (eq-eqb source.table source.table refl)

later_among : (source : SourceTree) (sources : List SourceTree) (table : ℕ) → is_among table sources ≡ true → is_among table (source ∷ sources) ≡ true
later_among source sources table among = by (source.table == table)
  where
    by : (b : Bool) → (if b then true else is_among table sources) ≡ true
    by true = refl
    by false = among

joins_by : (one other : View) (sources : List SourceTree) → ((table : ℕ) → is_among table sources ≡ true → one table ≡ other table) → (rows : List (List Value)) → joins one rows sources ≡ joins other rows sources
joins_by one other [] agree rows = refl
joins_by one other (source ∷ sources) agree rows =
    joins_by one other sources (λ table among. agree table (later_among source sources table among)) (join one rows source) ∙ ap (λ (lefts : List (List Value)). joins other lefts sources) (join_same one other source (agree source.table (first_among source sources)) rows)

pub depend_on_sources : DependOnSources
depend_on_sources query one other agree = ap (behind_from query) (joins_by one other query.sources agree ([] ∷ []))

meant_by : (found : Option QueryTree) (one other : View) → ((table : ℕ) → has_table_if found table ≡ true → one table ≡ other table) → meaning_if found one ≡ meaning_if found other
meant_by None one other agree = refl
meant_by (Some query) one other agree = depend_on_sources query one other agree

pub depend_on_named : DependOnNamed
unfolding meaning names_table
depend_on_named text one other agree = meant_by (query_in text) one other agree
