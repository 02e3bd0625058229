-- Where the columns and the aggregates of a query stand.
use Rattle.std.specs.Prelude.{◌≡◌, ◌⊎◌, ℕ, ◌+◌, ◌<◌, ◌≤◌, Bool, false, List, [], ◌∷◌, length, take, map, slice_get, Option, Some, IsTrue, ⊤}
use Rattle.std.specs.List.{All}
use Rattle.osq_value.specs.declared.catalogue.Affinity.{Affinity}
use Rattle.osq_value.specs.Catalogue.{tables as catalogue}
use Rattle.sql_query.specs.declared.derived.Derived.{Derived}
use Rattle.sql_query.specs.declared.query.SourceColumn.{SourceColumn}
use Rattle.sql_query.specs.Tables.{derived_at, columns_at, name_at}
use Rattle.sql_query.specs.Exprs.{ExprTree, OneExprStep, ExprSteps, Exprs}
use Rattle.sql_query.specs.Exprs as expr
use Rattle.sql_query.specs.Resolved.{SourceTree, ResultTree, OrderTree, QueryTree}

-- the number of columns of these tables, which is that of the values of a row of their product
abbrev pub row_width : List (List SourceColumn) → ℕ
row_width [] = 0
row_width (columns ∷ tables) = length columns + row_width tables

-- The column of that number of the table of that number: it stands in a row of the product of the tables behind the columns of the tables before, and has the affinity that its table gives it.
pub record IsColumn (tables : List (List SourceColumn)) (source column at : ℕ) (affinity : Option Affinity) : Type 0 where
  pub columns : List SourceColumn
  pub found : SourceColumn
  pub of_table : slice_get tables source ≡ Some columns
  pub of_column : slice_get columns column ≡ Some found
  pub has_affinity : affinity ≡ found.affinity
  pub stands_at : at ≡ row_width (take source tables) + column
  pub is_within : at < row_width tables

abbrev mutual
  -- each column is one of these tables'; an aggregate stands only where one may, and none within another
  pub IsScoped : List (List SourceColumn) → Bool → ExprTree → Type 0
  IsScoped tables may_fold (expr.literal value) = ⊤
  IsScoped tables may_fold (expr.column source column at affinity) = IsColumn tables source column at affinity
  IsScoped tables may_fold (expr.chain first steps) = IsScoped tables may_fold first × AreStepsScoped tables may_fold steps
  IsScoped tables may_fold (expr.negation e) = IsScoped tables may_fold e
  IsScoped tables may_fold (expr.minus e) = IsScoped tables may_fold e
  IsScoped tables may_fold (expr.plus e) = IsScoped tables may_fold e
  IsScoped tables may_fold (expr.cast e affinity) = IsScoped tables may_fold e
  IsScoped tables may_fold (expr.call function arguments) = AreExprsScoped tables may_fold arguments
  IsScoped tables may_fold (expr.folded fold is_distinct e) = IsTrue may_fold × IsScoped tables false e
  IsScoped tables may_fold (expr.count_all fold is_distinct) = IsTrue may_fold

  pub IsStepScoped : List (List SourceColumn) → Bool → OneExprStep → Type 0
  IsStepScoped tables may_fold (expr.binary op right) = IsScoped tables may_fold right
  IsStepScoped tables may_fold (expr.among is_negated items) = AreExprsScoped tables may_fold items
  IsStepScoped tables may_fold (expr.between is_negated low high) = IsScoped tables may_fold low × IsScoped tables may_fold high

  pub AreStepsScoped : List (List SourceColumn) → Bool → ExprSteps → Type 0
  AreStepsScoped tables may_fold expr.no_steps = ⊤
  AreStepsScoped tables may_fold (expr.then before step) = AreStepsScoped tables may_fold before × IsStepScoped tables may_fold step

  pub AreExprsScoped : List (List SourceColumn) → Bool → Exprs → Type 0
  AreExprsScoped tables may_fold expr.no_exprs = ⊤
  AreExprsScoped tables may_fold (expr.and_expr before e) = AreExprsScoped tables may_fold before × IsScoped tables may_fold e

abbrev pub StandAll : List (List SourceColumn) → Bool → List ExprTree → Type 0
StandAll tables may_fold exprs = All (IsScoped tables may_fold) exprs

-- a FROM table is one of the catalogue's or a derived one, with the name and the columns that it has there
pub record IsOfTables (derived : List Derived) (source : SourceTree) : Type 0 where
  pub is_known : (source.table < length catalogue) ⊎ ((table : Derived) × (derived_at derived source.table ≡ Some table))
  pub has_name : source.name ≡ name_at derived source.table
  pub has_columns : source.columns ≡ columns_at derived source.table

abbrev pub columns_in : List SourceTree → List (List SourceColumn)
columns_in sources = map (λ (s : SourceTree). s.columns) sources

-- A query over the catalogue and these derived tables whose columns and aggregates stand where they may: those of an ON see the tables up to its own, all others see all tables; aggregates stand in the columns of the result, in HAVING and in ORDER BY alone, and only where rows are grouped, as GROUP BY and HAVING do.
pub record IsStanding (derived : List Derived) (query : QueryTree) : Type 0 where
  pub few : length query.sources ≤ 16
  pub sources : All (IsOfTables derived) query.sources
  pub ons : (k : ℕ) (source : SourceTree) → slice_get query.sources k ≡ Some source → StandAll (take (k + 1) (columns_in query.sources)) false source.on
  pub filter : StandAll (columns_in query.sources) false query.filter
  pub keys : StandAll (columns_in query.sources) false query.keys
  pub having : StandAll (columns_in query.sources) query.is_grouped query.having
  pub items : All (λ (item : ResultTree). IsScoped (columns_in query.sources) query.is_grouped item.expr) query.items
  pub terms : All (λ (term : OrderTree). IsScoped (columns_in query.sources) query.is_grouped term.expr) query.terms
  pub ungrouped : query.is_grouped ≡ false → (query.keys ≡ []) × (query.having ≡ [])
