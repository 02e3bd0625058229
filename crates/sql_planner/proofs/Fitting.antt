-- Loops over rows, tables and conjuncts that were gone over up to a place.
use Rattle.std.proofs.Common.{◌≡◌, ℕ, zero, suc, ◌+◌, ◌<◌, ◌≤◌, refl, sym, ap, ap₂, ◌∙◌, subst, arith, Bool, true, false, ◌&&◌, List, [], ◌∷◌, ◌++◌, length, map, take, get_or, slice_get, Option, Some, None, IfSome, Bor}
use Rattle.std.specs.List.{All}
use Rattle.std.specs.Option.{option_copied}
use Rattle.std.proofs.lemmas.List.{append_assoc, append-nil, get_or-append-add, map-append, take_more}
use Rattle.std.proofs.lemmas.List.Elements.{All-append, All-cons, All-head, All-nil, All-tail}
use Rattle.std.proofs.lemmas.List.Folds.{list_all-append}
use Rattle.std.proofs.lemmas.Option.{get_or_from_slice_get}
use Rattle.osq_value.specs.declared.value.Value.{Value}
use Rattle.osq_value.specs.declared.value.Value.TheVariants.{Null}
use Rattle.osq_value.specs.declared.catalogue.Affinity.{Affinity}
use Rattle.sql_query.specs.Exprs.{ExprTree, OneExprStep}
use Rattle.sql_query.specs.Exprs as expr
use Rattle.sql_query.specs.View.{expr_of, exprs_of, step_of, steps_of}
use Rattle.sql_query.specs.Resolved.{SourceTree, QueryTree, source_of}
use Rattle.sql_query.specs.declared.query.QuerySource.{QuerySource}
use Rattle.sql_query.specs.declared.tree.Expr.{Expr}
use Rattle.sql_query.specs.declared.tree.ExprStep.{ExprStep}
use Rattle.sql_meaning.specs.Expressions.{affinity_after, alone, holds, is_true, value_after, value_by, value_of}
use Rattle.sql_meaning.specs.Finished.{seen}
use Rattle.sql_meaning.specs.Joins.{View, join, joins, product}
use Rattle.sql_meaning.specs.Meaning.{meaning_of}
use Rattle.sql_meaning.specs.Steps.{environments}
use Rattle.sql_meaning.proofs.Parts.{exprs_more, steps_more}
use Rattle.sql_scalar.specs.Operators.{apply_of}
use Rattle.sql_scalar.specs.Truth.{truth_of}
use Rattle.virtual_tables.specs.Constraints.{affinity_at, comparison, is_met, meets, operator_of}
use Rattle.virtual_tables.specs.declared.constraint.Constraint.{Constraint}
use Rattle.virtual_tables.specs.declared.constraint.ConstraintOp.{ConstraintOp}
use Rattle.sql_planner.specs.Pushing.{AreParts, AreRows, AreWide, IsAnswered, IsPlaced, IsWide, Stands, asked_of, kept}
use Rattle.sql_planner.specs.Reading.{AreHalves, IsLiteralFor, IsTestOf}
use Rattle.sql_planner.specs.Within.{AreStepsWithin, AreWithin, IsStepWithin, IsWithin}
use Rattle.sql_planner.proofs.Columns.{truth-met}
use Rattle.sql_planner.proofs.Pushed.{holds-append, joins-behind, wide-join}

-- expressions of a list, and steps of a chain, that look at the first values alone
pub all-within : (width : ℕ) (exprs : List Expr) (at : ℕ) (item : Expr) → at < length exprs → item ≡ get_or exprs at item
    → AreWithin width (exprs_of (take at exprs)) → IsWithin width (expr_of item) → AreWithin width (exprs_of (take (at + 1) exprs))
all-within width exprs at item inside is before here =
    subst (AreWithin width) (sym (exprs_more exprs at item inside is)) (λ row more wide. ap₂ (λ (vs : List Value) (v : Value). vs ++ v ∷ []) (before row more wide) (here row more wide))

pub steps-within : (width : ℕ) (steps : List ExprStep) (at : ℕ) (item : ExprStep) → at < length steps → item ≡ get_or steps at item
    → AreStepsWithin width (steps_of (take at steps)) → IsStepWithin width (step_of item) → AreStepsWithin width (steps_of (take (at + 1) steps))
steps-within width steps at item inside is before here =
    subst (AreStepsWithin width) (sym (steps_more steps at item inside is))
    (λ row more wide first value.
    here row more wide (affinity_after first (steps_of (take at steps))) (value_after (alone (row ++ more)) first value (steps_of (take at steps)))
    ∙ ap (λ (v : Value). value_by (alone row) (affinity_after first (steps_of (take at steps))) v (step_of item)) (before row more wide first value))

-- one more item of which P holds
all-more : {X : Type 0} (P : X → Type 0) (xs : List X) (at : ℕ) (x : X) → at < length xs → x ≡ get_or xs at x → All P (take at xs) → P x → All P (take (at + 1) xs)
all-more P xs at x inside is before here =
    subst (All P) (sym (take_more xs at x inside ∙ ap (λ y. take at xs ++ y ∷ []) (sym is))) (All-append P (take at xs) (x ∷ []) before (All-cons P x [] here (All-nil P)))

no-row : (row : List Value) → None ≡ Some row → ⊥
no-row row is = cc

same-row : (a b : List Value) → Some a ≡ Some b → a ≡ b
same-row a b is = cc

some-row : (rows : List (List Value)) (at : ℕ) (d : List Value) → at < length rows → slice_get rows at ≡ Some (get_or rows at d)
some-row [] at d inside = absurd (omega (arith, inside))
some-row (row ∷ rows) zero d inside = refl
some-row (row ∷ rows) (suc at) d inside = some-row rows at d (omega (arith, inside))

-- one more row of this width
pub rows-more : (rows : List (List Value)) (at width : ℕ) → at < length rows → (found : Option (Bor (List Value))) → option_copied found ≡ slice_get rows at → IfSome found (λ row. length row.now ≡ width)
    → AreRows width (take at rows) → AreRows width (take (at + 1) rows)
rows-more rows at width inside None is wide before = absurd (no-row (get_or rows at []) (is ∙ some-row rows at [] inside))
rows-more rows at width inside (Some row) is wide before =
    all-more (λ (r : List Value). length r ≡ width) rows at row.now inside (sym (get_or_from_slice_get rows at row.now row.now (sym is))) before wide

pub tables-more : (sources : List QuerySource) (at : ℕ) (source : QuerySource) → at < length sources → source ≡ get_or sources at source
    → map source_of (take (at + 1) sources) ≡ map source_of (take at sources) ++ source_of source ∷ []
tables-more sources at source inside is =
    ap (map source_of) (take_more sources at source inside ∙ ap (λ (s : QuerySource). take at sources ++ s ∷ []) (sym is)) ∙ map-append source_of (take at sources) (source ∷ [])

-- one more table whose rows are as wide as it is
pub wide-more : (view : View) (sources : List QuerySource) (at : ℕ) (source : QuerySource) → at < length sources → source ≡ get_or sources at source
    → AreWide view (map source_of (take at sources)) → (columns : ℕ) → columns ≡ length source.columns → AreRows columns (view source.table.0) → AreWide view (map source_of (take (at + 1) sources))
wide-more view sources at source inside is before columns counted rows =
    let here : IsWide view (source_of source) = subst (λ (n : ℕ). AreRows n (view source.table.0)) counted rows in
    subst (AreWide view) (sym (tables-more sources at source inside is)) (All-append (IsWide view) (map source_of (take at sources)) (source_of source ∷ []) before (All-cons (IsWide view) (source_of source) [] here (All-nil (IsWide view))))

-- one more conjunct
pub parts-more-lent : (parts : List (Bor Expr)) (at : ℕ) (part : Bor Expr) → at < length parts → part ≡ get_or parts at part
    → map (λ (p : Bor Expr). expr_of p.now) (take (at + 1) parts) ≡ map (λ (p : Bor Expr). expr_of p.now) (take at parts) ++ expr_of part.now ∷ []
parts-more-lent parts at part inside is =
    ap (map (λ (p : Bor Expr). expr_of p.now)) (take_more parts at part inside ∙ ap (λ (p : Bor Expr). take at parts ++ p ∷ []) (sym is)) ∙ map-append (λ (p : Bor Expr). expr_of p.now) (take at parts) (part ∷ [])

and-swap : (a b c : Bool) → ((a && b) && c) ≡ ((a && c) && b)
and-swap true true c = by c
  where
    by : (c : Bool) → c ≡ (c && true)
    by true = refl
    by false = refl
and-swap true false true = refl
and-swap true false false = refl
and-swap false b c = refl

and-assoc : (a b c : Bool) → ((a && b) && c) ≡ (a && (b && c))
and-assoc true b c = refl
and-assoc false b c = refl

pub answered-more : (width : ℕ) (here : List ExprTree) (e : ExprTree) → IsAnswered width here → IsWithin width e → IsAnswered width (here ++ e ∷ [])
answered-more width here e answered within = λ row more wide.
    holds-append (row ++ more) here (e ∷ [])
    ∙ ap₂ (λ (a : Bool) (v : Value). a && (is_true v && true)) (answered row more wide) (within row more wide)
    ∙ sym (holds-append row here (e ∷ []))

pub parts-here : (parts here later : List ExprTree) (e : ExprTree) → AreParts parts here later → AreParts (parts ++ e ∷ []) (here ++ e ∷ []) later
parts-here parts here later e split = λ row.
    holds-append row parts (e ∷ [])
    ∙ ap (λ (a : Bool). a && holds (alone row) (e ∷ [])) (split row)
    ∙ and-swap (holds (alone row) here) (holds (alone row) later) (holds (alone row) (e ∷ []))
    ∙ ap (λ (a : Bool). a && holds (alone row) later) (sym (holds-append row here (e ∷ [])))

pub parts-later : (parts here later : List ExprTree) (e : ExprTree) → AreParts parts here later → AreParts (parts ++ e ∷ []) here (later ++ e ∷ [])
parts-later parts here later e split = λ row.
    holds-append row parts (e ∷ [])
    ∙ ap (λ (a : Bool). a && holds (alone row) (e ∷ [])) (split row)
    ∙ and-assoc (holds (alone row) here) (holds (alone row) later) (holds (alone row) (e ∷ []))
    ∙ ap (λ (a : Bool). holds (alone row) here && a) (sym (holds-append row later (e ∷ [])))

-- one more table with its conjuncts
stands-behind : (view : View) (parts : List ExprTree) (done made : List SourceTree) (rest later : List ExprTree) (wider before : ℕ) (lefts : List (List Value)) (source placed : SourceTree)
    → IsWide view source → IsPlaced wider source rest placed later → wider ≤ before + length source.columns → lefts ≡ joins view ([] ∷ []) made → AreRows before lefts → AreWide view made
    → ((behind : List SourceTree) → kept parts (joins view ([] ∷ []) (done ++ behind)) ≡ kept rest (joins view ([] ∷ []) (made ++ behind)))
    → Stands view parts (done ++ source ∷ []) (made ++ placed ∷ []) later wider
stands-behind view parts done made rest later wider before lefts source placed wide is grows lent rows all same = (
  (
    before + length source.columns,
    grows,
    subst (AreRows (before + length source.columns)) (ap (λ (ls : List (List Value)). join view ls placed) lent ∙ sym (joins-behind view ([] ∷ []) made (placed ∷ [])))
        (subst (λ (n : ℕ). AreRows (before + n) (join view lefts placed)) (ap length is.1) (wide-join view placed before placed_wide lefts rows)),
  ),
  All-append (IsWide view) made (placed ∷ []) all (All-cons (IsWide view) placed [] placed_wide (All-nil (IsWide view))),
  λ behind.
      ap (λ (ss : List SourceTree). kept parts (joins view ([] ∷ []) ss)) (append_assoc done (source ∷ []) behind)
      ∙ same (source ∷ behind)
      ∙ ap (kept rest) (joins-behind view ([] ∷ []) made (source ∷ behind) ∙ ap (λ (ls : List (List Value)). joins view ls (source ∷ behind)) (sym lent))
      ∙ is.2 before grows view lefts behind rows wide
      ∙ ap (kept later) (ap (λ (ls : List (List Value)). joins view ls (placed ∷ behind)) lent ∙ sym (joins-behind view ([] ∷ []) made (placed ∷ behind)))
      ∙ ap (λ (ss : List SourceTree). kept later (joins view ([] ∷ []) ss)) (sym (append_assoc made (placed ∷ []) behind)),
)
  where
    placed_wide : IsWide view placed
    placed_wide = subst (λ (n : ℕ). AreRows n (view placed.table)) (sym (ap length is.1)) (subst (λ (t : ℕ). AreRows (length source.columns) (view t)) (sym is.0) wide)

pub stands-more : (view : View) (parts : List ExprTree) (done made : List SourceTree) (rest later : List ExprTree) (width wider : ℕ) (source placed : SourceTree)
    → IsWide view source → IsPlaced wider source rest placed later → ((before : ℕ) → width ≤ before → wider ≤ before + length source.columns)
    → Stands view parts done made rest width → Stands view parts (done ++ source ∷ []) (made ++ placed ∷ []) later wider
stands-more view parts done made rest later width wider source placed wide is grows stands =
    stands-behind view parts done made rest later wider stands.0.0 (joins view ([] ∷ []) made) source placed wide is (grows stands.0.0 stands.0.1) refl stands.0.2 stands.1 stands.2

-- the query with other tables and another condition means the same where these keep the same rows
pub asked-means : (query : QueryTree) (sources : List SourceTree) (parts : List ExprTree) (view : View) → kept query.filter (product view query.sources) ≡ kept parts (product view sources)
    → meaning_of (asked_of query sources parts) view ≡ meaning_of query view
asked-means query sources parts view same = ap (λ (rows : List (List Value)). seen query (environments query rows)) (sym same)

-- a comparison of a column behind so many values says what the constraint says of the table's row
pub test-behind : (table : ℕ) (part : ExprTree) (source number at column before : ℕ) (affinity : Option Affinity) (op : ConstraintOp) (literal value : Value)
    → part ≡ expr.chain (expr.column source number at affinity) (expr.then expr.no_steps (expr.binary (operator_of op) (expr.literal literal)))
    → IsLiteralFor (affinity_at table column) affinity literal value → at ≡ before + column → IsTestOf table before part (record { column = column; op = op; value = value })
test-behind table part source number at column before affinity op literal value is same place = λ left right wide.
    let c : Constraint = record { column = column; op = op; value = value } in
    let found : get_or (left ++ right) at Null ≡ get_or right column Null =
    ap (λ (n : ℕ). get_or (left ++ right) n Null) (place ∙ ap (λ (n : ℕ). n + column) (sym wide)) ∙ get_or-append-add left right column Null in
    ap (λ (e : ExprTree). is_true (value_of (alone (left ++ right)) e)) is
    ∙ ap (λ (v : Value). is_true (apply_of (operator_of op) affinity None v literal)) found
    ∙ ap is_true (sym (same op (get_or right column Null)))
    ∙ sym (truth-met (truth_of (comparison table c right)))

pub halves-test : (table width : ℕ) (parts on : List ExprTree) (tests : List Constraint) (e : ExprTree) (c : Constraint) → IsTestOf table width e c
    → AreHalves table width parts tests on → AreHalves table width (parts ++ e ∷ []) (tests ++ c ∷ []) on
halves-test table width parts on tests e c test halves = λ left right wide.
    holds-append (left ++ right) parts (e ∷ [])
    ∙ ap₂ (λ (a b : Bool). a && (b && true)) (halves left right wide) (test left right wide)
    ∙ and-swap (meets table tests right) (holds (alone (left ++ right)) on) (is_met table right c && true)
    ∙ ap (λ (a : Bool). a && holds (alone (left ++ right)) on) (sym (list_all-append (is_met table right) tests (c ∷ [])))

pub halves-on : (table width : ℕ) (parts on : List ExprTree) (tests : List Constraint) (e : ExprTree) → AreHalves table width parts tests on → AreHalves table width (parts ++ e ∷ []) tests (on ++ e ∷ [])
halves-on table width parts on tests e halves = λ left right wide.
    holds-append (left ++ right) parts (e ∷ [])
    ∙ ap (λ (a : Bool). a && holds (alone (left ++ right)) (e ∷ [])) (halves left right wide)
    ∙ and-assoc (meets table tests right) (holds (alone (left ++ right)) on) (holds (alone (left ++ right)) (e ∷ []))
    ∙ ap (λ (a : Bool). meets table tests right && a) (sym (holds-append (left ++ right) on (e ∷ [])))

-- no table yet
pub stands-first : (view : View) (parts rest : List ExprTree) → rest ≡ parts → Stands view parts [] [] rest 0
stands-first view parts rest is = ((0, omega arith, All-cons (λ (row : List Value). length row ≡ 0) [] [] refl (All-nil (λ (row : List Value). length row ≡ 0))), All-nil (IsWide view), λ behind. ap (λ (ps : List ExprTree). kept ps (joins view ([] ∷ []) behind)) (sym is))

-- all tables
pub stands-whole : (view : View) (parts : List ExprTree) (all done made : List SourceTree) (rest : List ExprTree) (width : ℕ) → done ≡ all → Stands view parts done made rest width
    → kept parts (product view all) ≡ kept rest (product view made)
stands-whole view parts all done made rest width is stands =
    ap (λ (ss : List SourceTree). kept parts (joins view ([] ∷ []) ss)) (sym (append-nil done ∙ is))
    ∙ stands.2 []
    ∙ ap (λ (ss : List SourceTree). kept rest (joins view ([] ∷ []) ss)) (append-nil made)

-- one of the tables
pub wide-at : (view : View) (sources : List QuerySource) (at : ℕ) (source : QuerySource) → at < length sources → source ≡ get_or sources at source → AreWide view (map source_of sources) → IsWide view (source_of source)
wide-at view [] at source inside is wide = absurd (omega (arith, inside))
wide-at view (first ∷ rest) zero source inside is wide = subst (λ (s : QuerySource). IsWide view (source_of s)) (sym is) (All-head (IsWide view) (source_of first) (map source_of rest) wide)
wide-at view (first ∷ rest) (suc at) source inside is wide = wide-at view rest at source (omega (arith, inside)) is (All-tail (IsWide view) (source_of first) (map source_of rest) wide)
