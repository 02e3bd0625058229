-- The text that shows a plan: a line for each FROM table, and a line for each further step that there is.
use Rattle.std.specs.Prelude.{ℕ, ◌-◌, ◌==◌, nat_lt, Bool, true, false, not, if◌then◌else◌, List, [], ◌∷◌, ◌++◌, flat_map, length, slice_get, is_some, codes}
use Rattle.std.specs.Fmt.{decimal, signed_decimal}
use Rattle.std.specs.Option.{option_map_or}
use Rattle.osq_value.specs.declared.value.Value.{Value}
use Rattle.osq_value.specs.declared.value.Value.TheVariants.{Null, Int, Text}
use Rattle.sql_query.specs.declared.query.SourceColumn.{SourceColumn}
use Rattle.sql_query.specs.Resolved.{SourceTree, QueryTree}
use Rattle.virtual_tables.specs.declared.constraint.Constraint.{Constraint}
use Rattle.virtual_tables.specs.declared.constraint.ConstraintOp.{ConstraintOp}
use Rattle.virtual_tables.specs.declared.constraint.ConstraintOp.TheVariants.{Eq, Lt, Le, Gt, Ge}
use Rattle.sql_planner.specs.declared.plan.JoinForm.{JoinForm}
use Rattle.sql_planner.specs.declared.plan.JoinForm.TheVariants.{First, Nested, Hashed}
use Rattle.sql_planner.specs.declared.plan.Scan.{Scan}
use Rattle.sql_planner.specs.Plans.{PlanTree}

abbrev pub sign_of : ConstraintOp → List ℕ
sign_of Eq = codes " = "
sign_of Lt = codes " < "
sign_of Le = codes " <= "
sign_of Gt = codes " > "
sign_of Ge = codes " >= "

-- a byte between single quotes: a single quote is written twice
abbrev pub doubled : ℕ → List ℕ
doubled b = if b == 39 then 39 ∷ 39 ∷ [] else b ∷ []

abbrev pub literal_text : Value → List ℕ
literal_text Null = codes "NULL"
literal_text (Int n) = signed_decimal n
literal_text (Text text) = codes "'" ++ flat_map doubled text ++ codes "'"

-- the name of a column of a table, which is empty where there is none
abbrev pub column_name : SourceTree → ℕ → List ℕ
column_name source column = option_map_or (λ (found : SourceColumn). found.name) (slice_get source.columns column) []

abbrev pub constraint_text : SourceTree → Constraint → List ℕ
constraint_text source c = column_name source c.column ++ sign_of c.op ++ literal_text c.value

abbrev pub behind_and : SourceTree → Constraint → List ℕ
behind_and source c = codes " and " ++ constraint_text source c

abbrev pub where_text : SourceTree → List Constraint → List ℕ
where_text source [] = []
where_text source (c ∷ cs) = codes " where " ++ constraint_text source c ++ flat_map (behind_and source) cs

-- the column at a place of a row of these tables, behind its table's alias
abbrev pub place_text : List SourceTree → ℕ → List ℕ
place_text [] place = []
place_text (source ∷ sources) place =
    if nat_lt place (length source.columns) then source.alias ++ codes "." ++ column_name source place else place_text sources (place - length source.columns)

abbrev pub form_text : Bool → JoinForm → List ℕ
form_text is_outer First = codes "scan "
form_text false Nested = codes "nested join "
form_text true Nested = codes "left nested join "
form_text false (Hashed left right) = codes "hash join "
form_text true (Hashed left right) = codes "left hash join "

abbrev pub on_text : List SourceTree → SourceTree → JoinForm → List ℕ
on_text sources source First = []
on_text sources source Nested = []
on_text sources source (Hashed left right) = codes " on " ++ column_name source right ++ codes " = " ++ place_text sources left

-- what a table's line begins with
abbrev pub heading : SourceTree → JoinForm → List ℕ
heading source form = form_text source.is_outer form ++ source.name ++ codes " as " ++ source.alias

-- the line of a table
abbrev pub line : List SourceTree → SourceTree → Scan → List ℕ
line sources source scan = heading source scan.join ++ on_text sources source scan.join ++ where_text source scan.constraints ++ codes "\n"

-- of these tables with their scans
abbrev pub lines : List SourceTree → List SourceTree → List Scan → List ℕ
lines sources [] scans = []
lines sources (source ∷ rest) [] = []
lines sources (source ∷ rest) (scan ∷ scans) = line sources source scan ++ lines sources rest scans

-- the number of conjuncts of WHERE that no scan tests
abbrev pub filter_line : ℕ → List ℕ
filter_line count = if count == 0 then [] else codes "filter " ++ decimal count ++ codes "\n"

abbrev pub step_line : Bool → List ℕ → List ℕ
step_line false text = []
step_line true text = text

-- the steps behind WHERE that the query has
abbrev pub steps_text : QueryTree → List ℕ
steps_text query =
    step_line query.is_grouped (codes "group\n") ++ step_line query.is_distinct (codes "distinct\n")
    ++ step_line (not (length query.terms == 0)) (codes "order\n") ++ step_line (is_some query.limit) (codes "limit\n")

abbrev pub explained : PlanTree → List ℕ
explained plan = lines plan.query.sources plan.query.sources plan.scans ++ filter_line (length plan.rest) ++ steps_text plan.query
