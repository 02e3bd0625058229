-- The faults of a select's names, by kind: the least place of each kind, where there is one.
use Rattle.std.specs.Prelude.{ℕ, ◌+◌, ◌&&◌, ◌||◌, Bool, true, false, not, if◌then◌else◌, nat_lt, List, [], ◌∷◌, length, take, map, Option, Some, None, slice_get, is_some}
use Rattle.std.specs.Option.{option_map_or}
use Rattle.sql_tree.specs.declared.tree.Name.{Name}
use Rattle.sql_tree.specs.Tree.{Tree}
use Rattle.sql_tree.specs.Select.{ItemTree, RefTree, HavingTree, TermTree, SelectTree, all, all_of, one}
use Rattle.sql_scope.specs.declared.mention.Clause.{Clause}
use Rattle.sql_scope.specs.declared.mention.Clause.TheVariants as clause
use Rattle.sql_scope.specs.declared.mention.Mentioned.{Mentioned}
use Rattle.sql_scope.specs.declared.mention.Mentioned.TheVariants as mentioned
use Rattle.sql_scope.specs.declared.mention.Mention.{Mention}
use Rattle.sql_scope.specs.declared.naming.Rule.{Rule}
use Rattle.sql_scope.specs.declared.naming.Rule.TheVariants as rule
use Rattle.sql_scope.specs.declared.naming.Meaning.{Meaning}
use Rattle.sql_scope.specs.declared.naming.Meaning.TheVariants as meaning
use Rattle.sql_scope.specs.declared.scope.Seen.{Seen}
use Rattle.sql_scope.specs.Spelling.{name_text}
use Rattle.sql_scope.specs.Scope.{table_meant, is_known, plain_place, known_place, place_in, owners}
use Rattle.sql_scope.specs.Shown.{ShownTree, Names}
use Rattle.sql_scope.specs.Naming.{meaning_of}
use Rattle.sql_names.specs.declared.results.Numbered.{Numbered}
use Rattle.sql_query.specs.declared.derived.Derived.{Derived}
use Rattle.sql_query.specs.declared.place.Place.{Place}
use Rattle.sql_names.specs.Results.{numbered, index_in}
use Rattle.sql_names.specs.Least.{lesser, least}

-- the first byte of a name
abbrev pub place_of : Name → ℕ
place_of name = name.span.start

abbrev pub place_if : Bool → ℕ → Option ℕ
place_if true place = Some place
place_if false place = None

-- What an expression of a clause sees, and how it takes a plain name.
abbrev pub seen_from : Clause → List Seen → List Seen
seen_from clause.Item scope = scope
seen_from (clause.On reach) scope = take reach scope
seen_from clause.Where scope = scope
seen_from clause.Key scope = scope
seen_from clause.Having scope = scope
seen_from clause.Term scope = scope

abbrev pub rule_of : Clause → Rule
rule_of clause.Item = rule.Columns
rule_of (clause.On reach) = rule.Columns
rule_of clause.Where = rule.Columns
rule_of clause.Key = rule.ColumnFirst
rule_of clause.Having = rule.ColumnFirst
rule_of clause.Term = rule.AliasFirst

-- these names as an expression of a clause takes them
abbrev pub names_in : Names → Clause → Names
names_in names c = record { derived = names.derived; text = names.text; scope = seen_from c names.scope; shown = names.shown; rule = rule_of c }

-- TooManyTables: at the 17th table
abbrev pub too_many_tables : List RefTree → Option ℕ
too_many_tables sources = option_map_or (λ (ref : RefTree). Some (place_of ref.table)) (slice_get sources 16) None

-- NoTable: a name of FROM that is no table's
abbrev pub table_missing : List Derived → List ℕ → RefTree → Option ℕ
table_missing derived text ref = place_if (not (is_some (table_meant derived (name_text text ref.table)))) (place_of ref.table)

-- `x.*` or `x.c` where no table of FROM is known as x
abbrev pub unknown_table : Names → Name → Option ℕ
unknown_table names table = place_if (not (is_known (name_text names.text table) names.scope)) (place_of table)

abbrev pub item_unknown : Names → ItemTree → Option ℕ
item_unknown names (all place) = None
item_unknown names (all_of table) = unknown_table names table
item_unknown names (one t span alias) = None

abbrev pub mentioned_unknown : Names → Mentioned → Option ℕ
mentioned_unknown names (mentioned.Column None column) = None
mentioned_unknown names (mentioned.Column (Some table) column) = unknown_table names table
mentioned_unknown names (mentioned.Aggregate place fold) = None

-- The faults of each kind: of the select with these mentions, the names of which stand for what these names say
abbrev pub no_table : Names → SelectTree → List Mention → Option ℕ
no_table names select found =
    lesser (least (map (table_missing names.derived names.text) select.sources))
    (lesser (least (map (item_unknown names) select.items))
    (least (map (λ (m : Mention). mentioned_unknown names m.what) found)))

-- NoColumn: a column that no table that is seen has; of a plain name that is not quoted, also no alias where one may stand
abbrev pub is_word : Meaning → Bool
is_word (meaning.Column place) = false
is_word (meaning.Alias number) = false
is_word meaning.Word = true

abbrev pub mentioned_missing : Names → Mentioned → Option ℕ
mentioned_missing names (mentioned.Column None column) = place_if (not column.is_quoted && is_word (meaning_of names (name_text names.text column))) (place_of column)
mentioned_missing names (mentioned.Column (Some table) column) = place_if (not (is_some (known_place (name_text names.text table) (name_text names.text column) names.scope))) (place_of table)
mentioned_missing names (mentioned.Aggregate place fold) = None

-- `*` without FROM
abbrev pub item_missing : List Seen → ItemTree → Option ℕ
item_missing [] (all place) = Some place
item_missing (seen ∷ scope) (all place) = None
item_missing scope (all_of table) = None
item_missing scope (one t span alias) = None

-- a name of USING that the table, or every table before it, lacks
abbrev pub place_at : ℕ → List ℕ → List Seen → Option Place
place_at number name scope = option_map_or (place_in name) (slice_get scope number) None

abbrev pub using_missing : Names → ℕ → Name → Option ℕ
using_missing names number name =
    place_if (not (is_some (plain_place (name_text names.text name) (take number names.scope)) && is_some (place_at number (name_text names.text name) names.scope))) (place_of name)

-- of all tables; the first of these has that number
abbrev pub usings_missing : Names → ℕ → List RefTree → Option ℕ
usings_missing names number [] = None
usings_missing names number (ref ∷ refs) = lesser (least (map (using_missing names number) ref.using)) (usings_missing names (number + 1) refs)

-- a number of GROUP BY or ORDER BY that is no result column's
abbrev pub number_missing : ℕ → Tree → Option ℕ
number_missing count t = option_map_or (λ (n : Numbered). place_if (not (is_some (index_in count n.value))) n.place) (numbered t) None

abbrev pub term_missing : ℕ → TermTree → Option ℕ
term_missing count term = number_missing count term.tree

abbrev pub no_column : Names → SelectTree → List Mention → Option ℕ
no_column names select found =
    lesser (least (map (item_missing names.scope) select.items))
    (lesser (usings_missing names 0 select.sources)
    (lesser (least (map (number_missing (length names.shown)) select.keys))
    (lesser (least (map (term_missing (length names.shown)) select.terms))
    (least (map (λ (m : Mention). mentioned_missing (names_in names m.clause) m.what) found)))))

-- Ambiguous: a table that is known as an earlier one is
abbrev pub known_at : ℕ → List Seen → List ℕ
known_at number scope = option_map_or (λ (seen : Seen). seen.known) (slice_get scope number) []

abbrev pub tables_repeated : List Seen → ℕ → List RefTree → Option ℕ
tables_repeated scope number [] = None
tables_repeated scope number (ref ∷ refs) = lesser (place_if (is_known (known_at number scope) (take number scope)) (place_of ref.table)) (tables_repeated scope (number + 1) refs)

-- a plain column that two tables have, each by itself
abbrev pub is_column : Meaning → Bool
is_column (meaning.Column place) = true
is_column (meaning.Alias number) = false
is_column meaning.Word = false

abbrev pub mentioned_twice : Names → Mentioned → Option ℕ
mentioned_twice names (mentioned.Column None column) = place_if (is_column (meaning_of names (name_text names.text column)) && nat_lt 1 (owners (name_text names.text column) names.scope)) (place_of column)
mentioned_twice names (mentioned.Column (Some table) column) = None
mentioned_twice names (mentioned.Aggregate place fold) = None

abbrev pub ambiguous : Names → SelectTree → List Mention → Option ℕ
ambiguous names select found =
    lesser (tables_repeated names.scope 0 select.sources) (least (map (λ (m : Mention). mentioned_twice (names_in names m.clause) m.what) found))

-- BadAggregate: where none may stand
abbrev pub forbids : Clause → Bool
forbids clause.Item = false
forbids (clause.On reach) = true
forbids clause.Where = true
forbids clause.Key = true
forbids clause.Having = false
forbids clause.Term = false

-- the first aggregate in a column of the result
abbrev pub aggregate_at : List ShownTree → ℕ → Option ℕ
aggregate_at shown number = option_map_or (λ (s : ShownTree). s.aggregate) (slice_get shown number) None

abbrev pub aggregate_meant : List ShownTree → Meaning → Option ℕ
aggregate_meant shown (meaning.Column place) = None
aggregate_meant shown (meaning.Alias number) = aggregate_at shown number
aggregate_meant shown meaning.Word = None

-- the aggregate that is mentioned, or the first of the item that an alias stands for
abbrev pub mentioned_aggregate : Names → Mentioned → Option ℕ
mentioned_aggregate names (mentioned.Column None column) = aggregate_meant names.shown (meaning_of names (name_text names.text column))
mentioned_aggregate names (mentioned.Column (Some table) column) = None
mentioned_aggregate names (mentioned.Aggregate place fold) = Some place

abbrev pub mentioned_wrong : Names → Mention → Option ℕ
mentioned_wrong names m = if forbids m.clause || m.is_inside then mentioned_aggregate (names_in names m.clause) m.what else None

-- the first aggregate of the item that a number of GROUP BY stands for
abbrev pub key_wrong : List ShownTree → Tree → Option ℕ
key_wrong shown t = option_map_or (λ (n : Numbered). option_map_or (aggregate_at shown) (index_in (length shown) n.value) None) (numbered t) None

-- an aggregate where one may stand
abbrev pub is_aggregate : Mentioned → Bool
is_aggregate (mentioned.Column table column) = false
is_aggregate (mentioned.Aggregate place fold) = true

abbrev pub has_aggregate : List Mention → Bool
has_aggregate [] = false
has_aggregate (m ∷ found) = if is_aggregate m.what && not (forbids m.clause) then true else has_aggregate found

abbrev pub has_keys : List Tree → Bool
has_keys [] = false
has_keys (t ∷ keys) = true

abbrev pub is_grouped : List Tree → List Mention → Bool
is_grouped keys found = has_keys keys || has_aggregate found

-- HAVING without groups
abbrev pub having_wrong : Bool → Option HavingTree → Option ℕ
having_wrong grouped None = None
having_wrong grouped (Some having) = place_if (not grouped) having.place

abbrev pub bad_aggregate : Names → SelectTree → List Mention → Option ℕ
bad_aggregate names select found =
    lesser (having_wrong (is_grouped select.keys found) select.having)
    (lesser (least (map (key_wrong names.shown) select.keys)) (least (map (mentioned_wrong names) found)))
