-- The columns and aggregates of the query of a select without a fault stand where they may.
use Rattle.std.proofs.Common.{◌≡◌, ℕ, ◌+◌, Bool, true, false, List, [], ◌∷◌, take, map, Option, Some, None, refl, sym, subst, arith}
use Rattle.std.specs.Option.{option_or}
use Rattle.std.specs.Prelude.{◌≤◌, length, ◌||◌, IfOk, Result, Ok, Err}
use Rattle.std.specs.List.{All, AllByRecursion}
use Rattle.std.proofs.lemmas.List.Elements.{All-from_recursion}
use Rattle.std.proofs.lemmas.Option.{none-some, same_Some}
use Rattle.sql_tree.specs.Tree.{Tree}
use Rattle.sql_tree.specs.Select.{HavingTree, SelectTree}
use Rattle.sql_names.specs.declared.error.NameError.{NameError}
use Rattle.sql_names.specs.declared.error.NameKind.{NameKind}
use Rattle.sql_names.specs.declared.error.NameKind.TheVariants as kind
use Rattle.sql_scope.specs.declared.mention.Clause.TheVariants as clause
use Rattle.sql_scope.specs.declared.mention.Mention.{Mention}
use Rattle.sql_query.specs.declared.derived.Derived.{Derived}
use Rattle.sql_query.specs.declared.query.Query.{Query}
use Rattle.sql_query.specs.declared.query.SourceColumn.{SourceColumn}
use Rattle.sql_names.specs.Bare.{bare_column_of}
use Rattle.sql_query.specs.Exprs.{ExprTree}
use Rattle.sql_names.specs.Kinds.{names_in, too_many_tables, table_missing, no_table, no_column, ambiguous, bad_aggregate, key_wrong, mentioned_wrong, has_aggregate, has_keys, is_grouped, having_wrong}
use Rattle.sql_names.specs.Least.{lesser, least}
use Rattle.sql_scope.specs.Mentions.{mentions_of_select, mentions_of_option, mentions_of_items, mentions_of_sources, mentions_of_keys, mentions_of_having, mentions_of_terms}
use Rattle.sql_names.specs.Resolve.{names_within, names_of_select, fault_of, fault_among, fault_within, name_fault_with, unless_fault, resolved_with}
use Rattle.sql_query.specs.Resolved.{ResultTree, OrderTree, QueryTree, query_of}
use Rattle.sql_names.specs.Making.{source_trees, result_tree, key_exprs, orders, having_tree, query_tree}
use Rattle.sql_names.specs.Results.{condition}
use Rattle.sql_scope.specs.Scope.{scope_of, columns_seen}
use Rattle.sql_scope.specs.Shown.{ShownTree, Names}
use Rattle.sql_query.specs.Standing.{IsScoped, StandAll, IsOfTables, columns_in, IsStanding}
use Rattle.sql_names.proofs.Places.{AreSeen, all_seen, seen_up_to}
use Rattle.sql_names.proofs.Fines.{AreFine, lesser_left, lesser_right, fine_all, fine_left, fine_right}
use Rattle.sql_names.proofs.Standings.{AreShown, reads_columns, reads_shown}
use Rattle.sql_names.proofs.ItemsStand.{items_stand}
use Rattle.sql_names.proofs.PartsStand.{StandEach, condition_stands, ons_stand, sources_are, as_many_sources, few_tables, source_columns, keys_stand, terms_stand}

having_stands : (tables : List (List SourceColumn)) (grouped : Bool) (names : Names) (o : Option HavingTree) → AreSeen tables names.scope → AreShown tables grouped names.shown → AreFine names grouped (mentions_of_having o) → StandEach tables grouped (condition (names_in names clause.Having) (having_tree o))
having_stands tables grouped names None seen are fine = tt
having_stands tables grouped names (Some having) seen are fine = condition_stands (reads_shown tables grouped names clause.Having seen are) (Some having.tree) fine

results_stand : (tables : List (List SourceColumn)) (grouped : Bool) (shown : List ShownTree) → AreShown tables grouped shown → AllByRecursion (λ (item : ResultTree). IsScoped tables grouped item.expr) (map result_tree shown)
results_stand tables grouped [] are = tt
results_stand tables grouped (s ∷ shown) are = (are.0.0, results_stand tables grouped shown are.1)

no_keys : (names : Names) (keys : List Tree) (found : List Mention) → is_grouped keys found ≡ false → key_exprs names keys ≡ []
no_keys names [] found e = refl
no_keys names (t ∷ keys) found e = absurd (let no : ⊥ = cc in no)

no_having : (names : Names) (grouped : Bool) (o : Option HavingTree) → having_wrong grouped o ≡ None → grouped ≡ false → condition (names_in names clause.Having) (having_tree o) ≡ []
no_having names grouped None none e = refl
no_having names true (Some having) none e = absurd (let no : ⊥ = cc in no)
no_having names false (Some having) none e = absurd (let no : ⊥ = cc in no)

or_right : (a b : Bool) → b ≡ true → (a || b) ≡ true
or_right true b e = refl
or_right false b e = e

-- the parts of a select's mentions
pub record AreFineParts (names : Names) (grouped : Bool) (select : SelectTree) : Type 0 where
  pub items : AreFine names grouped (mentions_of_items select.items)
  pub sources : AreFine names grouped (mentions_of_sources 0 select.sources)
  pub filter : AreFine names grouped (mentions_of_option clause.Where select.filter)
  pub keys : AreFine names grouped (mentions_of_keys select.keys)
  pub having : AreFine names grouped (mentions_of_having select.having)
  pub terms : AreFine names grouped (mentions_of_terms select.terms)

fine_parts : (names : Names) (grouped : Bool) (select : SelectTree) → AreFine names grouped (mentions_of_select select) → AreFineParts names grouped select
unfolding mentions_of_select
fine_parts names grouped select fine =
    let sources = fine_right names grouped (mentions_of_items select.items) _ fine in
    let filter = fine_right names grouped (mentions_of_sources 0 select.sources) _ sources in
    let keys = fine_right names grouped (mentions_of_option clause.Where select.filter) _ filter in
    let having = fine_right names grouped (mentions_of_keys select.keys) _ keys in
    record {
      items = fine_left names grouped (mentions_of_items select.items) _ fine;
      sources = fine_left names grouped (mentions_of_sources 0 select.sources) _ sources;
      filter = fine_left names grouped (mentions_of_option clause.Where select.filter) _ filter;
      keys = fine_left names grouped (mentions_of_keys select.keys) _ keys;
      having = fine_left names grouped (mentions_of_having select.having) _ having;
      terms = fine_right names grouped (mentions_of_having select.having) _ having;
    }

-- over the tables of FROM, which the query's sources name again
tree_stands : (names : Names) (select : SelectTree) (found : List Mention) (tables : List (List SourceColumn)) → tables ≡ columns_in (source_trees names 0 select.sources) → ((n : ℕ) → AreSeen (take n tables) (take n names.scope)) → AreSeen tables names.scope → AreShown tables (is_grouped select.keys found) names.shown → AreFineParts names (is_grouped select.keys found) select → length select.sources ≤ 16 → least (map (table_missing names.derived names.text) select.sources) ≡ None → least (map (key_wrong names.shown) select.keys) ≡ None → having_wrong (is_grouped select.keys found) select.having ≡ None → IsStanding names.derived (query_tree names select found)
tree_stands names select found tables e up_to seen are fine few known keys having =
    let grouped = is_grouped select.keys found in
    record {
      few = let many = as_many_sources names 0 select.sources in omega arith;
      sources = All-from_recursion (IsOfTables names.derived) (source_trees names 0 select.sources) (sources_are names 0 select.sources known);
      ons = λ k source is. subst (λ (ts : List (List SourceColumn)). StandAll (take (k + 1) ts) false source.on) e (All-from_recursion (IsScoped (take (k + 1) tables) false) source.on (ons_stand tables grouped names select.sources 0 k (k + 1) source up_to fine.sources is (omega arith)));
      filter = subst (λ (ts : List (List SourceColumn)). StandAll ts false (condition (names_in names clause.Where) select.filter)) e (All-from_recursion (IsScoped tables false) (condition (names_in names clause.Where) select.filter) (condition_stands (reads_columns tables grouped names clause.Where names.scope names.shown seen) select.filter fine.filter));
      keys = subst (λ (ts : List (List SourceColumn)). StandAll ts false (key_exprs names select.keys)) e (All-from_recursion (IsScoped tables false) (key_exprs names select.keys) (keys_stand tables grouped names select.keys seen are fine.keys keys));
      having = subst (λ (ts : List (List SourceColumn)). StandAll ts grouped (condition (names_in names clause.Having) (having_tree select.having))) e (All-from_recursion (IsScoped tables grouped) (condition (names_in names clause.Having) (having_tree select.having)) (having_stands tables grouped names select.having seen are fine.having));
      items = subst (λ (ts : List (List SourceColumn)). All (λ (item : ResultTree). IsScoped ts grouped item.expr) (map result_tree names.shown)) e (All-from_recursion (λ (item : ResultTree). IsScoped tables grouped item.expr) (map result_tree names.shown) (results_stand tables grouped names.shown are));
      terms = subst (λ (ts : List (List SourceColumn)). All (λ (term : OrderTree). IsScoped ts grouped term.expr) (orders names select.terms)) e (All-from_recursion (λ (term : OrderTree). IsScoped tables grouped term.expr) (orders names select.terms) (terms_stand tables grouped names select.terms seen are fine.terms));
      ungrouped = λ none. (no_keys names select.keys found none, no_having names grouped select.having having none);
    }

-- of a select whose tables are known and not too many, and that has no bad aggregate
select_stands : (derived : List Derived) (text : List ℕ) (select : SelectTree) → too_many_tables select.sources ≡ None → no_table (names_of_select derived text select) select (mentions_of_select select) ≡ None → bad_aggregate (names_of_select derived text select) select (mentions_of_select select) ≡ None → IsStanding derived (query_tree (names_of_select derived text select) select (mentions_of_select select))
unfolding names_of_select
select_stands derived text select few known none =
    let names = names_within derived text (scope_of derived text select.sources) select in
    let found = mentions_of_select select in
    let grouped = is_grouped select.keys found in
    let tables = map (columns_seen derived text) select.sources in
    let others = lesser_right (having_wrong grouped select.having) (lesser (least (map (key_wrong names.shown) select.keys)) (least (map (mentioned_wrong names) found))) none in
    let fine = fine_parts names grouped select (fine_all names grouped found (lesser_right (least (map (key_wrong names.shown) select.keys)) (least (map (mentioned_wrong names) found)) others) (or_right (has_keys select.keys) (has_aggregate found))) in
    let seen = all_seen derived text select.sources in
    tree_stands names select found tables (sym (source_columns names 0 select.sources)) (λ n. seen_up_to derived text n select.sources) seen (items_stand tables grouped names select.items seen fine.items) fine (few_tables select.sources few) (lesser_left (least (map (table_missing derived text) select.sources)) _ known)
    (lesser_left (least (map (key_wrong names.shown) select.keys)) (least (map (mentioned_wrong names) found)) others)
    (lesser_left (having_wrong grouped select.having) (lesser (least (map (key_wrong names.shown) select.keys)) (least (map (mentioned_wrong names) found))) none)

else_right : {A : Type 0} (a b : Option A) → option_or a b ≡ None → b ≡ None
else_right None b e = e
else_right (Some x) b e = absurd (let no : ⊥ = cc in no)

else_left : {A : Type 0} (a b : Option A) → option_or a b ≡ None → a ≡ None
else_left None b e = refl
else_left (Some x) b e = e

no_place : (k : NameKind) (place : Option ℕ) → fault_of k place ≡ None → place ≡ None
no_place k None e = refl
no_place k (Some place) e = absurd (let no : ⊥ = cc in no)

no_missing_table : (names : Names) (keys : List ExprTree) (select : SelectTree) (found : List Mention) → fault_among names keys select found ≡ None → no_table names select found ≡ None
no_missing_table names keys select found none = no_place kind.NoTable (no_table names select found) (else_left (fault_of kind.NoTable (no_table names select found)) _ none)

no_bad_aggregate : (names : Names) (keys : List ExprTree) (select : SelectTree) (found : List Mention) → fault_among names keys select found ≡ None → bad_aggregate names select found ≡ None
no_bad_aggregate names keys select found none =
    let columns = else_right (fault_of kind.NoTable (no_table names select found)) _ none in
    let twice = else_right (fault_of kind.NoColumn (no_column names select found)) _ columns in
    let aggregates = else_right (fault_of kind.Ambiguous (ambiguous names select found)) _ twice in
    no_place kind.BadAggregate (bad_aggregate names select found) (else_left (fault_of kind.BadAggregate (bad_aggregate names select found)) (fault_of kind.BareColumn (bare_column_of names keys select found)) aggregates)

sound_stands : (derived : List Derived) (text : List ℕ) (select : SelectTree) → name_fault_with derived text select ≡ None → IsStanding derived (query_tree (names_of_select derived text select) select (mentions_of_select select))
unfolding name_fault_with
sound_stands derived text select none =
    let names = names_of_select derived text select in
    let found = mentions_of_select select in
    let few = else_left (fault_of kind.TooManyTables (too_many_tables select.sources)) (fault_within names select) none in
    let others = else_right (fault_of kind.TooManyTables (too_many_tables select.sources)) (fault_within names select) none in
    select_stands derived text select (no_place kind.TooManyTables (too_many_tables select.sources) few) (no_missing_table names (key_exprs names select.keys) select found others) (no_bad_aggregate names (key_exprs names select.keys) select found others)

stands_unless : (derived : List Derived) (fault : Option NameError) (tree query : QueryTree) → (fault ≡ None → IsStanding derived tree) → unless_fault fault tree ≡ Some query → IsStanding derived query
stands_unless derived None tree query stands e = subst (IsStanding derived) (same_Some tree query e) (stands refl)
stands_unless derived (Some fault) tree query stands e = absurd (none-some query e)

pub resolved_stands : (derived : List Derived) (text : List ℕ) (select : SelectTree) (query : QueryTree) → resolved_with derived text select ≡ Some query → IsStanding derived query
unfolding resolved_with
resolved_stands derived text select query is = stands_unless derived (name_fault_with derived text select) (query_tree (names_of_select derived text select) select (mentions_of_select select)) query (sound_stands derived text select) is

pub result_stands : (derived : List Derived) (text : List ℕ) (select : SelectTree) (result : Result Query NameError) → IfOk result (λ (q : Query). resolved_with derived text select ≡ Some (query_of q)) → IfOk result (λ (q : Query). IsStanding derived (query_of q))
result_stands derived text select (Ok q) is = resolved_stands derived text select (query_of q) is
result_stands derived text select (Err error) is = tt
