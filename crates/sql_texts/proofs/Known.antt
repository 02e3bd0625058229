-- What the text `SELECT * FROM file_events` asks for.
use Rattle.std.proofs.Common.{◌≡◌, ℕ, ◌+◌, List, [], ◌∷◌, Some, None, refl, ap}
use Rattle.std.specs.Prelude.{codes, true, false}
use Rattle.sql_tokens.specs.declared.token.Token.{Token}
use Rattle.sql_tokens.specs.declared.token.Kind.TheVariants as kind
use Rattle.sql_tokens.specs.declared.token.Clause.TheVariants as clause
use Rattle.sql_tokens.specs.declared.token.Word.TheVariants as word
use Rattle.sql_tokens.specs.Lexing.{token_at, tokens_of, piece}
use Rattle.std.specs.Str.{is_utf8, chars}
use Rattle.std.proofs.lemmas.Str.{utf8_lossy-IsUtf8, IsUtf8-from_is_utf8}
use Rattle.std.specs.Str.Lossy.{utf8_lossy}
use Rattle.osq_value.specs.declared.catalogue.Affinity.TheVariants as affinity
use Rattle.osq_value.specs.Catalogue.{id_of, columns_of, table_name, tables}
use Rattle.sql_query.specs.declared.query.SourceColumn.{SourceColumn}
use Rattle.sql_query.specs.Exprs.{column}
use Rattle.sql_scope.specs.Mentions.{mentions_of_select}
use Rattle.sql_names.specs.Resolve.{resolved_with, name_fault_with, names_of_select, names_within, whole_names}
use Rattle.sql_query.specs.Resolved.{ResultTree, QueryTree}
use Rattle.sql_names.specs.Making.{query_tree}
use Rattle.sql_scope.specs.Shown.{ShownTree}
use Rattle.sql_scope.specs.declared.scope.Seen.{Seen}
use Rattle.sql_scope.specs.Scope.{table_meant, table_number, known_as, scope_of}
use Rattle.sql_query.specs.Tables.{derived_at, columns_at, name_at}
use Rattle.sql_tree.specs.declared.tree.Name.{Name}
use Rattle.sql_texts.specs.TextTree.{select_of_tokens}
use Rattle.sql_texts.specs.Texts.{query_in, query_with_in}
use Rattle.sql_texts.proofs.DerivedTree.{given_unfaulted}
use Rattle.sql_tokens.specs.Tokens.{after}
use Rattle.sql_scope.specs.Spelling.{name_text}
use Rattle.sql_tokens.specs.Words.{clause_of, operator_of, function_of, other_of}
use Rattle.sql_tree.specs.Select.{SelectTree, all}
use Rattle.sql_parser.specs.SelectGrammar.{IsSelect}
use Rattle.sql_parser.specs.SelectGrammar as grammar
use Rattle.sql_faults.specs.Reading.{first_fault, whole_select, settled, faults, fits, found, wide, type_fault, select_item_by, other_item_by, or_by, and_by, negated_by, equal_by, less_by, sum_by, product_by, joined_by, signed_by, atom_by, distinct_by, select_items_by, alias_by, from_by, sources_by, where_by, group_by, having_by, order_by, limit_by, semicolon_by, names_by, condition_by, name_by, not_by, item_by, terms_by, direction_by, offset_by}

abbrev pub known_text : List ℕ
known_text = codes "SELECT * FROM file_events"

abbrev pub known_tokens : List Token
known_tokens =
    token_at (kind.Clause clause.Select) 0 6 0 ∷ token_at kind.Star 7 8 6 ∷ token_at (kind.Clause clause.From) 9 13 8
    ∷ token_at (kind.Name word.Plain) 14 25 13 ∷ token_at kind.End 25 25 25 ∷ []

pub tokens-known : tokens_of known_text ≡ known_tokens
unfolding tokens_of piece clause_of operator_of function_of other_of
tokens-known = refl

-- the item `*` of the table
abbrev pub known_select : SelectTree
known_select = record {
  is_distinct = false;
  items = all 7 ∷ [];
  sources = record { table = record { span = record { start = 14; end = 25 }; is_quoted = false }; alias = None; is_outer = false; on = None; using = [] } ∷ [];
  filter = None;
  keys = [];
  having = None;
  terms = [];
  limit = None;
  skip = None;
}

pub unfaulted-known : first_fault whole_select known_tokens ≡ None
unfolding settled faults fits found wide type_fault select_item_by other_item_by or_by and_by negated_by equal_by less_by sum_by product_by joined_by signed_by atom_by distinct_by select_items_by alias_by from_by sources_by where_by group_by having_by order_by limit_by semicolon_by names_by condition_by name_by not_by item_by terms_by direction_by offset_by
unfaulted-known = refl

-- what stands behind the table
abbrev known_end : List Token
known_end = token_at kind.End 25 25 25 ∷ []

derived-known : IsSelect known_tokens known_select
derived-known = record {
  rest = known_end;
  spelled = record {
    behind_opening = after known_tokens;
    behind_items = after (after known_tokens);
    behind_from = known_end;
    behind_where = known_end;
    behind_group = known_end;
    behind_having = known_end;
    behind_order = known_end;
    opening = grammar.an_opening refl (grammar.no_distinct (λ e. cc));
    items = grammar.listed (grammar.all_columns refl) (grammar.no_further (grammar.no_comma (λ e. cc)));
    from = grammar.a_from refl (grammar.listed (grammar.a_table (grammar.a_name refl) (grammar.no_alias refl (λ e. cc)) (refl, refl)) (grammar.no_further (grammar.no_further_table (grammar.no_table (λ e. cc) (λ e. cc) (λ e. cc) (λ e. cc) (λ e. cc)))));
    filter = grammar.no_where (λ e. cc);
    group = grammar.no_group (λ e. cc);
    having = grammar.no_having (λ e. cc);
    order = grammar.no_order (λ e. cc);
    limit = grammar.no_limit (λ e. cc);
  };
  ended = grammar.at_end refl;
}

pub select-known : select_of_tokens known_tokens ≡ Some known_select
select-known = given_unfaulted known_tokens known_select unfaulted-known derived-known

abbrev pub integers : List ℕ → SourceColumn
integers name = record { name = name; affinity = Some affinity.Integer; hidden = false }

abbrev pub texts : List ℕ → SourceColumn
texts name = record { name = name; affinity = Some affinity.Text; hidden = false }

abbrev pub known_columns : List SourceColumn
known_columns =
    texts (codes "target_path") ∷ texts (codes "category") ∷ texts (codes "action") ∷ integers (codes "inode") ∷ integers (codes "uid") ∷ integers (codes "gid")
    ∷ texts (codes "mode") ∷ integers (codes "size") ∷ integers (codes "mtime") ∷ integers (codes "time") ∷ []

-- the column of that place
abbrev pub shown_column : ℕ → SourceColumn → ResultTree
shown_column at c = record { name = c.name; expr = column 0 at at c.affinity }

abbrev pub shown_columns : ℕ → List SourceColumn → List ResultTree
shown_columns at [] = []
shown_columns at (c ∷ cs) = shown_column at c ∷ shown_columns (at + 1) cs

-- the same column as names see it
abbrev pub shown_tree : ℕ → SourceColumn → ShownTree
shown_tree at c = record { name = c.name; expr = column 0 at at c.affinity; is_alias = false; aggregate = None }

abbrev pub shown_trees : ℕ → List SourceColumn → List ShownTree
shown_trees at [] = []
shown_trees at (c ∷ cs) = shown_tree at c ∷ shown_trees (at + 1) cs

abbrev pub known_query : QueryTree
known_query = record {
  sources = record { table = 2; name = codes "file_events"; alias = codes "file_events"; columns = known_columns; is_outer = false; on = [] } ∷ [];
  filter = [];
  is_grouped = false;
  keys = [];
  having = [];
  items = shown_columns 0 known_columns;
  is_distinct = false;
  terms = [];
  limit = None;
  skip = None;
}

-- `file_events` as the text has it
abbrev pub known_name : Name
known_name = record { span = record { start = 14; end = 25 }; is_quoted = false }

abbrev pub known_bytes : List ℕ
known_bytes = codes "file_events"

utf8-known : is_utf8 known_bytes ≡ true
unfolding is_utf8 chars lib.Utf8.encode
utf8-known = refl

lossy-known : utf8_lossy known_bytes ≡ known_bytes
lossy-known = utf8_lossy-IsUtf8 known_bytes (IsUtf8-from_is_utf8 known_bytes utf8-known)

pub name-known : name_text known_text known_name ≡ known_bytes
unfolding name_text
name-known = lossy-known

abbrev pub known_seen : Seen
known_seen = record { source = 0; at = 0; table = record { 0 = 2 }; known = known_bytes; columns = known_columns; joined = [] }

number-known : table_number [] known_bytes ≡ 2
unfolding table_number table_meant id_of tables
number-known = refl

columns-known : columns_at [] 2 ≡ known_columns
unfolding columns_at derived_at columns_of tables
columns-known = refl

heading-known : name_at [] 2 ≡ known_bytes
unfolding name_at derived_at table_name tables
heading-known = refl

id-known : table_meant [] known_bytes ≡ Some 2
unfolding table_meant id_of tables
id-known = refl

pub scope-known : scope_of [] known_text known_select.sources ≡ known_seen ∷ []
unfolding scope_of known_as
scope-known = rw (name-known, number-known, columns-known) refl

abbrev pub known_shown : List ShownTree
known_shown = shown_trees 0 known_columns

pub names-known : names_of_select [] known_text known_select ≡ whole_names [] known_text (known_seen ∷ []) known_shown
unfolding names_of_select
names-known = ap (λ (scope : List Seen). names_within [] known_text scope known_select) scope-known

pub unfaulted_names-known : name_fault_with [] known_text known_select ≡ None
unfolding name_fault_with mentions_of_select
unfaulted_names-known = rw (names-known, name-known, id-known) refl

pub query-known : query_tree (names_of_select [] known_text known_select) known_select (mentions_of_select known_select) ≡ known_query
unfolding mentions_of_select
query-known = rw (names-known, name-known, number-known, columns-known, heading-known) refl

pub resolved-known : resolved_with [] known_text known_select ≡ Some known_query
unfolding resolved_with
resolved-known = rw (unfaulted_names-known, query-known) refl

pub query_in-known : query_in known_text ≡ Some known_query
unfolding query_in query_with_in
query_in-known = rw (tokens-known, unfaulted-known, select-known) resolved-known
