-- What `resolve` finds on the way is what its definitions say.
use Rattle.std.proofs.Common.{◌≡◌, ℕ, List, Option, Some, None, ap, sym, ◌∙◌}
use Rattle.std.specs.Option.{option_or}
use Rattle.sql_tree.specs.Select.{SelectTree}
use Rattle.sql_names.specs.declared.error.NameError.{NameError}
use Rattle.sql_names.specs.declared.error.NameKind.TheVariants as kind
use Rattle.sql_scope.specs.declared.mention.Mention.{Mention}
use Rattle.sql_scope.specs.declared.scope.Seen.{Seen}
use Rattle.sql_query.specs.declared.derived.Derived.{Derived}
use Rattle.sql_query.specs.Exprs.{ExprTree}
use Rattle.sql_scope.specs.Scope.{scope_of}
use Rattle.sql_scope.specs.Mentions.{mentions_of_select}
use Rattle.sql_scope.specs.Shown.{ShownTree}
use Rattle.sql_names.specs.Kinds.{too_many_tables}
use Rattle.sql_names.specs.Resolve.{whole_names, shown_in, names_within, names_of_select, fault_of, fault_among, fault_within, name_fault_with, resolved_with, resolved_within, unless_fault}
use Rattle.sql_query.specs.Resolved.{QueryTree}
use Rattle.sql_names.specs.Making.{key_exprs, query_tree}

pub found_fault : (derived : List Derived) (text : List ℕ) (scope : List Seen) (select : SelectTree) (shown : List ShownTree) (keys : List ExprTree) (found : List Mention) (fault : Option NameError) → shown ≡ shown_in derived text scope select → keys ≡ key_exprs (whole_names derived text scope shown) select.keys → found ≡ mentions_of_select select → fault ≡ fault_among (whole_names derived text scope shown) keys select found → fault_within (names_within derived text scope select) select ≡ fault
found_fault derived text scope select shown keys found fault s k m f =
    sym (f ∙ ap (λ (x : List ExprTree). fault_among (whole_names derived text scope shown) x select found) k
    ∙ ap (λ (x : List ShownTree). fault_among (whole_names derived text scope x) (key_exprs (whole_names derived text scope x) select.keys) select found) s
    ∙ ap (λ (x : List Mention). fault_among (names_within derived text scope select) (key_exprs (names_within derived text scope select) select.keys) select x) m)

pub found_query : (derived : List Derived) (text : List ℕ) (scope : List Seen) (select : SelectTree) (shown : List ShownTree) (found : List Mention) (query : QueryTree) → shown ≡ shown_in derived text scope select → found ≡ mentions_of_select select → query ≡ query_tree (whole_names derived text scope shown) select found → fault_within (names_within derived text scope select) select ≡ None → resolved_within (names_within derived text scope select) select ≡ Some query
found_query derived text scope select shown found query s m q none =
    ap (λ (x : Option NameError). unless_fault x (query_tree (names_within derived text scope select) select (mentions_of_select select))) none
    ∙ sym (ap (λ (x : QueryTree). Some x) (q ∙ ap (λ (x : List ShownTree). query_tree (whole_names derived text scope x) select found) s ∙ ap (query_tree (names_within derived text scope select) select) m))

pub whole_fault : (derived : List Derived) (text : List ℕ) (select : SelectTree) (scope : List Seen) → scope ≡ scope_of derived text select.sources → None ≡ too_many_tables select.sources → name_fault_with derived text select ≡ fault_within (names_within derived text scope select) select
unfolding name_fault_with names_of_select
whole_fault derived text select scope s none =
    ap (λ (x : Option ℕ). option_or (fault_of kind.TooManyTables x) (fault_within (names_within derived text (scope_of derived text select.sources) select) select)) (sym none)
    ∙ ap (λ (x : List Seen). fault_within (names_within derived text x select) select) (sym s)

pub whole_query : (derived : List Derived) (text : List ℕ) (select : SelectTree) (scope : List Seen) → scope ≡ scope_of derived text select.sources → None ≡ too_many_tables select.sources → resolved_with derived text select ≡ resolved_within (names_within derived text scope select) select
unfolding resolved_with names_of_select
whole_query derived text select scope s none =
    ap (λ (x : Option NameError). unless_fault x (query_tree (names_within derived text (scope_of derived text select.sources) select) select (mentions_of_select select))) (whole_fault derived text select scope s none)
    ∙ ap (λ (x : List Seen). unless_fault (fault_within (names_within derived text scope select) select) (query_tree (names_within derived text x select) select (mentions_of_select select))) (sym s)
