-- What `unmeant_number` finds on the way is what its definition says.
use Rattle.std.proofs.Common.{◌≡◌, ℕ, List, Option, map}
use Rattle.sql_tree.specs.Select.{SelectTree}
use Rattle.sql_query.specs.declared.derived.Derived.{Derived}
use Rattle.sql_scope.specs.declared.mention.Mention.{Mention}
use Rattle.sql_scope.specs.declared.scope.Seen.{Seen}
use Rattle.sql_scope.specs.Scope.{scope_of}
use Rattle.sql_scope.specs.Mentions.{mentions_of_select}
use Rattle.sql_scope.specs.Shown.{ShownTree}
use Rattle.sql_names.specs.Kinds.{names_in}
use Rattle.sql_names.specs.Least.{least}
use Rattle.sql_names.specs.Resolve.{whole_names, shown_in, names_of_select}
use Rattle.sql_names.specs.Unmeant.{mentioned_unmeant, unmeant_numbers}

pub unmeant_is : (derived : List Derived) (text : List ℕ) (select : SelectTree) (scope : List Seen) (shown : List ShownTree) (found : List Mention) → scope ≡ scope_of derived text select.sources → shown ≡ shown_in derived text (scope_of derived text select.sources) select → found ≡ mentions_of_select select → least (map (λ (m : Mention). mentioned_unmeant (names_in (whole_names derived text scope shown) m.clause) m.what) found) ≡ least (unmeant_numbers derived text select)
unfolding unmeant_numbers names_of_select
unmeant_is derived text select scope shown found scope_is shown_is found_are =
    λ i. least (map (λ (m : Mention). mentioned_unmeant (names_in (whole_names derived text (scope_is i) (shown_is i)) m.clause) m.what) (found_are i))
