-- The columns of the result stand where the mentions of the items do.
use Rattle.std.proofs.Common.{◌≡◌, ℕ, ◌+◌, ◌++◌, Bool, true, false, List, [], ◌∷◌, length, map, None, refl, sym, ◌∙◌, arith, append_assoc, length-append}
use Rattle.std.specs.Prelude.{◌&&◌, ◌||◌, if◌then◌else◌}
use Rattle.sql_tree.specs.Select.{ItemTree, all, all_of, one}
use Rattle.sql_scope.specs.declared.mention.Clause.TheVariants as clause
use Rattle.sql_scope.specs.declared.mention.Mention.{Mention}
use Rattle.sql_scope.specs.declared.mention.Mentioned.{Mentioned}
use Rattle.sql_scope.specs.declared.mention.Mentioned.TheVariants as mentioned
use Rattle.sql_query.specs.declared.query.SourceColumn.{SourceColumn}
use Rattle.sql_scope.specs.declared.scope.Seen.{Seen}
use Rattle.sql_names.specs.Kinds.{is_aggregate}
use Rattle.sql_names.specs.Least.{least}
use Rattle.sql_scope.specs.Mentions.{mentions, mentions_of_items}
use Rattle.sql_names.specs.Resolve.{whole_names}
use Rattle.sql_names.specs.Results.{column_shown, columns_from, all_columns, known_columns, aggregate_place, results}
use Rattle.sql_scope.specs.Scope.{is_listed}
use Rattle.sql_scope.specs.Shown.{ShownTree, Names}
use Rattle.sql_scope.specs.Spelling.{name_text, same_name}
use Rattle.sql_names.proofs.Places.{IsSeen, AreSeen, get_at, column_here}
use Rattle.sql_names.proofs.Fines.{AreFine, lesser_left, lesser_right, fine_left, fine_right}
use Rattle.sql_names.proofs.Standings.{IsShown, AreShown, expr_stands, reads_columns}

shown_append : (tables : List (List SourceColumn)) (grouped : Bool) (before after : List ShownTree) → AreShown tables grouped before → AreShown tables grouped after → AreShown tables grouped (before ++ after)
shown_append tables grouped [] after first second = second
shown_append tables grouped (s ∷ before) after first second = (first.0, shown_append tables grouped before after first.1 second)

shown_unless : (tables : List (List SourceColumn)) (grouped hidden : Bool) (s : ShownTree) (rest : List ShownTree) → IsShown tables grouped s → AreShown tables grouped rest → AreShown tables grouped (if hidden then rest else s ∷ rest)
shown_unless tables grouped true s rest here later = later
shown_unless tables grouped false s rest here later = (here, later)

shown_where : (tables : List (List SourceColumn)) (grouped known : Bool) (here rest : List ShownTree) → AreShown tables grouped here → AreShown tables grouped rest → AreShown tables grouped (if known then here ++ rest else rest)
shown_where tables grouped true here rest first second = shown_append tables grouped here rest first second
shown_where tables grouped false here rest first second = second

columns_stand : (tables : List (List SourceColumn)) (grouped hides : Bool) (seen : Seen) (front columns : List SourceColumn) (number : ℕ) → IsSeen tables seen → seen.columns ≡ front ++ columns → number ≡ length front → AreShown tables grouped (columns_from hides seen number columns)
columns_stand tables grouped hides seen front [] number is e n = tt
columns_stand tables grouped hides seen front (column ∷ columns) number is e n =
    let many = length-append front (column ∷ []) in
    let here = column_here tables seen number column is (get_at seen.columns front column columns number e n) in
    shown_unless tables grouped (column.hidden || hides && is_listed column.name seen.joined) (column_shown seen number column) (columns_from hides seen (number + 1) columns) (here, λ none. here)
    (columns_stand tables grouped hides seen (front ++ column ∷ []) columns (number + 1) is (e ∙ sym (append_assoc front (column ∷ []) columns)) (omega arith))

all_stand : (tables : List (List SourceColumn)) (grouped : Bool) (scope : List Seen) → AreSeen tables scope → AreShown tables grouped (all_columns scope)
all_stand tables grouped [] are = tt
all_stand tables grouped (seen ∷ scope) are =
    shown_append tables grouped (columns_from true seen 0 seen.columns) (all_columns scope) (columns_stand tables grouped true seen [] seen.columns 0 are.0 refl refl) (all_stand tables grouped scope are.1)

known_stand : (tables : List (List SourceColumn)) (grouped : Bool) (table : List ℕ) (scope : List Seen) → AreSeen tables scope → AreShown tables grouped (known_columns table scope)
known_stand tables grouped table [] are = tt
known_stand tables grouped table (seen ∷ scope) are =
    shown_where tables grouped (same_name seen.known table) (columns_from false seen 0 seen.columns) (known_columns table scope) (columns_stand tables grouped false seen [] seen.columns 0 are.0 refl refl) (known_stand tables grouped table scope are.1)

none_folded : (what : Mentioned) → aggregate_place what ≡ None → is_aggregate what ≡ true → false ≡ true
none_folded (mentioned.Column table column) none is = is
none_folded (mentioned.Aggregate place fold) none is = absurd (let no : ⊥ = cc in no)

fine_plain : (names : Names) (grouped : Bool) (found : List Mention) → least (map (λ (m : Mention). aggregate_place m.what) found) ≡ None → AreFine names grouped found → AreFine names false found
fine_plain names grouped [] none fine = tt
fine_plain names grouped (m ∷ found) none fine = (
  (fine.0.0, λ is free. none_folded m.what (lesser_left (aggregate_place m.what) (least (map (λ (m : Mention). aggregate_place m.what) found)) none) is),
  fine_plain names grouped found (lesser_right (aggregate_place m.what) (least (map (λ (m : Mention). aggregate_place m.what) found)) none) fine.1,
)

pub items_stand : (tables : List (List SourceColumn)) (grouped : Bool) (names : Names) (items : List ItemTree) → AreSeen tables names.scope → AreFine names grouped (mentions_of_items items) → AreShown tables grouped (results (whole_names names.derived names.text names.scope []) items)
items_stand tables grouped names [] seen fine = tt
items_stand tables grouped names (all place ∷ items) seen fine =
    shown_append tables grouped (all_columns names.scope) (results (whole_names names.derived names.text names.scope []) items) (all_stand tables grouped names.scope seen) (items_stand tables grouped names items seen fine)
items_stand tables grouped names (all_of table ∷ items) seen fine =
    shown_append tables grouped (known_columns (name_text names.text table) names.scope) (results (whole_names names.derived names.text names.scope []) items) (known_stand tables grouped (name_text names.text table) names.scope seen) (items_stand tables grouped names items seen fine)
items_stand tables grouped names (one t span alias ∷ items) seen fine =
    let here = fine_left names grouped (mentions clause.Item false t) (mentions_of_items items) fine in (
      (
        expr_stands (reads_columns tables grouped names clause.Item names.scope [] seen) false t here,
        λ none. expr_stands (reads_columns tables false names clause.Item names.scope [] seen) false t (fine_plain names grouped (mentions clause.Item false t) none here),
      ),
      items_stand tables grouped names items seen (fine_right names grouped (mentions clause.Item false t) (mentions_of_items items) fine),
    )
