-- The rows with different values, one row after another.
use Rattle.std.proofs.Common.{◌≡◌, ℕ, refl, sym, ap, subst, ◌∙◌, Bool, true, false, cond, ◌&&◌, List, [], ◌∷◌, ◌++◌, map, filter, is_eq}
use Rattle.std.specs.Prelude.{if◌then◌else◌}
use Rattle.std.specs.List.{list_any}
use Rattle.std.proofs.lemmas.List.{append-nil}
use Rattle.std.proofs.lemmas.List.Elements.{filter-append}
use Rattle.indexmap.specs.IndexSet.{insert_key}
use Rattle.osq_value.specs.declared.value.Value.{Value}
use Rattle.osq_value.specs.Order.{order_of}
use Rattle.sql_query.specs.Exprs.{ExprTree}
use Rattle.sql_meaning.specs.declared.joined.Joined.{Joined}
use Rattle.sql_meaning.specs.Firsts.{firsts_by, same_values}
use Rattle.sql_meaning.specs.SameValues.{same_value}
use Rattle.sql_meaning.proofs.FirstsLaws.{firsts_by-push, has_key}
use Rattle.sql_meaning.proofs.HashedLaws.{any_made, insert_key-made}
use Rattle.sql_groups.specs.Different.{equal, held, held_alone}
use Rattle.sql_groups.specs.Kept.{is_kept}
use Rattle.sql_groups.specs.Keys.{row_values}

and-true : (b : Bool) → (b && true) ≡ b
and-true true = refl
and-true false = refl

-- the values of a column
pub alike : (place : ℕ) (x y : Joined) → equal (held place x) (held place y) ≡ same_values (held_alone place x) (held_alone place y)
alike place x y = same_value (held place x) (held place y) ∙ sym (and-true (is_eq (order_of (held place x) (held place y))))

-- the values of expressions
pub alike-rows : (exprs : List ExprTree) (x y : Joined) → same_values (row_values exprs x) (row_values exprs y) ≡ same_values (row_values exprs x) (row_values exprs y)
alike-rows exprs x y = refl

pub kept-one : (p : Joined → Bool) (rows : List Joined) (row : Joined) (b : Bool) → p row ≡ b → filter p (rows ++ row ∷ []) ≡ filter p rows ++ cond b (row ∷ []) []
kept-one p rows row b kept = filter-append p rows (row ∷ []) ∙ ap (λ (s : Bool). filter p rows ++ cond s (row ∷ []) []) kept

-- a row stands among the others as what `make` gives of it, and such are equal where the keys are
module _ {F : Type 0} (same : F → F → Bool) (key : Joined → List Value) (make : Joined → F) (is : (x y : Joined) → same (make x) (make y) ≡ same_values (key x) (key y)) where
  added : (before : List Joined) (row : Joined) (value : F) (olds news : List F) (old new : List Joined) → value ≡ make row → old ≡ firsts_by key before → olds ≡ map make old
      → news ≡ insert_key same olds value → new ≡ (if list_any (same value) olds then old else old ++ row ∷ [])
      → (new ≡ firsts_by key (before ++ row ∷ [])) × (news ≡ map make new)
  added before row value olds news old new made rows values inserts pushes =
      let firsts = firsts_by key before in
      let known : olds ≡ map make firsts = values ∙ ap (map make) rows in
      let any : list_any (same value) olds ≡ list_any (has_key key (key row)) firsts =
      ap (λ (v : F). list_any (same v) olds) made ∙ ap (list_any (same (make row))) known ∙ any_made same key make is row firsts in
      let now : new ≡ firsts_by key (before ++ row ∷ []) =
      pushes ∙ ap (λ (b : Bool). if b then old else old ++ row ∷ []) any
      ∙ ap (λ (rows : List Joined). if list_any (has_key key (key row)) firsts then rows else rows ++ row ∷ []) rows
      ∙ sym (firsts_by-push key before row) in (
        now,
        inserts ∙ ap (insert_key same olds) made ∙ ap (λ (vs : List F). insert_key same vs (make row)) known
            ∙ insert_key-made same key make is before row ∙ ap (map make) (sym now),
      )

  -- the first rows that were found, and what stands for them
  abbrev pub HasFirsts : List ExprTree → List Joined → List F → List Joined → Type 0
  HasFirsts condition rows values firsts = (firsts ≡ firsts_by key (filter (is_kept condition) rows)) × (values ≡ map make firsts)

  -- one more row for which the condition holds
  pub stands-more : (condition : List ExprTree) (rows : List Joined) (row : Joined) (value : F) (olds news : List F) (old new : List Joined) → is_kept condition row ≡ true → value ≡ make row
      → news ≡ insert_key same olds value → new ≡ (if list_any (same value) olds then old else old ++ row ∷ [])
      → HasFirsts condition rows olds old → HasFirsts condition (rows ++ row ∷ []) news new
  stands-more condition rows row value olds news old new kept made inserts pushes was =
      subst (λ (some : List Joined). (new ≡ firsts_by key some) × (news ≡ map make new)) (sym (kept-one (is_kept condition) rows row true kept))
      (added (filter (is_kept condition) rows) row value olds news old new made was.0 was.1 inserts pushes)

  -- one for which it doesn't
  pub stands-still : (condition : List ExprTree) (rows : List Joined) (row : Joined) (values : List F) (firsts : List Joined) → is_kept condition row ≡ false
      → HasFirsts condition rows values firsts → HasFirsts condition (rows ++ row ∷ []) values firsts
  stands-still condition rows row values firsts left was =
      (was.0 ∙ ap (firsts_by key) (sym (kept-one (is_kept condition) rows row false left ∙ append-nil (filter (is_kept condition) rows))), was.1)
