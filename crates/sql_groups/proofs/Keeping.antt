-- What HAVING keeps of groups that were folded.
use Rattle.std.proofs.Common.{◌≡◌, ◌<◌, ◌≤◌, ◌+◌, ◌-◌, ℕ, get_or, refl, sym, ap, ap₂, ◌∙◌, Bool, true, false, cond, ◌&&◌, List, [], ◌∷◌, ◌++◌, drop, filter, length, map, take, arith}
use Rattle.std.specs.Prelude.{if◌then◌else◌}
use Rattle.std.proofs.lemmas.List.{append_assoc, append-nil, length-map, map-append, take_all, take_more}
use Rattle.std.proofs.lemmas.List.Elements.{filter-append}
use Rattle.osq_value.specs.declared.value.Value.{Value}
use Rattle.sql_query.specs.declared.tree.Expr.{Expr}
use Rattle.sql_query.specs.Exprs.{ExprTree}
use Rattle.sql_query.specs.View.{expr_of}
use Rattle.sql_query.specs.Resolved.{QueryTree}
use Rattle.sql_meaning.specs.declared.joined.Joined.{Joined}
use Rattle.sql_meaning.specs.Expressions.{Environment, alone, holds, is_true, value_at, value_of}
use Rattle.sql_meaning.specs.Finished.{finished}
use Rattle.sql_meaning.specs.Groups.{groups_by}
use Rattle.sql_meaning.specs.Lent.{values_in}
use Rattle.sql_meaning.specs.Steps.{asked_by, behind_from, filtered, groups, kept_groups, key_values, result_row, together}
use Rattle.sql_meaning.proofs.Mapped.{filter_mapped, groups_mapped}
use Rattle.sql_groups.specs.declared.having.GroupTest.{GroupTest}
use Rattle.sql_groups.specs.declared.having.Grouping.{Grouping}
use Rattle.sql_groups.specs.declared.items.GroupItem.{GroupItem}
use Rattle.sql_groups.specs.Folding.{item_over, lists, lists_by}
use Rattle.sql_groups.specs.Having.{AddsTest, Gives, HasSides, IsGrouping, over_all, tests_hold}
use Rattle.sql_groups.specs.Kept.{is_kept}
use Rattle.sql_groups.specs.Keys.{row_values}

front-of : {X : Type 0} (xs ys : List X) → take (length xs) (xs ++ ys) ≡ xs
front-of [] ys = refl
front-of (x ∷ xs) ys = ap (λ (zs : List _). x ∷ zs) (front-of xs ys)

behind-of : {X : Type 0} (xs ys : List X) → drop (length xs) (xs ++ ys) ≡ ys
behind-of [] ys = refl
behind-of (x ∷ xs) ys = behind-of xs ys

-- what is kept of one more
pub kept-more : {L V C : Type 0} (f : L → V) (p : V → Bool) (g : V → C) (ls : List L) (at : ℕ) (d : L) → at < length ls
    → map g (filter p (map f (take (at + 1) ls))) ≡ map g (filter p (map f (take at ls))) ++ map g (filter p (f (get_or ls at d) ∷ []))
kept-more f p g ls at d inside =
    ap (λ (some : List _). map g (filter p (map f some))) (take_more ls at d inside)
    ∙ ap (λ (vs : List _). map g (filter p vs)) (map-append f (take at ls) (get_or ls at d ∷ []))
    ∙ ap (map g) (filter-append p (map f (take at ls)) (f (get_or ls at d) ∷ []))
    ∙ map-append g (filter p (map f (take at ls))) (filter p (f (get_or ls at d) ∷ []))

-- a list and its first
pub no-parts : (parts : List Expr) → length parts < 1 → parts ≡ []
no-parts [] few = refl
no-parts (part ∷ parts) few = absurd (omega (arith, few))

pub first-part : (parts : List Expr) (part : Expr) → 1 ≤ length parts → part ≡ get_or parts 0 part → expr_of part ∷ map expr_of (take (length parts - 1) (drop 1 parts)) ≡ map expr_of parts
first-part [] part some is = absurd (omega (arith, some))
first-part (first ∷ parts) part some is = ap₂ (λ (e : Expr) (es : List Expr). expr_of e ∷ map expr_of es) is (take_all (length (first ∷ parts) - 1) parts (omega arith))

-- no conjunct
pub no-sides : (rows : List (List Value)) (items : List GroupItem) (tests : List GroupTest) → HasSides [] rows items tests items tests
no-sides rows items tests = record {
  made = [];
  sides = [];
  tested = sym (append-nil tests);
  sided = sym (append-nil (over_all items rows));
  means = refl;
}

-- one conjunct, and then the others
pub one-side : (part : ExprTree) (parts : List ExprTree) (rows : List (List Value)) (old mid new : List GroupItem) (tests some more : List GroupTest)
    → AddsTest part rows old tests mid some → HasSides parts rows mid some new more → HasSides (part ∷ parts) rows old tests new more
one-side part parts rows old mid new tests some more one others = record {
  made = one.test ∷ others.made;
  sides = one.sides ++ others.sides;
  tested = others.tested ∙ ap (λ (ts : List GroupTest). ts ++ others.made) one.tested ∙ append_assoc tests (one.test ∷ []) others.made;
  sided = others.sided ∙ ap (λ (vs : List Value). vs ++ others.sides) one.sided ∙ append_assoc (over_all old rows) one.sides others.sides;
  means = one.means others.made others.sides ∙ ap (λ (b : Bool). is_true (value_of (together rows) part) && b) others.means;
}

-- what is folded for a query
pub gives : (query : QueryTree) (grouping : Grouping) (old : List GroupItem) (rows : List (List Value)) → result_row query (together rows) ≡ over_all old rows → grouping.count ≡ length old
    → HasSides query.having rows old [] grouping.items grouping.tests.items → Gives query grouping rows
gives query grouping old rows are long has = record {
  sides = has.sides;
  folded = has.sided ∙ ap (λ (vs : List Value). vs ++ has.sides) (sym are);
  long = long ∙ sym (length-map old (λ (item : GroupItem). item_over item rows)) ∙ ap length (sym are);
  means = ap (λ (tests : List GroupTest). tests_hold tests has.sides) has.tested ∙ has.means;
}

-- the same with another condition in the place of WHERE
pub asks : (condition : List ExprTree) (query : QueryTree) (grouping : Grouping) → IsGrouping query grouping → IsGrouping (asked_by condition query) grouping
asks condition query grouping gives = λ rows. record { sides = (gives rows).sides; folded = (gives rows).folded; long = (gives rows).long; means = (gives rows).means }

module _ (query : QueryTree) (grouping : Grouping) (gives : IsGrouping query grouping) where
  abbrev holds_of : List Value → Bool
  holds_of values = tests_hold grouping.tests.items (drop grouping.count values)

  columns-are : (rows : List (List Value)) → take grouping.count (over_all grouping.items rows) ≡ result_row query (together rows)
  columns-are rows =
      let g = gives rows in
      ap₂ (λ (n : ℕ) (vs : List Value). take n vs) g.long g.folded ∙ front-of (result_row query (together rows)) g.sides

  tests-are : (rows : List (List Value)) → holds_of (over_all grouping.items rows) ≡ holds (together rows) query.having
  tests-are rows =
      let g = gives rows in
      ap (tests_hold grouping.tests.items) (ap₂ (λ (n : ℕ) (vs : List Value). drop n vs) g.long g.folded ∙ behind-of (result_row query (together rows)) g.sides) ∙ g.means

  one-kept : (rows : List (List Value)) (some : List (List Value)) (envs : List Environment) → map (take grouping.count) some ≡ map (result_row query) envs → (b d : Bool) → b ≡ d
      → map (take grouping.count) (cond b (over_all grouping.items rows ∷ some) some) ≡ map (result_row query) (cond d (together rows ∷ envs) envs)
  one-kept rows some envs rest true true h = ap₂ (λ (v : List Value) (vs : List (List Value)). v ∷ vs) (columns-are rows) rest
  one-kept rows some envs rest false false h = rest
  one-kept rows some envs rest true false h = cc
  one-kept rows some envs rest false true h = cc

  kept-are : (ls : List (List (List Value)))
      → map (take grouping.count) (filter holds_of (map (over_all grouping.items) ls)) ≡ map (result_row query) (filter (λ env. holds env query.having) (map together ls))
  kept-are [] = refl
  kept-are (rows ∷ ls) =
      one-kept rows (filter holds_of (map (over_all grouping.items) ls)) (filter (λ env. holds env query.having) (map together ls)) (kept-are ls)
      (holds_of (over_all grouping.items rows)) (holds (together rows) query.having) (tests-are rows)

  by-keys : (keys : List ExprTree) (rows : List (List Value)) → 0 < length keys → groups keys rows ≡ groups_by (key_values keys) rows
  by-keys [] rows some = absurd (omega (arith, some))
  by-keys (key ∷ keys) rows some = refl

  -- the groups that HAVING keeps are what the meaning makes of the rows
  pub kept-mean : query.is_grouped ≡ true → 0 < length query.keys → (rows : List Joined)
      → finished query (map (take grouping.count) (filter holds_of (map (over_all grouping.items) (lists_by (row_values query.keys) query.filter rows)))) ≡ behind_from query (map values_in rows)
  kept-mean grouped keyed rows =
      let some = filtered query (map values_in rows) in
      let made : groups query.keys some ≡ lists_by (row_values query.keys) query.filter rows =
      by-keys query.keys some keyed
      ∙ ap (groups_by (key_values query.keys)) (filter_mapped values_in (λ row. holds (alone row) query.filter) rows)
      ∙ groups_mapped values_in (key_values query.keys) (filter (is_kept query.filter) rows) in
      ap (finished query)
      (kept-are (lists_by (row_values query.keys) query.filter rows)
      ∙ ap (λ (ls : List (List (List Value))). map (result_row query) (filter (λ env. holds env query.having) (map together ls))) (sym made)
      ∙ ap (λ (b : Bool). map (result_row query) (if b then kept_groups query some else map alone some)) (sym grouped))

-- the groups by a column, where that is what GROUP BY has
pub column-lists : (place : ℕ) (keys condition : List ExprTree) (rows : List Joined) → ((row : List Value) → map (value_of (alone row)) keys ≡ value_at row place ∷ []) → lists place condition rows ≡ lists_by (row_values keys) condition rows
column-lists place keys condition rows is = λ i. lists_by (λ row. sym (is (values_in row)) i) condition rows
