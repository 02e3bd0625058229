-- Groups by the values of a column, one row after another, and what they come to.
use Rattle.std.proofs.Common.{◌≡◌, ℕ, ◌+◌, refl, sym, ap, ap₂, subst, ◌∙◌, Bool, true, false, cond, not, List, [], ◌∷◌, ◌++◌, append-nil, drop, filter, get_or, length, map, set, take, Option, Some, None, arith}
use Rattle.std.specs.Prelude.{if◌then◌else◌}
use Rattle.std.specs.List.{list_any, position_or_len}
use Rattle.std.proofs.lemmas.List.{drop_all, take_all}
use Rattle.std.proofs.lemmas.List.Elements.{filter-append}
use Rattle.indexmap.specs.IndexSet.{insert_key}
use Rattle.osq_value.specs.declared.value.Value.{Value}
use Rattle.sql_query.specs.Exprs.{ExprTree}
use Rattle.sql_query.specs.Resolved.{QueryTree}
use Rattle.sql_meaning.specs.declared.joined.Joined.{Joined}
use Rattle.sql_meaning.specs.Expressions.{Environment, alone, holds}
use Rattle.sql_meaning.specs.Finished.{finished}
use Rattle.sql_meaning.specs.Firsts.{firsts_by, same_values}
use Rattle.sql_meaning.specs.Groups.{groups_by}
use Rattle.sql_meaning.specs.Lent.{values_in}
use Rattle.sql_meaning.specs.Steps.{behind_from, filtered, groups, kept_groups, result_row, together}
use Rattle.sql_meaning.proofs.FirstsLaws.{has_key}
use Rattle.sql_meaning.proofs.GroupsLaws.{added-one, groups-are, grown-one, lists_of, place_in}
use Rattle.sql_meaning.proofs.HashedLaws.{any_made, insert_key-made}
use Rattle.sql_groups.specs.declared.items.GroupItem.{GroupItem}
use Rattle.sql_groups.specs.declared.so_far.SoFar.{SoFar}
use Rattle.sql_groups.specs.Folding.{item_over}
use Rattle.sql_groups.specs.Grouping.{AreKnown, IsFolded, Puts, kept_values, place_of}
use Rattle.sql_groups.specs.Kept.{is_kept}
use Rattle.sql_groups.specs.Totals.{AreItems, IsOneGroup}
use Rattle.sql_groups.proofs.Adding.{kept-one}
use Rattle.sql_groups.proofs.Zipped.{zip-long, zip-nth, zip-push, zip-set}

-- what a list of the same length replaced
pub replaced : {X : Type 0} (old new : List X) → length new ≡ length old → take (length old) (new ++ drop (length new) old) ≡ new
replaced old new long =
    let within : length old ≡ length new = sym long in
    ap (λ (rest : List _). take (length old) (new ++ rest)) (drop_all (length new) old (omega (arith, within)))
    ∙ ap (take (length old)) (append-nil new)
    ∙ take_all (length old) new (omega (arith, within))

-- a row stands among the others as what `make` gives of it, and such are equal where the keys are
module _ {F : Type 0} (same : F → F → Bool) (key : Joined → List Value) (make : Joined → F) (is : (x y : Joined) → same (make x) (make y) ≡ same_values (key x) (key y)) (condition : List ExprTree) (items : List GroupItem) where
  abbrev kept : List Joined → List Joined
  kept rows = filter (is_kept condition) rows

  abbrev firsts : List Joined → List Joined
  firsts rows = firsts_by key (kept rows)

  abbrev gathered : List Joined → List (List (List Value))
  gathered some = map (map values_in) (groups_by key some)

  any-known : (rows : List Joined) (row : Joined) (values : List F) → values ≡ map make (firsts rows) → list_any (same (make row)) values ≡ list_any (has_key key (key row)) (firsts rows)
  any-known rows row values are = ap (list_any (same (make row))) are ∙ any_made same key make is row (firsts rows)

  places-alike : (row : Joined) (some : List Joined) → position_or_len (same (make row)) (map make some) ≡ position_or_len (same_values (key row)) (map key some)
  places-alike row [] = refl
  places-alike row (first ∷ rest) = λ i. cond (not (is row first i)) (1 + places-alike row rest i) 0

  place-known : (rows : List Joined) (row : Joined) (values : List F) → values ≡ map make (firsts rows) → (known : Bool) → list_any (has_key key (key row)) (firsts rows) ≡ known
      → place_of same (make row) values ≡ (if known then Some (place_in key values_in row (firsts rows)) else None)
  place-known rows row values are known at =
      ap₂ (λ (b : Bool) (n : ℕ). if b then Some n else None) (any-known rows row values are ∙ at)
      (ap (position_or_len (same (make row))) are ∙ places-alike row (firsts rows))

  -- one more row in the groups
  put-more : (rows : List Joined) (row : Joined) (old new : List (List SoFar)) (known : Bool) → list_any (has_key key (key row)) (firsts rows) ≡ known
      → Puts items old (if known then Some (place_in key values_in row (firsts rows)) else None) (values_in row) new → IsFolded items (gathered (kept rows)) old → IsFolded items (gathered (kept rows ++ row ∷ [])) new
  put-more rows row old new true there puts was =
      let some = kept rows in
      let before = lists_of key values_in some in
      let at = place_in key values_in row (firsts rows) in
      let grown = grown-one key values_in some row there in
      let folded : IsFolded items before old = subst (λ (ls : List (List (List Value))). IsFolded items ls old) (groups-are key values_in some) was in
      let long : length before ≡ length old = zip-long (AreKnown items) before old folded in
      let group : AreKnown items (get_or before at []) (get_or old at []) =
      zip-nth (AreKnown items) before old at [] [] folded (let h = grown.below in omega (arith, h, long)) in
      subst (λ (ls : List (List (List Value))). IsFolded items ls new) (sym (groups-are key values_in (some ++ row ∷ []) ∙ grown.lists))
      (subst (λ (gs : List (List SoFar)). IsFolded items (set before at (get_or before at [] ++ values_in row ∷ [])) gs) (sym puts.1)
      (zip-set (AreKnown items) before old at (get_or before at [] ++ values_in row ∷ []) puts.0 folded (puts.2 items (get_or before at []) group)))
  put-more rows row old new false there puts was =
      let some = kept rows in
      let folded : IsFolded items (lists_of key values_in some) old = subst (λ (ls : List (List (List Value))). IsFolded items ls old) (groups-are key values_in some) was in
      subst (λ (ls : List (List (List Value))). IsFolded items ls new) (sym (groups-are key values_in (some ++ row ∷ []) ∙ added-one key values_in some row there))
      (subst (λ (gs : List (List SoFar)). IsFolded items (lists_of key values_in some ++ (values_in row ∷ []) ∷ []) gs) (sym puts.1)
      (zip-push (AreKnown items) (lists_of key values_in some) old (values_in row ∷ []) puts.0 folded puts.2))

  -- what was found of these rows
  abbrev pub HasGathered : List Joined → List F → List (List SoFar) → Type 0
  HasGathered rows values groups = (values ≡ map make (firsts rows)) × IsFolded items (gathered (kept rows)) groups

  -- one more row for which the condition holds
  pub folds-more : (rows : List Joined) (row : Joined) (value : F) (olds news : List F) (old new : List (List SoFar)) → is_kept condition row ≡ true → value ≡ make row
      → news ≡ insert_key same olds value → Puts items old (place_of same value olds) (values_in row) new → HasGathered rows olds old → HasGathered (rows ++ row ∷ []) news new
  folds-more rows row value olds news old new keeps made inserts puts was =
      let known = list_any (has_key key (key row)) (firsts rows) in
      let stands = subst (λ (o : Option ℕ). Puts items old o (values_in row) new) (ap (λ (v : F). place_of same v olds) made ∙ place-known rows row olds was.0 known refl) puts in
      subst (λ (some : List Joined). (news ≡ map make (firsts_by key some)) × IsFolded items (gathered some) new) (sym (kept-one (is_kept condition) rows row true keeps)) (
        inserts ∙ ap (insert_key same olds) made ∙ ap (λ (vs : List F). insert_key same vs (make row)) was.0 ∙ insert_key-made same key make is (kept rows) row,
        put-more rows row old new known refl stands was.1,
      )

  -- one for which it doesn't
  pub folds-still : (rows : List Joined) (row : Joined) (values : List F) (groups : List (List SoFar)) → is_kept condition row ≡ false → HasGathered rows values groups → HasGathered (rows ++ row ∷ []) values groups
  folds-still rows row values groups left was =
      subst (λ (some : List Joined). (values ≡ map make (firsts_by key some)) × IsFolded items (gathered some) groups)
      (sym (kept-one (is_kept condition) rows row false left ∙ append-nil (kept rows))) was

-- one more row for which a condition holds, or doesn't
pub values-more : (condition : List ExprTree) (rows : List (List Value)) (row : List Value) (keeps : Bool) → holds (alone row) condition ≡ keeps
    → kept_values condition (rows ++ row ∷ []) ≡ kept_values condition rows ++ cond keeps (row ∷ []) []
values-more condition rows row keeps is =
    filter-append (λ row. holds (alone row) condition) rows (row ∷ []) ∙ ap (λ (b : Bool). kept_values condition rows ++ cond b (row ∷ []) []) is

pub every-environment : (envs : List Environment) → filter (λ env. holds env []) envs ≡ envs
every-environment [] = refl
every-environment (env ∷ envs) = ap (λ (rest : List Environment). env ∷ rest) (every-environment envs)

module _ (query : QueryTree) (items : List GroupItem) where
  -- without GROUP BY all rows are the one group of the meaning
  pub all-mean : IsOneGroup query → AreItems query items → (rows : List (List Value))
      → finished query (map (λ rows. map (λ item. item_over item rows) items) (filtered query rows ∷ [])) ≡ behind_from query rows
  all-mean one is rows =
      let some = filtered query rows in
      ap (finished query)
      (ap (λ (row : List Value). row ∷ []) (sym (is some))
      ∙ ap (map (result_row query))
      (sym (every-environment (together some ∷ []))
      ∙ ap (λ (having : List ExprTree). filter (λ env. holds env having) (together some ∷ [])) (sym one.2)
      ∙ ap (λ (keys : List ExprTree). filter (λ env. holds env query.having) (map together (groups keys some))) (sym one.1)
      ∙ ap (λ (b : Bool). if b then kept_groups query some else map alone some) (sym one.0)))
