use Rattle.std.proofs.Common.{rules, ◌≡◌, ℕ, ◌<◌, refl, ap, length, map, ap₂, sym, ◌∙◌, Bool, true, false, not, cond, ◌+◌, [], ◌∷◌, ◌++◌, List, get_or, set, subst}
use Rattle.std.specs.List.{list_any, position_or_len}
use Rattle.std.specs.Cmp.Lexicographic.{pointwise}
use Rattle.std.proofs.lemmas.List.{get_or_default}
use Rattle.indexmap.specs.IndexSet.{insert_key}
use Rattle.osq_value.specs.contracts.value.ValuePartialEq.TheImpl as equality
use Rattle.sql_meaning.specs.Firsts.{same_values, firsts_by}
use Rattle.sql_meaning.specs.declared.groups.Keyed.{Keyed}
use Rattle.sql_meaning.specs.Worths.{worth_of}
use Rattle.sql_meaning.specs.declared.worth.Worth.{Worth}
use Rattle.sql_meaning.specs.declared.joined.Joined.{Joined}
use Rattle.sql_meaning.proofs.Equality.{worths-are}
use Rattle.sql_meaning.proofs.FirstsLaws.{has_key}
use Rattle.sql_meaning.proofs.GroupsLaws.{Grown, added-one, groups-are, grown-one, key_in, lists_of, place_in, row_in}
use Rattle.sql_meaning.proofs.HashedLaws.{any_made, insert_key-made}
use Rattle.sql_meaning.proofs.groups.groups.Goals as goal

abbrev equal : List Worth → List Worth → Bool
equal left right = pointwise (λ (l r : Worth). equality.eq-value.it (worth_of l) (worth_of r)) left right

-- the key as it is held
abbrev held_in : Keyed → List Worth
held_in member = member.key

is : (x y : Keyed) → equal x.key y.key ≡ same_values (key_in x) (key_in y)
is x y = worths-are x.key y.key

-- the set of keys is that of the members and of this one
keys-more : (members : List Keyed) (member : Keyed) (old new : List (List Worth)) → old ≡ map held_in (firsts_by key_in members) → new ≡ insert_key equal old member.key → new ≡ map held_in (firsts_by key_in (members ++ member ∷ []))
keys-more members member old new held more =
    more ∙ ap (λ (keys : List (List Worth)). insert_key equal keys member.key) held ∙ insert_key-made equal key_in held_in is members member

-- whether the key is among them
known-is : (members : List Keyed) (member : Keyed) (keys : List (List Worth)) (is_new : Bool) → keys ≡ map held_in (firsts_by key_in members) → is_new ≡ not (list_any (equal member.key) keys) → (known : Bool) → is_new ≡ not known → list_any (has_key key_in (key_in member)) (firsts_by key_in members) ≡ known
known-is members member keys is_new held told known at =
    sym (ap (list_any (equal member.key)) held ∙ any_made equal key_in held_in is member (firsts_by key_in members)) ∙ turned (list_any (equal member.key) keys) known (sym told ∙ at)
  where
    turned : (a b : Bool) → not a ≡ not b → a ≡ b
    turned true true h = refl
    turned false false h = refl
    turned true false h = cc
    turned false true h = cc

places : (member : Keyed) (firsts : List Keyed) → position_or_len (equal member.key) (map held_in firsts) ≡ position_or_len (same_values (key_in member)) (map key_in firsts)
places member [] = refl
places member (first ∷ firsts) = λ i. cond (not (worths-are member.key first.key i)) (1 + places member firsts i) 0

-- its place there
place-is : (members : List Keyed) (member : Keyed) (keys : List (List Worth)) (at : ℕ) → keys ≡ map held_in (firsts_by key_in members) → at ≡ position_or_len (equal member.key) keys → at ≡ place_in key_in row_in member (firsts_by key_in members)
place-is members member keys at held told =
    told ∙ ap (position_or_len (equal member.key)) held
    ∙ places member (firsts_by key_in members)

pub loop-member-init : goal.loop-member-init
loop-member-init c = record { keys = c.with_hasher-keys.ensures.empty; lists = c.new-groups.ensures.items }

pub loop-member-preserved-in_ok-push : goal.loop-member-preserved-in_ok-push
loop-member-preserved-in_ok-push c =
    let before = c.loop-member.invariant in
    let member = c.in-Some.member in
    let members = c.loop-member.yielded in
    let lists = before.lists ∙ groups-are key_in row_in members in
    let unknown = known-is members member c.loop-member.keys.keys c.in_ok-at.is_new before.keys c.in_ok-at.ensures.added false c.if-is_new.true in
    record {
      keys = keys-more members member c.loop-member.keys.keys c.insert_full.new.self.keys before.keys c.in_ok-at.ensures.keys;
      lists =
          c.in_ok-push.ensures.items
          ∙ ap₂ (λ (groups : List (List Joined)) (rows : List Joined). groups ++ rows ∷ []) lists c.in_ok-one_row.ensures
          ∙ sym (added-one key_in row_in members member unknown) ∙ sym (groups-are key_in row_in (members ++ member ∷ []));
    }

-- the group of a key that is there
grown : (members : List Keyed) (member : Keyed) (keys : List (List Worth)) (is_new : Bool) (at : ℕ) → keys ≡ map held_in (firsts_by key_in members) → is_new ≡ not (list_any (equal member.key) keys) → is_new ≡ false
    → at ≡ position_or_len (equal member.key) keys → Grown key_in row_in members member at
grown members member keys is_new at held told old place =
    subst (Grown key_in row_in members member) (sym (place-is members member keys at held place)) (grown-one key_in row_in members member (known-is members member keys is_new held told true old))

pub index_mut-requires : goal.index_mut-requires
index_mut-requires c =
    let before = c.loop-member.invariant in
    let g = grown c.loop-member.yielded c.in-Some.member c.loop-member.keys.keys c.in_ok-at.is_new c.in_ok-at.at before.keys c.in_ok-at.ensures.added c.if-is_new.false c.in_ok-at.ensures.index in
    let below : c.in_ok-at.at < length (lists_of key_in row_in c.loop-member.yielded) = g.below in
    let lists = before.lists ∙ groups-are key_in row_in c.loop-member.yielded in
    let within : c.in_ok-at.at < length c.loop-member.groups.items = subst (λ (groups : List (List Joined)). c.in_ok-at.at < length groups) (sym lists) below in
    search (rules, within)

pub loop-member-preserved : goal.loop-member-preserved
loop-member-preserved c =
    let before = c.loop-member.invariant in
    let member = c.in-Some.member in
    let members = c.loop-member.yielded in
    let at = c.in_ok-at.at in
    let lists = before.lists ∙ groups-are key_in row_in members in
    let g = grown members member c.loop-member.keys.keys c.in_ok-at.is_new at before.keys c.in_ok-at.ensures.added c.if-is_new.false c.in_ok-at.ensures.index in
    let old : c.index_mut.result.now ≡ get_or c.loop-member.groups.items at [] =
    c.index_mut.ensures.value ∙ get_or_default c.loop-member.groups.items at c.index_mut.result.now [] (let b = g.below in let l = lists in rw l b) in
    record {
      keys = keys-more members member c.loop-member.keys.keys c.insert_full.new.self.keys before.keys c.in_ok-at.ensures.keys;
      lists =
          ap (λ (rows : List Joined). set c.loop-member.groups.items at rows) (c.in_ok-push-2.ensures.ok ∙ ap (λ (rows : List Joined). rows ++ member.row ∷ []) old)
          ∙ ap (λ (groups : List (List Joined)). set groups at (get_or groups at [] ++ member.row ∷ [])) lists
          ∙ sym g.lists ∙ sym (groups-are key_in row_in (members ++ member ∷ []));
    }
