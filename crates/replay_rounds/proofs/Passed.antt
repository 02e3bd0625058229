-- What entries do to the offsets up to which a list has its sources, and to its moment.
use Rattle.std.proofs.Common.{◌≡◌, ℕ, Bool, true, false, cond, List, [], ◌∷◌, ◌++◌, map, Some, None, refl, sym, ap, ◌∙◌}
use Rattle.std.specs.Prelude.{unwrap_or, ◌||◌, bytes_eq}
use Rattle.std.specs.List.{list_any}
use Rattle.std.proofs.lemmas.Bool.{true≢false}
use Rattle.std.proofs.lemmas.Slice.Eq.{bytes_eq-Decides}
use Rattle.osq_value.specs.declared.reading.Reading.{Reading}
use Rattle.osq_value.specs.declared.reading.Reading.TheVariants.{Events, Table}
use Rattle.source_feeds.specs.Joining.{Rise}
use Rattle.entry_model.specs.declared.entry.Entry.{Entry}
use Rattle.entry_model.specs.Values.{last_of, moment_in, moment_of, taken_from, taken_in}
use Rattle.entry_model.proofs.Lasts.{last_of-append}
use Rattle.daemon_rounds.specs.Appending.{entries_of}
use Rattle.daemon_rounds.specs.Turns.{Turn, turn_entries}
use Rattle.daemon_rounds.specs.Rounding.{names_of, round_entries}

pub or_false : (a b : Bool) → (a || b) ≡ false → (a ≡ false) × (b ≡ false)
or_false true b h = absurd (true≢false h)
or_false false b h = (refl, h)

pub differ_back : (a b : List ℕ) → bytes_eq a b ≡ false → bytes_eq b a ≡ false
differ_back a b differs = by_test (bytes_eq b a) refl
  where
    by_test : (test : Bool) → bytes_eq b a ≡ test → test ≡ false
    by_test true e =
        absurd (true≢false (sym ((bytes_eq-Decides a b).1 (sym ((bytes_eq-Decides b a).0 e))) ∙ differs))
    by_test false e = refl

-- the readings of a source take it up to the last of them
taken_by : (name : List ℕ) (moment before after : ℕ) (readings : List Reading) → Rise before readings after → last_of (taken_in name) before (entries_of name moment readings) ≡ after
taken_by name moment before after [] still = sym still
taken_by name moment before after (Events taken events skipped ∷ readings) (low, rest) =
    ap (λ (b : Bool). last_of (taken_in name) (unwrap_or (cond b (Some taken) None) before) (entries_of name moment readings)) ((bytes_eq-Decides name name).1 refl) ∙ taken_by name moment taken after readings rest
taken_by name moment before after (Table taken table rows ∷ readings) (low, rest) =
    ap (λ (b : Bool). last_of (taken_in name) (unwrap_or (cond b (Some taken) None) before) (entries_of name moment readings)) ((bytes_eq-Decides name name).1 refl) ∙ taken_by name moment taken after readings rest

-- they don't move another source
other_stays : (name other : List ℕ) (moment before : ℕ) (readings : List Reading) → bytes_eq name other ≡ false → last_of (taken_in other) before (entries_of name moment readings) ≡ before
other_stays name other moment before [] differs = refl
other_stays name other moment before (Events taken events skipped ∷ readings) differs =
    ap (λ (b : Bool). last_of (taken_in other) (unwrap_or (cond b (Some taken) None) before) (entries_of name moment readings)) differs ∙ other_stays name other moment before readings differs
other_stays name other moment before (Table taken table rows ∷ readings) differs =
    ap (λ (b : Bool). last_of (taken_in other) (unwrap_or (cond b (Some taken) None) before) (entries_of name moment readings)) differs ∙ other_stays name other moment before readings differs

-- nor does a round of other sources
others_stay : {S : Type 0} (other : List ℕ) (moment before : ℕ) (turns : List (Turn S)) → list_any (λ (name : List ℕ). bytes_eq name other) (names_of (map (λ (turn : Turn S). turn.feed) turns)) ≡ false → last_of (taken_in other) before (round_entries moment turns) ≡ before
others_stay other moment before [] none = refl
others_stay {S} other moment before (turn ∷ turns) none =
    let two = or_false (bytes_eq turn.feed.name other) (list_any (λ (name : List ℕ). bytes_eq name other) (names_of (map (λ (turn : Turn S). turn.feed) turns))) none in
    last_of-append (taken_in other) before (turn_entries moment turn) (round_entries moment turns) ∙ ap (λ (offset : ℕ). last_of (taken_in other) offset (round_entries moment turns)) (other_stays turn.feed.name other moment before turn.readings two.0) ∙ others_stay other moment before turns two.1

moment_stays : (name : List ℕ) (moment before : ℕ) (readings : List Reading) → last_of moment_in before (entries_of name moment readings) ≡ before
moment_stays name moment before [] = refl
moment_stays name moment before (Events taken events skipped ∷ readings) = moment_stays name moment before readings
moment_stays name moment before (Table taken table rows ∷ readings) = moment_stays name moment before readings

-- behind the list `now`
module _ (now : List Entry) where
  pub taken_behind : (name : List ℕ) (moment after : ℕ) (readings : List Reading) → Rise (taken_from now name) readings after → taken_from (now ++ entries_of name moment readings) name ≡ after
  taken_behind name moment after readings rise =
      last_of-append (taken_in name) 0 now (entries_of name moment readings) ∙ taken_by name moment (taken_from now name) after readings rise

  pub other_behind : (name other : List ℕ) (moment : ℕ) (readings : List Reading) → bytes_eq name other ≡ false → taken_from (now ++ entries_of name moment readings) other ≡ taken_from now other
  other_behind name other moment readings differs =
      last_of-append (taken_in other) 0 now (entries_of name moment readings) ∙ other_stays name other moment (taken_from now other) readings differs

  pub others_behind : {S : Type 0} (other : List ℕ) (moment : ℕ) (turns : List (Turn S)) → list_any (λ (name : List ℕ). bytes_eq name other) (names_of (map (λ (turn : Turn S). turn.feed) turns)) ≡ false → taken_from (now ++ round_entries moment turns) other ≡ taken_from now other
  others_behind other moment turns none =
      last_of-append (taken_in other) 0 now (round_entries moment turns) ∙ others_stay other moment (taken_from now other) turns none

  -- readings don't move the moment
  pub moment_behind : (name : List ℕ) (moment : ℕ) (readings : List Reading) → moment_of (now ++ entries_of name moment readings) ≡ moment_of now
  moment_behind name moment readings =
      last_of-append moment_in 0 now (entries_of name moment readings) ∙ moment_stays name moment (moment_of now) readings
