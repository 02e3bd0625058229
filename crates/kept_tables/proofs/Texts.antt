-- Groups of rows and of events, and their texts.
use Rattle.std.proofs.Common.{◌≡◌, ℕ, suc, ◌+◌, ◌<◌, Bool, true, false, List, [], ◌∷◌, ◌++◌, length, get_or, map, take, refl, sym, ap, ◌∙◌, arith}
use Rattle.std.specs.Prelude.{◌==◌, fold, if◌then◌else◌}
use Rattle.std.proofs.lemmas.Bool.Decides.{nat_tests}
use Rattle.std.proofs.lemmas.List.{append-nil, length-map, map-append, take_more, length-take-le}
use Rattle.std.proofs.lemmas.List.Elements.{filter-append}
use Rattle.std.proofs.lemmas.List.Sums.{fold-append}
use Rattle.result_batches.specs.Json.{each_behind_comma}
use Rattle.osq_value.specs.declared.value.Event.{Event}
use Rattle.osq_value.specs.declared.value.Value.{Value}
use Rattle.entry_model.specs.declared.restored.Live.{Live}
use Rattle.entry_model.specs.Values.{numbered}
use Rattle.entry_model.proofs.Lasts.{numbered-append}
use Rattle.kept_tables.specs.Edits.{behind, own, rows_of}
use Rattle.kept_tables.specs.Groups.{Grouped, all_groups, no_groups, roomy, some_group, with_item}
use Rattle.kept_tables.specs.Lists.{opened}
use Rattle.kept_tables.specs.Parts.{full_events}
use Rattle.kept_tables.specs.Rows.{row_text}

pub roomy_no : {X : Type 0} (test : List X → Bool) (held : Grouped X) → test held.growing ≡ false → roomy test held ≡ held
roomy_no test held is = ap (λ (b : Bool). if b then record { full = held.full ++ held.growing ∷ []; growing = [] } else held) is

pub roomy_yes : {X : Type 0} (test : List X → Bool) (held : Grouped X) → test held.growing ≡ true → roomy test held ≡ record { full = held.full ++ held.growing ∷ []; growing = [] }
roomy_yes test held is = ap (λ (b : Bool). if b then record { full = held.full ++ held.growing ∷ []; growing = [] } else held) is

not_empty : (n : ℕ) → (suc n == 0) ≡ false
not_empty n = grind (arith, nat_tests)

module _ {X Y : Type 0} (f : List X → Y) where
  -- the group that grows has no item, or some
  pub all_none : (held : Grouped X) → held.growing ≡ [] → map f held.full ≡ map f (all_groups held)
  all_none held none = ap (map f) (sym (append-nil held.full) ∙ ap (λ (g : List X). held.full ++ some_group g) (sym none))

  pub all_some : (full : List (List X)) (x : X) (xs : List X) → map f full ++ f (x ∷ xs) ∷ [] ≡ map f (full ++ some_group (x ∷ xs))
  all_some full x xs = sym (map-append f full ((x ∷ xs) ∷ []))

module _ {Y : Type 0} (f : List (List Value) → Y) where
  pub rows_none : (held : Grouped (List Value)) → (length (opened (map row_text held.growing)) == 0) ≡ true → map f held.full ≡ map f (all_groups held)
  rows_none held none = by held.growing refl none
    where
      by : (g : List (List Value)) → held.growing ≡ g → (length (opened (map row_text g)) == 0) ≡ true → map f held.full ≡ map f (all_groups held)
      by [] is none = all_none f held is
      by (row ∷ rows) is none = absurd (let some = not_empty (length (row_text row ++ each_behind_comma (map row_text rows))) in let e : true ≡ false = sym none ∙ some in cc)

  pub rows_some : (held : Grouped (List Value)) → (length (opened (map row_text held.growing)) == 0) ≡ false → map f held.full ++ f held.growing ∷ [] ≡ map f (all_groups held)
  rows_some held some = by held.growing some
    where
      by : (g : List (List Value)) → (length (opened (map row_text g)) == 0) ≡ false → map f held.full ++ f g ∷ [] ≡ map f (held.full ++ some_group g)
      by [] some = absurd (let e : true ≡ false = some in cc)
      by (row ∷ rows) some = all_some f held.full row rows

module _ {Y : Type 0} (f : List Live → Y) where
  pub events_none : (held : Grouped Live) → (length (opened (map row_text (rows_of held.growing))) == 0) ≡ true → map f held.full ≡ map f (all_groups held)
  events_none held none = by held.growing refl none
    where
      by : (g : List Live) → held.growing ≡ g → (length (opened (map row_text (rows_of g))) == 0) ≡ true → map f held.full ≡ map f (all_groups held)
      by [] is none = all_none f held is
      by (event ∷ events) is none = absurd (let some = not_empty (length (row_text event.row ++ each_behind_comma (map row_text (rows_of events)))) in let e : true ≡ false = sym none ∙ some in cc)

  pub events_some : (held : Grouped Live) → (length (opened (map row_text (rows_of held.growing))) == 0) ≡ false → map f held.full ++ f held.growing ∷ [] ≡ map f (all_groups held)
  events_some held some = by held.growing some
    where
      by : (g : List Live) → (length (opened (map row_text (rows_of g))) == 0) ≡ false → map f held.full ++ f g ∷ [] ≡ map f (held.full ++ some_group g)
      by [] some = absurd (let e : true ≡ false = some in cc)
      by (event ∷ events) some = all_some f held.full event events

-- ---- the events of a table, one after another

abbrev pub held_at : ℕ → ℕ → ℕ → ℕ → List Event → Grouped Live
held_at table before moment i events = fold (with_item full_events) no_groups (own table (behind before moment (take i events)))

abbrev pub new_event : ℕ → ℕ → ℕ → Event → Live
new_event before moment i event = record { number = (1 + before) + i; table = event.table; moment = moment; row = event.row }

behind_more : (before moment : ℕ) (events : List Event) (i : ℕ) (d : Event) → i < length events → behind before moment (take (i + 1) events) ≡ behind before moment (take i events) ++ new_event before moment i (get_or events i d) ∷ []
behind_more before moment events i d lt =
    let stamped : Event → ℕ × Event = λ event. (moment, event) in
    let front = take i events in
    let event = get_or events i d in
    let many : length (map stamped front) ≡ i = length-map front stamped ∙ length-take-le i events (omega (arith, lt)) in
    ap (λ (es : List Event). behind before moment es) (take_more events i d lt) ∙ ap (numbered (1 + before)) (map-append stamped front (event ∷ [])) ∙ numbered-append (1 + before) (map stamped front) (stamped event ∷ [])
    ∙ ap (λ (n : ℕ). behind before moment front ++ new_event before moment n event ∷ []) many

own_more : (table : ℕ) (events : List Live) (event : Live) (b : Bool) → (event.table.0 == table) ≡ b → own table (events ++ event ∷ []) ≡ own table events ++ (if b then event ∷ [] else [])
own_more table events event b is =
    filter-append (λ (e : Live). e.table.0 == table) events (event ∷ []) ∙ ap (λ (b : Bool). own table events ++ (if b then event ∷ [] else [])) is

pub grown : (table before moment : ℕ) (events : List Event) (i : ℕ) (d : Event) → i < length events → ((get_or events i d).table.0 == table) ≡ true → held_at table before moment (i + 1) events ≡ with_item full_events (held_at table before moment i events) (new_event before moment i (get_or events i d))
grown table before moment events i d lt is =
    let front = behind before moment (take i events) in
    let event = new_event before moment i (get_or events i d) in
    ap (λ (es : List Live). fold (with_item full_events) no_groups es) (ap (own table) (behind_more before moment events i d lt) ∙ own_more table front event true is) ∙ fold-append (with_item full_events) no_groups (own table front) (event ∷ [])

pub same : (table before moment : ℕ) (events : List Event) (i : ℕ) (d : Event) → i < length events → ((get_or events i d).table.0 == table) ≡ false → held_at table before moment (i + 1) events ≡ held_at table before moment i events
same table before moment events i d lt is =
    let front = behind before moment (take i events) in
    let event = new_event before moment i (get_or events i d) in
    ap (λ (es : List Live). fold (with_item full_events) no_groups es) (ap (own table) (behind_more before moment events i d lt) ∙ own_more table front event false is ∙ append-nil (own table front))

-- with the next event, if it is one of the table
pub grown_at : (table before moment : ℕ) (events : List Event) (i : ℕ) (event : Event) → i < length events → event ≡ get_or events i event → held_at table before moment (i + 1) events ≡ (if event.table.0 == table then with_item full_events (held_at table before moment i events) (new_event before moment i event) else held_at table before moment i events)
grown_at table before moment events i event lt is =
    let next = λ (e : Event). if e.table.0 == table then with_item full_events (held_at table before moment i events) (new_event before moment i e) else held_at table before moment i events in
    by ((get_or events i event).table.0 == table) refl ∙ ap next (sym is)
  where
    by : (b : Bool) → ((get_or events i event).table.0 == table) ≡ b
        → held_at table before moment (i + 1) events ≡ (if b then with_item full_events (held_at table before moment i events) (new_event before moment i (get_or events i event)) else held_at table before moment i events)
    by true own = grown table before moment events i event lt own
    by false other = same table before moment events i event lt other
