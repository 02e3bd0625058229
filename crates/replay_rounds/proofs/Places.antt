-- Where the entries of a session configure it, and what discovery sees there.
use Rattle.std.proofs.Common.{◌≡◌, ℕ, ◌+◌, ◌≤◌, Bool, true, false, List, [], ◌∷◌, ◌++◌, length, map, flat_map, Option, None, Some, refl, sym, ap, ◌∙◌, append_assoc, arith}
use Rattle.std.specs.Prelude.{◌==◌, if◌then◌else◌, filter, filter_map, nat_lt, option_map, pos, unwrap_or}
use Rattle.std.specs.List.{cons_option}
use Rattle.std.proofs.lemmas.List.{append-nil}
use Rattle.std.proofs.lemmas.List.Concat.{flat_map-append}
use Rattle.std.proofs.lemmas.List.Elements.{filter_map-append}
use Rattle.osq_config.specs.declared.config.Config.{Config}
use Rattle.osq_value.specs.declared.value.Event.{Event}
use Rattle.osq_value.specs.declared.value.Value.{Value}
use Rattle.osq_value.specs.declared.value.Value.TheVariants.{Int, Text}
use Rattle.osq_value.specs.declared.value.TheConstants.TableId.{TIME, OSQUERY_SCHEDULE, OSQUERY_EVENTS}
use Rattle.pack_rules.specs.declared.host.Host.{Host}
use Rattle.pack_rules.specs.declared.schedule.Schedule.{Schedule}
use Rattle.pack_rules.specs.declared.schedule.Scheduled.{Scheduled}
use Rattle.query_answers.specs.Discovery.{is_found}
use Rattle.sql_meaning.specs.Meaning.{View}
use Rattle.entry_model.specs.declared.entry.Batch.{Batch}
use Rattle.entry_model.specs.declared.entry.Entry.{Entry}
use Rattle.entry_model.specs.declared.entry.Entry.TheVariants.{Acked, Configured, Ticked}
use Rattle.entry_model.specs.declared.restored.Live.{Live}
use Rattle.entry_model.specs.Values.{batch_in, commits, events_in, floor_in, floor_of, is_above, no_schedule, numbered, rows_in as rows_set, same_key, schedule_in, schedule_of, table_set, time_of}
use Rattle.entry_model.specs.Views.{evented_ids, is_evented_table, is_recorded_table, table_name}
use Rattle.entry_model.proofs.Lasts.{last_of-append}
use Rattle.session_model.specs.Configuring.{configured_in, found_behind}
use Rattle.session_model.specs.Given.{Given}
use Rattle.session_state.specs.Kept.{IsState, Kept}
use Rattle.session_state.specs.StateOf.{HasValues}
use Rattle.daemon_rounds.specs.Answering.{committed_all}
use Rattle.daemon_rounds.specs.Configuring.{found_now, tables_of}
use Rattle.daemon_rounds.specs.Ticking.{ConfiguresAgain, asks_again}
use Rattle.daemon_rounds.specs.declared.setup.Setup.{Setup}
use Rattle.daemon_rounds.proofs.Configured.{tables_same}
use Rattle.source_feeds.specs.Feeding.{Feeding}
use Rattle.forward_rounds.proofs.Acks.{commits_behind, events_behind, last_behind, schedule_of_behind}
use Rattle.replay_rounds.specs.Noting.{ArePlacesBut, Place, configurations, places_of}
use Rattle.replay_rounds.specs.Ticked.{TickDone}
use Rattle.replay_rounds.proofs.Again.{again_brings, again_entries}
use Rattle.replay_rounds.proofs.Counted.{configurations-append, none-append, settled_none, again_counted, count_of, tail_counted}
use Rattle.session_model.specs.Orders.{Order}
use Rattle.replay_rounds.proofs.Rounds.{Gives, gives, plain_none}

one_none : (list entries : List Entry) (rest : List Place) (o : Option ℕ) → (configurations entries ≡ 0 → rest ≡ []) → length (cons_option o (filter_map configured_in entries)) ≡ 0 → cons_option (option_map (λ (moment : ℕ). record { list = list; moment = moment }) o) rest ≡ []
one_none list entries rest None behind none = behind none
one_none list entries rest (Some moment) behind none = absurd (omega (arith, none))

-- none of these configures the session
pub places_none : (list entries : List Entry) → configurations entries ≡ 0 → places_of list entries ≡ []
places_none list [] none = refl
places_none list (entry ∷ entries) none =
    one_none list entries (places_of (list ++ entry ∷ []) entries) (configured_in entry) (λ none. places_none (list ++ entry ∷ []) entries none) none

one_more : (o : Option Place) (all front back : List Place) → all ≡ front ++ back → cons_option o all ≡ cons_option o front ++ back
one_more None all front back same = same
one_more (Some place) all front back same = ap (λ (places : List Place). place ∷ places) same

pub places-append : (list xs ys : List Entry) → places_of list (xs ++ ys) ≡ places_of list xs ++ places_of (list ++ xs) ys
places-append list [] ys = ap (λ (l : List Entry). places_of l ys) (sym (append-nil list))
places-append list (x ∷ xs) ys =
    one_more (option_map (λ (moment : ℕ). record { list = list; moment = moment }) (configured_in x)) (places_of (list ++ x ∷ []) (xs ++ ys)) (places_of (list ++ x ∷ []) xs) (places_of (list ++ (x ∷ xs)) ys)
    (places-append (list ++ x ∷ []) xs ys ∙ ap (λ (l : List Entry). places_of (list ++ x ∷ []) xs ++ places_of l ys) (append_assoc list (x ∷ []) xs))

-- acknowledgements configure nothing
acks_none : (marks : List ℕ) → configurations (map Acked marks) ≡ 0
acks_none [] = refl
acks_none (mark ∷ marks) = acks_none marks

pub places_acked : (list entries : List Entry) (marks : List ℕ) → places_of list (entries ++ map Acked marks) ≡ places_of list entries
places_acked list entries marks =
    places-append list entries (map Acked marks) ∙ ap (λ (places : List Place). places_of list entries ++ places) (places_none (list ++ entries) (map Acked marks) (acks_none marks)) ∙ append-nil (places_of list entries)

places_behind_acks : (list : List Entry) (marks : List ℕ) (entries : List Entry) → places_of list (map Acked marks ++ entries) ≡ places_of (list ++ map Acked marks) entries
places_behind_acks list marks entries =
    places-append list (map Acked marks) entries ∙ ap (λ (places : List Place). places ++ places_of (list ++ map Acked marks) entries) (places_none list (map Acked marks) (acks_none marks))

-- one where a session is configured again, else none
abbrev pub again_places : Bool → Place → List Place
again_places true place = place ∷ []
again_places false place = []

-- where a tick behind this list configures the session
abbrev pub tick_place : List Entry → ℕ → Place
tick_place list moment = record { list = list ++ Ticked moment ∷ []; moment = moment }

anew_places : (list : List Entry) (asks : Bool) (config : Config) (documents : List (List ℕ)) (host : Host) (moment : ℕ) (old new : Kept) (again : ConfiguresAgain asks config documents host moment old new) → places_of list (Ticked moment ∷ again_entries asks config documents host moment old new again) ≡ again_places asks (tick_place list moment)
anew_places list true config documents host moment old new configures = refl
anew_places list false config documents host moment old new same = refl

-- how often a tick configures the session
pub tick_counted : {S : Type 0} (order : Order) (tells : Type 0) (left : S → List ℕ) (faults : S → ℕ) (setup : Setup) (config : Config) (documents : List (List ℕ)) (configured_at moment : ℕ) (feeds nexts : List Feeding) (objects rests : List S) (old settled : Kept)
    → TickDone order tells left faults setup config documents configured_at moment feeds nexts objects rests old settled → configurations settled.tail ≡ configurations old.tail + count_of (asks_again config configured_at moment)
tick_counted order tells left faults setup config documents configured_at moment feeds nexts objects rests old settled done =
    let asks = asks_again config configured_at moment in
    let f = done.fills in
    let begun : configurations f.ticked.tail ≡ configurations old.tail + 0 = tail_counted old (Ticked moment ∷ []) f.ticked f.ticks.tail in
    let anew = again_entries asks config documents setup.host moment f.ticked f.configured f.again in
    let again : configurations f.configured.tail ≡ configurations f.ticked.tail + configurations anew = tail_counted f.ticked anew f.configured (again_brings asks config documents setup.host moment f.ticked f.configured f.again).tail in
    let once : configurations anew ≡ count_of asks = again_counted asks config documents setup.host moment f.ticked f.configured f.again in
    let round = gives order tells left faults setup.records feeds nexts objects rests f.configured done.filled f.rounds in
    let taken = tail_counted f.configured round.body done.filled round.gains.tail in
    let none = plain_none round.body round.plain in
    let settling = tail_counted done.filled (committed_all done.settles.batches ++ done.settles.expired) settled done.settles.brings.tail in
    let rest = settled_none done.filled settled done.settles in
    omega (arith, begun, again, once, taken, none, settling, rest)

-- what a tick adds to the tail: its Ticked, its configuration where that is due, and entries that configure nothing
module _ {S : Type 0} (order : Order) (tells : Type 0) (left : S → List ℕ) (faults : S → ℕ) (setup : Setup) (config : Config) (documents : List (List ℕ)) (configured_at moment : ℕ) (feeds nexts : List Feeding) (objects rests : List S) (old settled : Kept) (done : TickDone order tells left faults setup config documents configured_at moment feeds nexts objects rests old settled) where
  abbrev anew : List Entry
  anew = again_entries (asks_again config configured_at moment) config documents setup.host moment done.fills.ticked done.fills.configured done.fills.again

  round : Gives tells left faults setup.records feeds nexts objects rests done.fills.configured done.filled
  round =
      gives order tells left faults setup.records feeds nexts objects rests done.fills.configured done.filled done.fills.rounds

  abbrev taken : List Entry
  taken = round.body

  abbrev answered : List Entry
  answered = committed_all done.settles.batches ++ done.settles.expired

  others_none : configurations (taken ++ answered) ≡ 0
  others_none = none-append taken answered (plain_none round.body round.plain) (settled_none done.filled settled done.settles)

  tail_is : settled.tail ≡ old.tail ++ ((Ticked moment ∷ anew) ++ (taken ++ answered))
  tail_is =
      done.settles.brings.tail ∙ ap (λ (es : List Entry). es ++ answered) (round.gains.tail ∙ ap (λ (es : List Entry). es ++ taken) ((again_brings (asks_again config configured_at moment) config documents setup.host moment done.fills.ticked done.fills.configured done.fills.again).tail
      ∙ ap (λ (es : List Entry). es ++ anew) done.fills.ticks.tail ∙ append_assoc old.tail (Ticked moment ∷ []) anew))
      ∙ append_assoc (old.tail ++ (Ticked moment ∷ anew)) taken answered ∙ append_assoc old.tail (Ticked moment ∷ anew) (taken ++ answered)

  pub tick_places : (list : List Entry) (marks : List ℕ) → old.tail ≡ map Acked marks → places_of list settled.tail ≡ again_places (asks_again config configured_at moment) (tick_place (list ++ map Acked marks) moment)
  tick_places list marks acked =
      let behind = list ++ map Acked marks in
      ap (places_of list) (tail_is ∙ ap (λ (es : List Entry). es ++ ((Ticked moment ∷ anew) ++ (taken ++ answered))) acked)
      ∙ places_behind_acks list marks ((Ticked moment ∷ anew) ++ (taken ++ answered))
      ∙ places-append behind (Ticked moment ∷ anew) (taken ++ answered)
      ∙ ap (λ (places : List Place). places_of behind (Ticked moment ∷ anew) ++ places) (places_none (behind ++ (Ticked moment ∷ anew)) (taken ++ answered) others_none)
      ∙ append-nil (places_of behind (Ticked moment ∷ anew))
      ∙ anew_places behind (asks_again config configured_at moment) config documents setup.host moment done.fills.ticked done.fills.configured done.fills.again

-- a tick that isn't sealed may have configured the session
abbrev unsealed_tick : Bool → ℕ → List Entry
unsealed_tick true moment = Ticked moment ∷ Configured [] no_schedule moment ∷ []
unsealed_tick false moment = []

unsealed_once : (again : Bool) (moment : ℕ) → configurations (unsealed_tick again moment) ≤ 1
unsealed_once true moment = omega arith
unsealed_once false moment = omega arith

unsealed_places : (list : List Entry) (again : Bool) (moment : ℕ) → places_of list (unsealed_tick again moment) ≡ again_places again (tick_place list moment)
unsealed_places list true moment = refl
unsealed_places list false moment = refl

unsealed_count : (marks : List ℕ) (again : Bool) (moment : ℕ) → configurations (map Acked marks ++ unsealed_tick again moment) ≤ 1
unsealed_count marks again moment =
    let all = configurations-append (map Acked marks) (unsealed_tick again moment) in
    let none = acks_none marks in
    let once = unsealed_once again moment in
    omega (arith, all, none, once)

-- the places of a list behind which a tick isn't sealed
pub places_unsealed : (start kept next entries : List Entry) (marks : List ℕ) (again : Bool) (moment : ℕ) → kept ≡ start ++ entries → next ≡ kept → ArePlacesBut start next (places_of start entries ++ again_places again (tick_place ((start ++ entries) ++ map Acked marks) moment))
places_unsealed start kept next entries marks again moment is same = (
  entries,
  map Acked marks ++ unsealed_tick again moment,
  same ∙ is,
  unsealed_count marks again moment,
  sym (places-append start entries (map Acked marks ++ unsealed_tick again moment)
      ∙ ap (λ (places : List Place). places_of start entries ++ places) (places_behind_acks (start ++ entries) marks (unsealed_tick again moment) ∙ unsealed_places ((start ++ entries) ++ map Acked marks) again moment)),
)

-- and of one behind which it is
pub places_sealed : (start kept next entries own : List Entry) (more : List Place) → kept ≡ start ++ entries → next ≡ kept ++ own → places_of (start ++ entries) own ≡ more → ArePlacesBut start next (places_of start entries ++ more)
places_sealed start kept next entries own more is grown places = (
  entries ++ own,
  [],
  grown ∙ ap (λ (list : List Entry). list ++ own) is ∙ append_assoc start entries own,
  omega arith,
  sym (ap (places_of start) (append-nil (entries ++ own)) ∙ places-append start entries own ∙ ap (λ (ps : List Place). places_of start entries ++ ps) places),
)

-- of a list that is as it was
pub places_still : (start now : List Entry) → now ≡ start → ArePlacesBut start now []
places_still start now same = ([], [], same ∙ sym (append-nil start), omega arith, refl)

-- of one that has all of them
pub places_now : (start now entries : List Entry) → now ≡ start ++ entries → ArePlacesBut start now (places_of start entries)
places_now start now entries is = (entries, [], is, omega arith, ap (places_of start) (sym (append-nil entries)))

-- what a query that has seen all events sees of a list with these events, floors, tables, batches and schedule
seen : (events : List (ℕ × Event)) (floor : ℕ → ℕ) (sets : ℕ → Option (List (List Value))) (batches : List Batch) (schedule : Schedule) (moment table : ℕ) → List (List Value)
seen events floor sets batches schedule moment table =
    if is_evented_table table then map (λ (event : Live). event.row) (filter (λ event. nat_lt (length events) event.number) (filter (λ event. event.table.0 == table) (filter (is_above floor) (numbered 1 events))))
    else (if is_recorded_table table then unwrap_or (sets table) []
    else (if table == TIME.0 then (Int (pos moment) ∷ []) ∷ []
    else (if table == OSQUERY_SCHEDULE.0 then map (λ (scheduled : Scheduled). Text scheduled.key.name ∷ Text scheduled.key.text ∷ Int (pos scheduled.interval) ∷ Int (pos (length (filter (λ batch. same_key batch.query scheduled.key) batches))) ∷ Int (pos (time_of (filter (λ batch. same_key batch.query scheduled.key) batches))) ∷ []) schedule.queries
    else (if table == OSQUERY_EVENTS.0 then map (λ (counted : ℕ). Text (table_name counted) ∷ Int (pos (length (filter (λ event. event.table.0 == counted) (filter (is_above floor) (numbered 1 events))))) ∷ []) evented_ids else []))))

-- a tick's beginning changes none of it
tables_ticked : (list : List Entry) (begun moment : ℕ) → tables_of (list ++ Ticked begun ∷ []) moment ≡ tables_of list moment
unfolding seen
tables_ticked list begun moment = λ i. seen (events i) (floors i) (sets i) (batches i) (schedules i) moment where
  tick : List Entry
  tick = Ticked begun ∷ []

  events : flat_map events_in (list ++ tick) ≡ flat_map events_in list
  events = flat_map-append events_in list tick ∙ append-nil (flat_map events_in list)

  floors : floor_of (list ++ tick) ≡ floor_of list
  floors = λ i table. last_of-append (floor_in table) 0 list tick i

  sets : table_set (list ++ tick) ≡ table_set list
  sets = λ i table. last_of-append (rows_set table) None list tick i

  batches : commits (list ++ tick) ≡ commits list
  batches = filter_map-append batch_in list tick ∙ append-nil (commits list)

  schedules : schedule_of (list ++ tick) ≡ schedule_of list
  schedules = last_of-append schedule_in no_schedule list tick

-- nor do acknowledgements
tables_acked : (list : List Entry) (marks : List ℕ) (moment : ℕ) → tables_of (list ++ map Acked marks) moment ≡ tables_of list moment
unfolding seen
tables_acked list marks moment = λ i. seen (events_behind list marks i) (floors i) (sets i) (commits_behind list marks i) (schedule_of_behind list marks i) moment where
  floors : floor_of (list ++ map Acked marks) ≡ floor_of list
  floors = λ i table. last_behind (floor_in table) (λ upto. refl) 0 list marks i

  sets : table_set (list ++ map Acked marks) ≡ table_set list
  sets = λ i table. last_behind (rows_set table) (λ upto. refl) None list marks i

-- what discovery finds over the tables of a state is what it finds in a tick that begins behind the list and acknowledgements
pub found_ticked : (given : Given) (list : List Entry) (state : Kept) (marks : List ℕ) (moment : ℕ) → IsState state → HasValues list state → found_now given.config state moment ≡ found_behind given ((list ++ map Acked marks) ++ Ticked moment ∷ []) moment
found_ticked given list state marks moment is has =
    ap (λ (view : View). map (is_found view) given.config.packs) (tables_same list state moment is has ∙ sym (tables_acked list marks moment) ∙ sym (tables_ticked (list ++ map Acked marks) moment moment))
