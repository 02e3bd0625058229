-- What a session tells on the status stream.
use Rattle.std.specs.Prelude.{◌≡◌, ◌⊎◌, ℕ, ◌≤◌, ◌==◌, Bool, true, false, if◌then◌else◌, List, [], ◌∷◌, ◌++◌, length, filter_map, flat_map, option_map, codes}
use Rattle.std.specs.List.{cons_option}
use Rattle.std.specs.Fmt.{decimal}
use Rattle.control_escapes.specs.Escapes.{escaped_controls}
use Rattle.osq_config.specs.declared.config.Config.{Config}
use Rattle.osq_outside.specs.declared.clock.Clock as clock_trait
use Rattle.osq_outside.specs.declared.source.Source as source_trait
use Rattle.pack_rules.specs.declared.host.Host.{Host}
use Rattle.entry_model.specs.declared.entry.Entry.{Entry}
use Rattle.schedule_notes.specs.Notes.{AreNotes}
use Rattle.entry_model.specs.Legal.{Legal}
use Rattle.session_model.specs.Configuring.{configured_in, found_behind}
use Rattle.session_state.specs.Kept.{Kept}
use Rattle.entry_model.specs.declared.restored.Restored.{Restored}
use Rattle.daemon_rounds.specs.Configuring.{found_now}
use Rattle.daemon_rounds.specs.Session.{IsOpen}
use Rattle.daemon_rounds.specs.Ticking.{asks_again}
use Rattle.source_feeds.specs.Feeding.{Feeding}
use Rattle.source_feeds.specs.Stepping.{Counts}
use Rattle.entry_model.specs.Values.{taken_from}
use Rattle.session_model.specs.Given.{Source}
use Rattle.osq_value.specs.declared.reading.Category.{Category}
use Rattle.replay_rounds.specs.Fixed.{Fixed}
use Rattle.replay_rounds.specs.OneTick.{HasOneTick}
use Rattle.replay_rounds.specs.Sources.{AreFed}
use Rattle.replay_rounds.specs.declared.basis.Basis.{Basis}
use Rattle.replay_rounds.specs.declared.refused.RunError.{RunError}
use Rattle.replay_rounds.specs.declared.refused.RunError.TheVariants as run

-- text was written behind what there was
abbrev pub IsGrown : List ℕ → List ℕ → Type 0
IsGrown before after = (text : List ℕ) × (after ≡ before ++ text)

-- lines that tell of a configuration on a host were written; these of its packs are found, and `left_out` are the lines of those that are left out
abbrev pub IsNoted : Config → Host → List Bool → List ℕ → List ℕ → List ℕ → Type 0
IsNoted config host found left_out before after = (lines : List ℕ) × AreNotes config host found left_out lines × (after ≡ before ++ lines)

-- they were written where the session is configured again, and else nothing
abbrev pub IsNotedAgain : Bool → Config → Host → List Bool → List ℕ → List ℕ → List ℕ → Type 0
IsNotedAgain true config host found left_out before after = IsNoted config host found left_out before after
IsNotedAgain false config host found left_out before after = after ≡ before

-- they were written where the tick at this moment, before which the state is this one, begins with a configuration
abbrev pub IsNotedAt : Basis → (configured_at moment : ℕ) → Kept → List ℕ → List ℕ → Type 0
IsNotedAt basis configured_at moment state before after =
    IsNotedAgain (asks_again basis.configured.config configured_at moment) basis.configured.config basis.setup.host (found_now basis.configured.config state moment) basis.configured.notes before after

-- where a session is configured: the list before it, and the moment
pub record Place : Type 0 where
  pub list : List Entry
  pub moment : ℕ

-- the places at which these entries, behind a list, configure a session
abbrev pub places_of : List Entry → List Entry → List Place
places_of list [] = []
places_of list (entry ∷ entries) =
    cons_option (option_map (λ (moment : ℕ). record { list = list; moment = moment }) (configured_in entry)) (places_of (list ++ entry ∷ []) entries)

-- the notes of the configuration at this place: by the packs that its discovery found there
abbrev pub AreNotesAt : Fixed → List ℕ → Place → List ℕ → Type 0
AreNotesAt x left_out place lines =
    (found : List Bool) × AreNotes x.given.config x.given.host found left_out lines × (x.keeper_tells → Legal x.start → found ≡ found_behind x.given place.list place.moment)

-- those of each place, one after another
abbrev pub AreAllNotes : Fixed → List ℕ → List Place → List ℕ → Type 0
AreAllNotes x left_out [] lines = lines ≡ []
AreAllNotes x left_out (place ∷ places) lines = (first others : List ℕ) × AreNotesAt x left_out place first × AreAllNotes x left_out places others × (lines ≡ first ++ others)

-- a session told of its configurations at these places
abbrev pub HasNoted : Fixed → List ℕ → List Place → List ℕ → List ℕ → Type 0
HasNoted x left_out places before after = (lines : List ℕ) × AreAllNotes x left_out places lines × (after ≡ before ++ lines)

-- how often these entries configure a session
abbrev pub configurations : List Entry → ℕ
configurations entries = length (filter_map configured_in entries)

abbrev pub skipped_end : ℕ → List ℕ
skipped_end count = codes " skipped " ++ decimal count ++ codes " lines\n"

-- `osqd: source NAME skipped N lines`, a line that no byte of the name ends
abbrev pub skipped_of : List ℕ → ℕ → List ℕ
skipped_of name count = codes "osqd: source " ++ escaped_controls name ++ skipped_end count

-- no line where none was skipped
abbrev pub skipped_line : Feeding → List ℕ
skipped_line feed = if feed.skipped == 0 then [] else skipped_of feed.name feed.skipped

abbrev pub skipped_lines : List Feeding → List ℕ
skipped_lines feeds = flat_map skipped_line feeds

-- these are the places at which a list that has grown behind another one configured the session
abbrev pub ArePlaces : List Entry → List Entry → List Place → Type 0
ArePlaces start now places = (entries : List Entry) × (now ≡ start ++ entries) × (places ≡ places_of start entries)

-- It told of each configuration by which the kept list has grown, where the keeper tells it; and at its end of the lines that each source's feed
-- skipped. What they are is told of the feeds: each read the bytes up to where the list now has its source, and counts the lines that it skipped.
pub record HasTold (x : Fixed) (now : List Entry) (left_out before after : List ℕ) : Type 0 where
  pub places : List Place
  pub configured : x.keeper_tells → ArePlaces x.start now places
  pub between : List ℕ
  pub noted : HasNoted x left_out places before between
  pub feeds : List Feeding
  pub rests : List (List ℕ)
  pub fed : x.keeper_tells → AreFed x.source_tells (λ (bytes : List ℕ). bytes) x.given.config.categories x.start now x.given.sources feeds rests
  pub skipped : after ≡ between ++ skipped_lines feeds

-- the lines that tell what these feeds skipped were written; or none, where memory was wanting for them
abbrev pub TellsSkipped : List Feeding → List ℕ → List ℕ → Type 0
TellsSkipped feeds before after = (after ≡ before) ⊎ (after ≡ before ++ skipped_lines feeds)

-- the feed of a source counts the lines that were skipped in the session up to some place, which isn't before where this list has the source
pub record HasCounted (tells : Type 0) (paths : List Category) (start now : List Entry) (source : Source) (feed : Feeding) : Type 0 where
  pub name : feed.name ≡ source.name
  pub kind : feed.kind ≡ source.kind
  pub counts : Counts tells source.bytes paths (taken_from start source.name) (taken_from now source.name) feed

-- each source has its feed
abbrev pub HaveCounted : Type 0 → List Category → List Entry → List Entry → List Source → List Feeding → Type 0
HaveCounted tells paths start now [] [] = Unit {0}
HaveCounted tells paths start now (source ∷ sources) (feed ∷ feeds) = HasCounted tells paths start now source feed × HaveCounted tells paths start now sources feeds
HaveCounted tells paths start now _ _ = ⊥

-- The feeds of a session that ended early count at least up to where the list has their sources before its last tick.
pub record CountsTo (x : Fixed) (now : List Entry) (feeds : List Feeding) : Type 0 where
  pub front : List Entry
  pub kept_are : x.keeper_tells → (rest : List Entry) × HasOneTick rest × (now ≡ x.start ++ (front ++ rest))
  pub counted : x.keeper_tells → HaveCounted x.source_tells x.given.config.categories x.start (x.start ++ front) x.given.sources feeds

-- The same of a list behind which entries stood that aren't kept, as they were not sealed: at most one of them configures the session.
abbrev pub ArePlacesBut : List Entry → List Entry → List Place → Type 0
ArePlacesBut start now places =
    (entries unsealed : List Entry) × (now ≡ start ++ entries) × (configurations unsealed ≤ 1) × (places ≡ places_of start (entries ++ unsealed))

-- The same of a session that ended early: of its last configuration it told before the tick was sealed. Of the lines that were skipped it told as far
-- as its feeds counted them, or of none: before it was open, and where memory was wanting.
pub record HasToldSome (x : Fixed) (now : List Entry) (left_out before after : List ℕ) : Type 0 where
  pub places : List Place
  pub configured : x.keeper_tells → ArePlacesBut x.start now places
  pub between : List ℕ
  pub noted : HasNoted x left_out places before between
  pub skipped : (after ≡ between) ⊎ ((feeds : List Feeding) × CountsTo x now feeds × (after ≡ between ++ skipped_lines feeds))

-- Why a step between ticks is refused: by the moment that the clock gave, by a fault of the status stream, or for want of memory.
abbrev pub IsBetween : (late : ℕ → Type 0) (sink : Type 0) → RunError → Type 0
IsBetween late sink run.KeeperFault = ⊥
IsBetween late sink run.KeeperRefused = ⊥
IsBetween late sink (run.MomentTooLarge moment) = late moment
IsBetween late sink (run.SourceFault place) = ⊥
IsBetween late sink (run.SourceShrank place kept found) = ⊥
IsBetween late sink run.NumbersSpent = ⊥
IsBetween late sink run.SinkFault = sink
IsBetween late sink run.NoMemory = Unit {0}

-- the session of these opened
abbrev pub IsOpenBy : {S C : Type 0} → source_trait.Ghosts S → clock_trait.Ghosts C → (basis : Basis) (restored : Restored) (first last : C) (sources rests : List S) (moment : ℕ) (feeds : List Feeding) (state : Kept) → Type 0
IsOpenBy source clock basis restored first last sources rests moment feeds state =
    IsOpen source.tells source.left source.faults clock.reads basis.setup basis.configured.config basis.configured.documents restored first last sources rests moment feeds state

-- nothing was written, or what the feeds of a session skipped that opened
abbrev pub TellsOpened : {S C : Type 0} → source_trait.Ghosts S → clock_trait.Ghosts C → (basis : Basis) (restored : Restored) (first last : C) (sources rests : List S) (before after : List ℕ) → Type 0
TellsOpened source clock basis restored first last sources rests before after =
    (after ≡ before)
    ⊎ ((moment : ℕ) × (feeds : List Feeding) × (state : Kept) × IsOpenBy source clock basis restored first last sources rests moment feeds state × (after ≡ before ++ skipped_lines feeds))
