-- A session opens.
use Rattle.std.specs.Prelude.{◌≡◌, ℕ, ◌+◌, Bool, false, List, [], ◌∷◌, ◌++◌, length, map}
use Rattle.osq_config.specs.declared.config.Config.{Config}
use Rattle.pack_rules.specs.declared.host.Host.{Host}
use Rattle.pack_rules.specs.declared.schedule.Schedule.{Schedule}
use Rattle.query_answers.specs.Discovery.{is_found}
use Rattle.source_feeds.specs.Feeding.{Feeding}
use Rattle.entry_model.specs.declared.entry.Entry.{Entry}
use Rattle.entry_model.specs.declared.entry.Entry.TheVariants.{Opened, Configured}
use Rattle.entry_model.specs.declared.restored.Restored.{Restored}
use Rattle.entry_model.specs.Legal.{Legal}
use Rattle.entry_model.specs.Summary.{summary}
use Rattle.session_state.specs.Kept.{Kept}
use Rattle.session_state.specs.StateOf.{Begins, IsStateOf}
use Rattle.daemon_rounds.specs.Telling.{AreTellable}
use Rattle.daemon_rounds.specs.Turns.{Turn}
use Rattle.daemon_rounds.specs.Rounding.{Overflows, Rounds, round_entries}
use Rattle.daemon_rounds.specs.Configuring.{Configures, tables_of}
use Rattle.daemon_rounds.specs.declared.turning.Which.TheVariants as which

-- the entries of an opening: Opened, the entries of what each source of tables gave in one step, source by source, and one Configured
abbrev pub opening_entries : {S : Type 0} → Restored → List (Turn S) → List (List ℕ) → Schedule → ℕ → List Entry
opening_entries restored turns documents schedule moment =
    Opened (restored.sessions + 1) 2 ∷ round_entries restored.moment turns ++ Configured documents schedule moment ∷ []

-- the state stands for these entries alone, none of which is sealed, and no tick has begun
pub record IsOpened (restored : Restored) (entries : List Entry) (state : Kept) : Type 0 where
  pub stands : IsStateOf restored entries state
  pub tail : state.tail ≡ entries
  pub tellable : AreTellable entries
  pub unticked : state.ticked ≡ false

-- A session opens over these values: it begins, each source of tables takes one step, and then the session is configured. Its entries are those.
pub record Opens {S : Type 0} (tells : Type 0) (left : S → List ℕ) (faults : S → ℕ) (most : ℕ) (restored : Restored) (config : Config) (documents : List (List ℕ)) (host : Host) (moment : ℕ) (feeds nexts : List Feeding) (sources rests : List S) (state : Kept) : Type 0 where
  pub begun : Kept
  pub filled : Kept
  pub begins : Begins restored begun
  pub tables : Rounds tells left faults which.Tables most feeds nexts sources rests begun filled
  pub configures : Configures config documents host moment filled state
  pub opened : IsOpened restored (opening_entries restored tables.turns documents configures.schedule moment) state

-- one step of a source of tables gave too much
pub record OpensTooMuch {S : Type 0} (tells : Type 0) (left : S → List ℕ) (faults : S → ℕ) (most : ℕ) (restored : Restored) (feeds nexts : List Feeding) (sources rests : List S) : Type 0 where
  pub begun : Kept
  pub last : Kept
  pub begins : Begins restored begun
  pub overflows : Overflows tells left faults which.Tables most feeds nexts sources rests begun last

-- These packs are meant for the host: for each list with these values those that are found in its tables at this moment, directly before the session is
-- configured. The state's tail ends with that configuration.
pub record IsFoundBy (restored : Restored) (config : Config) (moment : ℕ) (state : Kept) (found : List Bool) : Type 0 where
  pub size : length found ≡ length config.packs
  pub of_list : (before front : List Entry) (last : Entry) → Legal before → summary before ≡ restored → state.tail ≡ front ++ last ∷ [] → found ≡ map (is_found (tables_of (before ++ front) moment)) config.packs
