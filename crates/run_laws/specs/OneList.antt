-- The law of one list.
use Rattle.std.specs.Prelude.{◌≡◌, ℕ, ◌+◌, ◌*◌, ◌≤◌, All, List, [], ◌∷◌, length}
use Rattle.osq_value.specs.declared.source.SourceKind.TheVariants.{Changes}
use Rattle.serde_json.specs.Data.{Data}
use Rattle.osq_config.specs.declared.config.Config.{Config}
use Rattle.osq_config.specs.Documents.{HasValue}
use Rattle.osq_config.specs.Files.{files_of}
use Rattle.osq_config.specs.Values.{config_of}
use Rattle.config_files.specs.Configurations.{IsConfigOf}
use Rattle.record_lines.specs.Lines.{lines_of}
use Rattle.generated_changes.specs.Generated as load
use Rattle.record_lines.specs.Limits.{STEP_BYTES}
use Rattle.entry_model.specs.declared.entry.Entry.{Entry}
use Rattle.session_model.specs.Given.{Given, Source}
use Rattle.session_model.specs.Orders.{in_turn}
use Rattle.session_model.specs.Sessions.{Beat, IsSession}
use Rattle.session_model.specs.Taking.{GivesStep}

-- behind one list two steps of the source add the same
abbrev pub GivesOne : Type 0 → Given → Source → Type 0
GivesOne tells given source =
    (kept one other : List Entry) → GivesStep tells given kept source one → GivesStep tells given kept source other → one ≡ other

-- Then two sessions of one thread that are given the same, behind the same list and at the same beats, add the same entries: what they answer, what
-- expires, how they are configured and what is acknowledged is settled by the list before it and by the answers that were polled.
abbrev pub SameEntries : Type 0 → Type 0
SameEntries tells =
    (given : Given) (kept : List Entry) (first : Beat) (beats : List Beat) (one other : List Entry) → All (GivesOne tells given) given.sources
    → IsSession in_turn tells given kept first beats one → IsSession in_turn tells given kept first beats other → one ≡ other

-- Each line has at most so many bytes, and so many records of such lines, each with its line feed, have no more than a step reads: each step is
-- full by its records, or takes all lines.
pub record HasShortLines (records : ℕ) (bytes : List ℕ) : Type 0 where
  pub most : ℕ
  pub fit : records * (most + 1) ≤ STEP_BYTES
  pub short : All (λ (line : List ℕ). length line ≤ most) (lines_of bytes)

-- a source of changes that tells its bytes gives one step behind each list, where its lines are short
abbrev pub LinesGiveOne : Type 0 → Type 0
LinesGiveOne tells = (given : Given) (source : Source) → tells → source.kind ≡ Changes → HasShortLines given.records source.bytes → GivesOne tells given source

-- So a session that is given a load as its one source, by steps of a hundred records, adds one list.
abbrev pub SameLoads : Type 0 → Type 0
SameLoads tells =
    (given : Given) (kept : List Entry) (first : Beat) (beats : List Beat) (one other : List Entry) (name : List ℕ) (from count : ℕ) → tells
    → given.sources ≡ (record { name = name; kind = Changes; bytes = load.lines_of from count }) ∷ [] → given.records ≡ 100 → count ≤ 1000000
    → IsSession in_turn tells given kept first beats one → IsSession in_turn tells given kept first beats other → one ≡ other

-- no pack of the document stands in a file of its own
abbrev pub StandsAlone : List ℕ → Type 0
StandsAlone document = (value : Data) → HasValue document value → files_of (config_of value).packs ≡ []

-- Such a document has one configuration, and no other document belongs to it.
abbrev pub OneConfiguration : Type 0
OneConfiguration =
    (document : List ℕ) (one other : List (List ℕ)) (config next : Config) (notes lines : List ℕ) → StandsAlone document
    → (x : IsConfigOf one config notes) (y : IsConfigOf other next lines) → x.document ≡ document → y.document ≡ document → (one ≡ other) × (config ≡ next)
