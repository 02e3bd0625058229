-- The commands: the options of each, and what it is asked by them.
use Rattle.std.specs.Prelude.{ℕ, ◌++◌, ◌&&◌, ◌||◌, not, Bool, true, false, bytes_eq, codes, count_by, filter, if◌then◌else◌, map, nat_le, List, [], ◌∷◌, length, Option, None, Some, is_some, option_and_then, unwrap_or}
use Rattle.std.specs.Bool.{beq}
use Rattle.std.specs.List.{list_all, list_any}
use Rattle.std.specs.Option.{option_map, option_map_or}
use Rattle.program_words.specs.declared.name.Name.{Name}
use Rattle.program_words.specs.declared.name.Name.TheVariants.{Config, Host, Platform, Agent, Text, Audit, Changes, Tables, Start, Step, Ticks, Records, Explain, Frames, Ledger, Store, From, Count, Workers, FramesOut, AnswersIn}
use Rattle.program_words.specs.declared.command.CommandName.{CommandName}
use Rattle.program_words.specs.declared.command.CommandName.TheVariants.{Replay as ReplayName, Daemon as DaemonName, Query as QueryName, Check as CheckName, Collect as CollectName, Generate as GenerateName, SelfTest as SelfTestName, Report as ReportName, Fleet as FleetName}
use Rattle.program_words.specs.declared.command.CommandWords.{CommandWords}
use Rattle.program_words.specs.declared.command.CommandWords.TheVariants.{Replay, Daemon, Query, Check, Collect, Generate, SelfTest, Report, Fleet}
use Rattle.program_words.specs.declared.command.LinkPaths.{LinkPaths}
use Rattle.program_words.specs.declared.command.ReplayWords.{ReplayWords}
use Rattle.program_words.specs.declared.command.DaemonWords.{DaemonWords}
use Rattle.program_words.specs.declared.command.QueryWords.{QueryWords}
use Rattle.program_words.specs.declared.command.CheckWords.{CheckWords}
use Rattle.program_words.specs.declared.command.CollectWords.{CollectWords}
use Rattle.program_words.specs.declared.command.FleetWords.{FleetWords}
use Rattle.program_words.specs.declared.command.GenerateWords.{GenerateWords}
use Rattle.program_words.specs.declared.command.ReportWords.{ReportWords}
use Rattle.program_words.specs.declared.command.Paths.{Paths}
use Rattle.osq_value.specs.declared.source.SourceKind.{SourceKind}
use Rattle.osq_value.specs.declared.source.SourceKind.TheVariants.{Audit as AuditLog, Changes as ChangeList, Tables as TableLines}
use Rattle.osq_value.specs.declared.source.SourceName.{SourceName}
use Rattle.program_words.specs.Names.{is_source, same_name, takes}
use Rattle.program_words.specs.Given.{Given, fits, is_named, none_repeats, number_of, number_or, options_of, stands, value_of, value_or}

-- the commands and their words
unfoldable pub command_named : List ℕ → Option CommandName
command_named word =
    if bytes_eq word (codes "replay") then Some ReplayName
    else (if bytes_eq word (codes "daemon") then Some DaemonName
    else (if bytes_eq word (codes "query") then Some QueryName
    else (if bytes_eq word (codes "check") then Some CheckName
    else (if bytes_eq word (codes "collect") then Some CollectName
    else (if bytes_eq word (codes "generate") then Some GenerateName
    else (if bytes_eq word (codes "selftest") then Some SelfTestName
    else (if bytes_eq word (codes "report") then Some ReportName
    else (if bytes_eq word (codes "fleet") then Some FleetName
    else None))))))))

-- the options that a command must have
unfoldable pub required : CommandName → List Name
required ReplayName = Config ∷ Host ∷ []
required DaemonName = Config ∷ Host ∷ []
required QueryName = Text ∷ []
required CheckName = Config ∷ Host ∷ []
required CollectName = Frames ∷ Ledger ∷ []
required GenerateName = From ∷ Count ∷ []
required SelfTestName = From ∷ Count ∷ []
required ReportName = Store ∷ []
required FleetName = Ledger ∷ Host ∷ Text ∷ []

-- those that it may have
unfoldable pub optional : CommandName → List Name
optional ReplayName =
    Platform ∷ Agent ∷ Audit ∷ Changes ∷ Tables ∷ Store ∷ Start ∷ Step ∷ Ticks ∷ Records ∷ FramesOut ∷ AnswersIn ∷ []
optional DaemonName =
    Platform ∷ Agent ∷ Audit ∷ Changes ∷ Tables ∷ Store ∷ Start ∷ Step ∷ Ticks ∷ Records ∷ FramesOut ∷ AnswersIn ∷ Workers
    ∷ []
optional QueryName = Config ∷ Audit ∷ Changes ∷ Tables ∷ Store ∷ Start ∷ Step ∷ Ticks ∷ Records ∷ Explain ∷ []
optional CheckName = Platform ∷ Agent ∷ []
optional CollectName = Ticks ∷ []
optional GenerateName = []
optional SelfTestName = []
optional ReportName = []
optional FleetName = []

abbrev pub is_one_of : List Name → Name → Bool
is_one_of names name = list_any (same_name name) names

-- a command has an option of this name
unfoldable pub has_option : CommandName → Name → Bool
has_option command name = is_one_of (required command) name || is_one_of (optional command) name

-- an option that the command has, with a value that it takes
unfoldable pub is_right : CommandName → Given → Bool
is_right command g = has_option command g.name && fits (takes g.name) g.value

-- each option that the command must have stands among them
unfoldable pub has_required : CommandName → List Given → Bool
has_required command gs = list_all (λ name. stands name gs) (required command)

-- there are at most a thousand sources
unfoldable pub has_few_sources : List Given → Bool
has_few_sources gs = nat_le (count_by (λ g. is_source g.name) gs) 1000

-- a link has both of its paths, or there is none
unfoldable pub has_whole_link : List Given → Bool
has_whole_link gs = beq (stands FramesOut gs) (stands AnswersIn gs)

-- the options are those of a run of the command
unfoldable pub are_options : CommandName → List Given → Bool
are_options command gs =
    list_all (is_right command) gs && has_required command gs && has_few_sources gs && none_repeats gs
    && (stands Start gs || not (stands Step gs)) && has_whole_link gs

-- the sources of one kind, in the order of the words
unfoldable pub sources_named : Name → SourceKind → List Given → List SourceName
sources_named name kind gs = map (λ g. record { kind = kind; name = unwrap_or g.value [] }) (filter (is_named name) gs)

-- audit logs, then lists of changes, then table lines
unfoldable pub sources_of : List Given → List SourceName
sources_of gs = sources_named Audit AuditLog gs ++ sources_named Changes ChangeList gs ++ sources_named Tables TableLines gs

abbrev pub default_platform : List ℕ
default_platform = codes "linux"

abbrev pub default_agent : List ℕ
default_agent = codes "5.10.0"

-- the files that stand for a link, where both are named
abbrev pub link_by : Option (List ℕ) → Option (List ℕ) → Option LinkPaths
link_by None answers = None
link_by (Some frames) None = None
link_by (Some frames) (Some answers) = Some (record { frames = frames; answers = answers })

unfoldable pub link_of : List Given → Option LinkPaths
link_of gs = link_by (value_of FramesOut gs) (value_of AnswersIn gs)

-- what the options of each command ask for; one that the command must have is there, so the empty text in its place never counts
unfoldable pub replay_of : List Given → ReplayWords
replay_of gs = record {
  config = value_or [] Config gs;
  host = value_or [] Host gs;
  platform = value_or default_platform Platform gs;
  agent = value_or default_agent Agent gs;
  sources = sources_of gs;
  store = value_of Store gs;
  start = number_of Start gs;
  step = number_or 60 Step gs;
  ticks = number_or 60 Ticks gs;
  records = number_or 10000 Records gs;
  link = link_of gs;
}

unfoldable pub daemon_of : List Given → DaemonWords
daemon_of gs = record { run = replay_of gs; workers = number_or 4 Workers gs }

unfoldable pub query_of : List Given → QueryWords
query_of gs = record {
  text = value_or [] Text gs;
  config = value_of Config gs;
  sources = sources_of gs;
  store = value_of Store gs;
  start = number_of Start gs;
  step = number_or 60 Step gs;
  ticks = number_or 1000000 Ticks gs;
  records = number_or 10000 Records gs;
  explain = stands Explain gs;
}

unfoldable pub check_of : List Given → CheckWords
check_of gs = record {
  config = value_or [] Config gs;
  host = value_or [] Host gs;
  platform = value_or default_platform Platform gs;
  agent = value_or default_agent Agent gs;
}

-- the stream of frames is the one source
unfoldable pub collect_of : List Given → CollectWords
collect_of gs = record {
  sources = (record { kind = ChangeList; name = value_or [] Frames gs }) ∷ [];
  ledger = value_or [] Ledger gs;
  ticks = number_or 1000000 Ticks gs;
}

unfoldable pub generate_of : List Given → GenerateWords
generate_of gs = record { from = number_or 0 From gs; count = number_or 1 Count gs }

unfoldable pub report_of : List Given → ReportWords
report_of gs = record { store = value_or [] Store gs }

unfoldable pub fleet_of : List Given → FleetWords
fleet_of gs = record { ledger = value_or [] Ledger gs; host = value_or [] Host gs; text = value_or [] Text gs }

abbrev pub asked_by : CommandName → List Given → CommandWords
asked_by ReplayName gs = Replay (replay_of gs)
asked_by DaemonName gs = Daemon (daemon_of gs)
asked_by QueryName gs = Query (query_of gs)
asked_by CheckName gs = Check (check_of gs)
asked_by CollectName gs = Collect (collect_of gs)
asked_by GenerateName gs = Generate (generate_of gs)
asked_by SelfTestName gs = SelfTest (generate_of gs)
asked_by ReportName gs = Report (report_of gs)
asked_by FleetName gs = Fleet (fleet_of gs)

abbrev pub command_with : List Given → CommandName → Option CommandWords
command_with gs command = if are_options command gs then Some (asked_by command gs) else None

-- the words that are refused wherever they stand
unfoldable pub refused : List (List ℕ)
refused = codes "--" ∷ codes "--help" ∷ codes "-h" ∷ codes "--version" ∷ codes "-V" ∷ []

unfoldable pub is_refused : List ℕ → Bool
is_refused word = list_any (λ other. bytes_eq word other) refused

unfoldable pub has_refused : List (List ℕ) → Bool
has_refused words = list_any is_refused words

-- what the words ask for, if they are those of a command: its word, and then its options
unfoldable pub words_of : List (List ℕ) → Option CommandWords
words_of [] = None
words_of (word ∷ words) =
    if has_refused (word ∷ words) then None else option_and_then (command_with (options_of words)) (command_named word)

-- the command is a session by threads
abbrev pub by_threads : CommandWords → Bool
by_threads (Daemon words) = true
by_threads _ = false

-- the words begin with the word of a session by threads
abbrev pub is_by_threads : List (List ℕ) → Bool
is_by_threads [] = false
is_by_threads (word ∷ words) = bytes_eq word (codes "daemon")

-- the words are those of such a command
abbrev pub are_by_threads : List (List ℕ) → Bool
are_by_threads words = option_map_or by_threads (words_of words) false

-- a session that forwards what it seals
abbrev pub forwards : ReplayWords → Bool
forwards words = is_some words.link

-- a command that reads no source
abbrev pub unsourced : Option (List ℕ) → Paths
unsourced store = record { sources = []; store = store; start = None; step = 60; ledger = None; link = None }

-- a session, in whatever order its ticks are taken
abbrev pub session_paths : ReplayWords → Paths
session_paths words = record {
  sources = words.sources;
  store = words.store;
  start = words.start;
  step = words.step;
  ledger = None;
  link = words.link;
}

-- the sources that a command names, with the moments of its clock, the store that it keeps in, the file that it adds to, and its link;
-- a ledger that is only asked is no such file
abbrev pub paths_in : CommandWords → Paths
paths_in (Replay words) = session_paths words
paths_in (Daemon words) = session_paths words.run
paths_in (Query words) = record {
  sources = words.sources;
  store = words.store;
  start = words.start;
  step = words.step;
  ledger = None;
  link = None;
}
paths_in (Check words) = unsourced None
paths_in (Collect words) = record { sources = words.sources; store = None; start = None; step = 60; ledger = Some words.ledger; link = None }
paths_in (Generate words) = unsourced None
paths_in (SelfTest words) = unsourced None
paths_in (Report words) = unsourced (Some words.store)
paths_in (Fleet words) = unsourced None

abbrev pub paths_of : List (List ℕ) → Option Paths
paths_of words = option_map paths_in (words_of words)

-- how many sources a command names
abbrev pub sources_in : CommandWords → ℕ
sources_in command = length (paths_in command).sources
