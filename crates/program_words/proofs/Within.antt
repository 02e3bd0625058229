-- What options ask for lies within the bounds of their names.
use Rattle.std.proofs.Common.{◌≡◌, ℕ, ◌+◌, ◌-◌, ◌≤◌, ◌<◌, ◌^◌, ◌&&◌, ◌||◌, not, Bool, true, false, cond, nat_le, length, List, [], ◌∷◌, ◌++◌, Option, Some, None, refl, sym, ◌∙◌, arith, unwrap_or, subst}
use Rattle.std.specs.Prelude.{IfSome, count_by, filter, option_and_then}
use Rattle.std.specs.List.{find, list_all, list_any}
use Rattle.std.proofs.lemmas.Bool.Decides.{nat_tests}
use Rattle.std.proofs.lemmas.Option.{cond_some}
use Rattle.std.proofs.lemmas.List.{length-append, length-map}
use Rattle.std.proofs.lemmas.List.Sums.{length-filter, sum_by-cons}
use Rattle.program_words.specs.declared.name.Name.{Name}
use Rattle.program_words.specs.declared.name.Name.TheVariants.{Config, Host, Platform, Agent, Text, Audit, Changes, Tables, Start, Step, Ticks, Records, Explain, Frames, Ledger, Store, From, Count, Workers, FramesOut, AnswersIn, Other}
use Rattle.program_words.specs.declared.name.Takes.{Takes}
use Rattle.program_words.specs.declared.name.Takes.TheVariants.{Number}
use Rattle.program_words.specs.declared.command.CommandName.{CommandName}
use Rattle.program_words.specs.declared.command.CommandName.TheVariants.{Replay, Daemon, Query, Check, Collect, Generate, SelfTest, Report, Fleet}
use Rattle.program_words.specs.declared.command.CommandWords.{CommandWords}
use Rattle.program_words.specs.declared.command.CommandWords.TheVariants.{Replay as AsReplay, Daemon as AsDaemon, Query as AsQuery, Check as AsCheck, Collect as AsCollect, Generate as AsGenerate, SelfTest as AsSelfTest, Report as AsReport, Fleet as AsFleet}
use Rattle.osq_value.specs.declared.source.SourceKind.{SourceKind}
use Rattle.osq_value.specs.declared.source.SourceKind.TheVariants.{Audit as AuditLog, Changes as ChangeList, Tables as TableLines}
use Rattle.osq_value.specs.Spelling.{value_of as digits_value}
use Rattle.program_words.specs.Texts.{is_number, is_text, number_in}
use Rattle.program_words.specs.Names.{is_source, place, same_name, takes}
use Rattle.program_words.specs.Given.{Given, fits, is_named, none_repeats, options_of, number_of, number_or, number_taken, stands, value_of, value_or}
use Rattle.program_words.specs.Commands.{are_options, asked_by, check_of, collect_of, daemon_of, fleet_of, command_named, command_with, has_few_sources, has_option, has_refused, generate_of, has_required, is_right, paths_in, query_of, replay_of, required, sources_named, sources_of, unsourced, words_of}
use Rattle.program_words.proofs.Sources.{sources_own}
use Rattle.program_words.proofs.Conditions.{first, second}
use Rattle.program_words.specs.Bounds.{ArePathsBounded, ClockBounds, GenerateBounds, HostBounds, IsBounded, RunBounds, SessionBounds}

abbrev Between : ℕ → ℕ → ℕ → Type 0
Between least most n = (least ≤ n) × (n ≤ most)

some_between : (t l m : Bool) (least most n : ℕ) → (l ≡ true → least ≤ n) → (m ≡ true → n ≤ most) → IfSome (cond (t && l && m) (Some n) None) (Between least most)
some_between true true true least most n low high = (low refl, high refl)
some_between true true false least most n low high = tt
some_between true false m least most n low high = tt
some_between false l m least most n low high = tt

number_in-between : (least most : ℕ) (text : List ℕ) → IfSome (number_in least most text) (Between least most)
unfolding number_in
number_in-between least most text =
    some_between (is_number text) (nat_le least (digits_value text)) (nat_le (digits_value text) most) least most (digits_value text) (λ e. grind (arith, nat_tests)) (λ e. grind (arith, nat_tests))

taken-between : (value : Option (List ℕ)) (kind : Takes) (least most : ℕ) → kind ≡ Number least most → IfSome (option_and_then (number_taken kind) value) (Between least most)
taken-between None kind least most is = tt
taken-between (Some text) kind least most is =
    subst (λ k. IfSome (number_taken k text) (Between least most)) (sym is) (number_in-between least most text)

number_of-between : (name : Name) (gs : List Given) (least most : ℕ) → takes name ≡ Number least most → IfSome (number_of name gs) (Between least most)
unfolding number_of
number_of-between name gs least most is = taken-between (value_of name gs) (takes name) least most is

or_between : (number : Option ℕ) (default least most : ℕ) → Between least most default → IfSome number (Between least most) → Between least most (unwrap_or number default)
or_between None default least most within some = within
or_between (Some n) default least most within some = some

number_or-between : (default : ℕ) (name : Name) (gs : List Given) (least most : ℕ) → takes name ≡ Number least most → Between least most default → Between least most (number_or default name gs)
unfolding number_or
number_or-between default name gs least most is within =
    or_between (number_of name gs) default least most within (number_of-between name gs least most is)

start_below : (number : Option ℕ) → IfSome number (Between 0 (2 ^ 63 - 1)) → IfSome number (λ n. n < 2 ^ 63)
start_below None some = tt
start_below (Some n) some = omega arith

clock_within : (gs : List Given) → ClockBounds (number_of Start gs) (number_or 60 Step gs)
unfolding takes
clock_within gs = record {
  start_in = start_below (number_of Start gs) (number_of-between Start gs 0 (2 ^ 63 - 1) refl);
  step_in = (number_or-between 60 Step gs 0 604800 refl (omega arith, omega arith)).1;
}

-- each source is of one kind
kind_once : (name : Name) → cond (same_name Audit name) 1 0 + cond (same_name Changes name) 1 0 + cond (same_name Tables name) 1 0 ≡ cond (is_source name) 1 0
unfolding place is_source
kind_once Config = refl
kind_once Host = refl
kind_once Platform = refl
kind_once Agent = refl
kind_once Text = refl
kind_once Audit = refl
kind_once Changes = refl
kind_once Tables = refl
kind_once Start = refl
kind_once Step = refl
kind_once Ticks = refl
kind_once Records = refl
kind_once Explain = refl
kind_once Frames = refl
kind_once Ledger = refl
kind_once Store = refl
kind_once From = refl
kind_once Count = refl
kind_once Workers = refl
kind_once FramesOut = refl
kind_once AnswersIn = refl
kind_once Other = refl

abbrev of_name : Name → Given → ℕ
of_name name g = cond (is_named name g) 1 0

counts : (gs : List Given) → count_by (is_named Audit) gs + count_by (is_named Changes) gs + count_by (is_named Tables) gs ≡ count_by (λ g. is_source g.name) gs
unfolding is_named
counts [] = refl
counts (g ∷ gs) =
    let source : Given → ℕ = λ o. cond (is_source o.name) 1 0 in
    omega (arith, sum_by-cons (of_name Audit) g gs, sum_by-cons (of_name Changes) g gs, sum_by-cons (of_name Tables) g gs, sum_by-cons source g gs, kind_once g.name, counts gs)

length-sources_named : (name : Name) (kind : SourceKind) (gs : List Given) → length (sources_named name kind gs) ≡ count_by (is_named name) gs
unfolding sources_named
length-sources_named name kind gs = length-map (filter (is_named name) gs) _ ∙ length-filter (is_named name) gs

length-sources_of : (gs : List Given) → length (sources_of gs) ≡ count_by (λ g. is_source g.name) gs
unfolding sources_of
length-sources_of gs =
    let audit = length-sources_named Audit AuditLog gs in
    let changes = length-sources_named Changes ChangeList gs in
    let tables = length-sources_named Tables TableLines gs in
    let front = length-append (sources_named Audit AuditLog gs) (sources_named Changes ChangeList gs) in
    let all = length-append (sources_named Audit AuditLog gs ++ sources_named Changes ChangeList gs) (sources_named Tables TableLines gs) in
    omega (arith, counts gs)

pub sources_counted : (gs : List Given) → length (sources_of gs) ≡ count_by (λ g. is_source g.name) gs
sources_counted gs = length-sources_of gs

sources_within : (gs : List Given) → has_few_sources gs ≡ true → length (sources_of gs) ≤ 1000
unfolding has_few_sources
sources_within gs few =
    let all = length-sources_of gs in
    grind (arith, nat_tests)

abbrev Found : (Given → Bool) → (Given → Bool) → Option Given → Type 0
Found p q found = (g : Given) × (found ≡ Some g) × (p g ≡ true) × (q g ≡ true)

found_at : (p q : Given → Bool) (g : Given) (here any : Bool) (found : Option Given) → q g ≡ here → p g ≡ true → here || any ≡ true → (any ≡ true → Found p q found) → Found p q (cond here (Some g) found)
found_at p q g true any found is right some rest = (g, refl, right, is)
found_at p q g false any found is right some rest = rest some

-- the first option that passes a test, where all pass another
found_right : (p q : Given → Bool) (gs : List Given) → list_all p gs ≡ true → list_any q gs ≡ true → Found p q (find q gs)
found_right p q [] all any = absurd cc
found_right p q (g ∷ gs) all any =
    found_at p q g (q g) (list_any q gs) (find q gs) refl (first (p g) _ all) any (found_right p q gs (second (p g) _ all))

host_text : (text : List ℕ) → is_text text && nat_le (length text) 255 ≡ true → HostBounds text
host_text [] fine = absurd cc
host_text (b ∷ bs) fine =
    let few = second (is_text (b ∷ bs)) _ fine in
    record { some_bytes = omega arith; bytes_in = grind (arith, nat_tests) }

host_fits : (name : Name) (value : Option (List ℕ)) → same_name Host name ≡ true → fits (takes name) value ≡ true → HostBounds (unwrap_or value [])
unfolding place takes fits
host_fits Host None same fine = absurd cc
host_fits Host (Some text) same fine = host_text text fine
host_fits _ value same fine = absurd cc

host_within : (command : CommandName) (gs : List Given) → list_all (is_right command) gs ≡ true → stands Host gs ≡ true → HostBounds (value_or [] Host gs)
unfolding stands value_or value_of is_named is_right
host_within command gs right some =
    let (g, is, fine, named) = found_right (is_right command) (is_named Host) gs right some in
    subst (λ found. HostBounds (unwrap_or (option_and_then (λ o. o.value) found) [])) (sym is) (host_fits g.name g.value named (second (has_option command g.name) _ fine))

-- the parts of `are_options`
abbrev Parts : CommandName → List Given → Type 0
Parts command gs =
    (list_all (is_right command) gs ≡ true) × (has_required command gs ≡ true) × (has_few_sources gs ≡ true) × (none_repeats gs ≡ true)

pub parts_of : (command : CommandName) (gs : List Given) → are_options command gs ≡ true → Parts command gs
unfolding are_options
parts_of command gs are =
    let all = list_all (is_right command) gs in
    let have = has_required command gs in
    let few = has_few_sources gs in
    let five = first (all && have && few && none_repeats gs && (stands Start gs || not (stands Step gs))) _ are in
    let four = first (all && have && few && none_repeats gs) _ five in
    let three = first (all && have && few) _ four in
    let two = first (all && have) _ three in
    (first all _ two, second all _ two, second (all && have) _ three, second (all && have && few) _ four)

has_host : (command : CommandName) (gs : List Given) (front : Name) (behind : List Name) → required command ≡ front ∷ Host ∷ behind → has_required command gs ≡ true → stands Host gs ≡ true
unfolding has_required
has_host command gs front behind is have =
    let all : list_all (λ name. stands name gs) (front ∷ Host ∷ behind) ≡ true = subst (λ names. list_all (λ name. stands name gs) names ≡ true) is have in
    first (stands Host gs) _ (second (stands front gs) _ all)

run_within : (command : CommandName) (gs : List Given) (rounds : ℕ) → Between 1 1000000 rounds → Parts command gs → RunBounds (number_of Start gs) (number_or 60 Step gs) (number_or rounds Ticks gs) (number_or 10000 Records gs) (sources_of gs)
unfolding takes
run_within command gs rounds within (right, have, few, none) =
    let ticks = number_or-between rounds Ticks gs 1 1000000 refl within in
    let records = number_or-between 10000 Records gs 1 1000000 refl (omega arith, omega arith) in
    record {
      clock = clock_within gs;
      some_ticks = ticks.0;
      ticks_in = ticks.1;
      some_records = records.0;
      records_in = records.1;
      sources_in = record { few = sources_within gs few; own_paths = sources_own command gs right none };
    }

session_within : (command : CommandName) (gs : List Given) → required command ≡ Config ∷ Host ∷ [] → Parts command gs → SessionBounds (replay_of gs)
unfolding replay_of
session_within command gs is parts =
    (run_within command gs 60 (omega arith, omega arith) parts, host_within command gs parts.0 (has_host command gs Config [] is parts.1))

pub few_workers : (gs : List Given) → (1 ≤ number_or 4 Workers gs) × (number_or 4 Workers gs ≤ 16)
unfolding takes
few_workers gs = number_or-between 4 Workers gs 1 16 refl (omega arith, omega arith)

load_within : (gs : List Given) → GenerateBounds (generate_of gs)
unfolding generate_of takes
load_within gs =
    let from = number_or-between 0 From gs 0 (2 ^ 63 - 1) refl (omega arith, omega arith) in
    let count = number_or-between 1 Count gs 1 1000000 refl (omega arith, omega arith) in
    record { from_in = omega arith; some_lines = count.0; lines_in = count.1 }

asked_within : (command : CommandName) (gs : List Given) → Parts command gs → IsBounded (asked_by command gs)
unfolding daemon_of query_of check_of collect_of fleet_of generate_of required takes IsBounded
asked_within Replay gs parts = session_within Replay gs refl parts
asked_within Daemon gs parts =
    let workers = few_workers gs in
    record { run_in = session_within Daemon gs refl parts; some_workers = workers.0; workers_in = workers.1 }
asked_within Query gs parts = run_within Query gs 1000000 (omega arith, omega arith) parts
asked_within Check gs parts = host_within Check gs parts.0 (has_host Check gs Config [] refl parts.1)
asked_within Collect gs parts =
    let ticks = number_or-between 1000000 Ticks gs 1 1000000 refl (omega arith, omega arith) in
    record { one = refl; some_ticks = ticks.0; ticks_in = ticks.1 }
asked_within Generate gs parts = load_within gs
asked_within SelfTest gs parts = load_within gs
asked_within Report gs parts = tt
asked_within Fleet gs parts = host_within Fleet gs parts.0 (has_host Fleet gs Ledger (Text ∷ []) refl parts.1)

asked_bounded : (gs : List Given) (refused : Bool) (named : Option CommandName) (command : CommandWords) → cond refused None (option_and_then (command_with gs) named) ≡ Some command → IsBounded command
asked_bounded gs true named command is = absurd cc
asked_bounded gs false None command is = absurd cc
asked_bounded gs false (Some name) command is =
    let asked = cond_some (are_options name gs) (asked_by name gs) command is in
    subst IsBounded asked.1 (asked_within name gs (parts_of name gs asked.0))

-- the words of a command are bounded
pub words_bounded : (words : List (List ℕ)) (command : CommandWords) → words_of words ≡ Some command → IsBounded command
unfolding words_of
words_bounded [] command is = absurd cc
words_bounded (word ∷ words) command is =
    asked_bounded (options_of words) (has_refused (word ∷ words)) (command_named word) command is

unsourced_bounded : (store : Option (List ℕ)) → ArePathsBounded (unsourced store)
unfolding ArePathsBounded
unsourced_bounded store =
    (record { start_in = tt; step_in = omega arith }, record { few = omega arith; own_paths = λ i j d before within. absurd (omega arith) })

pub paths_bounded : (command : CommandWords) → IsBounded command → ArePathsBounded (paths_in command)
unfolding IsBounded ArePathsBounded
paths_bounded (AsReplay words) bounded = (bounded.0.clock, bounded.0.sources_in)
paths_bounded (AsDaemon words) bounded = (bounded.run_in.0.clock, bounded.run_in.0.sources_in)
paths_bounded (AsQuery words) bounded = (bounded.clock, bounded.sources_in)
paths_bounded (AsCheck words) bounded = unsourced_bounded None
paths_bounded (AsCollect words) bounded =
    (record { start_in = tt; step_in = omega arith }, record { few = omega (arith, bounded.one); own_paths = λ i j d before within. absurd (omega (arith, bounded.one)) })
paths_bounded (AsGenerate words) bounded = unsourced_bounded None
paths_bounded (AsSelfTest words) bounded = unsourced_bounded None
paths_bounded (AsReport words) bounded = unsourced_bounded (Some words.store)
paths_bounded (AsFleet words) bounded = unsourced_bounded None
