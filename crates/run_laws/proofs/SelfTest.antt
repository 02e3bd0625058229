-- The session of a self test leaves one list.
use Rattle.std.proofs.Common.{◌≡◌, ℕ, ◌+◌, ◌/◌, List, [], ◌∷◌, ◌++◌, length, map, refl, ap, sym, subst, ◌∙◌, Option, Some, option_map}
use Rattle.std.specs.Prelude.{unwrap_or}
use Rattle.std.proofs.lemmas.List.{length-map}
use Rattle.serde_json.specs.Data.{Data}
use Rattle.serde_json.specs.Read.{read}
use Rattle.serde_json.proofs.OnLiterals.{serde_json_on_literals}
use Rattle.osq_config.specs.declared.config.Config.{Config}
use Rattle.osq_config.specs.declared.file.PackFile.{PackFile}
use Rattle.osq_config.specs.Documents.{is_comment, text_of}
use Rattle.osq_config.specs.Files.{files_of}
use Rattle.osq_config.specs.Values.{config_of}
use Rattle.pack_rules.specs.declared.host.Host.{Host}
use Rattle.generated_changes.specs.Generated.{lines_of}
use Rattle.entry_model.specs.declared.entry.Entry.{Entry}
use Rattle.program_words.specs.declared.command.GenerateWords.{GenerateWords}
use Rattle.program_words.specs.Bounds.{GenerateBounds}
use Rattle.kept_report.specs.Counting.{numbers_in, numbers_line}
use Rattle.session_model.specs.Given.{Given, Source}
use Rattle.session_model.specs.Orders.{in_turn}
use Rattle.session_model.specs.Sessions.{Beat, quiet}
use Rattle.replay_rounds.specs.Linking.{polled_at, readings_of}
use Rattle.replay_rounds.specs.Running.{AddsAt}
use Rattle.osq_program.specs.SelfTesting.{HasRunOver, IsSelfGiven, document, readings_from, self_key}
use Rattle.run_laws.specs.OneList.{StandsAlone}
use Rattle.run_laws.proofs.Documents.{one_configuration}
use Rattle.run_laws.proofs.Generated.{same_loads}
use Rattle.run_laws.specs.SelfTest.{OneLine}

-- no pack of the document stands in a file of its own
files_in : option_map (λ (d : Data). files_of (config_of d).packs) (read (text_of document)) ≡ Some []
unfolding serde_json_on_literals is_comment text_of config_of
files_in = refl

alone : StandsAlone document
alone value has =
    ap (λ (o : Option (List PackFile)). unwrap_or o [])
    (sym (ap (option_map (λ (d : Data). files_of (config_of d).packs)) has.is_json) ∙ files_in)

abbrev given_with : Host → List (List ℕ) → Config → List Source → ℕ → Given
given_with host documents config sources records = record { host = host; documents = documents; config = config; sources = sources; records = records }

-- a self test is given one configuration
given_same : (lines : List ℕ) (count start : ℕ) (one other : Given) → IsSelfGiven lines count start one → IsSelfGiven lines count start other → one ≡ other
given_same lines count start one other x y =
    let both = one_configuration document one.documents other.documents one.config other.config x.notes y.notes alone x.configured y.configured x.document_is y.document_is in
    ap (λ (h : Host). given_with h one.documents one.config one.sources one.records) (x.host ∙ sym y.host)
    ∙ (ap (λ (ds : List (List ℕ)). given_with other.host ds one.config one.sources one.records) both.0
    ∙ (ap (λ (c : Config). given_with other.host other.documents c one.sources one.records) both.1
    ∙ (ap (λ (ss : List Source). given_with other.host other.documents other.config ss one.records) (x.sources ∙ sym y.sources)
    ∙ ap (λ (n : ℕ). given_with other.host other.documents other.config other.sources n) (x.records ∙ sym y.records))))

-- a session at these beats adds one list
adds_same : (words : GenerateWords) (given : Given) (beats : List Beat) (one other : List Entry) → GenerateBounds words → IsSelfGiven (lines_of words.from words.count) words.count 1000 given
    → AddsAt in_turn (Unit {0}) given [] beats one → AddsAt in_turn (Unit {0}) given [] beats other → one ≡ other
adds_same words given [] one other bounds is x y = x ∙ sym y
adds_same words given (beat ∷ beats) one other bounds is x y =
    same_loads (Unit {0}) given [] beat beats one other _ words.from words.count tt is.sources is.records bounds.lines_in x y

no_parts : {X : Type 0} (xs ys : List X) → xs ++ ys ≡ [] → (xs ≡ []) × (ys ≡ [])
no_parts [] ys none = (refl, none)
no_parts (x ∷ xs) ys none = absurd (let gone : ⊥ = cc in gone)

abbrev beat_with : ℕ → List (Option ℕ) → Beat
beat_with reading polled = record { reading = reading; polled = polled }

-- beats at which nothing is polled are those of their readings
all_quiet : (beats : List Beat) → polled_at beats ≡ [] → beats ≡ map quiet (readings_of beats)
all_quiet [] none = refl
all_quiet (beat ∷ beats) none =
    let (first, others) = no_parts beat.polled (polled_at beats) none in
    ap (λ (polled : List (Option ℕ)). beat_with beat.reading polled ∷ beats) first ∙ ap (λ (rest : List Beat). quiet beat.reading ∷ rest) (all_quiet beats others)

-- so those of so many ticks are the clock's, since a self test has no link
beats_are : (ticks : ℕ) (beats : List Beat) → readings_of beats ≡ readings_from 1000 (length (readings_of beats)) → length beats ≡ ticks → polled_at beats ≡ [] → beats ≡ map quiet (readings_from 1000 ticks)
beats_are ticks beats read count none =
    all_quiet beats none ∙ ap (map quiet) (read ∙ ap (readings_from 1000) (length-map beats (λ (beat : Beat). beat.reading) ∙ count))

kept_same : (words : GenerateWords) (one other : List Entry) → GenerateBounds words → HasRunOver (lines_of words.from words.count) words.count 1000 [] one → HasRunOver (lines_of words.from words.count) words.count 1000 [] other → one ≡ other
kept_same words one other bounds x y =
    let lines = lines_of words.from words.count in
    let ticks = words.count / 100 + 2 in
    let given = given_same lines words.count 1000 x.given y.given x.is y.is in
    let mine = beats_are ticks x.run.beats x.run.read x.run.count (x.run.grows.heard tt tt) in
    let theirs = beats_are ticks y.run.beats y.run.read y.run.count (y.run.grows.heard tt tt) in
    let adds = subst (λ (g : Given). AddsAt in_turn (Unit {0}) g [] x.run.beats x.run.entries) given (x.run.grows.adds tt tt) in
    let at = subst (λ (bs : List Beat). AddsAt in_turn (Unit {0}) y.given [] bs x.run.entries) (mine ∙ sym theirs) adds in
    let entries = adds_same words y.given y.run.beats x.run.entries y.run.entries bounds y.is at (y.run.grows.adds tt tt) in
    x.run.grows.grown tt ∙ (entries ∙ sym (y.run.grows.grown tt))

pub one_line : OneLine
one_line words one other bounds x y =
    x.are ∙ (ap (λ (kept : List Entry). numbers_line (numbers_in self_key kept)) (kept_same words x.kept y.kept bounds x.ran y.ran) ∙ sym y.are)
