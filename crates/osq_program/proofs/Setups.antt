-- What a session is given by words.
use Rattle.std.proofs.Common.{◌≡◌, ◌≢◌, ℕ, Bool, true, false, List, [], ◌∷◌, map, length, refl, sym, ap, ◌∙◌, subst, arith, suc, zero}
use Rattle.std.specs.Prelude.{◌≤◌, ◌&&◌, All, AllPairs, bytes_eq, nat_le}
use Rattle.std.specs.List.{list_any}
use Rattle.std.proofs.lemmas.List.Elements.{All-head, All-tail}
use Rattle.std.proofs.lemmas.Bool.Decides.{nat_tests}
use Rattle.std.proofs.lemmas.Slice.Eq.{bytes_eq-Decides}
use Rattle.entry_model.specs.declared.entry.Entry.{Entry}
use Rattle.entry_model.specs.Fits.{IsDistinct}
use Rattle.forward_rounds.specs.Forwarding.{View}
use Rattle.program_words.specs.Bounds.{HostBounds}
use Rattle.program_words.specs.declared.command.ReplayWords.{ReplayWords}
use Rattle.osq_value.specs.declared.source.SourceName.{SourceName}
use Rattle.batch_frames.specs.Valid.{is_host}
use Rattle.session_model.specs.Given.{Source}
use Rattle.daemon_rounds.specs.declared.setup.Setup.{Setup}
use Rattle.daemon_rounds.specs.Starting.{source_names}
use Rattle.replay_rounds.specs.declared.running.Ended.{Ended}
use Rattle.replay_rounds.specs.Fixed.{Run}
use Rattle.replay_rounds.specs.Running.{HasRun}
use Rattle.replay_rounds.specs.Sources.{sources_of}
use Rattle.program_words.specs.Commands.{forwards}
use Rattle.osq_program.specs.Setups.{setup_in, sources_named}

-- the sources of a setup are those that the words name
pub sources_are : {S : Type 0} (left : S → List ℕ) (names : List SourceName) (objects : List S) → sources_of left names objects ≡ sources_named names (map left objects)
sources_are left [] objects = refl
sources_are left (name ∷ names) [] = refl
sources_are left (name ∷ names) (object ∷ objects) =
    ap (λ (others : List Source). record { name = name.name; kind = name.kind; bytes = left object } ∷ others) (sources_are left names objects)

differs : (a b : List ℕ) → a ≢ b → bytes_eq b a ≡ false
differs a b apart = by_test (bytes_eq b a) refl where
  by_test : (t : Bool) → bytes_eq b a ≡ t → bytes_eq b a ≡ false
  by_test true is = absurd (apart (sym ((bytes_eq-Decides b a).0 is)))
  by_test false is = is

alone : (name : List ℕ) (sources : List SourceName) → All (λ (other : SourceName). name ≢ other.name) sources
    → list_any (λ other. bytes_eq other name) (source_names sources) ≡ false
alone name [] apart = refl
alone name (source ∷ sources) apart =
    let here = differs name source.name (All-head (λ (other : SourceName). name ≢ other.name) source sources apart) in
    rw here (alone name sources (All-tail (λ (other : SourceName). name ≢ other.name) source sources apart))

-- no two sources of a session have one name, as no two of the words do
pub distinct_names : (sources : List SourceName) → AllPairs (λ (a b : SourceName). a.name ≢ b.name) sources → IsDistinct bytes_eq (source_names sources)
distinct_names [] own = tt
distinct_names (source ∷ sources) own = (
  alone source.name sources (λ j d within. own zero (suc j) d (omega arith) (omega arith)),
  distinct_names sources (λ i j d before within. own (suc i) (suc j) d (omega arith) (omega arith)),
)

-- a setup that is what words ask has as many sources, no two of one name, and as many ticks
pub setup_paired : (setup : Setup) (words : ReplayWords) (count : ℕ) → setup ≡ setup_in words → count ≡ length words.sources → count ≡ length setup.sources
setup_paired setup words count is same = same ∙ sym (ap (λ (s : Setup). length s.sources) is)

pub setup_distinct : (setup : Setup) (words : ReplayWords) → setup ≡ setup_in words → AllPairs (λ (a b : SourceName). a.name ≢ b.name) words.sources → IsDistinct bytes_eq (source_names setup.sources)
setup_distinct setup words is own = subst (λ (s : Setup). IsDistinct bytes_eq (source_names s.sources)) (sym is) (distinct_names words.sources own)

pub setup_ticks : (setup : Setup) (words : ReplayWords) → setup ≡ setup_in words → 1 ≤ words.ticks → 1 ≤ setup.ticks
setup_ticks setup words is some = subst (λ (s : Setup). 1 ≤ s.ticks) (sym is) some

-- and its host is one of frames
host_is : (host : List ℕ) → HostBounds host → is_host host ≡ true
host_is host bounds =
    let some = bounds.some_bytes in
    let few = bounds.bytes_in in
    let least : nat_le 1 (length host) ≡ true = grind (arith, nat_tests, some) in
    let most : nat_le (length host) 255 ≡ true = grind (arith, nat_tests, few) in
    λ i. least i && most i

pub setup_host : (setup : Setup) (words : ReplayWords) → setup ≡ setup_in words → HostBounds words.host → is_host setup.host.identifier ≡ true
setup_host setup words is bounds = subst (λ (s : Setup). is_host s.host.identifier ≡ true) (sym is) (host_is words.host bounds)

-- it forwards where they name a link
pub setup_forwards : (setup : Setup) (words : ReplayWords) → setup ≡ setup_in words → setup.forward ≡ forwards words
setup_forwards setup words is = ap (λ (s : Setup). s.forward) is

pub for_ticks : (setup : Setup) (words : ReplayWords) (ran : Run) (kept : List Entry) (written : List ℕ) (linked : View) (ended : Ended) → setup ≡ setup_in words
    → HasRun ran setup.ticks kept written linked ended → HasRun ran words.ticks kept written linked ended
for_ticks setup words ran kept written linked ended is run = subst (λ (s : Setup). HasRun ran s.ticks kept written linked ended) is run

-- the same of the names of these sources
pub names_distinct : (names sources : List SourceName) → names ≡ sources → AllPairs (λ (a b : SourceName). a.name ≢ b.name) sources → IsDistinct bytes_eq (source_names names)
names_distinct names sources is own = subst (λ (ns : List SourceName). IsDistinct bytes_eq (source_names ns)) (sym is) (distinct_names sources own)
