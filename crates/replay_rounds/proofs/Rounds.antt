-- What a round of the sources gives, in either order.
use Rattle.std.proofs.Common.{◌≡◌, ℕ, true, false, List, [], ◌∷◌, Option, None, refl, sym, ap, ◌∙◌}
use Rattle.std.specs.Prelude.{All, length, filter_map, unwrap_or}
use Rattle.std.specs.List.{cons_option, list_any}
use Rattle.std.proofs.lemmas.Bool.{true≢false}
use Rattle.std.proofs.lemmas.List.Elements.{All-head, All-tail, All-weaker}
use Rattle.osq_value.specs.declared.reading.Reading.{Reading}
use Rattle.osq_value.specs.declared.reading.Reading.TheVariants.{Events, Table}
use Rattle.source_feeds.specs.Feeding.{Feeding}
use Rattle.entry_model.specs.declared.entry.Entry.{Entry}
use Rattle.entry_model.specs.declared.entry.Entry.TheVariants.{Acked, Appended, Committed, Configured, Expired, Opened, TableSet, Ticked}
use Rattle.entry_model.specs.Values.{last_of, moment_in}
use Rattle.session_model.specs.Configuring.{configured_in}
use Rattle.session_model.specs.Orders.{Order, in_turn, at_once}
use Rattle.session_state.specs.Kept.{Counts, Kept, counts_next}
use Rattle.session_state.specs.Readings.{entry_of}
use Rattle.daemon_rounds.specs.Adding.{counts_after}
use Rattle.daemon_rounds.specs.AtOnce.{Gains, WorksAtOnce, is_work}
use Rattle.daemon_rounds.specs.Orders.{RoundsIn}
use Rattle.daemon_rounds.specs.Rounding.{Rounds, Whole, names_of, round_entries}
use Rattle.daemon_rounds.specs.Telling.{AreTellable}
use Rattle.daemon_rounds.specs.Turns.{IsTurn, Turn}
use Rattle.daemon_rounds.specs.declared.turning.Which.TheVariants as which
use Rattle.daemon_rounds.proofs.Adding.{gains_of}
use Rattle.daemon_rounds.proofs.Opened.{round_tellable}
use Rattle.replay_rounds.proofs.Counted.{CountNone}
use Rattle.replay_rounds.proofs.Ticks.{NoTick, round_all}
use Rattle.replay_rounds.proofs.Unconfigured.{ConfigureNothing}

-- an entry that begins no tick, configures nothing and has no moment of its own
pub record IsPlain (entry : Entry) : Type 0 where
  pub tickless : NoTick entry
  pub configures : configured_in entry ≡ None
  pub moment : moment_in entry ≡ None
  pub stays : (counts : Counts) → (counts_next counts entry).moment ≡ counts.moment

none_any : (names : List (List ℕ)) → list_any (λ (name : List ℕ). false) names ≡ false
none_any [] = refl
none_any (name ∷ names) = none_any names

pub work_plain : (names : List (List ℕ)) (entry : Entry) → is_work names entry ≡ true → IsPlain entry
work_plain names (Opened session rules) is = absurd (true≢false (sym is ∙ none_any names))
work_plain names (Configured document schedule moment) is = absurd (true≢false (sym is ∙ none_any names))
work_plain names (Ticked moment) is = absurd (true≢false (sym is ∙ none_any names))
work_plain names (Appended source taken events skipped moment) is =
    record { tickless = refl; configures = refl; moment = refl; stays = λ counts. refl }
work_plain names (TableSet source table rows taken) is =
    record { tickless = refl; configures = refl; moment = refl; stays = λ counts. refl }
work_plain names (Committed batch) is = record { tickless = refl; configures = refl; moment = refl; stays = λ counts. refl }
work_plain names (Expired table floor moment) is = absurd (true≢false (sym is ∙ none_any names))
work_plain names (Acked upto) is = absurd (true≢false (sym is ∙ none_any names))

pub reading_plain : (source : List ℕ) (moment : ℕ) (reading : Reading) → IsPlain (entry_of source moment reading)
reading_plain source moment (Events taken events skipped) =
    record { tickless = refl; configures = refl; moment = refl; stays = λ counts. refl }
reading_plain source moment (Table taken table rows) =
    record { tickless = refl; configures = refl; moment = refl; stays = λ counts. refl }

-- what such entries leave as it was
pub plain_tickless : (entries : List Entry) → All IsPlain entries → All NoTick entries
plain_tickless entries plain = All-weaker IsPlain NoTick (λ entry is. is.tickless) entries plain

pub plain_none : (entries : List Entry) → All IsPlain entries → CountNone entries
plain_none [] plain = refl
plain_none (entry ∷ entries) plain =
    ap (λ (o : Option ℕ). length (cons_option o (filter_map configured_in entries))) (All-head IsPlain entry entries plain).configures ∙ plain_none entries (All-tail IsPlain entry entries plain)

pub plain_unconfigured : (entries : List Entry) → All IsPlain entries → ConfigureNothing entries
plain_unconfigured [] plain before = refl
plain_unconfigured (entry ∷ entries) plain before =
    ap (λ (o : Option ℕ). last_of configured_in (unwrap_or o before) entries) (All-head IsPlain entry entries plain).configures ∙ plain_unconfigured entries (All-tail IsPlain entry entries plain) before

pub plain_moment : (entries : List Entry) → All IsPlain entries → (counts : Counts) → (counts_after counts entries).moment ≡ counts.moment
plain_moment [] plain counts = refl
plain_moment (entry ∷ entries) plain counts =
    plain_moment entries (All-tail IsPlain entry entries plain) (counts_next counts entry) ∙ (All-head IsPlain entry entries plain).stays counts

-- Each source had one turn, and the state gained these entries.
pub record Gives {S : Type 0} (tells : Type 0) (left : S → List ℕ) (faults : S → ℕ) (most : ℕ) (feeds nexts : List Feeding) (objects rests : List S) (old new : Kept) : Type 0 where
  pub turns : List (Turn S)
  pub whole : Whole feeds nexts objects rests turns
  pub each : All (IsTurn tells left faults which.Every most) turns
  pub body : List Entry
  pub gains : Gains old body new
  pub plain : All IsPlain body
  pub tellable : AreTellable body

-- one source after another
abbrev pub gives_in_turn : {S : Type 0} (tells : Type 0) (left : S → List ℕ) (faults : S → ℕ) (most : ℕ) (feeds nexts : List Feeding) (objects rests : List S) (old new : Kept) → Rounds tells left faults which.Every most feeds nexts objects rests old new → Gives tells left faults most feeds nexts objects rests old new
gives_in_turn tells left faults most feeds nexts objects rests old new rounds = record {
  turns = rounds.turns;
  whole = rounds.whole;
  each = rounds.each;
  body = round_entries old.counts.moment rounds.turns;
  gains = gains_of old new (round_entries old.counts.moment rounds.turns) rounds.brings;
  plain = round_all IsPlain reading_plain old.counts.moment rounds.turns;
  tellable = round_tellable old.counts.moment rounds.turns;
}

-- all at once
abbrev pub gives_at_once : {S : Type 0} (tells : Type 0) (left : S → List ℕ) (faults : S → ℕ) (most : ℕ) (feeds nexts : List Feeding) (objects rests : List S) (old new : Kept) → WorksAtOnce tells left faults most feeds nexts objects rests old new → Gives tells left faults most feeds nexts objects rests old new
gives_at_once tells left faults most feeds nexts objects rests old new works = record {
  turns = works.turns;
  whole = works.whole;
  each = works.each;
  body = works.body;
  gains = works.gains;
  plain = All-weaker (λ (entry : Entry). is_work (names_of feeds) entry ≡ true) IsPlain (work_plain (names_of feeds)) works.body works.parts;
  tellable = works.tellable;
}

pub gives : {S : Type 0} (order : Order) (tells : Type 0) (left : S → List ℕ) (faults : S → ℕ) (most : ℕ) (feeds nexts : List Feeding) (objects rests : List S) (old new : Kept) → RoundsIn order tells left faults most feeds nexts objects rests old new → Gives tells left faults most feeds nexts objects rests old new
gives in_turn tells left faults most feeds nexts objects rests old new rounds =
    gives_in_turn tells left faults most feeds nexts objects rests old new rounds
gives at_once tells left faults most feeds nexts objects rests old new works =
    gives_at_once tells left faults most feeds nexts objects rests old new works
