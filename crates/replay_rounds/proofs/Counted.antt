-- How often the entries of a session configure it.
use Rattle.std.proofs.Common.{◌≡◌, ◌<◌, ℕ, ◌+◌, arith, Bool, true, false, List, [], ◌∷◌, ◌++◌, length, Option, Some, None, refl, sym, ap, ◌∙◌, subst}
use Rattle.std.specs.Prelude.{◌&&◌, filter_map, option_map}
use Rattle.std.specs.List.{cons_option}
use Rattle.std.proofs.lemmas.Bool.{lt-leb}
use Rattle.std.proofs.lemmas.List.{length-append}
use Rattle.std.proofs.lemmas.List.Elements.{filter_map-append}
use Rattle.osq_value.specs.declared.reading.Reading.{Reading}
use Rattle.osq_value.specs.declared.reading.Reading.TheVariants.{Events, Table}
use Rattle.osq_config.specs.declared.config.Config.{Config}
use Rattle.pack_rules.specs.declared.host.Host.{Host}
use Rattle.entry_model.specs.declared.entry.Batch.{Batch}
use Rattle.entry_model.specs.declared.entry.Entry.{Entry}
use Rattle.entry_model.specs.declared.entry.Entry.TheVariants.{Expired}
use Rattle.session_model.specs.Configuring.{configured_in}
use Rattle.session_state.specs.Kept.{Kept}
use Rattle.session_state.specs.Ticks.{owed_at}
use Rattle.daemon_rounds.specs.Answering.{committed_all}
use Rattle.daemon_rounds.specs.Appending.{entries_of}
use Rattle.daemon_rounds.specs.Keeping.{Settles}
use Rattle.daemon_rounds.specs.Rounding.{round_entries}
use Rattle.daemon_rounds.specs.Ticking.{ConfiguresAgain, asks_again, has_discovery}
use Rattle.daemon_rounds.specs.Turns.{Turn, turn_entries}
use Rattle.replay_rounds.specs.Noting.{configurations}
use Rattle.replay_rounds.proofs.Again.{again_entries}

pub configurations-append : (xs ys : List Entry) → configurations (xs ++ ys) ≡ configurations xs + configurations ys
configurations-append xs ys =
    ap (λ (moments : List ℕ). length moments) (filter_map-append configured_in xs ys) ∙ length-append (filter_map configured_in xs) (filter_map configured_in ys)

-- none of them configures a session
abbrev pub CountNone : List Entry → Type 0
CountNone entries = configurations entries ≡ 0

pub none-append : (xs ys : List Entry) → CountNone xs → CountNone ys → CountNone (xs ++ ys)
none-append xs ys first second = let all = configurations-append xs ys in omega (arith, all, first, second)

readings_none : (source : List ℕ) (moment : ℕ) (readings : List Reading) → CountNone (entries_of source moment readings)
readings_none source moment [] = refl
readings_none source moment (Events taken events skipped ∷ readings) = readings_none source moment readings
readings_none source moment (Table taken table rows ∷ readings) = readings_none source moment readings

pub round_none : {S : Type 0} (moment : ℕ) (turns : List (Turn S)) → CountNone (round_entries moment turns)
round_none moment [] = refl
round_none moment (turn ∷ turns) =
    none-append (turn_entries moment turn) (round_entries moment turns) (readings_none turn.feed.name moment turn.readings) (round_none moment turns)

committed_none : (batches : List Batch) → CountNone (committed_all batches)
committed_none [] = refl
committed_none (batch ∷ batches) = committed_none batches

expired_or_none : (o : Option ℕ) (table moment : ℕ) (rest : List Entry) → CountNone rest → CountNone (cons_option (option_map (λ (floor : ℕ). Expired (record { 0 = table }) floor moment) o) rest)
expired_or_none None table moment rest none = none
expired_or_none (Some floor) table moment rest none = none

expired_none : (owed : ℕ → Option ℕ) (moment : ℕ) (tables : List ℕ) → CountNone (filter_map (λ (table : ℕ). option_map (λ (floor : ℕ). Expired (record { 0 = table }) floor moment) (owed table)) tables)
expired_none owed moment [] = refl
expired_none owed moment (table ∷ tables) =
    expired_or_none (owed table) table moment (filter_map (λ (table : ℕ). option_map (λ (floor : ℕ). Expired (record { 0 = table }) floor moment) (owed table)) tables) (expired_none owed moment tables)

-- what a settled state gained
pub settled_none : (old new : Kept) (settles : Settles old new) → CountNone (committed_all settles.batches ++ settles.expired)
settled_none old new settles =
    none-append (committed_all settles.batches) settles.expired (committed_none settles.batches) (subst CountNone (sym settles.are) (expired_none (owed_at settles.between) settles.between.counts.moment (0 ∷ 1 ∷ 2 ∷ [])))

-- once where it is configured again
abbrev pub count_of : Bool → ℕ
count_of true = 1
count_of false = 0

pub again_counted : (asks : Bool) (config : Config) (documents : List (List ℕ)) (host : Host) (moment : ℕ) (old new : Kept) (again : ConfiguresAgain asks config documents host moment old new) → configurations (again_entries asks config documents host moment old new again) ≡ count_of asks
again_counted true config documents host moment old new configures = refl
again_counted false config documents host moment old new same = refl

pub tail_counted : (old : Kept) (entries : List Entry) (new : Kept) → new.tail ≡ old.tail ++ entries → configurations new.tail ≡ configurations old.tail + configurations entries
tail_counted old entries new tail =
    ap (λ (es : List Entry). configurations es) tail ∙ configurations-append old.tail entries

and_false : (b : Bool) → (b && false) ≡ false
and_false true = refl
and_false false = refl

-- not in the tick in which the session opened
pub not_at_once : (config : Config) (moment : ℕ) → asks_again config moment moment ≡ false
not_at_once config moment =
    let later : moment < moment + 3600 = omega arith in
    ap (λ (late : Bool). has_discovery config && late) (lt-leb (moment + 3600) moment later) ∙ and_false (has_discovery config)
