-- The notes of a session's configurations, one after another.
use Rattle.std.proofs.Common.{◌≡◌, ◌⊎◌, inl, inr, ◌≤◌, ℕ, Bool, true, false, List, [], ◌∷◌, ◌++◌, Ok, Err, OnOk, refl, sym, ap, ◌∙◌, subst, append_assoc, arith}
use Rattle.std.specs.Prelude.{Result, IfOk, IfErr}
use Rattle.std.proofs.lemmas.List.{append-nil}
use Rattle.osq_outside.specs.Causes.{FaultHasCause, Rose}
use Rattle.source_feeds.specs.Feeding.{Feeding}
use Rattle.entry_model.specs.declared.entry.Entry.{Entry}
use Rattle.osq_config.specs.declared.config.Config.{Config}
use Rattle.pack_rules.specs.declared.host.Host.{Host}
use Rattle.entry_model.specs.Legal.{Legal}
use Rattle.schedule_notes.specs.Notes.{AreNotes}
use Rattle.session_model.specs.Configuring.{found_behind}
use Rattle.replay_rounds.specs.Fixed.{Fixed}
use Rattle.replay_rounds.specs.Noting.{AreAllNotes, AreNotesAt, ArePlacesBut, CountsTo, HasNoted, HasToldSome, IsNoted, IsNotedAgain, Place, TellsSkipped, skipped_lines}
use Rattle.replay_rounds.specs.declared.noting.NoteError.{NoteError}
use Rattle.replay_rounds.specs.declared.noting.NoteError.TheVariants as note
use Rattle.replay_rounds.proofs.Places.{again_places}

module _ (config : Config) (host : Host) (found : List Bool) (left_out before : List ℕ) where
  -- they were written
  pub noted_by : {T E : Type 0} (lines after : List ℕ) (result : Result T E) → AreNotes config host found left_out lines → OnOk result (after ≡ before ++ lines) → OnOk result (IsNoted config host found left_out before after)
  noted_by lines after (Ok done) are is = (lines, are, is)
  noted_by lines after (Err error) are is = is

  pub not_again : (again : Bool) → again ≡ false → IsNotedAgain again config host found left_out before before
  not_again again is = subst (λ (b : Bool). IsNotedAgain b config host found left_out before before) (sym is) refl

  pub noted_again : (again : Bool) (after : List ℕ) → again ≡ true → IsNoted config host found left_out before after → IsNotedAgain again config host found left_out before after
  noted_again again after is noted = subst (λ (b : Bool). IsNotedAgain b config host found left_out before after) (sym is) noted

module _ (x : Fixed) (left_out before : List ℕ) where
  pub noted_none : HasNoted x left_out [] before before
  noted_none = ([], refl, sym (append-nil before))

  -- the notes of one more configuration
  all_push : (places : List Place) (place : Place) (lines more : List ℕ) → AreAllNotes x left_out places lines → AreNotesAt x left_out place more → AreAllNotes x left_out (places ++ place ∷ []) (lines ++ more)
  all_push [] place lines more none at = (more, [], at, refl, ap (λ (text : List ℕ). text ++ more) none ∙ sym (append-nil more))
  all_push (first ∷ places) place lines more (own, others, at_first, rest, are) at =
      (own, others ++ more, at_first, all_push places place others more rest at, ap (λ (text : List ℕ). text ++ more) are ∙ append_assoc own others more)

  noted_push : (places : List Place) (place : Place) (found : List Bool) (between after : List ℕ) → (x.keeper_tells → Legal x.start → found ≡ found_behind x.given place.list place.moment) → HasNoted x left_out places before between → IsNoted x.given.config x.given.host found left_out between after → HasNoted x left_out (places ++ place ∷ []) before after
  noted_push places place found between after pin (earlier, all, was) (lines, are, is) =
      (earlier ++ lines, all_push places place earlier lines all (found, are, pin), is ∙ ap (λ (text : List ℕ). text ++ lines) was ∙ append_assoc before earlier lines)

  pub noted_first : (place : Place) (found : List Bool) (after : List ℕ) → (x.keeper_tells → Legal x.start → found ≡ found_behind x.given place.list place.moment) → IsNoted x.given.config x.given.host found left_out before after → HasNoted x left_out (place ∷ []) before after
  noted_first place found after pin noted = noted_push [] place found before after pin noted_none noted

  pub noted_on : (again : Bool) (places : List Place) (place : Place) (found : List Bool) (between after : List ℕ) → (x.keeper_tells → Legal x.start → found ≡ found_behind x.given place.list place.moment) → HasNoted x left_out places before between → IsNotedAgain again x.given.config x.given.host found left_out between after → HasNoted x left_out (places ++ again_places again place) before after
  noted_on true places place found between after pin has noted = noted_push places place found between after pin has noted
  noted_on false places place found between after pin has same =
      subst (λ (ps : List Place). HasNoted x left_out ps before after) (sym (append-nil places)) (subst (HasNoted x left_out places before) (sym same) has)

  pub noted_so : (places same : List Place) (after : List ℕ) → same ≡ places → HasNoted x left_out places before after → HasNoted x left_out same before after
  noted_so places same after is has = subst (λ (ps : List Place). HasNoted x left_out ps before after) (sym is) has

-- lines of skipped lines were written, but where the sink failed; none where memory was wanting
pub skipped_by : {T : Type 0} (feeds : List Feeding) (before after : List ℕ) (faults now : ℕ) (result : Result T NoteError) → OnOk result (after ≡ before ++ skipped_lines feeds) → (result ≡ Err note.NoMemory → after ≡ before) → FaultHasCause note.SinkFault faults now result → TellsSkipped feeds before after ⊎ Rose faults now
skipped_by feeds before after faults now (Ok done) is unmade cause = inl (inr is)
skipped_by feeds before after faults now (Err note.SinkFault) is unmade cause = inr (cause.failed refl)
skipped_by feeds before after faults now (Err note.NoMemory) is unmade cause = inl (inl (unmade refl))

-- where these lines aren't written, nothing is, but where the sink failed
pub untold_by : {T : Type 0} (before after : List ℕ) (faults now : ℕ) (e : NoteError) (result : Result T NoteError) → result ≡ Err e → (result ≡ Err note.NoMemory → after ≡ before) → FaultHasCause note.SinkFault faults now result → (after ≡ before) ⊎ Rose faults now
untold_by before after faults now note.SinkFault result is unmade cause = inr (cause.failed is)
untold_by before after faults now note.NoMemory result is unmade cause = inl (unmade is)

-- lines of skipped lines, behind nothing
pub skipped_behind : (feeds : List Feeding) (before between after : List ℕ) (first second third : ℕ) → (between ≡ before) ⊎ Rose first second → TellsSkipped feeds between after ⊎ Rose second third → first ≤ second → second ≤ third → TellsSkipped feeds before after ⊎ Rose first third
skipped_behind feeds before between after first second third (inl same) (inl skipped) earlier later = inl (subst (λ (text : List ℕ). TellsSkipped feeds text after) same skipped)
skipped_behind feeds before between after first second third (inl same) (inr rose) earlier later = inr (omega (arith, rose, earlier))
skipped_behind feeds before between after first second third (inr rose) skipped earlier later = inr (omega (arith, rose, earlier, later))

-- nothing, or what the feeds of a session skipped that opened
pub told_opened : (Opened : Type 0) (feeds : List Feeding) (before after : List ℕ) (first second : ℕ) → TellsSkipped feeds before after ⊎ Rose first second → ((after ≡ before ++ skipped_lines feeds) → Opened) → ((after ≡ before) ⊎ Opened) ⊎ Rose first second
told_opened Opened feeds before after first second (inl (inl same)) opened = inl (inl same)
told_opened Opened feeds before after first second (inl (inr skipped)) opened = inl (inr (opened skipped))
told_opened Opened feeds before after first second (inr rose) opened = inr rose

-- the notes of some configurations or of none, and nothing behind them
pub told_none : (x : Fixed) (now : List Entry) (left_out before between after : List ℕ) (first second third : ℕ) (places : List Place) → (x.keeper_tells → ArePlacesBut x.start now places) → HasNoted x left_out places before between → (after ≡ between) ⊎ Rose second third → first ≤ second
    → HasToldSome x now left_out before after ⊎ Rose first third
told_none x now left_out before between after first second third places configured noted (inl same) earlier =
    inl (record { places = places; configured = configured; between = between; noted = noted; skipped = inl same })
told_none x now left_out before between after first second third places configured noted (inr rose) earlier = inr (omega (arith, rose, earlier))

-- and behind them the lines of what feeds skipped
pub told_some : (x : Fixed) (now : List Entry) (left_out before between after : List ℕ) (first second third : ℕ) (places : List Place) (feeds : List Feeding) → CountsTo x now feeds → (x.keeper_tells → ArePlacesBut x.start now places) → HasNoted x left_out places before between → TellsSkipped feeds between after ⊎ Rose second third → first ≤ second
    → HasToldSome x now left_out before after ⊎ Rose first third
told_some x now left_out before between after first second third places feeds to configured noted (inl (inl same)) earlier =
    inl (record { places = places; configured = configured; between = between; noted = noted; skipped = inl same })
told_some x now left_out before between after first second third places feeds to configured noted (inl (inr skipped)) earlier =
    inl (record { places = places; configured = configured; between = between; noted = noted; skipped = inr (feeds, to, skipped) })
told_some x now left_out before between after first second third places feeds to configured noted (inr rose) earlier = inr (omega (arith, rose, earlier))

-- what follows from two facts of an error
pub of_refusal : {T E : Type 0} (A B C : E → Type 0) (result : Result T E) → IfErr result A → IfErr result B → ((error : E) → A error → B error → C error) → IfErr result C
of_refusal A B C (Ok value) first second follows = tt
of_refusal A B C (Err error) first second follows = follows error first second

-- what holds anyway holds of a value
pub of_any : {T E : Type 0} (P : Type 0) (result : Result T E) → P → IfOk result (λ value. P)
of_any P (Ok value) holds = holds
of_any P (Err error) holds = tt
