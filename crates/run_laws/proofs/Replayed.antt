-- A session that is ready is complete.
use Rattle.std.proofs.Common.{◌≡◌, ◌⊎◌, inl, inr, ℕ, ◌≤◌, false, List, [], ◌∷◌, ◌++◌, sym, subst, ◌∙◌, arith}
use Rattle.std.specs.Prelude.{All}
use Rattle.std.proofs.lemmas.Bool.{true≢false}
use Rattle.std.proofs.lemmas.List.Elements.{All-head, All-tail}
use Rattle.osq_value.specs.declared.moment.TheConstants.{LAST_MOMENT}
use Rattle.program_words.specs.declared.command.ReplayWords.{ReplayWords}
use Rattle.program_words.specs.Bounds.{RunBounds}
use Rattle.session_model.specs.Orders.{Order}
use Rattle.run_laws.specs.Enough.{AreEnough}
use Rattle.run_laws.proofs.Ended.{is_end}
use Rattle.osq_program.specs.declared.status.Status.{Status}
use Rattle.osq_program.specs.Answers.{IsUsageStatus}
use Rattle.osq_program.specs.Observed.{Observed}
use Rattle.osq_program.specs.Replaying.{IsReplay, Ran, causes_of, run_in}
use Rattle.osq_program.specs.Setups.{sources_named}
use Rattle.run_laws.specs.Completeness.{IsComplete}
use Rattle.run_laws.specs.Ready.{IsReplayReady, NoneFails}
use Rattle.run_laws.proofs.Accepted.{not_refused}
use Rattle.run_laws.proofs.Settled.{NoCause, settled}
use Rattle.run_laws.proofs.Sources.{not_shrunk}

pub all_end : {X : Type 0} (P : X → Type 0) (front : List X) (last : X) → All P (front ++ last ∷ []) → P last
all_end P [] last all = All-head P last [] all
all_end P (x ∷ front) last all = all_end P front last (All-tail P x (front ++ last ∷ []) all)

pub either : {A B : Type 0} → (A → ⊥) → (B → ⊥) → A ⊎ B → ⊥
either a b (inl one) = a one
either a b (inr other) = b other

module _ (order : Order) (words : ReplayWords) (seen : Observed) (bounds : RunBounds words.start words.step words.ticks words.records words.sources) (fails : NoneFails seen) (ready : IsReplayReady order words seen) where
  no_cause : NoCause (causes_of order words seen)
  no_cause = record {
    query = λ place kind none. none;
    files = fails.files;
    refused = λ kind key. not_refused seen.files_tell seen.file ready.files_tell words.config kind key ready.accepted.0.config ready.accepted.0.documents ready.accepted.1.notes ready.accepted.1.configured;
    keeper = λ cause. fails.keeper cause.1;
    unfit = λ cause. (cause.1 ready.ready.keeper_tells).0 ready.ready.legal;
    moment = λ moment cause.
        let early : moment ≤ LAST_MOMENT = all_end (λ (reading : ℕ). reading ≤ LAST_MOMENT) cause.2.1.0 moment (ready.early (cause.2.1.0 ++ moment ∷ []) cause.2.1.1) in
        let late = cause.2.0 in
        omega (arith, early, late);
    source = λ name cause. fails.sources cause.2.0 cause.2.2;
    shrank = λ name kept found cause. not_shrunk words.sources seen name kept found ready.ready.keeper_tells ready.ready.source_tells ready.ready.there cause.2;
    numbers = λ cause. ready.numbers cause.0 cause.1 cause.3;
    sink = λ cause. either fails.results fails.status cause.2;
  }

  -- a run that isn't at its sources' ends had too few ticks
  not_more : Ran order words seen false → ⊥
  not_more ran =
      let sources : ran.given.sources ≡ sources_named words.sources seen.all_bytes = ran.is.sources in
      let some : 1 ≤ ran.given.records = subst (λ (n : ℕ). 1 ≤ n) (sym ran.is.records) bounds.some_records in
      let enough = subst (λ (n : ℕ). All (AreEnough n seen.kept_before words.ticks) ran.given.sources) (sym ran.is.records)
      (subst (All (AreEnough words.records seen.kept_before words.ticks)) (sym sources) ready.ready.enough) in
      let end = is_end (run_in order words seen ran.given) words.ticks seen.kept_after seen.results_after seen.link_after ran.ended ran.run ready.ready.keeper_tells ready.ready.source_tells ready.ready.legal some enough in
      true≢false (sym end ∙ ran.end_is)

  pub replayed : (status : Status) → IsReplay order words seen status → ¬ IsUsageStatus status → IsComplete status
  replayed status does usage = settled (causes_of order words seen) status no_cause does.cause (λ spent. not_more (does.spent spent).0) usage
