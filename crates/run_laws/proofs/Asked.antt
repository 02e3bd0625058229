-- A question that is ready is complete.
use Rattle.std.proofs.Common.{ℕ, ◌≤◌, false, List, [], refl, subst, arith}
use Rattle.std.specs.Prelude.{All}
use Rattle.std.proofs.lemmas.List.Elements.{All-contains}
use Rattle.osq_value.specs.declared.reading.Category.{Category}
use Rattle.entry_model.specs.declared.entry.Entry.{Entry}
use Rattle.program_words.specs.declared.command.QueryWords.{QueryWords}
use Rattle.program_words.specs.Bounds.{RunBounds}
use Rattle.session_model.specs.Given.{Given, Source}
use Rattle.run_laws.specs.Enough.{AreEnough}
use Rattle.run_laws.proofs.Ended.{full_few}
use Rattle.query_rounds.specs.Asking.{opened_behind}
use Rattle.query_rounds.specs.Rounds.{HasMore}
use Rattle.osq_program.specs.declared.status.Status.{Status}
use Rattle.osq_program.specs.declared.status.Status.TheVariants.{TicksSpent}
use Rattle.osq_program.specs.Answers.{IsSpentStatus, IsUsageStatus}
use Rattle.osq_program.specs.Observed.{Observed}
use Rattle.osq_program.specs.Querying.{HasAnswer, IsPosed, IsQuery, IsQueryGiven, QueryLeaves, causes_of}
use Rattle.osq_program.specs.Setups.{sources_named}
use Rattle.run_laws.specs.Completeness.{IsComplete}
use Rattle.run_laws.specs.Ready.{IsQueryReady, NoneFails}
use Rattle.run_laws.proofs.Accepted.{no_text_fault, not_refused_in}
use Rattle.run_laws.proofs.Replayed.{either}
use Rattle.run_laws.proofs.Settled.{NoCause, settled}
use Rattle.run_laws.proofs.Sources.{not_shrunk}

-- rounds that are enough leave no source that has more
no_more : (given : Given) (kept entries : List Entry) (rounds : ℕ) → 1 ≤ given.records → All (AreEnough given.records kept rounds) given.sources → HasMore given kept (opened_behind kept) rounds entries → ⊥
no_more given kept entries rounds some enough more =
    let few = full_few given.config.categories given.records rounds kept more.source some (more.each some) in
    let many = All-contains (AreEnough given.records kept rounds) given.sources more.source enough more.among in
    omega (arith, few, many)

-- what a question is over, whoever the host is
abbrev given_over : List Source → List Category → ℕ → Given
given_over sources paths records = record {
  host = record { identifier = []; platform = []; agent = [] };
  documents = [];
  config = record { events_expiry = 0; events_max = 0; is_batch_form = false; schedule = []; packs = []; categories = paths };
  sources = sources;
  records = records;
}

module _ (words : QueryWords) (seen : Observed) (bounds : RunBounds words.start words.step words.ticks words.records words.sources) (fails : NoneFails seen) (ready : IsQueryReady words seen) where
  abbrev over : IsPosed words seen → Given
  over posed = given_over (sources_named words.sources seen.all_bytes) posed.watched.paths words.records

  is_over : (posed : IsPosed words seen) → IsQueryGiven words seen posed (over posed)
  is_over posed = record { sources = refl; paths = refl; records = refl }

  no_cause : NoCause (causes_of words seen)
  no_cause = record {
    query = λ place kind. no_text_fault words.text place kind ready.accepted.accepted;
    files = λ cause. fails.files cause.1;
    refused = λ kind key cause. not_refused_in seen.files_tell seen.file ready.files_tell words.config kind key ready.accepted.watched cause.1;
    keeper = λ cause. fails.keeper cause.1;
    unfit = λ cause. (cause.1 ready.ready.keeper_tells).0 ready.ready.legal;
    moment = λ moment cause.
        let early = ready.early moment cause.2 in
        let late = cause.3 in
        omega (arith, early, late);
    source = λ name cause. fails.sources cause.2.0 cause.2.2;
    shrank = λ name kept found cause. not_shrunk words.sources seen name kept found ready.ready.keeper_tells ready.ready.source_tells ready.ready.there cause.2;
    numbers = λ cause. ready.numbers cause.0 (over cause.0) (is_over cause.0) (cause.2 ready.ready.keeper_tells ready.ready.source_tells ready.ready.legal (over cause.0) (is_over cause.0));
    sink = λ cause. either (λ failed. fails.results failed.1) fails.status cause.1;
  }

  -- rounds that left more were too few
  not_more : HasAnswer words seen false → ⊥
  not_more has =
      let given = over has.posed in
      let answer = has.answer ready.ready.keeper_tells ready.ready.source_tells ready.ready.legal given (is_over has.posed) in
      let more = answer.more has.end_is in
      let has_more = more.1 bounds.some_ticks in
      no_more given seen.kept_before answer.entries words.ticks bounds.some_records ready.ready.enough (subst (λ (n : ℕ). HasMore given seen.kept_before (opened_behind seen.kept_before) n answer.entries) more.0 has_more)

  unspent : (status : Status) → QueryLeaves words seen status → IsSpentStatus status → ⊥
  unspent TicksSpent leaves spent = not_more leaves.0
  unspent _ leaves spent = absurd spent

  pub asked : (status : Status) → IsQuery words seen status → ¬ IsUsageStatus status → IsComplete status
  asked status does usage = settled (causes_of words seen) status no_cause does.cause (unspent status does.leaves) usage
