use Rattle.std.proofs.Common.{◌≡◌, Err, Ok, ap, ◌∙◌}
use Rattle.pack_rules.specs.declared.schedule.QueryKey.{QueryKey}
use Rattle.sql_texts.specs.Meaning.{is_accepted}
use Rattle.shared_store.specs.Words.{start_of}
use Rattle.thread_jobs.specs.declared.error.JobError.TheVariants.{NumbersSpent}
use Rattle.thread_jobs.proofs.Answered.{answers_cut, answers_next, answers_nothing}
use Rattle.thread_jobs.proofs.Worked.{accepted_at, none_at}
use Rattle.thread_jobs.proofs.working.answer_next.Goals as goal

pub returns-in-Err-clause-own : goal.returns-in-Err-clause-own
returns-in-Err-clause-own g c =
    answers_cut (start_of c.args.store.now) c.args.seat.now c.claim_cut.new.seat _ _ c.claim_cut.result c.claim_cut.ensures.turn

pub returns-in-Ok-None-clause-own : goal.returns-in-Ok-None-clause-own
returns-in-Ok-None-clause-own g c =
    answers_cut (start_of c.args.store.now) c.args.seat.now c.claim_cut.new.seat _ _ c.claim_cut.result c.claim_cut.ensures.turn

pub returns-in-Ok-None-clause-none : goal.returns-in-Ok-None-clause-none
returns-in-Ok-None-clause-none g c is =
    none_at (start_of c.args.store.now) c.args.seat.now c.claim_cut.new.seat _ _ c.claim_cut.result (c.in-Ok-None.is ∙ ap Ok c.in-Ok-None.field-0-is) c.claim_cut.ensures.turn

pub answer_accepted-requires : goal.answer_accepted-requires
answer_accepted-requires g c =
    ap is_accepted (ap (λ (k : QueryKey). k.text) c.key.ensures)
    ∙ accepted_at (start_of c.args.store.now) c.args.seat.now c.claim_cut.new.seat _ _ c.claim_cut.result c.in-Ok-Some.cut (c.in-Ok-Some.is ∙ ap Ok c.in-Ok-Some.field-0-is) c.claim_cut.ensures.turn

pub returns-in-Ok-commit-clause-own : goal.returns-in-Ok-commit-clause-own
returns-in-Ok-commit-clause-own g c =
    answers_next (start_of c.args.store.now) c.args.seat.now c.commit.new.seat c.claim_cut.new.seat _ _ c.claim_cut.result c.claim_cut.ensures.seat.0 c.claim_cut.ensures.turn c.commit.ensures.own

pub returns-in-Err-commit-clause-own : goal.returns-in-Err-commit-clause-own
returns-in-Err-commit-clause-own g c =
    answers_next (start_of c.args.store.now) c.args.seat.now c.commit.new.seat c.claim_cut.new.seat _ _ c.claim_cut.result c.claim_cut.ensures.seat.0 c.claim_cut.ensures.turn c.commit.ensures.own

pub returns-in_default-clause-own : goal.returns-in_default-clause-own
returns-in_default-clause-own g c =
    answers_nothing (start_of c.args.store.now) c.args.seat.now c.release.new.seat c.claim_cut.new.seat _ _ c.in-Ok-Some.cut c.claim_cut.result c.claim_cut.ensures.seat.0 c.claim_cut.ensures.turn c.release.ensures.turn

pub returns-in-Err-commit-clause-spent : goal.returns-in-Err-commit-clause-spent
returns-in-Err-commit-clause-spent g c is =
    let spent : c.in-Err-commit.error ≡ NumbersSpent = (cc) in
    c.commit.ensures.spent (c.in-Err-commit.is ∙ ap Err spent)
