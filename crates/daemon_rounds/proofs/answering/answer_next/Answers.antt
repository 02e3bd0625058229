use Rattle.std.proofs.Common.{◌+◌, Err, Ok, sym, ap, ◌∙◌}
use Rattle.pack_rules.specs.declared.schedule.QueryKey.{QueryKey}
use Rattle.sql_texts.specs.Meaning.{is_accepted}
use Rattle.session_state.specs.Cut.{batch_of}
use Rattle.daemon_rounds.proofs.Answered.{accepted, answers_first, brings_batch, fewer, given, none_due, only_spent, own_place, spent, stands_cut, still_due, tellable}
use Rattle.daemon_rounds.proofs.answering.answer_next.Goals as goal

pub returns-in-Ok-None-clause-none : goal.returns-in-Ok-None-clause-none
returns-in-Ok-None-clause-none g c e =
    none_due c.args.state.now c.claim_cut.new.self c.is_state.ensures c.in-Ok-None.ensures.claimed (c.claim_cut.ensures.none.0 (c.in-Ok-None.is ∙ ap Ok c.in-Ok-None.field-0-is))

pub answer_accepted-requires : goal.answer_accepted-requires
answer_accepted-requires g c =
    let cut = c.in-Ok-Some.cut in
    let g = given c.args.state.now cut (sym c.in-Ok-Some.field-0-is ∙ c.in-Ok-Some.ensures.cut) in
    let is = accepted c.args.state.now c.is_state.ensures cut g c.claim_cut.new.self c.in-Ok-Some.ensures.claimed in
    ap is_accepted (ap (λ (k : QueryKey). k.text) c.key.ensures) ∙ is

pub unreachable-requires : goal.unreachable-requires
unreachable-requires g c =
    let cut = c.in-Ok-Some.cut in
    let g = given c.args.state.now cut (sym c.in-Ok-Some.field-0-is ∙ c.in-Ok-Some.ensures.cut) in
    let why = (c.commit.ensures.refused _).0 (c.in-Err-Superseded.is ∙ ap Err c.in-Err-Superseded.field-0-is) in
    let only = (only_spent c.args.state.now c.is_state.ensures cut g c.claim_cut.new.self c.in-Ok-Some.ensures.claimed _ why).0 in
    cc

pub unreachable-requires-in-Err-Stale : goal.unreachable-requires-in-Err-Stale
unreachable-requires-in-Err-Stale g c =
    let cut = c.in-Ok-Some.cut in
    let g = given c.args.state.now cut (sym c.in-Ok-Some.field-0-is ∙ c.in-Ok-Some.ensures.cut) in
    let why = (c.commit.ensures.refused _).0 (c.in-Err-Stale.is ∙ ap Err c.in-Err-Stale.field-0-is) in
    let only = (only_spent c.args.state.now c.is_state.ensures cut g c.claim_cut.new.self c.in-Ok-Some.ensures.claimed _ why).0 in
    cc

pub returns-in-Ok-commit-clause-answered : goal.returns-in-Ok-commit-clause-answered
returns-in-Ok-commit-clause-answered g c e =
    let s = c.args.state.now in
    let t = c.claim_cut.new.self in
    let cut = c.in-Ok-Some.cut in
    let g = given s cut (sym c.in-Ok-Some.field-0-is ∙ c.in-Ok-Some.ensures.cut) in
    let is = c.is_state.ensures in
    let claimed = c.in-Ok-Some.ensures.claimed in
    let done = c.in-Ok-commit.ensures.committed in
    let stands = stands_cut s _ cut c.in-Ok-Some.field-0-is c.in-Ok-Some.ensures.stands in
    (batch_of cut (t.counts.batches + 1) _, brings_batch s is cut g t claimed _ _ done stands c.in-Ok-commit.ensures.claims, own_place s is cut g t claimed _ _ done stands, tellable s is cut g t claimed _ _ done stands, answers_first s is cut g t claimed _ _ done stands)

pub returns-in-Ok-commit-clause-fewer : goal.returns-in-Ok-commit-clause-fewer
returns-in-Ok-commit-clause-fewer g c e =
    let s = c.args.state.now in
    let t = c.claim_cut.new.self in
    let cut = c.in-Ok-Some.cut in
    let g = given s cut (sym c.in-Ok-Some.field-0-is ∙ c.in-Ok-Some.ensures.cut) in
    fewer s c.is_state.ensures cut g t c.in-Ok-Some.ensures.claimed _ _ c.in-Ok-commit.ensures.committed (stands_cut s _ cut c.in-Ok-Some.field-0-is c.in-Ok-Some.ensures.stands)

pub returns-in-Err-NumbersSpent-clause-spent : goal.returns-in-Err-NumbersSpent-clause-spent
returns-in-Err-NumbersSpent-clause-spent g c e =
    let cut = c.in-Ok-Some.cut in
    let g = given c.args.state.now cut (sym c.in-Ok-Some.field-0-is ∙ c.in-Ok-Some.ensures.cut) in
    let why = (c.commit.ensures.refused _).0 (c.in-Err-NumbersSpent.is ∙ ap Err c.in-Err-NumbersSpent.field-0-is) in
    let t = c.claim_cut.new.self in
    let claimed = c.in-Ok-Some.ensures.claimed in
    (c.is_state.ensures, still_due c.args.state.now c.is_state.ensures cut g t claimed, spent c.args.state.now c.is_state.ensures cut g t claimed _ why)
