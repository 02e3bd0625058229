use Rattle.std.proofs.Common.{◌≡◌, refl, ℕ, ◌-◌, List, ap, sym, subst, ◌∙◌, map, length}
use Rattle.osq_value.specs.declared.source.SourceName.{SourceName}
use Rattle.daemon_rounds.specs.declared.setup.Setup.{Setup}
use Rattle.replay_rounds.specs.Called.{HasSealedOf, HasStoppedOf}
use Rattle.replay_rounds.specs.Stopping.{IsBehindLoading}
use Rattle.replay_rounds.specs.declared.refused.RunError.{RunError}
use Rattle.replay_rounds.specs.declared.refused.RunError.TheVariants.{MomentTooLarge, SourceFault, SourceShrank, NumbersSpent, SinkFault}
use Rattle.osq_program.specs.Answers.{IsDoneStatus}
use Rattle.osq_program.specs.Ending.{IsAnswerTo}
use Rattle.osq_program.proofs.Ended.{failed_before, rose_behind}
use Rattle.osq_program.specs.Telling.{MayReplayTell, TellsSome}
use Rattle.osq_program.specs.declared.status.Status.TheVariants.{OutOfMemory}
use Rattle.osq_program.proofs.Endings.{ran_telling_if, replay_may, stopped_telling_if, untold_replay}
use Rattle.osq_program.proofs.KeeperCalls.{answer_keeper, answer_not_done, caused_keeper, refused_keeper, starved_keeper, stopped_keeper, stopped_not_done}
use Rattle.osq_program.proofs.Replays.{answered, fails_there, given_is, is_within, no_memory, not_done, ran_if, refused_config, shrank_by, stopped_if}
use Rattle.osq_program.proofs.Setups.{for_ticks, setup_distinct, setup_forwards, setup_host, setup_paired, setup_ticks}
use Rattle.osq_program.proofs.Toldings.{stopped_cause, tells_line, tells_unconfigured, unconfigured_cause}
use Rattle.osq_program.proofs.replay.run_replay.Goals as goal

pub returns-in-Err-clause-does : goal.returns-in-Err-clause-does
returns-in-Err-clause-does g c =
    refused_config g.T.TakesRound.order _ _ c.refuse_unconfigured.result (unconfigured_cause _ _ _ c.in-Err.refused c.refuse_unconfigured.result c.in-Err.ensures.cause c.refuse_unconfigured.ensures.same) refl (λ tells. refl) (λ tells. refl)

pub returns-in-Err-clause-told : goal.returns-in-Err-clause-told
returns-in-Err-clause-told g c =
    untold_replay g.T.TakesRound.order c.args.words.now _ c.refuse_unconfigured.result refl
    (tells_unconfigured (MayReplayTell c.args.words.now _) _ _ _ _ c.in-Err.refused c.refuse_unconfigured.result c.in-Err.ensures.cause c.refuse_unconfigured.ensures.same
    (λ file is. (file, is, refl)) (replay_may c.args.words.now _ _) c.refuse_unconfigured.ensures.told)

pub returns-in_default-clause-does : goal.returns-in_default-clause-does
returns-in_default-clause-does g c = no_memory g.T.TakesRound.order _ _ _ c.starve.ensures.same refl (λ tells. refl) (λ tells. refl)

pub returns-in_default-clause-told : goal.returns-in_default-clause-told
returns-in_default-clause-told g c =
    untold_replay g.T.TakesRound.order c.args.words.now _ c.starve.result refl
    (subst (TellsSome (MayReplayTell c.args.words.now _) _) (sym c.starve.ensures.same) (tells_line (MayReplayTell c.args.words.now _) _ OutOfMemory refl c.starve.ensures.told))

pub run_session-requires-clause-configuration : goal.run_session-requires-clause-configuration
run_session-requires-clause-configuration g c κs within = c.in-Ok.ensures.config.holds

pub run_session-requires-clause-bounded : goal.run_session-requires-clause-bounded
run_session-requires-clause-bounded g c κs within = c.in-Ok.ensures.bounded

pub run_session-requires-clause-paired : goal.run_session-requires-clause-paired
run_session-requires-clause-paired g c κs within =
    setup_paired c.in-Ok-setup_of.setup c.args.words.now _ c.in-Ok-setup_of.ensures (c.as_mut_slice.ensures.len ∙ c.requires.sources)

pub run_session-requires-clause-distinct : goal.run_session-requires-clause-distinct
run_session-requires-clause-distinct g c κs within = setup_distinct c.in-Ok-setup_of.setup c.args.words.now c.in-Ok-setup_of.ensures c.requires.bounded.0.sources_in.own_paths

pub run_session-requires-clause-ticks : goal.run_session-requires-clause-ticks
run_session-requires-clause-ticks g c κs within = setup_ticks c.in-Ok-setup_of.setup c.args.words.now c.in-Ok-setup_of.ensures c.requires.bounded.0.some_ticks

pub run_session-requires-clause-host : goal.run_session-requires-clause-host
run_session-requires-clause-host g c κs within = λ forwards. setup_host c.in-Ok-setup_of.setup c.args.words.now c.in-Ok-setup_of.ensures c.requires.bounded.1

pub returns-in-Ok-run_session-clause-link : goal.returns-in-Ok-run_session-clause-link
returns-in-Ok-run_session-clause-link g c = λ quiet. c.in-Ok-run_session.ensures.unlinked (setup_forwards c.in-Ok-setup_of.setup c.args.words.now c.in-Ok-setup_of.ensures ∙ quiet)

pub returns-clause-link : goal.returns-clause-link
returns-clause-link g c = λ quiet. c.in-Err-run_session.ensures.unlinked (setup_forwards c.in-Ok-setup_of.setup c.args.words.now c.in-Ok-setup_of.ensures ∙ quiet)

pub returns-in-Ok-run_session-clause-does : goal.returns-in-Ok-run_session-clause-does
returns-in-Ok-run_session-clause-does g c =
    let s = c.in-Ok-run_session.ensures in
    let order = g.T.TakesRound.order in
    let words = c.args.words.now in
    let setup = c.in-Ok-setup_of.setup in
    let left = g.S.Source.left in
    let bytes = sym (ap (map left) c.as_mut_slice.ensures.value) in
    let is = given_is left words _ setup c.in-Ok.configured.config c.in-Ok.configured.documents c.in-Ok.configured.notes _ c.in-Ok-setup_of.ensures bytes c.in-Ok.ensures.config in
    let same = setup_forwards setup words c.in-Ok-setup_of.ensures in
    let count = c.faults_since-faults.ensures ∙ ap (λ (n : ℕ). g.L.Link.faults c.run_session.new.link - n) c.fault_count-before.ensures in
    ran_if order words _ c.finish.result _ is setup.forward same c.in-Ok-run_session.ended (for_ticks setup words _ _ _ _ _ c.in-Ok-setup_of.ensures s.done) _ s.told s.fit _ count _
    (rose_behind _ _ _ s.later.2) c.finish.ensures.done c.finish.ensures.spent c.finish.ensures.cause s.kept s.written

pub answer_to-status-requires-clause-fault : goal.answer_to-status-requires-clause-fault
answer_to-status-requires-clause-fault g c = λ place is.
    let fails = c.in-Err-run_session.ensures.fault c.in-Err-run_session.refused place refl is in
    is_within c.as_mut_slice.result.now _ place fails.source
    (c.as_mut_slice.ensures.len ∙ c.requires.sources ∙ sym (ap (λ (sources : List SourceName). length sources) c.as_slice.ensures)) fails.was

pub answer_to-status-requires-clause-shrank : goal.answer_to-status-requires-clause-shrank
answer_to-status-requires-clause-shrank g c = λ place kept found is.
    let h = c.in-Err-run_session.ensures.shrank c.in-Err-run_session.refused place kept found refl is in
    is_within c.as_mut_slice.result.now _ place h.2.source
    (c.as_mut_slice.ensures.len ∙ c.requires.sources ∙ sym (ap (λ (sources : List SourceName). length sources) c.as_slice.ensures)) h.2.source_there

pub returns-clause-does : goal.returns-clause-does
returns-clause-does g c =
    let s = c.in-Err-run_session.ensures in
    let r = c.in-Err-run_session.refused in
    let left = g.S.Source.left in
    let setup = c.in-Ok-setup_of.setup in
    let bytes = sym (ap (map left) c.as_mut_slice.ensures.value) in
    let is = given_is left _ _ setup c.in-Ok.configured.config c.in-Ok.configured.documents c.in-Ok.configured.notes _ c.in-Ok-setup_of.ensures bytes c.in-Ok.ensures.config in
    let answer = subst (λ (sources : List SourceName). IsAnswerTo sources r.error c.answer_to-status.result) c.as_slice.ensures c.answer_to-status.ensures in
    let same = setup_forwards setup c.args.words.now c.in-Ok-setup_of.ensures in
    let fit = λ (e : RunError) (is : r.error ≡ e) (behind : IsBehindLoading e) (tells : g.K.Keeper.tells). s.fit_behind tells (subst IsBehindLoading (sym is) behind) in
    stopped_if g.T.TakesRound.order c.args.words.now _ c.stop.result _ is setup.forward same (λ spends. stopped_cause _ c.answer_to-status.result c.stop.result c.stop.ensures.same
    (answered _ c.args.words.now.sources r.error _ answer
    (λ e. ((_, is), s.keeper_cause r refl e))
    (λ e. ((_, is), λ tells. (s.illegal tells r refl e, s.refused tells r refl e), λ tells. s.unfit tells e))
    (λ moment e. ((_, is), fit (MomentTooLarge moment) e tt, s.moment r moment refl e))
    (λ place name e named. ((_, is), fit (SourceFault place) e tt, (place, named, fails_there g.S.Source.faults place _ _ _ _ _ c.as_mut_slice.ensures.value c.as_mut_slice.ensures.len (s.fault r place refl e))))
    (λ place kept found name e named.
    let h = s.shrank r place kept found refl e in
    ((_, is), fit (SourceShrank place kept found) e tt, shrank_by left _ _ setup.sources _ h.0 place kept found name (ap (λ (s : Setup). s.sources) c.in-Ok-setup_of.ensures) bytes h.1 h.2 named))
    (λ e. spends (fit NumbersSpent e tt) (s.spent r refl e))
    (λ e. ((_, is), fit SinkFault e tt, failed_before _ _ _ _ c.stop.ensures.later (s.sink_cause r refl e)))))
    s.kept s.written

pub returns-in-Ok-run_session-clause-told : goal.returns-in-Ok-run_session-clause-told
returns-in-Ok-run_session-clause-told g c =
    let s = c.in-Ok-run_session.ensures in
    let order = g.T.TakesRound.order in
    let words = c.args.words.now in
    let setup = c.in-Ok-setup_of.setup in
    let left = g.S.Source.left in
    let bytes = sym (ap (map left) c.as_mut_slice.ensures.value) in
    let is = given_is left words _ setup c.in-Ok.configured.config c.in-Ok.configured.documents c.in-Ok.configured.notes _ c.in-Ok-setup_of.ensures bytes c.in-Ok.ensures.config in
    let same = setup_forwards setup words c.in-Ok-setup_of.ensures in
    ran_telling_if order words _ c.finish.result _ is setup.forward same _ _ (rose_behind _ _ _ s.later.2) s.told c.finish.ensures.told

pub returns-clause-told : goal.returns-clause-told
returns-clause-told g c =
    let s = c.in-Err-run_session.ensures in
    let r = c.in-Err-run_session.refused in
    let order = g.T.TakesRound.order in
    let words = c.args.words.now in
    let setup = c.in-Ok-setup_of.setup in
    let left = g.S.Source.left in
    let bytes = sym (ap (map left) c.as_mut_slice.ensures.value) in
    let is = given_is left words _ setup c.in-Ok.configured.config c.in-Ok.configured.documents c.in-Ok.configured.notes _ c.in-Ok-setup_of.ensures bytes c.in-Ok.ensures.config in
    let same = setup_forwards setup words c.in-Ok-setup_of.ensures in
    let count = c.faults_since-faults-in-Err-run_session.ensures ∙ ap (λ (n : ℕ). g.L.Link.faults c.run_session.new.link - n) c.fault_count-before.ensures in
    let answer = subst (λ (sources : List SourceName). IsAnswerTo sources r.error c.answer_to-status.result) c.as_slice.ensures c.answer_to-status.ensures in
    stopped_telling_if order words _ _ is setup.forward same words.sources r.error c.answer_to-status.result c.stop.result (g.O.Sink.written c.run_session.new.status) _ _ answer (rose_behind _ _ _ s.later.2) _ count
    r.numbers s.stops (λ same. ap g.O.Sink.written same) (λ tells. failed_before _ _ _ _ c.stop.ensures.later (s.stops_telling tells)) c.stop.ensures.told c.stop.ensures.same

pub returns-in-Err-clause-sealed : goal.returns-in-Err-clause-sealed
returns-in-Err-clause-sealed g c counts off done =
    absurd (not_done _ c.refuse_unconfigured.result (unconfigured_cause _ _ _ c.in-Err.refused c.refuse_unconfigured.result c.in-Err.ensures.cause c.refuse_unconfigured.ensures.same) done)

pub returns-in-Err-clause-stopped : goal.returns-in-Err-clause-stopped
returns-in-Err-clause-stopped g c counts off failed =
    absurd (caused_keeper _ c.refuse_unconfigured.result (unconfigured_cause _ _ _ c.in-Err.refused c.refuse_unconfigured.result c.in-Err.ensures.cause c.refuse_unconfigured.ensures.same) failed)

pub returns-in_default-clause-sealed : goal.returns-in_default-clause-sealed
returns-in_default-clause-sealed g c counts off done = absurd (subst IsDoneStatus c.starve.ensures.same done)

pub returns-in_default-clause-stopped : goal.returns-in_default-clause-stopped
returns-in_default-clause-stopped g c counts off failed = absurd (starved_keeper c.starve.result c.starve.ensures.same failed)

pub returns-in-Ok-run_session-clause-sealed : goal.returns-in-Ok-run_session-clause-sealed
returns-in-Ok-run_session-clause-sealed g c counts off done =
    let is = c.in-Ok-setup_of.ensures in
    subst (λ (s : Setup). HasSealedOf g.K.Keeper c.args.outside.now.keeper c.run_session.new.keeper s.ticks) is (c.in-Ok-run_session.ensures.sealed counts (setup_forwards c.in-Ok-setup_of.setup c.args.words.now is ∙ off))

pub returns-in-Ok-run_session-clause-stopped : goal.returns-in-Ok-run_session-clause-stopped
returns-in-Ok-run_session-clause-stopped g c counts off failed = absurd (refused_keeper _ c.finish.result c.finish.ensures.cause failed)

pub returns-clause-sealed : goal.returns-clause-sealed
returns-clause-sealed g c counts off done =
    absurd (stopped_not_done c.answer_to-status.result c.stop.result c.stop.ensures.same (answer_not_done _ c.in-Err-run_session.refused.error c.answer_to-status.result c.answer_to-status.ensures) done)

pub returns-clause-stopped : goal.returns-clause-stopped
returns-clause-stopped g c counts off failed =
    let is = c.in-Ok-setup_of.ensures in
    let why = answer_keeper _ c.in-Err-run_session.refused.error c.answer_to-status.result c.answer_to-status.ensures (stopped_keeper c.answer_to-status.result c.stop.result c.stop.ensures.same failed) in
    subst (λ (s : Setup). HasStoppedOf g.K.Keeper c.args.outside.now.keeper c.run_session.new.keeper s.ticks) is (c.in-Err-run_session.ensures.failed counts (setup_forwards c.in-Ok-setup_of.setup c.args.words.now is ∙ off) c.in-Err-run_session.refused refl why)
