use Rattle.std.proofs.Common.{◌≡◌, ℕ, List, Some, Err, refl, ap, sym, ◌∙◌, subst, inl, inr, arith}
use Rattle.pack_rules.specs.declared.schedule.Form.{Form}
use Rattle.daemon_rounds.specs.Keeping.{IsWhole}
use Rattle.daemon_rounds.specs.Telling.{AreLinesOf}
use Rattle.daemon_rounds.specs.Ticking.{asks_again}
use Rattle.daemon_rounds.specs.declared.error.FinishError.{FinishError}
use Rattle.daemon_rounds.specs.declared.error.FinishError.TheVariants as finish
use Rattle.replay_rounds.specs.Refusals.{tick_numbers, unfinished_by}
use Rattle.replay_rounds.specs.Ticked.{IsWholeTick}
use Rattle.replay_rounds.proofs.Called.{failed_ticks, tick_begins}
use Rattle.replay_rounds.proofs.Filled.{filled_moment, filled_on, filled_tellable, ready_behind}
use Rattle.replay_rounds.specs.declared.refused.Refused.{Refused}
use Rattle.replay_rounds.specs.declared.refused.RunError.{RunError}
use Rattle.replay_rounds.proofs.Causes.{finished_numbers, unfilled_numbers, unfilled_fault, unfilled_spent, unfilled_keeper, unfilled_sink, unfilled_refused, unfilled_late, unfilled_shrank, unfinished_spent, unfinished_keeper, unfinished_sink, unfinished_fault, unfinished_refused, unfinished_late, unfinished_shrank}
use Rattle.replay_rounds.proofs.ticking.take_tick.Goals as goal

pub returns-in-Err-clause-sealed : goal.returns-in-Err-clause-sealed
returns-in-Err-clause-sealed g c refused is error =
    let same : c.unfilled.result ≡ refused = (cc) in
    absurd (unfilled_sink c.in-Err.error (sym c.unfilled.ensures.error ∙ ap (λ (r : Refused). r.error) same ∙ error))

pub returns-in-Err-clause-partly : goal.returns-in-Err-clause-partly
returns-in-Err-clause-partly g c told refused is error =
    let same : c.unfilled.result ≡ refused = (cc) in
    absurd (unfilled_sink c.in-Err.error (sym c.unfilled.ensures.error ∙ ap (λ (r : Refused). r.error) same ∙ error))

pub returns-in-Err-clause-fault : goal.returns-in-Err-clause-fault
returns-in-Err-clause-fault g c refused place is error =
    let same : c.unfilled.result ≡ refused = (cc) in
    let why = unfilled_fault c.in-Err.error place (sym c.unfilled.ensures.error ∙ ap (λ (r : Refused). r.error) same ∙ error) in
    c.fill_tick.ensures.fault place (c.in-Err.is ∙ ap Err why)

pub returns-in-Err-clause-opened : goal.returns-in-Err-clause-opened
returns-in-Err-clause-opened g c refused is =
    let same : c.unfilled.result ≡ refused = (cc) in
    let because = sym c.unfilled.ensures.error ∙ ap (λ (r : Refused). r.error) same in
    (λ e. unfilled_refused c.in-Err.error (because ∙ e), λ moment e. unfilled_late c.in-Err.error moment (because ∙ e), λ place kept found e. unfilled_shrank c.in-Err.error place kept found (because ∙ e))

pub returns-in-Err-clause-spent : goal.returns-in-Err-clause-spent
returns-in-Err-clause-spent g c refused is error =
    let same : c.unfilled.result ≡ refused = (cc) in
    let why = unfilled_spent c.in-Err.error (sym c.unfilled.ensures.error ∙ ap (λ (r : Refused). r.error) same ∙ error) in
    inr (c.fill_tick.ensures.spent (c.in-Err.is ∙ ap Err why))

pub returns-in-Err-clause-keeper_cause : goal.returns-in-Err-clause-keeper_cause
returns-in-Err-clause-keeper_cause g c refused is error =
    let same : c.unfilled.result ≡ refused = (cc) in
    absurd (unfilled_keeper c.in-Err.error (sym c.unfilled.ensures.error ∙ ap (λ (r : Refused). r.error) same ∙ error))

pub returns-in-Err-clause-sink_cause : goal.returns-in-Err-clause-sink_cause
returns-in-Err-clause-sink_cause g c refused is error =
    let same : c.unfilled.result ≡ refused = (cc) in
    absurd (unfilled_sink c.in-Err.error (sym c.unfilled.ensures.error ∙ ap (λ (r : Refused). r.error) same ∙ error))

pub finish_tick-requires-clause-goes_on : goal.finish_tick-requires-clause-goes_on
finish_tick-requires-clause-goes_on g c =
    filled_on g.T.TakesRound.order g.S.Source.tells g.S.Source.left g.S.Source.faults c.args.basis.now.setup c.args.basis.now.configured.config c.args.basis.now.configured.documents c.args.tick.configured_at c.args.tick.moment c.args.feeds.now c.fill_tick.new.feeds c.args.sources.now c.fill_tick.new.sources c.args.state.now c.fill_tick.new.state c.in-Ok.ensures.fills g.K.Keeper.tells (g.K.Keeper.kept c.args.keeper.now) c.requires.goes_on

pub finish_tick-requires-clause-tellable : goal.finish_tick-requires-clause-tellable
finish_tick-requires-clause-tellable g c =
    filled_tellable g.T.TakesRound.order g.S.Source.tells g.S.Source.left g.S.Source.faults c.args.basis.now.setup c.args.basis.now.configured.config c.args.basis.now.configured.documents c.args.tick.configured_at c.args.tick.moment c.args.feeds.now c.fill_tick.new.feeds c.args.sources.now c.fill_tick.new.sources c.args.state.now c.fill_tick.new.state c.in-Ok.ensures.fills c.requires.ready.tellable

pub returns-in-Ok-finish_tick-clause-done : goal.returns-in-Ok-finish_tick-clause-done
returns-in-Ok-finish_tick-clause-done g c =
    let finished = c.in-Ok-finish_tick.ensures.done in
    record {
      settled = finished.settled;
      done = record { filled = c.fill_tick.new.state; fills = c.in-Ok.ensures.fills; settles = finished.settles };
      taken = finished.taken;
      last_is = c.in-Ok.ensures.last;
      kept = finished.kept;
      told = λ told.
          let (lines, are, is) = finished.told told in
          (lines, subst (λ (before : Form). AreLinesOf c.args.basis.now.setup.host.identifier before finished.settled.tail lines) c.form-form.ensures (subst (λ (host : List ℕ). AreLinesOf host c.form-form.result finished.settled.tail lines) c.as_str-host.ensures are), is);
    }

pub returns-in-Ok-finish_tick-clause-ready : goal.returns-in-Ok-finish_tick-clause-ready
returns-in-Ok-finish_tick-clause-ready g c =
    let finished = c.in-Ok-finish_tick.ensures.done in
    let before = c.requires.ready.before in
    let later = c.requires.later in
    ready_behind c.fill_tick.new.feeds (asks_again c.args.basis.now.configured.config c.args.tick.configured_at c.args.tick.moment) c.args.tick.configured_at c.in-Ok.last c.args.tick.moment c.fill_tick.new.state finished.settled c.finish_tick.new.state
    (filled_moment g.T.TakesRound.order g.S.Source.tells g.S.Source.left g.S.Source.faults c.args.basis.now.setup c.args.basis.now.configured.config c.args.basis.now.configured.documents c.args.tick.configured_at c.args.tick.moment c.args.feeds.now c.fill_tick.new.feeds c.args.sources.now c.fill_tick.new.sources c.args.state.now c.fill_tick.new.state c.in-Ok.ensures.fills)
    c.in-Ok.ensures.going finished.settles finished.taken (omega (arith, before, later)) c.in-Ok.ensures.last

pub returns-in-Err-finish_tick-clause-kept : goal.returns-in-Err-finish_tick-clause-kept
returns-in-Err-finish_tick-clause-kept g c told =
    let finished = c.finish_tick.ensures in
    by_cause c.in-Err-finish_tick.error refl
  where
    by_cause : (e : FinishError) → c.in-Err-finish_tick.error ≡ e → IsWholeTick g.T.TakesRound.order g.S.Source.tells g.S.Source.left g.S.Source.faults c.args.basis.now.setup c.args.basis.now.configured.config c.args.basis.now.configured.documents c.args.tick.configured_at c.args.tick.moment (g.K.Keeper.kept c.args.keeper.now) (g.K.Keeper.kept c.finish_tick.new.keeper) c.args.feeds.now c.fill_tick.new.feeds c.args.sources.now c.fill_tick.new.sources c.args.state.now
    by_cause finish.NumbersSpent e = inl (c.finish_tick.ensures.unkept told (inl (c.in-Err-finish_tick.is ∙ ap Err e)))
    by_cause finish.NoMemory e = inl (c.finish_tick.ensures.unkept told (inr (c.in-Err-finish_tick.is ∙ ap Err e)))
    by_cause finish.KeeperFault e = whole (c.finish_tick.ensures.whole told (c.in-Err-finish_tick.is ∙ ap Err e))
      where
        whole : IsWhole (g.K.Keeper.kept c.args.keeper.now) (g.K.Keeper.kept c.finish_tick.new.keeper) c.fill_tick.new.state → IsWholeTick g.T.TakesRound.order g.S.Source.tells g.S.Source.left g.S.Source.faults c.args.basis.now.setup c.args.basis.now.configured.config c.args.basis.now.configured.documents c.args.tick.configured_at c.args.tick.moment (g.K.Keeper.kept c.args.keeper.now) (g.K.Keeper.kept c.finish_tick.new.keeper) c.args.feeds.now c.fill_tick.new.feeds c.args.sources.now c.fill_tick.new.sources c.args.state.now
        whole (inl same) = inl same
        whole (inr (settled, settles, grown)) = inr (settled, record { filled = c.fill_tick.new.state; fills = c.in-Ok.ensures.fills; settles = settles }, grown)
    by_cause finish.SinkFault e =
        let partly = c.finish_tick.ensures.partly (c.in-Err-finish_tick.is ∙ ap Err e) in
        inr (partly.settled, record { filled = c.fill_tick.new.state; fills = c.in-Ok.ensures.fills; settles = partly.settles }, partly.kept told)

pub returns-in-Err-finish_tick-clause-sealed : goal.returns-in-Err-finish_tick-clause-sealed
returns-in-Err-finish_tick-clause-sealed g c refused is error =
    let same : c.unfinished.result ≡ refused = (cc) in
    let why = unfinished_sink c.in-Err-finish_tick.error (sym c.unfinished.ensures.error ∙ ap (λ (r : Refused). r.error) same ∙ error) in
    let partly = c.finish_tick.ensures.partly (c.in-Err-finish_tick.is ∙ ap Err why) in
    record {
      settled = partly.settled;
      done = record { filled = c.fill_tick.new.state; fills = c.in-Ok.ensures.fills; settles = partly.settles };
      taken = partly.taken;
      kept = partly.kept;
    }

pub returns-in-Err-finish_tick-clause-partly : goal.returns-in-Err-finish_tick-clause-partly
returns-in-Err-finish_tick-clause-partly g c told refused is error =
    let same : c.unfinished.result ≡ refused = (cc) in
    let why = unfinished_sink c.in-Err-finish_tick.error (sym c.unfinished.ensures.error ∙ ap (λ (r : Refused). r.error) same ∙ error) in
    let partly = c.finish_tick.ensures.partly (c.in-Err-finish_tick.is ∙ ap Err why) in
    let (lines, count, are, written) = partly.told told in
    record {
      settled = partly.settled;
      done = record { filled = c.fill_tick.new.state; fills = c.in-Ok.ensures.fills; settles = partly.settles };
      kept = partly.kept;
      lines = lines;
      count = count;
      told = subst (λ (before : Form). AreLinesOf c.args.basis.now.setup.host.identifier before partly.settled.tail lines) c.form-form.ensures (subst (λ (host : List ℕ). AreLinesOf host c.form-form.result partly.settled.tail lines) c.as_str-host.ensures are);
      written = written;
    }

pub returns-in-Err-finish_tick-clause-unwritten : goal.returns-in-Err-finish_tick-clause-unwritten
returns-in-Err-finish_tick-clause-unwritten g c other =
    c.in-Err-finish_tick.ensures.unwritten
    (λ is. let why : c.in-Err-finish_tick.error ≡ finish.SinkFault = (cc) in
    other (c.unfinished.ensures.error ∙ ap unfinished_by why))

pub returns-in-Err-finish_tick-clause-fault : goal.returns-in-Err-finish_tick-clause-fault
returns-in-Err-finish_tick-clause-fault g c refused place is error =
    let same : c.unfinished.result ≡ refused = (cc) in
    absurd (unfinished_fault c.in-Err-finish_tick.error place (sym c.unfinished.ensures.error ∙ ap (λ (r : Refused). r.error) same ∙ error))

pub returns-in-Err-finish_tick-clause-opened : goal.returns-in-Err-finish_tick-clause-opened
returns-in-Err-finish_tick-clause-opened g c refused is =
    let same : c.unfinished.result ≡ refused = (cc) in
    let because = sym c.unfinished.ensures.error ∙ ap (λ (r : Refused). r.error) same in
    (λ e. unfinished_refused c.in-Err-finish_tick.error (because ∙ e), λ moment e. unfinished_late c.in-Err-finish_tick.error moment (because ∙ e), λ place kept found e. unfinished_shrank c.in-Err-finish_tick.error place kept found (because ∙ e))

pub returns-in-Err-finish_tick-clause-spent : goal.returns-in-Err-finish_tick-clause-spent
returns-in-Err-finish_tick-clause-spent g c refused is error =
    let same : c.unfinished.result ≡ refused = (cc) in
    let why = unfinished_spent c.in-Err-finish_tick.error (sym c.unfinished.ensures.error ∙ ap (λ (r : Refused). r.error) same ∙ error) in
    inl (c.fill_tick.new.state, c.in-Ok.ensures.fills, c.finish_tick.ensures.spent (c.in-Err-finish_tick.is ∙ ap Err why))

pub returns-in-Err-finish_tick-clause-unkept : goal.returns-in-Err-finish_tick-clause-unkept
returns-in-Err-finish_tick-clause-unkept g c told refused is not_keeper not_sink = by_cause c.in-Err-finish_tick.error refl
  where
    because : refused.error ≡ unfinished_by c.in-Err-finish_tick.error
    because = let same : c.unfinished.result ≡ refused = (cc) in sym (ap (λ (r : Refused). r.error) same) ∙ c.unfinished.ensures.error

    by_cause : (e : FinishError) → c.in-Err-finish_tick.error ≡ e → g.K.Keeper.kept c.finish_tick.new.keeper ≡ g.K.Keeper.kept c.args.keeper.now
    by_cause finish.NumbersSpent e = c.finish_tick.ensures.unkept told (inl (c.in-Err-finish_tick.is ∙ ap Err e))
    by_cause finish.NoMemory e = c.finish_tick.ensures.unkept told (inr (c.in-Err-finish_tick.is ∙ ap Err e))
    by_cause finish.KeeperFault e = absurd (not_keeper (because ∙ ap unfinished_by e))
    by_cause finish.SinkFault e = absurd (not_sink (because ∙ ap unfinished_by e))

pub returns-in-Err-clause-numbers : goal.returns-in-Err-clause-numbers
returns-in-Err-clause-numbers g c =
    c.unfilled.ensures.numbers ∙ ap Some (sym (ap (λ (e : RunError). tick_numbers e c.args.tick.sealed c.fill_tick.new.state) c.unfilled.ensures.error ∙ unfilled_numbers c.in-Err.error c.args.tick.sealed c.fill_tick.new.state))

pub returns-in-Err-finish_tick-clause-numbers : goal.returns-in-Err-finish_tick-clause-numbers
returns-in-Err-finish_tick-clause-numbers g c =
    c.unfinished.ensures.numbers ∙ ap Some (sym (ap (λ (e : RunError). tick_numbers e c.args.tick.sealed c.finish_tick.new.state) c.unfinished.ensures.error ∙ finished_numbers c.in-Err-finish_tick.error c.args.tick.sealed c.finish_tick.new.state))

pub returns-in-Err-finish_tick-clause-keeper_cause : goal.returns-in-Err-finish_tick-clause-keeper_cause
returns-in-Err-finish_tick-clause-keeper_cause g c refused is error =
    let same : c.unfinished.result ≡ refused = (cc) in
    let why = unfinished_keeper c.in-Err-finish_tick.error (sym c.unfinished.ensures.error ∙ ap (λ (r : Refused). r.error) same ∙ error) in
    c.finish_tick.ensures.keeper_cause (c.in-Err-finish_tick.is ∙ ap Err why)

pub returns-in-Err-finish_tick-clause-sink_cause : goal.returns-in-Err-finish_tick-clause-sink_cause
returns-in-Err-finish_tick-clause-sink_cause g c refused is error =
    let same : c.unfinished.result ≡ refused = (cc) in
    let why = unfinished_sink c.in-Err-finish_tick.error (sym c.unfinished.ensures.error ∙ ap (λ (r : Refused). r.error) same ∙ error) in
    c.finish_tick.ensures.sink_cause (c.in-Err-finish_tick.is ∙ ap Err why)

pub returns-in-Err-clause-failed : goal.returns-in-Err-clause-failed
returns-in-Err-clause-failed g c counts refused is error =
    let same : c.unfilled.result ≡ refused = (cc) in
    absurd (unfilled_keeper c.in-Err.error (sym c.unfilled.ensures.error ∙ ap (λ (r : Refused). r.error) same ∙ error))

pub returns-in-Err-clause-failed_kept : goal.returns-in-Err-clause-failed_kept
returns-in-Err-clause-failed_kept g c counts told refused is error =
    let same : c.unfilled.result ≡ refused = (cc) in
    absurd (unfilled_keeper c.in-Err.error (sym c.unfilled.ensures.error ∙ ap (λ (r : Refused). r.error) same ∙ error))

pub returns-in-Err-finish_tick-clause-failed : goal.returns-in-Err-finish_tick-clause-failed
returns-in-Err-finish_tick-clause-failed g c counts refused is error =
    let same : c.unfinished.result ≡ refused = (cc) in
    let why = unfinished_keeper c.in-Err-finish_tick.error (sym c.unfinished.ensures.error ∙ ap (λ (r : Refused). r.error) same ∙ error) in
    c.finish_tick.ensures.failed counts (c.in-Err-finish_tick.is ∙ ap Err why)

pub returns-in-Err-finish_tick-clause-failed_kept : goal.returns-in-Err-finish_tick-clause-failed_kept
returns-in-Err-finish_tick-clause-failed_kept g c counts told refused is error =
    let same : c.unfinished.result ≡ refused = (cc) in
    let why = unfinished_keeper c.in-Err-finish_tick.error (sym c.unfinished.ensures.error ∙ ap (λ (r : Refused). r.error) same ∙ error) in
    let (settled, settles, kept) = c.finish_tick.ensures.failed_kept counts told (c.in-Err-finish_tick.is ∙ ap Err why) in
    failed_ticks (g.K.Keeper.calls c.args.keeper.now).is_whole (g.K.Keeper.kept c.args.keeper.now) (g.K.Keeper.kept c.finish_tick.new.keeper) settled.tail _ kept
    (tick_begins g.T.TakesRound.order g.S.Source.tells g.S.Source.left g.S.Source.faults c.args.basis.now.setup c.args.basis.now.configured.config c.args.basis.now.configured.documents c.args.tick.configured_at c.args.tick.moment c.args.feeds.now c.fill_tick.new.feeds c.args.sources.now c.fill_tick.new.sources c.args.state.now settled
    (record { filled = c.fill_tick.new.state; fills = c.in-Ok.ensures.fills; settles = settles }))
