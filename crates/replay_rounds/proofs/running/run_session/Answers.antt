use Rattle.std.proofs.Common.{◌≡◌, ℕ, ◌+◌, List, map, [], ◌∷◌, ◌++◌, Err, refl, sym, ap, ◌∙◌, subst, arith, inl, inr}
use Rattle.std.specs.Prelude.{if◌then◌else◌}
use Rattle.std.proofs.lemmas.List.{append-nil}
use Rattle.source_feeds.specs.Feeding.{Feeding}
use Rattle.entry_model.specs.declared.entry.Entry.{Entry}
use Rattle.entry_model.specs.declared.entry.Entry.TheVariants.{Acked, Opened}
use Rattle.entry_model.specs.declared.restored.Restored.{Restored}
use Rattle.entry_model.specs.Fits.{Fits}
use Rattle.daemon_rounds.specs.Configuring.{found_now}
use Rattle.daemon_rounds.specs.Rounding.{AreGoing}
use Rattle.daemon_rounds.specs.Ticking.{asks_again}
use Rattle.daemon_rounds.proofs.Laters.{fails_since}
use Rattle.forward_rounds.specs.Forwarding.{view_of}
use Rattle.daemon_rounds.proofs.Keeping.{on_list}
use Rattle.replay_rounds.specs.Called.{HasSealedOf}
use Rattle.replay_rounds.specs.Fixed.{fixed_of, linked_by}
use Rattle.replay_rounds.specs.Linking.{IsUnforwarded, readings_of}
use Rattle.replay_rounds.specs.Noting.{IsBetween, places_of}
use Rattle.replay_rounds.specs.OneTick.{ticks_of}
use Rattle.replay_rounds.specs.Refusals.{numbers_in, numbers_of}
use Rattle.replay_rounds.specs.Running.{IsKept, IsWritten, ReadsAll, run_of}
use Rattle.replay_rounds.specs.Sources.{sources_of}
use Rattle.replay_rounds.specs.Stopping.{AreNumbersOf, AreSealed, HasNumbers, IsBehindLoading, Stops}
use Rattle.replay_rounds.specs.declared.refused.Numbers.{Numbers}
use Rattle.replay_rounds.specs.declared.refused.Refused.{Refused}
use Rattle.replay_rounds.proofs.Called.{none_acked, none_opening, not_both, on_ok, first_sealed, next_sealed, sealed_ticks, stopped_first, stopped_load, stopped_next, tick_begins}
use Rattle.replay_rounds.proofs.Causes.{by_sink, not_loaded, same_refusal, spent_not_keeper, spent_not_sink, unloaded_keeper}
use Rattle.replay_rounds.proofs.Done.{has_run}
use Rattle.replay_rounds.proofs.Full.{HaveSteps}
use Rattle.replay_rounds.proofs.Grown.{grown_then, of_error, of_value}
use Rattle.replay_rounds.proofs.Looping.{counted_first, counted_in, counted_in_first, counted_on, failed_numbers, found_first, found_on, goes_on_here, heard_now, kept_first, kept_on, kept_over, linked_first, linked_on, looped_first, looped_on, more_kept, more_over, numbers_first, numbers_on, numbers_same, opens_here, over_due, over_empty, over_fed, over_kept, over_list, over_numbers, over_owed, over_places, over_standing, over_told, over_written, partly_first, partly_on, places_over, rest_first, rest_over, sealed_first, sealed_on, still_written, unwritten_first, written_on, written_over}
use Rattle.replay_rounds.proofs.Noted.{noted_first, noted_none, noted_on, noted_so, of_any, of_refusal, skipped_behind, told_none, told_some}
use Rattle.replay_rounds.proofs.Places.{again_places, places_now, places_still, tick_place}
use Rattle.replay_rounds.proofs.Ran.{all_is_kept, all_kept, no_tick, none_kept, none_written, numbers_are, reads_more, still_added, still_kept, written_still}
use Rattle.replay_rounds.proofs.Skips.{counts_first, counts_now, counts_on, counts_over, told_opening}
use Rattle.replay_rounds.proofs.Spent.{spent_first, spent_nowhere, spent_on}
use Rattle.replay_rounds.proofs.Stopped.{linked_stops, loaded_numbers, numbers_between, numbers_for, stops_with, tick_stops, unloaded_refused, unloaded_stops}
use Rattle.replay_rounds.proofs.running.run_session.Goals as goal

pub returns-in-Err-clause-kept : goal.returns-in-Err-clause-kept
returns-in-Err-clause-kept g c told =
    none_kept _ (λ readings. ReadsAll g.C.Clock.reads c.args.clock.now readings c.args.clock.now) [] (g.K.Keeper.kept c.load_values.new.keeper) refl (omega arith) c.in-Err.ensures.same

pub returns-in-Err-clause-written : goal.returns-in-Err-clause-written
returns-in-Err-clause-written g c told =
    none_written _ (g.K.Keeper.kept c.load_values.new.keeper) (g.O.Sink.written c.args.results.now) (λ tells. ([], no_tick, c.in-Err.ensures.same tells ∙ sym (append-nil (g.K.Keeper.kept c.args.keeper.now)))) refl

pub returns-in-Err-open_noted-clause-kept : goal.returns-in-Err-open_noted-clause-kept
returns-in-Err-open_noted-clause-kept g c told =
    let (reading, read) = c.in-Err-open_noted.ensures.read in
    none_kept _ (λ readings. ReadsAll g.C.Clock.reads c.args.clock.now readings c.open_noted.new.clock) (reading ∷ []) (g.K.Keeper.kept c.load_values.new.keeper) (c.open_noted.new.clock, read, refl) (omega arith) c.in-Ok.ensures.same

pub returns-in-Err-open_noted-clause-written : goal.returns-in-Err-open_noted-clause-written
returns-in-Err-open_noted-clause-written g c told =
    none_written _ (g.K.Keeper.kept c.load_values.new.keeper) (g.O.Sink.written c.args.results.now) (λ tells. ([], no_tick, c.in-Ok.ensures.same tells ∙ sym (append-nil (g.K.Keeper.kept c.args.keeper.now)))) refl

pub returns-in-Err-open_noted-clause-moment : goal.returns-in-Err-open_noted-clause-moment
returns-in-Err-open_noted-clause-moment g c refused moment is error =
    let same : c.in-Err-open_noted.refused ≡ refused = same_refusal _ _ is in
    let (read, beyond) = c.open_noted.ensures.moment c.in-Err-open_noted.refused moment c.in-Err-open_noted.is (ap (λ (r : Refused). r.error) same ∙ error) in
    (beyond, ([], (c.open_noted.new.clock, read, refl)))

pub returns-in-Err-open_noted-clause-fault : goal.returns-in-Err-open_noted-clause-fault
returns-in-Err-open_noted-clause-fault g c refused place is error =
    let same : c.in-Err-open_noted.refused ≡ refused = same_refusal _ _ is in
    c.open_noted.ensures.fault c.in-Err-open_noted.refused place c.in-Err-open_noted.is (ap (λ (r : Refused). r.error) same ∙ error)

pub returns-in-Err-open_noted-clause-shrank : goal.returns-in-Err-open_noted-clause-shrank
returns-in-Err-open_noted-clause-shrank g c refused place kept found is error =
    let same : c.in-Err-open_noted.refused ≡ refused = same_refusal _ _ is in
    (c.in-Ok.restored.taken, λ tells. ap (λ (r : Restored). r.taken) (c.in-Ok.ensures.value tells), c.open_noted.ensures.shrank c.in-Err-open_noted.refused place kept found c.in-Err-open_noted.is (ap (λ (r : Refused). r.error) same ∙ error))

pub returns-in-Err-open_noted-clause-spent : goal.returns-in-Err-open_noted-clause-spent
returns-in-Err-open_noted-clause-spent g c refused is error =
    let same : c.in-Err-open_noted.refused ≡ refused = same_refusal _ _ is in
    let (reading, read) = c.in-Err-open_noted.ensures.read in
    spent_nowhere _ _ _ _ _ _ _ _ _ _ _ _ _ _ _ c.open_noted.new.clock reading c.in-Ok.restored (g.K.Keeper.kept c.load_values.new.keeper) c.open_noted.new.sources read c.in-Ok.ensures.value c.in-Ok.ensures.same c.requires.distinct (c.open_noted.ensures.spent c.in-Err-open_noted.refused c.in-Err-open_noted.is (ap (λ (r : Refused). r.error) same ∙ error))

pub take_tick-requires-clause-goes_on : goal.take_tick-requires-clause-goes_on
take_tick-requires-clause-goes_on g c κs within =
    goes_on_here g.K.Keeper.tells g.S.Source.tells g.S.Source.left g.S.Source.faults c.args.basis.now.setup c.args.basis.now.configured.config c.args.basis.now.configured.documents c.args.sources.now (g.K.Keeper.kept c.args.keeper.now) (g.K.Keeper.kept c.load_values.new.keeper) g.C.Clock.reads c.args.clock.now c.open_noted.new.clock c.in-Ok.restored c.in-Ok-open_noted.session.feeds.items c.open_noted.new.sources c.in-Ok-open_noted.session.configured_at c.in-Ok-open_noted.session.state c.in-Ok.ensures.value c.in-Ok.ensures.same c.in-Ok-open_noted.ensures.opened

pub returns-in-Err-take_tick-clause-kept : goal.returns-in-Err-take_tick-clause-kept
returns-in-Err-take_tick-clause-kept g c told =
    let kept_is = c.in-Ok.ensures.same in
    let opens = opens_here _ _ _ _ _ _ _ _ _ _ _ _ _ _ _ c.open_noted.new.clock c.in-Ok.restored (g.K.Keeper.kept c.load_values.new.keeper) c.in-Ok-open_noted.session.feeds.items c.as_mut_slice-feeds.result.now c.open_noted.new.sources c.in-Ok-open_noted.session.configured_at c.in-Ok-open_noted.session.state c.in-Ok.ensures.value kept_is c.requires.distinct c.in-Ok-open_noted.ensures.opened c.as_mut_slice-feeds.ensures.value in
    let going = subst (λ (feeds : List Feeding). AreGoing c.in-Ok-open_noted.session.state.counts.taken feeds) (sym c.as_mut_slice-feeds.ensures.value) c.in-Ok-open_noted.ensures.going in
    kept_first _ _ _ _ _ _ _ _ _ _ _ _ _ _ _ c.open_noted.new.clock (g.K.Keeper.kept c.load_values.new.keeper) (g.K.Keeper.kept c.take_tick.new.keeper) (g.O.Sink.written c.take_tick.new.results) c.as_mut_slice-feeds.result.now c.take_tick.new.feeds c.open_noted.new.sources c.take_tick.new.sources c.in-Ok-open_noted.session.configured_at c.in-Ok-open_noted.session.state c.args.basis.now.configured.notes c.requires.configuration opens.0 going kept_is (c.in-Err-take_tick.ensures.kept told) told

pub returns-in-Err-take_tick-clause-written : goal.returns-in-Err-take_tick-clause-written
returns-in-Err-take_tick-clause-written g c told =
    let kept_is = c.in-Ok.ensures.same in
    let opens = opens_here _ _ _ _ _ _ _ _ _ _ _ _ _ _ _ c.open_noted.new.clock c.in-Ok.restored (g.K.Keeper.kept c.load_values.new.keeper) c.in-Ok-open_noted.session.feeds.items c.as_mut_slice-feeds.result.now c.open_noted.new.sources c.in-Ok-open_noted.session.configured_at c.in-Ok-open_noted.session.state c.in-Ok.ensures.value kept_is c.requires.distinct c.in-Ok-open_noted.ensures.opened c.as_mut_slice-feeds.ensures.value in
    let going = subst (λ (feeds : List Feeding). AreGoing c.in-Ok-open_noted.session.state.counts.taken feeds) (sym c.as_mut_slice-feeds.ensures.value) c.in-Ok-open_noted.ensures.going in
    by_sink c.in-Err-take_tick.refused.error _ (g.K.Keeper.kept c.take_tick.new.keeper) (g.O.Sink.written c.take_tick.new.results)
    (λ is. partly_first _ _ _ _ _ _ _ _ _ _ _ _ _ _ _ c.open_noted.new.clock (g.K.Keeper.kept c.load_values.new.keeper) (g.K.Keeper.kept c.take_tick.new.keeper) (g.O.Sink.written c.take_tick.new.results) c.as_mut_slice-feeds.result.now c.take_tick.new.feeds c.open_noted.new.sources c.take_tick.new.sources c.in-Ok-open_noted.session.configured_at c.in-Ok-open_noted.session.state c.args.basis.now.configured.notes c.requires.configuration opens.0 going kept_is (c.take_tick.ensures.partly told c.in-Err-take_tick.refused c.in-Err-take_tick.is is))
    (λ other. unwritten_first _ _ _ _ _ _ _ _ _ _ _ _ _ _ _ c.open_noted.new.clock (g.K.Keeper.kept c.load_values.new.keeper) (g.K.Keeper.kept c.take_tick.new.keeper) (g.O.Sink.written c.take_tick.new.results) c.as_mut_slice-feeds.result.now c.take_tick.new.feeds c.open_noted.new.sources c.take_tick.new.sources c.in-Ok-open_noted.session.configured_at c.in-Ok-open_noted.session.state c.args.basis.now.configured.notes c.requires.configuration opens.0 going kept_is c.in-Err-take_tick.ensures.kept (g.O.Sink.written c.take_tick.new.results) (ap g.O.Sink.written (c.in-Err-take_tick.ensures.unwritten other)))

pub returns-in-Err-take_tick-clause-keeper_cause : goal.returns-in-Err-take_tick-clause-keeper_cause
returns-in-Err-take_tick-clause-keeper_cause g c refused is error =
    let same : c.in-Err-take_tick.refused ≡ refused = sym c.told-refused.ensures.same ∙ same_refusal _ _ is in
    let rose = c.take_tick.ensures.keeper_cause c.in-Err-take_tick.refused c.in-Err-take_tick.is (ap (λ (r : Refused). r.error) same ∙ error) in
    let loaded = c.load_values.ensures.later in
    omega (arith, rose, loaded)

pub returns-in-Err-take_tick-clause-refused : goal.returns-in-Err-take_tick-clause-refused
returns-in-Err-take_tick-clause-refused g c told refused is error fits =
    let same : c.in-Err-take_tick.refused ≡ refused = sym c.told-refused.ensures.same ∙ same_refusal _ _ is in
    (c.take_tick.ensures.opened c.in-Err-take_tick.refused c.in-Err-take_tick.is).0 (ap (λ (r : Refused). r.error) same ∙ error)

pub returns-in-Err-take_tick-clause-illegal : goal.returns-in-Err-take_tick-clause-illegal
returns-in-Err-take_tick-clause-illegal g c told refused is error legal =
    let same : c.in-Err-take_tick.refused ≡ refused = sym c.told-refused.ensures.same ∙ same_refusal _ _ is in
    (c.take_tick.ensures.opened c.in-Err-take_tick.refused c.in-Err-take_tick.is).0 (ap (λ (r : Refused). r.error) same ∙ error)

pub returns-in-Err-take_tick-clause-moment : goal.returns-in-Err-take_tick-clause-moment
returns-in-Err-take_tick-clause-moment g c refused moment is error =
    let same : c.in-Err-take_tick.refused ≡ refused = sym c.told-refused.ensures.same ∙ same_refusal _ _ is in
    absurd ((c.take_tick.ensures.opened c.in-Err-take_tick.refused c.in-Err-take_tick.is).1 moment (ap (λ (r : Refused). r.error) same ∙ error))

pub returns-in-Err-take_tick-clause-fault : goal.returns-in-Err-take_tick-clause-fault
returns-in-Err-take_tick-clause-fault g c refused place is error =
    let same : c.in-Err-take_tick.refused ≡ refused = sym c.told-refused.ensures.same ∙ same_refusal _ _ is in
    let failed = c.take_tick.ensures.fault c.in-Err-take_tick.refused place c.in-Err-take_tick.is (ap (λ (r : Refused). r.error) same ∙ error) in
    let kept_is = c.in-Ok.ensures.same in
    let opens = opens_here g.T.TakesRound.order _ g.O.Sink.tells _ _ _ _ _ _ _ _ (g.O.Sink.written c.args.results.now) (linked_by g.L.Link c.args.basis.now.setup c.args.link.now) _ _ c.open_noted.new.clock c.in-Ok.restored (g.K.Keeper.kept c.load_values.new.keeper) c.in-Ok-open_noted.session.feeds.items c.as_mut_slice-feeds.result.now c.open_noted.new.sources c.in-Ok-open_noted.session.configured_at c.in-Ok-open_noted.session.state c.in-Ok.ensures.value kept_is c.requires.distinct c.in-Ok-open_noted.ensures.opened c.as_mut_slice-feeds.ensures.value in
    let going = subst (λ (feeds : List Feeding). AreGoing c.in-Ok-open_noted.session.state.counts.taken feeds) (sym c.as_mut_slice-feeds.ensures.value) c.in-Ok-open_noted.ensures.going in
    fails_since g.S.Source.faults place c.args.sources.now c.open_noted.new.sources c.take_tick.new.sources opens.1 failed

pub returns-in-Err-take_tick-clause-shrank : goal.returns-in-Err-take_tick-clause-shrank
returns-in-Err-take_tick-clause-shrank g c refused place kept found is error =
    let same : c.in-Err-take_tick.refused ≡ refused = sym c.told-refused.ensures.same ∙ same_refusal _ _ is in
    absurd ((c.take_tick.ensures.opened c.in-Err-take_tick.refused c.in-Err-take_tick.is).2 place kept found (ap (λ (r : Refused). r.error) same ∙ error))

pub returns-in-Err-take_tick-clause-spent : goal.returns-in-Err-take_tick-clause-spent
returns-in-Err-take_tick-clause-spent g c refused is error =
    let same : c.in-Err-take_tick.refused ≡ refused = sym c.told-refused.ensures.same ∙ same_refusal _ _ is in
    let why = ap (λ (r : Refused). r.error) same ∙ error in
    let kept_is = c.in-Ok.ensures.same in
    let opens = opens_here _ _ _ _ _ _ _ _ _ _ _ _ _ _ _ c.open_noted.new.clock c.in-Ok.restored (g.K.Keeper.kept c.load_values.new.keeper) c.in-Ok-open_noted.session.feeds.items c.as_mut_slice-feeds.result.now c.open_noted.new.sources c.in-Ok-open_noted.session.configured_at c.in-Ok-open_noted.session.state c.in-Ok.ensures.value kept_is c.requires.distinct c.in-Ok-open_noted.ensures.opened c.as_mut_slice-feeds.ensures.value in
    let going = subst (λ (feeds : List Feeding). AreGoing c.in-Ok-open_noted.session.state.counts.taken feeds) (sym c.as_mut_slice-feeds.ensures.value) c.in-Ok-open_noted.ensures.going in
    spent_first _ _ _ _ _ _ _ _ _ _ _ _ _ _ _ c.open_noted.new.clock (g.K.Keeper.kept c.load_values.new.keeper) (g.K.Keeper.kept c.take_tick.new.keeper) c.as_mut_slice-feeds.result.now c.take_tick.new.feeds c.open_noted.new.sources c.take_tick.new.sources c.in-Ok-open_noted.session.configured_at c.in-Ok-open_noted.session.state c.take_tick.new.state opens.0 going.distinct
    (λ tells. c.take_tick.ensures.unkept tells c.in-Err-take_tick.refused c.in-Err-take_tick.is (spent_not_keeper _ why) (spent_not_sink _ why) ∙ kept_is tells) (c.take_tick.ensures.spent c.in-Err-take_tick.refused c.in-Err-take_tick.is why)

pub returns-in-Err-take_tick-clause-sink_cause : goal.returns-in-Err-take_tick-clause-sink_cause
returns-in-Err-take_tick-clause-sink_cause g c refused is error =
    let same : c.in-Err-take_tick.refused ≡ refused = sym c.told-refused.ensures.same ∙ same_refusal _ _ is in
    inl (c.take_tick.ensures.sink_cause c.in-Err-take_tick.refused c.in-Err-take_tick.is (ap (λ (r : Refused). r.error) same ∙ error))

pub returns-in-Err-take_tick-clause-notes : goal.returns-in-Err-take_tick-clause-notes
returns-in-Err-take_tick-clause-notes g c tells =
    grown_then _ _ _ (c.open_noted.ensures.grown tells) (c.told-refused.ensures.grown tells)

pub loop-init : goal.loop-init
loop-init g c =
    let kept_is = c.in-Ok.ensures.same in
    let opens = opens_here _ _ _ _ _ _ _ _ _ _ _ _ _ _ _ c.open_noted.new.clock c.in-Ok.restored (g.K.Keeper.kept c.load_values.new.keeper) c.in-Ok-open_noted.session.feeds.items c.as_mut_slice-feeds.result.now c.open_noted.new.sources c.in-Ok-open_noted.session.configured_at c.in-Ok-open_noted.session.state c.in-Ok.ensures.value kept_is c.requires.distinct c.in-Ok-open_noted.ensures.opened c.as_mut_slice-feeds.ensures.value in
    let going = subst (λ (feeds : List Feeding). AreGoing c.in-Ok-open_noted.session.state.counts.taken feeds) (sym c.as_mut_slice-feeds.ensures.value) c.in-Ok-open_noted.ensures.going in
    let loaded = c.load_values.ensures.later in
    let ticked = c.take_tick.ensures.later in
    let keeper_first = ticked.0 in
    let results_first = ticked.1 in
    record {
      looping = looped_first _ _ _ _ _ _ _ _ _ _ _ _ _ _ _ c.open_noted.new.clock (g.K.Keeper.kept c.load_values.new.keeper) (g.K.Keeper.kept c.take_tick.new.keeper) (g.O.Sink.written c.take_tick.new.results) c.as_mut_slice-feeds.result.now c.take_tick.new.feeds c.open_noted.new.sources c.take_tick.new.sources c.in-Ok-open_noted.session.configured_at c.in-Ok-open_noted.session.state c.args.basis.now.configured.notes c.requires.configuration opens.0 going kept_is c.in-Ok-take_tick.last c.take_tick.new.state c.in-Ok-take_tick.ensures.done opens.1;
      linked = linked_first _ _ _ _ _ _ _ _ _ _ _ _ _ _ _ c.open_noted.new.clock (g.K.Keeper.kept c.load_values.new.keeper) (g.K.Keeper.kept c.take_tick.new.keeper) (g.O.Sink.written c.take_tick.new.results) c.as_mut_slice-feeds.result.now c.take_tick.new.feeds c.open_noted.new.sources c.take_tick.new.sources c.in-Ok-open_noted.session.configured_at c.in-Ok-open_noted.session.state c.args.basis.now.configured.notes c.requires.configuration opens.0 going kept_is c.in-Ok-take_tick.last c.take_tick.new.state c.in-Ok-take_tick.ensures.done opens.1;
      unlinked = λ off. refl;
      link_later = omega arith;
      ready = c.in-Ok-take_tick.ensures.ready;
      sealed = λ counts off. first_sealed g.K.Keeper.tells (g.K.Keeper.calls c.args.keeper.now) (g.K.Keeper.calls c.load_values.new.keeper) (g.K.Keeper.calls c.take_tick.new.keeper) (g.K.Keeper.kept c.args.keeper.now) (g.K.Keeper.kept c.load_values.new.keeper) (g.K.Keeper.kept c.take_tick.new.keeper) (c.in-Ok.ensures.passed counts) c.in-Ok.ensures.same (c.in-Ok-take_tick.ensures.passed counts)
          (λ told. let tick = c.in-Ok-take_tick.ensures.done in sealed_ticks (g.K.Keeper.kept c.load_values.new.keeper) (g.K.Keeper.kept c.take_tick.new.keeper) tick.settled.tail 1 (tick.kept told) (tick_begins _ _ _ _ _ _ _ _ _ _ _ _ _ _ tick.settled tick.done ∙ ap (λ (ticks : ℕ). ticks + 1) (none_opening _ _ _ _ _ _ _ _ _ _ _ _ _ c.in-Ok-open_noted.session.state c.in-Ok-open_noted.ensures.opened.opens)));
      goes_on = c.in-Ok-take_tick.ensures.goes_on;
      keeper_later = omega (arith, loaded, keeper_first);
      results_later = results_first;
      status_later = c.open_noted.ensures.later;
      noted = c.open_noted.ensures.grown;
      told = λ tells. noted_so (fixed_of g.T.TakesRound.order g.K.Keeper g.O.Sink g.S.Source g.L.Link c.args.basis.now c.args.sources.now c.args.keeper.now c.args.results.now c.args.link.now) c.args.basis.now.configured.notes (g.O.Sink.written c.args.status.now) ((record { list = (g.K.Keeper.kept c.args.keeper.now) ++ (Opened opens.0.number 2 ∷ opens.0.tables); moment = c.in-Ok-open_noted.session.configured_at }) ∷ []) _ _ (counted_first _ _ _ _ _ _ _ _ _ _ _ _ _ _ _ c.open_noted.new.clock (g.K.Keeper.kept c.load_values.new.keeper) (g.K.Keeper.kept c.take_tick.new.keeper) (g.O.Sink.written c.take_tick.new.results) c.as_mut_slice-feeds.result.now c.take_tick.new.feeds c.open_noted.new.sources c.take_tick.new.sources c.in-Ok-open_noted.session.configured_at c.in-Ok-open_noted.session.state c.args.basis.now.configured.notes c.requires.configuration opens.0 going kept_is c.in-Ok-take_tick.last c.take_tick.new.state c.in-Ok-take_tick.ensures.done opens.1) (noted_first (fixed_of g.T.TakesRound.order g.K.Keeper g.O.Sink g.S.Source g.L.Link c.args.basis.now c.args.sources.now c.args.keeper.now c.args.results.now c.args.link.now) c.args.basis.now.configured.notes (g.O.Sink.written c.args.status.now) (record { list = (g.K.Keeper.kept c.args.keeper.now) ++ (Opened opens.0.number 2 ∷ opens.0.tables); moment = c.in-Ok-open_noted.session.configured_at }) c.in-Ok-open_noted.session.found.items (g.O.Sink.written c.open_noted.new.status) (found_first _ _ _ _ _ g.S.Source.faults c.args.basis.now.setup _ _ _ _ _ _ _ _ c.open_noted.new.clock (g.K.Keeper.kept c.load_values.new.keeper) (g.K.Keeper.kept c.take_tick.new.keeper) (g.O.Sink.written c.take_tick.new.results) c.as_mut_slice-feeds.result.now c.take_tick.new.feeds c.open_noted.new.sources c.take_tick.new.sources c.in-Ok-open_noted.session.configured_at c.in-Ok-open_noted.session.state c.args.basis.now.configured.notes c.requires.configuration opens.0 going kept_is c.in-Ok.restored c.in-Ok-open_noted.session.found.items c.in-Ok.ensures.value c.in-Ok-open_noted.ensures.found) (c.in-Ok-open_noted.ensures.noted tells));
    }

pub returns-in-Err-next_moment-clause-kept : goal.returns-in-Err-next_moment-clause-kept
returns-in-Err-next_moment-clause-kept g c told =
    let (reading, read) = c.next_moment.ensures.once in
    still_kept g.S.Source.left _ g.C.Clock.reads c.args.clock.now c.loop.clock (g.K.Keeper.kept c.loop.keeper) c.loop.feeds c.loop.sources c.loop.last c.loop.state c.loop.invariant.looping.running.added reading c.next_moment.new.clock (g.K.Keeper.kept c.forward_sealed.new.keeper) read (c.forward_sealed.ensures.kept told)

pub returns-in-Err-next_moment-clause-written : goal.returns-in-Err-next_moment-clause-written
returns-in-Err-next_moment-clause-written g c told =
    written_still _ (g.K.Keeper.kept c.loop.keeper) (g.K.Keeper.kept c.forward_sealed.new.keeper) (g.O.Sink.written c.loop.results) c.forward_sealed.ensures.kept
    (still_written _ _ _ _ _ _ _ _ _ _ _ _ _ _ _ c.loop.clock c.loop.counter (g.K.Keeper.kept c.loop.keeper) (g.O.Sink.written c.loop.results) c.loop.feeds c.loop.sources c.loop.last c.loop.state c.loop.invariant.looping told)

pub returns-in-Err-next_moment-clause-keeper_cause : goal.returns-in-Err-next_moment-clause-keeper_cause
returns-in-Err-next_moment-clause-keeper_cause g c refused is error =
    let same : c.in-Err-next_moment.refused ≡ refused = sym c.told-refused-in-Err-next_moment.ensures.same ∙ same_refusal _ _ is in
    absurd (subst (IsBetween _ _) (ap (λ (r : Refused). r.error) same ∙ error) c.in-Err-next_moment.ensures.cause)

pub returns-in-Err-next_moment-clause-refused : goal.returns-in-Err-next_moment-clause-refused
returns-in-Err-next_moment-clause-refused g c told refused is error =
    let same : c.in-Err-next_moment.refused ≡ refused = sym c.told-refused-in-Err-next_moment.ensures.same ∙ same_refusal _ _ is in
    absurd (subst (IsBetween _ _) (ap (λ (r : Refused). r.error) same ∙ error) c.in-Err-next_moment.ensures.cause)

pub returns-in-Err-next_moment-clause-illegal : goal.returns-in-Err-next_moment-clause-illegal
returns-in-Err-next_moment-clause-illegal g c told refused is error =
    let same : c.in-Err-next_moment.refused ≡ refused = sym c.told-refused-in-Err-next_moment.ensures.same ∙ same_refusal _ _ is in
    absurd (subst (IsBetween _ _) (ap (λ (r : Refused). r.error) same ∙ error) c.in-Err-next_moment.ensures.cause)

pub returns-in-Err-next_moment-clause-moment : goal.returns-in-Err-next_moment-clause-moment
returns-in-Err-next_moment-clause-moment g c refused moment is error =
    let same : c.in-Err-next_moment.refused ≡ refused = sym c.told-refused-in-Err-next_moment.ensures.same ∙ same_refusal _ _ is in
    let (read, beyond) = subst (IsBetween _ _) (ap (λ (r : Refused). r.error) same ∙ error) c.in-Err-next_moment.ensures.cause in
    let r = c.loop.invariant.looping.running.added in
    (beyond, (readings_of r.beats ++ r.reading ∷ [], reads_more g.C.Clock.reads c.args.clock.now c.loop.clock c.next_moment.new.clock (readings_of r.beats ++ r.reading ∷ []) moment r.read read))

pub returns-in-Err-next_moment-clause-fault : goal.returns-in-Err-next_moment-clause-fault
returns-in-Err-next_moment-clause-fault g c refused place is error =
    let same : c.in-Err-next_moment.refused ≡ refused = sym c.told-refused-in-Err-next_moment.ensures.same ∙ same_refusal _ _ is in
    absurd (subst (IsBetween _ _) (ap (λ (r : Refused). r.error) same ∙ error) c.in-Err-next_moment.ensures.cause)

pub returns-in-Err-next_moment-clause-shrank : goal.returns-in-Err-next_moment-clause-shrank
returns-in-Err-next_moment-clause-shrank g c refused place kept found is error =
    let same : c.in-Err-next_moment.refused ≡ refused = sym c.told-refused-in-Err-next_moment.ensures.same ∙ same_refusal _ _ is in
    absurd (subst (IsBetween _ _) (ap (λ (r : Refused). r.error) same ∙ error) c.in-Err-next_moment.ensures.cause)

pub returns-in-Err-next_moment-clause-spent : goal.returns-in-Err-next_moment-clause-spent
returns-in-Err-next_moment-clause-spent g c refused is error =
    let same : c.in-Err-next_moment.refused ≡ refused = sym c.told-refused-in-Err-next_moment.ensures.same ∙ same_refusal _ _ is in
    absurd (subst (IsBetween _ _) (ap (λ (r : Refused). r.error) same ∙ error) c.in-Err-next_moment.ensures.cause)

pub returns-in-Err-next_moment-clause-sink_cause : goal.returns-in-Err-next_moment-clause-sink_cause
returns-in-Err-next_moment-clause-sink_cause g c refused is error =
    let same : c.in-Err-next_moment.refused ≡ refused = sym c.told-refused-in-Err-next_moment.ensures.same ∙ same_refusal _ _ is in
    let rose = subst (IsBetween _ _) (ap (λ (r : Refused). r.error) same ∙ error) c.in-Err-next_moment.ensures.cause in
    let before = c.loop.invariant.status_later in
    let behind = c.told-refused-in-Err-next_moment.ensures.later in
    inr (omega (arith, rose, before, behind))

pub returns-in-Err-next_moment-clause-notes : goal.returns-in-Err-next_moment-clause-notes
returns-in-Err-next_moment-clause-notes g c tells =
    grown_then _ _ _ (grown_then _ _ _ (c.loop.invariant.noted tells) (c.next_moment.ensures.grown tells)) (c.told-refused-in-Err-next_moment.ensures.grown tells)

pub returns-in-Err-next_moment-clause-later : goal.returns-in-Err-next_moment-clause-later
returns-in-Err-next_moment-clause-later g c =
    let sealed = c.loop.invariant.keeper_later in
    let forwarded = c.forward_sealed.ensures.later.0 in
    let before = c.loop.invariant.status_later in
    let noted = c.next_moment.ensures.later in
    let behind = c.told-refused-in-Err-next_moment.ensures.later in
    (omega (arith, sealed, forwarded), c.loop.invariant.results_later, omega (arith, before, noted, behind))

pub take_next-requires-clause-ready : goal.take_next-requires-clause-ready
take_next-requires-clause-ready g c κs within =
    c.loop.invariant.ready

pub take_next-requires-clause-goes_on : goal.take_next-requires-clause-goes_on
take_next-requires-clause-goes_on g c κs within =
    on_list g.K.Keeper.tells (g.K.Keeper.kept c.loop.keeper) (g.K.Keeper.kept c.forward_sealed.new.keeper) c.loop.state c.loop.invariant.goes_on c.forward_sealed.ensures.kept

pub returns-in-Err-take_next-clause-kept : goal.returns-in-Err-take_next-clause-kept
returns-in-Err-take_next-clause-kept g c told =
    let heard = heard_now g.T.TakesRound.order g.K.Keeper.tells g.O.Sink.tells g.S.Source.tells g.S.Source.left g.S.Source.faults c.args.basis.now.setup c.args.basis.now.configured.config c.args.basis.now.configured.documents c.args.sources.now (g.K.Keeper.kept c.args.keeper.now) (g.O.Sink.written c.args.results.now) (linked_by g.L.Link c.args.basis.now.setup c.args.link.now) g.C.Clock.reads c.args.clock.now
    (g.K.Keeper.kept c.loop.keeper) (g.K.Keeper.kept c.forward_sealed.new.keeper) c.in-Ok-forward_sealed.marks c.loop.invariant.looping.running.added.linked (view_of g.L.Link c.loop.link) (view_of g.L.Link c.forward_sealed.new.link) c.forward_sealed.ensures.kept c.loop.invariant.linked c.in-Ok-forward_sealed.ensures.heard in
    kept_on _ _ _ _ _ _ _ _ _ _ _ _ _ _ _ c.loop.clock c.next_moment.new.clock c.loop.counter (g.K.Keeper.kept c.loop.keeper) (g.K.Keeper.kept c.forward_sealed.new.keeper) (g.K.Keeper.kept c.take_next.new.keeper) (g.O.Sink.written c.loop.results) c.loop.feeds c.take_next.new.feeds c.loop.sources c.take_next.new.sources c.loop.last c.in-Ok-next_moment.moment c.loop.state c.loop.invariant.looping c.forward_sealed.ensures.kept c.loop.invariant.ready.going c.in-Ok-next_moment.ensures.read c.in-Ok-forward_sealed.marks (view_of g.L.Link c.forward_sealed.new.link) heard (c.in-Err-take_next.ensures.kept told) told

pub returns-in-Err-take_next-clause-written : goal.returns-in-Err-take_next-clause-written
returns-in-Err-take_next-clause-written g c told =
    let heard = heard_now g.T.TakesRound.order g.K.Keeper.tells g.O.Sink.tells g.S.Source.tells g.S.Source.left g.S.Source.faults c.args.basis.now.setup c.args.basis.now.configured.config c.args.basis.now.configured.documents c.args.sources.now (g.K.Keeper.kept c.args.keeper.now) (g.O.Sink.written c.args.results.now) (linked_by g.L.Link c.args.basis.now.setup c.args.link.now) g.C.Clock.reads c.args.clock.now
    (g.K.Keeper.kept c.loop.keeper) (g.K.Keeper.kept c.forward_sealed.new.keeper) c.in-Ok-forward_sealed.marks c.loop.invariant.looping.running.added.linked (view_of g.L.Link c.loop.link) (view_of g.L.Link c.forward_sealed.new.link) c.forward_sealed.ensures.kept c.loop.invariant.linked c.in-Ok-forward_sealed.ensures.heard in
    by_sink c.in-Err-take_next.refused.error _ (g.K.Keeper.kept c.take_next.new.keeper) (g.O.Sink.written c.take_next.new.results)
    (λ is. partly_on _ _ _ _ _ _ _ _ _ _ _ _ _ _ _ c.loop.clock c.next_moment.new.clock c.loop.counter (g.K.Keeper.kept c.loop.keeper) (g.K.Keeper.kept c.forward_sealed.new.keeper) (g.K.Keeper.kept c.take_next.new.keeper) (g.O.Sink.written c.loop.results) c.loop.feeds c.take_next.new.feeds c.loop.sources c.take_next.new.sources c.loop.last c.in-Ok-next_moment.moment c.loop.state c.loop.invariant.looping c.forward_sealed.ensures.kept c.loop.invariant.ready.going c.in-Ok-next_moment.ensures.read c.in-Ok-forward_sealed.marks (view_of g.L.Link c.forward_sealed.new.link) heard (g.O.Sink.written c.take_next.new.results) (c.take_next.ensures.partly told c.in-Err-take_next.refused c.in-Err-take_next.is is) told)
    (λ other. subst (IsWritten _ (g.K.Keeper.kept c.take_next.new.keeper)) (sym (ap g.O.Sink.written (c.in-Err-take_next.ensures.unwritten other))) (written_on _ _ _ _ _ _ _ _ _ _ _ _ _ _ _ c.loop.clock c.next_moment.new.clock c.loop.counter (g.K.Keeper.kept c.loop.keeper) (g.K.Keeper.kept c.forward_sealed.new.keeper) (g.K.Keeper.kept c.take_next.new.keeper) (g.O.Sink.written c.loop.results) c.loop.feeds c.take_next.new.feeds c.loop.sources c.take_next.new.sources c.loop.last c.in-Ok-next_moment.moment c.loop.state c.loop.invariant.looping c.forward_sealed.ensures.kept c.loop.invariant.ready.going c.in-Ok-next_moment.ensures.read c.in-Ok-forward_sealed.marks (view_of g.L.Link c.forward_sealed.new.link) heard c.in-Err-take_next.ensures.kept told))

pub returns-in-Err-take_next-clause-keeper_cause : goal.returns-in-Err-take_next-clause-keeper_cause
returns-in-Err-take_next-clause-keeper_cause g c refused is error =
    let same : c.in-Err-take_next.refused ≡ refused = sym c.told-refused-in-Err-take_next.ensures.same ∙ same_refusal _ _ is in
    let rose = c.take_next.ensures.keeper_cause c.in-Err-take_next.refused c.in-Err-take_next.is (ap (λ (r : Refused). r.error) same ∙ error) in
    let before = c.loop.invariant.keeper_later in
    let forwarded = c.forward_sealed.ensures.later.0 in
    omega (arith, rose, before, forwarded)

pub returns-in-Err-take_next-clause-sink_cause : goal.returns-in-Err-take_next-clause-sink_cause
returns-in-Err-take_next-clause-sink_cause g c refused is error =
    let same : c.in-Err-take_next.refused ≡ refused = sym c.told-refused-in-Err-take_next.ensures.same ∙ same_refusal _ _ is in
    let rose = c.take_next.ensures.sink_cause c.in-Err-take_next.refused c.in-Err-take_next.is (ap (λ (r : Refused). r.error) same ∙ error) in
    let before = c.loop.invariant.results_later in
    inl (omega (arith, rose, before))

pub returns-in-Err-take_next-clause-notes : goal.returns-in-Err-take_next-clause-notes
returns-in-Err-take_next-clause-notes g c tells =
    grown_then _ _ _ (grown_then _ _ _ (c.loop.invariant.noted tells) (c.next_moment.ensures.grown tells)) (c.told-refused-in-Err-take_next.ensures.grown tells)

pub returns-in-Err-take_next-clause-refused : goal.returns-in-Err-take_next-clause-refused
returns-in-Err-take_next-clause-refused g c told refused is error fits =
    let same : c.in-Err-take_next.refused ≡ refused = sym c.told-refused-in-Err-take_next.ensures.same ∙ same_refusal _ _ is in
    (c.take_next.ensures.opened c.in-Err-take_next.refused c.in-Err-take_next.is).0 (ap (λ (r : Refused). r.error) same ∙ error)

pub returns-in-Err-take_next-clause-illegal : goal.returns-in-Err-take_next-clause-illegal
returns-in-Err-take_next-clause-illegal g c told refused is error legal =
    let same : c.in-Err-take_next.refused ≡ refused = sym c.told-refused-in-Err-take_next.ensures.same ∙ same_refusal _ _ is in
    (c.take_next.ensures.opened c.in-Err-take_next.refused c.in-Err-take_next.is).0 (ap (λ (r : Refused). r.error) same ∙ error)

pub returns-in-Err-take_next-clause-moment : goal.returns-in-Err-take_next-clause-moment
returns-in-Err-take_next-clause-moment g c refused moment is error =
    let same : c.in-Err-take_next.refused ≡ refused = sym c.told-refused-in-Err-take_next.ensures.same ∙ same_refusal _ _ is in
    absurd ((c.take_next.ensures.opened c.in-Err-take_next.refused c.in-Err-take_next.is).1 moment (ap (λ (r : Refused). r.error) same ∙ error))

pub returns-in-Err-take_next-clause-fault : goal.returns-in-Err-take_next-clause-fault
returns-in-Err-take_next-clause-fault g c refused place is error =
    let same : c.in-Err-take_next.refused ≡ refused = sym c.told-refused-in-Err-take_next.ensures.same ∙ same_refusal _ _ is in
    let failed = c.take_next.ensures.fault c.in-Err-take_next.refused place c.in-Err-take_next.is (ap (λ (r : Refused). r.error) same ∙ error) in
    fails_since g.S.Source.faults place c.args.sources.now c.loop.sources c.take_next.new.sources c.loop.invariant.looping.later failed

pub returns-in-Err-take_next-clause-shrank : goal.returns-in-Err-take_next-clause-shrank
returns-in-Err-take_next-clause-shrank g c refused place kept found is error =
    let same : c.in-Err-take_next.refused ≡ refused = sym c.told-refused-in-Err-take_next.ensures.same ∙ same_refusal _ _ is in
    absurd ((c.take_next.ensures.opened c.in-Err-take_next.refused c.in-Err-take_next.is).2 place kept found (ap (λ (r : Refused). r.error) same ∙ error))

pub returns-in-Err-take_next-clause-spent : goal.returns-in-Err-take_next-clause-spent
returns-in-Err-take_next-clause-spent g c refused is error =
    let heard = heard_now g.T.TakesRound.order g.K.Keeper.tells g.O.Sink.tells g.S.Source.tells g.S.Source.left g.S.Source.faults c.args.basis.now.setup c.args.basis.now.configured.config c.args.basis.now.configured.documents c.args.sources.now (g.K.Keeper.kept c.args.keeper.now) (g.O.Sink.written c.args.results.now) (linked_by g.L.Link c.args.basis.now.setup c.args.link.now) g.C.Clock.reads c.args.clock.now
    (g.K.Keeper.kept c.loop.keeper) (g.K.Keeper.kept c.forward_sealed.new.keeper) c.in-Ok-forward_sealed.marks c.loop.invariant.looping.running.added.linked (view_of g.L.Link c.loop.link) (view_of g.L.Link c.forward_sealed.new.link) c.forward_sealed.ensures.kept c.loop.invariant.linked c.in-Ok-forward_sealed.ensures.heard in
    let same : c.in-Err-take_next.refused ≡ refused = sym c.told-refused-in-Err-take_next.ensures.same ∙ same_refusal _ _ is in
    let why = ap (λ (r : Refused). r.error) same ∙ error in
    spent_on _ _ _ _ _ _ _ _ _ _ _ _ _ _ _ c.loop.clock c.next_moment.new.clock (g.K.Keeper.kept c.forward_sealed.new.keeper) (g.K.Keeper.kept c.take_next.new.keeper) c.loop.feeds c.take_next.new.feeds c.loop.sources c.take_next.new.sources c.loop.last c.in-Ok-next_moment.moment c.loop.state c.take_next.new.state (still_added g.S.Source.left _ g.C.Clock.reads c.args.clock.now c.loop.clock (g.K.Keeper.kept c.loop.keeper) (g.K.Keeper.kept c.forward_sealed.new.keeper) c.loop.feeds c.loop.sources c.loop.last c.loop.state c.loop.invariant.looping.running.added c.forward_sealed.ensures.kept) c.loop.invariant.ready.going.distinct c.in-Ok-next_moment.ensures.read
    (λ tells. c.take_next.ensures.unkept tells c.in-Err-take_next.refused c.in-Err-take_next.is (spent_not_keeper _ why) (spent_not_sink _ why)) c.in-Ok-forward_sealed.marks (view_of g.L.Link c.forward_sealed.new.link) heard (c.take_next.ensures.spent c.in-Err-take_next.refused c.in-Err-take_next.is why)

pub returns-in-Err-take_next-clause-later : goal.returns-in-Err-take_next-clause-later
returns-in-Err-take_next-clause-later g c =
    let k = c.loop.invariant.keeper_later in
    let r = c.loop.invariant.results_later in
    let s = c.loop.invariant.status_later in
    let ticked = c.take_next.ensures.later in
    let k2 = ticked.0 in
    let r2 = ticked.1 in
    let k1 = c.forward_sealed.ensures.later.0 in
    let noted = c.next_moment.ensures.later in
    let behind = c.told-refused-in-Err-take_next.ensures.later in
    (omega (arith, k, k1, k2), omega (arith, r, r2), omega (arith, s, noted, behind))

pub loop-preserved : goal.loop-preserved
loop-preserved g c =
    let linked = c.loop.invariant.link_later in
    let linking = c.forward_sealed.ensures.later.1 in
    let heard = heard_now g.T.TakesRound.order g.K.Keeper.tells g.O.Sink.tells g.S.Source.tells g.S.Source.left g.S.Source.faults c.args.basis.now.setup c.args.basis.now.configured.config c.args.basis.now.configured.documents c.args.sources.now (g.K.Keeper.kept c.args.keeper.now) (g.O.Sink.written c.args.results.now) (linked_by g.L.Link c.args.basis.now.setup c.args.link.now) g.C.Clock.reads c.args.clock.now
    (g.K.Keeper.kept c.loop.keeper) (g.K.Keeper.kept c.forward_sealed.new.keeper) c.in-Ok-forward_sealed.marks c.loop.invariant.looping.running.added.linked (view_of g.L.Link c.loop.link) (view_of g.L.Link c.forward_sealed.new.link) c.forward_sealed.ensures.kept c.loop.invariant.linked c.in-Ok-forward_sealed.ensures.heard in
    let k = c.loop.invariant.keeper_later in
    let r = c.loop.invariant.results_later in
    let s = c.loop.invariant.status_later in
    let k1 = c.forward_sealed.ensures.later.0 in
    let noted = c.next_moment.ensures.later in
    let ticked = c.take_next.ensures.later in
    let k2 = ticked.0 in
    let r2 = ticked.1 in
    record {
      looping = looped_on _ _ _ _ _ _ _ _ _ _ _ _ _ _ _ c.loop.clock c.next_moment.new.clock c.loop.counter (g.K.Keeper.kept c.loop.keeper) (g.K.Keeper.kept c.forward_sealed.new.keeper) (g.K.Keeper.kept c.take_next.new.keeper) (g.O.Sink.written c.loop.results) c.loop.feeds c.take_next.new.feeds c.loop.sources c.take_next.new.sources c.loop.last c.in-Ok-next_moment.moment c.loop.state c.loop.invariant.looping c.forward_sealed.ensures.kept c.loop.invariant.ready.going c.in-Ok-next_moment.ensures.read c.in-Ok-forward_sealed.marks (view_of g.L.Link c.forward_sealed.new.link) heard (g.O.Sink.written c.take_next.new.results) c.in-Ok-take_next.last c.take_next.new.state c.in-Ok-take_next.ensures.done;
      linked = linked_on _ _ _ _ _ _ _ _ _ _ _ _ _ _ _ c.loop.clock c.next_moment.new.clock c.loop.counter (g.K.Keeper.kept c.loop.keeper) (g.K.Keeper.kept c.forward_sealed.new.keeper) (g.K.Keeper.kept c.take_next.new.keeper) (g.O.Sink.written c.loop.results) c.loop.feeds c.take_next.new.feeds c.loop.sources c.take_next.new.sources c.loop.last c.in-Ok-next_moment.moment c.loop.state c.loop.invariant.looping c.forward_sealed.ensures.kept c.loop.invariant.ready.going c.in-Ok-next_moment.ensures.read c.in-Ok-forward_sealed.marks (view_of g.L.Link c.forward_sealed.new.link) heard (g.O.Sink.written c.take_next.new.results) c.in-Ok-take_next.last c.take_next.new.state c.in-Ok-take_next.ensures.done;
      unlinked = λ off. c.forward_sealed.ensures.unlinked off ∙ c.loop.invariant.unlinked off;
      link_later = omega (arith, linked, linking);
      ready = c.in-Ok-take_next.ensures.ready;
      sealed = λ counts off. let (begun, acked, tick) = c.in-Ok-take_next.ensures.done in
          next_sealed g.K.Keeper.tells (g.K.Keeper.calls c.args.keeper.now) (g.K.Keeper.calls c.forward_sealed.new.keeper) (g.K.Keeper.calls c.take_next.new.keeper) (g.K.Keeper.kept c.args.keeper.now) (g.K.Keeper.kept c.forward_sealed.new.keeper) (g.K.Keeper.kept c.take_next.new.keeper) c.loop.counter
          (subst (λ (k : _). HasSealedOf g.K.Keeper c.args.keeper.now k c.loop.counter) (sym (c.forward_sealed.ensures.still off)) (c.loop.invariant.sealed counts off)) (c.in-Ok-take_next.ensures.passed counts)
          (λ told. sealed_ticks (g.K.Keeper.kept c.forward_sealed.new.keeper) (g.K.Keeper.kept c.take_next.new.keeper) tick.settled.tail 1 (tick.kept told) (tick_begins _ _ _ _ _ _ _ _ _ _ _ _ _ _ tick.settled tick.done ∙ ap (λ (ticks : ℕ). ticks + 1) (none_acked c.loop.state c.in-Ok-forward_sealed.marks begun c.loop.invariant.looping.running.added.empty acked)));
      goes_on = c.in-Ok-take_next.ensures.goes_on;
      keeper_later = omega (arith, k, k1, k2);
      results_later = omega (arith, r, r2);
      status_later = omega (arith, s, noted);
      noted = λ tells. grown_then _ _ _ (c.loop.invariant.noted tells) (c.next_moment.ensures.grown tells);
      told = λ tells. noted_so (fixed_of g.T.TakesRound.order g.K.Keeper g.O.Sink g.S.Source g.L.Link c.args.basis.now c.args.sources.now c.args.keeper.now c.args.results.now c.args.link.now) c.args.basis.now.configured.notes (g.O.Sink.written c.args.status.now) ((places_of (g.K.Keeper.kept c.args.keeper.now) c.loop.invariant.looping.running.added.entries) ++ again_places (asks_again c.args.basis.now.configured.config c.loop.last c.in-Ok-next_moment.moment) (tick_place (((g.K.Keeper.kept c.args.keeper.now) ++ c.loop.invariant.looping.running.added.entries) ++ map Acked c.in-Ok-forward_sealed.marks) c.in-Ok-next_moment.moment)) _ _ (counted_on _ _ _ _ _ _ _ _ _ _ _ _ _ _ _ c.loop.clock c.next_moment.new.clock c.loop.counter (g.K.Keeper.kept c.loop.keeper) (g.K.Keeper.kept c.forward_sealed.new.keeper) (g.K.Keeper.kept c.take_next.new.keeper) (g.O.Sink.written c.loop.results) c.loop.feeds c.take_next.new.feeds c.loop.sources c.take_next.new.sources c.loop.last c.in-Ok-next_moment.moment c.loop.state c.loop.invariant.looping c.forward_sealed.ensures.kept c.loop.invariant.ready.going c.in-Ok-next_moment.ensures.read c.in-Ok-forward_sealed.marks (view_of g.L.Link c.forward_sealed.new.link) heard (g.O.Sink.written c.take_next.new.results) c.in-Ok-take_next.last c.take_next.new.state c.in-Ok-take_next.ensures.done) (noted_on (fixed_of g.T.TakesRound.order g.K.Keeper g.O.Sink g.S.Source g.L.Link c.args.basis.now c.args.sources.now c.args.keeper.now c.args.results.now c.args.link.now) c.args.basis.now.configured.notes (g.O.Sink.written c.args.status.now) (asks_again c.args.basis.now.configured.config c.loop.last c.in-Ok-next_moment.moment) (places_of (g.K.Keeper.kept c.args.keeper.now) c.loop.invariant.looping.running.added.entries) (tick_place (((g.K.Keeper.kept c.args.keeper.now) ++ c.loop.invariant.looping.running.added.entries) ++ map Acked c.in-Ok-forward_sealed.marks) c.in-Ok-next_moment.moment) (found_now c.args.basis.now.configured.config c.loop.state c.in-Ok-next_moment.moment) (g.O.Sink.written c.loop.status) (g.O.Sink.written c.next_moment.new.status) (found_on _ _ _ _ _ _ _ _ _ _ _ _ _ _ _ c.loop.clock c.next_moment.new.clock c.loop.counter (g.K.Keeper.kept c.loop.keeper) (g.K.Keeper.kept c.forward_sealed.new.keeper) (g.K.Keeper.kept c.take_next.new.keeper) (g.O.Sink.written c.loop.results) c.loop.feeds c.take_next.new.feeds c.loop.sources c.take_next.new.sources c.loop.last c.in-Ok-next_moment.moment c.loop.state c.loop.invariant.looping c.forward_sealed.ensures.kept c.loop.invariant.ready.going c.in-Ok-next_moment.ensures.read c.in-Ok-forward_sealed.marks (view_of g.L.Link c.forward_sealed.new.link) heard c.next_moment.ensures.is) (c.loop.invariant.told tells) (c.in-Ok-next_moment.ensures.noted tells));
    }

pub returns-clause-done : goal.returns-clause-done
returns-clause-done g c =
    let over = c.in-Ok-forward_last.ensures.done in
    let heard = heard_now g.T.TakesRound.order g.K.Keeper.tells g.O.Sink.tells g.S.Source.tells g.S.Source.left g.S.Source.faults c.args.basis.now.setup c.args.basis.now.configured.config c.args.basis.now.configured.documents c.args.sources.now (g.K.Keeper.kept c.args.keeper.now) (g.O.Sink.written c.args.results.now) (linked_by g.L.Link c.args.basis.now.setup c.args.link.now) g.C.Clock.reads c.args.clock.now
    (g.K.Keeper.kept c.loop.keeper) (g.K.Keeper.kept c.loop.keeper) over.marks c.loop.invariant.looping.running.added.linked (view_of g.L.Link c.loop.link) (view_of g.L.Link c.forward_last.new.link) (λ told. refl) c.loop.invariant.linked over.heard in
    let l = c.loop.invariant.looping in
    let past = c.loop-test.false in
    let within = c.loop.auto.counter-end in
    let some = c.requires.ticks in
    let same : c.loop.counter ≡ c.args.basis.now.setup.ticks = omega (arith, past, within, some) in
    of_value _ _ _ c.end_session-ended.result c.end_session-ended.ensures.is_end c.end_session-ended.ensures.numbers
    (λ ended is_end numbers. has_run g.S.Source.left _ g.C.Clock.reads c.args.clock.now c.loop.clock (g.K.Keeper.kept c.loop.keeper) (g.K.Keeper.kept c.forward_last.new.keeper) (g.O.Sink.written c.loop.results) c.loop.feeds c.loop.sources c.loop.last c.loop.state c.forward_last.new.state l.running.added over.marks (view_of g.L.Link c.forward_last.new.link) heard over.sealed.kept (over_standing _ _ _ _ _ _ _ _ _ _ _ _ _ _ _ c.loop.clock c.loop.counter (g.K.Keeper.kept c.loop.keeper) (g.O.Sink.written c.loop.results) c.loop.feeds c.loop.sources c.loop.last c.loop.state c.loop.invariant.looping over.marks (view_of g.L.Link c.forward_last.new.link) heard (g.K.Keeper.kept c.forward_last.new.keeper) over.sealed.between c.forward_last.new.state over.sealed.acked over.sealed.taken over.sealed.kept) (over_empty _ _ _ _ _ _ _ _ _ _ _ _ _ _ _ c.loop.clock c.loop.counter (g.K.Keeper.kept c.loop.keeper) (g.O.Sink.written c.loop.results) c.loop.feeds c.loop.sources c.loop.last c.loop.state c.loop.invariant.looping over.marks (view_of g.L.Link c.forward_last.new.link) heard (g.K.Keeper.kept c.forward_last.new.keeper) over.sealed.between c.forward_last.new.state over.sealed.acked over.sealed.taken over.sealed.kept) (over_told _ _ _ _ _ _ _ _ _ _ _ _ _ _ _ c.loop.clock c.loop.counter (g.K.Keeper.kept c.loop.keeper) (g.O.Sink.written c.loop.results) c.loop.feeds c.loop.sources c.loop.last c.loop.state c.loop.invariant.looping over.marks (view_of g.L.Link c.forward_last.new.link) heard (g.K.Keeper.kept c.forward_last.new.keeper) over.sealed.between c.forward_last.new.state over.sealed.acked over.sealed.taken over.sealed.kept) c.args.basis.now.setup.ticks
    (λ told. subst (λ (steps : ℕ). HaveSteps g.S.Source.tells g.S.Source.left c.args.basis.now.setup.records steps (g.K.Keeper.kept c.args.keeper.now) (sources_of g.S.Source.left c.args.basis.now.setup.sources c.args.sources.now) c.loop.feeds c.loop.sources) same (l.have told)) c.is_state.ensures (over_due _ _ _ _ _ _ _ _ _ _ _ _ _ _ _ c.loop.clock c.loop.counter (g.K.Keeper.kept c.loop.keeper) (g.O.Sink.written c.loop.results) c.loop.feeds c.loop.sources c.loop.last c.loop.state c.loop.invariant.looping over.marks (view_of g.L.Link c.forward_last.new.link) heard (g.K.Keeper.kept c.forward_last.new.keeper) over.sealed.between c.forward_last.new.state over.sealed.acked over.sealed.taken over.sealed.kept c.loop.invariant.ready) (over_owed _ _ _ _ _ _ _ _ _ _ _ _ _ _ _ c.loop.clock c.loop.counter (g.K.Keeper.kept c.loop.keeper) (g.O.Sink.written c.loop.results) c.loop.feeds c.loop.sources c.loop.last c.loop.state c.loop.invariant.looping over.marks (view_of g.L.Link c.forward_last.new.link) heard (g.K.Keeper.kept c.forward_last.new.keeper) over.sealed.between c.forward_last.new.state over.sealed.acked over.sealed.taken over.sealed.kept c.loop.invariant.ready) c.coverage.ensures ended (l.count ∙ same) is_end numbers)

pub returns-clause-kept : goal.returns-clause-kept
returns-clause-kept g c told =
    let over = c.in-Ok-forward_last.ensures.done in
    let heard = heard_now g.T.TakesRound.order g.K.Keeper.tells g.O.Sink.tells g.S.Source.tells g.S.Source.left g.S.Source.faults c.args.basis.now.setup c.args.basis.now.configured.config c.args.basis.now.configured.documents c.args.sources.now (g.K.Keeper.kept c.args.keeper.now) (g.O.Sink.written c.args.results.now) (linked_by g.L.Link c.args.basis.now.setup c.args.link.now) g.C.Clock.reads c.args.clock.now
    (g.K.Keeper.kept c.loop.keeper) (g.K.Keeper.kept c.loop.keeper) over.marks c.loop.invariant.looping.running.added.linked (view_of g.L.Link c.loop.link) (view_of g.L.Link c.forward_last.new.link) (λ told. refl) c.loop.invariant.linked over.heard in
    over_kept _ _ _ _ _ _ _ _ _ _ _ _ _ _ _ c.loop.clock c.loop.counter (g.K.Keeper.kept c.loop.keeper) (g.O.Sink.written c.loop.results) c.loop.feeds c.loop.sources c.loop.last c.loop.state c.loop.invariant.looping over.marks (view_of g.L.Link c.forward_last.new.link) heard (g.K.Keeper.kept c.forward_last.new.keeper) over.sealed.between c.forward_last.new.state over.sealed.acked over.sealed.taken over.sealed.kept

pub returns-clause-written : goal.returns-clause-written
returns-clause-written g c told =
    let over = c.in-Ok-forward_last.ensures.done in
    let heard = heard_now g.T.TakesRound.order g.K.Keeper.tells g.O.Sink.tells g.S.Source.tells g.S.Source.left g.S.Source.faults c.args.basis.now.setup c.args.basis.now.configured.config c.args.basis.now.configured.documents c.args.sources.now (g.K.Keeper.kept c.args.keeper.now) (g.O.Sink.written c.args.results.now) (linked_by g.L.Link c.args.basis.now.setup c.args.link.now) g.C.Clock.reads c.args.clock.now
    (g.K.Keeper.kept c.loop.keeper) (g.K.Keeper.kept c.loop.keeper) over.marks c.loop.invariant.looping.running.added.linked (view_of g.L.Link c.loop.link) (view_of g.L.Link c.forward_last.new.link) (λ told. refl) c.loop.invariant.linked over.heard in
    over_written _ _ _ _ _ _ _ _ _ _ _ _ _ _ _ c.loop.clock c.loop.counter (g.K.Keeper.kept c.loop.keeper) (g.O.Sink.written c.loop.results) c.loop.feeds c.loop.sources c.loop.last c.loop.state c.loop.invariant.looping over.marks (view_of g.L.Link c.forward_last.new.link) heard (g.K.Keeper.kept c.forward_last.new.keeper) over.sealed.between c.forward_last.new.state over.sealed.acked over.sealed.taken over.sealed.kept told

pub returns-clause-keeper_cause : goal.returns-clause-keeper_cause
returns-clause-keeper_cause g c refused is error =
    absurd (subst (IsBetween _ _) error (of_error _ c.end_session-ended.result refused c.end_session-ended.ensures.cause is))

pub returns-clause-refused : goal.returns-clause-refused
returns-clause-refused g c told refused is error =
    absurd (subst (IsBetween _ _) error (of_error _ c.end_session-ended.result refused c.end_session-ended.ensures.cause is))

pub returns-clause-illegal : goal.returns-clause-illegal
returns-clause-illegal g c told refused is error =
    absurd (subst (IsBetween _ _) error (of_error _ c.end_session-ended.result refused c.end_session-ended.ensures.cause is))

pub returns-clause-moment : goal.returns-clause-moment
returns-clause-moment g c refused moment is error =
    absurd (subst (IsBetween _ _) error (of_error _ c.end_session-ended.result refused c.end_session-ended.ensures.cause is))

pub returns-clause-fault : goal.returns-clause-fault
returns-clause-fault g c refused place is error =
    absurd (subst (IsBetween _ _) error (of_error _ c.end_session-ended.result refused c.end_session-ended.ensures.cause is))

pub returns-clause-shrank : goal.returns-clause-shrank
returns-clause-shrank g c refused place kept found is error =
    absurd (subst (IsBetween _ _) error (of_error _ c.end_session-ended.result refused c.end_session-ended.ensures.cause is))

pub returns-clause-spent : goal.returns-clause-spent
returns-clause-spent g c refused is error =
    absurd (subst (IsBetween _ _) error (of_error _ c.end_session-ended.result refused c.end_session-ended.ensures.cause is))

pub returns-clause-sink_cause : goal.returns-clause-sink_cause
returns-clause-sink_cause g c refused is error =
    let rose = subst (IsBetween _ _) error (of_error _ c.end_session-ended.result refused c.end_session-ended.ensures.cause is) in
    let before = c.loop.invariant.status_later in
    inr (omega (arith, rose, before))

pub returns-clause-told : goal.returns-clause-told
returns-clause-told g c tells =
    let over = c.in-Ok-forward_last.ensures.done in
    let heard = heard_now g.T.TakesRound.order g.K.Keeper.tells g.O.Sink.tells g.S.Source.tells g.S.Source.left g.S.Source.faults c.args.basis.now.setup c.args.basis.now.configured.config c.args.basis.now.configured.documents c.args.sources.now (g.K.Keeper.kept c.args.keeper.now) (g.O.Sink.written c.args.results.now) (linked_by g.L.Link c.args.basis.now.setup c.args.link.now) g.C.Clock.reads c.args.clock.now
    (g.K.Keeper.kept c.loop.keeper) (g.K.Keeper.kept c.loop.keeper) over.marks c.loop.invariant.looping.running.added.linked (view_of g.L.Link c.loop.link) (view_of g.L.Link c.forward_last.new.link) (λ told. refl) c.loop.invariant.linked over.heard in
    let skipped = c.end_session-ended.ensures.skipped tells in
    of_value _ _ _ c.end_session-ended.result skipped skipped (λ ended is same. record {
      places = places_of (g.K.Keeper.kept c.args.keeper.now) c.loop.invariant.looping.running.added.entries;
      configured = λ told. (c.loop.invariant.looping.running.added.entries ++ map Acked over.marks, over_list _ _ _ _ _ _ _ _ _ _ _ _ _ _ _ c.loop.clock c.loop.counter (g.K.Keeper.kept c.loop.keeper) (g.O.Sink.written c.loop.results) c.loop.feeds c.loop.sources c.loop.last c.loop.state c.loop.invariant.looping over.marks (view_of g.L.Link c.forward_last.new.link) heard (g.K.Keeper.kept c.forward_last.new.keeper) over.sealed.between c.forward_last.new.state over.sealed.acked over.sealed.taken over.sealed.kept told, sym (over_places _ _ _ _ _ _ _ _ _ _ _ _ _ _ _ c.loop.clock c.loop.counter (g.K.Keeper.kept c.loop.keeper) (g.O.Sink.written c.loop.results) c.loop.feeds c.loop.sources c.loop.last c.loop.state c.loop.invariant.looping over.marks (view_of g.L.Link c.forward_last.new.link) heard (g.K.Keeper.kept c.forward_last.new.keeper) over.sealed.between c.forward_last.new.state over.sealed.acked over.sealed.taken over.sealed.kept));
      between = g.O.Sink.written c.loop.status;
      noted = c.loop.invariant.told tells;
      feeds = c.loop.feeds;
      rests = map g.S.Source.left c.loop.sources;
      fed = over_fed _ _ _ _ _ _ _ _ _ _ _ _ _ _ _ c.loop.clock c.loop.counter (g.K.Keeper.kept c.loop.keeper) (g.O.Sink.written c.loop.results) c.loop.feeds c.loop.sources c.loop.last c.loop.state c.loop.invariant.looping over.marks (view_of g.L.Link c.forward_last.new.link) heard (g.K.Keeper.kept c.forward_last.new.keeper) over.sealed.between c.forward_last.new.state over.sealed.acked over.sealed.taken over.sealed.kept;
      skipped = is;
    })

pub returns-clause-notes : goal.returns-clause-notes
returns-clause-notes g c tells =
    grown_then _ _ _ (c.loop.invariant.noted tells) (c.end_session-ended.ensures.grown tells)

pub returns-clause-later : goal.returns-clause-later
returns-clause-later g c =
    let sealed = c.loop.invariant.keeper_later in
    let forwarded = c.forward_last.ensures.later.0 in
    let before = c.loop.invariant.status_later in
    let behind = c.end_session-ended.ensures.later in
    (omega (arith, sealed, forwarded), c.loop.invariant.results_later, omega (arith, before, behind))

pub returns-in-Err-clause-stops : goal.returns-in-Err-clause-stops
returns-in-Err-clause-stops g c =
    unloaded_stops _ (λ readings. ReadsAll g.C.Clock.reads c.args.clock.now readings c.args.clock.now) (g.K.Keeper.kept c.load_values.new.keeper) (c.args.status.now ≡ c.args.status.now) c.in-Err.error c.unloaded.result c.unloaded.ensures.error c.unloaded.ensures.numbers refl refl
    (λ tells numbers is. subst (λ (list : List Entry). HasNumbers list numbers) (sym (c.in-Err.ensures.same tells)) (c.load_values.ensures.numbers tells numbers (c.in-Err.is ∙ ap Err is)))

pub returns-in-Err-clause-stops_telling : goal.returns-in-Err-clause-stops_telling
returns-in-Err-clause-stops_telling g c tells =
    inl (record {
      places = [];
      configured = λ told. places_still (g.K.Keeper.kept c.args.keeper.now) (g.K.Keeper.kept c.load_values.new.keeper) (c.in-Err.ensures.same told);
      between = g.O.Sink.written c.args.status.now;
      noted = noted_none (fixed_of g.T.TakesRound.order g.K.Keeper g.O.Sink g.S.Source g.L.Link c.args.basis.now c.args.sources.now c.args.keeper.now c.args.results.now c.args.link.now) c.args.basis.now.configured.notes (g.O.Sink.written c.args.status.now);
      skipped = inl refl;
    })

pub returns-in-Err-open_noted-clause-stops : goal.returns-in-Err-open_noted-clause-stops
returns-in-Err-open_noted-clause-stops g c =
    let refused = c.in-Err-open_noted.refused in
    let loaded = c.in-Err-open_noted.ensures.loaded in
    stops_with _ (λ readings. ReadsAll g.C.Clock.reads c.args.clock.now readings c.open_noted.new.clock) (g.K.Keeper.kept c.load_values.new.keeper) (c.open_noted.new.status ≡ c.args.status.now) refused.error refused.numbers (numbers_in c.in-Ok.restored) c.in-Err-open_noted.ensures.numbers
    (numbers_for _ (λ readings. ReadsAll g.C.Clock.reads c.args.clock.now readings c.open_noted.new.clock) (g.K.Keeper.kept c.load_values.new.keeper) refused.error (numbers_in c.in-Ok.restored) loaded.0 loaded.1
    (loaded_numbers (fixed_of g.T.TakesRound.order g.K.Keeper g.O.Sink g.S.Source g.L.Link c.args.basis.now c.args.sources.now c.args.keeper.now c.args.results.now c.args.link.now) (λ readings. ReadsAll g.C.Clock.reads c.args.clock.now readings c.open_noted.new.clock) (g.K.Keeper.kept c.load_values.new.keeper) c.in-Ok.restored c.in-Ok.ensures.value c.in-Ok.ensures.same))

pub returns-in-Err-open_noted-clause-stops_telling : goal.returns-in-Err-open_noted-clause-stops_telling
returns-in-Err-open_noted-clause-stops_telling g c tells =
    told_opening _ _ _ _ _ _ _ _ _ _ _ _ _ _ _ c.open_noted.new.clock c.in-Ok.restored (g.K.Keeper.kept c.load_values.new.keeper) c.open_noted.new.sources c.in-Ok.ensures.value c.in-Ok.ensures.same c.requires.distinct c.args.basis.now.configured.notes (g.O.Sink.written c.args.status.now) (g.O.Sink.written c.open_noted.new.status) (g.O.Sink.faults c.args.status.now) (g.O.Sink.faults c.open_noted.new.status)
    (c.in-Err-open_noted.ensures.untold tells)

pub returns-in-Err-take_tick-clause-stops : goal.returns-in-Err-take_tick-clause-stops
returns-in-Err-take_tick-clause-stops g c =
    let kept_is = c.in-Ok.ensures.same in
    let opens = opens_here _ _ _ _ _ _ _ _ _ _ _ _ _ _ _ c.open_noted.new.clock c.in-Ok.restored (g.K.Keeper.kept c.load_values.new.keeper) c.in-Ok-open_noted.session.feeds.items c.as_mut_slice-feeds.result.now c.open_noted.new.sources c.in-Ok-open_noted.session.configured_at c.in-Ok-open_noted.session.state c.in-Ok.ensures.value kept_is c.requires.distinct c.in-Ok-open_noted.ensures.opened c.as_mut_slice-feeds.ensures.value in
    let going = subst (λ (feeds : List Feeding). AreGoing c.in-Ok-open_noted.session.state.counts.taken feeds) (sym c.as_mut_slice-feeds.ensures.value) c.in-Ok-open_noted.ensures.going in
    let refused = c.in-Err-take_tick.refused in
    let same : c.numbers_in-sealed.result ≡ numbers_in c.in-Ok.restored = c.numbers_in-sealed.ensures in
    let loaded = loaded_numbers (fixed_of g.T.TakesRound.order g.K.Keeper g.O.Sink g.S.Source g.L.Link c.args.basis.now c.args.sources.now c.args.keeper.now c.args.results.now c.args.link.now) (λ readings. ReadsAll g.C.Clock.reads c.args.clock.now readings c.open_noted.new.clock) (g.K.Keeper.kept c.take_tick.new.keeper) c.in-Ok.restored c.in-Ok.ensures.value in
    tick_stops _ (λ readings. ReadsAll g.C.Clock.reads c.args.clock.now readings c.open_noted.new.clock) (g.K.Keeper.kept c.take_tick.new.keeper) (c.told-refused.new.status ≡ c.args.status.now) refused c.told-refused.result c.numbers_in-sealed.result c.take_tick.new.state c.told-refused.ensures.same c.in-Err-take_tick.ensures.numbers
    (c.take_tick.ensures.opened refused c.in-Err-take_tick.is).0
    (λ is. sealed_first _ _ _ _ _ _ _ _ _ _ _ _ _ _ _ c.open_noted.new.clock (g.K.Keeper.kept c.load_values.new.keeper) (g.K.Keeper.kept c.take_tick.new.keeper) (g.O.Sink.written c.take_tick.new.results) c.as_mut_slice-feeds.result.now c.take_tick.new.feeds c.open_noted.new.sources c.take_tick.new.sources c.in-Ok-open_noted.session.configured_at c.in-Ok-open_noted.session.state c.args.basis.now.configured.notes c.requires.configuration opens.0 going kept_is c.numbers_in-sealed.result
    (subst (λ (numbers : Numbers). AreNumbersOf (fixed_of g.T.TakesRound.order g.K.Keeper g.O.Sink g.S.Source g.L.Link c.args.basis.now c.args.sources.now c.args.keeper.now c.args.results.now c.args.link.now) (g.K.Keeper.kept c.args.keeper.now) numbers) (sym same) (loaded_numbers (fixed_of g.T.TakesRound.order g.K.Keeper g.O.Sink g.S.Source g.L.Link c.args.basis.now c.args.sources.now c.args.keeper.now c.args.results.now c.args.link.now) (λ readings. ReadsAll g.C.Clock.reads c.args.clock.now readings c.open_noted.new.clock) (g.K.Keeper.kept c.args.keeper.now) c.in-Ok.restored c.in-Ok.ensures.value (λ tells. refl))) c.in-Err-take_tick.ensures.kept)
    (λ is. numbers_first _ _ _ _ _ _ _ _ _ _ _ _ _ _ _ c.open_noted.new.clock (g.K.Keeper.kept c.load_values.new.keeper) (g.K.Keeper.kept c.take_tick.new.keeper) (g.O.Sink.written c.take_tick.new.results) c.as_mut_slice-feeds.result.now c.take_tick.new.feeds c.open_noted.new.sources c.take_tick.new.sources c.in-Ok-open_noted.session.configured_at c.in-Ok-open_noted.session.state c.args.basis.now.configured.notes c.requires.configuration opens.0 going kept_is c.take_tick.new.state (c.take_tick.ensures.sealed refused c.in-Err-take_tick.is is))
    (λ not_keeper not_sink. subst (λ (numbers : Numbers). AreNumbersOf (fixed_of g.T.TakesRound.order g.K.Keeper g.O.Sink g.S.Source g.L.Link c.args.basis.now c.args.sources.now c.args.keeper.now c.args.results.now c.args.link.now) (g.K.Keeper.kept c.take_tick.new.keeper) numbers) (sym same)
    (loaded (λ tells. c.take_tick.ensures.unkept tells refused c.in-Err-take_tick.is not_keeper not_sink ∙ kept_is tells)))

pub returns-in-Err-take_tick-clause-stops_telling : goal.returns-in-Err-take_tick-clause-stops_telling
returns-in-Err-take_tick-clause-stops_telling g c tells =
    let kept_is = c.in-Ok.ensures.same in
    let opens = opens_here _ _ g.O.Sink.tells _ _ _ _ _ _ _ _ (g.O.Sink.written c.args.results.now) (linked_by g.L.Link c.args.basis.now.setup c.args.link.now) _ _ c.open_noted.new.clock c.in-Ok.restored (g.K.Keeper.kept c.load_values.new.keeper) c.in-Ok-open_noted.session.feeds.items c.as_mut_slice-feeds.result.now c.open_noted.new.sources c.in-Ok-open_noted.session.configured_at c.in-Ok-open_noted.session.state c.in-Ok.ensures.value kept_is c.requires.distinct c.in-Ok-open_noted.ensures.opened c.as_mut_slice-feeds.ensures.value in
    let going = subst (λ (feeds : List Feeding). AreGoing c.in-Ok-open_noted.session.state.counts.taken feeds) (sym c.as_mut_slice-feeds.ensures.value) c.in-Ok-open_noted.ensures.going in
    told_some _ (g.K.Keeper.kept c.take_tick.new.keeper) c.args.basis.now.configured.notes (g.O.Sink.written c.args.status.now) (g.O.Sink.written c.open_noted.new.status) (g.O.Sink.written c.told-refused.new.status) (g.O.Sink.faults c.args.status.now) (g.O.Sink.faults c.open_noted.new.status) (g.O.Sink.faults c.told-refused.new.status)
    ((record { list = (g.K.Keeper.kept c.args.keeper.now) ++ (Opened opens.0.number 2 ∷ opens.0.tables); moment = c.in-Ok-open_noted.session.configured_at }) ∷ []) c.take_tick.new.feeds (counts_first g.S.Source.left _ _ (g.K.Keeper.kept c.take_tick.new.keeper) c.as_mut_slice-feeds.result.now c.take_tick.new.feeds c.open_noted.new.sources (λ told. rest_first _ _ _ _ _ _ _ _ _ _ _ _ _ _ _ c.open_noted.new.clock (g.K.Keeper.kept c.load_values.new.keeper) (g.K.Keeper.kept c.take_tick.new.keeper) (g.O.Sink.written c.take_tick.new.results) c.as_mut_slice-feeds.result.now c.take_tick.new.feeds c.open_noted.new.sources c.take_tick.new.sources c.in-Ok-open_noted.session.configured_at c.in-Ok-open_noted.session.state c.args.basis.now.configured.notes c.requires.configuration opens.0 going kept_is (c.in-Err-take_tick.ensures.kept told) told) opens.0.standing.fed c.take_tick.ensures.counts)
    (λ told. counted_in_first _ _ _ _ _ _ _ _ _ _ _ _ _ _ _ c.open_noted.new.clock (g.K.Keeper.kept c.load_values.new.keeper) (g.K.Keeper.kept c.take_tick.new.keeper) (g.O.Sink.written c.take_tick.new.results) c.as_mut_slice-feeds.result.now c.take_tick.new.feeds c.open_noted.new.sources c.take_tick.new.sources c.in-Ok-open_noted.session.configured_at c.in-Ok-open_noted.session.state c.args.basis.now.configured.notes c.requires.configuration opens.0 going kept_is (c.in-Err-take_tick.ensures.kept told) told) (noted_first (fixed_of g.T.TakesRound.order g.K.Keeper g.O.Sink g.S.Source g.L.Link c.args.basis.now c.args.sources.now c.args.keeper.now c.args.results.now c.args.link.now) c.args.basis.now.configured.notes (g.O.Sink.written c.args.status.now) (record { list = (g.K.Keeper.kept c.args.keeper.now) ++ (Opened opens.0.number 2 ∷ opens.0.tables); moment = c.in-Ok-open_noted.session.configured_at }) c.in-Ok-open_noted.session.found.items (g.O.Sink.written c.open_noted.new.status) (found_first _ _ _ _ _ g.S.Source.faults c.args.basis.now.setup _ _ _ _ _ _ _ _ c.open_noted.new.clock (g.K.Keeper.kept c.load_values.new.keeper) (g.K.Keeper.kept c.take_tick.new.keeper) (g.O.Sink.written c.take_tick.new.results) c.as_mut_slice-feeds.result.now c.take_tick.new.feeds c.open_noted.new.sources c.take_tick.new.sources c.in-Ok-open_noted.session.configured_at c.in-Ok-open_noted.session.state c.args.basis.now.configured.notes c.requires.configuration opens.0 going kept_is c.in-Ok.restored c.in-Ok-open_noted.session.found.items c.in-Ok.ensures.value c.in-Ok-open_noted.ensures.found) (c.in-Ok-open_noted.ensures.noted tells)) (c.told-refused.ensures.skipped tells) c.open_noted.ensures.later

pub returns-in-Err-next_moment-clause-stops : goal.returns-in-Err-next_moment-clause-stops
returns-in-Err-next_moment-clause-stops g c =
    let refused = c.in-Err-next_moment.refused in
    let r = c.loop.invariant.looping.running.added in
    let numbers = numbers_are g.S.Source.left _ r.entries (g.K.Keeper.kept c.loop.keeper) c.loop.feeds c.loop.sources c.loop.last c.loop.state r.standing r.empty in
    subst (λ (r : Refused). Stops (run_of g.T.TakesRound.order g.K.Keeper g.O.Sink g.S.Source g.L.Link g.C.Clock c.args.basis.now c.args.sources.now c.args.keeper.now c.args.results.now c.args.link.now c.args.clock.now c.next_moment.new.clock) (g.K.Keeper.kept c.forward_sealed.new.keeper) (c.told-refused-in-Err-next_moment.new.status ≡ c.args.status.now) r.error r.numbers) (sym c.told-refused-in-Err-next_moment.ensures.same)
    (stops_with _ (λ readings. ReadsAll g.C.Clock.reads c.args.clock.now readings c.next_moment.new.clock) (g.K.Keeper.kept c.forward_sealed.new.keeper) (c.told-refused-in-Err-next_moment.new.status ≡ c.args.status.now) refused.error refused.numbers (numbers_of c.loop.state) c.in-Err-next_moment.ensures.numbers
    (numbers_between (fixed_of g.T.TakesRound.order g.K.Keeper g.O.Sink g.S.Source g.L.Link c.args.basis.now c.args.sources.now c.args.keeper.now c.args.results.now c.args.link.now) (λ readings. ReadsAll g.C.Clock.reads c.args.clock.now readings c.next_moment.new.clock) (g.K.Keeper.kept c.forward_sealed.new.keeper) _ _ refused.error (numbers_of c.loop.state) c.in-Err-next_moment.ensures.cause
    (λ tells legal. subst (λ (list : List Entry). HasNumbers list (numbers_of c.loop.state)) (sym (c.forward_sealed.ensures.kept tells)) (numbers tells legal))))

pub returns-in-Err-next_moment-clause-stops_telling : goal.returns-in-Err-next_moment-clause-stops_telling
returns-in-Err-next_moment-clause-stops_telling g c tells =
    let r = c.loop.invariant.looping.running.added in
    let still = λ (told : g.K.Keeper.tells). c.forward_sealed.ensures.kept told ∙ all_kept g.S.Source.left _ r.entries (g.K.Keeper.kept c.loop.keeper) c.loop.feeds c.loop.sources c.loop.last c.loop.state r.standing r.empty told in
    told_some _ (g.K.Keeper.kept c.forward_sealed.new.keeper) c.args.basis.now.configured.notes (g.O.Sink.written c.args.status.now) (g.O.Sink.written c.loop.status) (g.O.Sink.written c.told-refused-in-Err-next_moment.new.status) (g.O.Sink.faults c.args.status.now) (g.O.Sink.faults c.loop.status) (g.O.Sink.faults c.told-refused-in-Err-next_moment.new.status)
    (places_of (g.K.Keeper.kept c.args.keeper.now) c.loop.invariant.looping.running.added.entries) c.loop.feeds (counts_now g.S.Source.left _ r.entries (g.K.Keeper.kept c.forward_sealed.new.keeper) c.loop.feeds c.loop.sources still r.standing.fed)
    (λ told. places_now (g.K.Keeper.kept c.args.keeper.now) (g.K.Keeper.kept c.forward_sealed.new.keeper) c.loop.invariant.looping.running.added.entries (still told)) (c.loop.invariant.told tells) (skipped_behind c.loop.feeds (g.O.Sink.written c.loop.status) (g.O.Sink.written c.next_moment.new.status) (g.O.Sink.written c.told-refused-in-Err-next_moment.new.status) (g.O.Sink.faults c.loop.status) (g.O.Sink.faults c.next_moment.new.status) (g.O.Sink.faults c.told-refused-in-Err-next_moment.new.status) (c.in-Err-next_moment.ensures.untold tells) (c.told-refused-in-Err-next_moment.ensures.skipped tells) c.next_moment.ensures.later c.told-refused-in-Err-next_moment.ensures.later) c.loop.invariant.status_later

pub returns-in-Err-take_next-clause-stops : goal.returns-in-Err-take_next-clause-stops
returns-in-Err-take_next-clause-stops g c =
    let heard = heard_now g.T.TakesRound.order g.K.Keeper.tells g.O.Sink.tells g.S.Source.tells g.S.Source.left g.S.Source.faults c.args.basis.now.setup c.args.basis.now.configured.config c.args.basis.now.configured.documents c.args.sources.now (g.K.Keeper.kept c.args.keeper.now) (g.O.Sink.written c.args.results.now) (linked_by g.L.Link c.args.basis.now.setup c.args.link.now) g.C.Clock.reads c.args.clock.now
    (g.K.Keeper.kept c.loop.keeper) (g.K.Keeper.kept c.forward_sealed.new.keeper) c.in-Ok-forward_sealed.marks c.loop.invariant.looping.running.added.linked (view_of g.L.Link c.loop.link) (view_of g.L.Link c.forward_sealed.new.link) c.forward_sealed.ensures.kept c.loop.invariant.linked c.in-Ok-forward_sealed.ensures.heard in
    let refused = c.in-Err-take_next.refused in
    let same : c.numbers_of-sealed.result ≡ numbers_of c.loop.state = c.numbers_of-sealed.ensures in
    tick_stops _ (λ readings. ReadsAll g.C.Clock.reads c.args.clock.now readings c.next_moment.new.clock) (g.K.Keeper.kept c.take_next.new.keeper) (c.told-refused-in-Err-take_next.new.status ≡ c.args.status.now) refused c.told-refused-in-Err-take_next.result c.numbers_of-sealed.result c.take_next.new.state c.told-refused-in-Err-take_next.ensures.same c.in-Err-take_next.ensures.numbers
    (c.take_next.ensures.opened refused c.in-Err-take_next.is).0
    (λ is. subst (λ (numbers : Numbers). AreSealed (run_of g.T.TakesRound.order g.K.Keeper g.O.Sink g.S.Source g.L.Link g.C.Clock c.args.basis.now c.args.sources.now c.args.keeper.now c.args.results.now c.args.link.now c.args.clock.now c.next_moment.new.clock) (g.K.Keeper.kept c.take_next.new.keeper) numbers) (sym same) (sealed_on _ _ _ _ _ _ _ _ _ _ _ _ _ _ _ c.loop.clock c.next_moment.new.clock c.loop.counter (g.K.Keeper.kept c.loop.keeper) (g.K.Keeper.kept c.forward_sealed.new.keeper) (g.K.Keeper.kept c.take_next.new.keeper) (g.O.Sink.written c.loop.results) c.loop.feeds c.take_next.new.feeds c.loop.sources c.take_next.new.sources c.loop.last c.in-Ok-next_moment.moment c.loop.state c.loop.invariant.looping c.forward_sealed.ensures.kept c.loop.invariant.ready.going c.in-Ok-next_moment.ensures.read c.in-Ok-forward_sealed.marks (view_of g.L.Link c.forward_sealed.new.link) heard c.in-Err-take_next.ensures.kept))
    (λ is. numbers_on _ _ _ _ _ _ _ _ _ _ _ _ _ _ _ c.loop.clock c.next_moment.new.clock c.loop.counter (g.K.Keeper.kept c.loop.keeper) (g.K.Keeper.kept c.forward_sealed.new.keeper) (g.K.Keeper.kept c.take_next.new.keeper) (g.O.Sink.written c.loop.results) c.loop.feeds c.take_next.new.feeds c.loop.sources c.take_next.new.sources c.loop.last c.in-Ok-next_moment.moment c.loop.state c.loop.invariant.looping c.forward_sealed.ensures.kept c.loop.invariant.ready.going c.in-Ok-next_moment.ensures.read c.in-Ok-forward_sealed.marks (view_of g.L.Link c.forward_sealed.new.link) heard c.take_next.new.state (c.take_next.ensures.sealed refused c.in-Err-take_next.is is))
    (λ not_keeper not_sink. subst (λ (numbers : Numbers). AreNumbersOf (fixed_of g.T.TakesRound.order g.K.Keeper g.O.Sink g.S.Source g.L.Link c.args.basis.now c.args.sources.now c.args.keeper.now c.args.results.now c.args.link.now) (g.K.Keeper.kept c.take_next.new.keeper) numbers) (sym same)
    (numbers_same _ _ _ _ _ _ _ _ _ _ _ _ _ _ _ c.loop.clock c.next_moment.new.clock c.loop.counter (g.K.Keeper.kept c.loop.keeper) (g.K.Keeper.kept c.forward_sealed.new.keeper) (g.K.Keeper.kept c.take_next.new.keeper) (g.O.Sink.written c.loop.results) c.loop.feeds c.take_next.new.feeds c.loop.sources c.take_next.new.sources c.loop.last c.in-Ok-next_moment.moment c.loop.state c.loop.invariant.looping c.forward_sealed.ensures.kept c.loop.invariant.ready.going c.in-Ok-next_moment.ensures.read c.in-Ok-forward_sealed.marks (view_of g.L.Link c.forward_sealed.new.link) heard (λ tells. c.take_next.ensures.unkept tells refused c.in-Err-take_next.is not_keeper not_sink)))

pub returns-in-Err-take_next-clause-stops_telling : goal.returns-in-Err-take_next-clause-stops_telling
returns-in-Err-take_next-clause-stops_telling g c tells =
    let heard = heard_now g.T.TakesRound.order g.K.Keeper.tells g.O.Sink.tells g.S.Source.tells g.S.Source.left g.S.Source.faults c.args.basis.now.setup c.args.basis.now.configured.config c.args.basis.now.configured.documents c.args.sources.now (g.K.Keeper.kept c.args.keeper.now) (g.O.Sink.written c.args.results.now) (linked_by g.L.Link c.args.basis.now.setup c.args.link.now) g.C.Clock.reads c.args.clock.now
    (g.K.Keeper.kept c.loop.keeper) (g.K.Keeper.kept c.forward_sealed.new.keeper) c.in-Ok-forward_sealed.marks c.loop.invariant.looping.running.added.linked (view_of g.L.Link c.loop.link) (view_of g.L.Link c.forward_sealed.new.link) c.forward_sealed.ensures.kept c.loop.invariant.linked c.in-Ok-forward_sealed.ensures.heard in
    let r = c.loop.invariant.looping.running.added in
    let before = c.loop.invariant.status_later in
    let noted = c.next_moment.ensures.later in
    told_some _ (g.K.Keeper.kept c.take_next.new.keeper) c.args.basis.now.configured.notes (g.O.Sink.written c.args.status.now) (g.O.Sink.written c.next_moment.new.status) (g.O.Sink.written c.told-refused-in-Err-take_next.new.status) (g.O.Sink.faults c.args.status.now) (g.O.Sink.faults c.next_moment.new.status) (g.O.Sink.faults c.told-refused-in-Err-take_next.new.status)
    ((places_of (g.K.Keeper.kept c.args.keeper.now) c.loop.invariant.looping.running.added.entries) ++ again_places (asks_again c.args.basis.now.configured.config c.loop.last c.in-Ok-next_moment.moment) (tick_place (((g.K.Keeper.kept c.args.keeper.now) ++ c.loop.invariant.looping.running.added.entries) ++ map Acked c.in-Ok-forward_sealed.marks) c.in-Ok-next_moment.moment)) c.take_next.new.feeds (counts_on g.S.Source.left _ r.entries (g.K.Keeper.kept c.take_next.new.keeper) c.loop.feeds c.take_next.new.feeds c.loop.sources (λ told. more_kept _ _ _ _ _ _ _ _ _ _ _ _ _ _ _ c.loop.clock c.next_moment.new.clock c.loop.counter (g.K.Keeper.kept c.loop.keeper) (g.K.Keeper.kept c.forward_sealed.new.keeper) (g.K.Keeper.kept c.take_next.new.keeper) (g.O.Sink.written c.loop.results) c.loop.feeds c.take_next.new.feeds c.loop.sources c.take_next.new.sources c.loop.last c.in-Ok-next_moment.moment c.loop.state c.loop.invariant.looping c.forward_sealed.ensures.kept c.loop.invariant.ready.going c.in-Ok-next_moment.ensures.read c.in-Ok-forward_sealed.marks (view_of g.L.Link c.forward_sealed.new.link) heard (c.in-Err-take_next.ensures.kept told) told) r.standing.fed c.take_next.ensures.counts)
    (λ told. counted_in _ _ _ _ _ _ _ _ _ _ _ _ _ _ _ c.loop.clock c.next_moment.new.clock c.loop.counter (g.K.Keeper.kept c.loop.keeper) (g.K.Keeper.kept c.forward_sealed.new.keeper) (g.K.Keeper.kept c.take_next.new.keeper) (g.O.Sink.written c.loop.results) c.loop.feeds c.take_next.new.feeds c.loop.sources c.take_next.new.sources c.loop.last c.in-Ok-next_moment.moment c.loop.state c.loop.invariant.looping c.forward_sealed.ensures.kept c.loop.invariant.ready.going c.in-Ok-next_moment.ensures.read c.in-Ok-forward_sealed.marks (view_of g.L.Link c.forward_sealed.new.link) heard (c.in-Err-take_next.ensures.kept told) told) (noted_on (fixed_of g.T.TakesRound.order g.K.Keeper g.O.Sink g.S.Source g.L.Link c.args.basis.now c.args.sources.now c.args.keeper.now c.args.results.now c.args.link.now) c.args.basis.now.configured.notes (g.O.Sink.written c.args.status.now) (asks_again c.args.basis.now.configured.config c.loop.last c.in-Ok-next_moment.moment) (places_of (g.K.Keeper.kept c.args.keeper.now) c.loop.invariant.looping.running.added.entries) (tick_place (((g.K.Keeper.kept c.args.keeper.now) ++ c.loop.invariant.looping.running.added.entries) ++ map Acked c.in-Ok-forward_sealed.marks) c.in-Ok-next_moment.moment) (found_now c.args.basis.now.configured.config c.loop.state c.in-Ok-next_moment.moment) (g.O.Sink.written c.loop.status) (g.O.Sink.written c.next_moment.new.status) (found_on _ _ _ _ _ _ _ _ _ _ _ _ _ _ _ c.loop.clock c.next_moment.new.clock c.loop.counter (g.K.Keeper.kept c.loop.keeper) (g.K.Keeper.kept c.forward_sealed.new.keeper) (g.K.Keeper.kept c.take_next.new.keeper) (g.O.Sink.written c.loop.results) c.loop.feeds c.take_next.new.feeds c.loop.sources c.take_next.new.sources c.loop.last c.in-Ok-next_moment.moment c.loop.state c.loop.invariant.looping c.forward_sealed.ensures.kept c.loop.invariant.ready.going c.in-Ok-next_moment.ensures.read c.in-Ok-forward_sealed.marks (view_of g.L.Link c.forward_sealed.new.link) heard c.next_moment.ensures.is) (c.loop.invariant.told tells) (c.in-Ok-next_moment.ensures.noted tells)) (c.told-refused-in-Err-take_next.ensures.skipped tells) (omega (arith, before, noted))

pub returns-clause-stops : goal.returns-clause-stops
returns-clause-stops g c =
    let over = c.in-Ok-forward_last.ensures.done in
    let heard = heard_now g.T.TakesRound.order g.K.Keeper.tells g.O.Sink.tells g.S.Source.tells g.S.Source.left g.S.Source.faults c.args.basis.now.setup c.args.basis.now.configured.config c.args.basis.now.configured.documents c.args.sources.now (g.K.Keeper.kept c.args.keeper.now) (g.O.Sink.written c.args.results.now) (linked_by g.L.Link c.args.basis.now.setup c.args.link.now) g.C.Clock.reads c.args.clock.now
    (g.K.Keeper.kept c.loop.keeper) (g.K.Keeper.kept c.loop.keeper) over.marks c.loop.invariant.looping.running.added.linked (view_of g.L.Link c.loop.link) (view_of g.L.Link c.forward_last.new.link) (λ told. refl) c.loop.invariant.linked over.heard in
    of_refusal _ _ _ c.end_session-ended.result c.end_session-ended.ensures.cause c.end_session-ended.ensures.stopped
    (λ refused is numbers. stops_with _ (λ readings. ReadsAll g.C.Clock.reads c.args.clock.now readings c.loop.clock) (g.K.Keeper.kept c.forward_last.new.keeper) (c.end_session-ended.new.status ≡ c.args.status.now) refused.error refused.numbers (numbers_of c.forward_last.new.state) numbers
    (numbers_between _ (λ readings. ReadsAll g.C.Clock.reads c.args.clock.now readings c.loop.clock) (g.K.Keeper.kept c.forward_last.new.keeper) _ _ refused.error (numbers_of c.forward_last.new.state) is
    (over_numbers _ _ _ _ _ _ _ _ _ _ _ _ _ _ _ c.loop.clock c.loop.counter (g.K.Keeper.kept c.loop.keeper) (g.O.Sink.written c.loop.results) c.loop.feeds c.loop.sources c.loop.last c.loop.state c.loop.invariant.looping over.marks (view_of g.L.Link c.forward_last.new.link) heard (g.K.Keeper.kept c.forward_last.new.keeper) over.sealed.between c.forward_last.new.state over.sealed.acked over.sealed.taken over.sealed.kept)))

pub returns-clause-stops_telling : goal.returns-clause-stops_telling
returns-clause-stops_telling g c tells =
    let over = c.in-Ok-forward_last.ensures.done in
    let heard = heard_now g.T.TakesRound.order g.K.Keeper.tells g.O.Sink.tells g.S.Source.tells g.S.Source.left g.S.Source.faults c.args.basis.now.setup c.args.basis.now.configured.config c.args.basis.now.configured.documents c.args.sources.now (g.K.Keeper.kept c.args.keeper.now) (g.O.Sink.written c.args.results.now) (linked_by g.L.Link c.args.basis.now.setup c.args.link.now) g.C.Clock.reads c.args.clock.now
    (g.K.Keeper.kept c.loop.keeper) (g.K.Keeper.kept c.loop.keeper) over.marks c.loop.invariant.looping.running.added.linked (view_of g.L.Link c.loop.link) (view_of g.L.Link c.forward_last.new.link) (λ told. refl) c.loop.invariant.linked over.heard in
    let untold = c.end_session-ended.ensures.untold tells in
    of_refusal _ _ _ c.end_session-ended.result untold untold
    (λ refused is same. told_none _ (g.K.Keeper.kept c.forward_last.new.keeper) c.args.basis.now.configured.notes (g.O.Sink.written c.args.status.now) (g.O.Sink.written c.loop.status) (g.O.Sink.written c.end_session-ended.new.status) (g.O.Sink.faults c.args.status.now) (g.O.Sink.faults c.loop.status) (g.O.Sink.faults c.end_session-ended.new.status)
    (places_of (g.K.Keeper.kept c.args.keeper.now) c.loop.invariant.looping.running.added.entries) (λ told. places_over _ _ _ _ _ _ _ _ _ _ _ _ _ _ _ c.loop.clock c.loop.counter (g.K.Keeper.kept c.loop.keeper) (g.O.Sink.written c.loop.results) c.loop.feeds c.loop.sources c.loop.last c.loop.state c.loop.invariant.looping (g.K.Keeper.kept c.forward_last.new.keeper) c.loop.invariant.looping.running.added.linked (view_of g.L.Link c.forward_last.new.link) (inr (over.marks, heard, over.sealed.kept told)) told) (c.loop.invariant.told tells) is c.loop.invariant.status_later)

pub returns-clause-fit : goal.returns-clause-fit
returns-clause-fit g c tells = of_any _ c.end_session-ended.result (subst Fits (c.in-Ok.ensures.value tells) c.in-Ok.ensures.fits)

pub returns-in-Err-clause-refused : goal.returns-in-Err-clause-refused
returns-in-Err-clause-refused g c told refused is error =
    let same : c.unloaded.result ≡ refused = same_refusal _ _ is in
    let (kept, why) = unloaded_refused c.in-Err.error (sym c.unloaded.ensures.error ∙ ap (λ (r : Refused). r.error) same ∙ error) in
    c.load_values.ensures.refused told kept (c.in-Err.is ∙ ap Err why)

pub returns-in-Err-clause-illegal : goal.returns-in-Err-clause-illegal
returns-in-Err-clause-illegal g c told refused is error =
    let same : c.unloaded.result ≡ refused = same_refusal _ _ is in
    let (kept, why) = unloaded_refused c.in-Err.error (sym c.unloaded.ensures.error ∙ ap (λ (r : Refused). r.error) same ∙ error) in
    c.load_values.ensures.illegal told kept (c.in-Err.is ∙ ap Err why)

pub forward_sealed-requires-clause-sealed : goal.forward_sealed-requires-clause-sealed
forward_sealed-requires-clause-sealed g c = c.loop.invariant.looping.running.added.empty

pub forward_sealed-requires-clause-goes_on : goal.forward_sealed-requires-clause-goes_on
forward_sealed-requires-clause-goes_on g c = c.loop.invariant.goes_on

pub take_next-requires-clause-sealed : goal.take_next-requires-clause-sealed
take_next-requires-clause-sealed g c κs within = c.loop.invariant.looping.running.added.empty

pub forward_last-requires-clause-sealed : goal.forward_last-requires-clause-sealed
forward_last-requires-clause-sealed g c = c.loop.invariant.looping.running.added.empty

pub forward_last-requires-clause-goes_on : goal.forward_last-requires-clause-goes_on
forward_last-requires-clause-goes_on g c = c.loop.invariant.goes_on

pub returns-in-Err-forward_sealed-clause-refused : goal.returns-in-Err-forward_sealed-clause-refused
returns-in-Err-forward_sealed-clause-refused g c told refused is error =
    let same : c.in-Err-forward_sealed.refused ≡ refused = sym c.told-refused-in-Err-forward_sealed.ensures.same ∙ same_refusal _ _ is in
    absurd (subst (IsUnforwarded _) (ap (λ (r : Refused). r.error) same ∙ error) c.in-Err-forward_sealed.ensures.cause)

pub returns-in-Err-forward_sealed-clause-illegal : goal.returns-in-Err-forward_sealed-clause-illegal
returns-in-Err-forward_sealed-clause-illegal g c told refused is error =
    let same : c.in-Err-forward_sealed.refused ≡ refused = sym c.told-refused-in-Err-forward_sealed.ensures.same ∙ same_refusal _ _ is in
    absurd (subst (IsUnforwarded _) (ap (λ (r : Refused). r.error) same ∙ error) c.in-Err-forward_sealed.ensures.cause)

pub returns-in-Err-forward_sealed-clause-moment : goal.returns-in-Err-forward_sealed-clause-moment
returns-in-Err-forward_sealed-clause-moment g c refused moment is error =
    let same : c.in-Err-forward_sealed.refused ≡ refused = sym c.told-refused-in-Err-forward_sealed.ensures.same ∙ same_refusal _ _ is in
    absurd (subst (IsUnforwarded _) (ap (λ (r : Refused). r.error) same ∙ error) c.in-Err-forward_sealed.ensures.cause)

pub returns-in-Err-forward_sealed-clause-fault : goal.returns-in-Err-forward_sealed-clause-fault
returns-in-Err-forward_sealed-clause-fault g c refused place is error =
    let same : c.in-Err-forward_sealed.refused ≡ refused = sym c.told-refused-in-Err-forward_sealed.ensures.same ∙ same_refusal _ _ is in
    absurd (subst (IsUnforwarded _) (ap (λ (r : Refused). r.error) same ∙ error) c.in-Err-forward_sealed.ensures.cause)

pub returns-in-Err-forward_sealed-clause-shrank : goal.returns-in-Err-forward_sealed-clause-shrank
returns-in-Err-forward_sealed-clause-shrank g c refused place kept found is error =
    let same : c.in-Err-forward_sealed.refused ≡ refused = sym c.told-refused-in-Err-forward_sealed.ensures.same ∙ same_refusal _ _ is in
    absurd (subst (IsUnforwarded _) (ap (λ (r : Refused). r.error) same ∙ error) c.in-Err-forward_sealed.ensures.cause)

pub returns-in-Err-forward_sealed-clause-spent : goal.returns-in-Err-forward_sealed-clause-spent
returns-in-Err-forward_sealed-clause-spent g c refused is error =
    let same : c.in-Err-forward_sealed.refused ≡ refused = sym c.told-refused-in-Err-forward_sealed.ensures.same ∙ same_refusal _ _ is in
    absurd (subst (IsUnforwarded _) (ap (λ (r : Refused). r.error) same ∙ error) c.in-Err-forward_sealed.ensures.cause)

pub returns-in-Err-forward_sealed-clause-sink_cause : goal.returns-in-Err-forward_sealed-clause-sink_cause
returns-in-Err-forward_sealed-clause-sink_cause g c refused is error =
    let same : c.in-Err-forward_sealed.refused ≡ refused = sym c.told-refused-in-Err-forward_sealed.ensures.same ∙ same_refusal _ _ is in
    absurd (subst (IsUnforwarded _) (ap (λ (r : Refused). r.error) same ∙ error) c.in-Err-forward_sealed.ensures.cause)

pub returns-in-Err-forward_sealed-clause-keeper_cause : goal.returns-in-Err-forward_sealed-clause-keeper_cause
returns-in-Err-forward_sealed-clause-keeper_cause g c refused is error =
    let same : c.in-Err-forward_sealed.refused ≡ refused = sym c.told-refused-in-Err-forward_sealed.ensures.same ∙ same_refusal _ _ is in
    let rose = subst (IsUnforwarded _) (ap (λ (r : Refused). r.error) same ∙ error) c.in-Err-forward_sealed.ensures.cause in
    let before = c.loop.invariant.keeper_later in
    omega (arith, rose, before)

pub returns-in-Err-forward_sealed-clause-notes : goal.returns-in-Err-forward_sealed-clause-notes
returns-in-Err-forward_sealed-clause-notes g c tells =
    grown_then _ _ _ (c.loop.invariant.noted tells) (c.told-refused-in-Err-forward_sealed.ensures.grown tells)

pub returns-in-Err-forward_sealed-clause-later : goal.returns-in-Err-forward_sealed-clause-later
returns-in-Err-forward_sealed-clause-later g c =
    let sealed = c.loop.invariant.keeper_later in
    let forwarded = c.forward_sealed.ensures.later.0 in
    let before = c.loop.invariant.status_later in
    let behind = c.told-refused-in-Err-forward_sealed.ensures.later in
    (omega (arith, sealed, forwarded), c.loop.invariant.results_later, omega (arith, before, behind))

pub returns-in-Err-forward_sealed-clause-unlinked : goal.returns-in-Err-forward_sealed-clause-unlinked
returns-in-Err-forward_sealed-clause-unlinked g c off = c.forward_sealed.ensures.unlinked off ∙ c.loop.invariant.unlinked off

pub returns-in-Err-forward_last-clause-refused : goal.returns-in-Err-forward_last-clause-refused
returns-in-Err-forward_last-clause-refused g c told refused is error =
    let same : c.in-Err-forward_last.refused ≡ refused = sym c.told-refused-in-Err-forward_last.ensures.same ∙ same_refusal _ _ is in
    absurd (subst (IsUnforwarded _) (ap (λ (r : Refused). r.error) same ∙ error) c.in-Err-forward_last.ensures.cause)

pub returns-in-Err-forward_last-clause-illegal : goal.returns-in-Err-forward_last-clause-illegal
returns-in-Err-forward_last-clause-illegal g c told refused is error =
    let same : c.in-Err-forward_last.refused ≡ refused = sym c.told-refused-in-Err-forward_last.ensures.same ∙ same_refusal _ _ is in
    absurd (subst (IsUnforwarded _) (ap (λ (r : Refused). r.error) same ∙ error) c.in-Err-forward_last.ensures.cause)

pub returns-in-Err-forward_last-clause-moment : goal.returns-in-Err-forward_last-clause-moment
returns-in-Err-forward_last-clause-moment g c refused moment is error =
    let same : c.in-Err-forward_last.refused ≡ refused = sym c.told-refused-in-Err-forward_last.ensures.same ∙ same_refusal _ _ is in
    absurd (subst (IsUnforwarded _) (ap (λ (r : Refused). r.error) same ∙ error) c.in-Err-forward_last.ensures.cause)

pub returns-in-Err-forward_last-clause-fault : goal.returns-in-Err-forward_last-clause-fault
returns-in-Err-forward_last-clause-fault g c refused place is error =
    let same : c.in-Err-forward_last.refused ≡ refused = sym c.told-refused-in-Err-forward_last.ensures.same ∙ same_refusal _ _ is in
    absurd (subst (IsUnforwarded _) (ap (λ (r : Refused). r.error) same ∙ error) c.in-Err-forward_last.ensures.cause)

pub returns-in-Err-forward_last-clause-shrank : goal.returns-in-Err-forward_last-clause-shrank
returns-in-Err-forward_last-clause-shrank g c refused place kept found is error =
    let same : c.in-Err-forward_last.refused ≡ refused = sym c.told-refused-in-Err-forward_last.ensures.same ∙ same_refusal _ _ is in
    absurd (subst (IsUnforwarded _) (ap (λ (r : Refused). r.error) same ∙ error) c.in-Err-forward_last.ensures.cause)

pub returns-in-Err-forward_last-clause-spent : goal.returns-in-Err-forward_last-clause-spent
returns-in-Err-forward_last-clause-spent g c refused is error =
    let same : c.in-Err-forward_last.refused ≡ refused = sym c.told-refused-in-Err-forward_last.ensures.same ∙ same_refusal _ _ is in
    absurd (subst (IsUnforwarded _) (ap (λ (r : Refused). r.error) same ∙ error) c.in-Err-forward_last.ensures.cause)

pub returns-in-Err-forward_last-clause-sink_cause : goal.returns-in-Err-forward_last-clause-sink_cause
returns-in-Err-forward_last-clause-sink_cause g c refused is error =
    let same : c.in-Err-forward_last.refused ≡ refused = sym c.told-refused-in-Err-forward_last.ensures.same ∙ same_refusal _ _ is in
    absurd (subst (IsUnforwarded _) (ap (λ (r : Refused). r.error) same ∙ error) c.in-Err-forward_last.ensures.cause)

pub returns-in-Err-forward_last-clause-keeper_cause : goal.returns-in-Err-forward_last-clause-keeper_cause
returns-in-Err-forward_last-clause-keeper_cause g c refused is error =
    let same : c.in-Err-forward_last.refused ≡ refused = sym c.told-refused-in-Err-forward_last.ensures.same ∙ same_refusal _ _ is in
    let rose = subst (IsUnforwarded _) (ap (λ (r : Refused). r.error) same ∙ error) c.in-Err-forward_last.ensures.cause in
    let before = c.loop.invariant.keeper_later in
    omega (arith, rose, before)

pub returns-in-Err-forward_last-clause-notes : goal.returns-in-Err-forward_last-clause-notes
returns-in-Err-forward_last-clause-notes g c tells =
    grown_then _ _ _ (c.loop.invariant.noted tells) (c.told-refused-in-Err-forward_last.ensures.grown tells)

pub returns-in-Err-forward_last-clause-later : goal.returns-in-Err-forward_last-clause-later
returns-in-Err-forward_last-clause-later g c =
    let sealed = c.loop.invariant.keeper_later in
    let forwarded = c.forward_last.ensures.later.0 in
    let before = c.loop.invariant.status_later in
    let behind = c.told-refused-in-Err-forward_last.ensures.later in
    (omega (arith, sealed, forwarded), c.loop.invariant.results_later, omega (arith, before, behind))

pub returns-in-Err-forward_last-clause-unlinked : goal.returns-in-Err-forward_last-clause-unlinked
returns-in-Err-forward_last-clause-unlinked g c off = c.forward_last.ensures.unlinked off ∙ c.loop.invariant.unlinked off

pub returns-in-Err-forward_sealed-clause-kept : goal.returns-in-Err-forward_sealed-clause-kept
returns-in-Err-forward_sealed-clause-kept g c told =
    subst (IsKept _) (sym (c.forward_sealed.ensures.kept told)) (all_is_kept g.S.Source.left _ g.C.Clock.reads c.args.clock.now c.loop.clock (g.K.Keeper.kept c.loop.keeper) c.loop.feeds c.loop.sources c.loop.last c.loop.state c.loop.invariant.looping.running.added)

pub returns-in-Err-forward_sealed-clause-written : goal.returns-in-Err-forward_sealed-clause-written
returns-in-Err-forward_sealed-clause-written g c told =
    written_still _ (g.K.Keeper.kept c.loop.keeper) (g.K.Keeper.kept c.forward_sealed.new.keeper) (g.O.Sink.written c.loop.results) c.forward_sealed.ensures.kept
    (still_written _ _ _ _ _ _ _ _ _ _ _ _ _ _ _ c.loop.clock c.loop.counter (g.K.Keeper.kept c.loop.keeper) (g.O.Sink.written c.loop.results) c.loop.feeds c.loop.sources c.loop.last c.loop.state c.loop.invariant.looping told)

pub returns-in-Err-forward_sealed-clause-stops : goal.returns-in-Err-forward_sealed-clause-stops
returns-in-Err-forward_sealed-clause-stops g c =
    let r = c.loop.invariant.looping.running.added in
    let numbers = numbers_are g.S.Source.left _ r.entries (g.K.Keeper.kept c.loop.keeper) c.loop.feeds c.loop.sources c.loop.last c.loop.state r.standing r.empty in
    linked_stops _ (λ readings. ReadsAll g.C.Clock.reads c.args.clock.now readings c.loop.clock) (g.K.Keeper.kept c.forward_sealed.new.keeper) (c.told-refused-in-Err-forward_sealed.new.status ≡ c.args.status.now) _ c.in-Err-forward_sealed.refused c.told-refused-in-Err-forward_sealed.result (numbers_of c.loop.state) c.told-refused-in-Err-forward_sealed.ensures.same c.in-Err-forward_sealed.ensures.numbers c.in-Err-forward_sealed.ensures.cause
    (failed_numbers _ _ _ _ _ _ _ _ _ _ _ _ _ _ _ c.loop.clock c.loop.counter (g.K.Keeper.kept c.loop.keeper) (g.O.Sink.written c.loop.results) c.loop.feeds c.loop.sources c.loop.last c.loop.state c.loop.invariant.looping c.in-Err-forward_sealed.ensures.forwards (g.K.Keeper.kept c.forward_sealed.new.keeper) (λ tells. ([], c.forward_sealed.ensures.kept tells ∙ sym (append-nil (g.K.Keeper.kept c.loop.keeper)))))
    (λ other. λ tells legal. subst (λ (list : List Entry). HasNumbers list (numbers_of c.loop.state)) (sym (c.forward_sealed.ensures.kept tells)) (numbers tells legal))

pub returns-in-Err-forward_sealed-clause-stops_telling : goal.returns-in-Err-forward_sealed-clause-stops_telling
returns-in-Err-forward_sealed-clause-stops_telling g c tells =
    let r = c.loop.invariant.looping.running.added in
    let still = λ (told : g.K.Keeper.tells). c.forward_sealed.ensures.kept told ∙ all_kept g.S.Source.left _ r.entries (g.K.Keeper.kept c.loop.keeper) c.loop.feeds c.loop.sources c.loop.last c.loop.state r.standing r.empty told in
    told_some _ (g.K.Keeper.kept c.forward_sealed.new.keeper) c.args.basis.now.configured.notes (g.O.Sink.written c.args.status.now) (g.O.Sink.written c.loop.status) (g.O.Sink.written c.told-refused-in-Err-forward_sealed.new.status) (g.O.Sink.faults c.args.status.now) (g.O.Sink.faults c.loop.status) (g.O.Sink.faults c.told-refused-in-Err-forward_sealed.new.status)
    (places_of (g.K.Keeper.kept c.args.keeper.now) c.loop.invariant.looping.running.added.entries) c.loop.feeds (counts_now g.S.Source.left _ r.entries (g.K.Keeper.kept c.forward_sealed.new.keeper) c.loop.feeds c.loop.sources still r.standing.fed)
    (λ told. places_now (g.K.Keeper.kept c.args.keeper.now) (g.K.Keeper.kept c.forward_sealed.new.keeper) c.loop.invariant.looping.running.added.entries (still told)) (c.loop.invariant.told tells) (c.told-refused-in-Err-forward_sealed.ensures.skipped tells) c.loop.invariant.status_later

pub returns-in-Err-forward_last-clause-kept : goal.returns-in-Err-forward_last-clause-kept
returns-in-Err-forward_last-clause-kept g c told =
    kept_over _ _ _ _ _ _ _ _ _ _ _ _ _ _ _ c.loop.clock c.loop.counter (g.K.Keeper.kept c.loop.keeper) (g.O.Sink.written c.loop.results) c.loop.feeds c.loop.sources c.loop.last c.loop.state c.loop.invariant.looping (g.K.Keeper.kept c.forward_last.new.keeper) (view_of g.L.Link c.loop.link) (view_of g.L.Link c.forward_last.new.link) c.loop.invariant.linked (c.in-Err-forward_last.ensures.kept told)

pub returns-in-Err-forward_last-clause-written : goal.returns-in-Err-forward_last-clause-written
returns-in-Err-forward_last-clause-written g c told =
    written_over _ _ _ _ _ _ _ _ _ _ _ _ _ _ _ c.loop.clock c.loop.counter (g.K.Keeper.kept c.loop.keeper) (g.O.Sink.written c.loop.results) c.loop.feeds c.loop.sources c.loop.last c.loop.state c.loop.invariant.looping (g.K.Keeper.kept c.forward_last.new.keeper) (view_of g.L.Link c.loop.link) (view_of g.L.Link c.forward_last.new.link) c.in-Err-forward_last.ensures.kept told

pub returns-in-Err-forward_last-clause-stops : goal.returns-in-Err-forward_last-clause-stops
returns-in-Err-forward_last-clause-stops g c =
    let r = c.loop.invariant.looping.running.added in
    let numbers = numbers_are g.S.Source.left _ r.entries (g.K.Keeper.kept c.loop.keeper) c.loop.feeds c.loop.sources c.loop.last c.loop.state r.standing r.empty in
    linked_stops _ (λ readings. ReadsAll g.C.Clock.reads c.args.clock.now readings c.loop.clock) (g.K.Keeper.kept c.forward_last.new.keeper) (c.told-refused-in-Err-forward_last.new.status ≡ c.args.status.now) _ c.in-Err-forward_last.refused c.told-refused-in-Err-forward_last.result (numbers_of c.loop.state) c.told-refused-in-Err-forward_last.ensures.same c.in-Err-forward_last.ensures.numbers c.in-Err-forward_last.ensures.cause
    (failed_numbers _ _ _ _ _ _ _ _ _ _ _ _ _ _ _ c.loop.clock c.loop.counter (g.K.Keeper.kept c.loop.keeper) (g.O.Sink.written c.loop.results) c.loop.feeds c.loop.sources c.loop.last c.loop.state c.loop.invariant.looping c.in-Err-forward_last.ensures.forwards (g.K.Keeper.kept c.forward_last.new.keeper) (λ tells. more_over _ _ _ _ _ _ _ _ _ _ _ _ _ _ _ c.loop.clock c.loop.counter (g.K.Keeper.kept c.loop.keeper) (g.O.Sink.written c.loop.results) c.loop.feeds c.loop.sources c.loop.last c.loop.state c.loop.invariant.looping (g.K.Keeper.kept c.forward_last.new.keeper) (view_of g.L.Link c.loop.link) (view_of g.L.Link c.forward_last.new.link) (c.in-Err-forward_last.ensures.kept tells)))
    (λ other. λ tells legal. subst (λ (list : List Entry). HasNumbers list (numbers_of c.loop.state)) (sym (c.in-Err-forward_last.ensures.unkept tells other)) (numbers tells legal))

pub returns-in-Err-forward_last-clause-stops_telling : goal.returns-in-Err-forward_last-clause-stops_telling
returns-in-Err-forward_last-clause-stops_telling g c tells =
    let r = c.loop.invariant.looping.running.added in
    told_some _ (g.K.Keeper.kept c.forward_last.new.keeper) c.args.basis.now.configured.notes (g.O.Sink.written c.args.status.now) (g.O.Sink.written c.loop.status) (g.O.Sink.written c.told-refused-in-Err-forward_last.new.status) (g.O.Sink.faults c.args.status.now) (g.O.Sink.faults c.loop.status) (g.O.Sink.faults c.told-refused-in-Err-forward_last.new.status)
    (places_of (g.K.Keeper.kept c.args.keeper.now) c.loop.invariant.looping.running.added.entries) c.loop.feeds (counts_over g.S.Source.left _ r.entries (g.K.Keeper.kept c.forward_last.new.keeper) c.loop.feeds c.loop.sources (λ told. rest_over _ _ _ _ _ _ _ _ _ _ _ _ _ _ _ c.loop.clock c.loop.counter (g.K.Keeper.kept c.loop.keeper) (g.O.Sink.written c.loop.results) c.loop.feeds c.loop.sources c.loop.last c.loop.state c.loop.invariant.looping (g.K.Keeper.kept c.forward_last.new.keeper) (view_of g.L.Link c.loop.link) (view_of g.L.Link c.forward_last.new.link) (c.in-Err-forward_last.ensures.kept told) told) r.standing.fed)
    (λ told. places_over _ _ _ _ _ _ _ _ _ _ _ _ _ _ _ c.loop.clock c.loop.counter (g.K.Keeper.kept c.loop.keeper) (g.O.Sink.written c.loop.results) c.loop.feeds c.loop.sources c.loop.last c.loop.state c.loop.invariant.looping (g.K.Keeper.kept c.forward_last.new.keeper) (view_of g.L.Link c.loop.link) (view_of g.L.Link c.forward_last.new.link) (c.in-Err-forward_last.ensures.kept told) told) (c.loop.invariant.told tells) (c.told-refused-in-Err-forward_last.ensures.skipped tells) c.loop.invariant.status_later

pub returns-clause-unlinked : goal.returns-clause-unlinked
returns-clause-unlinked g c off = c.forward_last.ensures.unlinked off ∙ c.loop.invariant.unlinked off

pub returns-in-Err-forward_sealed-clause-link_later : goal.returns-in-Err-forward_sealed-clause-link_later
returns-in-Err-forward_sealed-clause-link_later g c =
    let linked = c.loop.invariant.link_later in
    let linking = c.forward_sealed.ensures.later.1 in
    omega (arith, linked, linking)

pub returns-in-Err-forward_last-clause-link_later : goal.returns-in-Err-forward_last-clause-link_later
returns-in-Err-forward_last-clause-link_later g c =
    let linked = c.loop.invariant.link_later in
    let linking = c.forward_last.ensures.later.1 in
    omega (arith, linked, linking)

pub returns-in-Err-next_moment-clause-link_later : goal.returns-in-Err-next_moment-clause-link_later
returns-in-Err-next_moment-clause-link_later g c =
    let linked = c.loop.invariant.link_later in
    let linking = c.forward_sealed.ensures.later.1 in
    omega (arith, linked, linking)

pub returns-in-Err-take_next-clause-link_later : goal.returns-in-Err-take_next-clause-link_later
returns-in-Err-take_next-clause-link_later g c =
    let linked = c.loop.invariant.link_later in
    let linking = c.forward_sealed.ensures.later.1 in
    omega (arith, linked, linking)

pub returns-clause-link_later : goal.returns-clause-link_later
returns-clause-link_later g c =
    let linked = c.loop.invariant.link_later in
    let linking = c.forward_last.ensures.later.1 in
    omega (arith, linked, linking)

pub returns-in-Err-next_moment-clause-unlinked : goal.returns-in-Err-next_moment-clause-unlinked
returns-in-Err-next_moment-clause-unlinked g c off = c.forward_sealed.ensures.unlinked off ∙ c.loop.invariant.unlinked off

pub returns-in-Err-take_next-clause-unlinked : goal.returns-in-Err-take_next-clause-unlinked
returns-in-Err-take_next-clause-unlinked g c off = c.forward_sealed.ensures.unlinked off ∙ c.loop.invariant.unlinked off

pub returns-in-Err-clause-failed : goal.returns-in-Err-clause-failed
returns-in-Err-clause-failed g c counts off refused is error =
    let same : c.unloaded.result ≡ refused = same_refusal _ _ is in
    let why = unloaded_keeper c.in-Err.error (sym c.unloaded.ensures.error ∙ ap (λ (r : Refused). r.error) same ∙ error) in
    stopped_load g.K.Keeper.tells (g.K.Keeper.calls c.args.keeper.now) (g.K.Keeper.calls c.load_values.new.keeper) (g.K.Keeper.kept c.args.keeper.now) (g.K.Keeper.kept c.load_values.new.keeper) c.args.basis.now.setup.ticks (c.load_values.ensures.failed counts (c.in-Err.is ∙ ap Err why)) c.in-Err.ensures.same

pub returns-in-Err-open_noted-clause-failed : goal.returns-in-Err-open_noted-clause-failed
returns-in-Err-open_noted-clause-failed g c counts off refused is error =
    let same : c.in-Err-open_noted.refused ≡ refused = same_refusal _ _ is in
    absurd (c.in-Err-open_noted.ensures.loaded.0 (ap (λ (r : Refused). r.error) same ∙ error))

pub returns-in-Err-take_tick-clause-failed : goal.returns-in-Err-take_tick-clause-failed
returns-in-Err-take_tick-clause-failed g c counts off refused is error =
    let same : c.in-Err-take_tick.refused ≡ refused = sym c.told-refused.ensures.same ∙ same_refusal _ _ is in
    let because = ap (λ (r : Refused). r.error) same ∙ error in
    let none = none_opening _ _ _ _ _ _ _ _ _ _ _ _ _ c.in-Ok-open_noted.session.state c.in-Ok-open_noted.ensures.opened.opens in
    stopped_first g.K.Keeper.tells (g.K.Keeper.calls c.args.keeper.now) (g.K.Keeper.calls c.load_values.new.keeper) (g.K.Keeper.calls c.take_tick.new.keeper) (g.K.Keeper.kept c.args.keeper.now) (g.K.Keeper.kept c.load_values.new.keeper) (g.K.Keeper.kept c.take_tick.new.keeper) c.args.basis.now.setup.ticks c.requires.ticks (c.in-Ok.ensures.passed counts) c.in-Ok.ensures.same (c.take_tick.ensures.failed counts c.in-Err-take_tick.refused c.in-Err-take_tick.is because)
    (λ told. c.take_tick.ensures.failed_kept counts told c.in-Err-take_tick.refused c.in-Err-take_tick.is because ∙ ap (λ (ticks : ℕ). ticks_of (g.K.Keeper.kept c.load_values.new.keeper) + (if (g.K.Keeper.calls c.load_values.new.keeper).is_whole then ticks + 1 else 0)) none)

pub returns-in-Err-forward_sealed-clause-failed : goal.returns-in-Err-forward_sealed-clause-failed
returns-in-Err-forward_sealed-clause-failed g c counts off refused is error =
    absurd (not_both _ c.in-Err-forward_sealed.ensures.forwards off)

pub returns-in-Err-next_moment-clause-failed : goal.returns-in-Err-next_moment-clause-failed
returns-in-Err-next_moment-clause-failed g c counts off refused is error =
    let same : c.in-Err-next_moment.refused ≡ refused = sym c.told-refused-in-Err-next_moment.ensures.same ∙ same_refusal _ _ is in
    absurd (subst (IsBetween _ _) (ap (λ (r : Refused). r.error) same ∙ error) c.in-Err-next_moment.ensures.cause)

pub returns-in-Err-take_next-clause-failed : goal.returns-in-Err-take_next-clause-failed
returns-in-Err-take_next-clause-failed g c counts off refused is error =
    let same : c.in-Err-take_next.refused ≡ refused = sym c.told-refused-in-Err-take_next.ensures.same ∙ same_refusal _ _ is in
    let because = ap (λ (r : Refused). r.error) same ∙ error in
    let within = c.loop-test.true in
    stopped_next g.K.Keeper.tells (g.K.Keeper.calls c.args.keeper.now) (g.K.Keeper.calls c.forward_sealed.new.keeper) (g.K.Keeper.calls c.take_next.new.keeper) (g.K.Keeper.kept c.args.keeper.now) (g.K.Keeper.kept c.forward_sealed.new.keeper) (g.K.Keeper.kept c.take_next.new.keeper) c.loop.counter c.args.basis.now.setup.ticks (omega (arith, within))
    (subst (λ (k : _). HasSealedOf g.K.Keeper c.args.keeper.now k c.loop.counter) (sym (c.forward_sealed.ensures.still off)) (c.loop.invariant.sealed counts off))
    (c.take_next.ensures.failed counts c.in-Err-take_next.refused c.in-Err-take_next.is because)
    (λ told. c.take_next.ensures.failed_kept counts told c.in-Err-take_next.refused c.in-Err-take_next.is because)

pub returns-in-Err-forward_last-clause-failed : goal.returns-in-Err-forward_last-clause-failed
returns-in-Err-forward_last-clause-failed g c counts off refused is error =
    absurd (not_both _ c.in-Err-forward_last.ensures.forwards off)

pub returns-clause-failed : goal.returns-clause-failed
returns-clause-failed g c counts off refused is error =
    absurd (subst (IsBetween _ _) error (of_error _ c.end_session-ended.result refused c.end_session-ended.ensures.cause is))

pub returns-clause-sealed : goal.returns-clause-sealed
returns-clause-sealed g c counts off =
    let past = c.loop-test.false in
    let within = c.loop.auto.counter-end in
    let some = c.requires.ticks in
    let same : c.loop.counter ≡ c.args.basis.now.setup.ticks = omega (arith, past, within, some) in
    on_ok c.end_session-ended.result
    (subst (λ (k : _). HasSealedOf g.K.Keeper c.args.keeper.now k c.args.basis.now.setup.ticks) (sym (c.forward_last.ensures.still off)) (subst (λ (ticks : ℕ). HasSealedOf g.K.Keeper c.args.keeper.now c.loop.keeper ticks) same (c.loop.invariant.sealed counts off)))

pub returns-in-Err-clause-fit_behind : goal.returns-in-Err-clause-fit_behind
returns-in-Err-clause-fit_behind g c told behind = absurd (not_loaded c.in-Err.error (subst IsBehindLoading c.unloaded.ensures.error behind))

pub returns-in-Err-clause-unfit : goal.returns-in-Err-clause-unfit
returns-in-Err-clause-unfit g c told error = c.load_values.ensures.same told

pub returns-in-Err-open_noted-clause-unfit : goal.returns-in-Err-open_noted-clause-unfit
returns-in-Err-open_noted-clause-unfit g c told error = c.load_values.ensures.same told

pub returns-in-Err-take_tick-clause-unfit : goal.returns-in-Err-take_tick-clause-unfit
returns-in-Err-take_tick-clause-unfit g c told error =
    absurd ((c.take_tick.ensures.opened c.in-Err-take_tick.refused c.in-Err-take_tick.is).0 (ap (λ (r : Refused). r.error) (sym c.told-refused.ensures.same) ∙ error))

pub returns-in-Err-forward_sealed-clause-unfit : goal.returns-in-Err-forward_sealed-clause-unfit
returns-in-Err-forward_sealed-clause-unfit g c told error =
    absurd (subst (IsUnforwarded _) (ap (λ (r : Refused). r.error) (sym c.told-refused-in-Err-forward_sealed.ensures.same) ∙ error) c.in-Err-forward_sealed.ensures.cause)

pub returns-in-Err-next_moment-clause-unfit : goal.returns-in-Err-next_moment-clause-unfit
returns-in-Err-next_moment-clause-unfit g c told error =
    absurd (subst (IsBetween _ _) (ap (λ (r : Refused). r.error) (sym c.told-refused-in-Err-next_moment.ensures.same) ∙ error) c.in-Err-next_moment.ensures.cause)

pub returns-in-Err-take_next-clause-unfit : goal.returns-in-Err-take_next-clause-unfit
returns-in-Err-take_next-clause-unfit g c told error =
    absurd ((c.take_next.ensures.opened c.in-Err-take_next.refused c.in-Err-take_next.is).0 (ap (λ (r : Refused). r.error) (sym c.told-refused-in-Err-take_next.ensures.same) ∙ error))

pub returns-in-Err-forward_last-clause-unfit : goal.returns-in-Err-forward_last-clause-unfit
returns-in-Err-forward_last-clause-unfit g c told error =
    absurd (subst (IsUnforwarded _) (ap (λ (r : Refused). r.error) (sym c.told-refused-in-Err-forward_last.ensures.same) ∙ error) c.in-Err-forward_last.ensures.cause)

pub returns-clause-unfit : goal.returns-clause-unfit
returns-clause-unfit g c told =
    of_refusal _ _ _ c.end_session-ended.result c.end_session-ended.ensures.cause c.end_session-ended.ensures.cause (λ refused between same error. absurd (subst (IsBetween _ _) error between))

pub returns-clause-fit_behind : goal.returns-clause-fit_behind
returns-clause-fit_behind g c told =
    of_refusal _ _ _ c.end_session-ended.result c.end_session-ended.ensures.cause c.end_session-ended.ensures.cause (λ refused one other behind. subst Fits (c.in-Ok.ensures.value told) c.in-Ok.ensures.fits)

pub returns-in-Err-open_noted-clause-fit_behind : goal.returns-in-Err-open_noted-clause-fit_behind
returns-in-Err-open_noted-clause-fit_behind g c told behind = subst Fits (c.in-Ok.ensures.value told) c.in-Ok.ensures.fits

pub returns-in-Err-take_tick-clause-fit_behind : goal.returns-in-Err-take_tick-clause-fit_behind
returns-in-Err-take_tick-clause-fit_behind g c told behind = subst Fits (c.in-Ok.ensures.value told) c.in-Ok.ensures.fits

pub returns-in-Err-forward_sealed-clause-fit_behind : goal.returns-in-Err-forward_sealed-clause-fit_behind
returns-in-Err-forward_sealed-clause-fit_behind g c told behind = subst Fits (c.in-Ok.ensures.value told) c.in-Ok.ensures.fits

pub returns-in-Err-next_moment-clause-fit_behind : goal.returns-in-Err-next_moment-clause-fit_behind
returns-in-Err-next_moment-clause-fit_behind g c told behind = subst Fits (c.in-Ok.ensures.value told) c.in-Ok.ensures.fits

pub returns-in-Err-take_next-clause-fit_behind : goal.returns-in-Err-take_next-clause-fit_behind
returns-in-Err-take_next-clause-fit_behind g c told behind = subst Fits (c.in-Ok.ensures.value told) c.in-Ok.ensures.fits

pub returns-in-Err-forward_last-clause-fit_behind : goal.returns-in-Err-forward_last-clause-fit_behind
returns-in-Err-forward_last-clause-fit_behind g c told behind = subst Fits (c.in-Ok.ensures.value told) c.in-Ok.ensures.fits
