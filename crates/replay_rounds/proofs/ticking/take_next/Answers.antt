use Rattle.std.proofs.Common.{◌≤◌, ◌+◌, ℕ, sym, ap, ◌∙◌, subst, inr}
use Rattle.std.specs.Prelude.{if◌then◌else◌}
use Rattle.daemon_rounds.proofs.Counting.{all_count}
use Rattle.forward_rounds.proofs.Acks.{goes_on_adds}
use Rattle.replay_rounds.specs.OneTick.{ticks_of}
use Rattle.replay_rounds.proofs.Called.{none_acked}
use Rattle.replay_rounds.proofs.Nexts.{acked_by, begun_moment, begun_ready, when_err, when_ok}
use Rattle.replay_rounds.proofs.ticking.take_next.Goals as goal

pub take_tick-requires-clause-later : goal.take_tick-requires-clause-later
take_tick-requires-clause-later g c κs within =
    let acked = acked_by c.args.state.now c.acknowledge_each.new.state c.as_slice.result.now c.args.marks.now c.as_slice.ensures (record { adds = c.in-Ok.ensures.added; due = c.in-Ok.ensures.due; owed = c.in-Ok.ensures.owed }) in
    subst (λ (m : ℕ). m ≤ c.args.tick.moment) (sym (begun_moment c.args.state.now c.acknowledge_each.new.state c.args.marks.now acked)) c.requires.later

pub take_tick-requires-clause-ready : goal.take_tick-requires-clause-ready
take_tick-requires-clause-ready g c κs within =
    let acked = acked_by c.args.state.now c.acknowledge_each.new.state c.as_slice.result.now c.args.marks.now c.as_slice.ensures (record { adds = c.in-Ok.ensures.added; due = c.in-Ok.ensures.due; owed = c.in-Ok.ensures.owed }) in
    begun_ready c.args.feeds.now c.args.tick.configured_at c.args.state.now c.acknowledge_each.new.state c.args.marks.now c.requires.ready acked c.in-Ok.ensures.tellable

pub take_tick-requires-clause-goes_on : goal.take_tick-requires-clause-goes_on
take_tick-requires-clause-goes_on g c κs within =
    goes_on_adds g.K.Keeper.tells (g.K.Keeper.kept c.args.keeper.now) c.args.state.now c.acknowledge_each.new.state _ c.requires.goes_on c.in-Ok.ensures.added

pub returns-in-Ok-clause-done : goal.returns-in-Ok-clause-done
returns-in-Ok-clause-done g c =
    let acked = acked_by c.args.state.now c.acknowledge_each.new.state c.as_slice.result.now c.args.marks.now c.as_slice.ensures (record { adds = c.in-Ok.ensures.added; due = c.in-Ok.ensures.due; owed = c.in-Ok.ensures.owed }) in
    when_ok _ _ c.take_tick.result c.take_tick.ensures.done (λ last done. (c.acknowledge_each.new.state, acked, done))

pub returns-in-Ok-clause-kept : goal.returns-in-Ok-clause-kept
returns-in-Ok-clause-kept g c told =
    let acked = acked_by c.args.state.now c.acknowledge_each.new.state c.as_slice.result.now c.args.marks.now c.as_slice.ensures (record { adds = c.in-Ok.ensures.added; due = c.in-Ok.ensures.due; owed = c.in-Ok.ensures.owed }) in
    when_err _ _ c.take_tick.result (c.take_tick.ensures.kept told) (λ whole. inr (c.acknowledge_each.new.state, acked, whole))

pub returns-in-Ok-clause-sealed : goal.returns-in-Ok-clause-sealed
returns-in-Ok-clause-sealed g c refused is error =
    let acked = acked_by c.args.state.now c.acknowledge_each.new.state c.as_slice.result.now c.args.marks.now c.as_slice.ensures (record { adds = c.in-Ok.ensures.added; due = c.in-Ok.ensures.due; owed = c.in-Ok.ensures.owed }) in
    (c.acknowledge_each.new.state, acked, c.take_tick.ensures.sealed refused is error)

pub returns-in-Ok-clause-partly : goal.returns-in-Ok-clause-partly
returns-in-Ok-clause-partly g c told refused is error =
    let acked = acked_by c.args.state.now c.acknowledge_each.new.state c.as_slice.result.now c.args.marks.now c.as_slice.ensures (record { adds = c.in-Ok.ensures.added; due = c.in-Ok.ensures.due; owed = c.in-Ok.ensures.owed }) in
    (c.acknowledge_each.new.state, acked, c.take_tick.ensures.partly told refused is error)

pub returns-in-Ok-clause-spent : goal.returns-in-Ok-clause-spent
returns-in-Ok-clause-spent g c refused is error =
    let acked = acked_by c.args.state.now c.acknowledge_each.new.state c.as_slice.result.now c.args.marks.now c.as_slice.ensures (record { adds = c.in-Ok.ensures.added; due = c.in-Ok.ensures.due; owed = c.in-Ok.ensures.owed }) in
    (c.acknowledge_each.new.state, acked, c.take_tick.ensures.spent refused is error)

pub returns-in-Err-clause-counts : goal.returns-in-Err-clause-counts
returns-in-Err-clause-counts g c = all_count g.S.Source.tells g.S.Source.left c.args.feeds.now c.args.sources.now c.requires.paired

pub returns-in-Ok-clause-failed_kept : goal.returns-in-Ok-clause-failed_kept
returns-in-Ok-clause-failed_kept g c counts told refused is error =
    let acked = acked_by c.args.state.now c.acknowledge_each.new.state c.as_slice.result.now c.args.marks.now c.as_slice.ensures (record { adds = c.in-Ok.ensures.added; due = c.in-Ok.ensures.due; owed = c.in-Ok.ensures.owed }) in
    c.take_tick.ensures.failed_kept counts told refused is error
    ∙ ap (λ (ticks : ℕ). ticks_of (g.K.Keeper.kept c.args.keeper.now) + (if (g.K.Keeper.calls c.args.keeper.now).is_whole then ticks + 1 else 0)) (none_acked c.args.state.now c.args.marks.now c.acknowledge_each.new.state c.requires.sealed acked)
