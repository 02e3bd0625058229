use Rattle.std.proofs.Common.{◌≡◌, ◌≤◌, ℕ, Bool, [], refl, ap, subst, arith}
use Rattle.collector_core.specs.Ledgers.{digests_of}
use Rattle.collector_core.specs.declared.ledger.Ledger.{Ledger}
use Rattle.collect_rounds.specs.Rounds.{IsRound}
use Rattle.collect_rounds.specs.Runs.{Written}
use Rattle.collect_rounds.proofs.Rounding.{HasRun, has-begun, run-stopped, runs-further, runs-out, runs-spent, runs-stopped}
use Rattle.collect_rounds.proofs.Stops.{stopped-first}
use Rattle.collect_rounds.proofs.rounds.collect.Goals as goal

pub returns-in_err-room-clause-runs : goal.returns-in_err-room-clause-runs
returns-in_err-room-clause-runs g c = λ told tells.
    let now : Written = record { ledger = g.O.Sink.written c.args.ledger.now; answers = g.O.Sink.written c.args.answers.now } in
    run-stopped (digests_of c.args.opened.ledger) c.args.opened.has_rest (g.S.Source.left c.args.source.now) (g.S.Source.left c.args.source.now) [] c.args.rounds now now c.from_residual.result c.from_residual.ensures.0 refl
    (stopped-first (digests_of c.args.opened.ledger) c.args.opened.has_rest now)

pub loop-init : goal.loop-init
loop-init g c =
    let made = c.new-collector.ensures in
    record {
      runs = λ told tells.
          has-begun (digests_of c.args.opened.ledger) c.args.opened.has_rest (g.S.Source.left c.args.source.now) (record { ledger = g.O.Sink.written c.args.ledger.now; answers = g.O.Sink.written c.args.answers.now }) c.new-collector.result
          (λ host. ap (λ (l : Ledger). digests_of l host) made.ledger) made.rest made.limit made.stands;
      room = c.in_ok-room.ensures;
      source = (let same : g.S.Source.faults c.args.source.now ≤ g.S.Source.faults c.args.source.now = omega arith in same);
      ledger = (let same : g.O.Sink.faults c.args.ledger.now ≤ g.O.Sink.faults c.args.ledger.now = omega arith in same);
      answers = (let same : g.O.Sink.faults c.args.answers.now ≤ g.O.Sink.faults c.args.answers.now = omega arith in same);
    }

pub loop-preserved : goal.loop-preserved
loop-preserved g c =
    let start : Written = record { ledger = g.O.Sink.written c.args.ledger.now; answers = g.O.Sink.written c.args.answers.now } in
    let now : Written = record { ledger = g.O.Sink.written c.loop.ledger; answers = g.O.Sink.written c.loop.answers } in
    let later : Written = record { ledger = g.O.Sink.written c.take_round.new.ledger; answers = g.O.Sink.written c.take_round.new.answers } in
    let recorded = digests_of c.args.opened.ledger in
    let has_rest = c.args.opened.has_rest in
    let rest = g.S.Source.left c.take_round.new.source in
    let i = c.loop.invariant in
    let risen = c.in_ok-take_round.ensures.source.later in
    let both = c.in_ok-take_round.ensures.later in
    record {
      runs = λ told tells.
          let run = i.runs told tells in
          let round = c.in_ok-take_round.ensures.round told tells recorded has_rest run.given start run.at in
          runs-further recorded has_rest (g.S.Source.left c.args.source.now) (g.S.Source.left c.loop.source) rest start now later c.loop.collector c.take_round.new.collector c.loop.counter run round.0 round.1 round.2
          (subst (λ (b : Bool). IsRound b round.0 rest) c.if-branch.false round.3) round.4;
      room = i.room;
      source = (let before = i.source in omega (arith, before, risen));
      ledger = (let before = i.ledger in omega (arith, before, both.0));
      answers = (let before = i.answers in omega (arith, before, both.1));
    }

pub returns-in_err-take_round-clause-runs : goal.returns-in_err-take_round-clause-runs
returns-in_err-take_round-clause-runs g c = λ told tells.
    let start : Written = record { ledger = g.O.Sink.written c.args.ledger.now; answers = g.O.Sink.written c.args.answers.now } in
    let now : Written = record { ledger = g.O.Sink.written c.loop.ledger; answers = g.O.Sink.written c.loop.answers } in
    let later : Written = record { ledger = g.O.Sink.written c.take_round.new.ledger; answers = g.O.Sink.written c.take_round.new.answers } in
    let recorded = digests_of c.args.opened.ledger in
    let has_rest = c.args.opened.has_rest in
    let run = c.loop.invariant.runs told tells in
    let round = c.in_err-take_round.ensures.round told tells recorded has_rest run.given start run.at in
    runs-stopped recorded has_rest (g.S.Source.left c.args.source.now) (g.S.Source.left c.loop.source) (g.S.Source.left c.take_round.new.source) start now later c.loop.collector c.loop.counter run round.0 round.1
    c.args.rounds c.from_residual-in_err-take_round.result c.from_residual-in_err-take_round.ensures.0 round.2

pub returns-then-branch-clause-runs : goal.returns-then-branch-clause-runs
returns-then-branch-clause-runs g c = λ told tells.
    let start : Written = record { ledger = g.O.Sink.written c.args.ledger.now; answers = g.O.Sink.written c.args.answers.now } in
    let now : Written = record { ledger = g.O.Sink.written c.loop.ledger; answers = g.O.Sink.written c.loop.answers } in
    let later : Written = record { ledger = g.O.Sink.written c.take_round.new.ledger; answers = g.O.Sink.written c.take_round.new.answers } in
    let recorded = digests_of c.args.opened.ledger in
    let has_rest = c.args.opened.has_rest in
    let rest = g.S.Source.left c.take_round.new.source in
    let run = c.loop.invariant.runs told tells in
    let round = c.in_ok-take_round.ensures.round told tells recorded has_rest run.given start run.at in
    runs-out recorded has_rest (g.S.Source.left c.args.source.now) (g.S.Source.left c.loop.source) rest start now later c.loop.collector c.take_round.new.collector c.loop.counter run round.0 round.1 round.2
    c.args.rounds c.loop-test.true (subst (λ (b : Bool). IsRound b round.0 rest) c.if-branch.true round.3) round.4

pub returns-clause-runs : goal.returns-clause-runs
returns-clause-runs g c = λ told tells.
    let start : Written = record { ledger = g.O.Sink.written c.args.ledger.now; answers = g.O.Sink.written c.args.answers.now } in
    let now : Written = record { ledger = g.O.Sink.written c.loop.ledger; answers = g.O.Sink.written c.loop.answers } in
    let recorded = digests_of c.args.opened.ledger in
    let has_rest = c.args.opened.has_rest in
    let left = g.S.Source.left c.args.source.now in
    let rest = g.S.Source.left c.loop.source in
    let within = c.loop.auto.counter-end in
    let spent = c.loop-test.false in
    let all : c.loop.counter ≡ c.args.rounds = omega arith in
    runs-spent recorded has_rest left rest start now c.loop.collector c.args.rounds
    (subst (λ (n : ℕ). HasRun recorded has_rest left rest start now c.loop.collector n) all (c.loop.invariant.runs told tells))
