use Rattle.std.proofs.Common.{Option, sym, subst}
use Rattle.osq_outside.specs.Causes.{Rose}
use Rattle.replay_rounds.specs.declared.refused.Numbers.{Numbers}
use Rattle.osq_program.specs.Report.{TellsStop}
use Rattle.osq_program.proofs.Toldings.{plain_or_wanting}
use Rattle.osq_program.proofs.stop.stop.Goals as goal

pub returns-in-Some-clause-told : goal.returns-in-Some-clause-told
returns-in-Some-clause-told g c tells =
    subst (λ (known : Option Numbers). TellsStop (Rose (g.O.Sink.faults c.args.sink.now) (g.O.Sink.faults c.stop_loaded.new.sink)) (g.O.Sink.written c.args.sink.now) (g.O.Sink.written c.stop_loaded.new.sink) c.args.status c.stop_loaded.result known c.args.faults)
    (sym c.in-Some.is) (c.stop_loaded.ensures.told tells)

pub returns-in-None-clause-same : goal.returns-in-None-clause-same
returns-in-None-clause-same g c = plain_or_wanting _ _ c.refuse.ensures.same

pub returns-in-None-clause-told : goal.returns-in-None-clause-told
returns-in-None-clause-told g c tells =
    subst (λ (known : Option Numbers). TellsStop (Rose (g.O.Sink.faults c.args.sink.now) (g.O.Sink.faults c.refuse.new.sink)) (g.O.Sink.written c.args.sink.now) (g.O.Sink.written c.refuse.new.sink) c.args.status c.refuse.result known c.args.faults)
    (sym c.in-None.is) (c.refuse.ensures.same, c.refuse.ensures.told tells)
