use Rattle.std.proofs.Common.{◌≡◌, List, Err, sym, ap, ◌∙◌, subst}
use Rattle.source_feeds.specs.Feeding.{Feeding}
use Rattle.entry_model.specs.declared.restored.Taken.{Taken}
use Rattle.daemon_rounds.specs.Starting.{IsStarted}
use Rattle.daemon_rounds.proofs.Laters.{fails_since, start_later}
use Rattle.query_rounds.specs.Running.{RunsOut, RunsOver, place_of}
use Rattle.query_rounds.specs.declared.error.AskError.TheVariants.{NumbersSpent, SourceFault}
use Rattle.query_rounds.proofs.Counted.{tells_skipped}
use Rattle.query_rounds.proofs.Refused.{untaken_fault, untaken_spent}
use Rattle.query_rounds.proofs.reading.read_behind.Goals as goal

pub returns-in-Err-take_rounds-clause-fault : goal.returns-in-Err-take_rounds-clause-fault
returns-in-Err-take_rounds-clause-fault g c place is =
    let same : c.untaken.result ≡ SourceFault place = (cc) in
    let error = untaken_fault c.in-Err-take_rounds.error place (sym c.untaken.ensures ∙ same) in
    let starts = c.in-Ok.ensures.started.starts in
    fails_since g.S.Source.faults place c.args.sources.now c.start_sources.new.sources c.take_rounds.new.sources
    (start_later g.S.Source.tells g.S.Source.left g.S.Source.faults c.in-Ok.ensures.started.opened c.in-Ok.feeds.items c.args.sources.now c.start_sources.new.sources starts)
    (c.take_rounds.ensures.fault place (c.in-Err-take_rounds.is ∙ ap Err error))

pub returns-in-Err-take_rounds-clause-over : goal.returns-in-Err-take_rounds-clause-over
returns-in-Err-take_rounds-clause-over g c is =
    let same : c.untaken.result ≡ NumbersSpent = (cc) in
    let error = untaken_spent c.in-Err-take_rounds.error (sym c.untaken.ensures ∙ same) in
    record {
      start = place_of c.in-Ok.feeds.items c.start_sources.new.sources c.in-Ok-begin.state;
      begun = record {
        starts = subst (λ (taken : List Taken). IsStarted g.S.Source.tells g.S.Source.left g.S.Source.faults taken c.args.paths.now c.args.names.now c.in-Ok.feeds.items c.args.sources.now c.start_sources.new.sources) c.as_slice.ensures c.in-Ok.ensures.started;
        begins = c.in-Ok-begin.ensures;
      };
      feeds = c.take_rounds.new.feeds;
      state = c.take_rounds.new.state;
      runs = subst (λ (feeds : List Feeding). RunsOver g.S.Source.tells g.S.Source.left g.S.Source.faults c.args.records c.args.rounds (place_of feeds c.start_sources.new.sources c.in-Ok-begin.state) (place_of c.take_rounds.new.feeds c.take_rounds.new.sources c.take_rounds.new.state)) c.as_mut_slice-feeds.ensures.value (c.take_rounds.ensures.over (c.in-Err-take_rounds.is ∙ ap Err error));
    }

pub returns-clause-skipped : goal.returns-clause-skipped
returns-clause-skipped g c =
    tells_skipped g.S.Source.tells g.S.Source.left g.S.Source.faults c.args.paths.now c.args.restored.taken c.args.records c.args.rounds c.args.names.now c.in-Ok.feeds.items c.take_rounds.new.feeds c.args.sources.now c.start_sources.new.sources c.take_rounds.new.sources c.in-Ok-begin.state c.take_rounds.new.state c.in-Ok-take_rounds.is_end c.in-Ok-skipped_lines.skipped
    (subst (λ (taken : List Taken). IsStarted g.S.Source.tells g.S.Source.left g.S.Source.faults taken c.args.paths.now c.args.names.now c.in-Ok.feeds.items c.args.sources.now c.start_sources.new.sources) c.as_slice.ensures c.in-Ok.ensures.started)
    (subst (λ (feeds : List Feeding). RunsOut g.S.Source.tells g.S.Source.left g.S.Source.faults c.args.records c.args.rounds (place_of feeds c.start_sources.new.sources c.in-Ok-begin.state) (place_of c.take_rounds.new.feeds c.take_rounds.new.sources c.take_rounds.new.state) c.in-Ok-take_rounds.is_end) c.as_mut_slice-feeds.ensures.value c.in-Ok-take_rounds.ensures.out)
    c.in-Ok-skipped_lines.ensures
