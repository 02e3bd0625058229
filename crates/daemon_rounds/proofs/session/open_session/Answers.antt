use Rattle.std.proofs.Common.{◌≡◌, List, Err, sym, ap, ◌∙◌, subst, arith}
use Rattle.std.proofs.lemmas.List.{with_items_is}
use Rattle.daemon_rounds.specs.Rounding.{AreGoing}
use Rattle.source_feeds.specs.Feeding.{Feeding}
use Rattle.entry_model.specs.declared.restored.Taken.{Taken}
use Rattle.daemon_rounds.specs.Opening.{Opens, OpensTooMuch}
use Rattle.daemon_rounds.specs.Starting.{IsStarted}
use Rattle.daemon_rounds.specs.declared.error.OpenError.TheVariants.{NumbersSpent, SourceFault}
use Rattle.osq_value.specs.declared.source.SourceName.{SourceName}
use Rattle.daemon_rounds.proofs.Laters.{fails_since, start_later}
use Rattle.daemon_rounds.proofs.Refused.{untaken_fault, untaken_spent}
use Rattle.daemon_rounds.proofs.session.open_session.Goals as goal

pub returns-in-Err-begin_session-clause-fault : goal.returns-in-Err-begin_session-clause-fault
returns-in-Err-begin_session-clause-fault g c place is =
    let same : c.untaken.result ≡ SourceFault place = (cc) in
    let error = untaken_fault c.in-Err-begin_session.error place (sym c.untaken.ensures ∙ same) in
    let starts = c.in-Ok-start_sources.ensures.started.starts in
    fails_since g.S.Source.faults place c.args.sources.now c.start_sources.new.sources c.begin_session.new.sources
    (start_later g.S.Source.tells g.S.Source.left g.S.Source.faults c.in-Ok-start_sources.ensures.started.opened c.in-Ok-start_sources.feeds.items c.args.sources.now c.start_sources.new.sources starts)
    (c.begin_session.ensures.fault place (c.in-Err-begin_session.is ∙ ap Err error))

pub returns-in-Err-begin_session-clause-spent : goal.returns-in-Err-begin_session-clause-spent
returns-in-Err-begin_session-clause-spent g c is =
    let same : c.untaken.result ≡ NumbersSpent = (cc) in
    let error = untaken_spent c.in-Err-begin_session.error (sym c.untaken.ensures ∙ same) in
    record {
      started = c.in-Ok-start_sources.feeds.items;
      nexts = c.begin_session.new.feeds;
      between = c.start_sources.new.sources;
      starts = subst (λ (taken : List Taken). IsStarted g.S.Source.tells g.S.Source.left g.S.Source.faults taken c.args.configured.now.config.categories c.args.setup.now.sources c.in-Ok-start_sources.feeds.items c.args.sources.now c.start_sources.new.sources) c.as_slice-2.ensures
          (subst (λ (names : List SourceName). IsStarted g.S.Source.tells g.S.Source.left g.S.Source.faults c.as_slice-2.result.now c.args.configured.now.config.categories names c.in-Ok-start_sources.feeds.items c.args.sources.now c.start_sources.new.sources) c.as_slice.ensures c.in-Ok-start_sources.ensures.started);
      too_much = subst (λ (feeds : List Feeding). OpensTooMuch g.S.Source.tells g.S.Source.left g.S.Source.faults c.args.setup.now.records c.args.restored feeds c.begin_session.new.feeds c.start_sources.new.sources c.begin_session.new.sources) c.as_mut_slice.ensures.value (c.begin_session.ensures.spent (c.in-Err-begin_session.is ∙ ap Err error));
    }

pub returns-in-Ok-begin_session-clause-opened : goal.returns-in-Ok-begin_session-clause-opened
returns-in-Ok-begin_session-clause-opened g c =
    let state = c.in-Ok-begin_session.state in
    let fed = with_items_is c.in-Ok-start_sources.feeds c.begin_session.new.feeds (omega (arith, c.begin_session.auto.feeds, c.as_mut_slice.ensures.len)) in
    let opens : List Feeding → List Feeding → Type 0 = λ started nexts. Opens g.S.Source.tells g.S.Source.left g.S.Source.faults c.args.setup.now.records c.args.restored c.args.configured.now.config c.args.configured.now.documents c.args.setup.now.host c.in-Ok.moment started nexts c.start_sources.new.sources c.begin_session.new.sources state in
    record {
      read = c.in-Ok.ensures.read;
      started = c.in-Ok-start_sources.feeds.items;
      between = c.start_sources.new.sources;
      starts = subst (λ (taken : List Taken). IsStarted g.S.Source.tells g.S.Source.left g.S.Source.faults taken c.args.configured.now.config.categories c.args.setup.now.sources c.in-Ok-start_sources.feeds.items c.args.sources.now c.start_sources.new.sources) c.as_slice-2.ensures
          (subst (λ (names : List SourceName). IsStarted g.S.Source.tells g.S.Source.left g.S.Source.faults c.as_slice-2.result.now c.args.configured.now.config.categories names c.in-Ok-start_sources.feeds.items c.args.sources.now c.start_sources.new.sources) c.as_slice.ensures c.in-Ok-start_sources.ensures.started);
      opens = subst (opens c.in-Ok-start_sources.feeds.items) (sym fed) (subst (λ (started : List Feeding). opens started c.begin_session.new.feeds) c.as_mut_slice.ensures.value c.in-Ok-begin_session.ensures.opens);
    }

pub returns-in-Ok-begin_session-clause-going : goal.returns-in-Ok-begin_session-clause-going
returns-in-Ok-begin_session-clause-going g c =
    let fed = with_items_is c.in-Ok-start_sources.feeds c.begin_session.new.feeds (omega (arith, c.begin_session.auto.feeds, c.as_mut_slice.ensures.len)) in
    subst (AreGoing c.in-Ok-begin_session.state.counts.taken) (sym fed) c.in-Ok-begin_session.ensures.going
