use Rattle.std.proofs.Common.{◌≡◌, ℕ, List, Err, length, sym, ap, subst, ◌∙◌, arith}
use Rattle.std.specs.Prelude.{All}
use Rattle.source_feeds.specs.Feeding.{Feeding, IsOpen}
use Rattle.daemon_rounds.specs.Rounding.{AreGoing}
use Rattle.daemon_rounds.specs.Starting.{ShrankAt, Starts}
use Rattle.daemon_rounds.specs.declared.error.StartError.{StartError}
use Rattle.daemon_rounds.specs.declared.error.StartError.TheVariants.{SourceShrank}
use Rattle.daemon_rounds.proofs.Started.{all_going, all_open, as_many, shrunk, written_back}
use Rattle.daemon_rounds.proofs.starting.start_sources.Goals as goal

pub start_feeds-requires-clause-paired : goal.start_feeds-requires-clause-paired
start_feeds-requires-clause-paired g c lifetimes outlive =
    c.requires.paired ∙ sym (as_many c.args.taken.now c.args.paths.now c.args.names.now c.in-Ok.feeds.items c.in-Ok.ensures) ∙ ap (λ (feeds : List Feeding). length feeds) (sym c.as_mut_slice.ensures.value)

pub start_feeds-requires-clause-fresh : goal.start_feeds-requires-clause-fresh
start_feeds-requires-clause-fresh g c lifetimes outlive =
    subst (All IsOpen) (sym c.as_mut_slice.ensures.value) (all_open c.args.taken.now c.args.paths.now c.args.names.now c.in-Ok.feeds.items c.in-Ok.ensures)

pub returns-in-Ok-start_feeds-clause-going : goal.returns-in-Ok-start_feeds-clause-going
returns-in-Ok-start_feeds-clause-going g c =
    let value = ap (λ (feeds : List Feeding). length feeds) c.as_mut_slice.ensures.value in
    let size = c.start_feeds.auto.feeds in
    let ok = c.in-Ok.feeds.ok in
    subst (AreGoing c.args.taken.now) (sym (written_back c.in-Ok.feeds.len c.start_feeds.new.feeds c.in-Ok.feeds.items (size ∙ value) (omega arith)))
    (all_going g.S.Source.tells g.S.Source.left g.S.Source.faults c.args.taken.now c.args.paths.now c.args.names.now c.in-Ok.feeds.items c.start_feeds.new.feeds c.args.sources.now c.start_feeds.new.sources c.in-Ok.ensures
    (subst (λ (feeds : List Feeding). Starts g.S.Source.tells g.S.Source.left g.S.Source.faults feeds c.start_feeds.new.feeds c.args.sources.now c.start_feeds.new.sources) c.as_mut_slice.ensures.value c.in-Ok-start_feeds.ensures.started)
    c.requires.distinct)

pub returns-in-Err-clause-shrank : goal.returns-in-Err-clause-shrank
returns-in-Err-clause-shrank g c place kept found is =
    let same : c.in-Err.error ≡ SourceShrank place kept found = (cc) in
    shrunk g.S.Source.tells g.S.Source.left c.args.taken.now c.args.paths.now c.args.names.now c.in-Ok.feeds.items place kept found c.args.sources.now c.in-Ok.ensures
    (subst (λ (feeds : List Feeding). ShrankAt g.S.Source.tells g.S.Source.left place kept found feeds c.args.sources.now) c.as_mut_slice.ensures.value (c.start_feeds.ensures.shrank place kept found (c.in-Err.is ∙ ap Err same)))
