use Rattle.std.proofs.Common.{◌≡◌, ℕ, Err, ap, get_or, set, refl, sym, subst, ◌∙◌, arith}
use Rattle.daemon_rounds.specs.Rounding.{FailsAt}
use Rattle.daemon_rounds.specs.Starting.{ShrankAt}
use Rattle.daemon_rounds.specs.declared.error.StartError.TheVariants.{SourceShrank}
use Rattle.daemon_rounds.proofs.Started.{all_started, fails_here, one_started, open_here, same_error, shrank_as, shrank_here}
use Rattle.daemon_rounds.proofs.starting.start_feeds.Goals as goal

pub start-requires-clause-fresh : goal.start-requires-clause-fresh
start-requires-clause-fresh g c lifetimes outlive =
    let at = c.loop-at.at in
    let within = c.loop-at-test.true in
    let feeds_long = c.loop-at.auto.feeds in
    let sources_long = c.loop-at.auto.sources in
    let paired = c.requires.paired in
    open_here g.S.Source.tells g.S.Source.left g.S.Source.faults c.args.feeds.now c.loop-at.feeds c.args.sources.now c.loop-at.sources at c.loop-at.invariant
    (get_or c.loop-at.feeds at c.index-feeds-at.result) (omega (arith, within, feeds_long)) (ap (λ d. get_or c.loop-at.feeds at d) c.index-feeds-at.is)
    (get_or c.loop-at.sources at c.index-sources-at.result) (omega (arith, within, sources_long, paired)) (ap (λ d. get_or c.loop-at.sources at d) c.index-sources-at.is)
    c.requires.fresh

pub loop-at-preserved : goal.loop-at-preserved
loop-at-preserved g c =
    let at = c.loop-at.at in
    let within = c.loop-at-test.true in
    let feeds_long = c.loop-at.auto.feeds in
    let sources_long = c.loop-at.auto.sources in
    let paired = c.requires.paired in
    one_started g.S.Source.tells g.S.Source.left g.S.Source.faults c.args.feeds.now c.loop-at.feeds c.args.sources.now c.loop-at.sources at c.loop-at.invariant
    (get_or c.loop-at.feeds at c.index-feeds-at.result) (omega (arith, within, feeds_long)) (ap (λ d. get_or c.loop-at.feeds at d) c.index-feeds-at.is)
    (get_or c.loop-at.sources at c.index-sources-at.result) (omega (arith, within, sources_long, paired)) (ap (λ d. get_or c.loop-at.sources at d) c.index-sources-at.is)
    c.start.new.self c.start.new.source c.in-Ok.ensures.fed c.in-Ok.ensures.begun c.start.ensures.cause.later

pub returns-in-Err-SourceFault-clause-fault : goal.returns-in-Err-SourceFault-clause-fault
returns-in-Err-SourceFault-clause-fault g c place is =
    let at = c.loop-at.at in
    let within = c.loop-at-test.true in
    let feeds_long = c.loop-at.auto.feeds in
    let sources_long = c.loop-at.auto.sources in
    let paired = c.requires.paired in
    let same : at ≡ place = (cc) in
    subst (λ (place : ℕ). FailsAt g.S.Source.faults place c.args.sources.now (set c.loop-at.sources at c.start.new.source)) same
    (fails_here g.S.Source.tells g.S.Source.left g.S.Source.faults c.args.feeds.now c.loop-at.feeds c.args.sources.now c.loop-at.sources at c.loop-at.invariant
    (get_or c.loop-at.feeds at c.index-feeds-at.result) (omega (arith, within, feeds_long)) (ap (λ d. get_or c.loop-at.feeds at d) c.index-feeds-at.is)
    (get_or c.loop-at.sources at c.index-sources-at.result) (omega (arith, within, sources_long, paired)) (ap (λ d. get_or c.loop-at.sources at d) c.index-sources-at.is)
    c.start.new.self c.start.new.source (c.start.ensures.cause.failed (c.in-Err-SourceFault.is ∙ ap Err c.in-Err-SourceFault.field-0-is)))

pub returns-in-Err-SourceShrank-clause-shrank : goal.returns-in-Err-SourceShrank-clause-shrank
returns-in-Err-SourceShrank-clause-shrank g c place kept found is =
    let at = c.loop-at.at in
    let within = c.loop-at-test.true in
    let feeds_long = c.loop-at.auto.feeds in
    let sources_long = c.loop-at.auto.sources in
    let paired = c.requires.paired in
    shrank_as g.S.Source.tells g.S.Source.left c.args.feeds.now c.args.sources.now at place c.in-Err-SourceShrank.kept kept c.in-Err-SourceShrank.found found
    ((λ i. SourceShrank at (sym c.in-Err-SourceShrank.kept-is i) (sym c.in-Err-SourceShrank.found-is i)) ∙ same_error _ _ _ _ refl refl is)
    (shrank_here g.S.Source.tells g.S.Source.left g.S.Source.faults c.args.feeds.now c.loop-at.feeds c.args.sources.now c.loop-at.sources at c.loop-at.invariant
    (get_or c.loop-at.feeds at c.index-feeds-at.result) (omega (arith, within, feeds_long)) (ap (λ d. get_or c.loop-at.feeds at d) c.index-feeds-at.is)
    (get_or c.loop-at.sources at c.index-sources-at.result) (omega (arith, within, sources_long, paired)) (ap (λ d. get_or c.loop-at.sources at d) c.index-sources-at.is)
    _ _ (c.start.ensures.shrank _ _ (c.in-Err-SourceShrank.is ∙ ap Err c.in-Err-SourceShrank.field-0-is)))
