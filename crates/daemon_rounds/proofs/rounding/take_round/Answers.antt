use Rattle.std.proofs.Common.{◌≡◌, ℕ, Err, ap, get_or, set, subst, ◌∙◌, arith}
use Rattle.daemon_rounds.specs.Rounding.{FailsAt}
use Rattle.daemon_rounds.proofs.Rounded.{all_had, counts_here, fails_here, none_yet, one_had, overflows_here, this_going}
use Rattle.daemon_rounds.proofs.rounding.take_round.Goals as goal

pub loop-at-init : goal.loop-at-init
loop-at-init g c =
    none_yet g.S.Source.tells g.S.Source.left g.S.Source.faults c.args.which c.args.most c.args.feeds.now c.args.sources.now c.args.state.now c.requires.going c.requires.paired

pub take_turn-requires-clause-going : goal.take_turn-requires-clause-going
take_turn-requires-clause-going g c lifetimes outlive =
    let at = c.loop-at.at in
    let within = c.loop-at-test.true in
    let feeds_long = c.loop-at.auto.feeds in
    let sources_long = c.loop-at.auto.sources in
    let paired = c.requires.paired in
    this_going g.S.Source.tells g.S.Source.left g.S.Source.faults c.args.which c.args.most c.args.feeds.now c.loop-at.feeds c.args.sources.now c.loop-at.sources at c.args.state.now c.loop-at.state c.loop-at.invariant
    (get_or c.loop-at.feeds at c.index-feeds-at.result) (omega (arith, within, feeds_long)) (ap (λ d. get_or c.loop-at.feeds at d) c.index-feeds-at.is)
    (get_or c.loop-at.sources at c.index-sources-at.result) (omega (arith, within, sources_long, paired)) (ap (λ d. get_or c.loop-at.sources at d) c.index-sources-at.is)

pub loop-at-preserved : goal.loop-at-preserved
loop-at-preserved g c =
    let at = c.loop-at.at in
    let within = c.loop-at-test.true in
    let feeds_long = c.loop-at.auto.feeds in
    let sources_long = c.loop-at.auto.sources in
    let paired = c.requires.paired in
    one_had g.S.Source.tells g.S.Source.left g.S.Source.faults c.args.which c.args.most c.args.feeds.now c.loop-at.feeds c.args.sources.now c.loop-at.sources at c.args.state.now c.loop-at.state c.loop-at.invariant
    (get_or c.loop-at.feeds at c.index-feeds-at.result) (omega (arith, within, feeds_long)) (ap (λ d. get_or c.loop-at.feeds at d) c.index-feeds-at.is)
    (get_or c.loop-at.sources at c.index-sources-at.result) (omega (arith, within, sources_long, paired)) (ap (λ d. get_or c.loop-at.sources at d) c.index-sources-at.is)
    c.take_turn.new.feed c.take_turn.new.source c.take_turn.new.state c.in-Ok.ensures.turn c.in-Ok.ensures.going c.in-Ok.ensures.name c.in-Ok.ensures.others c.take_turn.ensures.counts

pub returns-in-Err-SourceFault-clause-fault : goal.returns-in-Err-SourceFault-clause-fault
returns-in-Err-SourceFault-clause-fault g c place is =
    let at = c.loop-at.at in
    let within = c.loop-at-test.true in
    let feeds_long = c.loop-at.auto.feeds in
    let sources_long = c.loop-at.auto.sources in
    let paired = c.requires.paired in
    let same : at ≡ place = (cc) in
    subst (λ (place : ℕ). FailsAt g.S.Source.faults place c.args.sources.now (set c.loop-at.sources at c.take_turn.new.source)) same
    (fails_here g.S.Source.tells g.S.Source.left g.S.Source.faults c.args.which c.args.most c.args.feeds.now c.loop-at.feeds c.args.sources.now c.loop-at.sources at c.args.state.now c.loop-at.state c.loop-at.invariant
    (get_or c.loop-at.feeds at c.index-feeds-at.result) (omega (arith, within, feeds_long)) (ap (λ d. get_or c.loop-at.feeds at d) c.index-feeds-at.is)
    (get_or c.loop-at.sources at c.index-sources-at.result) (omega (arith, within, sources_long, paired)) (ap (λ d. get_or c.loop-at.sources at d) c.index-sources-at.is)
    c.take_turn.new.feed c.take_turn.new.source (c.take_turn.ensures.cause.failed (c.in-Err-SourceFault.is ∙ ap Err c.in-Err-SourceFault.field-0-is)))

pub returns-in-Err-NumbersSpent-clause-spent : goal.returns-in-Err-NumbersSpent-clause-spent
returns-in-Err-NumbersSpent-clause-spent g c is =
    let at = c.loop-at.at in
    let within = c.loop-at-test.true in
    let feeds_long = c.loop-at.auto.feeds in
    let sources_long = c.loop-at.auto.sources in
    let paired = c.requires.paired in
    overflows_here g.S.Source.tells g.S.Source.left g.S.Source.faults c.args.which c.args.most c.args.feeds.now c.loop-at.feeds c.args.sources.now c.loop-at.sources at c.args.state.now c.loop-at.state c.loop-at.invariant
    (get_or c.loop-at.feeds at c.index-feeds-at.result) (omega (arith, within, feeds_long)) (ap (λ d. get_or c.loop-at.feeds at d) c.index-feeds-at.is)
    (get_or c.loop-at.sources at c.index-sources-at.result) (omega (arith, within, sources_long, paired)) (ap (λ d. get_or c.loop-at.sources at d) c.index-sources-at.is)
    c.take_turn.new.feed c.take_turn.new.source c.take_turn.new.state (c.take_turn.ensures.spent (c.in-Err-NumbersSpent.is ∙ ap Err c.in-Err-NumbersSpent.field-0-is))

pub returns-clause-round : goal.returns-clause-round
returns-clause-round g c =
    let past = c.loop-at-test.false in
    let feeds_long = c.loop-at.auto.feeds in
    all_had g.S.Source.tells g.S.Source.left g.S.Source.faults c.args.which c.args.most c.args.feeds.now c.loop-at.feeds c.args.sources.now c.loop-at.sources c.loop-at.at c.args.state.now c.loop-at.state c.loop-at.invariant (omega (arith, past, feeds_long)) c.requires.paired

pub returns-in-Err-SourceFault-clause-counts : goal.returns-in-Err-SourceFault-clause-counts
returns-in-Err-SourceFault-clause-counts g c =
    let at = c.loop-at.at in
    let within = c.loop-at-test.true in
    let feeds_long = c.loop-at.auto.feeds in
    let sources_long = c.loop-at.auto.sources in
    let paired = c.requires.paired in
    counts_here g.S.Source.tells g.S.Source.left g.S.Source.faults c.args.which c.args.most c.args.feeds.now c.loop-at.feeds c.args.sources.now c.loop-at.sources at c.args.state.now c.loop-at.state c.loop-at.invariant
    (get_or c.loop-at.feeds at c.index-feeds-at.result) (omega (arith, within, feeds_long)) (ap (λ d. get_or c.loop-at.feeds at d) c.index-feeds-at.is)
    (get_or c.loop-at.sources at c.index-sources-at.result) (omega (arith, within, sources_long, paired)) (ap (λ d. get_or c.loop-at.sources at d) c.index-sources-at.is)
    c.take_turn.new.feed c.take_turn.new.source c.take_turn.ensures.counts

pub returns-in-Err-NumbersSpent-clause-counts : goal.returns-in-Err-NumbersSpent-clause-counts
returns-in-Err-NumbersSpent-clause-counts g c =
    let at = c.loop-at.at in
    let within = c.loop-at-test.true in
    let feeds_long = c.loop-at.auto.feeds in
    let sources_long = c.loop-at.auto.sources in
    let paired = c.requires.paired in
    counts_here g.S.Source.tells g.S.Source.left g.S.Source.faults c.args.which c.args.most c.args.feeds.now c.loop-at.feeds c.args.sources.now c.loop-at.sources at c.args.state.now c.loop-at.state c.loop-at.invariant
    (get_or c.loop-at.feeds at c.index-feeds-at.result) (omega (arith, within, feeds_long)) (ap (λ d. get_or c.loop-at.feeds at d) c.index-feeds-at.is)
    (get_or c.loop-at.sources at c.index-sources-at.result) (omega (arith, within, sources_long, paired)) (ap (λ d. get_or c.loop-at.sources at d) c.index-sources-at.is)
    c.take_turn.new.feed c.take_turn.new.source c.take_turn.ensures.counts

pub returns-in-Err-NoMemory-clause-counts : goal.returns-in-Err-NoMemory-clause-counts
returns-in-Err-NoMemory-clause-counts g c =
    let at = c.loop-at.at in
    let within = c.loop-at-test.true in
    let feeds_long = c.loop-at.auto.feeds in
    let sources_long = c.loop-at.auto.sources in
    let paired = c.requires.paired in
    counts_here g.S.Source.tells g.S.Source.left g.S.Source.faults c.args.which c.args.most c.args.feeds.now c.loop-at.feeds c.args.sources.now c.loop-at.sources at c.args.state.now c.loop-at.state c.loop-at.invariant
    (get_or c.loop-at.feeds at c.index-feeds-at.result) (omega (arith, within, feeds_long)) (ap (λ d. get_or c.loop-at.feeds at d) c.index-feeds-at.is)
    (get_or c.loop-at.sources at c.index-sources-at.result) (omega (arith, within, sources_long, paired)) (ap (λ d. get_or c.loop-at.sources at d) c.index-sources-at.is)
    c.take_turn.new.feed c.take_turn.new.source c.take_turn.ensures.counts

pub returns-clause-counts : goal.returns-clause-counts
returns-clause-counts g c = c.loop-at.invariant.counts
