use Rattle.std.proofs.Common.{List, ◌∷◌, [], ◌++◌, ◌+◌, take, sym, ap, subst, ◌∙◌}
use Rattle.std.proofs.lemmas.List.{take_more}
use Rattle.source_feeds.specs.Feeding.{Feeding}
use Rattle.daemon_rounds.specs.Starting.{AreFeedsOf}
use Rattle.osq_value.specs.declared.source.SourceName.{SourceName}
use Rattle.daemon_rounds.proofs.Started.{feeds_push}
use Rattle.daemon_rounds.proofs.starting.open_feeds.Goals as goal

pub loop-source-preserved : goal.loop-source-preserved
loop-source-preserved c =
    let sources = c.args.sources.now in
    let at = c.loop-source.source-index in
    let more = ap (λ (source : SourceName). take at sources ++ source ∷ []) c.source-item.is ∙ sym (take_more sources at c.source-item.result c.loop-source-test.true) in
    subst (λ (feeds : List Feeding). AreFeedsOf c.args.taken.now c.args.paths.now (take (at + 1) sources) feeds) (sym c.in_ok-push.ensures.items)
    (subst (λ (names : List SourceName). AreFeedsOf c.args.taken.now c.args.paths.now names (c.loop-source.feeds.items ++ c.in_ok-open_feed.field-0 ∷ [])) more
    (feeds_push c.args.taken.now c.args.paths.now (take at sources) c.loop-source.feeds.items c.source-item.result c.in_ok-open_feed.field-0 c.loop-source.invariant c.in_ok-open_feed.ensures))
