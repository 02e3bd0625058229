use Rattle.std.proofs.Common.{◌∙◌, [], ap, subst, sym}
use Rattle.publisher_core.specs.Standing.{HasPublished}
use Rattle.source_feeds.specs.Feeding.{Feeding}
use Rattle.source_feeds.proofs.Feeds.{started, started_fed}
use Rattle.source_feeds.proofs.feed.Feed.start.Goals as goal

pub invariant_of-self : goal.invariant_of-self
invariant_of-self g c =
    let stands = subst (λ (f : Feeding). HasPublished f.reader [] f.reader.taken []) (sym c.self.view_is) c.requires.fresh.stands in
    let read = c.self.invariant (ap (λ (f : Feeding). f.reader.is_spent) c.self.view_is ∙ c.requires.fresh.unspent) in
    started c.start.result c.self.inside.kind c.self.inside.publisher c.start.new.self read c.start.ensures.begun c.start.ensures.spent (c.start.ensures.stands [] c.self.inside.publisher.taken [] stands)

pub returns-clause-fed : goal.returns-clause-fed
returns-clause-fed g c =
    let stands = subst (λ (f : Feeding). HasPublished f.reader [] f.reader.taken []) (sym c.self.view_is) c.requires.fresh.stands in
    started_fed c.start.result g.S.Source.tells _ _ c.self.inside.name c.self.inside.kind c.self.inside.skipped c.self.inside.publisher c.start.new.self c.args.self.now (sym c.self.view_is) c.requires.fresh c.start.ensures.begun
    c.start.ensures.dropped (c.start.ensures.stands [] c.self.inside.publisher.taken [] stands)
