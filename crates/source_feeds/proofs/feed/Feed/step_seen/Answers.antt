use Rattle.std.proofs.Common.{◌∙◌, ◌+◌, List, ap, subst, sym, refl}
use Rattle.osq_value.specs.declared.reading.Reading.{Reading}
use Rattle.publisher_core.specs.Stepping.{GrowsBy}
use Rattle.source_feeds.specs.Feeding.{Feeding, Fed, counted}
use Rattle.source_feeds.specs.Joining.{Rise, skipped_told}
use Rattle.publisher_core.specs.Found.{items_found}
use Rattle.source_feeds.specs.Stepping.{IsShown, IsStep}
use Rattle.publisher_core.proofs.Giving.{as_found}
use Rattle.source_feeds.proofs.Feeds.{shaped, showed, stepped}
use Rattle.source_feeds.proofs.feed.Feed.step_seen.Goals as goal

pub invariant_of-self : goal.invariant_of-self
invariant_of-self g c = λ unspent.
    let h = c.self.invariant (ap (λ (f : Feeding). f.reader.is_spent) c.self.view_is ∙ c.requires.begun.1) in
    (shaped g.S.Source.tells _ _ c.self.inside.kind c.self.inside.publisher c.step_seen.new.self _ c.in-Ok.readings h (c.in-Ok.ensures.steps h.pieces h.kept h.stream h.stands) (c.in-Ok.ensures.grown h.pieces h.kept h.stream h.stands) c.in-Ok.ensures.same).read

pub returns-in-Ok-clause-steps : goal.returns-in-Ok-clause-steps
returns-in-Ok-clause-steps g c = λ before kept given fed.
    let old : Feeding = record { name = c.self.inside.name; kind = c.self.inside.kind; skipped = c.self.inside.skipped; reader = c.self.inside.publisher } in
    let new : Feeding = record { name = c.self.inside.name; kind = c.self.inside.kind; skipped = c.skipped_with-self-inside.result; reader = c.step_seen.new.self } in
    let f = subst (λ (feed : Feeding). Fed g.S.Source.tells before (g.S.Source.left c.args.source.now) feed kept given) (sym c.self.view_is) fed in
    let steps = c.in-Ok.ensures.steps given kept f.stream f.stands in
    let skipped = c.skipped_with-self-inside.ensures ∙ ap (λ (rs : List Reading). counted (c.self.inside.skipped + skipped_told rs)) c.as_slice.ensures in
    subst (λ (feed : Feeding). IsStep g.S.Source.tells before (g.S.Source.left c.args.source.now) (g.S.Source.left c.step_seen.new.source) feed new kept given c.args.most c.in-Ok.readings) c.self.view_is
    (stepped g.S.Source.tells before (g.S.Source.left c.args.source.now) (g.S.Source.left c.step_seen.new.source) old new kept given c.args.most c.in-Ok.readings f
    (steps.0, steps.1, steps.2) (c.in-Ok.ensures.grown given kept f.stream f.stands) c.in-Ok.ensures.same (c.in-Ok.ensures.end f.end) skipped refl)

pub returns-in-Ok-clause-each : goal.returns-in-Ok-clause-each
returns-in-Ok-clause-each g c =
    let h = c.self.invariant (ap (λ (f : Feeding). f.reader.is_spent) c.self.view_is ∙ c.requires.begun.1) in
    (shaped g.S.Source.tells _ _ c.self.inside.kind c.self.inside.publisher c.step_seen.new.self _ c.in-Ok.readings h (c.in-Ok.ensures.steps h.pieces h.kept h.stream h.stands) (c.in-Ok.ensures.grown h.pieces h.kept h.stream h.stands) c.in-Ok.ensures.same).each

pub returns-in-Ok-clause-rise : goal.returns-in-Ok-clause-rise
returns-in-Ok-clause-rise g c =
    let h = c.self.invariant (ap (λ (f : Feeding). f.reader.is_spent) c.self.view_is ∙ c.requires.begun.1) in
    subst (λ (f : Feeding). Rise f.reader.taken c.in-Ok.readings c.step_seen.new.self.taken) c.self.view_is
    (shaped g.S.Source.tells _ _ c.self.inside.kind c.self.inside.publisher c.step_seen.new.self _ c.in-Ok.readings h (c.in-Ok.ensures.steps h.pieces h.kept h.stream h.stands) (c.in-Ok.ensures.grown h.pieces h.kept h.stream h.stands) c.in-Ok.ensures.same).rise

pub returns-in-Ok-clause-grown : goal.returns-in-Ok-clause-grown
returns-in-Ok-clause-grown g c =
    let h = c.self.invariant (ap (λ (f : Feeding). f.reader.is_spent) c.self.view_is ∙ c.requires.begun.1) in
    subst (λ (f : Feeding). GrowsBy f.reader.taken c.step_seen.new.self.taken c.in-Ok.readings) c.self.view_is (c.in-Ok.ensures.grown h.pieces h.kept h.stream h.stands)

pub returns-in-Ok-clause-seen : goal.returns-in-Ok-clause-seen
returns-in-Ok-clause-seen g c = λ before kept given seen fed saw.
    let old : Feeding = record { name = c.self.inside.name; kind = c.self.inside.kind; skipped = c.self.inside.skipped; reader = c.self.inside.publisher } in
    let new : Feeding = record { name = c.self.inside.name; kind = c.self.inside.kind; skipped = c.skipped_with-self-inside.result; reader = c.step_seen.new.self } in
    let f = subst (λ (feed : Feeding). Fed g.S.Source.tells before (g.S.Source.left c.args.source.now) feed kept given) (sym c.self.view_is) fed in
    let had = as_found old.reader given kept f.stream f.stands in
    let r = c.in-Ok.ensures.seen had.many kept f.stream seen had.stands saw in
    let skipped = c.skipped_with-self-inside.ensures ∙ ap (λ (rs : List Reading). counted (c.self.inside.skipped + skipped_told rs)) c.as_slice.ensures in
    let shows = showed g.S.Source.tells before (g.S.Source.left c.args.source.now) (g.S.Source.left c.step_seen.new.source) old new kept given c.args.most c.in-Ok.readings f had r.0 r.1 r.2 r.3 r.4
    (c.in-Ok.ensures.grown given kept f.stream f.stands) c.in-Ok.ensures.same (c.in-Ok.ensures.end f.end) skipped refl in
    (items_found r.0, subst (λ (feed : Feeding). IsShown g.S.Source.tells before (g.S.Source.left c.args.source.now) (g.S.Source.left c.step_seen.new.source) feed new kept given c.args.most c.in-Ok.readings (items_found r.0)) c.self.view_is shows, r.5)
