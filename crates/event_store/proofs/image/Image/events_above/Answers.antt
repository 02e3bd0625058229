use Rattle.std.proofs.Common.{◌∙◌}
use Rattle.event_store.proofs.image.Image.events_above.Goals as goal

pub returns-clause-slice : goal.returns-clause-slice
returns-clause-slice g c =
    let events = c.in_ok-of.ensures ∙ c.in_ok-events.ensures.live in
    rw (← c.self.view_is) (λ k. record { above = c.args.lo; events = events k })
