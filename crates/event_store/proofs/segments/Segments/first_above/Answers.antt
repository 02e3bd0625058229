use Rattle.event_store.proofs.Moving.{first_is}
use Rattle.event_store.proofs.segments.Segments.first_above.Goals as goal

pub returns : goal.returns
returns c =
    first_is c.args.number c.args.self.now c.upto.result c.upto-2.result c.upto-3.result c.requires.sound c.upto.ensures.within c.upto-2.ensures.within c.upto-3.ensures.within c.upto.ensures.above c.upto-2.ensures.above c.upto-3.ensures.above
