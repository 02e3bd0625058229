use Rattle.std.proofs.Common.{◌∙◌, arith}
use Rattle.event_store.proofs.Found.{read_part, read_tail, small_parts, counted_read, held_read}
use Rattle.event_store.proofs.segments.Segments.event.Goals as goal

pub part_of-part-requires-clause-counted : goal.part_of-part-requires-clause-counted
part_of-part-requires-clause-counted c =
    counted_read c.args.self.now c.requires.sound c.args.table c.requires.table c.deref.result.now c.deref.ensures.value

pub part_of-part-requires-clause-small : goal.part_of-part-requires-clause-small
part_of-part-requires-clause-small c =
    let a = small_parts c.args.self.now c.requires.sound c.args.table c.requires.table c.deref.result.now c.deref.ensures.value in
    let b = c.requires.sound.last in
    omega (arith, a, b)

pub part_of-part-requires-clause-held : goal.part_of-part-requires-clause-held
part_of-part-requires-clause-held c =
    let a = held_read c.args.self.now c.requires.sound c.args.table c.requires.table c.deref.result.now c.deref.ensures.value in
    omega (arith, a)

pub event-requires-clause-behind : goal.event-requires-clause-behind
event-requires-clause-behind c =
    (read_part c.args.self.now c.requires.sound c.args.table c.requires.table c.args.at c.part_of-part.result c.deref.result.now c.index.result.now c.segment.result.now c.deref.ensures.value (omega (arith, c.if-part-len.true, c.len.ensures, c.deref.ensures.len)) c.part_of-part.ensures.behind c.part_of-part.ensures.ahead c.index.ensures c.segment.ensures).behind

pub event-requires-clause-within : goal.event-requires-clause-within
event-requires-clause-within c =
    (read_part c.args.self.now c.requires.sound c.args.table c.requires.table c.args.at c.part_of-part.result c.deref.result.now c.index.result.now c.segment.result.now c.deref.ensures.value (omega (arith, c.if-part-len.true, c.len.ensures, c.deref.ensures.len)) c.part_of-part.ensures.behind c.part_of-part.ensures.ahead c.index.ensures c.segment.ensures).within

pub event-requires-else-part-len-clause-behind : goal.event-requires-else-part-len-clause-behind
event-requires-else-part-len-clause-behind c =
    (read_tail c.args.self.now c.requires.sound c.args.table c.requires.table c.args.at c.part_of-part.result c.deref.result.now c.deref.ensures.value c.requires.within (omega (arith, c.if-part-len.false, c.len.ensures, c.deref.ensures.len)) c.part_of-part.ensures.behind).behind

pub event-requires-else-part-len-clause-within : goal.event-requires-else-part-len-clause-within
event-requires-else-part-len-clause-within c =
    (read_tail c.args.self.now c.requires.sound c.args.table c.requires.table c.args.at c.part_of-part.result c.deref.result.now c.deref.ensures.value c.requires.within (omega (arith, c.if-part-len.false, c.len.ensures, c.deref.ensures.len)) c.part_of-part.ensures.behind).within

pub returns-then-part-len : goal.returns-then-part-len
returns-then-part-len c =
    c.event.ensures ∙ (read_part c.args.self.now c.requires.sound c.args.table c.requires.table c.args.at c.part_of-part.result c.deref.result.now c.index.result.now c.segment.result.now c.deref.ensures.value (omega (arith, c.if-part-len.true, c.len.ensures, c.deref.ensures.len)) c.part_of-part.ensures.behind c.part_of-part.ensures.ahead c.index.ensures c.segment.ensures).same c.event.result.now

pub returns-else-part-len : goal.returns-else-part-len
returns-else-part-len c =
    c.event-else-part-len.ensures ∙ (read_tail c.args.self.now c.requires.sound c.args.table c.requires.table c.args.at c.part_of-part.result c.deref.result.now c.deref.ensures.value c.requires.within (omega (arith, c.if-part-len.false, c.len.ensures, c.deref.ensures.len)) c.part_of-part.ensures.behind).same c.event-else-part-len.result.now
