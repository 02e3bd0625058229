use Rattle.std.proofs.Common.{List, ◌++◌, ap, sym, ◌∙◌, arith}
use Rattle.publisher_core.specs.Readings.{events_in}
use Rattle.osq_value.specs.declared.value.Event.{Event}
use Rattle.publisher_core.proofs.Joining.{events_more, skipped_more}
use Rattle.publisher_core.proofs.readings.join.Goals as goal

pub loop-piece-preserved : goal.loop-piece-preserved
loop-piece-preserved c =
    let i = c.loop-piece.invariant in
    record {
      events = c.in_ok-more.ensures.events ∙ ap (λ (es : List Event). es ++ events_in c.in-Some.piece.gain) i.events ∙ sym (events_more c.loop-piece.yielded c.in-Some.piece);
      skipped = (let sum = c.in_ok-skipped.ensures in let more = c.in_ok-more.ensures.skipped in let before = i.skipped in let all = skipped_more c.loop-piece.yielded c.in-Some.piece in omega (arith, sum, more, before, all));
    }
