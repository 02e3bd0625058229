use Rattle.std.proofs.Common.{◌∙◌, ℕ, List, ◌++◌, length-append, take, sym, ap, arith, append_assoc}
use Rattle.std.proofs.lemmas.List.{length-take-le}
use Rattle.publisher_core.proofs.publisher.drop_kept.Goals as goal

pub loop-found-preserved : goal.loop-found-preserved
loop-found-preserved g c =
    let i = c.loop-found.invariant in
    let count = c.in-Ok.ensures.count in
    let room = c.min-room.ensures in
    let size = c.read.auto.into in
    let front = c.split_at_mut-front.ensures.front_len in
    let later = c.in-Ok.ensures.cause.later in
    let before = i.later in
    let less = c.loop-found-test.true in
    record {
      within = omega (arith, count, room, size, front, less);
      later = omega (arith, later, before);
      left = λ told.
          let read = c.in-Ok.ensures.bytes told in
          let had = i.left told in
          let fresh = length-take-le c.in-Ok.count c.read.new.into count in
          let sum = length-append had.0 (take c.in-Ok.count c.read.new.into) in
          let kept = had.1 in
          (had.0 ++ take c.in-Ok.count c.read.new.into, omega (arith, fresh, sum, kept), had.2 ∙ ap (λ (l : List ℕ). had.0 ++ l) read ∙ sym (append_assoc had.0 (take c.in-Ok.count c.read.new.into) (g.S.Source.left c.read.new.self)));
    }
