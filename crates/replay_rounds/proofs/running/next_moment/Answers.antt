use Rattle.std.proofs.Common.{arith}
use Rattle.replay_rounds.proofs.running.next_moment.Goals as goal

pub note_again-requires : goal.note_again-requires
note_again-requires g c =
    let read = c.in-Ok.ensures.read in
    let calendar = read.calendar in
    let is = read.is in
    let last = c.moment.ensures in
    let kept = c.is_state.ensures.moment in
    omega (arith, calendar, is, last, kept)
