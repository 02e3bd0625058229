use Rattle.std.proofs.Common.{sym, ◌∙◌}
use Rattle.std.specs.Fmt.{decimal}
use Rattle.batch_frames.proofs.Begins.{decimal_is_plain}
use Rattle.batch_frames.proofs.Cuts.{cut_once}
use Rattle.batch_frames.proofs.numbers.U64Spelled.take.Goals as goal

pub returns : goal.returns
returns c = λ value behind held ended is.
    let front = c.number_front.ensures in
    let cut = cut_once _ _ (decimal value) behind front.plain front.stops (decimal_is_plain value held).plain ended (sym front.whole ∙ is) in
    (c.number_of.ensures value held cut.0, cut.1)
