use Rattle.batch_frames.proofs.Framed.{read_is}
use Rattle.batch_frames.proofs.read.read.Goals as goal

pub returns : goal.returns
returns c = read_is c.args.text.now _ _ _ _ _ _ _ _ _ c.in_ok-sender.ensures c.in_ok-query.ensures c.in_ok-slice.ensures c.in_ok-table.ensures c.frame_of_parts.ensures
