use Rattle.std.proofs.Common.{◌∙◌, sym, ap, subst, map, arith}
use Rattle.fleet_query.specs.Names.{with_frame}
use Rattle.fleet_query.proofs.Lasts.{AreKeyed, frame_in, inserted, still_keyed, last_more}
use Rattle.fleet_query.proofs.names.last_by_name.Goals as goal

pub loop-frame-preserved : goal.loop-frame-preserved
loop-frame-preserved c =
    let i = c.loop-frame.invariant in
    let frame = c.frame-item.result in
    let more = last_more c.args.frames.now c.loop-frame.frame-index frame (omega arith) c.frame-item.is in
    let entries = c.in_ok-insert.ensures.entries in
    record {
      frames = ap (map frame_in) entries ∙ inserted c.loop-frame.index.entries c.as_str.result _ c.as_str.ensures i.keyed ∙ ap (with_frame frame) i.frames ∙ sym more;
      keyed = subst AreKeyed (sym entries) (still_keyed c.loop-frame.index.entries c.as_str.result _ c.as_str.ensures i.keyed);
    }
