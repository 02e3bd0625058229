use Rattle.std.proofs.Common.{◌≡◌, map, take}
use Rattle.fleet_query.specs.Names.{last_frames}
use Rattle.fleet_query.proofs.Lasts.{AreKeyed, frame_in}
use Rattle.fleet_query.proofs.names.last_by_name.Given as goal

abbrev pub invariant-loop-frame : goal.invariant-loop-frame
invariant-loop-frame l = record {
  frames : map frame_in l.index.entries ≡ last_frames (take l.frame-index l.frames);
  keyed : AreKeyed l.index.entries;
}
