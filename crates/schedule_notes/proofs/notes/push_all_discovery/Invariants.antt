use Rattle.std.proofs.Common.{◌≡◌, ◌++◌, take}
use Rattle.std.specs.Prelude.{flat_map}
use Rattle.schedule_notes.specs.Notes.{discovery_lines}
use Rattle.schedule_notes.proofs.notes.push_all_discovery.Given as goal

abbrev pub invariant-loop-pack : goal.invariant-loop-pack
invariant-loop-pack l = l.notes ≡ l.fn.notes ++ flat_map (discovery_lines l.host) (take l.pack-index l.packs)
