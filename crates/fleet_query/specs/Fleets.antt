-- What a fleet holds of each host.
use Rattle.std.specs.Prelude.{ℕ, List, [], unwrap_or}
use Rattle.std.specs.BTreeMap.{get_by_text}
use Rattle.batch_frames.specs.declared.frame.Frame.{Frame}
use Rattle.fleet_query.specs.declared.fleet.Fleet.{Fleet}

-- the frames of a host, in their order; none where the host is missing
unfoldable pub frames_in : Fleet → List ℕ → List Frame
frames_in fleet host = unwrap_or (get_by_text fleet.hosts host) []
