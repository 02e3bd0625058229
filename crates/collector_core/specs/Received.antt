-- What is recorded of each host once frames are received, one after another.
use Rattle.std.specs.Prelude.{ℕ, ◌+◌, ◌==◌, ◌&&◌, bytes_eq, List, [], ◌∷◌, if◌then◌else◌}
use Rattle.batch_frames.specs.Texts.{digest_of}
use Rattle.batch_frames.specs.declared.frame.Frame.{Frame}
use Rattle.collector_core.specs.Receipts.{kept_after}

-- the digests of each host
abbrev pub HostDigests : Type 0
HostDigests = List ℕ → List (List ℕ)

-- at first none
abbrev pub none_recorded : HostDigests
none_recorded host = []

-- a frame changes the digests of its host alone
abbrev pub received : HostDigests → Frame → HostDigests
received recorded frame host =
    if bytes_eq frame.host host then kept_after (recorded host) frame.batch.number (digest_of frame) else recorded host

-- frames are received in order
abbrev pub all_received : HostDigests → List Frame → HostDigests
all_received recorded [] = recorded
all_received recorded (frame ∷ frames) = all_received (received recorded frame) frames

-- of the frames that come one after another those of a host that are recorded, where so many were before: each time the next number
abbrev pub recorded_from : ℕ → List ℕ → List Frame → List Frame
recorded_from count host [] = []
recorded_from count host (frame ∷ frames) =
    if bytes_eq frame.host host && frame.batch.number == count + 1 then frame ∷ recorded_from (count + 1) host frames else recorded_from count host frames
