-- What holds of the frames that are received.
use Rattle.std.specs.Prelude.{◌≡◌, ℕ, ◌+◌, bytes_eq, List, [], ◌∷◌, ◌++◌, filter, map}
use Rattle.batch_frames.specs.Texts.{digest_of}
use Rattle.batch_frames.specs.declared.frame.Frame.{Frame}
use Rattle.collector_core.specs.Received.{HostDigests, all_received, none_recorded, received, recorded_from}

-- the frames of a host
abbrev pub frames_of : List ℕ → List Frame → List Frame
frames_of host frames = filter (λ frame. bytes_eq frame.host host) frames

-- what is recorded of a host hangs on its own frames alone
abbrev pub Isolation : Type 0
Isolation = (host : List ℕ) (one other : HostDigests) (frames others : List Frame) → one host ≡ other host → frames_of host frames ≡ frames_of host others
    → all_received one frames host ≡ all_received other others host

-- a frame that is received again right away changes nothing
abbrev pub Once : Type 0
Once = (recorded : HostDigests) (frame : Frame) (host : List ℕ) → received (received recorded frame) frame host ≡ received recorded frame host

-- what is recorded of a host stands first in what is recorded later
abbrev pub Stays : Type 0
Stays = (recorded : HostDigests) (frames : List Frame) (host : List ℕ) → (added : List (List ℕ)) × (all_received recorded frames host ≡ recorded host ++ added)

-- the frames are a host's, numbered from there on
abbrev pub AreNumbered : ℕ → List ℕ → List Frame → Type 0
AreNumbered number host [] = Unit {0}
AreNumbered number host (frame ∷ frames) = (frame.host ≡ host) × (frame.batch.number ≡ number) × AreNumbered (number + 1) host frames

-- of frames numbered 1, 2, 3 .. each is recorded
abbrev pub InOrder : Type 0
InOrder = (host : List ℕ) (frames : List Frame) → AreNumbered 1 host frames → all_received none_recorded frames host ≡ map digest_of frames

-- the digests that are kept of a host are those of the frames that are recorded of it
abbrev pub Recorded : Type 0
Recorded = (host : List ℕ) (frames : List Frame) → map digest_of (recorded_from 0 host frames) ≡ all_received none_recorded frames host
