-- The last frame of each query's name, in byte order of the names.
use Rattle.std.specs.Prelude.{ℕ, List, [], ◌∷◌}
use Rattle.std.specs.Cmp.Lexicographic.{slice_cmp}
use Rattle.std.specs.Ordering.{match_ordering, nat_cmp}
use Rattle.batch_frames.specs.declared.frame.Frame.{Frame}

abbrev pub name_of : Frame → List ℕ
name_of frame = frame.batch.query.name

-- a frame among frames in byte order of their names: before those of greater names, and in the place of the one of its own name
abbrev pub with_frame : Frame → List Frame → List Frame
with_frame frame [] = frame ∷ []
with_frame frame (other ∷ others) =
    match_ordering (slice_cmp nat_cmp (name_of frame) (name_of other)) (frame ∷ other ∷ others) (frame ∷ others) (other ∷ with_frame frame others)

-- frames are taken in their order
abbrev pub last_after : List Frame → List Frame → List Frame
last_after lasts [] = lasts
last_after lasts (frame ∷ frames) = last_after (with_frame frame lasts) frames

abbrev pub last_frames : List Frame → List Frame
last_frames frames = last_after [] frames
