-- Lines that a collector is sent, and a ledger's file has.
use Rattle.std.specs.Prelude.{◌≡◌, ◌≤◌, ◌⊎◌, ℕ, List, [], ◌∷◌, ◌++◌, length}
use Rattle.batch_frames.specs.declared.frame.Frame.{Frame}
use Rattle.batch_frames.specs.Decodes.{IsFrameOf as IsTextOf}
use Rattle.batch_frames.specs.Texts.{IsHeld}
use Rattle.collector_answers.specs.Judging.{LIMIT}

-- the line is the text of a frame, or the beginning of one
abbrev pub BeginsText : List ℕ → Type 0
BeginsText line = (frame : Frame) × (behind : List ℕ) × IsTextOf (line ++ behind) frame

-- the line is the text of a frame of this host, and not too long
abbrev pub IsLineOf : List ℕ → List ℕ → Type 0
IsLineOf host line = (length line ≤ LIMIT) × ((frame : Frame) × IsHeld frame × IsTextOf line frame × (frame.host ≡ host))

-- of these lines those are the host's, in their order
abbrev pub AreLinesOf : List ℕ → List (List ℕ) → List (List ℕ) → Type 0
AreLinesOf host [] mine = mine ≡ []
AreLinesOf host (line ∷ lines) mine =
    (IsLineOf host line × ((others : List (List ℕ)) × (mine ≡ line ∷ others) × AreLinesOf host lines others)) ⊎ ((IsLineOf host line → ⊥) × AreLinesOf host lines mine)
