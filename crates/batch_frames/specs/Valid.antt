-- Which frames are valid.
use Rattle.std.specs.Prelude.{ℕ, ◌==◌, ◌&&◌, ◌^◌, nat_le, nat_lt, Bool, List, length}
use Rattle.std.specs.List.{list_all}
use Rattle.osq_value.specs.declared.value.Value.{Value}
use Rattle.entry_model.specs.declared.entry.Batch.{Batch}
use Rattle.batch_frames.specs.declared.frame.Frame.{Frame}

-- the host's name has 1 to 255 bytes
abbrev pub is_host : List ℕ → Bool
is_host host = nat_le 1 (length host) && nat_le (length host) 255

-- below 2^63
abbrev pub is_number : ℕ → Bool
is_number number = nat_lt number (2 ^ 63)

-- batches are numbered from 1, and no number is 2^63 or more
abbrev pub has_numbers : Batch → Bool
has_numbers batch = nat_le 1 batch.number && is_number batch.number && is_number batch.lo && is_number batch.hi && is_number batch.cut && is_number batch.moment

-- each row is as wide as the names
abbrev pub are_wide : ℕ → List (List Value) → Bool
are_wide width rows = list_all (λ (row : List Value). length row == width) rows

abbrev pub is_valid : Frame → Bool
is_valid frame = is_host frame.host && has_numbers frame.batch && are_wide (length frame.names) frame.batch.rows
