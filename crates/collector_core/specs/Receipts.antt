-- What becomes of a frame, by the digests that are kept of its host.
use Rattle.std.specs.Prelude.{ℕ, ◌+◌, ◌-◌, ◌==◌, nat_lt, bytes_eq, List, [], ◌∷◌, ◌++◌, length, slice_index_or, if◌then◌else◌}
use Rattle.collector_core.specs.declared.receipt.Receipt.{Receipt}
use Rattle.collector_core.specs.declared.receipt.Receipt.TheVariants.{Recorded, Repeat, Gap, Conflict}

-- the digest that is kept of the frame with this number
abbrev pub kept_at : List (List ℕ) → ℕ → List ℕ
kept_at kept k = slice_index_or kept (k - 1) []

-- the next number is recorded, and a greater one leaves a gap; one that is recorded repeats the frame or conflicts with it
abbrev pub receipt_of : List (List ℕ) → ℕ → List ℕ → Receipt
receipt_of kept k found =
    if k == length kept + 1 then Recorded
    else (if nat_lt (length kept + 1) k then Gap (length kept)
    else (if bytes_eq (kept_at kept k) found then Repeat else Conflict k (kept_at kept k) found))

-- the digests that are kept afterwards
abbrev pub kept_after : List (List ℕ) → ℕ → List ℕ → List (List ℕ)
kept_after kept k found = if k == length kept + 1 then kept ++ found ∷ [] else kept
