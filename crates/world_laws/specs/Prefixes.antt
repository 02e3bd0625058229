-- The digests of a host's first batches.
use Rattle.std.specs.Prelude.{◌≡◌, ℕ, ◌≤◌, List, length, map, take}
use Rattle.entry_model.specs.declared.entry.Batch.{Batch}
use Rattle.batch_frames.specs.Texts.{digest_of}
use Rattle.frame_laws.specs.Laws.{frame_of}

-- the digest of the host's frame of a batch
abbrev pub digest_for : List ℕ → Batch → List ℕ
digest_for host batch = digest_of (frame_of host batch)

-- these are the digests of the first of a host's batches, in order: each of them once, and none is left out
pub record IsPrefix (host : List ℕ) (batches : List Batch) (digests : List (List ℕ)) : Type 0 where
  pub count : ℕ
  pub within : count ≤ length batches
  pub is : digests ≡ map (digest_for host) (take count batches)
