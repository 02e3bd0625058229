-- Why a session or a question goes no further by the kept list or a source.
use Rattle.std.specs.Prelude.{◌≡◌, ◌<◌, ℕ, List, Some, length, slice_get}
use Rattle.entry_model.specs.Fits.{Fits}
use Rattle.entry_model.specs.Legal.{Legal}
use Rattle.entry_model.specs.Summary.{summary}
use Rattle.entry_model.specs.Values.{taken_from}
use Rattle.osq_value.specs.declared.source.SourceName.{SourceName}
use Rattle.osq_program.specs.Ending.{IsNamedAt}
use Rattle.osq_program.specs.Observed.{Observed}

-- no session may go on from the kept list, which a legal one never is
abbrev pub IsUnfit : Observed → Type 0
IsUnfit seen = seen.keeper_tells → (¬ Legal seen.kept_before) × (¬ Fits (summary seen.kept_before))

-- a session may go on from the kept list, where the keeper tells of it
abbrev pub IsFit : Observed → Type 0
IsFit seen = seen.keeper_tells → Fits (summary seen.kept_before)

-- of these sources the one of this name failed
abbrev pub HasFailed : List SourceName → Observed → List ℕ → Type 0
HasFailed sources seen name = (place : ℕ) × IsNamedAt sources place name × seen.failed_at place

-- of these sources the one of this name ended after `found` bytes, before the `kept` bytes up to which the kept list has it
pub record HasShrunk (sources : List SourceName) (seen : Observed) (name : List ℕ) (kept found : ℕ) : Type 0 where
  pub place : ℕ
  pub named : IsNamedAt sources place name
  pub short : found < kept
  pub kept_is : seen.keeper_tells → kept ≡ taken_from seen.kept_before name
  pub ended : seen.source_tells → (bytes : List ℕ) × (slice_get seen.all_bytes place ≡ Some bytes) × (length bytes ≡ found)
