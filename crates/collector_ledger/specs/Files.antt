-- The ledger of a file.
use Rattle.std.specs.Prelude.{◌≡◌, ℕ, nat_le, Bool, List, [], ◌∷◌, ◌++◌, length, Option, unwrap_or}
use Rattle.record_lines.specs.Lines.{lines_of, rest_of}
use Rattle.collector_core.specs.Received.{HostDigests, all_received, none_recorded}
use Rattle.collector_core.specs.Ledgers.{digests_of}
use Rattle.collector_answers.specs.declared.judging.Judged.{Judged}
use Rattle.collector_answers.specs.Judging.{AreJudged, frames_of}
use Rattle.collector_ledger.specs.declared.opened.OpenedLedger.{OpenedLedger}

-- what stands behind the last line feed is a line too
abbrev pub file_lines : List ℕ → List (List ℕ)
file_lines file = lines_of file ++ rest_of file ∷ []

-- the digests of what is recorded once the frames of the file's lines were received, in their order
pub record IsLedgerOf (file : List ℕ) (recorded : HostDigests) : Type 0 where
  pub judged : List Judged
  pub lines : AreJudged (file_lines file) judged
  pub is : (host : List ℕ) → recorded host ≡ all_received none_recorded (frames_of judged) host

-- something stands behind the last line feed
abbrev pub has_rest : List ℕ → Bool
has_rest file = nat_le 1 (length (rest_of file))

-- the file's ledger; that of no file is that of the empty one
pub record IsOpened (found : Option (List ℕ)) (opened : OpenedLedger) : Type 0 where
  pub ledger : IsLedgerOf (unwrap_or found []) (digests_of opened.ledger)
  pub rest : opened.has_rest ≡ has_rest (unwrap_or found [])
