-- The order in which queries are told.
use Rattle.std.specs.Prelude.{ℕ, Bool, List, codes}
use Rattle.std.specs.declared.cmp.Ordering.{Ordering}
use Rattle.std.specs.Cmp.Lexicographic.{slice_cmp}
use Rattle.std.specs.List.Sorted.{IsPermutation, IsSortedBy}
use Rattle.std.specs.Ordering.{is_lt, nat_cmp, ordering_then}
use Rattle.pack_rules.specs.declared.schedule.Mode.{Mode}
use Rattle.pack_rules.specs.declared.schedule.Mode.TheVariants.{Evented, Snapshot}
use Rattle.entry_model.specs.declared.restored.Run.{Run}

abbrev pub mode_word : Mode → List ℕ
mode_word Evented = codes "evented"
mode_word Snapshot = codes "snapshot"

-- by the bytes of the names, then of the texts, then of the words for the modes
abbrev pub run_order : Run → Run → Ordering
run_order run other =
    ordering_then (slice_cmp nat_cmp run.key.name other.key.name)
    (ordering_then (slice_cmp nat_cmp run.key.text other.key.text) (slice_cmp nat_cmp (mode_word run.key.mode) (mode_word other.key.mode)))

abbrev pub is_before : Run → Run → Bool
is_before run other = is_lt (run_order run other)

-- these runs in that order
pub record IsOrdered (runs ordered : List Run) : Type 0 where
  pub same : IsPermutation runs ordered
  pub sorted : IsSortedBy is_before ordered
