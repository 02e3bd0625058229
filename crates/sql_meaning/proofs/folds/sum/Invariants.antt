use Rattle.std.proofs.Common.{◌≡◌, ◌*◌, ◌^◌, pos, neg_ℤ, ◌≤ℤ◌, filter_map, take}
use Rattle.sql_scalar.specs.Arithmetic.{whole}
use Rattle.sql_meaning.specs.Folds.{total}
use Rattle.sql_meaning.proofs.FoldsLaws.{is_nil}
use Rattle.sql_meaning.proofs.folds.sum.Given as goal

abbrev pub invariant-loop-value : goal.invariant-loop-value
invariant-loop-value l = record {
  summed : l.total ≡ total (filter_map whole (take l.value-index l.values));
  empty : l.is_empty ≡ is_nil (filter_map whole (take l.value-index l.values));
  low : neg_ℤ (pos (l.value-index * 2 ^ 63)) ≤ℤ l.total;
  high : l.total ≤ℤ pos (l.value-index * 2 ^ 63);
}
