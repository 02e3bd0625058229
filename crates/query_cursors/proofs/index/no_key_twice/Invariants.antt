use Rattle.std.proofs.Common.{◌≡◌, take}
use Rattle.std.specs.HashSet.{contains}
use Rattle.entry_model.specs.Reserved.{HaveOwnKeys, has_run}
use Rattle.query_cursors.specs.declared.index.Lent.{Lent}
use Rattle.query_cursors.proofs.Knowing.{same_lent}
use Rattle.query_cursors.proofs.index.no_key_twice.Given as goal

-- the keys of the runs so far are known, and none of them stands there twice
abbrev pub invariant-loop-run : goal.invariant-loop-run
invariant-loop-run l = record {
  known : (lent : Lent) → contains same_lent l.known lent ≡ has_run (take l.run-index l.runs) lent.key.now;
  own : HaveOwnKeys (take l.run-index l.runs);
}
