use Rattle.std.proofs.Common.{◌≡◌, ◌++◌}
use Rattle.serde_json.specs.View.{members_view}
use Rattle.osq_config.specs.Faults.{fault_of, fault_of_members}
use Rattle.osq_config.specs.Kinds.{entry_kind}
use Rattle.osq_config.specs.Values.{entries_of}
use Rattle.osq_config.proofs.entry.all_entries.Given as goal

abbrev pub invariant-loop-name : goal.invariant-loop-name
invariant-loop-name l = record {
  fault : fault_of_members (fault_of entry_kind) l.path (members_view l.members.entries) ≡ fault_of_members (fault_of entry_kind) l.path (members_view l.name-iterator);
  entries : entries_of (members_view l.members.entries) ≡ l.entries ++ entries_of (members_view l.name-iterator);
}
