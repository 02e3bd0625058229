use Rattle.std.proofs.Common.{◌≡◌}
use Rattle.serde_json.specs.View.{members_view}
use Rattle.osq_config.specs.Faults.{fault_of, fault_of_members}
use Rattle.osq_config.specs.Kinds.{texts}
use Rattle.osq_config.proofs.category.check_all_lists.Given as goal

abbrev pub invariant-loop-name : goal.invariant-loop-name
invariant-loop-name l = fault_of_members (fault_of texts) l.path (members_view l.members.entries) ≡ fault_of_members (fault_of texts) l.path (members_view l.name-iterator)
