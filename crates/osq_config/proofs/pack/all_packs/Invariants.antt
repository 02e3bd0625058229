use Rattle.std.proofs.Common.{◌≡◌, ◌++◌}
use Rattle.serde_json.specs.View.{members_view}
use Rattle.osq_config.specs.Faults.{fault_of, fault_of_members}
use Rattle.osq_config.specs.Kinds.{pack_kind, text_or}
use Rattle.osq_config.specs.Values.{packs_of}
use Rattle.osq_config.proofs.pack.all_packs.Given as goal

abbrev pub invariant-loop-name : goal.invariant-loop-name
invariant-loop-name l = record {
  fault : fault_of_members (fault_of (text_or pack_kind)) l.path (members_view l.members.entries) ≡ fault_of_members (fault_of (text_or pack_kind)) l.path (members_view l.name-iterator);
  packs : packs_of (members_view l.members.entries) ≡ l.packs ++ packs_of (members_view l.name-iterator);
}
