use Rattle.std.proofs.Common.{◌≡◌, ◌++◌, codes}
use Rattle.serde_json.specs.Find.{get}
use Rattle.serde_json.specs.View.{members_view, view}
use Rattle.osq_config.specs.Faults.{fault_of, fault_of_members}
use Rattle.osq_config.specs.Kinds.{texts}
use Rattle.osq_config.specs.Values.{categories_of}
use Rattle.osq_config.proofs.category.all_categories.Given as goal

abbrev pub invariant-loop-name : goal.invariant-loop-name
invariant-loop-name l =
    let excluded = get (codes "exclude_paths") (view l.document) in
    record {
      fault : fault_of_members (fault_of texts) l.path (members_view l.members.entries) ≡ fault_of_members (fault_of texts) l.path (members_view l.name-iterator);
      categories : categories_of excluded (members_view l.members.entries) ≡ l.categories ++ categories_of excluded (members_view l.name-iterator);
    }
