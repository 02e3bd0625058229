use Rattle.std.proofs.Common.{◌≡◌, Some, map, take}
use Rattle.serde_json.specs.View.{view}
use Rattle.serde_json.specs.declared.value.Value.{Value}
use Rattle.change_records.specs.Rows.{all_there}
use Rattle.serde_json.specs.Find.{as_str}
use Rattle.batch_frames.proofs.shape.all_names.Given as goal

abbrev pub invariant-loop-item : goal.invariant-loop-item
invariant-loop-item l = all_there (map (λ (item : Value). as_str (view item)) (take l.item-index l.items)) ≡ Some l.names
