use Rattle.std.proofs.Common.{◌≡◌, ◌++◌, drop, option_map}
use Rattle.serde_json.specs.View.{items_view}
use Rattle.osq_config.specs.Faults.{all_texts}
use Rattle.osq_config.proofs.field.all_texts.Given as goal

abbrev pub invariant-loop-item : goal.invariant-loop-item
invariant-loop-item l = all_texts (items_view l.items) ≡ option_map (λ rest. l.texts ++ rest) (all_texts (items_view (drop l.item-index l.items)))
