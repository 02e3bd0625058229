use Rattle.std.proofs.Common.{take}
use Rattle.std.specs.Option.{option_copied}
use Rattle.change_records.specs.Events.{FindsCategory}
use Rattle.change_records.proofs.event.category_of.Given as goal

abbrev pub invariant-loop-category : goal.invariant-loop-category
invariant-loop-category l = FindsCategory l.path (take l.category-index l.categories) (option_copied l.first)
