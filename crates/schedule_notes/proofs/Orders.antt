-- The order of names.
use Rattle.std.specs.Cmp.{IsStrictWeakOrder}
use Rattle.std.proofs.Common.{ℕ, List}
use Rattle.std.proofs.lemmas.List.Sorted.{ranks_by}
use Rattle.osq_value.specs.declared.value.Value.{Value}
use Rattle.osq_value.specs.declared.value.Value.TheVariants.{Text}
use Rattle.osq_value.proofs.OrderLaws.{order_of-total}
use Rattle.schedule_notes.specs.declared.entries.Judged.{Judged}
use Rattle.schedule_notes.specs.Listed.{is_before}

abbrev name_value : Judged → Value
name_value entry = Text entry.name

pub is_before-order : IsStrictWeakOrder is_before
is_before-order = ranks_by order_of-total name_value
