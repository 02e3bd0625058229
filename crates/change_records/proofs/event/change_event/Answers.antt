use Rattle.std.proofs.Common.{ℕ, List, None, subst}
use Rattle.osq_value.specs.declared.reading.Category.{Category}
use Rattle.change_records.specs.Events.{FindsCategory}
use Rattle.change_records.proofs.event.change_event.Goals as goal

pub returns-in-None : goal.returns-in-None
returns-in-None c =
    subst (λ (cs : List Category). FindsCategory c.args.change.path cs None) c.as_slice.ensures
    (subst (λ (path : List ℕ). FindsCategory path c.as_slice.result.now None) c.as_str.ensures c.in-None.ensures)
