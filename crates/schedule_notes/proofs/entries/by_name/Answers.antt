use Rattle.std.proofs.Common.{rules, List, sym, subst}
use Rattle.std.specs.List.Sorted.{IsSortedBy, IsStableBy}
use Rattle.std.proofs.lemmas.Fn.{always_returns_same}
use Rattle.schedule_notes.specs.declared.entries.Judged.{Judged}
use Rattle.schedule_notes.specs.Listed.{is_before}
use Rattle.schedule_notes.proofs.Orders.{is_before-order}
use Rattle.schedule_notes.proofs.entries.by_name.Goals as goal

pub returns : goal.returns
returns c = record {
  rising = subst (λ (entries : List Judged). IsSortedBy is_before entries) (sym c.from_vec.ensures)
      (c.in_ok-sort_by.ensures.sorted _ is_before-order (always_returns_same _ _ _ (λ a r g h. search rules)));
  stable = subst (λ (entries : List Judged). IsStableBy is_before c.args.judged entries) (sym c.from_vec.ensures)
      (subst (λ (entries : List Judged). IsStableBy is_before entries c.sort_by.new.self.items) c.into_vec-entries.ensures
      (c.sort_by.ensures.stable _ is_before-order (always_returns_same _ _ _ (λ a r g h. search rules))));
}
