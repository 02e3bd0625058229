use Rattle.std.proofs.Common.{rules, List, sym, subst}
use Rattle.std.specs.List.Sorted.{IsPermutation}
use Rattle.std.proofs.lemmas.List.Sorted.{IsNonDecreasingBy-from_sort_by_key}
use Rattle.entry_model.specs.declared.restored.Live.{Live}
use Rattle.kept_tables.specs.Loads.{events_in, IsByNumber}
use Rattle.kept_tables.proofs.live.live_of.Goals as goal

pub returns : goal.returns
returns c =
    let held = c.in_ok-live.ensures in
    let moved = c.in_ok-sort_by_key.ensures.permutation in
    let sorted = IsNonDecreasingBy-from_sort_by_key (λ (event : Live). event.number) _ c.in_ok-sort_by_key.ensures.sorted (λ a r q k. search rules) in
    subst (λ (live : List Live). IsByNumber (events_in c.args.floors.now c.args.parts) live) (sym c.from_vec.ensures)
    (record { same = subst (λ (events : List Live). IsPermutation events c.sort_by_key.new.self.items) held moved; rising = sorted })
