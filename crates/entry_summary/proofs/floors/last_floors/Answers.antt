use Rattle.std.proofs.Common.{◌<◌, ◌∙◌, List, ℕ, length, take, ◌+◌, sym, subst, ap, arith}
use Rattle.std.proofs.lemmas.List.{length-set}
use Rattle.entry_summary.proofs.FloorSteps.{AreFloors, set_floor, same_floors, quiet}
use Rattle.entry_summary.proofs.floors.last_floors.Goals as goal
use Rattle.entry_summary.proofs.floors.last_floors.Goals.{in-Expired, in_default}

pub loop-entry-preserved : goal.loop-entry-preserved
loop-entry-preserved c =
    let loop = c.loop-entry in
    let entries = c.args.entries.now in
    elim c.match-entry.branch [
      | in-Expired w ↦
          (let e = w.in-Expired in
          let small : e.table.0 < length loop.floors = omega arith in
          record {
            known = subst (λ (floors : List ℕ). AreFloors floors (take (loop.entry-index + 1) entries)) (sym w.floors-is) (set_floor loop.floors entries loop.entry-index c.entry-item.result e.table e.floor e.moment c.loop-entry-test.true c.entry-item.is e.is small loop.invariant.known);
            long = ap length w.floors-is ∙ length-set loop.floors e.table.0 e.floor ∙ loop.invariant.long;
          })
      | in_default w ↦
          record {
            known = subst (λ (floors : List ℕ). AreFloors floors (take (loop.entry-index + 1) entries)) (sym w.floors-is) (same_floors loop.floors entries loop.entry-index c.entry-item.result c.loop-entry-test.true c.entry-item.is (quiet c.entry-item.result w.in_default.not-Expired) loop.invariant.known);
            long = ap length w.floors-is ∙ loop.invariant.long;
          }
    ]
