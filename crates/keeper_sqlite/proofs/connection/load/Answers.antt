use Rattle.std.proofs.Common.{◌≡◌, arith, subst, rules}
use Rattle.sqlite.specs.Held.{state}
use Rattle.sqlite.specs.State.{HasCleanDisk}
use Rattle.keeper_sqlite.specs.Asking.{HasLoaded, Loads}
use Rattle.keeper_sqlite.proofs.connection.load.Goals as goal

pub returns : goal.returns
returns g c =
    let mid = c.load_inside.new.tx.conn.now in
    let end = c.commit.new.self.0 in
    let same : end ≡ c.conn-2-1.given.0 = search rules in
    subst (λ h. HasCleanDisk (state g.S.Store h) → HasLoaded g.S.Store c.in_ok-restored.restored c.args.conn.now) same (λ clean.
    let doubts = c.commit.ensures.survives.clean in
    (mid, subst (λ h. Loads g.S.Store c.in_ok-restored.restored h mid) c.transaction-tx.ensures.begun (c.in_ok-restored.ensures.loaded (omega (arith, doubts, clean)))))
