use Rattle.std.proofs.Common.{◌≡◌, drop}
use Rattle.sqlite.specs.Held.{Held, state}
use Rattle.sqlite.specs.State.{HasCleanDisk}
use Rattle.keeper_sqlite.specs.Commits.{CommitsNothing}
use Rattle.keeper_sqlite.specs.Asking.{AreMade}
use Rattle.keeper_sqlite.proofs.database.make_all.Given as goal

-- what is left of the changes, once made, makes all of them
abbrev pub invariant-loop-change : goal.invariant-loop-change
invariant-loop-change g l =
    (l.tx.conn.ghost_name ≡ l.initial.tx.conn.ghost_name)
    × CommitsNothing (state g.S.Store l.initial.tx.conn.now) (state g.S.Store l.tx.conn.now)
    × (HasCleanDisk (state g.S.Store l.tx.conn.now) → (end : Held g.row.S.Denot) → AreMade g.S.Store (drop l.change-index l.changes) l.tx.conn.now end → AreMade g.S.Store l.changes l.initial.tx.conn.now end)
