use Rattle.std.proofs.Common.{◌≡◌, Ok, Err, arith, subst, rules}
use Rattle.std.proofs.lemmas.Result.{err_from_is_err_and}
use Rattle.sqlite.specs.Held.{state}
use Rattle.sqlite.specs.State.{HasCleanDisk}
use Rattle.sqlite.proofs.Callers.{survives_begin}
use Rattle.keeper_sqlite.specs.Commits.{IsOneCommit}
use Rattle.keeper_sqlite.specs.Asking.{Adds, IsSealed}
use Rattle.keeper_sqlite.proofs.Commits.{same_commits_nothing, nothing_then_nothing, none_is_one, nothing_then_one}
use Rattle.keeper_sqlite.proofs.connection.seal.Goals as goal

pub returns-then-not-is_autocommit-clause-whole : goal.returns-then-not-is_autocommit-clause-whole
returns-then-not-is_autocommit-clause-whole g c = none_is_one _ _ _ (same_commits_nothing (state g.S.Store c.args.conn.now))

pub returns-in_err-seal_inside-clause-whole : goal.returns-in_err-seal_inside-clause-whole
returns-in_err-seal_inside-clause-whole g c =
    let old = state g.S.Store c.args.conn.now in
    let mid = state g.S.Store c.seal_inside.new.tx.conn.now in
    let end = c.drop-tx.new.self.0 in
    let begun = c.transaction-tx.ensures.begun in
    let inside = c.seal_inside.ensures.survives in
    let before = survives_begin g.S.Store c.args.conn.now mid _ (rw begun at inside) in
    let refused = err_from_is_err_and c.from_residual.result c.from_residual.ensures.1 in
    let none = none_is_one {T = Unit {0}} old (state g.S.Store end) refused.0 (nothing_then_nothing old mid (state g.S.Store end) before c.drop-tx.ensures.survives) in
    let same : end ≡ c.conn-1.given.0 = search rules in
    rw refused.1 (subst (λ h. IsOneCommit old (state g.S.Store h) (Err refused.0)) same none)

pub returns-in_err-commit-clause-whole : goal.returns-in_err-commit-clause-whole
returns-in_err-commit-clause-whole g c =
    let old = state g.S.Store c.args.conn.now in
    let mid = state g.S.Store c.seal_inside.new.tx.conn.now in
    let end = c.commit.new.self.0 in
    let begun = c.transaction-tx.ensures.begun in
    let inside = c.seal_inside.ensures.survives in
    let before = survives_begin g.S.Store c.args.conn.now mid _ (rw begun at inside) in
    let refused = err_from_is_err_and c.from_residual-in_err-commit.result c.from_residual-in_err-commit.ensures.1 in
    let one = nothing_then_one {T = Unit {0}} old mid (state g.S.Store end) (Err refused.0) before c.commit.ensures.survives (λ _. tt) in
    let same : end ≡ c.conn-2-1.given.0 = search rules in
    rw refused.1 (subst (λ h. IsOneCommit old (state g.S.Store h) (Err refused.0)) same one)

pub returns-clause-whole : goal.returns-clause-whole
returns-clause-whole g c =
    let old = state g.S.Store c.args.conn.now in
    let mid = state g.S.Store c.seal_inside.new.tx.conn.now in
    let end = c.commit.new.self.0 in
    let begun = c.transaction-tx.ensures.begun in
    let inside = c.seal_inside.ensures.survives in
    let before = survives_begin g.S.Store c.args.conn.now mid _ (rw begun at inside) in
    let same : end ≡ c.conn-2-1.given.0 = search rules in
    let one = nothing_then_one old mid (state g.S.Store end) (Ok tt) before c.commit.ensures.survives (λ clean. (c.in_ok-commit.ensures.ok clean).1) in
    subst (λ h. IsOneCommit old (state g.S.Store h) (Ok tt)) same one

pub returns-clause-sealed : goal.returns-clause-sealed
returns-clause-sealed g c =
    let mid = c.seal_inside.new.tx.conn.now in
    let end = c.commit.new.self.0 in
    let same : end ≡ c.conn-2-1.given.0 = search rules in
    subst (λ h. HasCleanDisk (state g.S.Store h) → IsSealed g.S.Store c.args.is_known c.args.entries.now c.args.conn.now h) same (λ clean.
    let doubts = c.commit.ensures.survives.clean in (
      mid,
      subst (λ h. Adds g.S.Store c.args.is_known c.args.entries.now h mid) c.transaction-tx.ensures.begun (c.in_ok-seal_inside.ensures.added (omega (arith, doubts, clean))),
      (c.in_ok-commit.ensures.ok clean).1.committed_is,
    ))
