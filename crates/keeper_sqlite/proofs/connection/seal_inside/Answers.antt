use Rattle.std.proofs.Common.{List, subst}
use Rattle.std.proofs.lemmas.Result.{on_ok_weaker}
use Rattle.kept_tables.specs.declared.changes.Change.{Change}
use Rattle.keeper_sqlite.specs.Asking.{AreMade}
use Rattle.keeper_sqlite.proofs.Seals.{clean_before}
use Rattle.keeper_sqlite.proofs.connection.seal_inside.Goals as goal

pub returns-clause-added : goal.returns-clause-added
returns-clause-added g c = λ clean.
    let found = c.in_ok-counts.ensures in
    let counted_clean = clean_before _ _ c.make_all.ensures.survives clean in
    on_ok_weaker c.make_all.result
    (λ made. record {
      ready = c.ready_once.new.tx.conn.now;
      tables = c.in_ok-ready_once.ensures.tables (clean_before _ _ found.survives counted_clean);
      begun = c.counts.new.tx.conn.now;
      counts = c.in_ok-counts.counts;
      counted = found.found counted_clean;
      made = subst (λ (changes : List Change). AreMade g.S.Store changes c.counts.new.tx.conn.now c.make_all.new.tx.conn.now) c.in_ok-changes.ensures made;
    })
    (c.make_all.ensures.made clean)
