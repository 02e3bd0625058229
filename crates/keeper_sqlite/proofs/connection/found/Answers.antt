use Rattle.keeper_sqlite.proofs.Seals.{clean_before}
use Rattle.keeper_sqlite.proofs.connection.found.Goals as goal

pub returns-clause-found : goal.returns-clause-found
returns-clause-found g c = λ with_runs.
    let with_set = clean_before _ _ c.in_ok-show-4.ensures.survives with_runs in
    let with_taken = clean_before _ _ c.in_ok-show-3.ensures.survives with_set in
    let with_live = clean_before _ _ c.in_ok-show-2.ensures.survives with_taken in
    let counted = clean_before _ _ c.in_ok-show.ensures.survives with_live in
    record {
      ready = c.ready.new.tx.conn.now;
      tables = c.in_ok-ready.ensures.tables (clean_before _ _ c.in_ok-counts.ensures.survives counted);
      counted = c.counts.new.tx.conn.now;
      counts = c.in_ok-counts.ensures.found counted;
      with_live = c.show.new.tx.conn.now;
      live = c.in_ok-show.ensures.found with_live;
      with_taken = c.show-2.new.tx.conn.now;
      taken = c.in_ok-show-2.ensures.found with_taken;
      with_set = c.show-3.new.tx.conn.now;
      set = c.in_ok-show-3.ensures.found with_set;
      runs = c.in_ok-show-4.ensures.found with_runs;
    }
