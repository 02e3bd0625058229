use Rattle.std.specs.Prelude.{bytes_eq}
use Rattle.entry_model.specs.declared.restored.Taken.{Taken}
use Rattle.entry_summary.proofs.Walks.{apart}
use Rattle.entry_summary.proofs.distinct.have_own_sources.Goals as goal

pub loop-at-preserved : goal.loop-at-preserved
loop-at-preserved c =
    apart (λ (s t : Taken). bytes_eq s.source t.source) c.args.taken.now c.loop-at.at c.index-taken-at.result c.loop-at-test.true c.loop-at.invariant c.if-has_source.ensures
