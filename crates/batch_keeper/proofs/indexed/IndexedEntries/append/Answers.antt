use Rattle.std.proofs.Common.{List, sym, subst}
use Rattle.std.specs.Prelude.{IfSome}
use Rattle.entry_model.specs.declared.entry.Entry.{Entry}
use Rattle.batch_keeper.specs.Indexing.{IsIndex}
use Rattle.batch_keeper.proofs.Places.{index_stays}
use Rattle.batch_keeper.proofs.indexed.IndexedEntries.append.Goals as goal

pub invariant_of-self-2 : goal.invariant_of-self-2
invariant_of-self-2 c =
    subst (λ (es : List Entry). IfSome c.self.inside.index (IsIndex es)) (sym c.in_ok-append.ensures.ok) (index_stays c.self.inside.entries c.args.added c.self.inside.index c.self.invariant)
