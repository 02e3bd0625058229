use Rattle.sql_scope.proofs.Widths.{narrow_at}
use Rattle.sql_names.proofs.faults.place_at.Goals as goal

pub place_in-requires : goal.place_in-requires
place_in-requires c = narrow_at c.args.scope.now c.args.number c.in-Some.seen.now c.requires c.in-Some.ensures.lookup.3.0 c.in-Some.ensures.lookup.1
