use Rattle.sql_scalar.proofs.CharSteps.{lacks_sign}
use Rattle.sql_scalar.proofs.pieces.behind_first.Goals as goal

pub behind_found-requires-clause-exact : goal.behind_found-requires-clause-exact
behind_found-requires-clause-exact c = lacks_sign 95 c.args.piece.now c.utf8.piece c.if-not-contains.ensures.cases
