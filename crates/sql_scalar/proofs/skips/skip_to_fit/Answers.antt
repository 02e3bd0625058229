use Rattle.std.specs.Str.{chars}
use Rattle.sql_scalar.proofs.Fitting.{skip_of_piece}
use Rattle.sql_scalar.proofs.skips.skip_to_fit.Goals as goal

pub returns-in-Some-clause-same : goal.returns-in-Some-clause-same
returns-in-Some-clause-same c =
    skip_of_piece c.in-Some.sign _ (chars c.args.piece.now) (chars c.args.text.now) (chars c.skip_to_sign.result.now) c.in-Some.ensures.0 c.requires
    c.skip_to_sign.ensures.same
