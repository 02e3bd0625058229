use Rattle.std.proofs.Common.{◌∙◌, Some, None}
use Rattle.virtual_tables.proofs.Turning.{null-fails, passes-at}
use Rattle.virtual_tables.proofs.constraint.passes_one.Goals as goal

pub returns-in-None : goal.returns-in-None
returns-in-None c = null-fails c.args.test.now.op c.args.test.now.value ∙ passes-at None c.args.row.now c.args.test.now c.in-None.ensures

pub returns-in-Some : goal.returns-in-Some
returns-in-Some c = c.passes_test.ensures ∙ passes-at (Some c.in-Some.value.now) c.args.row.now c.args.test.now c.in-Some.ensures
