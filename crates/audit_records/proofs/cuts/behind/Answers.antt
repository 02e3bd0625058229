use Rattle.audit_records.proofs.Places.{stripped}
use Rattle.audit_records.proofs.cuts.behind.Goals as goal

pub returns : goal.returns
returns c = stripped c.args.front.now c.args.text.now c.strip_prefix.result c.strip_prefix.ensures.cases
