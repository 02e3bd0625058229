use Rattle.std.proofs.Common.{sym}
use Rattle.audit_records.specs.Lines.{is_blank}
use Rattle.audit_records.proofs.Places.{first_both, nowhere_parts}
use Rattle.audit_records.proofs.cuts.around_blank.Goals as goal

pub returns-in-Some : goal.returns-in-Some
returns-in-Some c =
    first_both is_blank _ c.args.text.now c.in-Some.at _ _ c.as_bytes.ensures.value c.around_place.ensures.front c.around_place.ensures.back c.in-Some.ensures

pub returns-in-None : goal.returns-in-None
returns-in-None c = sym (nowhere_parts is_blank _ c.args.text.now c.as_bytes.ensures.value c.in-None.ensures).both
