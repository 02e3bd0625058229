use Rattle.std.proofs.Common.{sym, ◌∙◌}
use Rattle.audit_records.specs.Lines.{is_blank}
use Rattle.audit_records.proofs.Places.{first_parts, nowhere_parts}
use Rattle.audit_records.proofs.cuts.split_at_blank.Goals as goal

pub returns-in-Some-clause-front : goal.returns-in-Some-clause-front
returns-in-Some-clause-front c = c.split_at.ensures.front ∙ sym (first_parts is_blank _ c.args.text.now c.in-Some.at c.as_bytes.ensures.value c.in-Some.ensures).front

pub returns-in-Some-clause-back : goal.returns-in-Some-clause-back
returns-in-Some-clause-back c = c.split_at.ensures.back ∙ sym (first_parts is_blank _ c.args.text.now c.in-Some.at c.as_bytes.ensures.value c.in-Some.ensures).back

pub returns-in-None-clause-front : goal.returns-in-None-clause-front
returns-in-None-clause-front c = sym (nowhere_parts is_blank _ c.args.text.now c.as_bytes.ensures.value c.in-None.ensures).front

pub returns-in-None-clause-back : goal.returns-in-None-clause-back
returns-in-None-clause-back c = sym (nowhere_parts is_blank _ c.args.text.now c.as_bytes.ensures.value c.in-None.ensures).back
