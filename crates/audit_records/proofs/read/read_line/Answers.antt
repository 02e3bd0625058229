use Rattle.std.proofs.Common.{◌≡◌, ℕ, List, sym, ap, ◌∙◌, subst}
use Rattle.std.specs.Prelude.{option_and_then, Option}
use Rattle.audit_records.specs.declared.line.AuditLine.{AuditLine}
use Rattle.audit_records.specs.Lines.{head_of, line_of, with_fields}
use Rattle.audit_records.specs.Reads.{Reads}
use Rattle.audit_records.proofs.LineGrammar.{bad_line, line_of_bytes, line_of_text, no_line, ok_line}
use Rattle.audit_records.proofs.read.read_line.Goals as goal

read : (c : goal.After-read_text) → Reads (line_of c.args.text.now) c.read_text.result
read c =
    let same = c.in-Ok.ensures.cases.0 in
    let line : line_of c.args.text.now ≡ option_and_then with_fields (head_of c.in-Ok.text.now) =
    line_of_text c.args.text.now c.in-Ok.ensures.cases.1 ∙ ap (λ (t : List ℕ). option_and_then with_fields (head_of t)) (sym same) in
    subst (λ (found : Option AuditLine). Reads found c.read_text.result) (sym line) c.read_text.ensures

pub returns-in-Ok-clause-read : goal.returns-in-Ok-clause-read
returns-in-Ok-clause-read c = read c

pub returns-in-Ok-clause-line : goal.returns-in-Ok-clause-line
returns-in-Ok-clause-line c = ok_line c.args.text.now c.read_text.result (read c)

pub returns-in-Ok-clause-bad : goal.returns-in-Ok-clause-bad
returns-in-Ok-clause-bad c = bad_line c.args.text.now c.read_text.result (read c)

pub returns-in-Err-clause-read : goal.returns-in-Err-clause-read
returns-in-Err-clause-read c = line_of_bytes c.args.text.now c.in-Err.ensures.cases.0

pub returns-in-Err-clause-bad : goal.returns-in-Err-clause-bad
returns-in-Err-clause-bad c = λ is. no_line c.args.text.now (line_of_bytes c.args.text.now c.in-Err.ensures.cases.0)
