use Rattle.std.proofs.Common.{Some, sym, ap, ◌∙◌}
use Rattle.std.specs.Prelude.{option_map, option_and_then}
use Rattle.audit_records.specs.Lines.{whole_line, with_fields, Head}
use Rattle.audit_records.proofs.read.read_text.Goals as goal

pub returns : goal.returns
returns c =
    let found : Head = record { id = c.in-Some.head.id; kind = c.in-Some.head.kind.now; fields = c.in-Some.head.fields.now } in
    ap (option_and_then with_fields) (sym c.in-Some.ensures)
    ∙ ap (option_map (whole_line found)) c.in_ok-fields.ensures ∙ ap (λ kind. Some (whole_line (record found { kind = kind }) c.in_ok-fields.fields)) (sym c.in_ok-kind.ensures)
