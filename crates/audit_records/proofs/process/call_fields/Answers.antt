use Rattle.std.proofs.Common.{◌≡◌, ◌+◌, ◌≤◌, ◌∷◌, List, length, ap, sym, subst, ◌∙◌, arith, drop}
use Rattle.std.proofs.lemmas.List.{drop_all, drop_more}
use Rattle.audit_records.specs.declared.line.Field.{Field}
use Rattle.audit_records.specs.CallFields.{each_or, found_of}
use Rattle.audit_records.proofs.CallFields.{firsts, walk-end, walk-step}
use Rattle.audit_records.proofs.process.call_fields.Goals as goal

pub loop-field-preserved : goal.loop-field-preserved
loop-field-preserved c =
    let l = c.loop-field in
    let items = c.as_slice-field-items.result.now in
    let field = c.field-item.result in
    let left : drop l.field-index items ≡ field ∷ drop (l.field-index + 1) items =
    drop_more items l.field-index field c.loop-field-test.true ∙ ap (λ (f : Field). f ∷ drop (l.field-index + 1) items) (sym c.field-item.is) in
    let left : drop l.field-index c.args.line.now.fields ≡ field ∷ drop (l.field-index + 1) c.args.line.now.fields =
    subst (λ (fs : List Field). drop l.field-index fs ≡ field ∷ drop (l.field-index + 1) fs) c.as_slice-field-items.ensures left in
    let rest = drop (l.field-index + 1) c.args.line.now.fields in
    ap (λ ones. each_or ones (firsts rest)) c.with_field-found.ensures
    ∙ walk-step (found_of l.found) field rest
    ∙ ap (λ (fs : List Field). each_or (found_of l.found) (firsts fs)) (sym left)
    ∙ l.invariant

pub returns : goal.returns
returns c =
    let l = c.loop-field in
    let past : length c.args.line.now.fields ≤ l.field-index = omega (arith, ap (λ (fs : List Field). length fs) c.as_slice-field-items.ensures) in
    sym (walk-end (found_of l.found))
    ∙ ap (λ (fs : List Field). each_or (found_of l.found) (firsts fs)) (sym (drop_all l.field-index c.args.line.now.fields past))
    ∙ l.invariant
