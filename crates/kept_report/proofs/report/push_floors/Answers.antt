use Rattle.std.proofs.Common.{◌≡◌, ◌++◌, ◌∙◌, ℕ, List, OnOk, ap, subst, codes, slice_index, append_assoc}
use Rattle.kept_report.specs.Reports.{field_line, floors_text}
use Rattle.kept_report.proofs.report.push_floors.Goals as goal

pub returns : goal.returns
unfolding floors_text
returns c =
    let first = field_line (codes "floor process_events ") (slice_index c.args.floors 0) in
    let second = field_line (codes "floor socket_events ") (slice_index c.args.floors 1) in
    let third = field_line (codes "floor file_events ") (slice_index c.args.floors 2) in
    let one : c.push_field.new.text ≡ c.args.text.now ++ first = c.in_ok-push_field.ensures in
    let two : c.push_field-2.new.text ≡ c.push_field.new.text ++ second = c.in_ok-push_field-2.ensures in
    let joined = ap (λ (t : List ℕ). t ++ third) (two ∙ ap (λ (t : List ℕ). t ++ second) one ∙ append_assoc c.args.text.now first second) ∙ append_assoc c.args.text.now (first ++ second) third in
    subst (λ (t : List ℕ). OnOk c.push_field-3.result (c.push_field-3.new.text ≡ t)) joined c.push_field-3.ensures
