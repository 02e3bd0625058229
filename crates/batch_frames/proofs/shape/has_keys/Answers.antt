use Rattle.std.proofs.Common.{◌≡◌, ◌==◌, false, Some, sym, ap, ◌∙◌, option_map}
use Rattle.std.specs.Option.{option_map_or}
use Rattle.serde_json.specs.Find.{as_object}
use Rattle.serde_json.specs.View.{members_view, view}
use Rattle.batch_frames.specs.Shapes.{count_of}
use Rattle.batch_frames.proofs.Members.{count_members}
use Rattle.batch_frames.proofs.shape.has_keys.Goals as goal

pub returns-in-Some : goal.returns-in-Some
returns-in-Some c =
    let entries = c.in-Some.members.now.entries in
    let is : as_object (view c.args.line.now) ≡ Some (members_view entries) = sym c.as_object.ensures ∙ ap (λ o. option_map (λ m. members_view m.now.entries) o) c.in-Some.is in
    ap (λ n. n == 13) (c.len.ensures.len ∙ sym (count_members entries)) ∙ ap (λ o. option_map_or (λ members. count_of members == 13) o false) (sym is)
