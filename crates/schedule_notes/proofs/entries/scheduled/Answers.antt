use Rattle.std.proofs.Common.{rules, ◌∙◌, ap, List}
use Rattle.std.specs.Prelude.{filter}
use Rattle.std.specs.List.{dedup}
use Rattle.std.proofs.lemmas.Fn.{dedup_same, filter_same}
use Rattle.schedule_notes.specs.declared.entries.Judged.{Judged}
use Rattle.schedule_notes.specs.Notes.{has_same_name, is_taken}
use Rattle.schedule_notes.proofs.entries.scheduled.Goals as goal

pub returns : goal.returns
returns c =
    c.from_vec.ensures ∙ dedup_same _ has_same_name _ (λ x y b f' x' y' k. search rules) _ _ c.dedup_by.ensures.filtered
    ∙ ap (λ (entries : List Judged). dedup has_same_name entries) (filter_same _ is_taken _ (λ x b f' k. search rules) _ _ c.retain.ensures.filtered
    ∙ ap (λ (entries : List Judged). filter is_taken entries) c.into_vec-entries.ensures)
