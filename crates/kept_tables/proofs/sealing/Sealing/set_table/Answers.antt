use Rattle.std.proofs.Common.{◌≡◌, List, [], ◌∷◌, map, ap, ◌∙◌}
use Rattle.std.proofs.lemmas.Result.{on_ok_weaker}
use Rattle.osq_value.specs.declared.value.Value.{Value}
use Rattle.kept_tables.specs.declared.changes.Statement.TheVariants as statement
use Rattle.kept_tables.specs.Edits.{change, note_taken, number, rows_text, set_groups, unset}
use Rattle.kept_tables.specs.Sealing.{set_change, with_changes, with_edits}
use Rattle.kept_tables.proofs.Spelling.{set_spelled}
use Rattle.kept_tables.proofs.sealing.Sealing.set_table.Goals as goal

pub returns : goal.returns
returns c =
    let self = c.args.self.now in
    let table = c.args.table.0 in
    let rows = c.args.rows.now in
    let two : c.change.new.self ≡ with_edits (with_edits self (note_taken c.args.source.now c.args.taken ∷ [])) (unset table ∷ []) =
    c.in_ok-change.ensures ∙ (λ i. with_changes (c.in_ok-note_taken.ensures i) (change statement.Unset (number (c.from.ensures i) ∷ []) ∷ [])) in
    let texts : c.in_ok-texts.texts ≡ map rows_text (set_groups rows) = c.in_ok-texts.ensures ∙ ap (λ (rs : List (List Value)). map rows_text (set_groups rs)) c.as_slice.ensures in
    on_ok_weaker c.add_set_parts.result (λ made. made ∙ (λ i. with_changes (two i) (map (set_change table) (texts i))) ∙ set_spelled self c.args.source.now c.args.taken table rows) c.add_set_parts.ensures
