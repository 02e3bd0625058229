use Rattle.std.proofs.Common.{◌≡◌, ℕ, ◌+◌, List, [], ◌∷◌, length, fold, map, ap, ◌∙◌}
use Rattle.std.proofs.lemmas.Result.{on_ok_weaker}
use Rattle.osq_value.specs.declared.value.Value.{Value}
use Rattle.kept_tables.specs.declared.sealing.Sealing.{Sealing}
use Rattle.kept_tables.specs.Edits.{add_batch, is_full, note_run, part_edits, rows_text}
use Rattle.kept_tables.specs.Groups.{groups}
use Rattle.kept_tables.specs.Sealing.{comes_to, with_batch_part, with_edits}
use Rattle.kept_tables.proofs.Spelling.{commit_spelled}
use Rattle.kept_tables.proofs.sealing.Sealing.commit.Goals as goal

pub returns : goal.returns
returns c =
    let self = c.args.self.now in
    let batch = c.args.batch.now in
    let gs = groups is_full batch.rows in
    let counted : Sealing = record self { counts = record self.counts { batches = c.in_ok-self.field-0 } } in
    let two : c.add_batch.new.self ≡ with_edits (with_edits counted (note_run batch ∷ [])) (add_batch batch ∷ []) = c.in_ok-add_batch.ensures ∙ ap (λ (s : Sealing). with_edits s (add_batch batch ∷ [])) c.in_ok-note_run.ensures in
    let texts : c.in_ok-texts.texts ≡ map rows_text gs = c.in_ok-texts.ensures ∙ ap (λ (rows : List (List Value)). map rows_text (groups is_full rows)) c.as_slice.ensures in
    on_ok_weaker c.add_batch_parts.result (λ made. made ∙ (λ i. fold (with_batch_part batch.number) (two i) (texts i)) ∙ commit_spelled counted batch gs
    ∙ ap (λ (n : ℕ). comes_to self (record self.counts { batches = n; parts = self.counts.parts + length gs }) (note_run batch ∷ add_batch batch ∷ part_edits self.counts.parts batch.number gs)) c.in_ok-self.ensures) c.add_batch_parts.ensures
