use Rattle.std.proofs.Common.{◌≡◌, List, [], ◌∷◌, ◌++◌, map, take, fold, ap, ◌∙◌, arith}
use Rattle.std.proofs.lemmas.List.{take_all}
use Rattle.std.proofs.lemmas.Result.{IfOk-weaker}
use Rattle.entry_model.specs.declared.entry.Entry.{Entry}
use Rattle.kept_tables.specs.declared.changes.Change.{Change}
use Rattle.kept_tables.specs.declared.sealing.Sealing.{Sealing}
use Rattle.kept_tables.specs.Edits.{seal_edits, spelled, write_counts}
use Rattle.kept_tables.specs.Sealing.{with_entry}
use Rattle.kept_tables.proofs.Spelling.{sealed_is}
use Rattle.kept_tables.proofs.sealing.changes_of.Goals as goal

pub returns : goal.returns
returns c =
    let entries = c.args.entries.now in
    let begun : Sealing = record { counts = c.args.counts; changes = c.new.result } in
    let items = c.as_slice-entry-items.result.now in
    let i = c.loop-entry.entry-index in
    let whole : take i items ≡ items = take_all i items (omega (arith, c.loop-entry-test.false)) in
    let come : c.loop-entry.sealing ≡ fold with_entry begun entries = c.loop-entry.invariant ∙ ap (λ (es : List Entry). fold with_entry begun es) (whole ∙ c.as_slice-entry-items.ensures) in
    IfOk-weaker c.close.result _ _ (λ changes made. made ∙ ap (λ (s : Sealing). s.changes ++ spelled (write_counts s.counts) ∷ []) come ∙ sealed_is begun entries
    ∙ ap (λ (cs : List Change). cs ++ map spelled (seal_edits c.args.counts entries)) c.new.ensures) c.close.ensures
