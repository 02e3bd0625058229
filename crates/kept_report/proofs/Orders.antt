-- The order of queries is one.
use Rattle.std.proofs.Common.{ℕ, List}
use Rattle.std.specs.Cmp.{IsStrictWeakOrder}
use Rattle.std.specs.Cmp.Lexicographic.{on_texts}
use Rattle.std.proofs.lemmas.Cmp.{then_total}
use Rattle.std.proofs.lemmas.List.Sorted.{ranks_by}
use Rattle.entry_model.specs.declared.restored.Run.{Run}
use Rattle.kept_report.specs.Ordered.{is_before, mode_word}

abbrev whole : Run → Run
whole run = run

pub is_before-order : IsStrictWeakOrder is_before
is_before-order =
    ranks_by (then_total (on_texts (λ (run : Run). run.key.name)) (then_total (on_texts (λ (run : Run). run.key.text)) (on_texts (λ (run : Run). mode_word run.key.mode)))) whole
