use Rattle.std.proofs.Common.{ℕ, List, ◌++◌, codes, refl, ap, ◌∙◌}
use Rattle.std.specs.Str.{IsUtf8}
use Rattle.pack_rules.specs.declared.schedule.Mode.{Mode}
use Rattle.result_batches.specs.Json.{quoted}
use Rattle.result_batches.specs.Frames.{mode_text}
use Rattle.batch_frames.specs.Parts.{query_part}
use Rattle.batch_frames.proofs.Sequences.{both_taken}
use Rattle.batch_frames.proofs.parts.take_query.Goals as goal

abbrev name_text : List ℕ → List ℕ
name_text v = codes ",\"name\":" ++ quoted v

abbrev query_text : List ℕ → List ℕ
query_text v = codes ",\"text\":" ++ quoted v

abbrev mode_field : Mode → List ℕ
mode_field v = codes ",\"mode\":" ++ quoted (mode_text v)

pub returns : goal.returns
unfolding query_part
returns c = λ query behind held ended is.
    let last = both_taken query_text IsUtf8 mode_field (λ _. Unit {0}) _ _ _ _ _ (λ _ _. refl) c.in_ok-text.ensures c.in_ok-mode.ensures in
    let taken = both_taken name_text IsUtf8 (λ (p : List ℕ × Mode). query_text p.0 ++ mode_field p.1) (λ (p : List ℕ × Mode). IsUtf8 p.0 × Unit {0}) _ _ _ _ _ (λ _ _. refl) c.in_ok-name.ensures last (query.name, (query.text, query.mode)) behind (held.name, (held.text, tt)) ended is in
    (c.read.ensures ∙ ap (λ (p : List ℕ × (List ℕ × Mode)). record { name = p.0; text = p.1.0; mode = p.1.1 }) taken.0, taken.1)
