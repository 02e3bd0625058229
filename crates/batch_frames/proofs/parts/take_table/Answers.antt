use Rattle.std.proofs.Common.{ℕ, List, ◌++◌, codes, map, refl, ap}
use Rattle.std.specs.List.{AllByRecursion}
use Rattle.std.specs.Str.{IsUtf8}
use Rattle.osq_value.specs.declared.value.Value.{Value}
use Rattle.result_batches.specs.Json.{array, quoted}
use Rattle.result_batches.specs.Frames.{json_value}
use Rattle.batch_frames.specs.Parts.{table_part}
use Rattle.batch_frames.specs.Texts.{IsHeldValue}
use Rattle.batch_frames.proofs.Sequences.{both_taken}
use Rattle.batch_frames.proofs.parts.take_table.Goals as goal

abbrev names_text : List (List ℕ) → List ℕ
names_text v = codes ",\"names\":" ++ array (map quoted v)

abbrev rows_text : List (List Value) → List ℕ
rows_text v = codes ",\"rows\":" ++ array (map (λ row. array (map json_value row)) v)

pub returns : goal.returns
unfolding table_part
returns c = λ table behind held ended is.
    let taken = both_taken names_text (λ names. AllByRecursion IsUtf8 names) rows_text (λ rows. AllByRecursion (λ row. AllByRecursion IsHeldValue row) rows) _ _ _ _ _ (λ _ _. refl) c.in_ok-names.ensures c.in_ok-rows.ensures (table.names, table.rows) behind (held.names, held.rows) ended is in
    (ap (λ (p : List (List ℕ) × List (List Value)). record { names = p.0; rows = p.1 }) taken.0, taken.1)
