-- The last of some records, and the one reading that joins them.
use Rattle.std.proofs.Common.{◌≡◌, ℕ, ◌+◌, ◌-◌, List, [], ◌∷◌, ◌++◌, length, slice_get, refl, ap, ◌∙◌, arith, Option, Some, length-append}
use Rattle.std.specs.Option.{option_map_or}
use Rattle.osq_value.specs.declared.reading.Category.{Category}
use Rattle.osq_value.specs.declared.reading.Reading.TheVariants as reading
use Rattle.publisher_core.specs.declared.record.Gain.{Gain}
use Rattle.publisher_core.specs.declared.record.ReadRecord.{ReadRecord}
use Rattle.osq_value.specs.declared.source.SourceKind.{SourceKind}
use Rattle.osq_value.specs.declared.source.SourceKind.TheVariants.{Audit, Changes, Tables}
use Rattle.publisher_core.specs.Records.{ended, LinesGive, ChangeGives, TableGives}
use Rattle.publisher_core.specs.Readings.{events_of, skipped_of, joined}
use Rattle.publisher_core.specs.Standing.{Gives}
use Rattle.publisher_core.proofs.Given.{size_ended}
use Rattle.source_feeds.proofs.Splits.{records_place}

last_there : (before : List ReadRecord) (last : ReadRecord) → slice_get (before ++ last ∷ []) (length before) ≡ Some last
last_there [] last = refl
last_there (first ∷ before) last = last_there before last

-- the one reading of some records ends behind the last of them
pub joined_last : (before : List ReadRecord) (last : ReadRecord) → joined (before ++ last ∷ []) ≡ reading.Events last.end (events_of (before ++ last ∷ [])) (skipped_of (before ++ last ∷ [])) ∷ []
joined_last before last =
    let pieces = before ++ last ∷ [] in
    let size = length-append before (last ∷ []) in
    let place : length pieces - 1 ≡ length before = omega (arith, size) in
    ap (λ (found : Option ReadRecord). option_map_or (λ (p : ReadRecord). reading.Events p.end (events_of pieces) (skipped_of pieces) ∷ []) found [])
    (ap (λ (n : ℕ). slice_get pieces n) place ∙ last_there before last)

lines_last : (gives : List ℕ → Gain → Type 0) (start : ℕ) (lines : List (List ℕ)) (before : List ReadRecord) (last : ReadRecord) → LinesGive gives start lines (before ++ last ∷ []) → last.end ≡ start + length (ended lines)
lines_last gives start [] [] last all = absurd all
lines_last gives start [] (piece ∷ before) last all = absurd all
lines_last gives start (line ∷ []) [] last all = let size = size_ended line [] in let end = all.1 in omega (arith, size, end)
lines_last gives start (line ∷ next ∷ lines) [] last all = absurd all.2
lines_last gives start (line ∷ lines) (piece ∷ before) last all =
    let size = size_ended line lines in
    let end = lines_last gives (start + length line + 1) lines before last all.2 in
    omega (arith, size, end)

-- the last record of lines ends where they do
pub last_place : (kind : SourceKind) (paths : List Category) (start : ℕ) (lines : List (List ℕ)) (before : List ReadRecord) (last : ReadRecord) → Gives kind paths start lines (before ++ last ∷ []) → last.end ≡ start + length (ended lines)
last_place Audit paths start lines before last gives = records_place start lines gives.records before last gives.are gives.each
last_place Changes paths start lines before last gives = lines_last (ChangeGives paths) start lines before last gives
last_place Tables paths start lines before last gives = lines_last TableGives start lines before last gives
