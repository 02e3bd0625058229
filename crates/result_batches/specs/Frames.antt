-- The text of a frame: one batch of one host, as it is sent.
use Rattle.std.specs.Prelude.{ℕ, ◌/◌, ◌%◌, List, [], ◌∷◌, ◌++◌, map, flat_map, codes}
use Rattle.std.specs.Fmt.{decimal, signed_decimal}
use Rattle.sha2.specs.Sha256.{sha256}
use Rattle.osq_value.specs.declared.value.Value.{Value}
use Rattle.osq_value.specs.declared.value.Value.TheVariants.{Null, Int, Text}
use Rattle.pack_rules.specs.declared.schedule.Mode.{Mode}
use Rattle.pack_rules.specs.declared.schedule.Mode.TheVariants.{Evented, Snapshot}
use Rattle.entry_model.specs.declared.entry.Batch.{Batch}
use Rattle.control_escapes.specs.Escapes.{hex_digit}
use Rattle.result_batches.specs.Json.{quoted, array}

abbrev pub mode_text : Mode → List ℕ
mode_text Evented = codes "evented"
mode_text Snapshot = codes "snapshot"

abbrev pub json_value : Value → List ℕ
json_value Null = codes "null"
json_value (Int n) = signed_decimal n
json_value (Text text) = quoted text

abbrev pub hexadecimal : List ℕ → List ℕ
hexadecimal bytes = flat_map (λ b. hex_digit (b / 16) ∷ hex_digit (b % 16) ∷ []) bytes

-- what the digest is made from
abbrev pub frame_body : List ℕ → List (List ℕ) → Batch → List ℕ
frame_body host names batch =
    codes "{\"frame\":1,\"host\":" ++ quoted host ++ codes ",\"number\":" ++ decimal batch.number ++ codes ",\"name\":" ++ quoted batch.query.name
    ++ codes ",\"text\":" ++ quoted batch.query.text ++ codes ",\"mode\":" ++ quoted (mode_text batch.query.mode) ++ codes ",\"lo\":" ++ decimal batch.lo
    ++ codes ",\"hi\":" ++ decimal batch.hi ++ codes ",\"cut\":" ++ decimal batch.cut ++ codes ",\"moment\":" ++ decimal batch.moment
    ++ codes ",\"names\":" ++ array (map quoted names) ++ codes ",\"rows\":" ++ array (map (λ (row : List Value). array (map json_value row)) batch.rows)

-- the frame, with the digest of what stands before it
abbrev pub frame_text : List ℕ → List (List ℕ) → Batch → List ℕ
frame_text host names batch = frame_body host names batch ++ codes ",\"sha256\":" ++ quoted (hexadecimal (sha256 (frame_body host names batch))) ++ codes "}"
