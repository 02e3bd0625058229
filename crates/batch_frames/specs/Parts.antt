-- The parts of a frame's text, in order.
use Rattle.std.specs.Prelude.{ℕ, ◌<◌, ◌^◌, List, ◌++◌, map, codes}
use Rattle.std.specs.Fmt.{decimal}
use Rattle.std.specs.List.{AllByRecursion}
use Rattle.std.specs.Str.{IsUtf8}
use Rattle.osq_value.specs.declared.value.Value.{Value}
use Rattle.pack_rules.specs.declared.schedule.QueryKey.{QueryKey}
use Rattle.result_batches.specs.Json.{array, quoted}
use Rattle.result_batches.specs.Frames.{hexadecimal, json_value, mode_text}
use Rattle.batch_frames.specs.declared.parts.Sender.{Sender}
use Rattle.batch_frames.specs.declared.parts.Slice.{Slice}
use Rattle.batch_frames.specs.declared.parts.Table.{Table}
use Rattle.batch_frames.specs.Texts.{IsHeldValue}

unfoldable pub sender_part : List ℕ → ℕ → List ℕ
sender_part host number = (codes "{\"frame\":1,\"host\":" ++ quoted host) ++ (codes ",\"number\":" ++ decimal number)

unfoldable pub query_part : QueryKey → List ℕ
query_part query =
    (codes ",\"name\":" ++ quoted query.name) ++ ((codes ",\"text\":" ++ quoted query.text) ++ (codes ",\"mode\":" ++ quoted (mode_text query.mode)))

unfoldable pub slice_part : ℕ → ℕ → ℕ → ℕ → List ℕ
slice_part lo hi cut moment =
    (codes ",\"lo\":" ++ decimal lo) ++ ((codes ",\"hi\":" ++ decimal hi) ++ ((codes ",\"cut\":" ++ decimal cut) ++ (codes ",\"moment\":" ++ decimal moment)))

unfoldable pub table_part : List (List ℕ) → List (List Value) → List ℕ
table_part names rows =
    (codes ",\"names\":" ++ array (map quoted names)) ++ (codes ",\"rows\":" ++ array (map (λ row. array (map json_value row)) rows))

unfoldable pub digest_part : List ℕ → List ℕ
digest_part digest = codes ",\"sha256\":" ++ (quoted (hexadecimal digest) ++ codes "}")

-- the same of what a reader takes at once
abbrev pub sender_text : Sender → List ℕ
sender_text sender = sender_part sender.host sender.number

abbrev pub slice_text : Slice → List ℕ
slice_text slice = slice_part slice.lo slice.hi slice.cut slice.moment

abbrev pub table_text : Table → List ℕ
table_text table = table_part table.names table.rows

pub record IsHeldSender (sender : Sender) : Type 0 where
  pub host : IsUtf8 sender.host
  pub number : sender.number < 2 ^ 64

pub record IsHeldSlice (slice : Slice) : Type 0 where
  pub lo : slice.lo < 2 ^ 64
  pub hi : slice.hi < 2 ^ 64
  pub cut : slice.cut < 2 ^ 64
  pub moment : slice.moment < 2 ^ 64

pub record IsHeldTable (table : Table) : Type 0 where
  pub names : AllByRecursion IsUtf8 table.names
  pub rows : AllByRecursion (λ row. AllByRecursion IsHeldValue row) table.rows
