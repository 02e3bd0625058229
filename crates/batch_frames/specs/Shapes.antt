-- The frame that a JSON object shows.
use Rattle.std.specs.Prelude.{ℕ, ◌+◌, ◌==◌, ◌&&◌, bytes_eq, Bool, false, List, codes, map, if◌then◌else◌, Option, Some, None, option_map, option_and_then}
use Rattle.std.specs.Option.{option_map_or}
use Rattle.serde_json.specs.Data.{Data, null, boolean, number, string, array, object, Members, no_members, member}
use Rattle.serde_json.specs.Find.{get, as_array, as_i64, as_number, as_object, as_str, as_u64}
use Rattle.osq_value.specs.declared.value.Value.{Value}
use Rattle.osq_value.specs.declared.value.Value.TheVariants.{Null, Int, Text}
use Rattle.pack_rules.specs.declared.schedule.Mode.{Mode}
use Rattle.pack_rules.specs.declared.schedule.Mode.TheVariants.{Evented, Snapshot}
use Rattle.pack_rules.specs.declared.schedule.QueryKey.{QueryKey}
use Rattle.entry_model.specs.declared.entry.Batch.{Batch}
use Rattle.change_records.specs.Changes.{text_at}
use Rattle.change_records.specs.Rows.{all_there, list_of}
use Rattle.batch_frames.specs.declared.frame.Frame.{Frame}
use Rattle.batch_frames.specs.declared.parts.Slice.{Slice}
use Rattle.batch_frames.specs.declared.parts.Table.{Table}
use Rattle.batch_frames.specs.declared.shape.Shown.{Shown}
use Rattle.batch_frames.specs.Valid.{is_valid}

-- a whole number of a member
abbrev pub number_at : List ℕ → Data → Option ℕ
number_at key line = option_and_then as_u64 (option_and_then as_number (get key line))

-- the items of a member, each of which is there
abbrev pub items_at : {X : Type 0} → (Data → Option X) → List ℕ → Data → Option (List X)
items_at item key line = option_and_then (λ items. all_there (map item (list_of items))) (option_and_then as_array (get key line))

abbrev pub value_of : Data → Option Value
value_of null = Some Null
value_of (boolean _) = None
value_of (number n) = option_map Int (as_i64 n)
value_of (string s) = Some (Text s)
value_of (array _) = None
value_of (object _) = None

abbrev pub row_of : Data → Option (List Value)
row_of row = option_and_then (λ items. all_there (map value_of (list_of items))) (as_array row)

abbrev pub mode_of : List ℕ → Option Mode
mode_of text = if bytes_eq text (codes "evented") then Some Evented else (if bytes_eq text (codes "snapshot") then Some Snapshot else None)

abbrev pub query : List ℕ → List ℕ → Mode → QueryKey
query name text mode = record { name = name; text = text; mode = mode }

unfoldable pub query_of : Data → Option QueryKey
query_of line =
    option_and_then (λ name. option_and_then (λ text. option_map (query name text) (option_and_then mode_of (text_at (codes "mode") line)))
    (text_at (codes "text") line)) (text_at (codes "name") line)

abbrev pub slice : ℕ → ℕ → ℕ → ℕ → Slice
slice lo hi cut moment = record { lo = lo; hi = hi; cut = cut; moment = moment }

unfoldable pub slice_of : Data → Option Slice
slice_of line =
    option_and_then (λ lo. option_and_then (λ hi. option_and_then (λ cut. option_map (slice lo hi cut) (number_at (codes "moment") line))
    (number_at (codes "cut") line)) (number_at (codes "hi") line)) (number_at (codes "lo") line)

abbrev pub table : List (List ℕ) → List (List Value) → Table
table names rows = record { names = names; rows = rows }

unfoldable pub table_of : Data → Option Table
table_of line = option_and_then (λ names. option_map (table names) (items_at row_of (codes "rows") line)) (items_at as_str (codes "names") line)

abbrev pub batch : ℕ → QueryKey → Slice → Table → Batch
batch n q s t = record { number = n; query = q; lo = s.lo; hi = s.hi; cut = s.cut; moment = s.moment; rows = t.rows }

-- the frame of its parts
abbrev pub frame : List ℕ → ℕ → QueryKey → Slice → Table → Frame
frame host n q s t = record { host = host; batch = batch n q s t; names = t.names }

unfoldable pub frame_of : Data → Option Frame
frame_of line =
    option_and_then (λ host. option_and_then (λ n. option_and_then (λ q. option_and_then (λ s. option_map (frame host n q s) (table_of line))
    (slice_of line)) (query_of line)) (number_at (codes "number") line)) (text_at (codes "host") line)

abbrev pub count_of : Members → ℕ
count_of no_members = 0
count_of (member key value rest) = 1 + count_of rest

-- as many keys as a frame has
abbrev pub has_keys : Data → Bool
has_keys line = option_map_or (λ members. count_of members == 13) (as_object line) false

-- and the key `frame`, which is 1
abbrev pub has_form : Data → Bool
has_form line = option_map_or (λ n. n == 1) (number_at (codes "frame") line) false && has_keys line

abbrev pub shown : Frame → List ℕ → Shown
shown f digest = record { frame = f; digest = digest }

-- exactly the keys of a frame, with values of their kinds that make a valid frame
unfoldable pub shape_of : Data → Option Shown
shape_of line =
    option_and_then (λ f. option_and_then (λ digest. if has_form line && is_valid f then Some (shown f digest) else None)
    (text_at (codes "sha256") line)) (frame_of line)
