-- The counts that rows show.
use Rattle.std.specs.Prelude.{ℕ, Bool, false, ◌==◌, List, [], ◌∷◌, ◌++◌, map, slice_get, Option, Some, None, option_and_then}
use Rattle.std.specs.Option.{option_map_or}
use Rattle.change_records.specs.Rows.{all_there}
use Rattle.osq_value.specs.declared.value.Value.{Value}
use Rattle.kept_tables.specs.declared.counts.Counts.{Counts}
use Rattle.kept_tables.specs.declared.layout.TheConstants.{LAYOUT}
use Rattle.kept_tables.specs.Columns.{number_at}

-- the columns of a row of counts
abbrev pub columns : List ℕ
columns = 0 ∷ 1 ∷ 2 ∷ 3 ∷ 4 ∷ 5 ∷ 6 ∷ 7 ∷ 8 ∷ 9 ∷ []

-- the numbers in them
abbrev pub numbers_of : Counts → List ℕ
numbers_of counts = counts.position ∷ counts.sessions ∷ counts.moment ∷ counts.last ∷ (counts.floors ++ counts.batches ∷ counts.acked ∷ counts.parts ∷ [])

abbrev pub counts_from : List ℕ → Option Counts
counts_from (position ∷ sessions ∷ moment ∷ last ∷ first ∷ second ∷ third ∷ batches ∷ acked ∷ parts ∷ []) =
    Some (record {
      position = position;
      sessions = sessions;
      moment = moment;
      last = last;
      floors = first ∷ second ∷ third ∷ [];
      batches = batches;
      acked = acked;
      parts = parts;
    })
counts_from _ = None

abbrev pub counts_in : List Value → Option Counts
counts_in row = option_and_then counts_from (all_there (map (number_at row) columns))

-- the first row has a number in each column
abbrev pub counts_shown : List (List Value) → Option Counts
counts_shown found = option_and_then counts_in (slice_get found 0)

-- the first row has the layout's number
abbrev pub is_layout : List (List Value) → Bool
is_layout found = option_map_or (λ n. n == LAYOUT) (option_and_then (λ (row : List Value). number_at row 0) (slice_get found 0)) false
