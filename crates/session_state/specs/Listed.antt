-- What is kept of the rows of the schedule's table.
use Rattle.std.specs.Prelude.{◌≡◌, ℕ, ◌+◌, ◌*◌, ◌≤◌, ◌<◌, Bool, true, false, List, [], length, get_or}
use Rattle.std.specs.Fork.{slice_chunk}
use Rattle.osq_value.specs.declared.value.Value.{Value}
use Rattle.event_store.specs.Parts.{Parted}

pub record RowsAndStale : Type 0 where
  pub rows : Parted
  pub stale : List Bool  -- of each part, whether a batch came since it was made

-- each part that isn't stale has its rows as they are to be shown
pub record AreFresh (shown : List (List Value)) (listed : RowsAndStale) : Type 0 where
  pub count : listed.rows.count ≡ length shown
  pub parts : length listed.rows.parts ≡ length listed.stale
  pub all : length shown ≤ length listed.stale * 64
  pub few : length listed.stale * 64 < length shown + 64
  pub right : (part : ℕ) → get_or listed.stale part true ≡ false → get_or listed.rows.parts part [] ≡ slice_chunk shown 64 part

-- each part has its rows as they are to be shown
pub record AreParts (shown : List (List Value)) (rows : Parted) : Type 0 where
  pub count : rows.count ≡ length shown
  pub all : length shown ≤ length rows.parts * 64
  pub few : length rows.parts * 64 < length shown + 64
  pub right : (part : ℕ) → part < length rows.parts → get_or rows.parts part [] ≡ slice_chunk shown 64 part
