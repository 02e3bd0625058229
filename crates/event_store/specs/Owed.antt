-- Which events of a table are to expire.
use Rattle.std.specs.Prelude.{ℕ, ◌-◌, Bool, ◌&&◌, ◌||◌, nat_lt, nat_le, List, filter, count_by, Option, Some, None}
use Rattle.entry_model.specs.declared.restored.Live.{Live}
use Rattle.entry_model.specs.Values.{last_of}

-- the event was appended long ago
abbrev pub is_aged : ℕ → ℕ → Live → Bool
is_aged expiry moment event = nat_le expiry (moment - event.moment)

-- as many events as may be kept come after it
abbrev pub is_crowded : ℕ → List Live → Live → Bool
is_crowded max events event = nat_le max (count_by (λ (other : Live). nat_lt event.number other.number) events)

-- what was appended long ago goes where its number has been reached, and what is crowded out goes in any case
abbrev pub must_go : ℕ → ℕ → ℕ → ℕ → List Live → Live → Bool
must_go expiry max moment reached events event = is_aged expiry moment event && nat_le event.number reached || is_crowded max events event

-- the number of the last event that must go, if one must
abbrev pub owed_of : ℕ → ℕ → ℕ → ℕ → List Live → Option ℕ
owed_of expiry max moment reached events =
    last_of (λ (event : Live). Some (Some event.number)) None (filter (must_go expiry max moment reached events) events)
