-- The moment of a tick.
use Rattle.std.specs.Prelude.{◌≡◌, ℕ, ◌≤◌, max}
use Rattle.osq_value.specs.declared.moment.TheConstants.{LAST_MOMENT}

-- the clock was read once, and the moment is its reading or the last moment, whichever is later
pub record IsRead {C : Type 0} (reads : C → ℕ → C → Type 0) (before after : C) (last moment : ℕ) : Type 0 where
  pub reading : ℕ
  pub reads_it : reads before reading after
  pub calendar : reading ≤ LAST_MOMENT
  pub is : moment ≡ max reading last
