-- Entries that are not sealed yet, with room for more.
use Rattle.std.specs.Prelude.{ℕ, List}
use Rattle.entry_model.specs.declared.entry.Entry.{Entry}

pub record EntriesAndRoom : Type 0 where
  pub entries : List Entry
  pub room : ℕ
