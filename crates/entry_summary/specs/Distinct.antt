-- What two of the things of a list are not to share.
use Rattle.std.specs.Prelude.{◌==◌, List, bytes_eq}
use Rattle.entry_model.specs.declared.restored.Run.{Run}
use Rattle.entry_model.specs.declared.restored.Taken.{Taken}
use Rattle.entry_model.specs.declared.restored.SetTable.{SetTable}
use Rattle.entry_model.specs.Fits.{IsDistinct}

abbrev pub HaveOwnTables : List SetTable → Type 0
HaveOwnTables tables = IsDistinct (λ (s t : SetTable). s.table.0 == t.table.0) tables

abbrev pub HaveOwnSources : List Taken → Type 0
HaveOwnSources taken = IsDistinct (λ (s t : Taken). bytes_eq s.source t.source) taken

abbrev pub HaveOwnNumbers : List Run → Type 0
HaveOwnNumbers runs = IsDistinct (λ (s t : Run). s.number == t.number) runs
