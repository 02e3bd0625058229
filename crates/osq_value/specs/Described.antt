-- What the descriptions of tables and columns say.
use Rattle.std.specs.Prelude.{ℕ}
use Rattle.osq_value.specs.declared.catalogue.ColumnDesc.{ColumnDesc}
use Rattle.osq_value.specs.declared.catalogue.TableDesc.{TableDesc}
use Rattle.osq_value.specs.Catalogue.{Column, Heading}

abbrev pub column : ColumnDesc → Column
column desc = record { name = desc.name.now; affinity = desc.affinity }

abbrev pub heading : TableDesc → Heading
heading desc = record { name = desc.name.now; kind = desc.kind; width = desc.width }

abbrev pub id : TableDesc → ℕ
id desc = desc.id.0
