use Rattle.std.proofs.Common.{◌≡◌, Some, map, take}
use Rattle.serde_json.specs.Find.{get}
use Rattle.serde_json.specs.View.{view}
use Rattle.osq_value.specs.declared.catalogue.ColumnDesc.{ColumnDesc}
use Rattle.change_records.specs.Rows.{all_there, cell_of}
use Rattle.change_records.proofs.table.cells.Given as goal

abbrev pub invariant-loop-column : goal.invariant-loop-column
invariant-loop-column l = all_there (map (λ (desc : ColumnDesc). cell_of desc.affinity (get desc.name.now (view l.item))) (take l.column-index l.columns)) ≡ Some l.cells
