use Rattle.std.proofs.Common.{sym, subst}
use Rattle.osq_value.specs.Catalogue.{columns_of}
use Rattle.serde_json.specs.View.{view}
use Rattle.change_records.specs.Reads.{Reads}
use Rattle.change_records.proofs.AllThere.{cells_of-described}
use Rattle.change_records.proofs.table.row.Goals as goal

pub returns-then-is_object : goal.returns-then-is_object
returns-then-is_object c =
    subst (λ found. Reads found c.cells.result) (cells_of-described c.columns.result.now (columns_of c.args.table.0) (view c.args.item.now) c.columns.ensures (sym c.if-is_object.ensures)) c.cells.ensures
