-- The only group of a query without GROUP BY, after some of its rows.
use Rattle.std.specs.Prelude.{◌≡◌, true, List, [], map}
use Rattle.osq_value.specs.declared.value.Value.{Value}
use Rattle.sql_query.specs.Resolved.{QueryTree}
use Rattle.sql_meaning.specs.Steps.{filtered, result_row, together}
use Rattle.sql_groups.specs.declared.items.GroupItem.{GroupItem}
use Rattle.sql_groups.specs.declared.totals.Totals.{Totals}
use Rattle.sql_groups.specs.Folding.{item_over}
use Rattle.sql_groups.specs.Grouping.{AreKnown}

-- all rows are one group, which HAVING keeps
abbrev pub IsOneGroup : QueryTree → Type 0
IsOneGroup query = (query.is_grouped ≡ true) × (query.keys ≡ []) × (query.having ≡ [])

-- each column of the result can be folded row by row
abbrev pub AreItems : QueryTree → List GroupItem → Type 0
AreItems query items = (rows : List (List Value)) → result_row query (together rows) ≡ map (λ item. item_over item rows) items

-- what is known of the columns of the result after these rows, of which WHERE keeps some
abbrev pub AreTotals : QueryTree → List (List Value) → Totals → Type 0
AreTotals query rows totals = (items : List GroupItem) × IsOneGroup query × AreItems query items × AreKnown items (filtered query rows) totals.group
