use Rattle.sql_texts.proofs.laws.query_widths.Goals as goal
use Rattle.sql_texts.proofs.Wide.{are_wide_by_items}

pub returns : goal.returns
returns c = are_wide_by_items
