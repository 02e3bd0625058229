use Rattle.sql_texts.proofs.laws.widths.Goals as goal
use Rattle.sql_texts.proofs.Wide.{are_wide}

pub returns : goal.returns
returns c = are_wide
