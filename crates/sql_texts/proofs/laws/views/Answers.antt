use Rattle.sql_texts.proofs.laws.views.Goals as goal
use Rattle.sql_texts.proofs.Named.{depend_on_named}

pub returns : goal.returns
returns c = depend_on_named
