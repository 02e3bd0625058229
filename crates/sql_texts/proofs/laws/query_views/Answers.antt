use Rattle.sql_texts.proofs.laws.query_views.Goals as goal
use Rattle.sql_texts.proofs.Named.{depend_on_sources}

pub returns : goal.returns
returns c = depend_on_sources
