use Rattle.std.proofs.Common.{IfOk, Result, Ok, Err}
use Rattle.sql_query.specs.Resolved.{query_of}
use Rattle.kept_queries.proofs.Meant.{meant}
use Rattle.kept_queries.proofs.rows.rows_behind.Goals as goal

if_ok : {T E : Type 0} {P Q : T → Type 0} (r : Result T E) → ((x : T) → P x → Q x) → IfOk r P → IfOk r Q
if_ok (Ok x) more holds = more x holds
if_ok (Err e) more holds = holds

pub returns : goal.returns
returns c = record { means = if_ok c.rows_shown.result (λ rows same. meant c.shows.ensures c.args.state.now c.is_state.ensures (query_of c.args.query.now) c.args.moment rows same) c.rows_shown.ensures }
