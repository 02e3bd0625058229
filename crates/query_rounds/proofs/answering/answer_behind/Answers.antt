use Rattle.std.proofs.Common.{IfOk, Result, Ok, Err}
use Rattle.sql_query.specs.Resolved.{query_of}
use Rattle.query_rounds.proofs.Answered.{text_means}
use Rattle.query_rounds.proofs.answering.answer_behind.Goals as goal

if_ok : {T E : Type 0} {P Q : T → Type 0} (r : Result T E) → ((x : T) → P x → Q x) → IfOk r P → IfOk r Q
if_ok (Ok x) more holds = more x holds
if_ok (Err e) more holds = holds

pub returns : goal.returns
returns c =
    if_ok c.rows_behind.result (λ rows means. text_means c.args.text.now (query_of c.in_ok-query.query) c.args.state.now c.args.moment rows c.in_ok-query.ensures means) c.rows_behind.ensures.means
