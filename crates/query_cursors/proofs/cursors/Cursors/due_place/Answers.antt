use Rattle.std.proofs.Common.{◌≡◌, ◌<◌, ℕ, true, false, length, get_or, sym, ap, ◌∙◌, arith}
use Rattle.std.proofs.lemmas.Option.{slice_get-get_or}
use Rattle.query_cursors.specs.Due.{is_due, is_due_by}
use Rattle.query_cursors.proofs.Placing.{placed_run_is}
use Rattle.query_cursors.proofs.Seeking.{first_due_is, none_due_is, none_due_more}
use Rattle.query_cursors.proofs.cursors.Cursors.due_place.Goals as goal

pub returns-then-due-clause-place : goal.returns-then-due-clause-place
returns-then-due-clause-place c =
    let v = c.args.self.now in
    let queries = c.args.queries.now in
    let at = c.loop-at.at in
    let d = c.index-queries-at.result in
    let within : at < length queries = (let inside = c.loop-at-test.true in omega (arith, inside)) in
    let there = slice_get-get_or queries at d within in
    let run = c.placed_run.ensures ∙ placed_run_is v queries at (get_or queries at d) c.requires there in
    let is : is_due_by v.runs c.args.moment (get_or queries at d) ≡ true = sym (c.due.ensures ∙ (λ i. is_due (c.index-queries-at.is i) (run i) c.args.moment)) ∙ c.if-due.true in
    sym (first_due_is v.runs queries c.args.moment at (get_or queries at d) there is c.loop-at.invariant)

pub loop-at-preserved : goal.loop-at-preserved
loop-at-preserved c =
    let v = c.args.self.now in
    let queries = c.args.queries.now in
    let at = c.loop-at.at in
    let d = c.index-queries-at.result in
    let within : at < length queries = (let inside = c.loop-at-test.true in omega (arith, inside)) in
    let there = slice_get-get_or queries at d within in
    let run = c.placed_run.ensures ∙ placed_run_is v queries at (get_or queries at d) c.requires there in
    let is : is_due_by v.runs c.args.moment (get_or queries at d) ≡ false = sym (c.due.ensures ∙ (λ i. is_due (c.index-queries-at.is i) (run i) c.args.moment)) ∙ c.if-due.false in
    none_due_more v.runs queries c.args.moment at (get_or queries at d) there is c.loop-at.invariant

pub returns-clause-place : goal.returns-clause-place
returns-clause-place c =
    let v = c.args.self.now in
    let queries = c.args.queries.now in
    let done = c.loop-at-test.false in
    sym (none_due_is v.runs queries c.args.moment c.loop-at.at (omega (arith, done)) c.loop-at.invariant)
