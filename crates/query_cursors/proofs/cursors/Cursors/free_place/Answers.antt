use Rattle.std.proofs.Common.{◌≡◌, ◌<◌, ℕ, Bool, true, false, Some, length, get_or, sym, ap, ◌∙◌, arith}
use Rattle.std.specs.Prelude.{slice_get}
use Rattle.std.proofs.lemmas.Option.{slice_get-get_or}
use Rattle.query_cursors.specs.Due.{is_due, is_due_by}
use Rattle.query_cursors.proofs.Placing.{placed_run_is}
use Rattle.query_cursors.proofs.Seeking.{first_free_is, none_free_is, none_free_more, get_or_is}
use Rattle.query_cursors.proofs.cursors.Cursors.free_place.Goals as goal
use Rattle.query_cursors.proofs.cursors.Cursors.free_place.Goals.{else-not-claimed-at-via-then-not-claimed-at+else-due, else-not-claimed-at-via-else-not-claimed-at}

pub returns-then-due-clause-place : goal.returns-then-due-clause-place
returns-then-due-clause-place c =
    let v = c.args.self.now in
    let queries = c.args.queries.now in
    let claimed = c.args.claimed.now in
    let at = c.loop-at.at in
    let d = c.index-queries-at.result in
    let within : at < length queries = (let inside = c.loop-at-test.true in omega (arith, inside)) in
    let there = slice_get-get_or queries at d within in
    let run = c.placed_run.ensures ∙ placed_run_is v queries at (get_or queries at d) c.requires.places there in
    let is : is_due_by v.runs c.args.moment (get_or queries at d) ≡ true = sym (c.due.ensures ∙ (λ i. is_due (c.index-queries-at.is i) (run i) c.args.moment)) ∙ c.if-due.true in
    let unclaimed : slice_get claimed at ≡ Some false = slice_get-get_or claimed at false (let long = c.requires.claims in omega (arith, within, long)) ∙ ap (λ (b : Bool). Some b) c.if-not-claimed-at.true in
    sym (first_free_is v.runs queries c.args.moment claimed at (get_or queries at d) there unclaimed is c.loop-at.invariant)

pub loop-at-preserved : goal.loop-at-preserved
loop-at-preserved c =
    let v = c.args.self.now in
    let queries = c.args.queries.now in
    let claimed = c.args.claimed.now in
    let at = c.loop-at.at in
    none_free_more v.runs queries c.args.moment claimed at c.loop-at.invariant (λ scheduled there unclaimed. elim c.else-not-claimed-at.branch [
      | else-not-claimed-at-via-then-not-claimed-at+else-due w ↦
          (let query = w.index-queries-at.is ∙ get_or_is queries at scheduled w.index-queries-at.result there in
          let run = w.placed_run.ensures ∙ placed_run_is v queries at scheduled c.requires.places there in
          sym (w.due.ensures ∙ (λ i. is_due (query i) (run i) c.args.moment)) ∙ w.if-due.false)
      | else-not-claimed-at-via-else-not-claimed-at w ↦ absurd (let k : false ≡ true = sym unclaimed ∙ w.if-not-claimed-at.false in cc)
    ])

pub returns-clause-place : goal.returns-clause-place
returns-clause-place c =
    let v = c.args.self.now in
    let queries = c.args.queries.now in
    let done = c.loop-at-test.false in
    sym (none_free_is v.runs queries c.args.moment c.args.claimed.now c.loop-at.at (omega (arith, done)) c.loop-at.invariant)
