use Rattle.std.proofs.Common.{◌∙◌, ◌++◌, ◌∷◌, [], ℕ, List, Bool, cond, take, sym, ap}
use Rattle.std.proofs.lemmas.List.{append-nil}
use Rattle.entry_model.specs.Views.{is_reader}
use Rattle.session_state.specs.Readers.{readers_from}
use Rattle.session_state.proofs.Reading.{readers_more}
use Rattle.session_state.proofs.readers.readers_of.Goals as goal
use Rattle.session_state.proofs.readers.readers_of.Goals.{then-branch+in_ok-push, else-branch}

pub loop-at-preserved : goal.loop-at-preserved
loop-at-preserved c =
    let table = c.args.table.0 in
    let queries = c.args.queries.now in
    let at = c.loop-at.at in
    let d = c.index-queries-at.result in
    let more = readers_more table queries at d c.loop-at-test.true in
    let read = sym (c.in_ok-is_reader.ensures ∙ ap (is_reader table) c.index-queries-at.is) in
    let step = λ (b : Bool). readers_from table 0 (take at queries) ++ cond b (at ∷ []) [] in
    elim c.if-branch.branch [
      | then-branch+in_ok-push w ↦
          w.places-is
          ∙ w.in_ok-push.ensures.ok
          ∙ ap (λ (places : List ℕ). places ++ at ∷ []) c.loop-at.invariant
          ∙ ap step (sym (read ∙ w.if-branch.true))
          ∙ sym more
      | else-branch w ↦
          w.places-is
          ∙ c.loop-at.invariant
          ∙ sym (append-nil (readers_from table 0 (take at queries)))
          ∙ ap step (sym (read ∙ w.if-branch.false))
          ∙ sym more
    ]
