-- One round more.
use Rattle.std.proofs.Common.{◌≡◌, ℕ, zero, suc, List, [], ◌++◌, refl, sym, ap, ◌∙◌, subst, append_assoc}
use Rattle.std.proofs.lemmas.List.{append-nil}
use Rattle.entry_model.specs.declared.entry.Entry.{Entry}
use Rattle.session_model.specs.Given.{Given}
use Rattle.session_model.specs.Taking.{TakesSteps}
use Rattle.query_rounds.specs.Rounds.{TakesRounds}

pub rounds_more : (given : Given) (kept : List Entry) (count : ℕ) (before own : List Entry) → TakesRounds given kept count before → TakesSteps given (kept ++ before) given.sources own → TakesRounds given kept (suc count) (before ++ own)
rounds_more given kept zero before own none steps =
    let start : kept ++ before ≡ kept = ap (λ (es : List Entry). kept ++ es) none ∙ append-nil kept in
    (own, [], subst (λ (list : List Entry). TakesSteps given list given.sources own) start steps, refl, ap (λ (es : List Entry). es ++ own) none ∙ sym (append-nil own))
rounds_more given kept (suc count) before own (one, others, taken, rest, are) steps =
    let whole : kept ++ before ≡ (kept ++ one) ++ others = ap (λ (es : List Entry). kept ++ es) are ∙ sym (append_assoc kept one others) in
    let later = rounds_more given (kept ++ one) count others own rest (subst (λ (list : List Entry). TakesSteps given list given.sources own) whole steps) in
    (one, others ++ own, taken, later, ap (λ (es : List Entry). es ++ own) are ∙ append_assoc one others own)
