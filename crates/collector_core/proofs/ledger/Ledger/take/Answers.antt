use Rattle.std.proofs.Common.{List, [], ℕ, Option, ◌≡◌, ◌+◌, ◌∙◌, ap, length, refl, subst, unwrap_or}
use Rattle.std.specs.Prelude.{IsSome}
use Rattle.std.proofs.lemmas.Result.{IfErr-weaker, IfOk-weaker}
use Rattle.collector_core.specs.Ledgers.{digests_of}
use Rattle.collector_core.specs.Receipts.{receipt_of}
use Rattle.collector_core.proofs.Changed.{others_keep}
use Rattle.collector_core.proofs.ledger.Ledger.take.Goals as goal

pub returns-in-Some-clause-receipt : goal.returns-in-Some-clause-receipt
unfolding digests_of
returns-in-Some-clause-receipt c =
    let found : c.in-Some.digests.now ≡ digests_of c.args.self.now c.as_str.result.now = ap (λ (o : Option (List (List ℕ))). unwrap_or o []) c.in-Some.ensures.value in
    let was = found ∙ ap (digests_of c.args.self.now) c.as_str.ensures in
    IfOk-weaker c.take_next.result _ _ (λ receipt is. is ∙ ap (λ (digests : List (List ℕ)). receipt_of digests c.args.number c.args.digest) was) c.take_next.ensures.receipt

pub returns-in-Some-clause-others : goal.returns-in-Some-clause-others
unfolding digests_of
returns-in-Some-clause-others c = λ other apart.
    let written = c.get_mut.follows.holds c.take_next.new.digests in
    ap (λ (o : Option (List (List ℕ))). unwrap_or o [])
    (others_keep c.args.self.now.hosts (c.get_mut.follows.lender c.take_next.new.digests) c.as_str.result.now _ (written.3 (subst IsSome c.in-Some.ensures.value refl)) other (λ same. apart (same ∙ c.as_str.ensures)))

pub returns-in-Some-clause-memory : goal.returns-in-Some-clause-memory
unfolding digests_of
returns-in-Some-clause-memory c =
    let found : c.in-Some.digests.now ≡ digests_of c.args.self.now c.as_str.result.now = ap (λ (o : Option (List (List ℕ))). unwrap_or o []) c.in-Some.ensures.value in
    let was = found ∙ ap (digests_of c.args.self.now) c.as_str.ensures in
    IfErr-weaker c.take_next.result _ _ (λ error is. is ∙ ap (λ (digests : List (List ℕ)). length digests + 1) was) c.take_next.ensures.memory

pub returns-in-None-clause-memory : goal.returns-in-None-clause-memory
unfolding digests_of
returns-in-None-clause-memory c =
    let found : [] ≡ digests_of c.args.self.now c.as_str.result.now = ap (λ (o : Option (List (List ℕ))). unwrap_or o []) c.in-None.ensures.value in
    let was = found ∙ ap (digests_of c.args.self.now) c.as_str.ensures in
    IfErr-weaker c.take_first.result _ _ (λ error is. is ∙ ap (λ (digests : List (List ℕ)). length digests + 1) was) c.take_first.ensures.memory
