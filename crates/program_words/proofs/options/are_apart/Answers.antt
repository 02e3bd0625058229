use Rattle.std.proofs.Common.{◌∙◌, ap, arith, drop_of_length-le, sym}
use Rattle.std.specs.HashSet.{contains}
use Rattle.std.specs.List.{list_any}
use Rattle.program_words.specs.Reading.{are_apart}
use Rattle.program_words.proofs.Apart.{apart_step, found_step, none_seen, same_text, unseen_apart}
use Rattle.program_words.proofs.options.are_apart.Goals as goal

pub loop-text-init : goal.loop-text-init
loop-text-init c = none_seen (contains same_text c.new-seen.result) c.args.texts.now (λ text. ap (list_any (same_text text)) c.new-seen.ensures.empty)

pub loop-text-preserved : goal.loop-text-preserved
loop-text-preserved c =
    apart_step (contains same_text c.loop-text.seen) c.args.texts.now c.loop-text.text-index _ (omega (arith, c.loop-text-test.true)) (contains same_text c.insert.new.self)
    c.in_ok-insert.ensures.updates.0 (sym c.if-not-branch.false ∙ c.in_ok-insert.ensures.added)
    ∙ c.loop-text.invariant

pub returns : goal.returns
unfolding are_apart
returns c =
    let past = drop_of_length-le c.args.texts.now {i = c.loop-text.text-index} (omega (arith, c.loop-text-test.false)) in
    ap (unseen_apart (contains same_text c.loop-text.seen)) (sym past) ∙ c.loop-text.invariant

pub returns-then-not-branch : goal.returns-then-not-branch
returns-then-not-branch c =
    found_step (contains same_text c.loop-text.seen) c.args.texts.now c.loop-text.text-index _ (omega (arith, c.loop-text-test.true)) (sym c.if-not-branch.true ∙ c.in_ok-insert.ensures.added) ∙ c.loop-text.invariant
