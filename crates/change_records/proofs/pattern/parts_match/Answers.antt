use Rattle.std.proofs.Common.{sym, ◌∙◌, ap, drop, subst, refl}
use Rattle.std.proofs.lemmas.Bool.{false≢true}
use Rattle.change_records.specs.Patterns.{MatchesParts, parts_of}
use Rattle.change_records.proofs.PathMatches.{path_stop, path_step, one_part}
use Rattle.change_records.proofs.pattern.parts_match.Goals as goal

pub returns-in_default-memchr : goal.returns-in_default-memchr
returns-in_default-memchr c =
    (λ is. absurd (false≢true is), λ m. absurd (path_stop c.loop-at.pattern.now c.loop-at.path.now c.in-Some.at c.in-Some.ensures c.in_default-memchr.ensures (c.loop-at.invariant.to m)))

pub returns-then-not-part_matches : goal.returns-then-not-part_matches
returns-then-not-part_matches c =
    let step = path_step c.loop-at.pattern.now c.loop-at.path.now c.split_at.result.0.now c.split_at-in-Some.result.0.now _ _ c.in-Some.at c.in-Some-memchr.end c.in-Some.ensures c.split_at.ensures.front refl c.in-Some-memchr.ensures c.split_at-in-Some.ensures.front refl in
    (λ is. absurd (false≢true is), λ m. c.if-not-part_matches.ensures.1 (step.1 (c.loop-at.invariant.to m)).0)

pub loop-at-preserved : goal.loop-at-preserved
loop-at-preserved c =
    let step = path_step c.loop-at.pattern.now c.loop-at.path.now c.split_at.result.0.now c.split_at-in-Some.result.0.now c.split_at-in-Some-2.result.1.now c.split_at-in-Some-3.result.1.now c.in-Some.at c.in-Some-memchr.end c.in-Some.ensures c.split_at.ensures.front (c.split_at-in-Some-2.ensures.back ∙ ap (drop 1) c.split_at.ensures.back) c.in-Some-memchr.ensures c.split_at-in-Some.ensures.front (c.split_at-in-Some-3.ensures.back ∙ ap (drop 1) c.split_at-in-Some.ensures.back) in
    record { from = λ ms. c.loop-at.invariant.from (step.0 (c.if-not-part_matches.ensures.0 refl) ms); to = λ m. (step.1 (c.loop-at.invariant.to m)).1 }

pub returns : goal.returns
returns c =
    let one = one_part c.loop-at.pattern.now c.in_default.ensures in
    let path = parts_of c.loop-at.path.now in (
      λ is. c.loop-at.invariant.from (subst (λ ps. MatchesParts ps path) (sym one) (c.last_matches.ensures.0 is)),
      λ m. c.last_matches.ensures.1 (subst (λ ps. MatchesParts ps path) one (c.loop-at.invariant.to m)),
    )
