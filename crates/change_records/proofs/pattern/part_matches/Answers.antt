use Rattle.std.proofs.Common.{ap, ◌∙◌, sym, subst, drop}
use Rattle.std.proofs.lemmas.Bool.{false≢true}
use Rattle.std.proofs.lemmas.Slice.Eq.{bytes_eq-Decides}
use Rattle.change_records.specs.Patterns.{MatchesPart}
use Rattle.change_records.proofs.PartMatches.{none-found, plain-match, match-plain, front_step, front_stop}
use Rattle.change_records.proofs.pattern.part_matches.Goals as goal

pub returns-in_default : goal.returns-in_default
returns-in_default c =
    let none = none-found 37 c.args.pattern.now c.in_default.ensures in
    let same = bytes_eq-Decides c.args.pattern.now c.args.part.now in (
      λ is. subst (MatchesPart c.args.pattern.now) (same.0 (sym c.eq.ensures ∙ is)) (plain-match c.args.pattern.now none),
      λ m. c.eq.ensures ∙ same.1 (sym (match-plain c.args.pattern.now c.args.part.now none m)),
    )

pub returns-in-Some-behind : goal.returns-in-Some-behind
returns-in-Some-behind c =
    let step = front_step c.args.pattern.now c.args.part.now c.split_at.result.0.now c.split_at-2.result.1.now c.in-Some-behind.rest.now c.in-Some.at c.in-Some.ensures c.split_at.ensures.front (c.split_at-2.ensures.back ∙ ap (drop 1) c.split_at.ensures.back) c.in-Some-behind.ensures in
    (λ is. step.0 (c.matches_behind_run.ensures.0 is), λ m. c.matches_behind_run.ensures.1 (step.1 m))

pub returns-in-None : goal.returns-in-None
returns-in-None c = (
  λ is. absurd (false≢true is),
  λ m. absurd (front_stop c.args.pattern.now c.args.part.now c.split_at.result.0.now c.in-Some.at c.in-Some.ensures c.split_at.ensures.front c.in-None.ensures m),
)
