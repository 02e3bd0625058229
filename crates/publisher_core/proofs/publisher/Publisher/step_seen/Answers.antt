use Rattle.std.proofs.Common.{List, subst, sym}
use Rattle.std.specs.List.{AllZip}
use Rattle.osq_value.specs.declared.reading.Category.{Category}
use Rattle.publisher_core.specs.Found.{IsGiven}
use Rattle.publisher_core.proofs.Giving.{as_found, steps_given}
use Rattle.publisher_core.proofs.publisher.Publisher.step_seen.Goals as goal

pub returns-in-Ok-clause-steps : goal.returns-in-Ok-clause-steps
returns-in-Ok-clause-steps g c = λ given start stream s.
    let had = as_found c.args.self.now given start stream s in
    let r = c.in-Ok.ensures.seen had.many start stream had.stands in
    let paths = sym c.take_readings.ensures.same.paths in (
      r.1,
      r.3,
      steps_given _ _ _ c.take_readings.new.self had.many given start stream r.0 r.1 c.args.most r.4
          (subst (λ (p : List Category). AllZip (IsGiven p) had.many given) paths had.each) (subst (λ (p : List Category). AllZip (IsGiven p) r.0 r.1) paths r.2),
    )

pub returns-in-Ok-clause-seen : goal.returns-in-Ok-clause-seen
returns-in-Ok-clause-seen g c = λ before start stream seen s saw.
    let r = c.in-Ok.ensures.seen before start stream s in
    (r.0, r.1, r.2, r.3, r.4, r.5 seen saw)

pub returns-in-Ok-clause-grown : goal.returns-in-Ok-clause-grown
returns-in-Ok-clause-grown g c = λ given start stream s.
    let had = as_found c.args.self.now given start stream s in
    c.in-Ok.ensures.grown had.many start stream had.stands
