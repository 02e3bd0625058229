use Rattle.std.proofs.Common.{List, subst, sym, map}
use Rattle.std.specs.List.{AllZip}
use Rattle.osq_value.specs.declared.reading.Category.{Category}
use Rattle.publisher_core.specs.declared.record.Found.TheVariants as found
use Rattle.publisher_core.specs.Found.{IsGiven}
use Rattle.publisher_core.proofs.Giving.{as_found, raws_given, steps_given}
use Rattle.publisher_core.proofs.publisher.Publisher.records.Goals as goal

pub returns-in-Ok-clause-records : goal.returns-in-Ok-clause-records
returns-in-Ok-clause-records g c = λ given start stream s pieces gains.
    let had = as_found c.args.self.now given start stream s in
    let paths = sym c.take_raws.ensures.same.paths in
    steps_given _ _ _ c.take_raws.new.self had.many given start stream (map found.Record c.in-Ok.raws) pieces c.args.max (c.in-Ok.ensures.found had.many start stream had.stands)
    (subst (λ (p : List Category). AllZip (IsGiven p) had.many given) paths had.each)
    (subst (λ (p : List Category). AllZip (IsGiven p) (map found.Record c.in-Ok.raws) pieces) paths (raws_given c.args.self.now.paths c.in-Ok.raws pieces gains))

pub returns-in-Ok-clause-grown : goal.returns-in-Ok-clause-grown
returns-in-Ok-clause-grown g c = λ given start stream s.
    let had = as_found c.args.self.now given start stream s in
    c.in-Ok.ensures.grown had.many start stream had.stands
