use Rattle.std.proofs.Common.{◌∙◌, ap}
use Rattle.osq_value.specs.declared.source.SourceKind.{SourceKind}
use Rattle.publisher_core.specs.Readings.{readings_of}
use Rattle.publisher_core.specs.Standing.{Reader}
use Rattle.publisher_core.proofs.Stepping.{grows_readings}
use Rattle.publisher_core.proofs.publisher.Publisher.take_readings.Goals as goal

pub returns-clause-seen : goal.returns-clause-seen
returns-clause-seen g c = λ before start stream s.
    let kind = ap (λ (r : Reader). r.kind) c.self.view_is ∙ c.in-Ok.ensures.same.kind in
    let r = c.in-Ok.ensures.seen before start stream s in
    (r.0, c.in-Ok.pieces, r.1, c.in-Ok-readings_of.ensures ∙ ap (λ (k : SourceKind). readings_of k c.in-Ok.pieces) kind, r.2, r.3)

pub returns-clause-grown : goal.returns-clause-grown
returns-clause-grown g c = λ before start stream s.
    grows_readings c.args.self.now.taken c.take_records.new.self.taken _ c.in-Ok.pieces c.in-Ok-readings_of.readings (c.in-Ok.ensures.grown before start stream s) c.in-Ok-readings_of.ensures
