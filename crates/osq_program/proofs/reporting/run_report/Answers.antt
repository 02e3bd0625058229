use Rattle.std.proofs.Common.{◌++◌, ℕ, List, ap, take, ◌∙◌, refl}
use Rattle.osq_program.proofs.Reportings.{reported_partly, reported_whole, unreported}
use Rattle.osq_program.proofs.Toldings.{tells_alone}
use Rattle.osq_program.proofs.reporting.run_report.Goals as goal

pub returns-in-Err-clause-does : goal.returns-in-Err-clause-does
returns-in-Err-clause-does g c = unreported _ c.in-Err.status _ c.refuse.ensures.same c.in-Err.ensures.cause (λ seen. refl) c.told.ensures.same

pub returns-in-Ok-write_all-clause-does : goal.returns-in-Ok-write_all-clause-does
returns-in-Ok-write_all-clause-does g c =
    reported_whole _ c.in-Ok.text c.in-Ok.ensures.text
    (λ seen. c.in-Ok-write_all.ensures.bytes seen ∙ ap (λ (l : List ℕ). g.O.Sink.written c.args.outside.now.results ++ l) c.as_slice.ensures) (λ seen. refl) c.told.ensures.same

pub returns-clause-does : goal.returns-clause-does
returns-clause-does g c =
    reported_partly _ c.in-Ok.text c.in-Ok.ensures.text
    (λ seen. let f = c.in-Err-write_all.ensures.bytes seen in (f.0, f.1 ∙ ap (λ (l : List ℕ). g.O.Sink.written c.args.outside.now.results ++ take f.0 l) c.as_slice.ensures))
    c.in-Err-write_all.ensures.cause.failed c.told.ensures.same _ c.refuse-in-Err-write_all.ensures.same

pub returns-in-Err-clause-told : goal.returns-in-Err-clause-told
returns-in-Err-clause-told g c = tells_alone _ c.refuse.result c.refuse.ensures.told

pub returns-clause-told : goal.returns-clause-told
returns-clause-told g c = tells_alone _ c.refuse-in-Err-write_all.result c.refuse-in-Err-write_all.ensures.told
