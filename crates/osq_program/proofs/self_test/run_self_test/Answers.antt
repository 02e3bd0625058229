use Rattle.std.proofs.Common.{◌++◌, ℕ, List, ap, take, ◌∙◌, refl}
use Rattle.osq_program.proofs.SelfTests.{tested_partly, tested_whole, untested}
use Rattle.osq_program.proofs.Toldings.{line_is, tells_alone}
use Rattle.osq_program.proofs.self_test.run_self_test.Goals as goal

pub returns-in_default-clause-does : goal.returns-in_default-clause-does
returns-in_default-clause-does g c = untested _ _ (λ seen. refl) _ c.starve.ensures.same

pub returns-in-Ok-write_all-clause-does : goal.returns-in-Ok-write_all-clause-does
returns-in-Ok-write_all-clause-does g c =
    tested_whole _ _ c.in-Ok.line c.in-Ok.ensures
    (λ seen. c.in-Ok-write_all.ensures.bytes seen ∙ ap (λ (l : List ℕ). g.O.Sink.written c.args.outside.now.results ++ l) c.as_slice.ensures) (λ seen. refl)

pub returns-clause-does : goal.returns-clause-does
returns-clause-does g c =
    tested_partly _ _ c.in-Ok.line c.in-Ok.ensures
    (λ seen. let f = c.in-Err.ensures.bytes seen in (f.0, f.1 ∙ ap (λ (l : List ℕ). g.O.Sink.written c.args.outside.now.results ++ take f.0 l) c.as_slice.ensures))
    c.in-Err.ensures.cause.failed _ c.refuse.ensures.same

pub returns-in_default-clause-told : goal.returns-in_default-clause-told
returns-in_default-clause-told g c = tells_alone _ c.starve.result (λ seen. line_is _ _ _ _ c.starve.result c.starve.ensures.same (c.starve.ensures.told seen))

pub returns-clause-told : goal.returns-clause-told
returns-clause-told g c = tells_alone _ c.refuse.result c.refuse.ensures.told
