use Rattle.std.proofs.Common.{◌++◌, ℕ, List, ap, take, ◌∙◌, refl}
use Rattle.sql_query.specs.Resolved.{query_of}
use Rattle.osq_program.proofs.Explainings.{explained_partly, explained_whole, plan_shown, unexplained}
use Rattle.osq_program.specs.declared.status.Status.TheVariants.{SinkFault}
use Rattle.osq_program.proofs.Toldings.{as_plain, refused_cause, tells_alone}
use Rattle.osq_program.proofs.explain.run_explain.Goals as goal

pub returns-in-Err-clause-does : goal.returns-in-Err-clause-does
returns-in-Err-clause-does g c = unexplained _ _ c.refuse.result _ refl (refused_cause _ c.in-Err.status c.refuse.result c.refuse.ensures.same c.in-Err.ensures.cause) (λ seen. refl)

pub returns-in-Ok-write_all-clause-does : goal.returns-in-Ok-write_all-clause-does
returns-in-Ok-write_all-clause-does g c =
    explained_whole _ _ c.in-Ok-shown.shown (plan_shown _ (query_of c.in-Ok.query) c.in-Ok-shown.shown c.in-Ok.ensures.accepted c.in-Ok.ensures.query c.in-Ok-shown.ensures)
    (λ seen. c.in-Ok-write_all.ensures.bytes seen ∙ ap (λ (l : List ℕ). g.O.Sink.written c.args.outside.now.results ++ l) c.as_slice.ensures) (λ seen. refl)

pub returns-clause-does : goal.returns-clause-does
returns-clause-does g c =
    explained_partly _ _ c.in-Ok-shown.shown (plan_shown _ (query_of c.in-Ok.query) c.in-Ok-shown.shown c.in-Ok.ensures.accepted c.in-Ok.ensures.query c.in-Ok-shown.ensures)
    (λ seen. let f = c.in-Err-write_all.ensures.bytes seen in (f.0, f.1 ∙ ap (λ (l : List ℕ). g.O.Sink.written c.args.outside.now.results ++ take f.0 l) c.as_slice.ensures))
    c.in-Err-write_all.ensures.cause.failed _ (as_plain SinkFault _ (λ none. none) c.refuse-in-Err-write_all.ensures.same)

pub returns-in-Err-clause-told : goal.returns-in-Err-clause-told
returns-in-Err-clause-told g c = tells_alone _ c.refuse.result c.refuse.ensures.told

pub returns-clause-told : goal.returns-clause-told
returns-clause-told g c = tells_alone _ c.refuse-in-Err-write_all.result c.refuse-in-Err-write_all.ensures.told
