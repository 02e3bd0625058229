use Rattle.std.proofs.Common.{◌≤◌, ◌∙◌, List, length, subst, sym}
use Rattle.sql_query.specs.declared.derived.Derived.{Derived}
use Rattle.sql_query.specs.Resolved.{query_of}
use Rattle.osq_program.proofs.Fleets.{refused_over, shown_by}
use Rattle.osq_program.proofs.fleet.text_shown.Goals as goal

pub asked_over-requires : goal.asked_over-requires
asked_over-requires c = record { few = subst (λ (tables : List Derived). length tables ≤ 100) (sym c.as_slice.ensures) c.in-Ok.ensures.few }

pub returns-in-Ok-rows_shown-clause-shows : goal.returns-in-Ok-rows_shown-clause-shows
returns-in-Ok-rows_shown-clause-shows c =
    shown_by c.args.frames.now c.as_slice.result.now c.args.text.now c.in-Ok-rows_shown.lines (query_of c.in-Ok-asked_over.query) (c.as_slice.ensures ∙ c.in-Ok.ensures.derived) c.in-Ok-asked_over.ensures.accepted c.in-Ok-asked_over.ensures.query c.in-Ok-rows_shown.ensures

pub returns-in-Err-clause-cause : goal.returns-in-Err-clause-cause
returns-in-Err-clause-cause c =
    refused_over c.args.frames.now c.as_slice.result.now c.args.text.now c.in-Err.status (c.as_slice.ensures ∙ c.in-Ok.ensures.derived) c.in-Err.ensures.cause
