use Rattle.std.proofs.Common.{sym, subst}
use Rattle.std.proofs.lemmas.Result.{IfOk-weaker}
use Rattle.calendar_text.specs.Calendar.{IsCalendarText}
use Rattle.result_batches.proofs.Labelled.{are_lines}
use Rattle.result_batches.proofs.lines.result_lines.Goals as goal

pub returns : goal.returns
returns c =
    let batch = c.args.batch.now in
    let shown = subst (IsCalendarText batch.moment) (sym c.as_str.ensures.value) c.in_ok-calendar.ensures in
    IfOk-weaker c.lines_of.result _ _
    (λ lines is. are_lines c.args.form c.args.host.now _ _ c.args.decoration.now lines c.args.names.now _ batch shown c.in_ok-head.ensures c.in_ok-labels.ensures is)
    c.lines_of.ensures
