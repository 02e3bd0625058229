use Rattle.std.proofs.Common.{◌<◌, arith, subst, ◌∙◌}
use Rattle.std.specs.String.{string_bytes}
use Rattle.audit_records.specs.Arguments.{argument, argument_count}
use Rattle.audit_records.specs.Joins.{AddsArgument}
use Rattle.audit_records.proofs.CommandLine.{line-begun, line-more, line-stop}
use Rattle.audit_records.proofs.arguments.indexed_command.Goals as goal

pub loop-place-init : goal.loop-place-init
loop-place-init c = (line-begun c.args.lines.now _ c.new-text.ensures.bytes, c.argument_count-place-end.ensures)

pub loop-place-preserved : goal.loop-place-preserved
loop-place-preserved c =
    let within : c.loop-place.place < argument_count c.args.lines.now = omega arith in
    let adds = subst (λ ls. AddsArgument c.loop-place.place (argument c.loop-place.place ls) (string_bytes c.loop-place.text) (string_bytes c.push_argument.new.text) c.in_ok-push_argument.field-0) c.in_ok-fields.ensures c.in_ok-push_argument.ensures in
    (line-more c.args.lines.now c.loop-place.place _ _ c.in_ok-push_argument.field-0 within adds c.if-not-branch.false c.loop-place.invariant.0, c.argument_count-place-end.ensures)

pub returns-then-not-branch : goal.returns-then-not-branch
returns-then-not-branch c =
    let within : c.loop-place.place < argument_count c.args.lines.now = omega arith in
    let adds = subst (λ ls. AddsArgument c.loop-place.place (argument c.loop-place.place ls) (string_bytes c.loop-place.text) (string_bytes c.push_argument.new.text) c.in_ok-push_argument.field-0) c.in_ok-fields.ensures c.in_ok-push_argument.ensures in
    c.from_string.ensures ∙ line-stop c.args.lines.now c.loop-place.place _ _ c.in_ok-push_argument.field-0 within adds c.if-not-branch.true c.loop-place.invariant.0
