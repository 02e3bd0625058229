use Rattle.std.proofs.Common.{◌<◌, true, refl, arith, ap, ◌∙◌}
use Rattle.std.specs.Prelude.{◌++◌}
use Rattle.audit_records.specs.Arguments.{argument_count, shown_text}
use Rattle.audit_records.proofs.CommandLine.{adds-uncut, line-begun, line-more}
use Rattle.audit_records.proofs.arguments.short_command.Goals as goal

pub loop-place-init : goal.loop-place-init
loop-place-init c = line-begun c.args.lines.now _ c.in_ok-text.ensures.bytes

pub loop-place-preserved : goal.loop-place-preserved
loop-place-preserved c =
    let count = c.argument_count-count.ensures in
    let test = c.loop-place-test.true in
    let within : c.loop-place.place < argument_count c.args.lines.now = omega (arith, count, test) in
    let added = c.in_ok-push_shown.ensures ∙ ap (λ t. t ++ shown_text c.in-Some.field.now) c.in_ok-push_separator.ensures in
    let adds = adds-uncut c.args.lines.now c.loop-place.place c.in-Some.field.now _ _ c.in-Some.ensures added in
    line-more c.args.lines.now c.loop-place.place _ _ true within adds refl c.loop-place.invariant
