use Rattle.std.proofs.Common.{◌≡◌, List, map, take, fold, IfOk, refl, sym, subst, arith}
use Rattle.std.proofs.lemmas.List.{take_all}
use Rattle.osq_value.specs.declared.value.Event.{Event}
use Rattle.kept_tables.specs.Edits.{behind, own}
use Rattle.kept_tables.specs.Groups.{all_groups, no_groups, with_item}
use Rattle.kept_tables.specs.Parts.{AreEventTexts, full_events, part_text}
use Rattle.kept_tables.proofs.Texts.{grown_at, held_at, new_event}
use Rattle.kept_tables.proofs.parts.event_parts.Goals as goal

pub loop-event-preserved : goal.loop-event-preserved
loop-event-preserved c =
    let i = c.loop-event.event-index in
    let events = c.args.events.now in
    let event = c.event-item.result in
    let at = c.loop-event.invariant.number in
    let more = c.in_ok-number.ensures in
    record {
      number = omega (arith, at, more);
      texts = λ moment.
          subst (AreEventTexts c.in_ok-texts.texts) (sym (grown_at c.args.table c.args.before moment events i event c.loop-event-test.true c.event-item.is))
          (c.in_ok-texts.ensures (held_at c.args.table c.args.before moment i events) (new_event c.args.before moment i event) (omega (arith, at, more)) refl (c.loop-event.invariant.texts moment));
    }

pub returns : goal.returns
returns c = λ moment.
    let events = c.args.events.now in
    let i = c.loop-event.event-index in
    let whole : take i events ≡ events = take_all i events (omega (arith, c.loop-event-test.false)) in
    subst (λ (es : List Event). IfOk c.close.result (λ parts. parts ≡ map part_text (all_groups (fold (with_item full_events) no_groups (own c.args.table (behind c.args.before moment es)))))) whole
    (c.close.ensures (held_at c.args.table c.args.before moment i events) (c.loop-event.invariant.texts moment))
