use Rattle.std.proofs.Common.{List, map, ap, ◌∙◌}
use Rattle.std.proofs.lemmas.Result.{on_ok_weaker}
use Rattle.osq_value.specs.declared.value.Event.{Event}
use Rattle.kept_tables.specs.declared.changes.Change.{Change}
use Rattle.kept_tables.specs.declared.parts.EventPart.{EventPart}
use Rattle.kept_tables.specs.Edits.{behind, event_groups, own}
use Rattle.kept_tables.specs.Parts.{part_text}
use Rattle.kept_tables.specs.Sealing.{event_change, with_changes}
use Rattle.kept_tables.proofs.Spelling.{events_spelled}
use Rattle.kept_tables.proofs.sealing.Sealing.add_events.Goals as goal

pub returns : goal.returns
returns c =
    let self = c.args.self.now in
    let table = c.args.table.0 in
    let moment = c.args.moment in
    let parts = c.in_ok-parts.ensures moment ∙ ap (λ (es : List Event). map part_text (event_groups (own table (behind self.counts.last moment es)))) c.as_slice.ensures in
    on_ok_weaker c.add_event_parts.result (λ made. made ∙ ap (λ (ps : List EventPart). with_changes self (map (event_change table moment) ps)) parts
    ∙ ap (λ (cs : List Change). with_changes self cs) (events_spelled table moment (event_groups (own table (behind self.counts.last moment c.args.events.now))))) c.add_event_parts.ensures
