use Rattle.std.proofs.Common.{◌≡◌, ◌+◌, ap, refl, length}
use Rattle.event_store.specs.declared.segments.Segments.{Segments}
use Rattle.event_store.proofs.Found.{reach_small}
use Rattle.event_store.proofs.Stages.{added_sound, added_live}
use Rattle.event_store.proofs.segments.Segments.append.Goals as goal

pub append_events-requires-clause-counted : goal.append_events-requires-clause-counted
append_events-requires-clause-counted g c table lt = reach_small c.args.self.now c.requires.sound table lt

pub returns-clause-sound : goal.returns-clause-sound
returns-clause-sound g c =
    let s = c.args.self.now in
    let new : Segments = record { last = s.last + c.len-count.result; first = s.first; parts = c.append_events.new.parts; tail = c.append_events.new.tail } in
    let count : c.len-count.result ≡ length c.args.events = c.len-count.ensures in
    added_sound s new c.args.moment c.args.events c.requires.sound c.requires.small (ap (λ n. s.last + n) count) refl c.in_ok-append_events.ensures.ok c.in_ok-append_events.ensures.events

pub returns-clause-live : goal.returns-clause-live
returns-clause-live g c =
    let s = c.args.self.now in
    let new : Segments = record { last = s.last + c.len-count.result; first = s.first; parts = c.append_events.new.parts; tail = c.append_events.new.tail } in
    let count : c.len-count.result ≡ length c.args.events = c.len-count.ensures in
    added_live s new c.args.moment c.args.events c.requires.sound c.requires.small (ap (λ n. s.last + n) count) refl c.in_ok-append_events.ensures.ok c.in_ok-append_events.ensures.events
