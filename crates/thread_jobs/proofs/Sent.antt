-- What of a store may go to another thread, or be seen by one. A query's text holds trees, of which a search doesn't see the end by itself.
use denote.Param.Send.{IsSend, IsSync, sendable}
use Rattle.sql_texts.below.arrayvec.proofs.array_string.ArrayString.TheSendSync as arraystring
use Rattle.sql_texts.below.arrayvec.proofs.cells.Cells.TheSendSync as cells
use Rattle.sql_texts.below.sql_tree.proofs.functions.Fold.TheSendSync as fold
use Rattle.sql_texts.below.sql_tree.proofs.functions.Function.TheSendSync as function
use Rattle.sql_texts.below.sql_tree.proofs.tree.Operator.TheSendSync as operator
use Rattle.entry_model.proofs.restored.Live.TheSendSync as live
use Rattle.entry_model.proofs.restored.SetTable.TheSendSync as settable
use Rattle.entry_model.proofs.restored.Taken.TheSendSync as taken
use Rattle.event_store.proofs.events.Events.TheSendSync as events
use Rattle.event_store.proofs.image.Image.TheSendSync as image
use Rattle.event_store.proofs.parted.PartedRows.TheSendSync as partedrows
use Rattle.event_store.proofs.queue.EventQueue.TheSendSync as eventqueue
use Rattle.event_store.proofs.segment.Segment.TheSendSync as segment
use Rattle.event_store.proofs.segment.SharedSegment.TheSendSync as sharedsegment
use Rattle.event_store.proofs.segments.Segments.TheSendSync as segments
use Rattle.event_store.proofs.shared.SharedRows.TheSendSync as sharedrows
use Rattle.event_store.proofs.shown.Held.TheSendSync as held
use Rattle.event_store.proofs.shown.ShownRows.TheSendSync as shownrows
use Rattle.event_store.proofs.slice.EventSlice.TheSendSync as eventslice
use Rattle.event_store.proofs.slice.SharedEvents.TheSendSync as sharedevents
use Rattle.event_store.proofs.view.CutView.TheSendSync as cutview
use Rattle.osq_value.proofs.catalogue.Affinity.TheSendSync as affinity
use Rattle.osq_value.proofs.rows.Row.TheSendSync as row
use Rattle.osq_value.proofs.rows.Values.TheSendSync as values
use Rattle.osq_value.proofs.sequence.Sequence.TheSendSync as sequence
use Rattle.osq_value.proofs.text.Held.TheSendSync as text_held
use Rattle.osq_value.proofs.text.Str.TheSendSync as str
use Rattle.osq_value.proofs.value.Event.TheSendSync as event
use Rattle.osq_value.proofs.value.TableId.TheSendSync as tableid
use Rattle.osq_value.proofs.value.Value.TheSendSync as value
use Rattle.pack_rules.proofs.schedule.Form.TheSendSync as form
use Rattle.pack_rules.proofs.schedule.Mode.TheSendSync as mode
use Rattle.session_state.proofs.listed.Listed.TheSendSync as listed
use Rattle.session_state.proofs.readers.Readers.TheSendSync as readers
use Rattle.session_state.proofs.slices.Slices.TheSendSync as slices
use Rattle.shared_store.below.atomic_table.proofs.owned.Table.TheSendSync as table
use Rattle.shared_store.below.atomic_table.proofs.send_lease.SendLease.TheSendSync as sendlease
use Rattle.shared_store.below.atomic_table.proofs.shared.Seat.TheSendSync as seat
use Rattle.shared_store.below.atomic_table.proofs.shared.Shared.TheSendSync as shared
use Rattle.source_feeds.proofs.feed.Feed.TheSendSync as feed
use Rattle.sql_query.proofs.query.SourceColumn.TheSendSync as sourcecolumn
use Rattle.std.below.std_collections.proofs.linked_list.nodes.Nodes.TheSendSync as nodes
use Rattle.std.proofs.alloc.Global.TheSendSync as global
use Rattle.std.proofs.boxed.Box.TheSendSync as box
use Rattle.std.proofs.collections.LinkedList.TheSendSync as linkedlist
use Rattle.std.proofs.marker.PhantomData.TheSendSync as phantomdata
use Rattle.std.proofs.option.Option.TheSendSync as option
use Rattle.std.proofs.result.Result.TheSendSync as result
use Rattle.std.proofs.rt.Memory.TheSendSync as memory
use Rattle.std.proofs.string.String.TheSendSync as string
use Rattle.std.proofs.sync.Arc.TheSendSync as arc
use Rattle.std.proofs.sync.atomic.AtomicU64.TheSendSync as atomicu64
use Rattle.std.proofs.vec.Vec.TheSendSync as vec
use Rattle.thread_jobs.proofs.error.JobError.TheSendSync as joberror
use Rattle.thread_jobs.proofs.forking.Terms.TheSendSync as terms
use Rattle.turn_lock.proofs.board.Law.TheSendSync as law
use Rattle.turn_lock.proofs.board.Phase.TheSendSync as phase
use Rattle.turn_lock.proofs.board.View.TheSendSync as view
use Rattle.turn_lock.proofs.lock.TurnLock.TheSendSync as turnlock
use Rattle.turn_lock.proofs.lock.TurnSeat.TheSendSync as turnseat
use Rattle.turn_lock.proofs.waiting.Sleepers.TheSendSync as sleepers
use Rattle.std.proofs.Crossing
use Rattle.sql_query.proofs.tree.Expr.TheLaws.TheKnot
use Rattle.sql_texts.specs.contracts.query_text.QueryText as QueryText
use Rattle.pack_rules.specs.contracts.schedule.QueryKey as QueryKey
use Rattle.pack_rules.specs.contracts.schedule.Scheduled as Scheduled
use Rattle.pack_rules.specs.contracts.schedule.Schedule as Schedule
use Rattle.entry_model.specs.contracts.entry.Batch as Batch
use Rattle.entry_model.specs.contracts.entry.Entry as Entry
use Rattle.entry_model.specs.contracts.restored.Run as Run
use Rattle.entry_model.specs.contracts.reserved.ReservedRuns as ReservedRuns
use Rattle.query_cursors.specs.contracts.cursors.Cursors as Cursors
use Rattle.session_state.specs.contracts.tail.Tail as Tail
use Rattle.session_state.specs.contracts.state.State as State
use Rattle.shared_store.specs.contracts.shared.Shared as Shared
use Rattle.shared_store.specs.contracts.store.Store as Store
use Rattle.thread_jobs.specs.contracts.forking.Job as Job

-- the parts of a text's trees
ruleset of_trees = (option.the_field_send, option.the_send, option.the_field_sync, option.the_sync, affinity.the_field_send, affinity.the_send, affinity.the_field_sync, affinity.the_sync, sequence.the_send, sequence.the_sync, str.the_send, str.the_sync, tableid.the_field_send, tableid.the_field_sync, value.the_field_send, value.the_field_sync, fold.the_field_send, fold.the_field_sync, function.the_field_send, function.the_field_sync, operator.the_field_send, operator.the_field_sync, sourcecolumn.the_send, sourcecolumn.the_sync, box.the_send, box.the_sync, vec.the_send)

pub text_send : IsSend QueryText.the_row
text_send = search (of_trees, arc.the_send, Crossing.crosses, TheKnot.crosses, sendable) depth 60 fits 20000

pub text_sync : IsSync QueryText.the_row
text_sync = search (of_trees, arc.the_sync, Crossing.crosses, TheKnot.crosses, sendable) depth 60 fits 20000

pub key_send : IsSend QueryKey.the_row
key_send = search (str.the_send, text_send, sendable) depth 24

pub key_sync : IsSync QueryKey.the_row
key_sync = search (str.the_sync, text_sync, sendable) depth 24

pub key_field_send : IsSend (QueryKey.the_field).row
key_field_send = search (key_send, str.the_send, text_send, sendable) depth 24

-- the parts of a store, of which keys are one
pub ruleset of_stores = (arraystring.the_send, arraystring.the_sync, cells.the_field_send, cells.the_field_sync, cells.the_send, cells.the_sync, fold.the_field_send, fold.the_field_sync, fold.the_send, fold.the_sync, function.the_field_send, function.the_field_sync, function.the_send, function.the_sync, operator.the_field_send, operator.the_field_sync, operator.the_send, operator.the_sync, live.the_field_send, live.the_field_sync, live.the_send, live.the_sync, settable.the_field_send, settable.the_field_sync, settable.the_send, settable.the_sync, taken.the_field_send, taken.the_field_sync, taken.the_send, taken.the_sync, events.the_send, events.the_sync, image.the_send, image.the_sync, partedrows.the_send, partedrows.the_sync, eventqueue.the_send, eventqueue.the_sync, segment.the_field_send, segment.the_field_sync, segment.the_send, segment.the_sync, sharedsegment.the_send, sharedsegment.the_sync, segments.the_field_send, segments.the_field_sync, segments.the_send, segments.the_sync, sharedrows.the_send, sharedrows.the_sync, held.the_field_send, held.the_field_sync, held.the_send, held.the_sync, shownrows.the_send, shownrows.the_sync, eventslice.the_field_send, eventslice.the_field_sync, eventslice.the_send, eventslice.the_sync, sharedevents.the_send, sharedevents.the_sync, cutview.the_send, cutview.the_sync, affinity.the_field_send, affinity.the_field_sync, affinity.the_send, affinity.the_sync, row.the_send, row.the_sync, values.the_field_send, values.the_field_sync, values.the_send, values.the_sync, sequence.the_send, sequence.the_sync, text_held.the_field_send, text_held.the_field_sync, text_held.the_send, text_held.the_sync, str.the_send, str.the_sync, event.the_field_send, event.the_field_sync, event.the_send, event.the_sync, tableid.the_field_send, tableid.the_field_sync, tableid.the_send, tableid.the_sync, value.the_field_send, value.the_field_sync, value.the_send, value.the_sync, form.the_field_send, form.the_field_sync, form.the_send, form.the_sync, mode.the_field_send, mode.the_field_sync, mode.the_send, mode.the_sync, listed.the_send, listed.the_sync, readers.the_send, readers.the_sync, slices.the_send, slices.the_sync, table.the_field_send, table.the_field_sync, table.the_send, table.the_sync, sendlease.the_send, sendlease.the_sync, seat.the_send, shared.the_send, shared.the_sync, sourcecolumn.the_field_send, sourcecolumn.the_field_sync, sourcecolumn.the_send, sourcecolumn.the_sync, nodes.the_send, nodes.the_sync, global.the_field_send, global.the_field_sync, global.the_send, global.the_sync, box.the_send, box.the_sync, linkedlist.the_send, linkedlist.the_sync, phantomdata.the_field_send, phantomdata.the_field_sync, phantomdata.the_send, phantomdata.the_sync, option.the_field_send, option.the_field_sync, option.the_send, option.the_sync, memory.the_field_send, memory.the_field_sync, memory.the_send, memory.the_sync, string.the_field_send, string.the_field_sync, string.the_send, string.the_sync, arc.the_send, arc.the_sync, atomicu64.the_send, atomicu64.the_sync, vec.the_send, vec.the_sync, law.the_field_send, law.the_field_sync, law.the_send, law.the_sync, phase.the_field_send, phase.the_field_sync, phase.the_send, phase.the_sync, view.the_field_send, view.the_field_sync, view.the_send, view.the_sync, turnlock.the_field_send, turnlock.the_field_sync, turnlock.the_send, turnlock.the_sync, turnseat.the_field_send, turnseat.the_send, sleepers.the_field_send, sleepers.the_field_sync, sleepers.the_send, sleepers.the_sync, key_send, key_sync)

pub scheduled_send : IsSend Scheduled.the_row
scheduled_send = search (key_send, key_field_send, Crossing.crosses, sendable) depth 60 fits 20000

pub scheduled_field_send : IsSend (Scheduled.the_field).row
scheduled_field_send = search (scheduled_send, key_send, key_field_send, Crossing.crosses, sendable) depth 60 fits 20000

pub schedule_send : IsSend Schedule.the_row
schedule_send = search (scheduled_send, scheduled_field_send, sequence.the_send, form.the_field_send, form.the_send, Crossing.crosses, sendable) depth 60 fits 20000

pub schedule_field_send : IsSend (Schedule.the_field).row
schedule_field_send = search (schedule_send, scheduled_send, scheduled_field_send, sequence.the_send, form.the_field_send, form.the_send, Crossing.crosses, sendable) depth 60 fits 20000

pub batch_send : IsSend Batch.the_row
batch_send = search (key_send, key_field_send, sequence.the_send, row.the_send, values.the_field_send, values.the_send, global.the_field_send, global.the_send, vec.the_send, Crossing.crosses, sendable) depth 60 fits 20000

pub batch_field_send : IsSend (Batch.the_field).row
batch_field_send = search (batch_send, key_send, key_field_send, sequence.the_send, row.the_send, values.the_field_send, values.the_send, global.the_field_send, global.the_send, vec.the_send, Crossing.crosses, sendable) depth 60 fits 20000

pub entry_send : IsSend Entry.the_row
entry_send = search (schedule_send, schedule_field_send, batch_send, batch_field_send, sequence.the_send, str.the_send, event.the_field_send, event.the_send, row.the_send, values.the_field_send, values.the_send, tableid.the_field_send, tableid.the_send, global.the_field_send, global.the_send, vec.the_send, Crossing.crosses, sendable) depth 60 fits 20000

pub entry_field_send : IsSend (Entry.the_field).row
entry_field_send = search (entry_send, schedule_send, schedule_field_send, batch_send, batch_field_send, sequence.the_send, str.the_send, event.the_field_send, event.the_send, row.the_send, values.the_field_send, values.the_send, tableid.the_field_send, tableid.the_send, global.the_field_send, global.the_send, vec.the_send, Crossing.crosses, sendable) depth 60 fits 20000

pub run_send : IsSend Run.the_row
run_send = search (key_send, key_field_send, Crossing.crosses, sendable) depth 60 fits 20000

pub run_field_send : IsSend (Run.the_field).row
run_field_send = search (run_send, key_send, key_field_send, Crossing.crosses, sendable) depth 60 fits 20000

pub runs_send : IsSend ReservedRuns.the_row
runs_send = search (run_send, run_field_send, sequence.the_send, vec.the_send, global.the_field_send, global.the_send, option.the_field_send, option.the_send, Crossing.crosses, sendable) depth 60 fits 20000

pub runs_field_send : IsSend (ReservedRuns.the_field).row
runs_field_send = search (runs_send, run_send, run_field_send, sequence.the_send, vec.the_send, global.the_field_send, global.the_send, option.the_field_send, option.the_send, Crossing.crosses, sendable) depth 60 fits 20000

pub cursors_send : IsSend Cursors.the_row
cursors_send = search (runs_send, runs_field_send, vec.the_send, global.the_field_send, global.the_send, option.the_field_send, option.the_send, Crossing.crosses, sendable) depth 60 fits 20000

pub cursors_field_send : IsSend (Cursors.the_field).row
cursors_field_send = search (cursors_send, runs_send, runs_field_send, vec.the_send, global.the_field_send, global.the_send, option.the_field_send, option.the_send, Crossing.crosses, sendable) depth 60 fits 20000

pub tail_send : IsSend Tail.the_row
tail_send = search (entry_send, entry_field_send, vec.the_send, global.the_field_send, global.the_send, Crossing.crosses, sendable) depth 60 fits 20000

pub tail_field_send : IsSend (Tail.the_field).row
tail_field_send = search (tail_send, entry_send, entry_field_send, vec.the_send, global.the_field_send, global.the_send, Crossing.crosses, sendable) depth 60 fits 20000

pub state_send : IsSend State.the_row
state_send = search (cursors_send, cursors_field_send, schedule_send, schedule_field_send, tail_send, tail_field_send, sequence.the_send, taken.the_field_send, taken.the_send, image.the_send, vec.the_send, global.the_field_send, global.the_send, listed.the_send, readers.the_send, slices.the_send, Crossing.crosses, sendable) depth 60 fits 20000

pub state_field_send : IsSend (State.the_field).row
state_field_send = search (state_send, cursors_send, cursors_field_send, schedule_send, schedule_field_send, tail_send, tail_field_send, sequence.the_send, taken.the_field_send, taken.the_send, image.the_send, vec.the_send, global.the_field_send, global.the_send, listed.the_send, readers.the_send, slices.the_send, Crossing.crosses, sendable) depth 60 fits 20000

pub shared_send : IsSend Shared.the_row
shared_send = search (state_send, state_field_send, Crossing.crosses, sendable) depth 60 fits 20000

pub shared_field_send : IsSend (Shared.the_field).row
shared_field_send = search (shared_send, state_send, state_field_send, Crossing.crosses, sendable) depth 60 fits 20000

pub store_sync : IsSync Store.the_row
store_sync = search (of_stores, shared_send, Crossing.crosses, sendable) depth 60 fits 20000

pub store_field_sync : IsSync (Store.the_field).row
store_field_sync = search (of_stores, shared_send, store_sync, Crossing.crosses, sendable) depth 60 fits 20000

pub job_send : IsSend Job.the_row
job_send = search (turnseat.the_field_send, turnseat.the_send, seat.the_send, shared_send, result.the_field_send, result.the_send, joberror.the_field_send, joberror.the_send, Crossing.crosses, sendable) depth 60 fits 20000

pub job_field_send : IsSend (Job.the_field).row
job_field_send = search (job_send, turnseat.the_field_send, turnseat.the_send, seat.the_send, shared_send, result.the_field_send, result.the_send, joberror.the_field_send, joberror.the_send, Crossing.crosses, sendable) depth 60 fits 20000

-- what a thread's work holds: a store and terms that are lent, jobs, and feeds
pub ruleset of_work = (store_field_sync, store_sync, terms.the_field_sync, terms.the_sync, global.the_field_sync, global.the_sync, job_field_send, job_send, feed.the_send)
