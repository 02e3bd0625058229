-- Two states that stand for one list are alike.
use Rattle.std.proofs.Common.{◌≡◌, ℕ, ◌+◌, ◌==◌, true, List, [], ◌∷◌, ◌++◌, length, Some, None, refl, sym, ap, ap₂, ◌∙◌, subst}
use Rattle.std.specs.Prelude.{is_some, if◌then◌else◌}
use Rattle.entry_model.specs.declared.entry.Entry.{Entry}
use Rattle.entry_model.specs.declared.entry.Entry.TheVariants.{Opened, Configured, Ticked, Appended, TableSet, Expired, Committed, Acked}
use Rattle.entry_model.specs.declared.restored.Live.{Live}
use Rattle.entry_model.specs.Views.{is_evented_table}
use Rattle.event_store.specs.Contents.{Contents, live_at}
use Rattle.event_store.specs.Laws.{Follows}
use Rattle.event_store.specs.Owed.{owed_of}
use Rattle.event_store.specs.Queues.{above, events_of, new_events}
use Rattle.query_cursors.specs.Due as cursors
use Rattle.session_state.specs.Ticks.{first_due, first_owed, owed_at, reached_by, refusal_of}
use Rattle.shared_store.specs.Notes.{entries_in}
use Rattle.shared_store.specs.Values.{FollowsAll}
use Rattle.thread_laws.specs.Laws.{Alike}

-- two images of the same events
record SameEvents (one other : Contents) : Type 0 where
  pub last : one.last ≡ other.last
  pub live : (table : ℕ) → is_evented_table table ≡ true → live_at one table ≡ live_at other table

still_same : (one other one_next other_next : Contents) → one_next ≡ one → other_next ≡ other → SameEvents one other → SameEvents one_next other_next
still_same one other one_next other_next first second same =
    subst (λ (c : Contents). SameEvents c other_next) (sym first) (subst (SameEvents one) (sym second) same)

-- one entry changes both alike
next_same : (entry : Entry) (one other one_next other_next : Contents) → SameEvents one other → Follows entry one one_next → Follows entry other other_next → SameEvents one_next other_next
next_same (Opened session rules) one other one_next other_next same first second = still_same one other one_next other_next first second same
next_same (Configured documents schedule moment) one other one_next other_next same first second = still_same one other one_next other_next first second same
next_same (Ticked moment) one other one_next other_next same first second = still_same one other one_next other_next first second same
next_same (Committed batch) one other one_next other_next same first second = still_same one other one_next other_next first second same
next_same (Acked upto) one other one_next other_next same first second = still_same one other one_next other_next first second same
next_same (TableSet source table rows taken) one other one_next other_next same first second = record {
  last = ap (λ (c : Contents). c.last) first ∙ same.last ∙ sym (ap (λ (c : Contents). c.last) second);
  live = λ table is. ap (λ (c : Contents). live_at c table) first ∙ same.live table is ∙ sym (ap (λ (c : Contents). live_at c table) second);
}
next_same (Appended source taken events skipped moment) one other one_next other_next same first second = record {
  last = first.last ∙ ap (λ (n : ℕ). n + length events) same.last ∙ sym second.last;
  live = λ table is. first.live table is ∙ ap₂ (λ (l : List Live) (n : ℕ). l ++ events_of (new_events n moment events) table) (same.live table is) same.last ∙ sym (second.live table is);
}
next_same (Expired table floor moment) one other one_next other_next same first second = record {
  last = first.last ∙ same.last ∙ sym second.last;
  live = λ other_table is. first.live other_table ∙ ap (λ (l : List Live). if other_table == table.0 then above floor l else l) (same.live other_table is) ∙ sym (second.live other_table);
}

all_same : (entries : List Entry) (one other one_last other_last : Contents) → SameEvents one other → FollowsAll one entries one_last → FollowsAll other entries other_last → SameEvents one_last other_last
all_same [] one other one_last other_last same first second = still_same one other one_last other_last first second same
all_same (entry ∷ entries) one other one_last other_last same first second =
    all_same entries first.0 second.0 one_last other_last (next_same entry one other first.0 second.0 same first.1 second.1) first.2 second.2

pub alike : Alike
alike start notes one other base added is first second = record {
  counts = counts;
  schedule = schedule;
  ticked = ticked;
  marks = (first.stands base added is).marks ∙ sym (second.stands base added is).marks;
  tail = first.tail ∙ sym second.tail;
  last = events.last;
  live = events.live;
  due = due;
  held_back = ap₂ refusal_of due owed;
}
  where
    counts : one.counts ≡ other.counts
    counts = first.comes.counts ∙ sym second.comes.counts

    schedule : one.schedule ≡ other.schedule
    schedule = first.comes.schedule ∙ sym second.comes.schedule

    ticked : one.ticked ≡ other.ticked
    ticked = first.comes.ticked ∙ sym second.comes.ticked

    events : SameEvents one.image other.image
    events = all_same (entries_in notes) start.image start.image one.image other.image (record { last = refl; live = λ table is. refl }) first.comes.image second.comes.image

    due : first_due one ≡ first_due other
    due = λ i. if ticked i then cursors.first_due (counts i).runs (schedule i).queries (counts i).moment else None

    owed_same : (table : ℕ) → is_evented_table table ≡ true → owed_at one table ≡ owed_at other table
    owed_same table evented = λ i. if ticked i then owed_of (schedule i).events_expiry (schedule i).events_max (counts i).moment (reached_by (counts i).runs (schedule i).queries (events.last i) table) (events.live table evented i) else None

    owed : first_owed one ≡ first_owed other
    owed = λ i. if is_some (owed_same 0 refl i) then Some 0 else (if is_some (owed_same 1 refl i) then Some 1 else (if is_some (owed_same 2 refl i) then Some 2 else None))
