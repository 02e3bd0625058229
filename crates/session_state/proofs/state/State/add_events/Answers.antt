use Rattle.std.proofs.Common.{◌∙◌, ◌+◌, ℕ, List, refl, sym, ap, subst, ◌∷◌, [], ◌++◌}
use Rattle.std.proofs.lemmas.List.{append-nil}
use Rattle.osq_value.specs.declared.value.Event.{Event}
use Rattle.entry_model.specs.declared.entry.Entry.TheVariants.{Appended}
use Rattle.entry_model.specs.declared.restored.Taken.{Taken}
use Rattle.entry_model.specs.Next.{with_offset}
use Rattle.event_store.specs.Changes.{Appends}
use Rattle.session_state.specs.Inside.{kept}
use Rattle.session_state.specs.Tails.{EntriesAndRoom}
use Rattle.session_state.proofs.Added.{adds}
use Rattle.session_state.proofs.Taking.{may_append}
use Rattle.session_state.proofs.state.State.add_events.Goals as goal

pub returns-clause-added : goal.returns-clause-added
returns-clause-added g c =
    let a = c.args in
    let s = kept c.self.inside in
    let counts = s.counts in
    let forwards = rw (← c.self.view_is) at c.requires.forwards in
    let numbers = rw (← c.self.view_is) at c.requires.numbers in
    let offsets = c.in_ok-offsets.ensures ∙ ap (λ (taken : List Taken). with_offset taken a.source.now a.taken) c.as_slice.ensures in
    rw (← c.self.view_is) (adds s _ (Appended a.source.now a.taken a.events a.skipped counts.moment) refl c.self.invariant.state.image (λ K h. may_append K s a.source.now a.taken a.events a.skipped h forwards c.requires.events numbers) (record {
      counts = λ i. record { position = counts.position + 1; sessions = counts.sessions; moment = counts.moment; taken = offsets i; runs = counts.runs; batches = counts.batches; acked = counts.acked };
      image = subst (λ (events : List Event). Appends s.image events counts.moment c.append.new.self) c.in_ok-stored.ensures c.in-Ok.ensures.ok;
      schedule = refl;
      ticked = refl;
      marks = sym (append-nil s.marks);
      tail = ap (λ (t : EntriesAndRoom). t.entries) c.in_ok-push.ensures.ok ∙ ap (λ (source : List ℕ). s.tail ++ Appended source a.taken a.events a.skipped counts.moment ∷ []) c.in_ok-copy.ensures;
    }))
