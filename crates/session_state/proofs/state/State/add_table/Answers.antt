use Rattle.std.proofs.Common.{◌∙◌, ◌+◌, ℕ, List, refl, sym, ap, ◌∷◌, [], ◌++◌}
use Rattle.std.proofs.lemmas.List.{append-nil}
use Rattle.osq_value.specs.declared.value.Value.{Value}
use Rattle.entry_model.specs.declared.entry.Entry.TheVariants.{TableSet}
use Rattle.entry_model.specs.declared.restored.Taken.{Taken}
use Rattle.entry_model.specs.Next.{with_offset}
use Rattle.event_store.specs.Changes.{with_table}
use Rattle.session_state.specs.Inside.{kept}
use Rattle.session_state.specs.Tails.{EntriesAndRoom}
use Rattle.session_state.proofs.Added.{adds}
use Rattle.session_state.proofs.Taking.{may_set}
use Rattle.session_state.proofs.state.State.add_table.Goals as goal

pub returns-clause-added : goal.returns-clause-added
returns-clause-added c =
    let a = c.args in
    let s = kept c.self.inside in
    let counts = s.counts in
    let forwards = rw (← c.self.view_is) at c.requires.forwards in
    let offsets = c.in_ok-offsets.ensures ∙ ap (λ (taken : List Taken). with_offset taken a.source.now a.taken) c.as_slice.ensures in
    rw (← c.self.view_is) (adds s _ (TableSet a.source.now a.table a.rows a.taken) refl c.self.invariant.state.image (λ K h. may_set K s a.source.now a.table a.rows a.taken h forwards c.requires.recorded c.requires.wide) (record {
      counts = λ i. record { position = counts.position + 1; sessions = counts.sessions; moment = counts.moment; taken = offsets i; runs = counts.runs; batches = counts.batches; acked = counts.acked };
      image = c.in-Ok.ensures.set ∙ ap (λ (rows : List (List Value)). with_table s.image a.table.0 rows) c.in_ok-stored.ensures;
      schedule = refl;
      ticked = refl;
      marks = sym (append-nil s.marks);
      tail = ap (λ (t : EntriesAndRoom). t.entries) c.in_ok-push.ensures.ok ∙ ap (λ (source : List ℕ). s.tail ++ TableSet source a.table a.rows a.taken ∷ []) c.in_ok-copy.ensures;
    }))
