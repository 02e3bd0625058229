use Rattle.std.proofs.Common.{refl, sym, ap, arith}
use Rattle.std.proofs.lemmas.List.{append-nil}
use Rattle.session_state.specs.Inside.{kept}
use Rattle.session_state.specs.Kept.{Counts}
use Rattle.session_state.specs.Tails.{EntriesAndRoom}
use Rattle.entry_model.specs.declared.entry.Entry.TheVariants.{Acked}
use Rattle.session_state.proofs.Added.{adds}
use Rattle.session_state.proofs.state.State.acknowledge.Goals as goal

pub returns-clause-added : goal.returns-clause-added
returns-clause-added c =
    let s = kept c.self.inside in
    rw (← c.self.view_is) (adds s _ (Acked c.args.upto) refl c.self.invariant.state.image (λ K h. let acked = ap (λ (c : Counts). c.acked) h.counts in let batches = ap (λ (c : Counts). c.batches) h.counts in (omega arith, omega arith)) (record {
      counts = refl;
      image = refl;
      schedule = refl;
      ticked = refl;
      marks = sym (append-nil s.marks);
      tail = ap (λ (t : EntriesAndRoom). t.entries) c.in_ok-push.ensures.ok;
    }))
