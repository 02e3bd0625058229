use Rattle.std.proofs.Common.{◌∙◌, ◌≡◌, Some, refl, sym, ap}
use Rattle.std.proofs.lemmas.List.{append-nil}
use Rattle.entry_model.specs.declared.entry.Entry.TheVariants.{Expired}
use Rattle.session_state.specs.Inside.{kept}
use Rattle.session_state.specs.Kept.{Kept}
use Rattle.session_state.specs.Ticks.{owed_at}
use Rattle.session_state.proofs.Added.{adds}
use Rattle.session_state.proofs.Dues.{may_expire}
use Rattle.session_state.proofs.Expiring.{owed_adds}
use Rattle.session_state.proofs.state.State.expire_table.Goals as goal

pub returns-clause-expired : goal.returns-clause-expired
returns-clause-expired c =
    let table = c.args.table in
    let floor = c.in-Some.floor in
    let s = kept c.self.inside in
    let owed : owed_at s table.0 ≡ Some floor = ap (λ (s : Kept). owed_at s table.0) c.self.view_is ∙ sym c.in-Some.ensures.owed in
    rw (← c.self.view_is) (owed_adds s _ table.0 floor owed (adds s _ (Expired table floor s.counts.moment) refl c.self.invariant.state.image (λ K h. may_expire K s table.0 floor h c.requires.evented owed) (record {
      counts = refl;
      image = c.expire.ensures;
      schedule = refl;
      ticked = refl;
      marks = sym (append-nil s.marks);
      tail = c.put.ensures.entries;
    })))
