use Rattle.std.proofs.Common.{List, ℕ, subst}
use Rattle.std.specs.Prelude.{IfOk}
use Rattle.schedule_notes.specs.Notes.{AreNotes}
use Rattle.replay_rounds.proofs.noting.notes_by.Goals as goal

pub returns : goal.returns
returns c =
    subst (λ (left_out : List ℕ). IfOk c.schedule_notes.result (AreNotes c.args.basis.now.configured.config c.args.basis.now.setup.host c.args.found.now left_out)) c.as_slice-left_out.ensures c.schedule_notes.ensures
