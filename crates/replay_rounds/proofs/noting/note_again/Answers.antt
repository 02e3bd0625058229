use Rattle.std.proofs.Common.{List, length, ap, ◌∙◌, subst}
use Rattle.std.specs.Prelude.{Bool, OnOk}
use Rattle.std.proofs.lemmas.List.{length-map}
use Rattle.replay_rounds.specs.Noting.{IsNoted}
use Rattle.replay_rounds.proofs.noting.note_again.Goals as goal

pub write_notes-requires : goal.write_notes-requires
write_notes-requires g c =
    ap (λ (found : List Bool). length found) (c.as_slice.ensures.value ∙ c.in-Ok.ensures) ∙ length-map c.args.basis.now.configured.config.packs _

pub returns-clause-noted : goal.returns-clause-noted
returns-clause-noted g c tells =
    subst (λ (found : List Bool). OnOk c.write_notes.result (IsNoted c.args.basis.now.configured.config c.args.basis.now.setup.host found c.args.basis.now.configured.notes (g.O.Sink.written c.args.status.now) (g.O.Sink.written c.write_notes.new.status))) (c.as_slice.ensures.value ∙ c.in-Ok.ensures) (c.write_notes.ensures.noted tells)
