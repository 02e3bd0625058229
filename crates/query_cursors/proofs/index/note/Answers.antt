use Rattle.std.proofs.Common.{sym, ◌∙◌}
use Rattle.query_cursors.specs.declared.index.Lent.{Lent}
use Rattle.query_cursors.proofs.Knowing.{known_then, missing}
use Rattle.query_cursors.proofs.index.note.Goals as goal

pub returns : goal.returns
returns c =
    let lent : Lent = record { key = c.args.key } in
    let none = sym c.known_place.ensures ∙ missing c.known_place.result (sym c.is_some.ensures ∙ c.if-is_some.false) in
    known_then lent c.args.place c.args.known.now c.insert.new.self c.in_ok-insert.ensures.updates none
