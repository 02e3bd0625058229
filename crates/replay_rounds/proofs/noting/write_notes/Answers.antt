use Rattle.replay_rounds.proofs.Noted.{noted_by}
use Rattle.replay_rounds.proofs.noting.write_notes.Goals as goal

pub returns-clause-noted : goal.returns-clause-noted
returns-clause-noted g c tells = noted_by _ _ _ _ _ c.in-Ok.lines _ c.write_lines.result c.in-Ok.ensures (c.write_lines.ensures.text tells)
