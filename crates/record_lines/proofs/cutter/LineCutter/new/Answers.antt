use Rattle.record_lines.proofs.Standing.{new_rest, stands_new}
use Rattle.record_lines.proofs.cutter.LineCutter.new.Goals as goal

pub returns-clause-stands : goal.returns-clause-stands
returns-clause-stands c = stands_new _ c.new.ensures.items (new_rest c.args.limit c.new-2.result c.new-2.ensures.size c.new-2.ensures.bytes)
