use Rattle.std.proofs.Common.{fold, take}
use Rattle.kept_tables.specs.Edits.{is_full}
use Rattle.kept_tables.specs.Groups.{no_groups, with_item}
use Rattle.kept_tables.specs.Parts.{AreTexts}
use Rattle.kept_tables.proofs.parts.row_texts.Given as goal

abbrev pub invariant-loop-row : goal.invariant-loop-row
invariant-loop-row l = AreTexts l.texts (fold (with_item is_full) no_groups (take l.row-index l.rows))
