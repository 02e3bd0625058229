use Rattle.std.proofs.Common.{◌≡◌, ◌++◌, take}
use Rattle.std.specs.Prelude.{flat_map}
use Rattle.sql_texts.specs.TextFaults.{text_fault}
use Rattle.schedule_notes.specs.Notes.{discovery_by}
use Rattle.schedule_notes.proofs.notes.push_discovery_texts.Given as goal

abbrev pub invariant-loop-text : goal.invariant-loop-text
invariant-loop-text l = l.notes ≡ l.fn.notes ++ flat_map (λ text. discovery_by l.pack (text_fault text)) (take l.text-index l.texts)
