use Rattle.std.proofs.Common.{◌≡◌, take, map}
use Rattle.sql_scope.specs.Spelling.{name_text}
use Rattle.sql_scope.proofs.tables.name_texts.Given as goal

abbrev pub invariant-loop-name : goal.invariant-loop-name
invariant-loop-name l = l.texts ≡ map (name_text l.text) (take l.name-index l.names)
