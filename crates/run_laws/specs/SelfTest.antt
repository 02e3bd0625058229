-- The law of a self test.
use Rattle.std.specs.Prelude.{◌≡◌, ℕ, List}
use Rattle.program_words.specs.declared.command.GenerateWords.{GenerateWords}
use Rattle.program_words.specs.Bounds.{GenerateBounds}
use Rattle.osq_program.specs.SelfTesting.{HasTested}

-- the line is the same, whatever list the session left
abbrev pub OneLine : Type 0
OneLine = (words : GenerateWords) (one other : List ℕ) → GenerateBounds words → HasTested words one → HasTested words other → one ≡ other
