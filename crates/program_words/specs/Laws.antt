-- What holds of the words of every command.
use Rattle.std.specs.Prelude.{◌≡◌, ℕ, ◌++◌, true, false, codes, List, ◌∷◌}
use Rattle.program_words.specs.declared.command.CommandName.{CommandName}
use Rattle.program_words.specs.Names.{name_of, same_name, takes}
use Rattle.program_words.specs.Given.{Given, options_of, takes_word}
use Rattle.program_words.specs.Commands.{command_with}

-- the options stand in any order: two of different names that stand side by side may change places
abbrev pub AnyOrder : Type 0
AnyOrder = (command : CommandName) (front behind : List Given) (g h : Given) → same_name g.name h.name ≡ false
    → command_with (front ++ g ∷ h ∷ behind) command ≡ command_with (front ++ h ∷ g ∷ behind) command

-- `--name=value` spells what `--name` and `value` spell, where the name takes a value
abbrev pub BothSpellings : Type 0
BothSpellings = (name value : List ℕ) (words : List (List ℕ)) → takes_word (takes (name_of name)) ≡ true
    → options_of ((codes "--" ++ (name ++ (codes "=" ++ value))) ∷ words) ≡ options_of ((codes "--" ++ name) ∷ value ∷ words)
