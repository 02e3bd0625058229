-- What words ask of the program.
use Rattle.std.specs.Prelude.{◌≡◌, ◌≢◌, ◌⊎◌, ℕ, Bool, true, false, List, None, Some}
use Rattle.program_words.specs.declared.command.CollectWords.{CollectWords}
use Rattle.program_words.specs.declared.command.CommandWords.{CommandWords}
use Rattle.program_words.specs.declared.command.CommandWords.TheVariants.{Collect, Daemon, Replay}
use Rattle.program_words.specs.Commands.{forwards, sources_in, words_of}

-- the plan of one text
pub record Explain : Type 0 where
  pub text : List ℕ

-- the words are those of no command, or there are other sources than they name
abbrev pub IsMisused : List (List ℕ) → ℕ → Type 0
IsMisused words count = (words_of words ≡ None) ⊎ ((command : CommandWords) × (words_of words ≡ Some command) × (count ≢ sources_in command))

-- the words are those of a collector
abbrev pub IsCollecting : List (List ℕ) → Type 0
IsCollecting words = (collect : CollectWords) × (words_of words ≡ Some (Collect collect))

-- a session that forwards what it seals
abbrev pub is_forwarding : CommandWords → Bool
is_forwarding (Replay words) = forwards words
is_forwarding (Daemon words) = forwards words.run
is_forwarding _ = false

-- the words are those of such a session
abbrev pub IsForwarding : List (List ℕ) → Type 0
IsForwarding words = (command : CommandWords) × (words_of words ≡ Some command) × (is_forwarding command ≡ true)
