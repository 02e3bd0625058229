-- What a session is given by the words that ask for it.
use Rattle.std.specs.Prelude.{ℕ, List, [], ◌∷◌}
use Rattle.pack_rules.specs.declared.host.Host.{Host}
use Rattle.program_words.specs.Commands.{forwards}
use Rattle.program_words.specs.declared.command.ReplayWords.{ReplayWords}
use Rattle.osq_value.specs.declared.source.SourceName.{SourceName}
use Rattle.session_model.specs.Given.{Source}
use Rattle.daemon_rounds.specs.declared.setup.Setup.{Setup}

abbrev pub host_in : ReplayWords → Host
host_in words = record { identifier = words.host; platform = words.platform; agent = words.agent }

abbrev pub setup_in : ReplayWords → Setup
setup_in words =
    record { host = host_in words; config = words.config; sources = words.sources; ticks = words.ticks; records = words.records; forward = forwards words }

-- the sources that words name, with the bytes of each
abbrev pub sources_named : List SourceName → List (List ℕ) → List Source
sources_named (source ∷ sources) (bytes ∷ others) = record { name = source.name; kind = source.kind; bytes = bytes } ∷ sources_named sources others
sources_named _ _ = []
