use Rattle.std.proofs.Common.{◌≡◌, drop}
use Rattle.clap.specs.Words.{app_of}
use Rattle.program_words.specs.Rules.{with_options}
use Rattle.program_words.proofs.options.with_options.Given as goal

abbrev pub invariant-loop-name : goal.invariant-loop-name
invariant-loop-name l =
    with_options (app_of l.command) l.required (drop l.name-index l.names) ≡ with_options (app_of l.initial.command) l.required l.names
