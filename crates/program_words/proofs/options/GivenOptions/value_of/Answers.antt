use Rattle.std.proofs.Common.{◌∙◌, ap}
use Rattle.clap.specs.Matches.{first_value, found_of}
use Rattle.clap.specs.Walk.{rows_of}
use Rattle.clap.proofs.WalkLemmas.{first_value-rows}
use Rattle.program_words.specs.Left.{options_in}
use Rattle.program_words.specs.Rules.{spelling}
use Rattle.program_words.proofs.Told.{value_told}
use Rattle.program_words.proofs.options.GivenOptions.value_of.Goals as goal

pub returns : goal.returns
returns c =
    let options = c.args.self.now in
    c.get_str.ensures ∙ ap (first_value (found_of options.matches)) c.text.ensures ∙ first_value-rows (found_of options.matches) (spelling c.args.name)
    ∙ value_told options.command (rows_of (found_of options.matches)) (options_in options) c.args.name options.told c.requires.takes
