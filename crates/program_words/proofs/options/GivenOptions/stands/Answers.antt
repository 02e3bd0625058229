use Rattle.std.proofs.Common.{◌∙◌, ap, is_some}
use Rattle.clap.specs.Matches.{found_of}
use Rattle.clap.specs.Walk.{rows_of}
use Rattle.program_words.specs.Left.{options_in}
use Rattle.program_words.proofs.Own.{copied_some, stands_told}
use Rattle.program_words.proofs.options.GivenOptions.stands.Goals as goal

pub returns : goal.returns
returns c =
    let options = c.args.self.now in
    c.is_some.ensures ∙ copied_some c.value_of.result ∙ ap is_some c.value_of.ensures
    ∙ stands_told options.command (rows_of (found_of options.matches)) (options_in options) c.args.name options.told c.requires.takes
