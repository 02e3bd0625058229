use Rattle.std.proofs.Common.{◌∙◌, ap}
use Rattle.clap.specs.Matches.{found_of, one_text}
use Rattle.clap.proofs.WalkLemmas.{one_text-rows}
use Rattle.program_words.specs.Given.{stands}
use Rattle.program_words.specs.Left.{options_in}
use Rattle.program_words.specs.Rules.{spelling}
use Rattle.program_words.proofs.Told.{flag_read}
use Rattle.program_words.proofs.options.GivenOptions.has_flag.Goals as goal

pub returns : goal.returns
returns c =
    let options = c.args.self.now in
    let read = ap (one_text (found_of options.matches)) c.text.ensures ∙ one_text-rows (found_of options.matches) (spelling c.args.name) in
    flag_read c.get_flag.result _ (stands c.args.name (options_in options)) (λ is. c.get_flag.ensures.none (read ∙ is)) (λ is. c.get_flag.ensures.value (read ∙ is)) (λ is. c.get_flag.ensures.other (read ∙ is))
    (options.told.flags c.args.name c.requires.takes)
