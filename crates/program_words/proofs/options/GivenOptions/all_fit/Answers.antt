use Rattle.std.proofs.Common.{◌∙◌, ◌&&◌, ap, sym}
use Rattle.std.specs.List.{list_all}
use Rattle.clap.specs.Matches.{found_of}
use Rattle.clap.specs.Walk.{rows_of}
use Rattle.program_words.specs.Commands.{optional}
use Rattle.program_words.specs.Left.{options_in}
use Rattle.program_words.specs.Reading.{values_fit}
use Rattle.program_words.proofs.Told.{told_fit}
use Rattle.program_words.proofs.options.GivenOptions.all_fit.Goals as goal

pub returns-then-each_fits : goal.returns-then-each_fits
returns-then-each_fits c =
    let options = c.args.self.now in
    let fits = values_fit (options_in options) in
    let behind = list_all fits (optional options.command) in
    c.each_fits-then-each_fits.ensures ∙ ap (list_all fits) c.optional.ensures
    ∙ ap (λ b. b && behind) (sym c.if-each_fits.true ∙ c.each_fits.ensures ∙ ap (list_all fits) c.required.ensures)
    ∙ told_fit options.command (rows_of (found_of options.matches)) (options_in options) options.told

pub returns-else-each_fits : goal.returns-else-each_fits
returns-else-each_fits c =
    let options = c.args.self.now in
    let fits = values_fit (options_in options) in
    let behind = list_all fits (optional options.command) in
    c.if-each_fits.false ∙ ap (λ b. b && behind) (sym c.if-each_fits.false ∙ c.each_fits.ensures ∙ ap (list_all fits) c.required.ensures)
    ∙ told_fit options.command (rows_of (found_of options.matches)) (options_in options) options.told
