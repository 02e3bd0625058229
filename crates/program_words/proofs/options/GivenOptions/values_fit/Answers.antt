use Rattle.std.proofs.Common.{◌∙◌, ◌||◌, ap, not, rules, tests}
use Rattle.std.specs.List.{list_all}
use Rattle.std.proofs.lemmas.Iterator.Search.{all_from_yields_List}
use Rattle.std.proofs.lemmas.Iterator.{YieldsList-from_slice}
use Rattle.program_words.specs.Given.{fits_value, takes_word}
use Rattle.program_words.specs.Left.{options_in}
use Rattle.program_words.specs.Names.{takes}
use Rattle.program_words.specs.Reading.{values_named}
use Rattle.program_words.proofs.Mapped.{list_all-map}
use Rattle.program_words.proofs.options.GivenOptions.values_fit.Goals as goal

pub returns-else-not-takes_word : goal.returns-else-not-takes_word
returns-else-not-takes_word c =
    let kind = c.takes-takes.result in
    let values = values_named c.args.name (options_in c.args.self.now) in
    all_from_yields_List (λ value. fits_value kind value.now) c.all.new.self _ _ c.all.ensures.ran (YieldsList-from_slice c.values_of.result.now cc) (λ x b q k. search (rules, tests))
    ∙ list_all-map (λ value. value.now) (fits_value kind) c.values_of.result.now ∙ ap (list_all (fits_value kind)) c.values_of.ensures
    ∙ ap (λ k. list_all (fits_value k) values) c.takes-takes.ensures ∙ ap (λ word. not word || list_all (fits_value (takes c.args.name)) values) (c.if-not-takes_word.ensures ∙ ap takes_word c.takes-takes.ensures)
