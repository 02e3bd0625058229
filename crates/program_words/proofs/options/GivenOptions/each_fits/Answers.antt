use Rattle.std.proofs.Common.{rules, tests}
use Rattle.std.proofs.lemmas.Iterator.Search.{all_from_yields_List}
use Rattle.std.proofs.lemmas.Iterator.{YieldsList-from_slice}
use Rattle.program_words.specs.Left.{options_in}
use Rattle.program_words.specs.Reading.{values_fit}
use Rattle.program_words.proofs.options.GivenOptions.each_fits.Goals as goal

pub returns : goal.returns
returns c =
    all_from_yields_List (values_fit (options_in c.args.self.now)) c.all.new.self _ _ c.all.ensures.ran (YieldsList-from_slice c.args.names.now cc) (λ x b q k. search (rules, tests))
