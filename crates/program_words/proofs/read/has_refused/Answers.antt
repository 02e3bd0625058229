use Rattle.std.proofs.Common.{◌∙◌, rules, tests}
use Rattle.std.proofs.lemmas.Iterator.Search.{any_from_yields_List}
use Rattle.std.proofs.lemmas.Iterator.{YieldsList-from_slice}
use Rattle.program_words.specs.Commands.{has_refused, is_refused}
use Rattle.program_words.proofs.Mapped.{list_any-map}
use Rattle.program_words.proofs.read.has_refused.Goals as goal

pub returns : goal.returns
unfolding has_refused
returns c =
    any_from_yields_List (λ word. is_refused word.now) c.any.new.self _ _ c.any.ensures.ran (YieldsList-from_slice c.args.words.now cc) (λ x b q k. search (rules, tests)) ∙ list_any-map (λ word. word.now) is_refused c.args.words.now
