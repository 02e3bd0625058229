use Rattle.std.proofs.Common.{◌∙◌, ap, map, option_map, refl}
use Rattle.clap.specs.Matches.{found_of, matched_of, raw_values}
use Rattle.clap.proofs.WalkLemmas.{raw_values-rows}
use Rattle.program_words.specs.Rules.{spelling}
use Rattle.program_words.proofs.Told.{unwrapped}
use Rattle.program_words.proofs.options.GivenOptions.values_of.Goals as goal

pub returns : goal.returns
returns c =
    let found = found_of c.args.self.now.matches in
    let read = c.get_strs.ensures ∙ ap (λ id. option_map raw_values (matched_of found id)) c.text.ensures ∙ raw_values-rows found (spelling c.args.name) in
    ap (λ s. map (λ value. value.now) s.now) c.unwrap_or.ensures
    ∙ unwrapped (λ s. map (λ value. value.now) s.now) c.get_strs.result _ _ read refl ∙ c.args.self.now.told.values c.args.name c.requires.takes
