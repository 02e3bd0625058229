use Rattle.std.proofs.Common.{◌∙◌, List, ℕ, Option, ap}
use Rattle.std.specs.Option.{option_map_or}
use Rattle.std.proofs.lemmas.Result.{IfOk-weaker}
use Rattle.osq_value.specs.declared.value.Value.TheVariants.{Null, Text}
use Rattle.regex.specs.Strings.{matcher_pattern}
use Rattle.custom_tables.proofs.Alike.{found_alike}
use Rattle.custom_tables.proofs.value.text_value.Goals as goal

pub returns-clause-value : goal.returns-clause-value
returns-clause-value c re same =
    let alike = found_alike (matcher_pattern c.args.matcher.now) re same c.args.group c.args.text.now (λ k. (c.type_inv.text k).fits) in
    IfOk-weaker c.group_value.result _ _ (λ found is. is ∙ ap (λ (t : Option (List ℕ)). option_map_or Text t Null) alike) c.group_value.ensures.value
