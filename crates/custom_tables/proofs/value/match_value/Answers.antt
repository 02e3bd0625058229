use Rattle.std.proofs.Common.{◌≡◌, ◌∙◌, List, ℕ, ap, sym}
use Rattle.std.specs.Option.{option_map_or}
use Rattle.std.proofs.lemmas.Result.{IfOk-weaker}
use Rattle.osq_value.specs.declared.value.Value.{Value}
use Rattle.osq_value.specs.declared.value.Value.TheVariants.{Null, Text}
use Rattle.osq_value.specs.Casts.{cast_text_of}
use Rattle.regex.specs.Patterns.{Re}
use Rattle.custom_tables.specs.Matching.{found_text, match_value, of_text}
use Rattle.custom_tables.proofs.value.match_value.Goals as goal

-- what is found in the text of a value is what the value gives
of_cast : (re : Re) (group : ℕ) (value : Value) (text : List ℕ) → cast_text_of value ≡ Text text → option_map_or Text (found_text re group text) Null ≡ match_value re group value
unfolding match_value
of_cast re group value text is = ap (of_text re group) (sym is)

pub returns-in_ok-digits-in-Int-clause-value : goal.returns-in_ok-digits-in-Int-clause-value
returns-in_ok-digits-in-Int-clause-value c re same =
    let text = c.as_str.result.now in
    let cast : cast_text_of c.args.value.now ≡ Text text = ap cast_text_of c.in-Int.is ∙ ap (λ (t : List ℕ). Text t) (sym (c.as_str.ensures.value ∙ c.in_ok-digits-in-Int.ensures.ok)) in
    IfOk-weaker c.text_value.result _ _ (λ found is. is ∙ of_cast re c.args.group c.args.value.now text cast) (c.text_value.ensures.value re same)

pub returns-in-Text-clause-value : goal.returns-in-Text-clause-value
returns-in-Text-clause-value c re same =
    let text = c.as_str-in-Text.result.now in
    let cast : cast_text_of c.args.value.now ≡ Text text = ap cast_text_of c.in-Text.is ∙ ap (λ (t : List ℕ). Text t) (sym c.as_str-in-Text.ensures) in
    IfOk-weaker c.text_value-in-Text.result _ _ (λ found is. is ∙ of_cast re c.args.group c.args.value.now text cast) (c.text_value-in-Text.ensures.value re same)
