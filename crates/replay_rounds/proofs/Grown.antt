-- Text that was written behind text, and why a step between ticks is refused.
use Rattle.std.proofs.Common.{◌≡◌, ℕ, List, [], ◌++◌, take, Ok, Err, sym, ap, ◌∙◌, subst, append_assoc}
use Rattle.std.specs.Prelude.{Result, IfErr, IfOk}
use Rattle.std.proofs.lemmas.List.{append-nil}
use Rattle.osq_outside.specs.Writing.{WritesAll}
use Rattle.replay_rounds.specs.Noting.{IsGrown}

pub grown_not : (text : List ℕ) → IsGrown text text
grown_not text = ([], sym (append-nil text))

pub grown_then : (before between after : List ℕ) → IsGrown before between → IsGrown between after → IsGrown before after
grown_then before between after (first, was) (second, is) =
    (first ++ second, is ∙ ap (λ (text : List ℕ). text ++ second) was ∙ append_assoc before first second)

pub writes_grown : {T E : Type 0} (before after text : List ℕ) (result : Result T E) → WritesAll before after text result → IsGrown before after
writes_grown before after text (Ok done) is = (text, is)
writes_grown before after text (Err error) (count, is) = (take count text, is)

-- what holds of each error holds of this one
pub of_error : {T E : Type 0} (P : E → Type 0) (result : Result T E) (error : E) → IfErr result P → result ≡ Err error → P error
of_error P result error holds is = subst (λ (r : Result _ _). IfErr r P) is holds

-- what follows from two facts of a value
pub of_value : {T E : Type 0} (A B C : T → Type 0) (result : Result T E) → IfOk result A → IfOk result B → ((value : T) → A value → B value → C value) → IfOk result C
of_value A B C (Ok value) first second follows = follows value first second
of_value A B C (Err error) first second follows = tt

-- three texts were added, one behind another
pub pushed : (old first second new a b c : List ℕ) → first ≡ old ++ a → second ≡ first ++ b → new ≡ second ++ c → new ≡ old ++ (a ++ (b ++ c))
pushed old first second new a b c one two three =
    three ∙ ap (λ (text : List ℕ). text ++ c) (two ∙ ap (λ (text : List ℕ). text ++ b) one) ∙ append_assoc (old ++ a) b c ∙ append_assoc old a (b ++ c)
