-- The test of equality that `==` makes of lists of values.
use Rattle.std.proofs.Common.{◌≡◌, refl, ◌&&◌, List, [], ◌∷◌}
use Rattle.std.specs.Cmp.Lexicographic.{pointwise}
use Rattle.osq_value.specs.declared.value.Value.{Value}
use Rattle.osq_value.specs.contracts.value.ValuePartialEq.TheImpl as equality
use Rattle.sql_meaning.specs.Firsts.{same_values}
use Rattle.sql_meaning.specs.SameValues.{same_value}
use Rattle.sql_meaning.specs.Worths.{worth_of, worths}
use Rattle.sql_meaning.specs.declared.worth.Worth.{Worth}

pub same_values-is : (lefts rights : List Value) → pointwise equality.eq-value.it lefts rights ≡ same_values lefts rights
same_values-is [] [] = refl
same_values-is [] (b ∷ vs) = refl
same_values-is (a ∷ us) [] = refl
same_values-is (a ∷ us) (b ∷ vs) = λ i. same_value a b i && same_values-is us vs i

-- the same of rows of the result, which are equal where their values are
pub worths-are : (lefts rights : List Worth) → pointwise (λ left right. equality.eq-value.it (worth_of left) (worth_of right)) lefts rights ≡ same_values (worths lefts) (worths rights)
worths-are [] [] = refl
worths-are [] (b ∷ vs) = refl
worths-are (a ∷ us) [] = refl
worths-are (a ∷ us) (b ∷ vs) = λ i. same_value (worth_of a) (worth_of b) i && worths-are us vs i
