-- What each function gives for its arguments. A number of arguments that it doesn't take gives Null.
use Rattle.std.specs.Prelude.{List, [], ◌∷◌}
use Rattle.osq_value.specs.declared.value.Value.{Value}
use Rattle.osq_value.specs.declared.value.Value.TheVariants.{Null}
use Rattle.sql_tree.specs.declared.functions.Function.{Function}
use Rattle.sql_tree.specs.declared.functions.Function.TheVariants.{Length, Lower, Upper, Trim, Substr, Instr, Replace, Abs, Typeof, Coalesce, Ifnull, Nullif}
use Rattle.sql_scalar.specs.Choices.{abs_of, typeof_of, first_known, nullif_of}
use Rattle.sql_scalar.specs.Finds.{instr_of, replace_of}
use Rattle.sql_scalar.specs.Texts.{length_of, lower_of, upper_of, trim_of}
use Rattle.sql_scalar.specs.Windows.{substr2_of, substr3_of}

abbrev pub with_one : (Value → Value) → List Value → Value
with_one f [] = Null
with_one f (x ∷ []) = f x
with_one f (x ∷ y ∷ more) = Null

abbrev pub with_two : (Value → Value → Value) → List Value → Value
with_two f [] = Null
with_two f (x ∷ []) = Null
with_two f (x ∷ y ∷ []) = f x y
with_two f (x ∷ y ∷ z ∷ more) = Null

abbrev pub with_three : (Value → Value → Value → Value) → List Value → Value
with_three f [] = Null
with_three f (x ∷ []) = Null
with_three f (x ∷ y ∷ []) = Null
with_three f (x ∷ y ∷ z ∷ []) = f x y z
with_three f (x ∷ y ∷ z ∷ w ∷ more) = Null

abbrev pub with_two_or_three : (Value → Value → Value) → (Value → Value → Value → Value) → List Value → Value
with_two_or_three f g [] = Null
with_two_or_three f g (x ∷ []) = Null
with_two_or_three f g (x ∷ y ∷ []) = f x y
with_two_or_three f g (x ∷ y ∷ z ∷ []) = g x y z
with_two_or_three f g (x ∷ y ∷ z ∷ w ∷ more) = Null

abbrev pub with_two_or_more : (List Value → Value) → List Value → Value
with_two_or_more f [] = Null
with_two_or_more f (x ∷ []) = Null
with_two_or_more f (x ∷ y ∷ more) = f (x ∷ y ∷ more)

abbrev pub ifnull_of : Value → Value → Value
ifnull_of x y = first_known (x ∷ y ∷ [])

abbrev pub call_of : Function → List Value → Value
call_of Length arguments = with_one length_of arguments
call_of Lower arguments = with_one lower_of arguments
call_of Upper arguments = with_one upper_of arguments
call_of Trim arguments = with_one trim_of arguments
call_of Substr arguments = with_two_or_three substr2_of substr3_of arguments
call_of Instr arguments = with_two instr_of arguments
call_of Replace arguments = with_three replace_of arguments
call_of Abs arguments = with_one abs_of arguments
call_of Typeof arguments = with_one typeof_of arguments
call_of Coalesce arguments = with_two_or_more first_known arguments
call_of Ifnull arguments = with_two ifnull_of arguments
call_of Nullif arguments = with_two nullif_of arguments
