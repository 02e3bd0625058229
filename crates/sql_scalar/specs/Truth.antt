-- Truth: true, false, or unknown where a value is Null.
use Rattle.std.specs.Prelude.{ℤ, pos, negsuc, ◌==◌, not, Option, Some, None, Bool, true, false}
use Rattle.osq_value.specs.declared.value.Value.{Value}
use Rattle.osq_value.specs.declared.value.Value.TheVariants.{Null, Int, Text}
use Rattle.osq_value.specs.Casts.{number_of}

abbrev pub is_zero : ℤ → Bool
is_zero (pos n) = n == 0
is_zero (negsuc n) = false

-- whether the whole number of a value isn't 0
abbrev pub truth_of : Value → Option Bool
truth_of Null = None
truth_of (Int n) = Some (not (is_zero n))
truth_of (Text s) = Some (not (is_zero (number_of s)))

abbrev pub from_truth : Option Bool → Value
from_truth None = Null
from_truth (Some true) = Int (pos 1)
from_truth (Some false) = Int (pos 0)

-- false where a side is false, else unknown where a side is unknown, else true
abbrev pub both : Option Bool → Option Bool → Option Bool
both None None = None
both None (Some true) = None
both None (Some false) = Some false
both (Some true) None = None
both (Some true) (Some true) = Some true
both (Some true) (Some false) = Some false
both (Some false) None = Some false
both (Some false) (Some true) = Some false
both (Some false) (Some false) = Some false

-- true where a side is true, else unknown where a side is unknown, else false
abbrev pub either : Option Bool → Option Bool → Option Bool
either None None = None
either None (Some true) = Some true
either None (Some false) = None
either (Some true) None = Some true
either (Some true) (Some true) = Some true
either (Some true) (Some false) = Some true
either (Some false) None = None
either (Some false) (Some true) = Some true
either (Some false) (Some false) = Some false

abbrev pub opposite : Option Bool → Option Bool
opposite None = None
opposite (Some true) = Some false
opposite (Some false) = Some true

-- `AND`, `OR` and `NOT`
abbrev pub and_of : Value → Value → Value
and_of left right = from_truth (both (truth_of left) (truth_of right))

abbrev pub or_of : Value → Value → Value
or_of left right = from_truth (either (truth_of left) (truth_of right))

abbrev pub not_of : Value → Value
not_of value = from_truth (opposite (truth_of value))
