-- Groups of those with equal keys, in the order of their first members.
use Rattle.std.specs.Prelude.{List, filter, map}
use Rattle.osq_value.specs.declared.value.Value.{Value}
use Rattle.sql_meaning.specs.Firsts.{firsts_by, same_values}

-- each first with all that have its key
abbrev pub groups_by : {X : Type 0} → (X → List Value) → List X → List (List X)
groups_by key xs = map (λ first. filter (λ x. same_values (key first) (key x)) xs) (firsts_by key xs)
