-- The stack of what is expected.
use Rattle.std.proofs.Common.{◌≡◌, List, [], ◌∷◌, ◌++◌, refl}
use Rattle.sql_faults.specs.declared.part.Part.{Part}
use Rattle.sql_faults.specs.Stack.{expects_from, expects}

expects_from-push : (later parts : List Part) (p : Part) → expects_from later (parts ++ p ∷ []) ≡ p ∷ expects_from later parts
expects_from-push later [] p = refl
expects_from-push later (q ∷ qs) p = expects_from-push (q ∷ later) qs p

pub expects-push : (parts : List Part) (p : Part) → expects (parts ++ p ∷ []) ≡ p ∷ expects parts
expects-push parts p = expects_from-push [] parts p
