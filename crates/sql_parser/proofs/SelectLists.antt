-- Lists of a select, as far as they were read.
use Rattle.std.proofs.Common.{◌<◌, ◌≤◌, List, [], ◌∷◌, ◌++◌, length, Option, Some, None, sym, subst, append_assoc, append-nil, arith}
use Rattle.sql_tokens.specs.declared.token.Token.{Token}
use Rattle.sql_faults.specs.declared.part.Part.{Part}
use Rattle.sql_parser.specs.Descent.{Leads}
use Rattle.sql_parser.specs.SelectGrammar.{Spelling, Repeated, no_further, one_further, Listed, listed}
use Rattle.sql_parser.specs.SelectDescent.{IsFound}
use Rattle.sql_parser.proofs.Laws.{leads_on, leads_with}

pub record IsSoFar {X : Type 0} (more : Spelling (Option X)) (rule : Spelling (List X)) (before later : List Part) (old : List Token) (xs : List X) (here : List Token) : Type 0 where
  pub spelled : (others : List X) (rest : List Token) → Repeated more here others rest → rule old (xs ++ others) rest
  pub leads : Leads before later old here
  pub no_longer : length here ≤ length old

pub list_start : {X : Type 0} (first : Spelling X) (more : Spelling (Option X)) (parts later : List Part) (old here : List Token) (x : X) → IsFound first parts [] old x here
    → IsSoFar more (Listed first more) (parts ++ later) later old (x ∷ []) here
list_start first more parts later old here x h = record { spelled = λ others rest r. listed h.spelled r; leads = leads_with later h.leads; no_longer = h.no_longer }

pub list_more : {X : Type 0} {more : Spelling (Option X)} {rule : Spelling (List X)} {before later : List Part} {old here : List Token} {xs : List X} (there : List Token) (x : X)
    → IsSoFar more rule before later old xs here → more here (Some x) there → length there < length here → Leads later later here there → IsSoFar more rule before later old (xs ++ x ∷ []) there
list_more {X} {rule = rule} {old = old} {xs = xs} there x s e lt h = record {
  spelled = λ others rest r. subst (λ (all : List X). rule old all rest) (sym (append_assoc xs (x ∷ []) others)) (s.spelled (x ∷ others) rest (one_further e r));
  leads = leads_on s.leads h;
  no_longer = let p = s.no_longer in omega arith;
}

pub list_end : {X : Type 0} {more : Spelling (Option X)} {rule : Spelling (List X)} {before later : List Part} {old here : List Token} {xs : List X} (new : List Token)
    → IsSoFar more rule before later old xs here → more here None new → Leads later [] here new → length new ≤ length here → IsFound rule before [] old xs new
list_end {X} {rule = rule} {old = old} {xs = xs} new s e h n = record {
  spelled = subst (λ (all : List X). rule old all new) (append-nil xs) (s.spelled [] new (no_further e));
  leads = leads_on s.leads h;
  no_longer = let p = s.no_longer in omega arith;
}
