-- Laws of the reading, by which a descent is followed.
use Rattle.std.proofs.Common.{◌≡◌, ◌≢◌, ℕ, List, [], ◌∷◌, ◌++◌, true, false, Option, Some, None, refl, sym, ap, subst, ◌∙◌, append_assoc}
use Rattle.sql_tokens.specs.declared.token.Token.{Token}
use Rattle.sql_faults.specs.declared.error.ParseError.{ParseError}
use Rattle.sql_tokens.specs.declared.token.Kind.TheVariants as kind
use Rattle.sql_tokens.specs.declared.level.Level.{Level}
use Rattle.sql_tokens.specs.declared.level.Level.TheVariants as level
use Rattle.sql_faults.specs.declared.part.Part.{Part}
use Rattle.sql_faults.specs.declared.part.Part.TheVariants.{One, Must, May}
use Rattle.sql_faults.specs.declared.part.Expected.{Expected}
use Rattle.sql_faults.specs.declared.part.Rule.{Rule}
use Rattle.sql_faults.specs.declared.part.Rule.TheVariants as rule
use Rattle.sql_faults.specs.declared.part.Optional.{Optional}
use Rattle.sql_tokens.specs.Tokens.{next, after, end_token, is_all_of}
use Rattle.sql_faults.specs.Reading.{faults, settled, taken, alternative, entered, fits, found, operand_rule, further, or_by, and_by, negated_by, equal_by, less_by, sum_by, product_by, joined_by, signed_by}
use Rattle.sql_parser.specs.Descent.{Leads, Fails}

-- ---- composition

pub leads_on : {p q r : List Part} {a b c : List Token} → Leads p q a b → Leads q r b c → Leads p r a c
leads_on h k = record { holds = λ parts. h.holds parts ∙ k.holds parts }

pub leads_with : {p q : List Part} {a b : List Token} (r : List Part) → Leads p q a b → Leads (p ++ r) (q ++ r) a b
leads_with {p} {q} {a} {b} r h = record { holds = λ parts. ap (λ (x : List Part). faults x a) (append_assoc p r parts) ∙ h.holds (r ++ parts) ∙ sym (ap (λ (x : List Part). faults x b) (append_assoc q r parts)) }

pub fails_with : {p : List Part} {a : List Token} (r : List Part) → Fails p a → Fails (p ++ r) a
fails_with {p} {a} r h = record { holds = λ parts. subst (λ (x : List Part). faults x a ≢ []) (sym (append_assoc p r parts)) (h.holds (r ++ parts)) }

pub fails_later : {p q : List Part} {a b : List Token} → Leads p q a b → Fails q b → Fails p a
fails_later h k = record { holds = λ parts. subst (λ (x : List ParseError). x ≢ []) (sym (h.holds parts)) (k.holds parts) }

-- ---- one step of the reading

-- what is settled alike is read alike
pub same_settled : (p q : List Part) (ts : List Token) → settled p (next ts) (is_all_of ts) ≡ settled q (next ts) (is_all_of ts) → faults p ts ≡ faults q ts
unfolding faults
same_settled p q [] e = ap (λ (x : List Part). taken x end_token (λ rest. [])) e
same_settled p q (t ∷ ts) e = ap (λ (x : List Part). taken x t (λ rest. faults rest ts)) e

-- a rule is its alternative
pub leads_rule : (r : Rule) (e : Expected) (xs : List Part) (ts : List Token) → alternative r (next ts) (is_all_of ts) ≡ One e ∷ xs → Leads (Must r ∷ []) (One e ∷ xs) ts ts
unfolding settled
leads_rule r e xs ts h = record { holds = λ parts. same_settled (Must r ∷ parts) (One e ∷ xs ++ parts) ts (ap (λ (x : List Part). x ++ parts) h) }

-- a chain is its first operand and what follows
pub leads_chain : (l : Level) (d : ℕ) (ts : List Token) → Leads (Must (rule.Chain l d) ∷ []) (Must (operand_rule l d) ∷ further l d 0 ∷ []) ts ts
unfolding settled or_by and_by equal_by less_by sum_by product_by joined_by
leads_chain level.Or d ts = record { holds = λ parts. same_settled (Must (rule.Chain level.Or d) ∷ parts) (Must (operand_rule level.Or d) ∷ further level.Or d 0 ∷ parts) ts (append_assoc (and_by d (next ts) (next ts).kind) (further level.Or d 0 ∷ []) parts) }
leads_chain level.And d ts = record { holds = λ parts. same_settled (Must (rule.Chain level.And d) ∷ parts) (Must (operand_rule level.And d) ∷ further level.And d 0 ∷ parts) ts (append_assoc (negated_by d (next ts) (next ts).kind) (further level.And d 0 ∷ []) parts) }
leads_chain level.Equal d ts = record { holds = λ parts. same_settled (Must (rule.Chain level.Equal d) ∷ parts) (Must (operand_rule level.Equal d) ∷ further level.Equal d 0 ∷ parts) ts (append_assoc (less_by d (next ts) (next ts).kind) (further level.Equal d 0 ∷ []) parts) }
leads_chain level.Less d ts = record { holds = λ parts. same_settled (Must (rule.Chain level.Less d) ∷ parts) (Must (operand_rule level.Less d) ∷ further level.Less d 0 ∷ parts) ts (append_assoc (sum_by d (next ts) (next ts).kind) (further level.Less d 0 ∷ []) parts) }
leads_chain level.Sum d ts = record { holds = λ parts. same_settled (Must (rule.Chain level.Sum d) ∷ parts) (Must (operand_rule level.Sum d) ∷ further level.Sum d 0 ∷ parts) ts (append_assoc (product_by d (next ts) (next ts).kind) (further level.Sum d 0 ∷ []) parts) }
leads_chain level.Product d ts = record { holds = λ parts. same_settled (Must (rule.Chain level.Product d) ∷ parts) (Must (operand_rule level.Product d) ∷ further level.Product d 0 ∷ parts) ts (append_assoc (joined_by d (next ts) (next ts).kind) (further level.Product d 0 ∷ []) parts) }
leads_chain level.Joined d ts = record { holds = λ parts. same_settled (Must (rule.Chain level.Joined d) ∷ parts) (Must (operand_rule level.Joined d) ∷ further level.Joined d 0 ∷ parts) ts (append_assoc (signed_by d (next ts) (next ts).kind) (further level.Joined d 0 ∷ []) parts) }

-- a rule that is another one here
pub leads_same : (r s : Rule) (ts : List Token) → alternative r (next ts) (is_all_of ts) ≡ alternative s (next ts) (is_all_of ts) → Leads (Must r ∷ []) (Must s ∷ []) ts ts
unfolding settled
leads_same r s ts h = record { holds = λ parts. same_settled (Must r ∷ parts) (Must s ∷ parts) ts (ap (λ (x : List Part). x ++ parts) h) }

-- an optional part that is entered, and one that is not
pub leads_in : (o : Optional) (e : Expected) (xs : List Part) (ts : List Token) → entered o (next ts).kind ≡ Some (One e ∷ xs) → Leads (May o ∷ []) (One e ∷ xs) ts ts
unfolding settled
leads_in o e xs ts h = record { holds = λ parts. same_settled (May o ∷ parts) (One e ∷ xs ++ parts) ts (ap (λ (x : Option (List Part)). elim x as (λ _. List Part) [ None ↦ settled parts (next ts) (is_all_of ts) | Some inner ↦ inner ++ parts ]) h) }

pub leads_past : (o : Optional) (ts : List Token) → entered o (next ts).kind ≡ None → Leads (May o ∷ []) [] ts ts
unfolding settled
leads_past o ts h = record { holds = λ parts. same_settled (May o ∷ parts) parts ts (ap (λ (x : Option (List Part)). elim x as (λ _. List Part) [ None ↦ settled parts (next ts) (is_all_of ts) | Some inner ↦ inner ++ parts ]) h) }

-- a token that is expected, and one that is not
pub leads_one : (e : Expected) (ts : List Token) → fits e (next ts).kind ≡ true → found e (next ts) ≡ [] → (next ts).kind ≢ kind.End → Leads (One e ∷ []) [] ts (after ts)
unfolding settled faults
leads_one e [] f g n = absurd (n refl)
leads_one e (t ∷ ts) f g n = record { holds = λ parts. rw (f, g) refl }

pub fails_one : (e : Expected) (ts : List Token) → fits e (next ts).kind ≡ false → Fails (One e ∷ []) ts
unfolding settled faults
fails_one e [] f = record { holds = λ parts. rw f (λ h. cc) }
fails_one e (t ∷ ts) f = record { holds = λ parts. rw f (λ h. cc) }

found_more : (xs ys : List ParseError) → xs ≢ [] → xs ++ ys ≢ []
found_more [] ys h = absurd (h refl)
found_more (x ∷ xs) ys h = λ k. cc

pub fails_found : (e : Expected) (ts : List Token) → fits e (next ts).kind ≡ true → found e (next ts) ≢ [] → Fails (One e ∷ []) ts
unfolding settled faults
fails_found e [] f g = record { holds = λ parts. rw f (found_more (found e end_token) [] g) }
fails_found e (t ∷ ts) f g = record { holds = λ parts. rw f (found_more (found e t) (faults parts ts) g) }
