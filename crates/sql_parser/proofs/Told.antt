-- Each list of tokens is read as an expression, or it has a fault.
use Rattle.std.proofs.Common.{◌≡◌, ◌≢◌, ◌<◌, ◌≤◌, ◌+◌, ◌*◌, ◌⊎◌, inl, inr, ℕ, suc, zero, List, [], ◌∷◌, length, Bool, true, false, Option, Some, None, refl, sym, ap, subst, ◌∙◌, arith}
use Rattle.std.proofs.lemmas.Bool.{cases_lt}
use Rattle.sql_tokens.specs.declared.token.Token.{Token}
use Rattle.sql_tokens.specs.declared.token.Kind.{Kind}
use Rattle.sql_tokens.specs.declared.token.Kind.TheVariants as kind
use Rattle.sql_tokens.specs.declared.token.Word.{Word}
use Rattle.sql_tokens.specs.declared.token.Word.TheVariants as word
use Rattle.sql_faults.specs.declared.arguments.Shape.{Shape}
use Rattle.sql_faults.specs.declared.arguments.Shape.TheVariants as shape
use Rattle.sql_tokens.specs.declared.level.Level.{Level}
use Rattle.sql_tokens.specs.declared.level.Level.TheVariants as level
use Rattle.sql_tokens.specs.declared.level.Sign.{Sign}
use Rattle.sql_tokens.specs.declared.level.Sign.TheVariants as sign
use Rattle.sql_tree.specs.declared.tree.Operator.{Operator}
use Rattle.sql_tree.specs.declared.tree.Operator.TheVariants as op
use Rattle.sql_faults.specs.declared.part.Part.TheVariants.{One, Must}
use Rattle.sql_faults.specs.declared.part.Expected.TheVariants as expected
use Rattle.sql_faults.specs.declared.part.Rule.{Rule}
use Rattle.sql_faults.specs.declared.part.Rule.TheVariants as rule
use Rattle.sql_parser.specs.declared.stop.Stop.TheVariants.{Refused}
use Rattle.sql_tokens.specs.Tokens.{next, after}
use Rattle.sql_faults.specs.Calls.{IsNamed, name_of, call_of, is_known, is_allowed, folded_of, type_of}
use Rattle.sql_tokens.specs.Levels.{sign_at}
use Rattle.sql_tree.specs.Tree.{Tree, OneStep, binary, among, between, Steps, no_steps, then, Trees, no_trees, and_tree, chained}
use Rattle.sql_tree.specs.Tree as tree
use Rattle.sql_parser.specs.Grammar.{Class, chain, negated, signed, atom, operand, Spells, no_not, no_sign, a_table_column, a_call, a_cast, all_rows, distinct_arguments, plain_arguments, last_argument}
use Rattle.sql_faults.specs.Reading.{operand_rule, one_longer, further, list_parts, between_parts, type_parts, found, cast_parts}
use Rattle.sql_parser.specs.Descent.{Fails, Refuses, IsRead, IsStep, RefusesStep, IsList, IsBetween, IsNegated, IsIs, IsCounted, IsCall, IsCast, IsType, IsClosed, counted_parts, call_parts}
use Rattle.sql_parser.proofs.Laws.{leads_on, leads_with, fails_with, fails_later, leads_chain, fails_one}
use Rattle.sql_parser.proofs.Arms.{leads_take, leads_close, fails_close, leads_not, fails_not, leads_no_not, fails_minus, fails_plus, leads_no_sign, sign_no_end, refuses_step, fails_and, fails_open, fails_deep_open, leads_parenthesis, fails_parenthesis, fails_wide, fails_atom, BeginsNone, leads_like, leads_not_in, leads_not_between, fails_negatable, fails_operator, leads_minus, leads_plus}
use Rattle.sql_parser.proofs.Shorter.{shorter, shorter_step, after_shorter, named_no_end}
use Rattle.sql_parser.proofs.Read.{read_not, read_minus, read_plus, read_number, read_text, read_null, read_parentheses, read_binary, is_leads, read_is, read_in, read_between, read_negated, read_not_like, read_not_in, read_not_between, read_two_ends, stopped_high, IsChainSoFar, chain_start, chain_more, chain_end, IsListSoFar, stopped_first, list_start, stopped_item, list_more, list_end, list_empty, list_unclosed}
use Rattle.sql_parser.proofs.Calls.{IsOpening, leads_name, read_column, leads_dot, name_misfit, name_fits, leads_call, fails_unknown, fails_deep_call, fails_empty_call, leads_all, leads_distinct, leads_plain, leads_arguments, leads_last, fails_end, leads_end, call_unclosed, IsCountedSoFar, counted_start, stopped_argument, counted_more, fails_as, leads_as, leads_type, fails_type, fails_cast_open, fails_deep_cast, stopped_inner, leads_cast, leads_cast_word}
use Rattle.sql_parser.proofs.ReadSpelled.{above, above_operand, above_small}

pub not_or : (k : Kind) → (k ≡ kind.Not) ⊎ (k ≢ kind.Not)
not_or kind.Not = inl refl
not_or other = inr (λ e. cc)

pub minus_or : (k : Kind) → (k ≡ kind.Minus) ⊎ (k ≢ kind.Minus)
minus_or kind.Minus = inl refl
minus_or other = inr (λ e. cc)

pub plus_or : (k : Kind) → (k ≡ kind.Plus) ⊎ (k ≢ kind.Plus)
plus_or kind.Plus = inl refl
plus_or other = inr (λ e. cc)

pub like_or : (k : Kind) → (k ≡ kind.Like) ⊎ (k ≢ kind.Like)
like_or kind.Like = inl refl
like_or other = inr (λ e. cc)

pub in_or : (k : Kind) → (k ≡ kind.In) ⊎ (k ≢ kind.In)
in_or kind.In = inl refl
in_or other = inr (λ e. cc)

pub between_or : (k : Kind) → (k ≡ kind.Between) ⊎ (k ≢ kind.Between)
between_or kind.Between = inl refl
between_or other = inr (λ e. cc)

pub and_or : (k : Kind) → (k ≡ kind.And) ⊎ (k ≢ kind.And)
and_or kind.And = inl refl
and_or other = inr (λ e. cc)

pub open_or : (k : Kind) → (k ≡ kind.Open) ⊎ (k ≢ kind.Open)
open_or kind.Open = inl refl
open_or other = inr (λ e. cc)

pub close_or : (k : Kind) → (k ≡ kind.Close) ⊎ (k ≢ kind.Close)
close_or kind.Close = inl refl
close_or other = inr (λ e. cc)

pub comma_or : (k : Kind) → (k ≡ kind.Comma) ⊎ (k ≢ kind.Comma)
comma_or kind.Comma = inl refl
comma_or other = inr (λ e. cc)

pub star_or : (k : Kind) → (k ≡ kind.Star) ⊎ (k ≢ kind.Star)
star_or kind.Star = inl refl
star_or other = inr (λ e. cc)

pub distinct_or : (k : Kind) → (k ≡ kind.Distinct) ⊎ (k ≢ kind.Distinct)
distinct_or kind.Distinct = inl refl
distinct_or other = inr (λ e. cc)

pub dot_or : (k : Kind) → (k ≡ kind.Dot) ⊎ (k ≢ kind.Dot)
dot_or kind.Dot = inl refl
dot_or other = inr (λ e. cc)

pub as_or : (k : Kind) → (k ≡ kind.As) ⊎ (k ≢ kind.As)
as_or kind.As = inl refl
as_or other = inr (λ e. cc)

pub cast_or : (k : Kind) → (k ≡ kind.Cast) ⊎ (k ≢ kind.Cast)
cast_or kind.Cast = inl refl
cast_or other = inr (λ e. cc)

pub flag_or : (b : Bool) → (b ≡ true) ⊎ (b ≡ false)
flag_or true = inl refl
flag_or false = inr refl

pub sign_or : (found : Option Sign) → ((s : Sign) × (found ≡ Some s)) ⊎ (found ≡ None)
sign_or None = inr refl
sign_or (Some s) = inl (s, refl)

abbrev pub rule_at : Class → ℕ → Rule
rule_at (chain l) d = rule.Chain l d
rule_at negated d = rule.Negated d
rule_at signed d = rule.Signed d
rule_at atom d = rule.Atom d

abbrev pub Told : Class → Rule → List Token → Type 0
Told c r ts = ((t : Tree) × (rest : List Token) × IsRead c r ts t rest) ⊎ Refuses r ts

-- what stands inside, where the number bounds the turns
abbrev pub Decides : ℕ → Type 0
Decides m = (c : Class) (d : ℕ) (ts : List Token) → 12 * (length ts + 1) ≤ m + above c → Told c (rule_at c d) ts

operand_told : (m : ℕ) → Decides m → (l : Level) (d : ℕ) (ts : List Token) → 12 * (length ts + 1) ≤ m + above (operand l) → Told (operand l) (operand_rule l d) ts
operand_told m ih level.Or d ts b = ih (chain level.And) d ts b
operand_told m ih level.And d ts b = ih negated d ts b
operand_told m ih level.Equal d ts b = ih (chain level.Less) d ts b
operand_told m ih level.Less d ts b = ih (chain level.Sum) d ts b
operand_told m ih level.Sum d ts b = ih (chain level.Product) d ts b
operand_told m ih level.Product d ts b = ih (chain level.Joined) d ts b
operand_told m ih level.Joined d ts b = ih signed d ts b

-- ---- lists

abbrev ListTold : ℕ → List Token → Type 0
ListTold d ts = ((items : Trees) × (rest : List Token) × IsList d ts items rest) ⊎ Fails (list_parts d) ts

items_told : (m : ℕ) → Decides m → (k d : ℕ) (ts here : List Token) (items : Trees) → IsListSoFar d ts items here → length here < k → 12 * (length here + 1) ≤ m → ListTold d ts
items_told m ih zero d ts here items s lt b = absurd (omega arith)
items_told m ih (suc k) d ts here items s lt b = elim (comma_or (next here).kind) as (λ _. ListTold d ts) [
  | inl c ↦ let u = after_shorter here (λ e. cc) in elim (ih (chain level.Or) (d + 1) (after here) (omega arith)) as (λ _. ListTold d ts) [
    | inl (item, new, g) ↦ let v = shorter g.spelled in items_told m ih k d ts new (and_tree items item) (list_more d ts here (after here) new items (and_tree items item) item s c refl g refl) (omega arith) (omega arith)
    | inr f ↦ inr (stopped_item d ts here (after here) items Refused s c refl f)
  ]
  | inr n ↦ elim (close_or (next here).kind) as (λ _. ListTold d ts) [
    | inl c ↦ inl (items, after here, list_end d ts here (after here) items s n c refl)
    | inr x ↦ inr (list_unclosed d ts here items s n x)
  ]
]

opened_list_told : (m : ℕ) → Decides m → (d : ℕ) (ts : List Token) → (next ts).kind ≡ kind.Open → d < 64 → 12 * (length ts + 1) ≤ m → ListTold d ts
opened_list_told m ih d ts o lt b = let u = after_shorter ts (λ e. cc) in elim (close_or (next (after ts)).kind) as (λ _. ListTold d ts) [
  | inl c ↦ inl (no_trees, after (after ts), list_empty d ts (after ts) (after (after ts)) no_trees o lt refl c refl refl)
  | inr n ↦ elim (ih (chain level.Or) (d + 1) (after ts) (omega arith)) as (λ _. ListTold d ts) [
    | inl (first, here, h) ↦ let v = shorter h.spelled in items_told m ih (suc (length here)) d ts here (and_tree no_trees first) (list_start d ts (after ts) here first (and_tree no_trees first) o lt refl n h refl) (omega arith) (omega arith)
    | inr f ↦ inr (stopped_first d ts (after ts) Refused o lt refl n f)
  ]
]

list_told : (m : ℕ) → Decides m → (d : ℕ) (ts : List Token) → 12 * (length ts + 1) ≤ m → ListTold d ts
list_told m ih d ts b = elim (open_or (next ts).kind) as (λ _. ListTold d ts) [
  | inl o ↦ elim (cases_lt d 64) as (λ _. ListTold d ts) [
    | inl lt ↦ opened_list_told m ih d ts o lt b
    | inr le ↦ inr (fails_deep_open d ts o le)
  ]
  | inr n ↦ inr (fails_open d ts n)
]

-- ---- steps

abbrev EndsTold : Level → ℕ → Bool → List Token → Type 0
EndsTold l d is_negated ts = ((s : OneStep) × (rest : List Token) × IsBetween l d is_negated ts s rest) ⊎ Fails (between_parts l d) ts

high_told : (m : ℕ) → Decides m → (l : Level) (d : ℕ) (is_negated : Bool) (ts mid : List Token) (low : Tree) → IsRead (operand l) (operand_rule l d) ts low mid → 12 * (length mid + 1) ≤ m → EndsTold l d is_negated ts
high_told m ih l d is_negated ts mid low h b = elim (and_or (next mid).kind) as (λ _. EndsTold l d is_negated ts) [
  | inl k ↦ let u = after_shorter mid (λ e. cc) in elim (operand_told m ih l d (after mid) (omega arith)) as (λ _. EndsTold l d is_negated ts) [
    | inl (high, rest, g) ↦ inl (between is_negated low high, rest, read_two_ends l d is_negated ts mid (after mid) rest low high (between is_negated low high) h k refl g refl)
    | inr f ↦ inr (stopped_high l d ts mid (after mid) low Refused h k refl f)
  ]
  | inr n ↦ inr (fails_later (leads_with (One expected.And ∷ Must (operand_rule l d) ∷ []) h.reads) (fails_with (Must (operand_rule l d) ∷ []) (fails_and mid n)))
]

ends_told : (m : ℕ) → Decides m → (l : Level) (d : ℕ) (is_negated : Bool) (ts : List Token) → 12 * (length ts + 1) ≤ m → EndsTold l d is_negated ts
ends_told m ih l d is_negated ts b = elim (operand_told m ih l d ts (omega arith)) as (λ _. EndsTold l d is_negated ts) [
  | inl (low, mid, h) ↦ let u = shorter h.spelled in high_told m ih l d is_negated ts mid low h (omega arith)
  | inr f ↦ inr (fails_with (One expected.And ∷ Must (operand_rule l d) ∷ []) f)
]

abbrev NegatedTold : Level → ℕ → List Token → Type 0
NegatedTold l d ts = ((s : OneStep) × (rest : List Token) × IsNegated l d ts s rest) ⊎ Refuses (rule.Negatable l d) ts

not_like_told : (m : ℕ) → Decides m → (l : Level) (d : ℕ) (ts : List Token) → (next ts).kind ≡ kind.Like → 12 * (length ts + 1) ≤ m → NegatedTold l d ts
not_like_told m ih l d ts k b = let u = after_shorter ts (λ e. cc) in elim (operand_told m ih l d (after ts) (omega arith)) as (λ _. NegatedTold l d ts) [
  | inl (right, rest, h) ↦ inl (binary op.NotLike right, rest, read_not_like l d ts (after ts) rest right (binary op.NotLike right) k refl h refl)
  | inr f ↦ inr (fails_later (leads_like l d ts (after ts) k refl) f)
]

not_in_told : (m : ℕ) → Decides m → (l : Level) (d : ℕ) (ts : List Token) → (next ts).kind ≡ kind.In → 12 * (length ts + 1) ≤ m → NegatedTold l d ts
not_in_told m ih l d ts k b = let u = after_shorter ts (λ e. cc) in elim (list_told m ih d (after ts) (omega arith)) as (λ _. NegatedTold l d ts) [
  | inl (items, rest, h) ↦ inl (among true items, rest, read_not_in l d ts (after ts) rest items (among true items) k refl h refl)
  | inr f ↦ inr (fails_later (leads_not_in l d ts (after ts) k refl) f)
]

not_between_told : (m : ℕ) → Decides m → (l : Level) (d : ℕ) (ts : List Token) → (next ts).kind ≡ kind.Between → 12 * (length ts + 1) ≤ m → NegatedTold l d ts
not_between_told m ih l d ts k b = let u = after_shorter ts (λ e. cc) in elim (ends_told m ih l d true (after ts) (omega arith)) as (λ _. NegatedTold l d ts) [
  | inl (s, rest, h) ↦ inl (s, rest, read_not_between l d ts (after ts) rest s k refl h)
  | inr f ↦ inr (fails_later (leads_not_between l d ts (after ts) k refl) f)
]

negated_step_told : (m : ℕ) → Decides m → (l : Level) (d : ℕ) (ts : List Token) → 12 * (length ts + 1) ≤ m → NegatedTold l d ts
negated_step_told m ih l d ts b = elim (like_or (next ts).kind) as (λ _. NegatedTold l d ts) [
  | inl k ↦ not_like_told m ih l d ts k b
  | inr x ↦ elim (in_or (next ts).kind) as (λ _. NegatedTold l d ts) [
    | inl k ↦ not_in_told m ih l d ts k b
    | inr y ↦ elim (between_or (next ts).kind) as (λ _. NegatedTold l d ts) [
      | inl k ↦ not_between_told m ih l d ts k b
      | inr z ↦ inr (fails_negatable l d ts x y z)
    ]
  ]
]

abbrev StepTold : Level → ℕ → List Token → Type 0
StepTold l d ts = ((s : OneStep) × (rest : List Token) × IsStep l d ts s rest) ⊎ RefusesStep l d ts

-- behind IS, or IS NOT
is_told : (m : ℕ) → Decides m → (l : Level) (d : ℕ) (o : Operator) (ts new : List Token) → sign_at l (next ts).kind ≡ Some sign.Is → IsIs (after ts) o new → 12 * (length new + 1) ≤ m → StepTold l d ts
is_told m ih l d o ts new e i b = elim (operand_told m ih l d new (omega arith)) as (λ _. StepTold l d ts) [
  | inl (right, rest, h) ↦ inl (binary o right, rest, read_is l d o ts (after ts) new rest right (binary o right) e refl i h refl)
  | inr f ↦ inr (refuses_step l d sign.Is ts (after ts) e refl (fails_later (leads_with (Must (operand_rule l d) ∷ []) (is_leads o (after ts) new i)) f))
]

step_told : (m : ℕ) → Decides m → (l : Level) (d : ℕ) (s : Sign) (ts : List Token) → sign_at l (next ts).kind ≡ Some s → 12 * (length ts + 1) ≤ m → StepTold l d ts
step_told m ih l d (sign.Binary o) ts e b = let u = after_shorter ts (sign_no_end l _ _ e) in elim (operand_told m ih l d (after ts) (omega arith)) as (λ _. StepTold l d ts) [
  | inl (right, rest, h) ↦ inl (binary o right, rest, read_binary l d o ts (after ts) rest right (binary o right) e refl h refl)
  | inr f ↦ inr (refuses_step l d (sign.Binary o) ts (after ts) e refl f)
]
step_told m ih l d sign.Is ts e b = let u = after_shorter ts (sign_no_end l _ _ e) in elim (not_or (next (after ts)).kind) as (λ _. StepTold l d ts) [
  | inl k ↦ let v = after_shorter (after ts) (λ j. cc) in is_told m ih l d op.IsNot ts (after (after ts)) e (k, refl) (omega arith)
  | inr n ↦ is_told m ih l d op.Is ts (after ts) e (n, refl) (omega arith)
]
step_told m ih l d sign.In ts e b = let u = after_shorter ts (sign_no_end l _ _ e) in elim (list_told m ih d (after ts) (omega arith)) as (λ _. StepTold l d ts) [
  | inl (items, rest, h) ↦ inl (among false items, rest, read_in l d ts (after ts) rest items (among false items) e refl h refl)
  | inr f ↦ inr (refuses_step l d sign.In ts (after ts) e refl f)
]
step_told m ih l d sign.Between ts e b = let u = after_shorter ts (sign_no_end l _ _ e) in elim (ends_told m ih l d false (after ts) (omega arith)) as (λ _. StepTold l d ts) [
  | inl (s, rest, h) ↦ inl (s, rest, read_between l d ts (after ts) rest s e refl h)
  | inr f ↦ inr (refuses_step l d sign.Between ts (after ts) e refl f)
]
step_told m ih l d sign.Not ts e b = let u = after_shorter ts (sign_no_end l _ _ e) in elim (negated_step_told m ih l d (after ts) (omega arith)) as (λ _. StepTold l d ts) [
  | inl (s, rest, h) ↦ inl (s, rest, read_negated l d ts (after ts) rest s e refl h)
  | inr f ↦ inr (refuses_step l d sign.Not ts (after ts) e refl f)
]

-- ---- chains

steps_told : (m : ℕ) → Decides m → (k : ℕ) (l : Level) (d count : ℕ) (ts here : List Token) (first : Tree) (steps : Steps) → IsChainSoFar l d count ts first steps here → length here < k → 12 * (length here + 1) ≤ m → Told (chain l) (rule.Chain l d) ts
steps_told m ih zero l d count ts here first steps h lt b = absurd (omega arith)
steps_told m ih (suc k) l d count ts here first steps h lt b = elim (sign_or (sign_at l (next here).kind)) as (λ _. Told (chain l) (rule.Chain l d) ts) [
  | inl (s, e) ↦ elim (cases_lt count 1000) as (λ _. Told (chain l) (rule.Chain l d) ts) [
    | inl few ↦ elim (step_told m ih l d s here e b) as (λ _. Told (chain l) (rule.Chain l d) ts) [
      | inl (one, rest, g) ↦ let u = shorter_step g.spelled in steps_told m ih k l d (count + 1) ts rest first (then steps one) (chain_more l d count ts here rest first steps one h few g) (omega arith) (omega arith)
      | inr f ↦ inr (fails_later h.reads (f.holds count))
    ]
    | inr many ↦ inr (fails_later h.reads (fails_operator l d count s here e many))
  ]
  | inr e ↦ inl (chained first steps, here, chain_end l d count ts here here first steps (chained first steps) h (record { same = refl; none = e }) refl)
]

chain_told : (m : ℕ) → Decides m → (l : Level) (d : ℕ) (ts : List Token) → 12 * (length ts + 1) ≤ suc m + above (chain l) → Told (chain l) (rule.Chain l d) ts
chain_told m ih l d ts b = let p = above_operand l in let q = above_small (chain l) in elim (operand_told m ih l d ts (omega arith)) as (λ _. Told (chain l) (rule.Chain l d) ts) [
  | inl (first, here, h) ↦ let u = shorter h.spelled in steps_told m ih (suc (length here)) l d 0 ts here first no_steps (chain_start l d ts here first h) (omega arith) (omega arith)
  | inr f ↦ inr (fails_later (leads_chain l d ts) (fails_with (further l d 0 ∷ []) f))
]

-- ---- NOT and signs

negated_told : (m : ℕ) → Decides m → (d : ℕ) (ts : List Token) → 12 * (length ts + 1) ≤ suc m + above negated → Told negated (rule.Negated d) ts
negated_told m ih d ts b = elim (not_or (next ts).kind) as (λ _. Told negated (rule.Negated d) ts) [
  | inl k ↦ let u = after_shorter ts (λ e. cc) in elim (cases_lt d 64) as (λ _. Told negated (rule.Negated d) ts) [
    | inl lt ↦ elim (ih negated (d + 1) (after ts) (omega arith)) as (λ _. Told negated (rule.Negated d) ts) [
      | inl (inner, rest, h) ↦ inl (tree.negation inner, rest, read_not d ts (after ts) rest inner (tree.negation inner) k lt refl h refl)
      | inr f ↦ inr (fails_later (leads_not d ts (after ts) k lt refl) f)
    ]
    | inr le ↦ inr (fails_not d ts k le)
  ]
  | inr n ↦ elim (ih (chain level.Equal) d ts (omega arith)) as (λ _. Told negated (rule.Negated d) ts) [
    | inl (inner, rest, h) ↦ inl (inner, rest, record { spelled = no_not n h.spelled; reads = leads_on (leads_no_not d ts n) h.reads })
    | inr f ↦ inr (fails_later (leads_no_not d ts n) f)
  ]
]

signed_told : (m : ℕ) → Decides m → (d : ℕ) (ts : List Token) → 12 * (length ts + 1) ≤ suc m + above signed → Told signed (rule.Signed d) ts
signed_told m ih d ts b = elim (minus_or (next ts).kind) as (λ _. Told signed (rule.Signed d) ts) [
  | inl k ↦ let u = after_shorter ts (λ e. cc) in elim (cases_lt d 64) as (λ _. Told signed (rule.Signed d) ts) [
    | inl lt ↦ elim (ih signed (d + 1) (after ts) (omega arith)) as (λ _. Told signed (rule.Signed d) ts) [
      | inl (inner, rest, h) ↦ inl (tree.minus inner, rest, read_minus d ts (after ts) rest inner (tree.minus inner) k lt refl h refl)
      | inr f ↦ inr (fails_later (leads_minus d ts (after ts) k lt refl) f)
    ]
    | inr le ↦ inr (fails_minus d ts k le)
  ]
  | inr n ↦ elim (plus_or (next ts).kind) as (λ _. Told signed (rule.Signed d) ts) [
    | inl k ↦ let u = after_shorter ts (λ e. cc) in elim (cases_lt d 64) as (λ _. Told signed (rule.Signed d) ts) [
      | inl lt ↦ elim (ih signed (d + 1) (after ts) (omega arith)) as (λ _. Told signed (rule.Signed d) ts) [
        | inl (inner, rest, h) ↦ inl (tree.plus inner, rest, read_plus d ts (after ts) rest inner (tree.plus inner) k lt refl h refl)
        | inr f ↦ inr (fails_later (leads_plus d ts (after ts) k lt refl) f)
      ]
      | inr le ↦ inr (fails_plus d ts k le)
    ]
    | inr p ↦ elim (ih atom d ts (omega arith)) as (λ _. Told signed (rule.Signed d) ts) [
      | inl (inner, rest, h) ↦ inl (inner, rest, record { spelled = no_sign n p h.spelled; reads = leads_on (leads_no_sign d ts n p) h.reads })
      | inr f ↦ inr (fails_later (leads_no_sign d ts n p) f)
    ]
  ]
]

-- ---- calls

abbrev CountedTold : ℕ → ℕ → Word → Shape → List Token → Type 0
CountedTold d p w one ts = ((t : Tree) × (rest : List Token) × IsCounted d p w one ts t rest) ⊎ Fails (counted_parts d p w one) ts

-- an allowed call has a tree
allowed_tree : (p : ℕ) (w : Word) (s : Shape) (items : Trees) → is_allowed w s ≡ true → (t : Tree) × (call_of p w s items ≡ Some t)
allowed_tree p word.Plain s items h = absurd (cc)
allowed_tree p (word.Scalar f) s items h = (tree.call f items, rw h refl)
allowed_tree p (word.Aggregate f) s items h = (folded_of p f s items, rw h refl)
allowed_tree p word.IntegerType s items h = absurd (cc)
allowed_tree p word.TextType s items h = absurd (cc)

abbrev EndTold : ℕ → Word → Shape → Trees → List Token → Type 0
EndTold p w s items ts = ((t : Tree) × IsClosed p w s items ts t (after ts)) ⊎ Fails (One (expected.EndOfCall p w s) ∷ []) ts

end_told : (p : ℕ) (w : Word) (s : Shape) (items : Trees) (ts : List Token) → EndTold p w s items ts
end_told p w s items ts = elim (close_or (next ts).kind) as (λ _. EndTold p w s items ts) [
  | inl c ↦ elim (flag_or (is_allowed w s)) as (λ _. EndTold p w s items ts) [
    | inl a ↦ let t = allowed_tree p w s items a in inl (t.0, record { closed = c; allowed = t.1; takes = refl })
    | inr n ↦ inr (fails_end p w s ts c n)
  ]
  | inr n ↦ inr (call_unclosed p w s ts n)
]

arguments_told : (m : ℕ) → Decides m → (k d p : ℕ) (w : Word) (one s : Shape) (ts here : List Token) (items : Trees) → IsCountedSoFar d p w one ts items s here → length here < k → 12 * (length here + 1) ≤ m → CountedTold d p w one ts
arguments_told m ih zero d p w one s ts here items h lt b = absurd (omega arith)
arguments_told m ih (suc k) d p w one s ts here items h lt b = elim (comma_or (next here).kind) as (λ _. CountedTold d p w one ts) [
  | inl c ↦ let u = after_shorter here (λ e. cc) in elim (ih (chain level.Or) d (after here) (omega arith)) as (λ _. CountedTold d p w one ts) [
    | inl (item, new, g) ↦ let v = shorter g.spelled in
        arguments_told m ih k d p w one (one_longer s) ts new (and_tree items item) (counted_more d p w one ts here (after here) new items (and_tree items item) item s (one_longer s) h c refl g refl refl) (omega arith) (omega arith)
    | inr f ↦ inr (stopped_argument d p w one ts here (after here) items s Refused h c refl f)
  ]
  | inr n ↦ elim (end_told p w s items here) as (λ _. CountedTold d p w one ts) [
    | inl (t, e) ↦ inl (
      t,
      after here,
      record {
        items = items;
        has = s;
        spelled = h.spelled s items (after here) (last_argument e.closed);
        allowed = e.allowed;
        reads = leads_on h.reads (leads_on (leads_last d p w s here n) (leads_end p w s items t here (after here) e));
      },
    )
    | inr f ↦ inr (fails_later (leads_on h.reads (leads_last d p w s here n)) f)
  ]
]

counted_told : (m : ℕ) → Decides m → (d p : ℕ) (w : Word) (one : Shape) (ts : List Token) → 12 * (length ts + 1) ≤ m → CountedTold d p w one ts
counted_told m ih d p w one ts b = elim (ih (chain level.Or) d ts (omega arith)) as (λ _. CountedTold d p w one ts) [
  | inl (first, here, h) ↦ let u = shorter h.spelled in arguments_told m ih (suc (length here)) d p w one one ts here (and_tree no_trees first) (counted_start d p w one ts here first (and_tree no_trees first) h refl) (omega arith) (omega arith)
  | inr f ↦ inr (fails_with (Must (rule.AfterArgument d p w one) ∷ []) f)
]

abbrev CallTold : ℕ → ℕ → Word → List Token → Type 0
CallTold d p w ts = ((t : Tree) × (rest : List Token) × IsCall d p w ts t rest) ⊎ Fails (call_parts d p w) ts

all_told : (d p : ℕ) (w : Word) (ts : List Token) → IsOpening d p w ts (after ts) → (next (after ts)).kind ≡ kind.Star → CallTold d p w ts
all_told d p w ts o k = elim (end_told p w shape.All no_trees (after (after ts))) as (λ _. CallTold d p w ts) [
  | inl (t, e) ↦ inl (
    t,
    after (after (after ts)),
    record {
      items = no_trees;
      has = shape.All;
      spelled = all_rows o.opened k e.closed;
      allowed = e.allowed;
      reads = leads_on (leads_all d p w ts (after ts) (after (after ts)) o k refl) (leads_end p w shape.All no_trees t (after (after ts)) (after (after (after ts))) e);
    },
  )
  | inr f ↦ inr (fails_later (leads_all d p w ts (after ts) (after (after ts)) o k refl) f)
]

distinct_told : (m : ℕ) → Decides m → (d p : ℕ) (w : Word) (ts : List Token) → IsOpening d p w ts (after ts) → (next (after ts)).kind ≡ kind.Distinct → 12 * (length (after (after ts)) + 1) ≤ m → CallTold d p w ts
distinct_told m ih d p w ts o k b = elim (counted_told m ih (d + 1) p w (shape.Distinct 1) (after (after ts)) b) as (λ _. CallTold d p w ts) [
  | inl (t, rest, h) ↦ inl (
    t,
    rest,
    record {
      items = h.items;
      has = h.has;
      spelled = distinct_arguments o.opened k h.spelled;
      allowed = h.allowed;
      reads = leads_on (leads_distinct d p w ts (after ts) (after (after ts)) o k refl) h.reads;
    },
  )
  | inr f ↦ inr (fails_later (leads_distinct d p w ts (after ts) (after (after ts)) o k refl) f)
]

plain_told : (m : ℕ) → Decides m → (d p : ℕ) (w : Word) (ts : List Token) → IsOpening d p w ts (after ts) → (next (after ts)).kind ≢ kind.Close → (next (after ts)).kind ≢ kind.Star → (next (after ts)).kind ≢ kind.Distinct → 12 * (length (after ts) + 1) ≤ m → CallTold d p w ts
plain_told m ih d p w ts o x y z b = elim (counted_told m ih (d + 1) p w (shape.Plain 1) (after ts) b) as (λ _. CallTold d p w ts) [
  | inl (t, rest, h) ↦ inl (
    t,
    rest,
    record {
      items = h.items;
      has = h.has;
      spelled = plain_arguments o.opened x y z h.spelled;
      allowed = h.allowed;
      reads = leads_on (leads_on (leads_arguments d p w ts (after ts) o) (leads_plain (d + 1) p w (after ts) x y z)) h.reads;
    },
  )
  | inr f ↦ inr (fails_later (leads_on (leads_arguments d p w ts (after ts) o) (leads_plain (d + 1) p w (after ts) x y z)) f)
]

opened_call_told : (m : ℕ) → Decides m → (d p : ℕ) (w : Word) (ts : List Token) → IsOpening d p w ts (after ts) → 12 * (length ts + 1) ≤ m → CallTold d p w ts
opened_call_told m ih d p w ts o b = let k = o.opened in let u = after_shorter ts (λ e. cc) in elim (close_or (next (after ts)).kind) as (λ _. CallTold d p w ts) [
  | inl c ↦ inr (fails_empty_call d p w ts (after ts) o c)
  | inr x ↦ elim (star_or (next (after ts)).kind) as (λ _. CallTold d p w ts) [
    | inl s ↦ all_told d p w ts o s
    | inr y ↦ elim (distinct_or (next (after ts)).kind) as (λ _. CallTold d p w ts) [
      | inl s ↦ let v = after_shorter (after ts) (λ e. cc) in distinct_told m ih d p w ts o s (omega arith)
      | inr z ↦ plain_told m ih d p w ts o x y z (omega arith)
    ]
  ]
]

call_told : (m : ℕ) → Decides m → (d p : ℕ) (w : Word) (ts : List Token) → (next ts).kind ≡ kind.Open → 12 * (length ts + 1) ≤ m → CallTold d p w ts
call_told m ih d p w ts k b = elim (flag_or (is_known w)) as (λ _. CallTold d p w ts) [
  | inl known ↦ elim (cases_lt d 64) as (λ _. CallTold d p w ts) [
    | inl lt ↦ opened_call_told m ih d p w ts (record { known = known; opened = k; room = lt; takes = refl }) b
    | inr le ↦ inr (fails_deep_call d p w ts le)
  ]
  | inr n ↦ inr (fails_unknown d p w ts n)
]

-- ---- casts

abbrev TypeTold : List Token → Type 0
TypeTold ts = ((is_text : Bool) × (rest : List Token) × IsType ts is_text rest) ⊎ Fails type_parts ts

pub name_or : (k : Kind) → ((w : Word) × IsNamed k w) ⊎ ((w : Word) → IsNamed k w → ⊥)
name_or (kind.Name w) = inl (w, refl)
name_or (kind.QuotedName w) = inl (w, refl)
name_or other = inr (λ w h. h)

same_word : (k : Kind) (w v : Word) → IsNamed k w → IsNamed k v → v ≡ w
same_word (kind.Name u) w v h g = sym g ∙ h
same_word (kind.QuotedName u) w v h g = sym g ∙ h
same_word other w v h g = absurd h

type_or : (o : Option Bool) → ((b : Bool) × (o ≡ Some b)) ⊎ (o ≡ None)
type_or None = inr refl
type_or (Some b) = inl (b, refl)

typed_told : (ts : List Token) (w : Word) (is_text : Bool) → (next ts).kind ≡ kind.As → IsNamed (next (after ts)).kind w → type_of w ≡ Some is_text → TypeTold ts
typed_told ts w is_text a n y = elim (close_or (next (after (after ts))).kind) as (λ _. TypeTold ts) [
  | inl c ↦ inl (
    is_text,
    after (after (after ts)),
    record {
      spelled = record { word = w; begins = a; named = n; typed = y; closed = c; ends = refl };
      reads = leads_on (leads_as ts (after ts) a refl) (leads_on (leads_with (One expected.Close ∷ []) (leads_type (after ts) (after (after ts)) w is_text n y refl)) (leads_close (after (after ts)) (after (after (after ts))) c refl));
    },
  )
  | inr f ↦ inr (fails_later (leads_on (leads_as ts (after ts) a refl) (leads_with (One expected.Close ∷ []) (leads_type (after ts) (after (after ts)) w is_text n y refl))) (fails_close (after (after ts)) f))
]

untyped_told : (ts : List Token) → (next ts).kind ≡ kind.As → ((v : Word) → IsNamed (next (after ts)).kind v → type_of v ≡ None) → TypeTold ts
untyped_told ts a h = inr (fails_later (leads_as ts (after ts) a refl) (fails_with (One expected.Close ∷ []) (fails_type (after ts) (next (after ts)).kind refl h)))

type_told : (ts : List Token) → TypeTold ts
type_told ts = elim (as_or (next ts).kind) as (λ _. TypeTold ts) [
  | inl a ↦ elim (name_or (next (after ts)).kind) as (λ _. TypeTold ts) [
    | inl (w, n) ↦ elim (type_or (type_of w)) as (λ _. TypeTold ts) [
      | inl (is_text, y) ↦ typed_told ts w is_text a n y
      | inr y ↦ untyped_told ts a (λ v g. ap type_of (same_word (next (after ts)).kind w v n g) ∙ y)
    ]
    | inr f ↦ untyped_told ts a (λ v g. absurd (f v g))
  ]
  | inr f ↦ inr (fails_as ts f)
]

abbrev CastTold : ℕ → List Token → Type 0
CastTold d ts = ((t : Tree) × (rest : List Token) × IsCast d ts t rest) ⊎ Fails (cast_parts d) ts

cast_told : (m : ℕ) → Decides m → (d : ℕ) (ts : List Token) → 12 * (length ts + 1) ≤ m → CastTold d ts
cast_told m ih d ts b = elim (open_or (next ts).kind) as (λ _. CastTold d ts) [
  | inl k ↦ let u = after_shorter ts (λ e. cc) in elim (cases_lt d 64) as (λ _. CastTold d ts) [
    | inl lt ↦ elim (ih (chain level.Or) (d + 1) (after ts) (omega arith)) as (λ _. CastTold d ts) [
      | inl (inner, here, h) ↦ elim (type_told here) as (λ _. CastTold d ts) [
        | inl (is_text, rest, g) ↦ inl (
          tree.cast inner is_text,
          rest,
          record {
            inner = inner;
            middle = here;
            is_text = is_text;
            opened = k;
            spelled = h.spelled;
            typed = g.spelled;
            is = refl;
            reads = leads_on (leads_cast d ts (after ts) k lt refl) (leads_on (leads_with type_parts h.reads) g.reads);
          },
        )
        | inr f ↦ inr (fails_later (leads_on (leads_cast d ts (after ts) k lt refl) (leads_with type_parts h.reads)) f)
      ]
      | inr f ↦ inr (stopped_inner d ts (after ts) Refused k lt refl f)
    ]
    | inr le ↦ inr (fails_deep_cast d ts k le)
  ]
  | inr n ↦ inr (fails_cast_open d ts n)
]

-- ---- atoms

member_told : (d : ℕ) (w : Word) (ts : List Token) → IsNamed (next ts).kind w → (next (after ts)).kind ≡ kind.Dot → Told atom (rule.Atom d) ts
unfolding found
member_told d w ts n k = elim (name_or (next (after (after ts))).kind) as (λ _. Told atom (rule.Atom d) ts) [
  | inl (v, g) ↦ inl (
    tree.column (Some (name_of (next ts))) (name_of (next (after (after ts)))),
    after (after (after ts)),
    record {
      spelled = a_table_column w v n k g;
      reads = leads_on (leads_name d w ts (after ts) n refl) (leads_on (leads_dot d (next ts).span.start w (after ts) (after (after ts)) k refl) (leads_take expected.Name (after (after ts)) (after (after (after ts))) (name_fits (next (after (after ts))).kind v g) refl (named_no_end (next (after (after ts))).kind v g) refl));
    },
  )
  | inr f ↦ inr (fails_later (leads_on (leads_name d w ts (after ts) n refl) (leads_dot d (next ts).span.start w (after ts) (after (after ts)) k refl)) (fails_one expected.Name (after (after ts)) (name_misfit (next (after (after ts))).kind f)))
]

named_told : (m : ℕ) → Decides m → (d : ℕ) (w : Word) (ts : List Token) → IsNamed (next ts).kind w → 12 * (length ts + 1) ≤ suc m + above atom → Told atom (rule.Atom d) ts
named_told m ih d w ts n b = let u = after_shorter ts (named_no_end (next ts).kind w n) in elim (dot_or (next (after ts)).kind) as (λ _. Told atom (rule.Atom d) ts) [
  | inl k ↦ member_told d w ts n k
  | inr x ↦ elim (open_or (next (after ts)).kind) as (λ _. Told atom (rule.Atom d) ts) [
    | inl k ↦ elim (call_told m ih d (next ts).span.start w (after ts) k (omega arith)) as (λ _. Told atom (rule.Atom d) ts) [
      | inl (t, rest, h) ↦ inl (
        t,
        rest,
        record {
          spelled = a_call w n h.spelled h.allowed;
          reads = leads_on (leads_name d w ts (after ts) n refl) (leads_on (leads_call d (next ts).span.start w (after ts) k) h.reads);
        },
      )
      | inr f ↦ inr (fails_later (leads_on (leads_name d w ts (after ts) n refl) (leads_call d (next ts).span.start w (after ts) k)) f)
    ]
    | inr y ↦ inl (tree.column None (name_of (next ts)), after ts, read_column d w ts (after ts) (tree.column None (name_of (next ts))) n refl x y refl)
  ]
]

parentheses_told : (m : ℕ) → Decides m → (d : ℕ) (ts : List Token) → (next ts).kind ≡ kind.Open → 12 * (length ts + 1) ≤ suc m + above atom → Told atom (rule.Atom d) ts
parentheses_told m ih d ts k b = let u = after_shorter ts (λ e. cc) in elim (cases_lt d 64) as (λ _. Told atom (rule.Atom d) ts) [
  | inl lt ↦ elim (ih (chain level.Or) (d + 1) (after ts) (omega arith)) as (λ _. Told atom (rule.Atom d) ts) [
    | inl (inner, here, h) ↦ elim (close_or (next here).kind) as (λ _. Told atom (rule.Atom d) ts) [
      | inl c ↦ inl (inner, after here, read_parentheses d ts (after ts) here (after here) inner k lt refl h c refl)
      | inr n ↦ inr (fails_later (leads_on (leads_parenthesis d ts (after ts) k lt refl) (leads_with (One expected.Close ∷ []) h.reads)) (fails_close here n))
    ]
    | inr f ↦ inr (fails_later (leads_parenthesis d ts (after ts) k lt refl) (fails_with (One expected.Close ∷ []) f))
  ]
  | inr le ↦ inr (fails_parenthesis d ts k le)
]

atom_cast_told : (m : ℕ) → Decides m → (d : ℕ) (ts : List Token) → (next ts).kind ≡ kind.Cast → 12 * (length ts + 1) ≤ suc m + above atom → Told atom (rule.Atom d) ts
atom_cast_told m ih d ts k b = let u = after_shorter ts (λ e. cc) in elim (cast_told m ih d (after ts) (omega arith)) as (λ _. Told atom (rule.Atom d) ts) [
  | inl (t, rest, h) ↦ inl (
    t,
    rest,
    record {
      spelled = subst (λ (x : Tree). Spells atom ts x rest) (sym h.is) (a_cast k h.opened h.spelled h.typed);
      reads = leads_on (leads_cast_word d ts (after ts) k refl) h.reads;
    },
  )
  | inr f ↦ inr (fails_later (leads_cast_word d ts (after ts) k refl) f)
]

atom_told : (m : ℕ) → Decides m → (d : ℕ) (ts : List Token) (k : Kind) → (next ts).kind ≡ k → 12 * (length ts + 1) ≤ suc m + above atom → Told atom (rule.Atom d) ts
atom_told m ih d ts (kind.Number (Some value)) h b = inl (tree.number (next ts).span.start value, after ts, read_number d value ts (after ts) (tree.number (next ts).span.start value) h refl refl)
atom_told m ih d ts (kind.Number None) h b = inr (fails_wide d ts h)
atom_told m ih d ts kind.Text h b = inl (tree.text (next ts).span, after ts, read_text d ts (after ts) (tree.text (next ts).span) h refl refl)
atom_told m ih d ts kind.Null h b = inl (tree.null, after ts, read_null d ts (after ts) tree.null h refl refl)
atom_told m ih d ts (kind.Name w) h b = named_told m ih d w ts (rw h refl) b
atom_told m ih d ts (kind.QuotedName w) h b = named_told m ih d w ts (rw h refl) b
atom_told m ih d ts kind.Cast h b = atom_cast_told m ih d ts h b
atom_told m ih d ts kind.Open h b = parentheses_told m ih d ts h b
atom_told m ih d ts other h b = inr (fails_atom d ts (subst (λ (x : Kind). BeginsNone x) (sym h) tt))

-- ---- every list of tokens

pub decided : (n : ℕ) → Decides n
decided zero c d ts b = let p = above_small c in absurd (omega arith)
decided (suc m) (chain l) d ts b = chain_told m (decided m) l d ts b
decided (suc m) negated d ts b = negated_told m (decided m) d ts b
decided (suc m) signed d ts b = signed_told m (decided m) d ts b
decided (suc m) atom d ts b = atom_told m (decided m) d ts (next ts).kind refl b

-- an expression outside every parenthesis
pub expression_told : (ts : List Token) → Told (chain level.Or) (rule.Chain level.Or 0) ts
expression_told ts = decided (12 * (length ts + 1)) (chain level.Or) 0 ts (omega arith)
