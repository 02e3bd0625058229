-- The arms of the descent that read something: the tree is spelled, and the reading goes on.
use Rattle.std.proofs.Common.{◌≡◌, ◌≢◌, ◌<◌, ◌≤◌, ◌+◌, ℕ, List, [], ◌∷◌, Option, Some, None, Bool, true, false, ℤ, Result, Ok, Err, IsTrue, is_some, refl, sym, ap, subst, ◌∙◌}
use Rattle.sql_tokens.specs.declared.token.Token.{Token}
use Rattle.sql_tokens.specs.declared.token.Kind.TheVariants as kind
use Rattle.sql_tokens.specs.declared.level.Level.{Level}
use Rattle.sql_tokens.specs.declared.level.Level.TheVariants as level
use Rattle.sql_tokens.specs.declared.level.Sign.{Sign}
use Rattle.sql_tokens.specs.declared.level.Sign.TheVariants as sign
use Rattle.sql_faults.specs.declared.part.Part.TheVariants.{One, Must, May}
use Rattle.sql_faults.specs.declared.part.Expected.TheVariants as expected
use Rattle.sql_faults.specs.declared.part.Rule.TheVariants as rule
use Rattle.sql_faults.specs.declared.part.Optional.TheVariants as optional
use Rattle.sql_parser.specs.declared.stop.Stop.{Stop}
use Rattle.sql_parser.specs.declared.stop.Stop.TheVariants.{Refused, NoMemory}
use Rattle.sql_tree.specs.declared.tree.Step.{Step}
use Rattle.sql_tree.specs.declared.tree.Node.{Node}
use Rattle.sql_tree.specs.View.{step_of, tree_of}
use Rattle.std.proofs.lemmas.Bool.{false≢true}
use Rattle.sql_tree.specs.declared.tree.Operator.{Operator}
use Rattle.sql_tree.specs.declared.tree.Operator.TheVariants as op
use Rattle.sql_tokens.specs.Tokens.{next, after}
use Rattle.sql_tree.specs.Tree.{Tree, OneStep, binary, among, between, Steps, no_steps, then, Trees, no_trees, and_tree, chained}
use Rattle.sql_tree.specs.Tree as tree
use Rattle.sql_tokens.specs.Levels.{sign_at}
use Rattle.sql_parser.specs.Grammar.{Class, chain, negated, signed, atom, operand, Spells, Further, SpellsStep, FurtherItems, SpellsList, SpellsNegated, SpellsBetween, a_chain, a_not, a_minus, a_plus, a_number, a_text, a_null, in_parentheses, no_more, more, a_binary, an_is, an_is_not, an_in, a_between, a_negated, a_not_like, a_not_in, a_not_between, two_ends, no_items, some_items, last, one_more}
use Rattle.sql_faults.specs.Reading.{operand_rule, further, list_parts, between_parts}
use Rattle.sql_parser.specs.Descent.{Leads, Fails, Stopped, IsRead, IsStep, IsNoStep, IsList, IsNegated, IsBetween, IsIs, StoppedStep, NegatedDescends, BetweenDescends, NumberRead, Descends}
use Rattle.sql_parser.proofs.Laws.{leads_on, leads_with, fails_later, leads_chain}
use Rattle.sql_parser.proofs.Arms.{stopped_later, stopped_with, leads_not, leads_minus, leads_plus, reads_number, reads_text, reads_null, leads_parenthesis, leads_close, leads_and, leads_like, leads_not_in, leads_not_between, leads_is_not, leads_is, leads_no_operator, reads_step, empty_list, leads_open, leads_items, leads_comma, leads_no_comma, fails_operator, fails_close, fails_wide}

-- what is spelled from a list is spelled from an equal one
moved : {c : Class} {t : Tree} {rest : List Token} (mid ts : List Token) → mid ≡ after ts → Spells c mid t rest → Spells c (after ts) t rest
moved {c} {t} {rest} mid ts m s = subst (λ (x : List Token). Spells c x t rest) m s

as_tree : {c : Class} {r : _} {ts rest : List Token} (inner whole : Tree) → whole ≡ inner → IsRead c r ts inner rest → IsRead c r ts whole rest
as_tree {c} {r} {ts} {rest} inner whole e h = subst (λ (x : Tree). IsRead c r ts x rest) (sym e) h

pub read_not : (d : ℕ) (ts mid rest : List Token) (inner whole : Tree) → (next ts).kind ≡ kind.Not → d < 64 → mid ≡ after ts → IsRead negated (rule.Negated (d + 1)) mid inner rest → whole ≡ tree.negation inner
    → IsRead negated (rule.Negated d) ts whole rest
read_not d ts mid rest inner whole k lt m h e = as_tree (tree.negation inner) whole e (record { spelled = a_not k (moved mid ts m h.spelled); reads = leads_on (leads_not d ts mid k lt m) h.reads })

pub read_minus : (d : ℕ) (ts mid rest : List Token) (inner whole : Tree) → (next ts).kind ≡ kind.Minus → d < 64 → mid ≡ after ts → IsRead signed (rule.Signed (d + 1)) mid inner rest → whole ≡ tree.minus inner
    → IsRead signed (rule.Signed d) ts whole rest
read_minus d ts mid rest inner whole k lt m h e = as_tree (tree.minus inner) whole e (record { spelled = a_minus k (moved mid ts m h.spelled); reads = leads_on (leads_minus d ts mid k lt m) h.reads })

pub read_plus : (d : ℕ) (ts mid rest : List Token) (inner whole : Tree) → (next ts).kind ≡ kind.Plus → d < 64 → mid ≡ after ts → IsRead signed (rule.Signed (d + 1)) mid inner rest → whole ≡ tree.plus inner
    → IsRead signed (rule.Signed d) ts whole rest
read_plus d ts mid rest inner whole k lt m h e = as_tree (tree.plus inner) whole e (record { spelled = a_plus k (moved mid ts m h.spelled); reads = leads_on (leads_plus d ts mid k lt m) h.reads })

pub read_number : (d : ℕ) (value : _) (ts rest : List Token) (whole : Tree) → (next ts).kind ≡ kind.Number (Some value) → rest ≡ after ts → whole ≡ tree.number (next ts).span.start value → IsRead atom (rule.Atom d) ts whole rest
read_number d value ts rest whole k m e = as_tree (tree.number (next ts).span.start value) whole e (record { spelled = subst (λ (x : List Token). Spells atom ts (tree.number (next ts).span.start value) x) (sym m) (a_number k); reads = reads_number d value ts rest k m })

pub read_text : (d : ℕ) (ts rest : List Token) (whole : Tree) → (next ts).kind ≡ kind.Text → rest ≡ after ts → whole ≡ tree.text (next ts).span → IsRead atom (rule.Atom d) ts whole rest
read_text d ts rest whole k m e = as_tree (tree.text (next ts).span) whole e (record { spelled = subst (λ (x : List Token). Spells atom ts (tree.text (next ts).span) x) (sym m) (a_text k); reads = reads_text d ts rest k m })

pub read_null : (d : ℕ) (ts rest : List Token) (whole : Tree) → (next ts).kind ≡ kind.Null → rest ≡ after ts → whole ≡ tree.null → IsRead atom (rule.Atom d) ts whole rest
read_null d ts rest whole k m e = as_tree tree.null whole e (record { spelled = subst (λ (x : List Token). Spells atom ts tree.null x) (sym m) (a_null k); reads = reads_null d ts rest k m })

pub read_parentheses : (d : ℕ) (ts mid end rest : List Token) (inner : Tree) → (next ts).kind ≡ kind.Open → d < 64 → mid ≡ after ts → IsRead (chain level.Or) (rule.Chain level.Or (d + 1)) mid inner end → (next end).kind ≡ kind.Close → rest ≡ after end
    → IsRead atom (rule.Atom d) ts inner rest
read_parentheses d ts mid end rest inner k lt m h k' m' = record {
  spelled = subst (λ (x : List Token). Spells atom ts inner x) (sym m') (in_parentheses k (moved mid ts m h.spelled) k');
  reads = leads_on (leads_parenthesis d ts mid k lt m) (leads_on (leads_with (One expected.Close ∷ []) h.reads) (leads_close end rest k' m'));
}

-- ---- steps

as_step : {l : Level} {d : ℕ} {ts rest : List Token} (inner whole : OneStep) → whole ≡ inner → IsStep l d ts inner rest → IsStep l d ts whole rest
as_step {l} {d} {ts} {rest} inner whole e h = subst (λ (x : OneStep). IsStep l d ts x rest) (sym e) h

pub read_binary : (l : Level) (d : ℕ) (o : Operator) (ts mid rest : List Token) (right : Tree) (whole : OneStep) → sign_at l (next ts).kind ≡ Some (sign.Binary o) → mid ≡ after ts → IsRead (operand l) (operand_rule l d) mid right rest → whole ≡ binary o right
    → IsStep l d ts whole rest
read_binary l d o ts mid rest right whole s m h e = as_step (binary o right) whole e (record { spelled = a_binary s (moved mid ts m h.spelled); reads = reads_step l d (sign.Binary o) ts mid rest s m h.reads })

pub is_leads : (o : Operator) (old new : List Token) → IsIs old o new → Leads (May optional.Not ∷ []) [] old new
is_leads op.Is old new h = subst (λ (x : List Token). Leads (May optional.Not ∷ []) [] old x) (sym h.1) (leads_is old h.0)
is_leads op.IsNot old new h = leads_is_not old new h.0 h.1
is_leads other old new h = absurd h

is_spelled : (l : Level) (o : Operator) (ts mid new rest : List Token) (right : Tree) → sign_at l (next ts).kind ≡ Some sign.Is → mid ≡ after ts → IsIs mid o new → Spells (operand l) new right rest → SpellsStep l ts (binary o right) rest
is_spelled l op.Is ts mid new rest right s m h t = an_is s (subst (λ (x : List Token). (next x).kind ≢ kind.Not) m h.0) (subst (λ (x : List Token). Spells (operand l) x right rest) (h.1 ∙ m) t)
is_spelled l op.IsNot ts mid new rest right s m h t = an_is_not s (subst (λ (x : List Token). (next x).kind ≡ kind.Not) m h.0) (subst (λ (x : List Token). Spells (operand l) x right rest) (h.1 ∙ ap after m) t)
is_spelled l other ts mid new rest right s m h t = absurd h

pub read_is : (l : Level) (d : ℕ) (o : Operator) (ts mid new rest : List Token) (right : Tree) (whole : OneStep) → sign_at l (next ts).kind ≡ Some sign.Is → mid ≡ after ts → IsIs mid o new → IsRead (operand l) (operand_rule l d) new right rest → whole ≡ binary o right
    → IsStep l d ts whole rest
read_is l d o ts mid new rest right whole s m i h e = as_step (binary o right) whole e (record {
  spelled = is_spelled l o ts mid new rest right s m i h.spelled;
  reads = reads_step l d sign.Is ts mid rest s m (leads_on (leads_with (Must (operand_rule l d) ∷ []) (is_leads o mid new i)) h.reads);
})

pub read_in : (l : Level) (d : ℕ) (ts mid rest : List Token) (items : Trees) (whole : OneStep) → sign_at l (next ts).kind ≡ Some sign.In → mid ≡ after ts → IsList d mid items rest → whole ≡ among false items → IsStep l d ts whole rest
read_in l d ts mid rest items whole s m h e = as_step (among false items) whole e (record { spelled = an_in s (subst (λ (x : List Token). SpellsList x items rest) m h.spelled); reads = reads_step l d sign.In ts mid rest s m h.reads })

pub read_between : (l : Level) (d : ℕ) (ts mid rest : List Token) (step : OneStep) → sign_at l (next ts).kind ≡ Some sign.Between → mid ≡ after ts → IsBetween l d false mid step rest → IsStep l d ts step rest
read_between l d ts mid rest step s m h = record { spelled = a_between s (subst (λ (x : List Token). SpellsBetween l false x step rest) m h.spelled); reads = reads_step l d sign.Between ts mid rest s m h.reads }

pub read_negated : (l : Level) (d : ℕ) (ts mid rest : List Token) (step : OneStep) → sign_at l (next ts).kind ≡ Some sign.Not → mid ≡ after ts → IsNegated l d mid step rest → IsStep l d ts step rest
read_negated l d ts mid rest step s m h = record { spelled = a_negated s (subst (λ (x : List Token). SpellsNegated l x step rest) m h.spelled); reads = reads_step l d sign.Not ts mid rest s m h.reads }

pub read_not_like : (l : Level) (d : ℕ) (ts mid rest : List Token) (right : Tree) (whole : OneStep) → (next ts).kind ≡ kind.Like → mid ≡ after ts → IsRead (operand l) (operand_rule l d) mid right rest → whole ≡ binary op.NotLike right → IsNegated l d ts whole rest
read_not_like l d ts mid rest right whole k m h e = subst (λ (x : OneStep). IsNegated l d ts x rest) (sym e) (record { spelled = a_not_like k (moved mid ts m h.spelled); reads = leads_on (leads_like l d ts mid k m) h.reads })

pub read_not_in : (l : Level) (d : ℕ) (ts mid rest : List Token) (items : Trees) (whole : OneStep) → (next ts).kind ≡ kind.In → mid ≡ after ts → IsList d mid items rest → whole ≡ among true items → IsNegated l d ts whole rest
read_not_in l d ts mid rest items whole k m h e = subst (λ (x : OneStep). IsNegated l d ts x rest) (sym e) (record { spelled = a_not_in k (subst (λ (x : List Token). SpellsList x items rest) m h.spelled); reads = leads_on (leads_not_in l d ts mid k m) h.reads })

pub read_not_between : (l : Level) (d : ℕ) (ts mid rest : List Token) (step : OneStep) → (next ts).kind ≡ kind.Between → mid ≡ after ts → IsBetween l d true mid step rest → IsNegated l d ts step rest
read_not_between l d ts mid rest step k m h = record { spelled = a_not_between k (subst (λ (x : List Token). SpellsBetween l true x step rest) m h.spelled); reads = leads_on (leads_not_between l d ts mid k m) h.reads }

leads_low : (l : Level) (d : ℕ) (ts mid after_and : List Token) (low : Tree) → IsRead (operand l) (operand_rule l d) ts low mid → (next mid).kind ≡ kind.And → after_and ≡ after mid → Leads (between_parts l d) (Must (operand_rule l d) ∷ []) ts after_and
leads_low l d ts mid after_and low h k m = leads_on (leads_with (One expected.And ∷ Must (operand_rule l d) ∷ []) h.reads) (leads_with (Must (operand_rule l d) ∷ []) (leads_and mid after_and k m))

pub read_two_ends : (l : Level) (d : ℕ) (is_negated : Bool) (ts mid after_and rest : List Token) (low high : Tree) (whole : OneStep) → IsRead (operand l) (operand_rule l d) ts low mid → (next mid).kind ≡ kind.And → after_and ≡ after mid
    → IsRead (operand l) (operand_rule l d) after_and high rest → whole ≡ between is_negated low high → IsBetween l d is_negated ts whole rest
read_two_ends l d is_negated ts mid after_and rest low high whole h k m g e = subst (λ (x : OneStep). IsBetween l d is_negated ts x rest) (sym e) (record {
  spelled = two_ends h.spelled k (moved after_and mid m g.spelled);
  reads = leads_on (leads_low l d ts mid after_and low h k m) g.reads;
})

pub stopped_high : (l : Level) (d : ℕ) (ts mid after_and : List Token) (low : Tree) (e : Stop) → IsRead (operand l) (operand_rule l d) ts low mid → (next mid).kind ≡ kind.And → after_and ≡ after mid → Stopped (Must (operand_rule l d) ∷ []) after_and e
    → Stopped (between_parts l d) ts e
stopped_high l d ts mid after_and low e h k m g = stopped_later e (leads_low l d ts mid after_and low h k m) g

-- ---- chains

pub record IsChainSoFar (l : Level) (d count : ℕ) (ts : List Token) (first : Tree) (steps : Steps) (here : List Token) : Type 0 where
  pub spelled : (all : Steps) (rest : List Token) → Further l here steps all rest → Spells (chain l) ts (chained first all) rest
  pub reads : Leads (Must (rule.Chain l d) ∷ []) (further l d count ∷ []) ts here

pub chain_start : (l : Level) (d : ℕ) (ts here : List Token) (first : Tree) → IsRead (operand l) (operand_rule l d) ts first here → IsChainSoFar l d 0 ts first no_steps here
chain_start l d ts here first h = record { spelled = λ all rest f. a_chain h.spelled f; reads = leads_on (leads_chain l d ts) (leads_with (further l d 0 ∷ []) h.reads) }

pub chain_more : (l : Level) (d count : ℕ) (ts here next_here : List Token) (first : Tree) (steps : Steps) (step : OneStep) → IsChainSoFar l d count ts first steps here → count < 1000 → IsStep l d here step next_here
    → IsChainSoFar l d (count + 1) ts first (then steps step) next_here
chain_more l d count ts here next_here first steps step h lt s = record { spelled = λ all rest f. h.spelled all rest (more s.spelled f); reads = leads_on h.reads (s.reads.holds count lt) }

pub chain_end : (l : Level) (d count : ℕ) (ts here rest : List Token) (first : Tree) (steps : Steps) (whole : Tree) → IsChainSoFar l d count ts first steps here → IsNoStep l here rest → whole ≡ chained first steps → IsRead (chain l) (rule.Chain l d) ts whole rest
chain_end l d count ts here rest first steps whole h n e =
    subst (λ (x : List Token). IsRead (chain l) (rule.Chain l d) ts whole x) (sym n.same)
    (as_tree (chained first steps) whole e (record { spelled = h.spelled steps here (no_more n.none); reads = leads_on h.reads (leads_no_operator l d count here n.none) }))

-- ---- lists

pub record IsListSoFar (d : ℕ) (ts : List Token) (items : Trees) (here : List Token) : Type 0 where
  pub spelled : (all : Trees) (rest : List Token) → FurtherItems here items all rest → SpellsList ts all rest
  pub opened : (next ts).kind ≡ kind.Open
  pub reads : Leads (list_parts d) (May (optional.Item (d + 1)) ∷ One expected.Close ∷ []) ts here

leads_first : (d : ℕ) (ts mid : List Token) → (next ts).kind ≡ kind.Open → d < 64 → mid ≡ after ts → (next mid).kind ≢ kind.Close → Leads (list_parts d) (Must (rule.Chain level.Or (d + 1)) ∷ May (optional.Item (d + 1)) ∷ One expected.Close ∷ []) ts mid
leads_first d ts mid o lt m c = leads_on (leads_open d ts mid o lt m) (leads_items (d + 1) mid c)

pub stopped_first : (d : ℕ) (ts mid : List Token) (e : Stop) → (next ts).kind ≡ kind.Open → d < 64 → mid ≡ after ts → (next mid).kind ≢ kind.Close → Stopped (Must (rule.Chain level.Or (d + 1)) ∷ []) mid e → Stopped (list_parts d) ts e
stopped_first d ts mid e o lt m c h = stopped_later e (leads_first d ts mid o lt m c) (stopped_with (Must (rule.Chain level.Or (d + 1)) ∷ []) (May (optional.Item (d + 1)) ∷ One expected.Close ∷ []) mid e h)

pub list_start : (d : ℕ) (ts mid here : List Token) (item : Tree) (items : Trees) → (next ts).kind ≡ kind.Open → d < 64 → mid ≡ after ts → (next mid).kind ≢ kind.Close → IsRead (chain level.Or) (rule.Chain level.Or (d + 1)) mid item here → items ≡ and_tree no_trees item
    → IsListSoFar d ts items here
list_start d ts mid here item items o lt m c h e = subst (λ (x : Trees). IsListSoFar d ts x here) (sym e) (record {
  spelled = λ all rest f. some_items o (subst (λ (x : List Token). (next x).kind ≢ kind.Close) m c) (moved mid ts m h.spelled) f;
  opened = o;
  reads = leads_on (leads_first d ts mid o lt m c) (leads_with (May (optional.Item (d + 1)) ∷ One expected.Close ∷ []) h.reads);
})

pub stopped_item : (d : ℕ) (ts here mid : List Token) (items : Trees) (e : Stop) → IsListSoFar d ts items here → (next here).kind ≡ kind.Comma → mid ≡ after here → Stopped (Must (rule.Chain level.Or (d + 1)) ∷ []) mid e → Stopped (list_parts d) ts e
stopped_item d ts here mid items e h k m g = stopped_later e (leads_on h.reads (leads_comma (d + 1) here mid k m)) (stopped_with (Must (rule.Chain level.Or (d + 1)) ∷ []) (May (optional.Item (d + 1)) ∷ One expected.Close ∷ []) mid e g)

pub list_more : (d : ℕ) (ts here mid new : List Token) (items whole : Trees) (item : Tree) → IsListSoFar d ts items here → (next here).kind ≡ kind.Comma → mid ≡ after here → IsRead (chain level.Or) (rule.Chain level.Or (d + 1)) mid item new → whole ≡ and_tree items item
    → IsListSoFar d ts whole new
list_more d ts here mid new items whole item h k m g e = subst (λ (x : Trees). IsListSoFar d ts x new) (sym e) (record {
  spelled = λ all rest f. h.spelled all rest (one_more k (moved mid here m g.spelled) f);
  opened = h.opened;
  reads = leads_on h.reads (leads_on (leads_comma (d + 1) here mid k m) (leads_with (May (optional.Item (d + 1)) ∷ One expected.Close ∷ []) g.reads));
})

pub list_end : (d : ℕ) (ts here rest : List Token) (items : Trees) → IsListSoFar d ts items here → (next here).kind ≢ kind.Comma → (next here).kind ≡ kind.Close → rest ≡ after here → IsList d ts items rest
list_end d ts here rest items h n k m = record {
  spelled = subst (λ (x : List Token). SpellsList ts items x) (sym m) (h.spelled items (after here) (last k));
  reads = leads_on h.reads (leads_on (leads_no_comma (d + 1) here n) (leads_close here rest k m));
}

pub list_empty : (d : ℕ) (ts mid rest : List Token) (items : Trees) → (next ts).kind ≡ kind.Open → d < 64 → mid ≡ after ts → (next mid).kind ≡ kind.Close → rest ≡ after mid → items ≡ no_trees → IsList d ts items rest
list_empty d ts mid rest items o lt m k r e = subst (λ (x : Trees). IsList d ts x rest) (sym e) (record {
  spelled = subst (λ (x : List Token). SpellsList ts no_trees x) (sym (r ∙ ap after m)) (no_items o (subst (λ (x : List Token). (next x).kind ≡ kind.Close) m k));
  reads = empty_list d ts mid rest o lt m k r;
})

pub same_negated : (l : Level) (d : ℕ) (ts mid new : List Token) (result : Result Step Stop) → (next ts).kind ≡ kind.Between → mid ≡ after ts → BetweenDescends l d true mid result new → NegatedDescends l d ts result new
same_negated l d ts mid new (Ok step) k m h = read_not_between l d ts mid new (step_of step) k m h
same_negated l d ts mid new (Err e) k m h = stopped_later e (leads_not_between l d ts mid k m) h

pub stopped_chain : (l : Level) (d count : ℕ) (ts here : List Token) (first : Tree) (steps : Steps) (e : Stop) → IsChainSoFar l d count ts first steps here → StoppedStep l d here e → Stopped (Must (rule.Chain l d) ∷ []) ts e
stopped_chain l d count ts here first steps Refused h k = fails_later h.reads (k.holds count)
stopped_chain l d count ts here first steps NoMemory h k = tt

-- after as many operators as a chain may have
pub chain_full : (l : Level) (d count : ℕ) (ts here : List Token) (first : Tree) (steps : Steps) (found : Option Sign) → IsChainSoFar l d count ts first steps here → 1000 ≤ count → found ≡ sign_at l (next here).kind → IsTrue (is_some found) → Fails (Must (rule.Chain l d) ∷ []) ts
chain_full l d count ts here first steps None h le e s = absurd (false≢true s)
chain_full l d count ts here first steps (Some found) h le e s = fails_later h.reads (fails_operator l d count found here (sym e) le)

pub no_step : (l : Level) (here : List Token) (found : Option Sign) → found ≡ sign_at l (next here).kind → is_some found ≡ false → IsNoStep l here here
no_step l here None e s = record { same = refl; none = sym e }
no_step l here (Some found) e s = absurd (cc)

pub list_unclosed : (d : ℕ) (ts here : List Token) (items : Trees) → IsListSoFar d ts items here → (next here).kind ≢ kind.Comma → (next here).kind ≢ kind.Close → Fails (list_parts d) ts
list_unclosed d ts here items h n k = fails_later (leads_on h.reads (leads_no_comma (d + 1) here n)) (fails_close here k)

pub number_descent : (d place : ℕ) (value : Option ℤ) (ts new : List Token) (result : Result Node Stop) → place ≡ (next ts).span.start → (next ts).kind ≡ kind.Number value → NumberRead place value ts result new → Descends atom (rule.Atom d) ts result new
number_descent d place (Some value) ts new (Ok node) p k h = read_number d value ts new (tree_of node) k h.1 (h.0 ∙ ap (λ (x : ℕ). tree.number x value) p)
number_descent d place (Some value) ts new (Err e) p k h = absurd h
number_descent d place None ts new (Ok node) p k h = absurd h
number_descent d place None ts new (Err Refused) p k h = fails_wide d ts k
number_descent d place None ts new (Err NoMemory) p k h = tt
