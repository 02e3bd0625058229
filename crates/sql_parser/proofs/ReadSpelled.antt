-- What the grammar spells is what the computed reading gives.
use Rattle.std.proofs.Common.{◌≡◌, ◌≢◌, ◌<◌, ◌≤◌, ◌+◌, ◌*◌, ℕ, suc, zero, List, length, Option, Some, None, Bool, refl, sym, ap, ◌∙◌, arith}
use Rattle.sql_tokens.specs.declared.token.Token.{Token}
use Rattle.sql_tokens.specs.declared.token.Kind.{Kind}
use Rattle.sql_tokens.specs.declared.token.Kind.TheVariants as kind
use Rattle.sql_tokens.specs.declared.token.Word.{Word}
use Rattle.sql_faults.specs.declared.arguments.Shape.{Shape}
use Rattle.sql_faults.specs.declared.arguments.Shape.TheVariants as shape
use Rattle.sql_tokens.specs.declared.level.Level.{Level}
use Rattle.sql_tokens.specs.declared.level.Level.TheVariants as level
use Rattle.sql_tokens.specs.declared.level.Sign.{Sign}
use Rattle.sql_tokens.specs.declared.level.Sign.TheVariants as sign
use Rattle.sql_tree.specs.declared.tree.Operator.TheVariants as op
use Rattle.sql_tokens.specs.Tokens.{next, after}
use Rattle.sql_tree.specs.Tree.{Tree, OneStep, Steps, Trees, and_tree}
use Rattle.sql_tree.specs.Tree as tree
use Rattle.sql_tokens.specs.Levels.{sign_at}
use Rattle.sql_faults.specs.Calls.{IsNamed, name_of, type_of}
use Rattle.sql_faults.specs.Reading.{one_longer}
use Rattle.sql_parser.specs.Grammar.{Class, chain, negated, signed, atom, operand, Spells, Further, SpellsStep, FurtherItems, SpellsList, SpellsNegated, SpellsBetween, a_chain, a_not, no_not, a_minus, a_plus, no_sign, a_number, a_text, a_null, in_parentheses, no_more, more, a_binary, an_is, an_is_not, an_in, a_between, a_negated, a_not_like, a_not_in, a_not_between, two_ends, no_items, some_items, last, one_more, a_column, a_table_column, a_call, a_cast, SpellsType, SpellsArguments, all_rows, distinct_arguments, plain_arguments, SpellsCounted, first_argument, FurtherArguments, last_argument, one_argument}
use Rattle.sql_parser.proofs.Computed.{read, Reads, and_then, more_steps, steps_by, more_items, more_by, opened, step, negated_step, is_step, ends_of, negated_by, signed_by, atom_by, named_by, member_by, list_by, counted, arguments_by, type_by, type_named}
use Rattle.sql_parser.proofs.Shorter.{shorter, shorter_step, after_shorter, named_no_end}
use Rattle.sql_parser.proofs.Arms.{sign_no_end}

abbrev pub above : Class → ℕ
above (chain level.Or) = 0
above (chain level.And) = 1
above negated = 2
above (chain level.Equal) = 3
above (chain level.Less) = 4
above (chain level.Sum) = 5
above (chain level.Product) = 6
above (chain level.Joined) = 7
above signed = 8
above atom = 9

pub above_operand : (l : Level) → above (operand l) ≡ suc (above (chain l))
above_operand level.Or = refl
above_operand level.And = refl
above_operand level.Equal = refl
above_operand level.Less = refl
above_operand level.Sum = refl
above_operand level.Product = refl
above_operand level.Joined = refl

pub above_small : (c : Class) → above c ≤ 9
above_small (chain level.Or) = omega arith
above_small (chain level.And) = omega arith
above_small negated = omega arith
above_small (chain level.Equal) = omega arith
above_small (chain level.Less) = omega arith
above_small (chain level.Sum) = omega arith
above_small (chain level.Product) = omega arith
above_small (chain level.Joined) = omega arith
above_small signed = omega arith
above_small atom = omega arith

not_by : (r : Reads) (ts : List Token) (k : Kind) → k ≢ kind.Not → negated_by r ts k ≡ r (chain level.Equal) ts
not_by r ts kind.Not h = absurd (h refl)
not_by r ts other h = refl

sign_by : (r : Reads) (ts : List Token) (k : Kind) → k ≢ kind.Minus → k ≢ kind.Plus → signed_by r ts k ≡ r atom ts
sign_by r ts kind.Minus h j = absurd (h refl)
sign_by r ts kind.Plus h j = absurd (j refl)
sign_by r ts other h j = refl

is_by : (r : Reads) (l : Level) (ts : List Token) (k : Kind) → k ≢ kind.Not → is_step r l ts k ≡ and_then (r (operand l) ts) (λ right rest. Some (tree.binary op.Is right, rest))
is_by r l ts kind.Not h = absurd (h refl)
is_by r l ts other h = refl

bare_by : (r : Reads) (w : Word) (t : Token) (ts : List Token) (k : Kind) → k ≢ kind.Dot → k ≢ kind.Open → named_by r w t ts k ≡ Some (tree.column None (name_of t), ts)
bare_by r w t ts kind.Dot h j = absurd (h refl)
bare_by r w t ts kind.Open h j = absurd (j refl)
bare_by r w t ts other h j = refl

name_by : (r : Reads) (w : Word) (ts : List Token) (k : Kind) → IsNamed k w → atom_by r ts k ≡ named_by r w (next ts) (after ts) (next (after ts)).kind
name_by r w ts (kind.Name v) h = rw h refl
name_by r w ts (kind.QuotedName v) h = rw h refl
name_by r w ts other h = absurd h

some_by : (r : Reads) (ts : List Token) (k : Kind) → k ≢ kind.Close → list_by r ts k ≡ counted r (shape.Plain 1) ts
some_by r ts kind.Close h = absurd (h refl)
some_by r ts other h = refl

plain_by : (r : Reads) (ts : List Token) (k : Kind) → k ≢ kind.Close → k ≢ kind.Star → k ≢ kind.Distinct → arguments_by r ts k ≡ counted r (shape.Plain 1) ts
plain_by r ts kind.Close h i j = absurd (h refl)
plain_by r ts kind.Star h i j = absurd (i refl)
plain_by r ts kind.Distinct h i j = absurd (j refl)
plain_by r ts other h i j = refl

typed_by : (ts : List Token) (k : Kind) (w : Word) (is_text : Bool) → IsNamed k w → type_of w ≡ Some is_text → (next (after ts)).kind ≡ kind.Close → type_named ts k ≡ Some (is_text, after (after ts))
typed_by ts (kind.Name v) w is_text n h c = rw (n, h, c) refl
typed_by ts (kind.QuotedName v) w is_text n h c = rw (n, h, c) refl
typed_by ts other w is_text n h c = absurd n

computed_type : (ts : List Token) (is_text : Bool) (rest : List Token) → SpellsType ts is_text rest → type_by ts (next ts).kind ≡ Some (is_text, rest)
computed_type ts is_text rest h =
    ap (type_by ts) h.begins ∙ typed_by (after ts) (next (after ts)).kind h.word is_text h.named h.typed h.closed ∙ ap (λ (x : List Token). Some (is_text, x)) (sym h.ends)

pub record IsSign (l : Level) (ts : List Token) (m : ℕ) (st : OneStep) (rest : List Token) : Type 0 where
  pub sign_is : Sign
  pub at : sign_at l (next ts).kind ≡ Some sign_is
  pub gives : step (read m) l sign_is (after ts) ≡ Some (st, rest)

pub record IsOpened (m : ℕ) (ts : List Token) (items : Trees) (rest : List Token) : Type 0 where
  pub has : Shape
  pub gives : opened (read m) ts ≡ Some ((items, has), rest)

pub record IsItems (m n : ℕ) (before : Trees) (s : Shape) (ts : List Token) (items : Trees) (rest : List Token) : Type 0 where
  pub total : Shape
  pub gives : more_items (read m) n before s ts ≡ Some ((items, total), rest)

member : (t : Token) (ts : List Token) (v : Word) (k : Kind) → IsNamed k v → member_by t ts k ≡ Some (tree.column (Some (name_of t)) (name_of (next ts)), after ts)
member t ts v (kind.Name w) h = refl
member t ts v (kind.QuotedName w) h = refl
member t ts v other h = absurd h

close_by : (r : Reads) (n : ℕ) (before : Trees) (s : Shape) (ts : List Token) → (next ts).kind ≡ kind.Close → more_items r (suc n) before s ts ≡ Some ((before, s), after ts)
close_by r n before s ts k = ap (λ (x : Kind). more_by r (more_items r n) before s ts x) k

comma_by : (r : Reads) (n : ℕ) (before : Trees) (s : Shape) (ts : List Token) → (next ts).kind ≡ kind.Comma → more_items r (suc n) before s ts ≡ and_then (r (chain level.Or) (after ts)) (λ item rest. more_items r n (and_tree before item) (one_longer s) rest)
comma_by r n before s ts k = ap (λ (x : Kind). more_by r (more_items r n) before s ts x) k

opens : {ts : List Token} {has : Shape} {items : Trees} {rest : List Token} → SpellsArguments ts has items rest → (next ts).kind ≡ kind.Open
opens (all_rows k n m) = k
opens (distinct_arguments k n s) = k
opens (plain_arguments k n m o s) = k

mutual
  pub computed : {c : Class} {ts : List Token} {t : Tree} {rest : List Token} → Spells c ts t rest → (n : ℕ) → 12 * (length ts + 1) ≤ n + above c → read n c ts ≡ Some (t, rest)
  computed {c = c} s zero h = let p = above_small c in absurd (omega arith)
  computed (a_chain {l = l} {middle = middle} s f) (suc m) h = let p = above_operand l in let q = above_small (chain l) in let u = shorter s in
      rw (computed s m (omega arith)) (rw (computed_further f m (omega arith) (suc (length middle)) (omega arith)) refl)
  computed (a_not {ts = ts} k s) (suc m) h = let u = after_shorter ts (λ e. cc) in rw k (rw (computed s m (omega arith)) refl)
  computed (no_not {ts = ts} k s) (suc m) h = not_by (read m) ts _ k ∙ computed s m (omega arith)
  computed (a_minus {ts = ts} k s) (suc m) h = let u = after_shorter ts (λ e. cc) in rw k (rw (computed s m (omega arith)) refl)
  computed (a_plus {ts = ts} k s) (suc m) h = let u = after_shorter ts (λ e. cc) in rw k (rw (computed s m (omega arith)) refl)
  computed (no_sign {ts = ts} k j s) (suc m) h = sign_by (read m) ts _ k j ∙ computed s m (omega arith)
  computed (a_number k) (suc m) h = rw k refl
  computed (a_text k) (suc m) h = rw k refl
  computed (a_null k) (suc m) h = rw k refl
  computed (a_column {ts = ts} w n k j) (suc m) h = name_by (read m) w ts _ n ∙ bare_by (read m) w (next ts) (after ts) _ k j
  computed (a_table_column {ts = ts} w v n k j) (suc m) h = name_by (read m) w ts _ n ∙ rw k (member (next ts) (after (after ts)) v _ j)
  computed (a_call {ts = ts} w n a c) (suc m) h = let u = after_shorter ts (named_no_end _ w n) in name_by (read m) w ts _ n ∙ rw (opens a) (rw (computed_arguments a m (omega arith)) (rw c refl))
  computed (a_cast {ts = ts} {inner = inner} {middle = middle} {is_text = is_text} {rest = rest} k o s y) (suc m) h = let u = after_shorter ts (λ e. cc) in let v = after_shorter (after ts) (λ e. cc) in rw k (rw o (rw (computed s m (omega arith)) (rw (computed_type middle is_text rest y) refl)))
  computed (in_parentheses {ts = ts} k s j) (suc m) h = let u = after_shorter ts (λ e. cc) in rw k (rw (computed s m (omega arith)) (rw j refl))

  pub computed_further : {l : Level} {ts : List Token} {before all : Steps} {rest : List Token} → Further l ts before all rest → (m : ℕ) → 12 * (length ts + 1) ≤ m → (k : ℕ) → length ts < k → more_steps (read m) k l before ts ≡ Some (all, rest)
  computed_further f m h zero b = absurd (omega arith)
  computed_further (no_more {l = l} {ts = ts} {steps = steps} n) m h (suc k) b = ap (λ (x : Option Sign). steps_by (read m) (more_steps (read m) k l) l steps ts x) n
  computed_further (more {l = l} {ts = ts} {before = before} s f) m h (suc k) b = let p = computed_step s m h in let u = shorter_step s in ap (λ (x : Option Sign). steps_by (read m) (more_steps (read m) k l) l before ts x) p.at ∙ rw p.gives (computed_further f m (omega arith) k (omega arith))

  pub computed_step : {l : Level} {ts : List Token} {st : OneStep} {rest : List Token} → SpellsStep l ts st rest → (m : ℕ) → 12 * (length ts + 1) ≤ m → IsSign l ts m st rest
  computed_step (a_binary {l = l} {ts = ts} {o = o} h s) m b = let u = after_shorter ts (sign_no_end l _ _ h) in record { sign_is = sign.Binary o; at = h; gives = rw (computed s m (omega arith)) refl }
  computed_step (an_is {l = l} {ts = ts} h k s) m b = let u = after_shorter ts (sign_no_end l _ _ h) in record { sign_is = sign.Is; at = h; gives = is_by (read m) l (after ts) _ k ∙ rw (computed s m (omega arith)) refl }
  computed_step (an_is_not {l = l} {ts = ts} h k s) m b = let u = after_shorter ts (sign_no_end l _ _ h) in let v = after_shorter (after ts) (λ e. cc) in record { sign_is = sign.Is; at = h; gives = rw k (rw (computed s m (omega arith)) refl) }
  computed_step (an_in {l = l} {ts = ts} h s) m b = let u = after_shorter ts (sign_no_end l _ _ h) in let p = computed_list s m (omega arith) in record { sign_is = sign.In; at = h; gives = rw p.gives refl }
  computed_step (a_between {l = l} {ts = ts} h s) m b = let u = after_shorter ts (sign_no_end l _ _ h) in record { sign_is = sign.Between; at = h; gives = computed_between s m (omega arith) }
  computed_step (a_negated {l = l} {ts = ts} h s) m b = let u = after_shorter ts (sign_no_end l _ _ h) in record { sign_is = sign.Not; at = h; gives = computed_negated s m (omega arith) }

  pub computed_negated : {l : Level} {ts : List Token} {st : OneStep} {rest : List Token} → SpellsNegated l ts st rest → (m : ℕ) → 12 * (length ts + 1) ≤ m → negated_step (read m) l ts (next ts).kind ≡ Some (st, rest)
  computed_negated (a_not_like {ts = ts} k s) m b = let u = after_shorter ts (λ e. cc) in rw k (rw (computed s m (omega arith)) refl)
  computed_negated (a_not_in {ts = ts} k s) m b = let u = after_shorter ts (λ e. cc) in let p = computed_list s m (omega arith) in rw k (rw p.gives refl)
  computed_negated (a_not_between {ts = ts} k s) m b = let u = after_shorter ts (λ e. cc) in rw k (computed_between s m (omega arith))

  pub computed_between : {l : Level} {is_negated : Bool} {ts : List Token} {st : OneStep} {rest : List Token} → SpellsBetween l is_negated ts st rest → (m : ℕ) → 12 * (length ts + 1) ≤ m → ends_of (read m) l is_negated ts ≡ Some (st, rest)
  computed_between (two_ends {middle = middle} s k j) m b = let u = shorter s in let v = after_shorter middle (λ e. cc) in rw (computed s m (omega arith)) (rw k (rw (computed j m (omega arith)) refl))

  pub computed_list : {ts : List Token} {items : Trees} {rest : List Token} → SpellsList ts items rest → (m : ℕ) → 12 * (length ts + 1) ≤ m → IsOpened m ts items rest
  computed_list (no_items k j) m b = record { has = shape.Plain 0; gives = rw k (rw j refl) }
  computed_list (some_items {ts = ts} {middle = middle} k j s f) m b = let u = after_shorter ts (λ e. cc) in let v = shorter s in let p = computed_items f m (omega arith) (suc (length middle)) (omega arith) (shape.Plain 1) in
      record { has = p.total; gives = rw k (some_by (read m) (after ts) _ j ∙ rw (computed s m (omega arith)) p.gives) }

  pub computed_items : {ts : List Token} {before all : Trees} {rest : List Token} → FurtherItems ts before all rest → (m : ℕ) → 12 * (length ts + 1) ≤ m → (n : ℕ) → length ts < n → (s : Shape) → IsItems m n before s ts all rest
  computed_items f m b zero c s = absurd (omega arith)
  computed_items (last {ts = ts} {items = items} k) m b (suc n) c s = record { total = s; gives = close_by (read m) n items s ts k }
  computed_items (one_more {ts = ts} {before = before} k x f) m b (suc n) c s = let u = after_shorter ts (λ e. cc) in let v = shorter x in let p = computed_items f m (omega arith) n (omega arith) (one_longer s) in
      record { total = p.total; gives = comma_by (read m) n before s ts k ∙ rw (computed x m (omega arith)) p.gives }

  pub computed_arguments : {ts : List Token} {has : Shape} {items : Trees} {rest : List Token} → SpellsArguments ts has items rest → (m : ℕ) → 12 * (length ts + 1) ≤ m → arguments_by (read m) (after ts) (next (after ts)).kind ≡ Some ((items, has), rest)
  computed_arguments (all_rows k j l) m b = rw j (rw l refl)
  computed_arguments (distinct_arguments {ts = ts} k j s) m b = let u = after_shorter ts (λ e. cc) in let v = after_shorter (after ts) (λ e. cc) in rw j (computed_counted s m (omega arith))
  computed_arguments (plain_arguments {ts = ts} k i j l s) m b = let u = after_shorter ts (λ e. cc) in plain_by (read m) (after ts) _ i j l ∙ computed_counted s m (omega arith)

  pub computed_counted : {ts : List Token} {one has : Shape} {items : Trees} {rest : List Token} → SpellsCounted ts one has items rest → (m : ℕ) → 12 * (length ts + 1) ≤ m → counted (read m) one ts ≡ Some ((items, has), rest)
  computed_counted (first_argument {middle = middle} s f) m b = let v = shorter s in rw (computed s m (omega arith)) (computed_more f m (omega arith) (suc (length middle)) (omega arith))

  pub computed_more : {ts : List Token} {before all : Trees} {s total : Shape} {rest : List Token} → FurtherArguments ts s before total all rest → (m : ℕ) → 12 * (length ts + 1) ≤ m → (n : ℕ) → length ts < n → more_items (read m) n before s ts ≡ Some ((all, total), rest)
  computed_more f m b zero c = absurd (omega arith)
  computed_more (last_argument {ts = ts} {s = s} {items = items} k) m b (suc n) c = close_by (read m) n items s ts k
  computed_more (one_argument {ts = ts} {s = s} {before = before} k x f) m b (suc n) c = let u = after_shorter ts (λ e. cc) in let v = shorter x in comma_by (read m) n before s ts k ∙ rw (computed x m (omega arith)) (computed_more f m (omega arith) n (omega arith))
