-- The arms of the descent over a select, over plain values.
use Rattle.std.proofs.Common.{◌≡◌, ◌≢◌, ◌≤◌, ◌<◌, ◌+◌, ℕ, ℤ, List, [], ◌∷◌, ◌++◌, length, Bool, true, false, ◌&&◌, Option, Some, None, Result, Ok, Err, refl, sym, ap, subst, ◌∙◌, append_assoc, arith}
use Rattle.sql_tokens.specs.declared.token.Token.{Token}
use Rattle.sql_tokens.specs.declared.token.Kind.{Kind}
use Rattle.sql_tokens.specs.declared.token.Kind.TheVariants as kind
use Rattle.sql_tokens.specs.declared.token.Clause.{Clause}
use Rattle.sql_tokens.specs.declared.token.Clause.TheVariants as clause
use Rattle.sql_tokens.specs.declared.level.Level.TheVariants as level
use Rattle.sql_faults.specs.declared.part.Part.{Part}
use Rattle.sql_faults.specs.declared.part.Part.TheVariants.{One, Must, May}
use Rattle.sql_faults.specs.declared.part.Expected.{Expected}
use Rattle.sql_faults.specs.declared.part.Expected.TheVariants as expected
use Rattle.sql_faults.specs.declared.part.Rule.TheVariants as rule
use Rattle.sql_faults.specs.declared.part.Optional.{Optional}
use Rattle.sql_faults.specs.declared.part.Optional.TheVariants as optional
use Rattle.sql_parser.specs.declared.stop.Stop.{Stop}
use Rattle.sql_tree.specs.declared.tree.Node.{Node}
use Rattle.sql_tree.specs.declared.tree.Name.{Name}
use Rattle.sql_parser.specs.declared.clauses.Form.{Form}
use Rattle.sql_parser.specs.declared.clauses.Form.TheVariants as form
use Rattle.sql_tokens.specs.Tokens.{next, after, is_name, is_dot, is_star, is_all_of}
use Rattle.sql_faults.specs.Calls.{name_of}
use Rattle.sql_tree.specs.Tree.{Tree}
use Rattle.sql_tree.specs.View.{tree_of}
use Rattle.sql_parser.specs.Grammar.{chain}
use Rattle.sql_faults.specs.Reading.{settled, fits, found, wide, entered, or_by, other_item_by, select_item_by, integer_by, left_join_by, distinct_by, select_items_by, alias_by, from_by, sources_by, condition_by, names_by, where_by, group_by, having_by, order_by, terms_by, direction_by, limit_by, offset_by, item_by, source_parts, term_parts, names_parts}
use Rattle.sql_parser.specs.Descent.{Leads, Fails, Stopped, Descends, IsRead}
use Rattle.sql_tree.specs.Select.{ItemTree, RefTree, HavingTree, TermTree, all, all_of, one}
use Rattle.sql_parser.specs.SelectGrammar as grammar
use Rattle.sql_parser.specs.SelectGrammar.{Spelling, SpellsExpression, BehindComma, WithCommas, SpellsName, SpellsAlias, SpellsExpressionItem, SpellsItem, SpellsNames, SpellsCondition, SpellsConditionOf, is_outer, SpellsTable, SpellsJoin, SpellsOuterJoin, SpellsForm, SpellsFurtherTable, SpellsTables, SpellsDistinct, SpellsOpening, SpellsFrom, SpellsWhere, SpellsBy, SpellsGroup, SpellsHaving, SpellsDirection, SpellsTerm, SpellsOrder, SpellsNumber, minus, SpellsInteger, SpellsOffset, SpellsLimit, SpellsSelect}
use Rattle.sql_parser.specs.SelectDescent.{Took, IsFound, Finds, FormFound, condition_parts, form_parts, select_parts}
use Rattle.sql_parser.proofs.Laws.{leads_on, leads_with, fails_with, fails_later, leads_rule, leads_in, leads_past, fails_one, fails_found, same_settled}
use Rattle.sql_parser.proofs.Arms.{stopped_later, stopped_with, leads_take, leads_close, fails_close}
use Rattle.sql_parser.proofs.Shorter.{shorter, after_shorter}
use Rattle.sql_parser.proofs.SelectLists.{IsSoFar, list_start, list_more, list_end}

-- ---- a word

pub took_yes : (k : Kind) (old new : List Token) (b : Bool) → Took k old b new → b ≡ true → ((next old).kind ≡ k) × (new ≡ after old)
took_yes k old new true t e = t
took_yes k old new false t e = absurd (cc)

pub took_no : (k : Kind) (old new : List Token) (b : Bool) → Took k old b new → b ≡ false → ((next old).kind ≢ k) × (new ≡ old)
took_no k old new true t e = absurd (cc)
took_no k old new false t e = t

one_less : (ts : List Token) → length (after ts) ≤ length ts
one_less [] = omega arith
one_less (t ∷ ts) = omega arith

pub after_no_longer : (ts mid : List Token) → mid ≡ after ts → length mid ≤ length ts
after_no_longer ts mid m = subst (λ (x : List Token). length x ≤ length ts) (sym m) (one_less ts)

pub after_less : (ts mid : List Token) → mid ≡ after ts → (next ts).kind ≢ kind.End → length mid < length ts
after_less ts mid m n = subst (λ (x : List Token). length x < length ts) (sym m) (after_shorter ts n)

-- what an optional part is behind its word
pub leads_word : (o : Optional) (k : Kind) (xs : List Part) (ts mid : List Token) → (next ts).kind ≡ k → k ≢ kind.End → entered o k ≡ Some (One expected.Chosen ∷ xs) → mid ≡ after ts → Leads (May o ∷ []) xs ts mid
unfolding fits found
leads_word o k xs ts mid h n e m = leads_on (leads_in o expected.Chosen xs ts (ap (entered o) h ∙ e)) (leads_with xs (leads_take expected.Chosen ts mid refl refl (λ j. n (sym h ∙ j)) m))

pub absent : {X : Type 0} (at : Spelling X) (o : Optional) (ts new : List Token) (x : X) → entered o (next ts).kind ≡ None → at ts x ts → new ≡ ts → IsFound at (May o ∷ []) [] ts x new
absent at o ts new x n e m = subst (λ (y : List Token). IsFound at (May o ∷ []) [] ts x y) (sym m) (record { spelled = e; leads = leads_past o ts n; no_longer = omega arith })

pub behind_word : {X Y : Type 0} (at : Spelling X) (inner : Spelling Y) (x : X) (o : Optional) (k : Kind) (xs : List Part) (ts mid new : List Token) (y : Y)
    → (next ts).kind ≡ k → k ≢ kind.End → entered o k ≡ Some (One expected.Chosen ∷ xs) → mid ≡ after ts → (inner (after ts) y new → at ts x new) → IsFound inner xs [] mid y new
    → IsFound at (May o ∷ []) [] ts x new
behind_word at inner x o k xs ts mid new y h n e m make i = record {
  spelled = make (subst (λ (z : List Token). inner z y new) m i.spelled);
  leads = leads_on (leads_word o k xs ts mid h n e m) i.leads;
  no_longer = let p = after_no_longer ts mid m in let q = i.no_longer in omega arith;
}

pub stopped_word : (o : Optional) (k : Kind) (xs : List Part) (ts mid : List Token) (e : Stop) → (next ts).kind ≡ k → k ≢ kind.End → entered o k ≡ Some (One expected.Chosen ∷ xs) → mid ≡ after ts → Stopped xs mid e → Stopped (May o ∷ []) ts e
stopped_word o k xs ts mid e h n g m s = stopped_later e (leads_word o k xs ts mid h n g m) s

pub behind_token : {X Y : Type 0} (at : Spelling X) (inner : Spelling Y) (x : X) (e : Expected) (xs : List Part) (ts mid new : List Token) (y : Y) → Leads (One e ∷ []) [] ts mid → mid ≡ after ts → (inner (after ts) y new → at ts x new) → IsFound inner xs [] mid y new
    → IsFound at (One e ∷ xs) [] ts x new
behind_token at inner x e xs ts mid new y l m make i = record {
  spelled = make (subst (λ (z : List Token). inner z y new) m i.spelled);
  leads = leads_on (leads_with xs l) i.leads;
  no_longer = let p = after_no_longer ts mid m in let q = i.no_longer in omega arith;
}

-- ---- words that must stand next

pub leads_select : (ts mid : List Token) → (next ts).kind ≡ kind.Clause clause.Select → mid ≡ after ts → Leads (One expected.Select ∷ []) [] ts mid
unfolding fits found
leads_select ts mid k m = leads_take expected.Select ts mid (ap (fits expected.Select) k) refl (λ e. cc) m

select_misfit : (k : Kind) → k ≢ kind.Clause clause.Select → fits expected.Select k ≡ false
unfolding fits
select_misfit (kind.Clause clause.Select) h = absurd (h refl)
select_misfit other h = refl

pub fails_select : (ts : List Token) → (next ts).kind ≢ kind.Clause clause.Select → Fails (One expected.Select ∷ []) ts
fails_select ts h = fails_one expected.Select ts (select_misfit (next ts).kind h)

pub leads_by : (ts mid : List Token) → (next ts).kind ≡ kind.Clause clause.By → mid ≡ after ts → Leads (One expected.By ∷ []) [] ts mid
unfolding fits found
leads_by ts mid k m = leads_take expected.By ts mid (ap (fits expected.By) k) refl (λ e. cc) m

by_misfit : (k : Kind) → k ≢ kind.Clause clause.By → fits expected.By k ≡ false
unfolding fits
by_misfit (kind.Clause clause.By) h = absurd (h refl)
by_misfit other h = refl

pub fails_by : (ts : List Token) → (next ts).kind ≢ kind.Clause clause.By → Fails (One expected.By ∷ []) ts
fails_by ts h = fails_one expected.By ts (by_misfit (next ts).kind h)

pub leads_join : (ts mid : List Token) → (next ts).kind ≡ kind.Clause clause.Join → mid ≡ after ts → Leads (One expected.Join ∷ []) [] ts mid
unfolding fits found
leads_join ts mid k m = leads_take expected.Join ts mid (ap (fits expected.Join) k) refl (λ e. cc) m

join_misfit : (k : Kind) → k ≢ kind.Clause clause.Join → fits expected.Join k ≡ false
unfolding fits
join_misfit (kind.Clause clause.Join) h = absurd (h refl)
join_misfit other h = refl

pub fails_join : (ts : List Token) → (next ts).kind ≢ kind.Clause clause.Join → Fails (One expected.Join ∷ []) ts
fails_join ts h = fails_one expected.Join ts (join_misfit (next ts).kind h)

pub leads_opened : (ts mid : List Token) → (next ts).kind ≡ kind.Open → mid ≡ after ts → Leads (One expected.Open ∷ []) [] ts mid
unfolding fits found
leads_opened ts mid k m = leads_take expected.Open ts mid (ap (fits expected.Open) k) refl (λ e. cc) m

opened_misfit : (k : Kind) → k ≢ kind.Open → fits expected.Open k ≡ false
unfolding fits
opened_misfit kind.Open h = absurd (h refl)
opened_misfit other h = refl

pub fails_opened : (ts : List Token) → (next ts).kind ≢ kind.Open → Fails (One expected.Open ∷ []) ts
fails_opened ts h = fails_one expected.Open ts (opened_misfit (next ts).kind h)

-- ---- clauses that begin with a word

filter_out : (k : Kind) → k ≢ kind.Clause clause.Where → where_by k ≡ None
unfolding where_by
filter_out (kind.Clause clause.Where) h = absurd (h refl)
filter_out other h = refl

pub no_filter : (ts new : List Token) → (next ts).kind ≢ kind.Clause clause.Where → new ≡ ts → IsFound SpellsWhere (May optional.Where ∷ []) [] ts None new
no_filter ts new h m = absent SpellsWhere optional.Where ts new None (filter_out (next ts).kind h) (grammar.no_where h) m

pub stopped_filter : (ts mid : List Token) (e : Stop) → (next ts).kind ≡ kind.Clause clause.Where → mid ≡ after ts → Stopped (Must (rule.Chain level.Or 0) ∷ []) mid e → Stopped (May optional.Where ∷ []) ts e
unfolding where_by
stopped_filter ts mid e h m s = stopped_word optional.Where (kind.Clause clause.Where) (Must (rule.Chain level.Or 0) ∷ []) ts mid e h (λ j. cc) refl m s

pub a_filter : (ts mid new : List Token) (y : Tree) → (next ts).kind ≡ kind.Clause clause.Where → mid ≡ after ts → IsFound SpellsExpression (Must (rule.Chain level.Or 0) ∷ []) [] mid y new → IsFound SpellsWhere (May optional.Where ∷ []) [] ts (Some y) new
unfolding where_by
a_filter ts mid new y h m i = behind_word SpellsWhere SpellsExpression (Some y) optional.Where (kind.Clause clause.Where) (Must (rule.Chain level.Or 0) ∷ []) ts mid new y h (λ j. cc) refl m (grammar.a_where h) i

offset_out : (k : Kind) → k ≢ kind.Clause clause.Offset → offset_by k ≡ None
unfolding offset_by
offset_out (kind.Clause clause.Offset) h = absurd (h refl)
offset_out other h = refl

pub no_offset : (ts new : List Token) → (next ts).kind ≢ kind.Clause clause.Offset → new ≡ ts → IsFound SpellsOffset (May optional.Offset ∷ []) [] ts None new
no_offset ts new h m = absent SpellsOffset optional.Offset ts new None (offset_out (next ts).kind h) (grammar.no_offset h) m

pub stopped_offset : (ts mid : List Token) (e : Stop) → (next ts).kind ≡ kind.Clause clause.Offset → mid ≡ after ts → Stopped (Must rule.Integer ∷ []) mid e → Stopped (May optional.Offset ∷ []) ts e
unfolding offset_by
stopped_offset ts mid e h m s = stopped_word optional.Offset (kind.Clause clause.Offset) (Must rule.Integer ∷ []) ts mid e h (λ j. cc) refl m s

pub a_offset : (ts mid new : List Token) (y : ℤ) → (next ts).kind ≡ kind.Clause clause.Offset → mid ≡ after ts → IsFound SpellsInteger (Must rule.Integer ∷ []) [] mid y new → IsFound SpellsOffset (May optional.Offset ∷ []) [] ts (Some y) new
unfolding offset_by
a_offset ts mid new y h m i = behind_word SpellsOffset SpellsInteger (Some y) optional.Offset (kind.Clause clause.Offset) (Must rule.Integer ∷ []) ts mid new y h (λ j. cc) refl m (grammar.an_offset h) i

sources_out : (k : Kind) → k ≢ kind.Clause clause.From → from_by k ≡ None
unfolding from_by
sources_out (kind.Clause clause.From) h = absurd (h refl)
sources_out other h = refl

pub no_sources : (ts new : List Token) → (next ts).kind ≢ kind.Clause clause.From → new ≡ ts → IsFound SpellsFrom (May optional.From ∷ []) [] ts [] new
no_sources ts new h m = absent SpellsFrom optional.From ts new [] (sources_out (next ts).kind h) (grammar.no_from h) m

pub stopped_sources : (ts mid : List Token) (e : Stop) → (next ts).kind ≡ kind.Clause clause.From → mid ≡ after ts → Stopped (One expected.Name ∷ May optional.Alias ∷ May optional.Sources ∷ []) mid e → Stopped (May optional.From ∷ []) ts e
unfolding from_by
stopped_sources ts mid e h m s = stopped_word optional.From (kind.Clause clause.From) (One expected.Name ∷ May optional.Alias ∷ May optional.Sources ∷ []) ts mid e h (λ j. cc) refl m s

pub a_sources : (ts mid new : List Token) (y : List RefTree) → (next ts).kind ≡ kind.Clause clause.From → mid ≡ after ts → IsFound SpellsTables (One expected.Name ∷ May optional.Alias ∷ May optional.Sources ∷ []) [] mid y new → IsFound SpellsFrom (May optional.From ∷ []) [] ts y new
unfolding from_by
a_sources ts mid new y h m i = behind_word SpellsFrom SpellsTables y optional.From (kind.Clause clause.From) (One expected.Name ∷ May optional.Alias ∷ May optional.Sources ∷ []) ts mid new y h (λ j. cc) refl m (grammar.a_from h) i

keys_out : (k : Kind) → k ≢ kind.Clause clause.Group → group_by k ≡ None
unfolding group_by
keys_out (kind.Clause clause.Group) h = absurd (h refl)
keys_out other h = refl

pub no_keys : (ts new : List Token) → (next ts).kind ≢ kind.Clause clause.Group → new ≡ ts → IsFound SpellsGroup (May optional.Group ∷ []) [] ts [] new
no_keys ts new h m = absent SpellsGroup optional.Group ts new [] (keys_out (next ts).kind h) (grammar.no_group h) m

pub stopped_keys : (ts mid : List Token) (e : Stop) → (next ts).kind ≡ kind.Clause clause.Group → mid ≡ after ts → Stopped (One expected.By ∷ Must (rule.Chain level.Or 0) ∷ May (optional.Item 0) ∷ []) mid e → Stopped (May optional.Group ∷ []) ts e
unfolding group_by
stopped_keys ts mid e h m s = stopped_word optional.Group (kind.Clause clause.Group) (One expected.By ∷ Must (rule.Chain level.Or 0) ∷ May (optional.Item 0) ∷ []) ts mid e h (λ j. cc) refl m s

pub a_keys : (ts mid new : List Token) (y : List Tree) → (next ts).kind ≡ kind.Clause clause.Group → mid ≡ after ts → IsFound (SpellsBy SpellsExpression) (One expected.By ∷ Must (rule.Chain level.Or 0) ∷ May (optional.Item 0) ∷ []) [] mid y new → IsFound SpellsGroup (May optional.Group ∷ []) [] ts y new
unfolding group_by
a_keys ts mid new y h m i = behind_word SpellsGroup (SpellsBy SpellsExpression) y optional.Group (kind.Clause clause.Group) (One expected.By ∷ Must (rule.Chain level.Or 0) ∷ May (optional.Item 0) ∷ []) ts mid new y h (λ j. cc) refl m (grammar.a_group h) i

terms_out : (k : Kind) → k ≢ kind.Clause clause.Order → order_by k ≡ None
unfolding order_by
terms_out (kind.Clause clause.Order) h = absurd (h refl)
terms_out other h = refl

pub no_terms : (ts new : List Token) → (next ts).kind ≢ kind.Clause clause.Order → new ≡ ts → IsFound SpellsOrder (May optional.Order ∷ []) [] ts [] new
no_terms ts new h m = absent SpellsOrder optional.Order ts new [] (terms_out (next ts).kind h) (grammar.no_order h) m

pub stopped_terms : (ts mid : List Token) (e : Stop) → (next ts).kind ≡ kind.Clause clause.Order → mid ≡ after ts → Stopped (One expected.By ∷ Must (rule.Chain level.Or 0) ∷ May optional.Direction ∷ May optional.Terms ∷ []) mid e → Stopped (May optional.Order ∷ []) ts e
unfolding order_by
stopped_terms ts mid e h m s = stopped_word optional.Order (kind.Clause clause.Order) (One expected.By ∷ Must (rule.Chain level.Or 0) ∷ May optional.Direction ∷ May optional.Terms ∷ []) ts mid e h (λ j. cc) refl m s

pub a_terms : (ts mid new : List Token) (y : List TermTree) → (next ts).kind ≡ kind.Clause clause.Order → mid ≡ after ts → IsFound (SpellsBy SpellsTerm) (One expected.By ∷ Must (rule.Chain level.Or 0) ∷ May optional.Direction ∷ May optional.Terms ∷ []) [] mid y new → IsFound SpellsOrder (May optional.Order ∷ []) [] ts y new
unfolding order_by
a_terms ts mid new y h m i = behind_word SpellsOrder (SpellsBy SpellsTerm) y optional.Order (kind.Clause clause.Order) (One expected.By ∷ Must (rule.Chain level.Or 0) ∷ May optional.Direction ∷ May optional.Terms ∷ []) ts mid new y h (λ j. cc) refl m (grammar.an_order h) i

having_out : (k : Kind) → k ≢ kind.Clause clause.Having → having_by k ≡ None
unfolding having_by
having_out (kind.Clause clause.Having) h = absurd (h refl)
having_out other h = refl

pub no_having : (ts new : List Token) → (next ts).kind ≢ kind.Clause clause.Having → new ≡ ts → IsFound SpellsHaving (May optional.Having ∷ []) [] ts None new
no_having ts new h m = absent SpellsHaving optional.Having ts new None (having_out (next ts).kind h) (grammar.no_having h) m

pub stopped_having : (ts mid : List Token) (e : Stop) → (next ts).kind ≡ kind.Clause clause.Having → mid ≡ after ts → Stopped (Must (rule.Chain level.Or 0) ∷ []) mid e → Stopped (May optional.Having ∷ []) ts e
unfolding having_by
stopped_having ts mid e h m s = stopped_word optional.Having (kind.Clause clause.Having) (Must (rule.Chain level.Or 0) ∷ []) ts mid e h (λ j. cc) refl m s

pub a_having : (ts mid new : List Token) (y : Tree) (p : ℕ) → (next ts).kind ≡ kind.Clause clause.Having → mid ≡ after ts → p ≡ (next ts).span.start → IsFound SpellsExpression (Must (rule.Chain level.Or 0) ∷ []) [] mid y new
    → IsFound SpellsHaving (May optional.Having ∷ []) [] ts (Some (record { place = p; tree = y })) new
unfolding having_by
a_having ts mid new y p h m q i = subst (λ (n : ℕ). IsFound SpellsHaving (May optional.Having ∷ []) [] ts (Some (record { place = n; tree = y })) new) (sym q)
    (behind_word SpellsHaving SpellsExpression (Some (record { place = (next ts).span.start; tree = y })) optional.Having (kind.Clause clause.Having) (Must (rule.Chain level.Or 0) ∷ []) ts mid new y h (λ j. cc) refl m (grammar.a_having h) i)

limits_out : (k : Kind) → k ≢ kind.Clause clause.Limit → limit_by k ≡ None
unfolding limit_by
limits_out (kind.Clause clause.Limit) h = absurd (h refl)
limits_out other h = refl

pub no_limits : (ts new : List Token) → (next ts).kind ≢ kind.Clause clause.Limit → new ≡ ts → IsFound SpellsLimit (May optional.Limit ∷ []) [] ts (None, None) new
no_limits ts new h m = absent SpellsLimit optional.Limit ts new (None, None) (limits_out (next ts).kind h) (grammar.no_limit h) m

pub stopped_limits : (ts mid : List Token) (e : Stop) → (next ts).kind ≡ kind.Clause clause.Limit → mid ≡ after ts → Stopped (Must rule.Integer ∷ May optional.Offset ∷ []) mid e → Stopped (May optional.Limit ∷ []) ts e
unfolding limit_by
stopped_limits ts mid e h m s = stopped_word optional.Limit (kind.Clause clause.Limit) (Must rule.Integer ∷ May optional.Offset ∷ []) ts mid e h (λ j. cc) refl m s

pub a_limits : (ts mid here new : List Token) (n : ℤ) (skip : Option ℤ) → (next ts).kind ≡ kind.Clause clause.Limit → mid ≡ after ts → IsFound SpellsInteger (Must rule.Integer ∷ []) [] mid n here → IsFound SpellsOffset (May optional.Offset ∷ []) [] here skip new
    → IsFound SpellsLimit (May optional.Limit ∷ []) [] ts (Some n, skip) new
unfolding limit_by
a_limits ts mid here new n skip h m i o = record {
  spelled = grammar.a_limit h (subst (λ (x : List Token). SpellsInteger x n here) m i.spelled) o.spelled;
  leads = leads_on (leads_word optional.Limit (kind.Clause clause.Limit) (Must rule.Integer ∷ May optional.Offset ∷ []) ts mid h (λ j. cc) refl m) (leads_on (leads_with (May optional.Offset ∷ []) i.leads) o.leads);
  no_longer = let p = after_no_longer ts mid m in let q = i.no_longer in let r = o.no_longer in omega arith;
}

pub stopped_offset_behind : (ts mid here : List Token) (n : ℤ) (e : Stop) → (next ts).kind ≡ kind.Clause clause.Limit → mid ≡ after ts → IsFound SpellsInteger (Must rule.Integer ∷ []) [] mid n here → Stopped (May optional.Offset ∷ []) here e → Stopped (May optional.Limit ∷ []) ts e
stopped_offset_behind ts mid here n e h m i s = stopped_limits ts mid e h m (stopped_later e (leads_with (May optional.Offset ∷ []) i.leads) s)

-- BY and a list
pub a_by_list : {X : Type 0} (at : Spelling X) (xs : List Part) (ts mid new : List Token) (found_all : List X) → (next ts).kind ≡ kind.Clause clause.By → mid ≡ after ts → IsFound (WithCommas at) xs [] mid found_all new
    → IsFound (SpellsBy at) (One expected.By ∷ xs) [] ts found_all new
a_by_list at xs ts mid new ys h m i = behind_token (SpellsBy at) (WithCommas at) ys expected.By xs ts mid new ys (leads_by ts mid h m) m (grammar.a_by h) i

pub stopped_by_list : (xs : List Part) (ts mid : List Token) (e : Stop) → (next ts).kind ≡ kind.Clause clause.By → mid ≡ after ts → Stopped xs mid e → Stopped (One expected.By ∷ xs) ts e
stopped_by_list xs ts mid e h m s = stopped_later e (leads_with xs (leads_by ts mid h m)) s

pub fails_by_list : (xs : List Part) (ts : List Token) → (next ts).kind ≢ kind.Clause clause.By → Fails (One expected.By ∷ xs) ts
fails_by_list xs ts h = fails_with xs (fails_by ts h)

-- ---- expressions and names

pub found_expression : (ts new : List Token) (e : Tree) → IsRead (chain level.Or) (rule.Chain level.Or 0) ts e new → IsFound SpellsExpression (Must (rule.Chain level.Or 0) ∷ []) [] ts e new
found_expression ts new e h = record { spelled = h.spelled; leads = h.reads; no_longer = let p = shorter h.spelled in omega arith }

pub finds_expression : (ts new : List Token) (result : Result Node Stop) → Descends (chain level.Or) (rule.Chain level.Or 0) ts result new → Finds tree_of SpellsExpression (Must (rule.Chain level.Or 0) ∷ []) ts result new
finds_expression ts new (Ok node) h = found_expression ts new (tree_of node) h
finds_expression ts new (Err e) h = h

pub name_fits : (k : Kind) → is_name k ≡ true → fits expected.Name k ≡ true
unfolding fits
name_fits (kind.Name w) h = refl
name_fits (kind.QuotedName w) h = refl
name_fits other h = absurd (cc)

pub name_misfit : (k : Kind) → is_name k ≡ false → fits expected.Name k ≡ false
unfolding fits
name_misfit (kind.Name w) h = absurd (cc)
name_misfit (kind.QuotedName w) h = absurd (cc)
name_misfit other h = refl

name_no_end : (k : Kind) → is_name k ≡ true → k ≢ kind.End
name_no_end k h e = let p : is_name kind.End ≡ true = subst (λ (x : Kind). is_name x ≡ true) e h in cc

pub is_name_at : {t : Token} {answer : Bool} (ts : List Token) (b : Bool) → t ≡ next ts → answer ≡ is_name t.kind → answer ≡ b → is_name (next ts).kind ≡ b
is_name_at {t} {answer} ts b e f h = subst (λ (x : Token). is_name x.kind ≡ b) e (sym f ∙ h)

pub leads_name_token : (ts mid : List Token) → is_name (next ts).kind ≡ true → mid ≡ after ts → Leads (One expected.Name ∷ []) [] ts mid
unfolding found
leads_name_token ts mid h m = leads_take expected.Name ts mid (name_fits (next ts).kind h) refl (name_no_end (next ts).kind h) m

pub a_name : (ts new : List Token) (n : Name) → is_name (next ts).kind ≡ true → new ≡ after ts → n ≡ name_of (next ts) → IsFound SpellsName (One expected.Name ∷ []) [] ts n new
a_name ts new n h m e = record {
  spelled = rw (e, m) (grammar.a_name h);
  leads = leads_name_token ts new h m;
  no_longer = after_no_longer ts new m;
}

pub no_name : (ts : List Token) → is_name (next ts).kind ≡ false → Fails (One expected.Name ∷ []) ts
no_name ts h = fails_one expected.Name ts (name_misfit (next ts).kind h)

-- ---- aliases

alias_name_in : (k : Kind) → is_name k ≡ true → alias_by k ≡ Some (One expected.Chosen ∷ [])
unfolding alias_by
alias_name_in (kind.Name w) h = refl
alias_name_in (kind.QuotedName w) h = refl
alias_name_in other h = absurd (cc)

alias_out : (k : Kind) → is_name k ≡ false → k ≢ kind.As → alias_by k ≡ None
unfolding alias_by
alias_out (kind.Name w) h n = absurd (cc)
alias_out (kind.QuotedName w) h n = absurd (cc)
alias_out kind.As h n = absurd (n refl)
alias_out other h n = refl

pub alias_alone : (ts new : List Token) (n : Name) → is_name (next ts).kind ≡ true → new ≡ after ts → n ≡ name_of (next ts) → IsFound SpellsAlias (May optional.Alias ∷ []) [] ts (Some n) new
alias_alone ts new n h m e = record {
  spelled = rw (e, m) (grammar.an_alias (grammar.a_name h));
  leads = leads_word optional.Alias (next ts).kind [] ts new refl (name_no_end (next ts).kind h) (alias_name_in (next ts).kind h) m;
  no_longer = after_no_longer ts new m;
}

pub no_alias : (ts new : List Token) → is_name (next ts).kind ≡ false → (next ts).kind ≢ kind.As → new ≡ ts → IsFound SpellsAlias (May optional.Alias ∷ []) [] ts None new
no_alias ts new h n m = absent SpellsAlias optional.Alias ts new None (alias_out (next ts).kind h n) (grammar.no_alias h n) m

pub alias_with_as : (ts mid new : List Token) (n : Name) → (next ts).kind ≡ kind.As → mid ≡ after ts → IsFound SpellsName (One expected.Name ∷ []) [] mid n new → IsFound SpellsAlias (May optional.Alias ∷ []) [] ts (Some n) new
unfolding alias_by
alias_with_as ts mid new n h m i = behind_word SpellsAlias SpellsName (Some n) optional.Alias kind.As (One expected.Name ∷ []) ts mid new n h (λ j. cc) refl m (grammar.alias_with_as h) i

pub stopped_alias : (ts mid : List Token) (e : Stop) → (next ts).kind ≡ kind.As → mid ≡ after ts → Stopped (One expected.Name ∷ []) mid e → Stopped (May optional.Alias ∷ []) ts e
unfolding alias_by
stopped_alias ts mid e h m s = stopped_word optional.Alias kind.As (One expected.Name ∷ []) ts mid e h (λ j. cc) refl m s

-- ---- SELECT and DISTINCT

distinct_out : (k : Kind) → k ≢ kind.Distinct → distinct_by k ≡ None
unfolding distinct_by
distinct_out kind.Distinct h = absurd (h refl)
distinct_out other h = refl

pub no_distinct : (ts : List Token) → (next ts).kind ≢ kind.Distinct → IsFound SpellsDistinct (May optional.Distinct ∷ []) [] ts false ts
no_distinct ts h = absent SpellsDistinct optional.Distinct ts ts false (distinct_out (next ts).kind h) (grammar.no_distinct h) refl

pub a_distinct : (ts new : List Token) → (next ts).kind ≡ kind.Distinct → new ≡ after ts → IsFound SpellsDistinct (May optional.Distinct ∷ []) [] ts true new
unfolding distinct_by
a_distinct ts new h m = record {
  spelled = rw m (grammar.a_distinct h);
  leads = leads_word optional.Distinct kind.Distinct [] ts new h (λ j. cc) refl m;
  no_longer = after_no_longer ts new m;
}

pub an_opening : (ts mid new : List Token) (b : Bool) → (next ts).kind ≡ kind.Clause clause.Select → mid ≡ after ts → IsFound SpellsDistinct (May optional.Distinct ∷ []) [] mid b new → IsFound SpellsOpening (One expected.Select ∷ May optional.Distinct ∷ []) [] ts b new
an_opening ts mid new b h m i = behind_token SpellsOpening SpellsDistinct b expected.Select (May optional.Distinct ∷ []) ts mid new b (leads_select ts mid h m) m (grammar.an_opening h) i

pub no_opening : (ts : List Token) → (next ts).kind ≢ kind.Clause clause.Select → Fails (One expected.Select ∷ May optional.Distinct ∷ []) ts
no_opening ts h = fails_with (May optional.Distinct ∷ []) (fails_select ts h)

-- ---- directions, numbers

direction_out : (k : Kind) → k ≢ kind.Clause clause.Asc → k ≢ kind.Clause clause.Desc → direction_by k ≡ None
unfolding direction_by
direction_out (kind.Clause clause.Asc) h g = absurd (h refl)
direction_out (kind.Clause clause.Desc) h g = absurd (g refl)
direction_out other h g = refl

pub ascending : (ts new : List Token) → (next ts).kind ≡ kind.Clause clause.Asc → new ≡ after ts → IsFound SpellsDirection (May optional.Direction ∷ []) [] ts false new
unfolding direction_by
ascending ts new h m = record {
  spelled = rw m (grammar.ascending h);
  leads = leads_word optional.Direction (kind.Clause clause.Asc) [] ts new h (λ j. cc) refl m;
  no_longer = after_no_longer ts new m;
}

pub descending : (ts new : List Token) → (next ts).kind ≡ kind.Clause clause.Desc → new ≡ after ts → IsFound SpellsDirection (May optional.Direction ∷ []) [] ts true new
unfolding direction_by
descending ts new h m = record {
  spelled = rw m (grammar.descending h);
  leads = leads_word optional.Direction (kind.Clause clause.Desc) [] ts new h (λ j. cc) refl m;
  no_longer = after_no_longer ts new m;
}

pub no_direction : (ts new : List Token) → (next ts).kind ≢ kind.Clause clause.Asc → (next ts).kind ≢ kind.Clause clause.Desc → new ≡ ts → IsFound SpellsDirection (May optional.Direction ∷ []) [] ts false new
no_direction ts new h g m = absent SpellsDirection optional.Direction ts new false (direction_out (next ts).kind h g) (grammar.no_direction h g) m

-- behind a test for ASC that failed
pub desc_or_none : (ts mid new : List Token) (b : Bool) → (next ts).kind ≢ kind.Clause clause.Asc → mid ≡ ts → Took (kind.Clause clause.Desc) mid b new → IsFound SpellsDirection (May optional.Direction ∷ []) [] ts b new
desc_or_none ts mid new true h m t = descending ts new (subst (λ (x : List Token). (next x).kind ≡ kind.Clause clause.Desc) m t.0) (t.1 ∙ ap after m)
desc_or_none ts mid new false h m t = no_direction ts new h (subst (λ (x : List Token). (next x).kind ≢ kind.Clause clause.Desc) m t.0) (t.1 ∙ m)

pub a_number : (ts new : List Token) (n : ℤ) → (next ts).kind ≡ kind.Number (Some n) → new ≡ after ts → IsFound SpellsNumber (One expected.Number ∷ []) [] ts n new
unfolding fits found wide
a_number ts new n h m = record {
  spelled = rw m (grammar.a_number h);
  leads = leads_take expected.Number ts new (ap (fits expected.Number) h) (ap (wide (next ts)) h) (λ j. cc) m;
  no_longer = after_no_longer ts new m;
}

pub wide_number : (ts : List Token) → (next ts).kind ≡ kind.Number None → Fails (One expected.Number ∷ []) ts
unfolding fits found wide
wide_number ts h = fails_found expected.Number ts (ap (fits expected.Number) h) (rw h (λ e. cc))

number_misfit : (k : Kind) → ((value : _) → k ≢ kind.Number value) → fits expected.Number k ≡ false
unfolding fits
number_misfit (kind.Number value) h = absurd (h value refl)
number_misfit other h = refl

pub no_number : (ts : List Token) → ((value : _) → (next ts).kind ≢ kind.Number value) → Fails (One expected.Number ∷ []) ts
no_number ts h = fails_one expected.Number ts (number_misfit (next ts).kind h)

pub leads_plus_sign : (ts mid : List Token) → (next ts).kind ≡ kind.Plus → mid ≡ after ts → Leads (Must rule.Integer ∷ []) (One expected.Number ∷ []) ts mid
unfolding integer_by fits found
leads_plus_sign ts mid h m = leads_on (leads_rule rule.Integer expected.Chosen (One expected.Number ∷ []) ts (ap integer_by h)) (leads_with (One expected.Number ∷ []) (leads_take expected.Chosen ts mid refl refl (λ j. cc) m))

pub leads_minus_sign : (ts mid : List Token) → (next ts).kind ≡ kind.Minus → mid ≡ after ts → Leads (Must rule.Integer ∷ []) (One expected.Number ∷ []) ts mid
unfolding integer_by fits found
leads_minus_sign ts mid h m = leads_on (leads_rule rule.Integer expected.Chosen (One expected.Number ∷ []) ts (ap integer_by h)) (leads_with (One expected.Number ∷ []) (leads_take expected.Chosen ts mid refl refl (λ j. cc) m))

unsigned_out : (k : Kind) → k ≢ kind.Plus → k ≢ kind.Minus → integer_by k ≡ One expected.Number ∷ []
unfolding integer_by
unsigned_out kind.Plus h g = absurd (h refl)
unsigned_out kind.Minus h g = absurd (g refl)
unsigned_out other h g = refl

leads_no_sign : (ts : List Token) → (next ts).kind ≢ kind.Plus → (next ts).kind ≢ kind.Minus → Leads (Must rule.Integer ∷ []) (One expected.Number ∷ []) ts ts
leads_no_sign ts h g = leads_rule rule.Integer expected.Number [] ts (unsigned_out (next ts).kind h g)

pub plus_integer : (ts mid new : List Token) (result : Result ℤ Stop) → (next ts).kind ≡ kind.Plus → mid ≡ after ts → Finds (λ n. n) SpellsNumber (One expected.Number ∷ []) mid result new → Finds (λ n. n) SpellsInteger (Must rule.Integer ∷ []) ts result new
plus_integer ts mid new (Ok n) h m i = record {
  spelled = grammar.with_plus h (subst (λ (x : List Token). SpellsNumber x n new) m i.spelled);
  leads = leads_on (leads_plus_sign ts mid h m) i.leads;
  no_longer = let p = after_no_longer ts mid m in let q = i.no_longer in omega arith;
}
plus_integer ts mid new (Err e) h m s = stopped_later e (leads_plus_sign ts mid h m) s

pub minus_integer : (ts mid new : List Token) (n z : ℤ) → (next ts).kind ≡ kind.Minus → mid ≡ after ts → IsFound SpellsNumber (One expected.Number ∷ []) [] mid n new → z ≡ minus n → IsFound SpellsInteger (Must rule.Integer ∷ []) [] ts z new
minus_integer ts mid new n z h m i e = subst (λ (x : ℤ). IsFound SpellsInteger (Must rule.Integer ∷ []) [] ts x new) (sym e) (record {
  spelled = grammar.with_minus h (subst (λ (x : List Token). SpellsNumber x n new) m i.spelled);
  leads = leads_on (leads_minus_sign ts mid h m) i.leads;
  no_longer = let p = after_no_longer ts mid m in let q = i.no_longer in omega arith;
})

pub unsigned_integer : (ts new : List Token) (result : Result ℤ Stop) → (next ts).kind ≢ kind.Plus → (next ts).kind ≢ kind.Minus → Finds (λ n. n) SpellsNumber (One expected.Number ∷ []) ts result new → Finds (λ n. n) SpellsInteger (Must rule.Integer ∷ []) ts result new
unsigned_integer ts new (Ok n) h g i = record { spelled = grammar.unsigned h g i.spelled; leads = leads_on (leads_no_sign ts h g) i.leads; no_longer = i.no_longer }
unsigned_integer ts new (Err e) h g s = stopped_later e (leads_no_sign ts h g) s

-- ---- items

pub an_expression_item : (ts middle new : List Token) (e : Tree) (a : Option Name) (x : ItemTree) → IsFound SpellsExpression (Must (rule.Chain level.Or 0) ∷ []) [] ts e middle → IsFound SpellsAlias (May optional.Alias ∷ []) [] middle a new
    → x ≡ one e (record { start = (next ts).span.start; end = (next middle).previous_end }) a → IsFound SpellsExpressionItem (Must (rule.Chain level.Or 0) ∷ May optional.Alias ∷ []) [] ts x new
an_expression_item ts middle new e a x i j q = subst (λ (y : ItemTree). IsFound SpellsExpressionItem (Must (rule.Chain level.Or 0) ∷ May optional.Alias ∷ []) [] ts y new) (sym q) (record {
  spelled = grammar.an_expression i.spelled j.spelled;
  leads = leads_on (leads_with (May optional.Alias ∷ []) i.leads) j.leads;
  no_longer = let p = i.no_longer in let r = j.no_longer in omega arith;
})

both_left : (a b : Bool) → a && b ≡ true → a ≡ true
both_left true b h = refl
both_left false b h = absurd (cc)

both_right : (a b : Bool) → a && b ≡ true → b ≡ true
both_right true b h = h
both_right false b h = absurd (cc)

dot_fits : (k : Kind) → is_dot k ≡ true → fits expected.Dot k ≡ true
unfolding fits
dot_fits kind.Dot h = refl
dot_fits other h = absurd (cc)

dot_no_end : (k : Kind) → is_dot k ≡ true → k ≢ kind.End
dot_no_end k h e = let p : is_dot kind.End ≡ true = subst (λ (x : Kind). is_dot x ≡ true) e h in cc

star_fits : (k : Kind) → is_star k ≡ true → fits expected.Star k ≡ true
unfolding fits
star_fits kind.Star h = refl
star_fits other h = absurd (cc)

star_no_end : (k : Kind) → is_star k ≡ true → k ≢ kind.End
star_no_end k h e = let p : is_star kind.End ≡ true = subst (λ (x : Kind). is_star x ≡ true) e h in cc

leads_dot_token : (ts : List Token) → is_dot (next ts).kind ≡ true → Leads (One expected.Dot ∷ []) [] ts (after ts)
unfolding found
leads_dot_token ts h = leads_take expected.Dot ts (after ts) (dot_fits (next ts).kind h) refl (dot_no_end (next ts).kind h) refl

leads_star_token : (ts : List Token) → is_star (next ts).kind ≡ true → Leads (One expected.Star ∷ []) [] ts (after ts)
unfolding found
leads_star_token ts h = leads_take expected.Star ts (after ts) (star_fits (next ts).kind h) refl (star_no_end (next ts).kind h) refl

leads_all_of : (ts : List Token) → is_all_of ts ≡ true → Leads (Must rule.SelectItem ∷ []) (One expected.Name ∷ One expected.Dot ∷ One expected.Star ∷ []) ts ts
unfolding select_item_by
leads_all_of ts h = leads_rule rule.SelectItem expected.Name (One expected.Dot ∷ One expected.Star ∷ []) ts (ap (λ (b : Bool). select_item_by b (next ts) (next ts).kind) h)

pub an_all_of : (ts new : List Token) (x : ItemTree) → is_all_of ts ≡ true → new ≡ after (after (after ts)) → x ≡ all_of (name_of (next ts)) → IsFound SpellsItem (Must rule.SelectItem ∷ []) [] ts x new
an_all_of ts new x h m e = rw (e, m) (record {
  spelled = grammar.all_columns_of h;
  leads =
      let n = both_left (is_name (next ts).kind) (is_dot (next (after ts)).kind && is_star (next (after (after ts))).kind) h in
      let r = both_right (is_name (next ts).kind) (is_dot (next (after ts)).kind && is_star (next (after (after ts))).kind) h in
      let d = both_left (is_dot (next (after ts)).kind) (is_star (next (after (after ts))).kind) r in
      let s = both_right (is_dot (next (after ts)).kind) (is_star (next (after (after ts))).kind) r in
      leads_on (leads_all_of ts h) (leads_on (leads_with (One expected.Dot ∷ One expected.Star ∷ []) (leads_name_token ts (after ts) n refl)) (leads_on (leads_with (One expected.Star ∷ []) (leads_dot_token (after ts) d)) (leads_star_token (after (after ts)) s)));
  no_longer = let p = one_less ts in let q = one_less (after ts) in let r = one_less (after (after ts)) in omega arith;
})

pub an_all : (ts new : List Token) (x : ItemTree) → is_all_of ts ≡ false → (next ts).kind ≡ kind.Star → new ≡ after ts → x ≡ all (next ts).span.start → IsFound SpellsItem (Must rule.SelectItem ∷ []) [] ts x new
unfolding select_item_by other_item_by fits found
an_all ts new x h k m e = rw (e, m) (record {
  spelled = grammar.all_columns k;
  leads = leads_on (leads_rule rule.SelectItem expected.Chosen [] ts (ap (λ (b : Bool). select_item_by b (next ts) (next ts).kind) h ∙ ap (other_item_by (next ts)) k)) (leads_take expected.Chosen ts (after ts) refl refl (λ j. cc) refl);
  no_longer = one_less ts;
})

other_item_out : (t : Token) (k : Kind) → k ≢ kind.Star → other_item_by t k ≡ or_by 0 t k ++ May optional.Alias ∷ []
unfolding other_item_by
other_item_out t kind.Star h = absurd (h refl)
other_item_out t other h = refl

leads_other_item : (ts : List Token) → is_all_of ts ≡ false → (next ts).kind ≢ kind.Star → Leads (Must rule.SelectItem ∷ []) (Must (rule.Chain level.Or 0) ∷ May optional.Alias ∷ []) ts ts
unfolding settled select_item_by
leads_other_item ts h k = record {
  holds = λ parts. same_settled (Must rule.SelectItem ∷ parts) (Must (rule.Chain level.Or 0) ∷ May optional.Alias ∷ parts) ts
      (ap (λ (x : List Part). x ++ parts) (ap (λ (b : Bool). select_item_by b (next ts) (next ts).kind) h ∙ other_item_out (next ts) (next ts).kind k) ∙ append_assoc (or_by 0 (next ts) (next ts).kind) (May optional.Alias ∷ []) parts);
}

pub an_other_item : {A : Type 0} (view : A → ItemTree) (ts new : List Token) (result : Result A Stop) → is_all_of ts ≡ false → (next ts).kind ≢ kind.Star → Finds view SpellsExpressionItem (Must (rule.Chain level.Or 0) ∷ May optional.Alias ∷ []) ts result new
    → Finds view SpellsItem (Must rule.SelectItem ∷ []) ts result new
an_other_item view ts new (Ok x) h k i = record {
  spelled = grammar.an_item h k i.spelled;
  leads = leads_on (leads_other_item ts h k) i.leads;
  no_longer = i.no_longer;
}
an_other_item view ts new (Err e) h k s = stopped_later e (leads_other_item ts h k) s

-- ---- commas

pub comma_start : {X : Type 0} (at : Spelling X) (parts : List Part) (o : Optional) (old here : List Token) (x : X) (xs : List X) → IsFound at parts [] old x here → xs ≡ x ∷ []
    → IsSoFar (BehindComma at) (WithCommas at) (parts ++ May o ∷ []) (May o ∷ []) old xs here
comma_start {X} at parts o old here x xs i e = subst (λ (y : List X). IsSoFar (BehindComma at) (WithCommas at) (parts ++ May o ∷ []) (May o ∷ []) old y here) (sym e) (list_start at (BehindComma at) parts (May o ∷ []) old here x i)

pub comma_more : {X : Type 0} (at : Spelling X) (whole : Spelling (List X)) (before parts : List Part) (o : Optional) (old here mid new : List Token) (x : X) (xs ys : List X)
    → IsSoFar (BehindComma at) whole before (May o ∷ []) old xs here → (next here).kind ≡ kind.Comma → mid ≡ after here → entered o kind.Comma ≡ Some (One expected.Chosen ∷ parts ++ May o ∷ []) → IsFound at parts [] mid x new → ys ≡ xs ++ x ∷ []
    → IsSoFar (BehindComma at) whole before (May o ∷ []) old ys new
comma_more {X} at whole before parts o old here mid new x xs ys s k m g i e = subst (λ (z : List X). IsSoFar (BehindComma at) whole before (May o ∷ []) old z new) (sym e)
    (list_more new x s (grammar.a_comma k (subst (λ (z : List Token). at z x new) m i.spelled)) (let p = after_less here mid m (λ j. cc) in let q = i.no_longer in omega arith)
    (leads_on (leads_word o kind.Comma (parts ++ May o ∷ []) here mid k (λ j. cc) g m) (leads_with (May o ∷ []) i.leads)))

pub comma_end : {X : Type 0} (at : Spelling X) (whole : Spelling (List X)) (before : List Part) (o : Optional) (old here : List Token) (xs : List X)
    → IsSoFar (BehindComma at) whole before (May o ∷ []) old xs here → (next here).kind ≢ kind.Comma → entered o (next here).kind ≡ None → IsFound whole before [] old xs here
comma_end at whole before o old here xs s k g = list_end here s (grammar.no_comma k) (leads_past o here g) (omega arith)

pub comma_stopped : {X : Type 0} (at : Spelling X) (whole : Spelling (List X)) (before parts : List Part) (o : Optional) (old here mid : List Token) (xs : List X) (e : Stop)
    → IsSoFar (BehindComma at) whole before (May o ∷ []) old xs here → (next here).kind ≡ kind.Comma → mid ≡ after here → entered o kind.Comma ≡ Some (One expected.Chosen ∷ parts ++ May o ∷ []) → Stopped parts mid e → Stopped before old e
comma_stopped at whole before parts o old here mid xs e s k m g h = stopped_later e (leads_on s.leads (leads_word o kind.Comma (parts ++ May o ∷ []) here mid k (λ j. cc) g m)) (stopped_with parts (May o ∷ []) mid e h)

pub select_items_comma : entered optional.SelectItems kind.Comma ≡ Some (One expected.Chosen ∷ Must rule.SelectItem ∷ May optional.SelectItems ∷ [])
unfolding select_items_by
select_items_comma = refl

pub select_items_no_comma : (k : Kind) → k ≢ kind.Comma → entered optional.SelectItems k ≡ None
unfolding select_items_by
select_items_no_comma kind.Comma h = absurd (h refl)
select_items_no_comma other h = refl

pub names_comma : entered optional.Names kind.Comma ≡ Some (One expected.Chosen ∷ One expected.Name ∷ May optional.Names ∷ [])
unfolding names_by
names_comma = refl

pub names_no_comma : (k : Kind) → k ≢ kind.Comma → entered optional.Names k ≡ None
unfolding names_by
names_no_comma kind.Comma h = absurd (h refl)
names_no_comma other h = refl

pub item_comma : entered (optional.Item 0) kind.Comma ≡ Some (One expected.Chosen ∷ Must (rule.Chain level.Or 0) ∷ May (optional.Item 0) ∷ [])
unfolding item_by
item_comma = refl

pub item_no_comma : (k : Kind) → k ≢ kind.Comma → entered (optional.Item 0) k ≡ None
unfolding item_by
item_no_comma kind.Comma h = absurd (h refl)
item_no_comma other h = refl

pub terms_comma : entered optional.Terms kind.Comma ≡ Some (One expected.Chosen ∷ Must (rule.Chain level.Or 0) ∷ May optional.Direction ∷ May optional.Terms ∷ [])
unfolding terms_by
terms_comma = refl

pub terms_no_comma : (k : Kind) → k ≢ kind.Comma → entered optional.Terms k ≡ None
unfolding terms_by
terms_no_comma kind.Comma h = absurd (h refl)
terms_no_comma other h = refl

-- ---- joins

pub a_join : (f : Form) (ts new : List Token) → (next ts).kind ≡ kind.Clause clause.Join → new ≡ after ts → IsFound (SpellsJoin f) (One expected.Join ∷ []) [] ts (Some f) new
a_join f ts new h m = record { spelled = rw m (grammar.a_join h); leads = leads_join ts new h m; no_longer = after_no_longer ts new m }

-- where this rule finds anything, it is this form
abbrev pub FindsOnly : (Spelling (Option Form)) → Form → List Token → Type 0
FindsOnly inner f ts = (o : Option Form) (new : List Token) → inner ts o new → o ≡ Some f

pub join_only : (f : Form) (ts : List Token) → FindsOnly (SpellsJoin f) f ts
join_only f ts o new (grammar.a_join h) = refl

pub outer_only : (ts : List Token) → FindsOnly SpellsOuterJoin form.Outer ts
outer_only ts o new (grammar.without_outer n h) = join_only form.Outer ts o new h
outer_only ts o new (grammar.with_outer k h) = join_only form.Outer (after ts) o new h

left_out : (k : Kind) → k ≢ kind.Clause clause.Outer → left_join_by k ≡ One expected.Join ∷ []
unfolding left_join_by
left_out (kind.Clause clause.Outer) h = absurd (h refl)
left_out other h = refl

leads_outer : (ts mid : List Token) (b : Bool) → Took (kind.Clause clause.Outer) ts b mid → Leads (Must rule.LeftJoin ∷ []) (One expected.Join ∷ []) ts mid
unfolding left_join_by fits found
leads_outer ts mid true t = let k = t.0 in leads_on (leads_rule rule.LeftJoin expected.Chosen (One expected.Join ∷ []) ts (ap left_join_by k)) (leads_with (One expected.Join ∷ []) (leads_take expected.Chosen ts mid refl refl (λ j. cc) t.1))
leads_outer ts mid false t = subst (λ (x : List Token). Leads (Must rule.LeftJoin ∷ []) (One expected.Join ∷ []) ts x) (sym t.1) (leads_rule rule.LeftJoin expected.Join [] ts (left_out (next ts).kind t.0))

outer_spelled : {o : Option Form} {new : List Token} (ts mid : List Token) (b : Bool) → Took (kind.Clause clause.Outer) ts b mid → SpellsJoin form.Outer mid o new → SpellsOuterJoin ts o new
outer_spelled {o} {new} ts mid true t s = grammar.with_outer t.0 (subst (λ (x : List Token). SpellsJoin form.Outer x o new) t.1 s)
outer_spelled {o} {new} ts mid false t s = grammar.without_outer t.0 (subst (λ (x : List Token). SpellsJoin form.Outer x o new) t.1 s)

took_no_longer : (k : Kind) (ts mid : List Token) (b : Bool) → Took k ts b mid → length mid ≤ length ts
took_no_longer k ts mid true t = after_no_longer ts mid t.1
took_no_longer k ts mid false t = let e = ap length t.1 in omega arith

pub finds_outer : (ts mid new : List Token) (b : Bool) (result : Result (Option Form) Stop) → Took (kind.Clause clause.Outer) ts b mid → Finds (λ f. f) (SpellsJoin form.Outer) (One expected.Join ∷ []) mid result new → Finds (λ f. f) SpellsOuterJoin (Must rule.LeftJoin ∷ []) ts result new
finds_outer ts mid new b (Ok o) t i = record {
  spelled = outer_spelled ts mid b t i.spelled;
  leads = leads_on (leads_outer ts mid b t) i.leads;
  no_longer = let p = took_no_longer (kind.Clause clause.Outer) ts mid b t in let q = i.no_longer in omega arith;
}
finds_outer ts mid new b (Err e) t s = stopped_later e (leads_outer ts mid b t) s

form_behind : (f : Form) (inner : Spelling (Option Form)) (parts : List Part) (ts mid new : List Token) (result : Result (Option Form) Stop) → FindsOnly inner f mid
    → Leads (May optional.Sources ∷ []) (parts ++ (form_parts f ++ May optional.Sources ∷ [])) ts mid → ((o : Option Form) → inner mid o new → SpellsForm ts o new) → length mid < length ts → Finds (λ x. x) inner parts mid result new → FormFound ts result new
form_behind f inner parts ts mid new (Ok None) w l e n i = let p = w None new i.spelled in absurd (cc)
form_behind f inner parts ts mid new (Ok (Some g)) w l e n i =
    let p : Some g ≡ Some f = w (Some g) new i.spelled in
    let q : f ≡ g = cc in (
      record {
        spelled = e (Some g) i.spelled;
        leads = subst (λ (x : Form). Leads (May optional.Sources ∷ []) (form_parts x ++ May optional.Sources ∷ []) ts new) q (leads_on l (leads_with (form_parts f ++ May optional.Sources ∷ []) i.leads));
        no_longer = let r = i.no_longer in omega arith;
      },
      let r = i.no_longer in omega arith,
    )
form_behind f inner parts ts mid new (Err e) w l g n s = stopped_later e l (stopped_with parts (form_parts f ++ May optional.Sources ∷ []) mid e s)

pub cross_form : (ts mid new : List Token) (result : Result (Option Form) Stop) → (next ts).kind ≡ kind.Clause clause.Cross → mid ≡ after ts → Finds (λ x. x) (SpellsJoin form.Plain) (One expected.Join ∷ []) mid result new → FormFound ts result new
unfolding sources_by
cross_form ts mid new result h m i =
    form_behind form.Plain (SpellsJoin form.Plain) (One expected.Join ∷ []) ts mid new result (join_only form.Plain mid)
    (leads_word optional.Sources (kind.Clause clause.Cross) (One expected.Join ∷ (source_parts ++ May optional.Sources ∷ [])) ts mid h (λ j. cc) refl m)
    (λ o s. grammar.by_cross_join h (subst (λ (x : List Token). SpellsJoin form.Plain x o new) m s)) (after_less ts mid m (λ j. cc)) i

pub inner_form : (ts mid new : List Token) (result : Result (Option Form) Stop) → (next ts).kind ≡ kind.Clause clause.Inner → mid ≡ after ts → Finds (λ x. x) (SpellsJoin form.Inner) (One expected.Join ∷ []) mid result new → FormFound ts result new
unfolding sources_by
inner_form ts mid new result h m i =
    form_behind form.Inner (SpellsJoin form.Inner) (One expected.Join ∷ []) ts mid new result (join_only form.Inner mid)
    (leads_word optional.Sources (kind.Clause clause.Inner) (One expected.Join ∷ (form_parts form.Inner ++ May optional.Sources ∷ [])) ts mid h (λ j. cc) refl m)
    (λ o s. grammar.by_inner_join h (subst (λ (x : List Token). SpellsJoin form.Inner x o new) m s)) (after_less ts mid m (λ j. cc)) i

pub left_form : (ts mid new : List Token) (result : Result (Option Form) Stop) → (next ts).kind ≡ kind.Clause clause.Left → mid ≡ after ts → Finds (λ x. x) SpellsOuterJoin (Must rule.LeftJoin ∷ []) mid result new → FormFound ts result new
unfolding sources_by
left_form ts mid new result h m i =
    form_behind form.Outer SpellsOuterJoin (Must rule.LeftJoin ∷ []) ts mid new result (outer_only mid)
    (leads_word optional.Sources (kind.Clause clause.Left) (Must rule.LeftJoin ∷ (form_parts form.Outer ++ May optional.Sources ∷ [])) ts mid h (λ j. cc) refl m)
    (λ o s. grammar.by_left_join h (subst (λ (x : List Token). SpellsOuterJoin x o new) m s)) (after_less ts mid m (λ j. cc)) i

pub join_word_form : (ts mid : List Token) → (next ts).kind ≡ kind.Clause clause.Join → mid ≡ after ts → FormFound ts (Ok (Some form.Inner)) mid
unfolding sources_by
join_word_form ts mid h m = (
  record {
    spelled = rw m (grammar.by_join (grammar.a_join h));
    leads = leads_word optional.Sources (kind.Clause clause.Join) (form_parts form.Inner ++ May optional.Sources ∷ []) ts mid h (λ j. cc) refl m;
    no_longer = after_no_longer ts mid m;
  },
  after_less ts mid m (λ j. cc),
)

pub comma_form : (ts mid : List Token) → (next ts).kind ≡ kind.Comma → mid ≡ after ts → FormFound ts (Ok (Some form.Plain)) mid
unfolding sources_by
comma_form ts mid h m = (
  record {
    spelled = rw m (grammar.by_comma h);
    leads = leads_word optional.Sources kind.Comma (form_parts form.Plain ++ May optional.Sources ∷ []) ts mid h (λ j. cc) refl m;
    no_longer = after_no_longer ts mid m;
  },
  after_less ts mid m (λ j. cc),
)

-- no word that brings a table in
word_out : (w : Clause) → w ≢ clause.Cross → w ≢ clause.Join → w ≢ clause.Inner → w ≢ clause.Left → sources_by (kind.Clause w) ≡ None
unfolding sources_by
word_out clause.Cross a b c d = absurd (a refl)
word_out clause.Join a b c d = absurd (b refl)
word_out clause.Inner a b c d = absurd (c refl)
word_out clause.Left a b c d = absurd (d refl)
word_out other a b c d = refl

abbrev word_in : Kind → Clause
word_in (kind.Clause w) = w
word_in other = clause.By

same_word : {v w : Clause} → kind.Clause v ≡ kind.Clause w → v ≡ w
same_word e = ap word_in e

pub no_form_word : (ts : List Token) (w : Clause) → (next ts).kind ≡ kind.Clause w → w ≢ clause.Cross → w ≢ clause.Join → w ≢ clause.Inner → w ≢ clause.Left → FormFound ts (Ok None) ts
no_form_word ts w h a b c d = absent SpellsForm optional.Sources ts ts None (ap sources_by h ∙ word_out w a b c d) (grammar.no_table (λ e. let p = sym h ∙ e in cc) (λ e. a (same_word (sym h ∙ e))) (λ e. b (same_word (sym h ∙ e))) (λ e. c (same_word (sym h ∙ e))) (λ e. d (same_word (sym h ∙ e)))) refl

form_out : (k : Kind) → k ≢ kind.Comma → ((w : Clause) → k ≢ kind.Clause w) → sources_by k ≡ None
unfolding sources_by
form_out kind.Comma a b = absurd (a refl)
form_out (kind.Clause w) a b = absurd (b w refl)
form_out other a b = refl

pub no_form : (ts : List Token) → (next ts).kind ≢ kind.Comma → ((w : Clause) → (next ts).kind ≢ kind.Clause w) → FormFound ts (Ok None) ts
no_form ts a b = absent SpellsForm optional.Sources ts ts None (form_out (next ts).kind a b) (grammar.no_table a (b clause.Cross) (b clause.Join) (b clause.Inner) (b clause.Left)) refl

-- ---- names in parentheses, conditions

pub a_names : (ts mid here new : List Token) (ns : List Name) → (next ts).kind ≡ kind.Open → mid ≡ after ts → IsFound (WithCommas SpellsName) (One expected.Name ∷ May optional.Names ∷ []) [] mid ns here → (next here).kind ≡ kind.Close → new ≡ after here
    → IsFound SpellsNames names_parts [] ts ns new
a_names ts mid here new ns h m i k g = record {
  spelled = rw g (grammar.some_names h (subst (λ (x : List Token). WithCommas SpellsName x ns here) m i.spelled) k);
  leads = leads_on (leads_with (One expected.Name ∷ May optional.Names ∷ One expected.Close ∷ []) (leads_opened ts mid h m)) (leads_on (leads_with (One expected.Close ∷ []) i.leads) (leads_close here new k g));
  no_longer = let p = after_no_longer ts mid m in let q = i.no_longer in let r = after_no_longer here new g in omega arith;
}

pub no_names : (ts : List Token) → (next ts).kind ≢ kind.Open → Fails names_parts ts
no_names ts h = fails_with (One expected.Name ∷ May optional.Names ∷ One expected.Close ∷ []) (fails_opened ts h)

pub stopped_names : (ts mid : List Token) (e : Stop) → (next ts).kind ≡ kind.Open → mid ≡ after ts → Stopped (One expected.Name ∷ May optional.Names ∷ []) mid e → Stopped names_parts ts e
stopped_names ts mid e h m s = stopped_later e (leads_with (One expected.Name ∷ May optional.Names ∷ One expected.Close ∷ []) (leads_opened ts mid h m)) (stopped_with (One expected.Name ∷ May optional.Names ∷ []) (One expected.Close ∷ []) mid e s)

pub unclosed_names : (ts mid here : List Token) (ns : List Name) → (next ts).kind ≡ kind.Open → mid ≡ after ts → IsFound (WithCommas SpellsName) (One expected.Name ∷ May optional.Names ∷ []) [] mid ns here → (next here).kind ≢ kind.Close → Fails names_parts ts
unclosed_names ts mid here ns h m i k =
    fails_later (leads_on (leads_with (One expected.Name ∷ May optional.Names ∷ One expected.Close ∷ []) (leads_opened ts mid h m)) (leads_with (One expected.Close ∷ []) i.leads)) (fails_close here k)

condition_out : (k : Kind) → k ≢ kind.Clause clause.On → k ≢ kind.Clause clause.Using → condition_by k ≡ None
unfolding condition_by
condition_out (kind.Clause clause.On) a b = absurd (a refl)
condition_out (kind.Clause clause.Using) a b = absurd (b refl)
condition_out other a b = refl

pub an_on : (ts mid new : List Token) (e : Tree) (none : List Name) → (next ts).kind ≡ kind.Clause clause.On → mid ≡ after ts → none ≡ [] → IsFound SpellsExpression (Must (rule.Chain level.Or 0) ∷ []) [] mid e new
    → IsFound SpellsCondition (May optional.Condition ∷ []) [] ts (Some e, none) new
unfolding condition_by
an_on ts mid new e none h m n i = rw n (behind_word SpellsCondition SpellsExpression (Some e, []) optional.Condition (kind.Clause clause.On) (Must (rule.Chain level.Or 0) ∷ []) ts mid new e h (λ j. cc) refl m (grammar.an_on h) i)

pub stopped_on : (ts mid : List Token) (e : Stop) → (next ts).kind ≡ kind.Clause clause.On → mid ≡ after ts → Stopped (Must (rule.Chain level.Or 0) ∷ []) mid e → Stopped (May optional.Condition ∷ []) ts e
unfolding condition_by
stopped_on ts mid e h m s = stopped_word optional.Condition (kind.Clause clause.On) (Must (rule.Chain level.Or 0) ∷ []) ts mid e h (λ j. cc) refl m s

pub a_using : (ts here mid new : List Token) (ns : List Name) → here ≡ ts → (next here).kind ≡ kind.Clause clause.Using → mid ≡ after here → IsFound SpellsNames names_parts [] mid ns new → IsFound SpellsCondition (May optional.Condition ∷ []) [] ts (None, ns) new
unfolding condition_by
a_using ts here mid new ns q h m i = subst (λ (x : List Token). IsFound SpellsCondition (May optional.Condition ∷ []) [] x (None, ns) new) q
    (behind_word SpellsCondition SpellsNames (None, ns) optional.Condition (kind.Clause clause.Using) names_parts here mid new ns h (λ j. cc) refl m (grammar.a_using h) i)

pub stopped_using : (ts here mid : List Token) (e : Stop) → here ≡ ts → (next here).kind ≡ kind.Clause clause.Using → mid ≡ after here → Stopped names_parts mid e → Stopped (May optional.Condition ∷ []) ts e
unfolding condition_by
stopped_using ts here mid e q h m s = subst (λ (x : List Token). Stopped (May optional.Condition ∷ []) x e) q (stopped_word optional.Condition (kind.Clause clause.Using) names_parts here mid e h (λ j. cc) refl m s)

pub no_condition : (ts here new : List Token) (none : List Name) → (next ts).kind ≢ kind.Clause clause.On → here ≡ ts → (next here).kind ≢ kind.Clause clause.Using → new ≡ here → none ≡ [] → IsFound SpellsCondition (May optional.Condition ∷ []) [] ts (None, none) new
no_condition ts here new none a q b m n = rw n (let u = subst (λ (x : List Token). (next x).kind ≢ kind.Clause clause.Using) q b in
    absent SpellsCondition optional.Condition ts new (None, []) (condition_out (next ts).kind a u) (grammar.no_condition a u) (m ∙ q))

pub no_condition_of : (ts : List Token) (none : List Name) → none ≡ [] → IsFound (SpellsConditionOf form.Plain) [] [] ts (None, none) ts
no_condition_of ts none n = rw n (record { spelled = (refl, refl); leads = record { holds = λ parts. refl }; no_longer = omega arith })

-- ---- tables

pub a_source : (f : Form) (ts a b new : List Token) (table : Name) (other : Option Name) (on : Option Tree) (using : List Name) (outer_join : Bool) → IsFound SpellsName (One expected.Name ∷ []) [] ts table a → IsFound SpellsAlias (May optional.Alias ∷ []) [] a other b
    → IsFound (SpellsConditionOf f) (condition_parts f) [] b (on, using) new → outer_join ≡ is_outer f
    → IsFound (SpellsTable f) (form_parts f) [] ts (record { table = table; alias = other; is_outer = outer_join; on = on; using = using }) new
a_source f ts a b new table other on using o i j k e = rw e (record {
  spelled = grammar.a_table i.spelled j.spelled k.spelled;
  leads = leads_on (leads_with (May optional.Alias ∷ condition_parts f) i.leads) (leads_on (leads_with (condition_parts f) j.leads) k.leads);
  no_longer = let p = i.no_longer in let q = j.no_longer in let r = k.no_longer in omega arith;
})

pub stopped_table : (f : Form) (ts : List Token) (e : Stop) → Stopped (One expected.Name ∷ []) ts e → Stopped (form_parts f) ts e
stopped_table f ts e s = stopped_with (One expected.Name ∷ []) (May optional.Alias ∷ condition_parts f) ts e s

pub stopped_table_alias : (f : Form) (ts a : List Token) (table : Name) (e : Stop) → IsFound SpellsName (One expected.Name ∷ []) [] ts table a → Stopped (May optional.Alias ∷ []) a e → Stopped (form_parts f) ts e
stopped_table_alias f ts a table e i s = stopped_later e (leads_with (May optional.Alias ∷ condition_parts f) i.leads) (stopped_with (May optional.Alias ∷ []) (condition_parts f) a e s)

pub stopped_table_condition : (f : Form) (ts a b : List Token) (table : Name) (other : Option Name) (e : Stop) → IsFound SpellsName (One expected.Name ∷ []) [] ts table a → IsFound SpellsAlias (May optional.Alias ∷ []) [] a other b → Stopped (condition_parts f) b e → Stopped (form_parts f) ts e
stopped_table_condition f ts a b table other e i j s = stopped_later e (leads_on (leads_with (May optional.Alias ∷ condition_parts f) i.leads) (leads_with (condition_parts f) j.leads)) s

abbrev SourcesSoFar : List Token → List RefTree → List Token → Type 0
SourcesSoFar = IsSoFar SpellsFurtherTable SpellsTables (One expected.Name ∷ May optional.Alias ∷ May optional.Sources ∷ []) (May optional.Sources ∷ [])

pub sources_start : (old here : List Token) (x : RefTree) (xs : List RefTree) → IsFound (SpellsTable form.Plain) (form_parts form.Plain) [] old x here → xs ≡ x ∷ [] → SourcesSoFar old xs here
sources_start old here x xs i e = subst (λ (y : List RefTree). SourcesSoFar old y here) (sym e) (list_start (SpellsTable form.Plain) SpellsFurtherTable (form_parts form.Plain) (May optional.Sources ∷ []) old here x i)

pub sources_more : (f : Form) (old here mid new : List Token) (x : RefTree) (xs ys : List RefTree) → SourcesSoFar old xs here → FormFound here (Ok (Some f)) mid → IsFound (SpellsTable f) (form_parts f) [] mid x new → ys ≡ xs ++ x ∷ [] → SourcesSoFar old ys new
sources_more f old here mid new x xs ys s j i e = subst (λ (z : List RefTree). SourcesSoFar old z new) (sym e)
    (list_more new x s (grammar.a_further_table j.0.spelled i.spelled) (let p = j.1 in let q = i.no_longer in omega arith) (leads_on j.0.leads (leads_with (May optional.Sources ∷ []) i.leads)))

pub sources_end : (old here new : List Token) (xs : List RefTree) → SourcesSoFar old xs here → FormFound here (Ok None) new → IsFound SpellsTables (One expected.Name ∷ May optional.Alias ∷ May optional.Sources ∷ []) [] old xs new
sources_end old here new xs s j = list_end new s (grammar.no_further_table j.spelled) j.leads j.no_longer

pub sources_stopped : (f : Form) (old here mid : List Token) (xs : List RefTree) (e : Stop) → SourcesSoFar old xs here → FormFound here (Ok (Some f)) mid → Stopped (form_parts f) mid e → Stopped (One expected.Name ∷ May optional.Alias ∷ May optional.Sources ∷ []) old e
sources_stopped f old here mid xs e s j h = stopped_later e (leads_on s.leads j.0.leads) (stopped_with (form_parts f) (May optional.Sources ∷ []) mid e h)

-- ---- terms

pub a_term : (ts middle new : List Token) (e : Tree) (b : Bool) → IsFound SpellsExpression (Must (rule.Chain level.Or 0) ∷ []) [] ts e middle → IsFound SpellsDirection (May optional.Direction ∷ []) [] middle b new
    → IsFound SpellsTerm term_parts [] ts (record { tree = e; is_descending = b }) new
a_term ts middle new e b i j = record {
  spelled = grammar.a_term i.spelled j.spelled;
  leads = leads_on (leads_with (May optional.Direction ∷ []) i.leads) j.leads;
  no_longer = let p = i.no_longer in let q = j.no_longer in omega arith;
}

-- ---- the whole

pub a_select : (ts a b c d e f g new : List Token) (is_distinct : Bool) (items : List ItemTree) (tables : List RefTree) (condition_tree : Option Tree) (groups : List Tree) (groups_having : Option HavingTree) (orders : List TermTree) (numbers : Option ℤ × Option ℤ)
    → IsFound SpellsOpening (One expected.Select ∷ May optional.Distinct ∷ []) [] ts is_distinct a → IsFound (WithCommas SpellsItem) (Must rule.SelectItem ∷ May optional.SelectItems ∷ []) [] a items b → IsFound SpellsFrom (May optional.From ∷ []) [] b tables c
    → IsFound SpellsWhere (May optional.Where ∷ []) [] c condition_tree d → IsFound SpellsGroup (May optional.Group ∷ []) [] d groups e → IsFound SpellsHaving (May optional.Having ∷ []) [] e groups_having f → IsFound SpellsOrder (May optional.Order ∷ []) [] f orders g → IsFound SpellsLimit (May optional.Limit ∷ []) [] g numbers new
    → IsFound SpellsSelect select_parts [] ts (record { is_distinct = is_distinct; items = items; sources = tables; filter = condition_tree; keys = groups; having = groups_having; terms = orders; limit = numbers.0; skip = numbers.1 }) new
a_select ts a b c d e f g new is_distinct items tables condition_tree groups groups_having orders numbers h1 h2 h3 h4 h5 h6 h7 h8 = record {
  spelled = record {
    behind_opening = a;
    behind_items = b;
    behind_from = c;
    behind_where = d;
    behind_group = e;
    behind_having = f;
    behind_order = g;
    opening = h1.spelled;
    items = h2.spelled;
    from = h3.spelled;
    filter = h4.spelled;
    group = h5.spelled;
    having = h6.spelled;
    order = h7.spelled;
    limit = h8.spelled;
  };
  leads =
      leads_on (leads_with (Must rule.SelectItem ∷ May optional.SelectItems ∷ May optional.From ∷ May optional.Where ∷ May optional.Group ∷ May optional.Having ∷ May optional.Order ∷ May optional.Limit ∷ []) h1.leads)
      (leads_on (leads_with (May optional.From ∷ May optional.Where ∷ May optional.Group ∷ May optional.Having ∷ May optional.Order ∷ May optional.Limit ∷ []) h2.leads)
      (leads_on (leads_with (May optional.Where ∷ May optional.Group ∷ May optional.Having ∷ May optional.Order ∷ May optional.Limit ∷ []) h3.leads)
      (leads_on (leads_with (May optional.Group ∷ May optional.Having ∷ May optional.Order ∷ May optional.Limit ∷ []) h4.leads)
      (leads_on (leads_with (May optional.Having ∷ May optional.Order ∷ May optional.Limit ∷ []) h5.leads)
      (leads_on (leads_with (May optional.Order ∷ May optional.Limit ∷ []) h6.leads)
      (leads_on (leads_with (May optional.Limit ∷ []) h7.leads) h8.leads))))));
  no_longer = let n1 = h1.no_longer in let n2 = h2.no_longer in let n3 = h3.no_longer in let n4 = h4.no_longer in let n5 = h5.no_longer in let n6 = h6.no_longer in let n7 = h7.no_longer in let n8 = h8.no_longer in omega arith;
}

pub finds_keys : {A : Type 0} (view : A → List Tree) (ts mid here new : List Token) (result : Result A Stop) → (next ts).kind ≡ kind.Clause clause.Group → mid ≡ after ts → (next mid).kind ≡ kind.Clause clause.By → here ≡ after mid
    → Finds view (WithCommas SpellsExpression) (Must (rule.Chain level.Or 0) ∷ May (optional.Item 0) ∷ []) here result new → Finds view SpellsGroup (May optional.Group ∷ []) ts result new
finds_keys view ts mid here new (Ok a) h m k g i = a_keys ts mid new (view a) h m (a_by_list SpellsExpression (Must (rule.Chain level.Or 0) ∷ May (optional.Item 0) ∷ []) mid here new (view a) k g i)
finds_keys view ts mid here new (Err e) h m k g s = stopped_keys ts mid e h m (stopped_by_list (Must (rule.Chain level.Or 0) ∷ May (optional.Item 0) ∷ []) mid here e k g s)

pub finds_terms : {A : Type 0} (view : A → List TermTree) (ts mid here new : List Token) (result : Result A Stop) → (next ts).kind ≡ kind.Clause clause.Order → mid ≡ after ts → (next mid).kind ≡ kind.Clause clause.By → here ≡ after mid
    → Finds view (WithCommas SpellsTerm) (Must (rule.Chain level.Or 0) ∷ May optional.Direction ∷ May optional.Terms ∷ []) here result new → Finds view SpellsOrder (May optional.Order ∷ []) ts result new
finds_terms view ts mid here new (Ok a) h m k g i = a_terms ts mid new (view a) h m (a_by_list SpellsTerm (Must (rule.Chain level.Or 0) ∷ May optional.Direction ∷ May optional.Terms ∷ []) mid here new (view a) k g i)
finds_terms view ts mid here new (Err e) h m k g s = stopped_terms ts mid e h m (stopped_by_list (Must (rule.Chain level.Or 0) ∷ May optional.Direction ∷ May optional.Terms ∷ []) mid here e k g s)

pub finds_sources : {A : Type 0} (view : A → List RefTree) (ts mid new : List Token) (result : Result A Stop) → (next ts).kind ≡ kind.Clause clause.From → mid ≡ after ts
    → Finds view SpellsTables (One expected.Name ∷ May optional.Alias ∷ May optional.Sources ∷ []) mid result new → Finds view SpellsFrom (May optional.From ∷ []) ts result new
finds_sources view ts mid new (Ok a) h m i = a_sources ts mid new (view a) h m i
finds_sources view ts mid new (Err e) h m s = stopped_sources ts mid e h m s
