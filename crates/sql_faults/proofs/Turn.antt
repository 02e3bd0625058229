-- One turn of the reading on a stack.
use Rattle.std.proofs.Common.{◌≡◌, ◌+◌, ℕ, List, [], ◌∷◌, ◌++◌, Bool, true, false, cond, ltb, Option, Some, None, refl, sym, ap, subst, ◌∙◌, length}
use Rattle.sql_tokens.specs.declared.token.Token.{Token}
use Rattle.sql_faults.specs.declared.error.ParseError.{ParseError}
use Rattle.sql_faults.specs.declared.error.ParseKind.TheVariants.{NotInGrammar, TooDeep, NumberTooWide}
use Rattle.sql_tokens.specs.declared.token.Kind.{Kind}
use Rattle.sql_tokens.specs.declared.token.Kind.TheVariants as kind
use Rattle.sql_tokens.specs.declared.level.Level.{Level}
use Rattle.sql_tokens.specs.declared.level.Level.TheVariants as level
use Rattle.sql_tokens.specs.declared.level.Sign.{Sign}
use Rattle.sql_faults.specs.declared.part.Part.{Part}
use Rattle.sql_faults.specs.declared.part.Part.TheVariants.{One, Must, May}
use Rattle.sql_faults.specs.declared.part.Expected.{Expected}
use Rattle.sql_faults.specs.declared.part.Expected.TheVariants as expected
use Rattle.sql_faults.specs.declared.part.Rule.{Rule}
use Rattle.sql_faults.specs.declared.part.Rule.TheVariants as rule
use Rattle.sql_faults.specs.declared.part.Optional.{Optional}
use Rattle.sql_faults.specs.declared.part.Optional.TheVariants as optional
use Rattle.sql_tokens.specs.declared.token.Word.{Word}
use Rattle.sql_faults.specs.declared.arguments.Shape.{Shape}
use Rattle.sql_faults.specs.declared.arguments.Shape.TheVariants as shape
use Rattle.sql_faults.specs.Calls.{is_known, is_allowed, type_of}
use Rattle.sql_tokens.specs.Levels.{sign_at}
use Rattle.sql_tokens.specs.declared.token.Clause.TheVariants as clause
use Rattle.sql_tokens.specs.Tokens.{end_token, is_all_of}
use Rattle.sql_faults.specs.Reading.{faults, settled, taken, alternative, entered, step_by, not_by, item_by, fits, found, wide, at_limit, further, later, behind, fault_at, least_from, lesser, or_by, and_by, negated_by, equal_by, less_by, sum_by, product_by, joined_by, signed_by, atom_by, negatable_by, items_by, arguments_by, after_argument_by, name_by, name_fault, deeper, untyped, type_fault, other_item_by, select_item_by, integer_by, left_join_by, distinct_by, select_items_by, alias_by, from_by, sources_by, condition_by, names_by, where_by, group_by, having_by, order_by, terms_by, direction_by, limit_by, offset_by, semicolon_by}
use Rattle.std.specs.Prelude.{option_to_list, MatchOption}
use Rattle.std.proofs.lemmas.List.{nil_from_length}
use Rattle.sql_faults.proofs.Stack.{expects-push}
use Rattle.sql_faults.specs.declared.recognizer.Turn.{Turn}
use Rattle.sql_faults.specs.declared.recognizer.Turn.TheVariants.{Taken, Stopped}
use Rattle.sql_faults.specs.Turns.{Turns, fault_of_turn}
use Rattle.sql_faults.specs.Stack.{expects, Enters, Settles, Pops, TakesFirst, head_fault, found_fault}

-- a list that begins with a token
pub record Begins (parts : List Part) : Type 0 where
  pub first : Expected
  pub others : List Part
  pub is : parts ≡ One first ∷ others

begins_more : (parts more : List Part) → Begins parts → Begins (parts ++ more)
begins_more parts more b = record { first = b.first; others = b.others ++ more; is = ap (λ (x : List Part). x ++ more) b.is }

begins_atom : (d : ℕ) (t : Token) (k : Kind) → Begins (atom_by d t k)
unfolding atom_by
begins_atom d t (kind.Number value) = record { first = expected.Number; others = []; is = refl }
begins_atom d t kind.Text = record { first = expected.Chosen; others = []; is = refl }
begins_atom d t kind.Null = record { first = expected.Chosen; others = []; is = refl }
begins_atom d t (kind.Name w) = record { first = expected.Chosen; others = _; is = refl }
begins_atom d t (kind.QuotedName w) = record { first = expected.Chosen; others = _; is = refl }
begins_atom d t kind.Cast = record { first = expected.Chosen; others = _; is = refl }
begins_atom d t kind.Open = record { first = expected.Nesting d; others = _; is = refl }
begins_atom d t other = record { first = expected.Nothing; others = []; is = refl }

begins_signed : (d : ℕ) (t : Token) (k : Kind) → Begins (signed_by d t k)
unfolding signed_by
begins_signed d t kind.Plus = record { first = expected.Nesting d; others = _; is = refl }
begins_signed d t kind.Minus = record { first = expected.Nesting d; others = _; is = refl }
begins_signed d t other = begins_atom d t other

begins_equal : (d : ℕ) (t : Token) (k : Kind) → Begins (equal_by d t k)
unfolding joined_by product_by sum_by less_by equal_by
begins_equal d t k = begins_more _ _ (begins_more _ _ (begins_more _ _ (begins_more _ _ (begins_more _ _ (begins_signed d t k)))))

begins_negated : (d : ℕ) (t : Token) (k : Kind) → Begins (negated_by d t k)
unfolding negated_by
begins_negated d t kind.Not = record { first = expected.Nesting d; others = _; is = refl }
begins_negated d t other = begins_equal d t other

begins_or : (d : ℕ) (t : Token) (k : Kind) → Begins (or_by d t k)
unfolding and_by or_by
begins_or d t k = begins_more _ _ (begins_more _ _ (begins_negated d t k))

begins_negatable : (l : Level) (d : ℕ) (k : Kind) → Begins (negatable_by l d k)
unfolding negatable_by
begins_negatable l d kind.Like = record { first = expected.Chosen; others = _; is = refl }
begins_negatable l d kind.In = record { first = expected.Chosen; others = _; is = refl }
begins_negatable l d kind.Between = record { first = expected.Chosen; others = _; is = refl }
begins_negatable l d other = record { first = expected.Nothing; others = []; is = refl }

begins_items : (d : ℕ) (t : Token) (k : Kind) → Begins (items_by d t k)
unfolding items_by
begins_items d t kind.Close = record { first = expected.Close; others = []; is = refl }
begins_items d t other = begins_more _ _ (begins_or d t other)

begins_arguments : (d p : ℕ) (w : Word) (t : Token) (k : Kind) → Begins (arguments_by d p w t k)
unfolding arguments_by
begins_arguments d p w t kind.Close = record { first = expected.EndOfCall p w (shape.Plain 0); others = []; is = refl }
begins_arguments d p w t kind.Star = record { first = expected.Chosen; others = _; is = refl }
begins_arguments d p w t kind.Distinct = record { first = expected.Chosen; others = _; is = refl }
begins_arguments d p w t other = begins_more _ _ (begins_or d t other)

begins_after_argument : (d p : ℕ) (w : Word) (n : Shape) (k : Kind) → Begins (after_argument_by d p w n k)
unfolding after_argument_by
begins_after_argument d p w n kind.Comma = record { first = expected.Chosen; others = _; is = refl }
begins_after_argument d p w n other = record { first = expected.EndOfCall p w n; others = []; is = refl }

begins_other_item : (t : Token) (k : Kind) → Begins (other_item_by t k)
unfolding other_item_by
begins_other_item t kind.Star = record { first = expected.Chosen; others = _; is = refl }
begins_other_item t other = begins_more _ _ (begins_or 0 t other)

begins_select_item : (a : Bool) (t : Token) (k : Kind) → Begins (select_item_by a t k)
unfolding select_item_by
begins_select_item true t k = record { first = expected.Name; others = _; is = refl }
begins_select_item false t k = begins_other_item t k

begins_integer : (k : Kind) → Begins (integer_by k)
unfolding integer_by
begins_integer kind.Plus = record { first = expected.Chosen; others = _; is = refl }
begins_integer kind.Minus = record { first = expected.Chosen; others = _; is = refl }
begins_integer other = record { first = expected.Number; others = _; is = refl }

begins_left_join : (k : Kind) → Begins (left_join_by k)
unfolding left_join_by
begins_left_join (kind.Clause clause.Outer) = record { first = expected.Chosen; others = _; is = refl }
begins_left_join other = record { first = expected.Join; others = _; is = refl }

begins_rule : (r : Rule) (t : Token) (a : Bool) → Begins (alternative r t a)
unfolding joined_by product_by sum_by less_by equal_by and_by or_by negatable_by items_by
begins_rule (rule.Chain level.Or d) t a = begins_or d t t.kind
begins_rule (rule.Chain level.And d) t a = begins_more _ _ (begins_negated d t t.kind)
begins_rule (rule.Chain level.Equal d) t a = begins_equal d t t.kind
begins_rule (rule.Chain level.Less d) t a = begins_more _ _ (begins_more _ _ (begins_more _ _ (begins_more _ _ (begins_signed d t t.kind))))
begins_rule (rule.Chain level.Sum d) t a = begins_more _ _ (begins_more _ _ (begins_more _ _ (begins_signed d t t.kind)))
begins_rule (rule.Chain level.Product d) t a = begins_more _ _ (begins_more _ _ (begins_signed d t t.kind))
begins_rule (rule.Chain level.Joined d) t a = begins_more _ _ (begins_signed d t t.kind)
begins_rule (rule.Negated d) t a = begins_negated d t t.kind
begins_rule (rule.Signed d) t a = begins_signed d t t.kind
begins_rule (rule.Atom d) t a = begins_atom d t t.kind
begins_rule (rule.Negatable l d) t a = begins_negatable l d t.kind
begins_rule (rule.Items d) t a = begins_items d t t.kind
begins_rule (rule.Arguments d p w) t a = begins_arguments d p w t t.kind
begins_rule (rule.AfterArgument d p w n) t a = begins_after_argument d p w n t.kind
begins_rule rule.SelectItem t a = begins_select_item a t t.kind
begins_rule rule.Integer t a = begins_integer t.kind
begins_rule rule.LeftJoin t a = begins_left_join t.kind

begins_step : (l : Level) (d count : ℕ) (s : Option Sign) (inner : List Part) → step_by l d count s ≡ Some inner → Begins inner
begins_step l d count None inner e = absurd (cc)
begins_step l d count (Some s) inner e = let h : One (expected.Operator count) ∷ behind s l d ++ further l d (later count) ∷ [] ≡ inner = cc in record { first = expected.Operator count; others = _; is = sym h }

begins_not : (k : Kind) (inner : List Part) → not_by k ≡ Some inner → Begins inner
unfolding not_by
begins_not kind.Not inner e = let h : One expected.Chosen ∷ [] ≡ inner = cc in record { first = expected.Chosen; others = []; is = sym h }
begins_not other inner e = absurd (cc)

begins_item : (d : ℕ) (k : Kind) (inner : List Part) → item_by d k ≡ Some inner → Begins inner
unfolding item_by
begins_item d kind.Comma inner e = let h : One expected.Chosen ∷ Must (rule.Chain level.Or d) ∷ May (optional.Item d) ∷ [] ≡ inner = cc in record { first = expected.Chosen; others = _; is = sym h }
begins_item d other inner e = absurd (cc)

begins_name : (d p : ℕ) (w : Word) (k : Kind) (inner : List Part) → name_by d p w k ≡ Some inner → Begins inner
unfolding name_by
begins_name d p w kind.Dot inner e = let h : One expected.Chosen ∷ One expected.Name ∷ [] ≡ inner = cc in record { first = expected.Chosen; others = _; is = sym h }
begins_name d p w kind.Open inner e = let h : One (expected.Call d p w) ∷ Must (rule.Arguments (deeper d) p w) ∷ [] ≡ inner = cc in record { first = expected.Call d p w; others = _; is = sym h }
begins_name d p w other inner e = absurd (cc)

-- a choice that begins with the token that has chosen it
begins_chosen : (o : Option (List Part)) (xs inner : List Part) → o ≡ Some (One expected.Chosen ∷ xs) → o ≡ Some inner → Begins inner
begins_chosen o xs inner e f = let h : One expected.Chosen ∷ xs ≡ inner = cc in record { first = expected.Chosen; others = xs; is = sym h }

begins_distinct_by : (k : Kind) (inner : List Part) → distinct_by k ≡ Some inner → Begins inner
unfolding distinct_by
begins_distinct_by kind.Distinct inner e = begins_chosen _ _ inner refl e
begins_distinct_by other inner e = absurd (cc)

begins_select_items_by : (k : Kind) (inner : List Part) → select_items_by k ≡ Some inner → Begins inner
unfolding select_items_by
begins_select_items_by kind.Comma inner e = begins_chosen _ _ inner refl e
begins_select_items_by other inner e = absurd (cc)

begins_alias_by : (k : Kind) (inner : List Part) → alias_by k ≡ Some inner → Begins inner
unfolding alias_by
begins_alias_by kind.As inner e = begins_chosen _ _ inner refl e
begins_alias_by (kind.Name w) inner e = begins_chosen _ _ inner refl e
begins_alias_by (kind.QuotedName w) inner e = begins_chosen _ _ inner refl e
begins_alias_by other inner e = absurd (cc)

begins_from_by : (k : Kind) (inner : List Part) → from_by k ≡ Some inner → Begins inner
unfolding from_by
begins_from_by (kind.Clause clause.From) inner e = begins_chosen _ _ inner refl e
begins_from_by other inner e = absurd (cc)

begins_sources_by : (k : Kind) (inner : List Part) → sources_by k ≡ Some inner → Begins inner
unfolding sources_by
begins_sources_by kind.Comma inner e = begins_chosen _ _ inner refl e
begins_sources_by (kind.Clause clause.Cross) inner e = begins_chosen _ _ inner refl e
begins_sources_by (kind.Clause clause.Join) inner e = begins_chosen _ _ inner refl e
begins_sources_by (kind.Clause clause.Inner) inner e = begins_chosen _ _ inner refl e
begins_sources_by (kind.Clause clause.Left) inner e = begins_chosen _ _ inner refl e
begins_sources_by other inner e = absurd (cc)

begins_condition_by : (k : Kind) (inner : List Part) → condition_by k ≡ Some inner → Begins inner
unfolding condition_by
begins_condition_by (kind.Clause clause.On) inner e = begins_chosen _ _ inner refl e
begins_condition_by (kind.Clause clause.Using) inner e = begins_chosen _ _ inner refl e
begins_condition_by other inner e = absurd (cc)

begins_names_by : (k : Kind) (inner : List Part) → names_by k ≡ Some inner → Begins inner
unfolding names_by
begins_names_by kind.Comma inner e = begins_chosen _ _ inner refl e
begins_names_by other inner e = absurd (cc)

begins_where_by : (k : Kind) (inner : List Part) → where_by k ≡ Some inner → Begins inner
unfolding where_by
begins_where_by (kind.Clause clause.Where) inner e = begins_chosen _ _ inner refl e
begins_where_by other inner e = absurd (cc)

begins_group_by : (k : Kind) (inner : List Part) → group_by k ≡ Some inner → Begins inner
unfolding group_by
begins_group_by (kind.Clause clause.Group) inner e = begins_chosen _ _ inner refl e
begins_group_by other inner e = absurd (cc)

begins_having_by : (k : Kind) (inner : List Part) → having_by k ≡ Some inner → Begins inner
unfolding having_by
begins_having_by (kind.Clause clause.Having) inner e = begins_chosen _ _ inner refl e
begins_having_by other inner e = absurd (cc)

begins_order_by : (k : Kind) (inner : List Part) → order_by k ≡ Some inner → Begins inner
unfolding order_by
begins_order_by (kind.Clause clause.Order) inner e = begins_chosen _ _ inner refl e
begins_order_by other inner e = absurd (cc)

begins_terms_by : (k : Kind) (inner : List Part) → terms_by k ≡ Some inner → Begins inner
unfolding terms_by
begins_terms_by kind.Comma inner e = begins_chosen _ _ inner refl e
begins_terms_by other inner e = absurd (cc)

begins_direction_by : (k : Kind) (inner : List Part) → direction_by k ≡ Some inner → Begins inner
unfolding direction_by
begins_direction_by (kind.Clause clause.Asc) inner e = begins_chosen _ _ inner refl e
begins_direction_by (kind.Clause clause.Desc) inner e = begins_chosen _ _ inner refl e
begins_direction_by other inner e = absurd (cc)

begins_limit_by : (k : Kind) (inner : List Part) → limit_by k ≡ Some inner → Begins inner
unfolding limit_by
begins_limit_by (kind.Clause clause.Limit) inner e = begins_chosen _ _ inner refl e
begins_limit_by other inner e = absurd (cc)

begins_offset_by : (k : Kind) (inner : List Part) → offset_by k ≡ Some inner → Begins inner
unfolding offset_by
begins_offset_by (kind.Clause clause.Offset) inner e = begins_chosen _ _ inner refl e
begins_offset_by other inner e = absurd (cc)

begins_semicolon_by : (k : Kind) (inner : List Part) → semicolon_by k ≡ Some inner → Begins inner
unfolding semicolon_by
begins_semicolon_by kind.Semicolon inner e = begins_chosen _ _ inner refl e
begins_semicolon_by other inner e = absurd (cc)

begins_entered : (o : Optional) (k : Kind) (inner : List Part) → entered o k ≡ Some inner → Begins inner
begins_entered (optional.Step l d count) k inner e = begins_step l d count (sign_at l k) inner e
begins_entered optional.Not k inner e = begins_not k inner e
begins_entered (optional.Item d) k inner e = begins_item d k inner e
begins_entered (optional.AfterName d p w) k inner e = begins_name d p w k inner e
begins_entered optional.Distinct k inner e = begins_distinct_by k inner e
begins_entered optional.SelectItems k inner e = begins_select_items_by k inner e
begins_entered optional.Alias k inner e = begins_alias_by k inner e
begins_entered optional.From k inner e = begins_from_by k inner e
begins_entered optional.Sources k inner e = begins_sources_by k inner e
begins_entered optional.Condition k inner e = begins_condition_by k inner e
begins_entered optional.Names k inner e = begins_names_by k inner e
begins_entered optional.Where k inner e = begins_where_by k inner e
begins_entered optional.Group k inner e = begins_group_by k inner e
begins_entered optional.Having k inner e = begins_having_by k inner e
begins_entered optional.Order k inner e = begins_order_by k inner e
begins_entered optional.Terms k inner e = begins_terms_by k inner e
begins_entered optional.Direction k inner e = begins_direction_by k inner e
begins_entered optional.Limit k inner e = begins_limit_by k inner e
begins_entered optional.Offset k inner e = begins_offset_by k inner e
begins_entered optional.Semicolon k inner e = begins_semicolon_by k inner e

-- ---- settling

settles_by : (whole mid new : List Part) (answer : Option Expected) → Begins mid → whole ≡ mid → TakesFirst mid answer new → Settles whole answer new
settles_by whole mid new (Some e) b w h =
    let p = h b.first b.others b.is in
    let q : e ≡ b.first = cc in
    w ∙ b.is ∙ ap (λ (x : Expected). One x ∷ b.others) (sym q) ∙ ap (λ (x : List Part). One e ∷ x) (sym p.1)
settles_by whole mid new None b w h = let p = h b.first b.others b.is in absurd (cc)

pub settles_must : (r : Rule) (t : Token) (a : Bool) (old others mid new : List Part) (answer : Option Expected) → old ≡ Must r ∷ others → mid ≡ alternative r t a ++ others → TakesFirst mid answer new → Settles (settled old t a) answer new
unfolding settled
settles_must r t a old others mid new answer o m h =
    settles_by (settled old t a) mid new answer (subst Begins (sym m) (begins_more (alternative r t a) others (begins_rule r t a))) (ap (λ (x : List Part). settled x t a) o ∙ sym m) h

pub settles_in : (o : Optional) (t : Token) (a : Bool) (old others mid new : List Part) (answer : Option Expected) (inner : Option (List Part)) (raw_old raw_mid : List Part) → old ≡ May o ∷ others → others ≡ expects raw_old → mid ≡ expects raw_mid
    → entered o t.kind ≡ inner → Enters inner true raw_old raw_mid → TakesFirst mid answer new → Settles (settled old t a) answer new
unfolding settled
settles_in o t a old others mid new answer (Some inner) raw_old raw_mid e f g i h z =
    let m : mid ≡ inner ++ others = g ∙ h ∙ ap (λ (x : List Part). inner ++ x) (sym f) in
    settles_by (settled old t a) mid new answer (subst Begins (sym m) (begins_more inner others (begins_entered o t.kind inner i)))
    (ap (λ (x : List Part). settled x t a) e ∙ ap (λ (x : Option (List Part)). elim x as (λ _. List Part) [ None ↦ settled others t a | Some y ↦ y ++ others ]) i ∙ sym m) z
settles_in o t a old others mid new answer None raw_old raw_mid e f g i h z = absurd h

pub settles_past : (o : Optional) (t : Token) (a : Bool) (old others : List Part) (inner : Option (List Part)) (raw_old raw_new : List Part) → old ≡ May o ∷ others → others ≡ expects raw_old → entered o t.kind ≡ inner → Enters inner false raw_old raw_new
    → settled old t a ≡ settled (expects raw_new) t a
unfolding settled
settles_past o t a old others (Some inner) raw_old raw_new e f i h = absurd h
settles_past o t a old others None raw_old raw_new e f i h =
    ap (λ (x : List Part). settled x t a) e ∙ ap (λ (x : Option (List Part)). elim x as (λ _. List Part) [ None ↦ settled others t a | Some y ↦ y ++ others ]) i ∙ ap (λ (x : List Part). settled x t a) (f ∙ ap expects (sym h))

pub settles_one : (e : Expected) (t : Token) (a : Bool) (old others : List Part) → old ≡ One e ∷ others → settled old t a ≡ One e ∷ others
unfolding settled
settles_one e t a old others o = ap (λ (x : List Part). settled x t a) o

pub settles_none : (t : Token) (a : Bool) (old : List Part) → old ≡ [] → settled old t a ≡ []
unfolding settled
settles_none t a old o = ap (λ (x : List Part). settled x t a) o

-- ---- turns

at_limit_one : (n limit : ℕ) (t : Token) (f : ParseError) → head_fault (at_limit n limit t) ≡ Some f → at_limit n limit t ≡ f ∷ []
at_limit_one n limit t f h = elim_limit (ltb n limit) (fault_at t TooDeep) f h where
  elim_limit : (b : Bool) (g f : ParseError) → head_fault (cond b [] (g ∷ [])) ≡ Some f → cond b [] (g ∷ []) ≡ f ∷ []
  elim_limit true g f h = absurd (cc)
  elim_limit false g f h = let e : g ≡ f = cc in ap (λ (x : ParseError). x ∷ []) e

wide_one : (t : Token) (k : Kind) (f : ParseError) → head_fault (wide t k) ≡ Some f → wide t k ≡ f ∷ []
unfolding wide
wide_one t (kind.Number None) f h = let e : fault_at t NumberTooWide ≡ f = cc in ap (λ (x : ParseError). x ∷ []) e
wide_one t (kind.Number (Some v)) f h = absurd (cc)
wide_one t other f h = absurd (cc)

call_one : (b : Bool) (d p : ℕ) (t : Token) (f : ParseError) → head_fault (cond b (at_limit d 64 t) (name_fault p ∷ [])) ≡ Some f → cond b (at_limit d 64 t) (name_fault p ∷ []) ≡ f ∷ []
call_one true d p t f h = at_limit_one d 64 t f h
call_one false d p t f h = let e : name_fault p ≡ f = cc in ap (λ (x : ParseError). x ∷ []) e

end_one : (b : Bool) (p : ℕ) (f : ParseError) → head_fault (cond b [] (name_fault p ∷ [])) ≡ Some f → cond b [] (name_fault p ∷ []) ≡ f ∷ []
end_one true p f h = absurd (cc)
end_one false p f h = let e : name_fault p ≡ f = cc in ap (λ (x : ParseError). x ∷ []) e

untyped_one : (t : Token) (o : Option Bool) (f : ParseError) → head_fault (untyped t o) ≡ Some f → untyped t o ≡ f ∷ []
untyped_one t None f h = let e : fault_at t NotInGrammar ≡ f = cc in ap (λ (x : ParseError). x ∷ []) e
untyped_one t (Some is_text) f h = absurd (cc)

type_one : (t : Token) (k : Kind) (f : ParseError) → head_fault (type_fault t k) ≡ Some f → type_fault t k ≡ f ∷ []
unfolding type_fault
type_one t (kind.Name w) f h = untyped_one t (type_of w) f h
type_one t (kind.QuotedName w) f h = untyped_one t (type_of w) f h
type_one t other f h = absurd (cc)

found_one : (e : Expected) (t : Token) (f : ParseError) → found_fault e t ≡ Some f → found e t ≡ f ∷ []
unfolding found
found_one (expected.Call d p w) t f h = call_one (is_known w) d p t f h
found_one (expected.EndOfCall p w n) t f h = end_one (is_allowed w n) p f h
found_one expected.Number t f h = wide_one t t.kind f h
found_one (expected.Nesting d) t f h = at_limit_one d 64 t f h
found_one (expected.Parenthesis d) t f h = at_limit_one d 64 t f h
found_one (expected.Operator count) t f h = at_limit_one count 1000 t f h
found_one expected.Type t f h = type_one t t.kind f h
found_one expected.Chosen t f h = absurd (cc)
found_one expected.Close t f h = absurd (cc)
found_one expected.And t f h = absurd (cc)
found_one expected.As t f h = absurd (cc)
found_one expected.Join t f h = absurd (cc)
found_one expected.By t f h = absurd (cc)
found_one expected.Select t f h = absurd (cc)
found_one expected.Open t f h = absurd (cc)
found_one expected.Star t f h = absurd (cc)
found_one expected.Dot t f h = absurd (cc)
found_one expected.Name t f h = absurd (cc)
found_one expected.End t f h = absurd (cc)
found_one expected.Nothing t f h = absurd (cc)

pub turn_faulty : (least : Option ParseError) (e : Expected) (t : Token) (before rest : List Part) (f : ParseError) (others : List Part → List ParseError) → before ≡ One e ∷ rest → fits e t.kind ≡ true → found_fault e t ≡ Some f
    → least_from least (taken before t others) ≡ least_from (lesser least f) (others rest)
turn_faulty least e t before rest f others b g h =
    ap (λ (x : List Part). least_from least (taken x t others)) b ∙ ap (λ (x : Bool). least_from least (cond x (found e t ++ others rest) (fault_at t NotInGrammar ∷ []))) g ∙ ap (λ (x : List ParseError). least_from least (x ++ others rest)) (found_one e t f h)

pub turn_stops : (first : Option ParseError) (least : Option ParseError) (parts new : List Part) (t : Token) (a : Bool) (rest left : List Token) (found : Option ParseError) → first ≡ least_from least (faults parts left) → left ≡ t ∷ rest → a ≡ is_all_of left → Turns least (settled parts t a) t (Stopped found) new → found ≡ first
unfolding faults
turn_stops first least parts new t a rest left found f l e h = let k = subst (λ (x : Bool). Turns least (settled parts t x) t (Stopped found) new) (e ∙ ap is_all_of l) h in sym (f ∙ ap (λ (x : List Token). least_from least (faults parts x)) l ∙ k (λ p. faults p rest))

pub turn_goes : (first : Option ParseError) (least : Option ParseError) (parts new : List Part) (t : Token) (a : Bool) (rest left : List Token) (found : Option ParseError) → first ≡ least_from least (faults parts left) → left ≡ t ∷ rest → a ≡ is_all_of left → Turns least (settled parts t a) t (Taken found) new → first ≡ least_from found (faults new rest)
unfolding faults
turn_goes first least parts new t a rest left found f l e h = let k = subst (λ (x : Bool). Turns least (settled parts t x) t (Taken found) new) (e ∙ ap is_all_of l) h in f ∙ ap (λ (x : List Token). least_from least (faults parts x)) l ∙ k (λ p. faults p rest)

-- past the last token
pub turn_ends : (first : Option ParseError) (least : Option ParseError) (parts new : List Part) (left : List Token) (turn : Turn) → first ≡ least_from least (faults parts left) → left ≡ [] → Turns least (settled parts end_token false) end_token turn new → fault_of_turn turn ≡ first
unfolding faults
turn_ends first least parts new left (Stopped found) f l h = sym (f ∙ ap (λ (x : List Token). least_from least (faults parts x)) l ∙ h (λ p. []))
turn_ends first least parts new left (Taken found) f l h = sym (f ∙ ap (λ (x : List Token). least_from least (faults parts x)) l ∙ h (λ p. []))

pub pops : (old new : List Part) (answer : Option Part) (n m : ℕ) → old ≡ new ++ option_to_list answer → n ≡ length old → MatchOption answer ((n ≡ 0) × (m ≡ 0)) (λ _. m + 1 ≡ n) → Pops (expects old) answer (expects new)
pops old new None n m e k h = ap expects (nil_from_length old (sym k ∙ h.0))
pops old new (Some p) n m e k h = ap expects e ∙ expects-push new p
