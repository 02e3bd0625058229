-- Each list of tokens is read by a rule of the select, or it has a fault.
use Rattle.std.proofs.Common.{◌≡◌, ◌≢◌, ◌<◌, ◌⊎◌, inl, inr, ℕ, ℤ, suc, zero, List, [], ◌∷◌, ◌++◌, length, Bool, true, false, Option, Some, None, Ok, Err, refl, ap, ◌∙◌, arith}
use Rattle.sql_tokens.specs.declared.token.Token.{Token}
use Rattle.sql_tokens.specs.declared.token.Kind.{Kind}
use Rattle.sql_tokens.specs.declared.token.Kind.TheVariants as kind
use Rattle.sql_tokens.specs.declared.token.Clause.{Clause}
use Rattle.sql_tokens.specs.declared.token.Clause.TheVariants as clause
use Rattle.sql_tokens.specs.declared.level.Level.TheVariants as level
use Rattle.sql_faults.specs.declared.part.Part.{Part}
use Rattle.sql_faults.specs.declared.part.Part.TheVariants.{One, Must, May}
use Rattle.sql_faults.specs.declared.part.Expected.TheVariants as expected
use Rattle.sql_faults.specs.declared.part.Rule.TheVariants as rule
use Rattle.sql_faults.specs.declared.part.Optional.{Optional}
use Rattle.sql_faults.specs.declared.part.Optional.TheVariants as optional
use Rattle.sql_parser.specs.declared.stop.Stop.TheVariants.{Refused}
use Rattle.sql_parser.specs.declared.clauses.Form.{Form}
use Rattle.sql_parser.specs.declared.clauses.Form.TheVariants as form
use Rattle.sql_tokens.specs.Tokens.{next, after, is_name, is_end, is_all_of}
use Rattle.sql_faults.specs.Calls.{name_of}
use Rattle.sql_faults.specs.Reading.{entered, term_parts, names_parts}
use Rattle.sql_parser.specs.Descent.{Fails}
use Rattle.sql_tree.specs.Select.{ItemTree, RefTree, all, all_of, one}
use Rattle.sql_parser.specs.SelectGrammar.{Spelling, SpellsExpression, BehindComma, WithCommas, SpellsName, SpellsAlias, SpellsExpressionItem, SpellsItem, SpellsNames, SpellsCondition, SpellsConditionOf, is_outer, SpellsTable, SpellsJoin, SpellsOuterJoin, SpellsFurtherTable, SpellsTables, SpellsOpening, SpellsFrom, SpellsWhere, SpellsBy, SpellsGroup, SpellsHaving, SpellsDirection, SpellsTerm, SpellsOrder, SpellsNumber, minus, SpellsInteger, SpellsOffset, SpellsLimit, SpellsSelect}
use Rattle.sql_parser.specs.Judged.{Judged, sentence, faulty}
use Rattle.sql_parser.specs.SelectDescent.{IsFound, FormFound, condition_parts, form_parts, select_parts, end_parts}
use Rattle.sql_parser.proofs.Laws.{leads_on, leads_with, fails_with, fails_later}
use Rattle.sql_parser.proofs.SelectLists.{IsSoFar}
use Rattle.sql_parser.proofs.SelectArms as arms
use Rattle.sql_parser.proofs.Whole.{told_behind, told_here, whole_select_read, whole_select_unended}
use Rattle.sql_parser.proofs.Told.{flag_or, comma_or, open_or, close_or, star_or, distinct_or, plus_or, minus_or, as_or, expression_told}

abbrev pub FoundOr : {X : Type 0} → Spelling X → List Part → List Token → Type 0
FoundOr {X} at parts ts = ((x : X) × (rest : List Token) × IsFound at parts [] ts x rest) ⊎ Fails parts ts

select_word_or : (k : Kind) → (k ≡ kind.Clause clause.Select) ⊎ (k ≢ kind.Clause clause.Select)
select_word_or (kind.Clause clause.Select) = inl refl
select_word_or other = inr (λ e. cc)

from_word_or : (k : Kind) → (k ≡ kind.Clause clause.From) ⊎ (k ≢ kind.Clause clause.From)
from_word_or (kind.Clause clause.From) = inl refl
from_word_or other = inr (λ e. cc)

where_word_or : (k : Kind) → (k ≡ kind.Clause clause.Where) ⊎ (k ≢ kind.Clause clause.Where)
where_word_or (kind.Clause clause.Where) = inl refl
where_word_or other = inr (λ e. cc)

group_word_or : (k : Kind) → (k ≡ kind.Clause clause.Group) ⊎ (k ≢ kind.Clause clause.Group)
group_word_or (kind.Clause clause.Group) = inl refl
group_word_or other = inr (λ e. cc)

by_word_or : (k : Kind) → (k ≡ kind.Clause clause.By) ⊎ (k ≢ kind.Clause clause.By)
by_word_or (kind.Clause clause.By) = inl refl
by_word_or other = inr (λ e. cc)

having_word_or : (k : Kind) → (k ≡ kind.Clause clause.Having) ⊎ (k ≢ kind.Clause clause.Having)
having_word_or (kind.Clause clause.Having) = inl refl
having_word_or other = inr (λ e. cc)

order_word_or : (k : Kind) → (k ≡ kind.Clause clause.Order) ⊎ (k ≢ kind.Clause clause.Order)
order_word_or (kind.Clause clause.Order) = inl refl
order_word_or other = inr (λ e. cc)

asc_word_or : (k : Kind) → (k ≡ kind.Clause clause.Asc) ⊎ (k ≢ kind.Clause clause.Asc)
asc_word_or (kind.Clause clause.Asc) = inl refl
asc_word_or other = inr (λ e. cc)

desc_word_or : (k : Kind) → (k ≡ kind.Clause clause.Desc) ⊎ (k ≢ kind.Clause clause.Desc)
desc_word_or (kind.Clause clause.Desc) = inl refl
desc_word_or other = inr (λ e. cc)

limit_word_or : (k : Kind) → (k ≡ kind.Clause clause.Limit) ⊎ (k ≢ kind.Clause clause.Limit)
limit_word_or (kind.Clause clause.Limit) = inl refl
limit_word_or other = inr (λ e. cc)

offset_word_or : (k : Kind) → (k ≡ kind.Clause clause.Offset) ⊎ (k ≢ kind.Clause clause.Offset)
offset_word_or (kind.Clause clause.Offset) = inl refl
offset_word_or other = inr (λ e. cc)

join_word_or : (k : Kind) → (k ≡ kind.Clause clause.Join) ⊎ (k ≢ kind.Clause clause.Join)
join_word_or (kind.Clause clause.Join) = inl refl
join_word_or other = inr (λ e. cc)

inner_word_or : (k : Kind) → (k ≡ kind.Clause clause.Inner) ⊎ (k ≢ kind.Clause clause.Inner)
inner_word_or (kind.Clause clause.Inner) = inl refl
inner_word_or other = inr (λ e. cc)

cross_word_or : (k : Kind) → (k ≡ kind.Clause clause.Cross) ⊎ (k ≢ kind.Clause clause.Cross)
cross_word_or (kind.Clause clause.Cross) = inl refl
cross_word_or other = inr (λ e. cc)

left_word_or : (k : Kind) → (k ≡ kind.Clause clause.Left) ⊎ (k ≢ kind.Clause clause.Left)
left_word_or (kind.Clause clause.Left) = inl refl
left_word_or other = inr (λ e. cc)

outer_word_or : (k : Kind) → (k ≡ kind.Clause clause.Outer) ⊎ (k ≢ kind.Clause clause.Outer)
outer_word_or (kind.Clause clause.Outer) = inl refl
outer_word_or other = inr (λ e. cc)

on_word_or : (k : Kind) → (k ≡ kind.Clause clause.On) ⊎ (k ≢ kind.Clause clause.On)
on_word_or (kind.Clause clause.On) = inl refl
on_word_or other = inr (λ e. cc)

using_word_or : (k : Kind) → (k ≡ kind.Clause clause.Using) ⊎ (k ≢ kind.Clause clause.Using)
using_word_or (kind.Clause clause.Using) = inl refl
using_word_or other = inr (λ e. cc)

semicolon_or : (k : Kind) → (k ≡ kind.Semicolon) ⊎ (k ≢ kind.Semicolon)
semicolon_or kind.Semicolon = inl refl
semicolon_or other = inr (λ e. cc)

number_or : (k : Kind) → ((o : Option ℤ) × (k ≡ kind.Number o)) ⊎ ((o : Option ℤ) → k ≢ kind.Number o)
number_or (kind.Number o) = inl (o, refl)
number_or other = inr (λ o e. cc)

clause_or : (k : Kind) → ((w : Clause) × (k ≡ kind.Clause w)) ⊎ ((w : Clause) → k ≢ kind.Clause w)
clause_or (kind.Clause w) = inl (w, refl)
clause_or other = inr (λ w e. cc)

-- ---- expressions, names, numbers

expression_or : (ts : List Token) → FoundOr SpellsExpression (Must (rule.Chain level.Or 0) ∷ []) ts
expression_or ts = elim (expression_told ts) as (λ _. FoundOr SpellsExpression (Must (rule.Chain level.Or 0) ∷ []) ts) [
  | inl (e, rest, h) ↦ inl (e, rest, arms.found_expression ts rest e h)
  | inr f ↦ inr f
]

name_or : (ts : List Token) → FoundOr SpellsName (One expected.Name ∷ []) ts
name_or ts = elim (flag_or (is_name (next ts).kind)) as (λ _. FoundOr SpellsName (One expected.Name ∷ []) ts) [
  | inl h ↦ inl (name_of (next ts), after ts, arms.a_name ts (after ts) (name_of (next ts)) h refl refl)
  | inr h ↦ inr (arms.no_name ts h)
]

alias_or : (ts : List Token) → FoundOr SpellsAlias (May optional.Alias ∷ []) ts
alias_or ts = elim (flag_or (is_name (next ts).kind)) as (λ _. FoundOr SpellsAlias (May optional.Alias ∷ []) ts) [
  | inl h ↦ inl (Some (name_of (next ts)), after ts, arms.alias_alone ts (after ts) (name_of (next ts)) h refl refl)
  | inr h ↦ elim (as_or (next ts).kind) as (λ _. FoundOr SpellsAlias (May optional.Alias ∷ []) ts) [
    | inl k ↦ elim (name_or (after ts)) as (λ _. FoundOr SpellsAlias (May optional.Alias ∷ []) ts) [
      | inl (n, rest, i) ↦ inl (Some n, rest, arms.alias_with_as ts (after ts) rest n k refl i)
      | inr f ↦ inr (arms.stopped_alias ts (after ts) Refused k refl f)
    ]
    | inr n ↦ inl (None, ts, arms.no_alias ts ts h n refl)
  ]
]

number_by_or : (ts : List Token) (o : Option ℤ) → (next ts).kind ≡ kind.Number o → FoundOr SpellsNumber (One expected.Number ∷ []) ts
number_by_or ts (Some n) h = inl (n, after ts, arms.a_number ts (after ts) n h refl)
number_by_or ts None h = inr (arms.wide_number ts h)

unsigned_or : (ts : List Token) → FoundOr SpellsNumber (One expected.Number ∷ []) ts
unsigned_or ts = elim (number_or (next ts).kind) as (λ _. FoundOr SpellsNumber (One expected.Number ∷ []) ts) [
  | inl (o, h) ↦ number_by_or ts o h
  | inr h ↦ inr (arms.no_number ts h)
]

integer_or : (ts : List Token) → FoundOr SpellsInteger (Must rule.Integer ∷ []) ts
integer_or ts = elim (plus_or (next ts).kind) as (λ _. FoundOr SpellsInteger (Must rule.Integer ∷ []) ts) [
  | inl k ↦ elim (unsigned_or (after ts)) as (λ _. FoundOr SpellsInteger (Must rule.Integer ∷ []) ts) [
    | inl (n, rest, i) ↦ inl (n, rest, arms.plus_integer ts (after ts) rest (Ok n) k refl i)
    | inr f ↦ inr (arms.plus_integer ts (after ts) ts (Err Refused) k refl f)
  ]
  | inr x ↦ elim (minus_or (next ts).kind) as (λ _. FoundOr SpellsInteger (Must rule.Integer ∷ []) ts) [
    | inl k ↦ elim (unsigned_or (after ts)) as (λ _. FoundOr SpellsInteger (Must rule.Integer ∷ []) ts) [
      | inl (n, rest, i) ↦ inl (minus n, rest, arms.minus_integer ts (after ts) rest n (minus n) k refl i refl)
      | inr f ↦ inr (fails_later (arms.leads_minus_sign ts (after ts) k refl) f)
    ]
    | inr y ↦ elim (unsigned_or ts) as (λ _. FoundOr SpellsInteger (Must rule.Integer ∷ []) ts) [
      | inl (n, rest, i) ↦ inl (n, rest, arms.unsigned_integer ts rest (Ok n) x y i)
      | inr f ↦ inr (arms.unsigned_integer ts ts (Err Refused) x y f)
    ]
  ]
]

-- ---- lists

further_or : {X : Type 0} (at : Spelling X) (parts : List Part) (o : Optional) → ((ts : List Token) → FoundOr at parts ts) → entered o kind.Comma ≡ Some (One expected.Chosen ∷ parts ++ May o ∷ []) → ((k : Kind) → k ≢ kind.Comma → entered o k ≡ None)
    → (n : ℕ) (old here : List Token) (xs : List X) → IsSoFar (BehindComma at) (WithCommas at) (parts ++ May o ∷ []) (May o ∷ []) old xs here → length here < n → FoundOr (WithCommas at) (parts ++ May o ∷ []) old
further_or at parts o each inside outside zero old here xs s lt = absurd (omega arith)
further_or {X} at parts o each inside outside (suc n) old here xs s lt = elim (comma_or (next here).kind) as (λ _. FoundOr (WithCommas at) (parts ++ May o ∷ []) old) [
  | inl c ↦ let u = arms.after_less here (after here) refl (λ e. cc) in elim (each (after here)) as (λ _. FoundOr (WithCommas at) (parts ++ May o ∷ []) old) [
    | inl (x, rest, i) ↦ let v = i.no_longer in
        further_or at parts o each inside outside n old rest (xs ++ x ∷ []) (arms.comma_more at (WithCommas at) (parts ++ May o ∷ []) parts o old here (after here) rest x xs (xs ++ x ∷ []) s c refl inside i refl) (omega arith)
    | inr f ↦ inr (arms.comma_stopped at (WithCommas at) (parts ++ May o ∷ []) parts o old here (after here) xs Refused s c refl inside f)
  ]
  | inr c ↦ inl (xs, here, arms.comma_end at (WithCommas at) (parts ++ May o ∷ []) o old here xs s c (outside (next here).kind c))
]

listed_or : {X : Type 0} (at : Spelling X) (parts : List Part) (o : Optional) → ((ts : List Token) → FoundOr at parts ts) → entered o kind.Comma ≡ Some (One expected.Chosen ∷ parts ++ May o ∷ []) → ((k : Kind) → k ≢ kind.Comma → entered o k ≡ None)
    → (ts : List Token) → FoundOr (WithCommas at) (parts ++ May o ∷ []) ts
listed_or at parts o each inside outside ts = elim (each ts) as (λ _. FoundOr (WithCommas at) (parts ++ May o ∷ []) ts) [
  | inl (x, rest, i) ↦ further_or at parts o each inside outside (suc (length rest)) ts rest (x ∷ []) (arms.comma_start at parts o ts rest x (x ∷ []) i refl) (omega arith)
  | inr f ↦ inr (fails_with (May o ∷ []) f)
]

by_list_or : {X : Type 0} (at : Spelling X) (xs : List Part) → ((ts : List Token) → FoundOr (WithCommas at) xs ts) → (ts : List Token) → FoundOr (SpellsBy at) (One expected.By ∷ xs) ts
by_list_or at xs each ts = elim (by_word_or (next ts).kind) as (λ _. FoundOr (SpellsBy at) (One expected.By ∷ xs) ts) [
  | inl k ↦ elim (each (after ts)) as (λ _. FoundOr (SpellsBy at) (One expected.By ∷ xs) ts) [
    | inl (ys, rest, i) ↦ inl (ys, rest, arms.a_by_list at xs ts (after ts) rest ys k refl i)
    | inr f ↦ inr (arms.stopped_by_list xs ts (after ts) Refused k refl f)
  ]
  | inr n ↦ inr (arms.fails_by_list xs ts n)
]

-- ---- clauses that begin with a word

filter_or : (ts : List Token) → FoundOr SpellsWhere (May optional.Where ∷ []) ts
filter_or ts = elim (where_word_or (next ts).kind) as (λ _. FoundOr SpellsWhere (May optional.Where ∷ []) ts) [
  | inl k ↦ elim (expression_or (after ts)) as (λ _. FoundOr SpellsWhere (May optional.Where ∷ []) ts) [
    | inl (y, rest, i) ↦ inl (Some y, rest, arms.a_filter ts (after ts) rest y k refl i)
    | inr f ↦ inr (arms.stopped_filter ts (after ts) Refused k refl f)
  ]
  | inr n ↦ inl (None, ts, arms.no_filter ts ts n refl)
]

offset_or : (ts : List Token) → FoundOr SpellsOffset (May optional.Offset ∷ []) ts
offset_or ts = elim (offset_word_or (next ts).kind) as (λ _. FoundOr SpellsOffset (May optional.Offset ∷ []) ts) [
  | inl k ↦ elim (integer_or (after ts)) as (λ _. FoundOr SpellsOffset (May optional.Offset ∷ []) ts) [
    | inl (y, rest, i) ↦ inl (Some y, rest, arms.a_offset ts (after ts) rest y k refl i)
    | inr f ↦ inr (arms.stopped_offset ts (after ts) Refused k refl f)
  ]
  | inr n ↦ inl (None, ts, arms.no_offset ts ts n refl)
]

having_or : (ts : List Token) → FoundOr SpellsHaving (May optional.Having ∷ []) ts
having_or ts = elim (having_word_or (next ts).kind) as (λ _. FoundOr SpellsHaving (May optional.Having ∷ []) ts) [
  | inl k ↦ elim (expression_or (after ts)) as (λ _. FoundOr SpellsHaving (May optional.Having ∷ []) ts) [
    | inl (y, rest, i) ↦ inl (Some (record { place = (next ts).span.start; tree = y }), rest, arms.a_having ts (after ts) rest y (next ts).span.start k refl refl i)
    | inr f ↦ inr (arms.stopped_having ts (after ts) Refused k refl f)
  ]
  | inr n ↦ inl (None, ts, arms.no_having ts ts n refl)
]

keys_or : (ts : List Token) → FoundOr SpellsGroup (May optional.Group ∷ []) ts
keys_or ts = elim (group_word_or (next ts).kind) as (λ _. FoundOr SpellsGroup (May optional.Group ∷ []) ts) [
  | inl k ↦ elim (by_list_or SpellsExpression (Must (rule.Chain level.Or 0) ∷ May (optional.Item 0) ∷ []) (listed_or SpellsExpression (Must (rule.Chain level.Or 0) ∷ []) (optional.Item 0) expression_or arms.item_comma arms.item_no_comma) (after ts)) as (λ _. FoundOr SpellsGroup (May optional.Group ∷ []) ts) [
    | inl (y, rest, i) ↦ inl (y, rest, arms.a_keys ts (after ts) rest y k refl i)
    | inr f ↦ inr (arms.stopped_keys ts (after ts) Refused k refl f)
  ]
  | inr n ↦ inl ([], ts, arms.no_keys ts ts n refl)
]

direction_or : (ts : List Token) → ((b : Bool) × (rest : List Token) × IsFound SpellsDirection (May optional.Direction ∷ []) [] ts b rest)
direction_or ts = elim (asc_word_or (next ts).kind) as (λ _. (b : Bool) × (rest : List Token) × IsFound SpellsDirection (May optional.Direction ∷ []) [] ts b rest) [
  | inl k ↦ (false, after ts, arms.ascending ts (after ts) k refl)
  | inr a ↦ elim (desc_word_or (next ts).kind) as (λ _. (b : Bool) × (rest : List Token) × IsFound SpellsDirection (May optional.Direction ∷ []) [] ts b rest) [
    | inl k ↦ (true, after ts, arms.descending ts (after ts) k refl)
    | inr d ↦ (false, ts, arms.no_direction ts ts a d refl)
  ]
]

term_or : (ts : List Token) → FoundOr SpellsTerm term_parts ts
term_or ts = elim (expression_or ts) as (λ _. FoundOr SpellsTerm term_parts ts) [
  | inl (e, middle, i) ↦ let d = direction_or middle in inl (record { tree = e; is_descending = d.0 }, d.1, arms.a_term ts middle d.1 e d.0 i d.2)
  | inr f ↦ inr (fails_with (May optional.Direction ∷ []) f)
]

terms_or : (ts : List Token) → FoundOr SpellsOrder (May optional.Order ∷ []) ts
terms_or ts = elim (order_word_or (next ts).kind) as (λ _. FoundOr SpellsOrder (May optional.Order ∷ []) ts) [
  | inl k ↦ elim (by_list_or SpellsTerm (Must (rule.Chain level.Or 0) ∷ May optional.Direction ∷ May optional.Terms ∷ []) (listed_or SpellsTerm term_parts optional.Terms term_or arms.terms_comma arms.terms_no_comma) (after ts)) as (λ _. FoundOr SpellsOrder (May optional.Order ∷ []) ts) [
    | inl (y, rest, i) ↦ inl (y, rest, arms.a_terms ts (after ts) rest y k refl i)
    | inr f ↦ inr (arms.stopped_terms ts (after ts) Refused k refl f)
  ]
  | inr n ↦ inl ([], ts, arms.no_terms ts ts n refl)
]

-- ---- tables

join_or_not : (f : Form) (ts : List Token) → FoundOr (SpellsJoin f) (One expected.Join ∷ []) ts
join_or_not f ts = elim (join_word_or (next ts).kind) as (λ _. FoundOr (SpellsJoin f) (One expected.Join ∷ []) ts) [
  | inl k ↦ inl (Some f, after ts, arms.a_join f ts (after ts) k refl)
  | inr n ↦ inr (arms.fails_join ts n)
]

left_join_or : (ts : List Token) → FoundOr SpellsOuterJoin (Must rule.LeftJoin ∷ []) ts
left_join_or ts = elim (outer_word_or (next ts).kind) as (λ _. FoundOr SpellsOuterJoin (Must rule.LeftJoin ∷ []) ts) [
  | inl k ↦ elim (join_or_not form.Outer (after ts)) as (λ _. FoundOr SpellsOuterJoin (Must rule.LeftJoin ∷ []) ts) [
    | inl (o, rest, i) ↦ inl (o, rest, arms.finds_outer ts (after ts) rest true (Ok o) (k, refl) i)
    | inr f ↦ inr (arms.finds_outer ts (after ts) ts true (Err Refused) (k, refl) f)
  ]
  | inr n ↦ elim (join_or_not form.Outer ts) as (λ _. FoundOr SpellsOuterJoin (Must rule.LeftJoin ∷ []) ts) [
    | inl (o, rest, i) ↦ inl (o, rest, arms.finds_outer ts ts rest false (Ok o) (n, refl) i)
    | inr f ↦ inr (arms.finds_outer ts ts ts false (Err Refused) (n, refl) f)
  ]
]

abbrev FormOr : List Token → Type 0
FormOr ts = ((o : Option Form) × (rest : List Token) × FormFound ts (Ok o) rest) ⊎ Fails (May optional.Sources ∷ []) ts

word_form_or : (ts : List Token) → (next ts).kind ≢ kind.Comma → (next ts).kind ≢ kind.Clause clause.Cross → (next ts).kind ≢ kind.Clause clause.Join → (next ts).kind ≢ kind.Clause clause.Inner → (next ts).kind ≢ kind.Clause clause.Left → FormOr ts
word_form_or ts n a b c d = elim (clause_or (next ts).kind) as (λ _. FormOr ts) [
  | inl (w, h) ↦ inl (None, ts, arms.no_form_word ts w h (λ e. a (h ∙ ap kind.Clause e)) (λ e. b (h ∙ ap kind.Clause e)) (λ e. c (h ∙ ap kind.Clause e)) (λ e. d (h ∙ ap kind.Clause e)))
  | inr h ↦ inl (None, ts, arms.no_form ts n h)
]

form_or : (ts : List Token) → FormOr ts
form_or ts = elim (comma_or (next ts).kind) as (λ _. FormOr ts) [
  | inl k ↦ inl (Some form.Plain, after ts, arms.comma_form ts (after ts) k refl)
  | inr n ↦ elim (cross_word_or (next ts).kind) as (λ _. FormOr ts) [
    | inl k ↦ elim (join_or_not form.Plain (after ts)) as (λ _. FormOr ts) [
      | inl (o, rest, i) ↦ inl (o, rest, arms.cross_form ts (after ts) rest (Ok o) k refl i)
      | inr f ↦ inr (arms.cross_form ts (after ts) ts (Err Refused) k refl f)
    ]
    | inr a ↦ elim (join_word_or (next ts).kind) as (λ _. FormOr ts) [
      | inl k ↦ inl (Some form.Inner, after ts, arms.join_word_form ts (after ts) k refl)
      | inr b ↦ elim (inner_word_or (next ts).kind) as (λ _. FormOr ts) [
        | inl k ↦ elim (join_or_not form.Inner (after ts)) as (λ _. FormOr ts) [
          | inl (o, rest, i) ↦ inl (o, rest, arms.inner_form ts (after ts) rest (Ok o) k refl i)
          | inr f ↦ inr (arms.inner_form ts (after ts) ts (Err Refused) k refl f)
        ]
        | inr c ↦ elim (left_word_or (next ts).kind) as (λ _. FormOr ts) [
          | inl k ↦ elim (left_join_or (after ts)) as (λ _. FormOr ts) [
            | inl (o, rest, i) ↦ inl (o, rest, arms.left_form ts (after ts) rest (Ok o) k refl i)
            | inr f ↦ inr (arms.left_form ts (after ts) ts (Err Refused) k refl f)
          ]
          | inr d ↦ word_form_or ts n a b c d
        ]
      ]
    ]
  ]
]

names_or : (ts : List Token) → FoundOr SpellsNames names_parts ts
names_or ts = elim (open_or (next ts).kind) as (λ _. FoundOr SpellsNames names_parts ts) [
  | inl k ↦ elim (listed_or SpellsName (One expected.Name ∷ []) optional.Names name_or arms.names_comma arms.names_no_comma (after ts)) as (λ _. FoundOr SpellsNames names_parts ts) [
    | inl (ns, here, i) ↦ elim (close_or (next here).kind) as (λ _. FoundOr SpellsNames names_parts ts) [
      | inl c ↦ inl (ns, after here, arms.a_names ts (after ts) here (after here) ns k refl i c refl)
      | inr c ↦ inr (arms.unclosed_names ts (after ts) here ns k refl i c)
    ]
    | inr f ↦ inr (arms.stopped_names ts (after ts) Refused k refl f)
  ]
  | inr n ↦ inr (arms.no_names ts n)
]

condition_or : (ts : List Token) → FoundOr SpellsCondition (May optional.Condition ∷ []) ts
condition_or ts = elim (on_word_or (next ts).kind) as (λ _. FoundOr SpellsCondition (May optional.Condition ∷ []) ts) [
  | inl k ↦ elim (expression_or (after ts)) as (λ _. FoundOr SpellsCondition (May optional.Condition ∷ []) ts) [
    | inl (e, rest, i) ↦ inl ((Some e, []), rest, arms.an_on ts (after ts) rest e [] k refl refl i)
    | inr f ↦ inr (arms.stopped_on ts (after ts) Refused k refl f)
  ]
  | inr n ↦ elim (using_word_or (next ts).kind) as (λ _. FoundOr SpellsCondition (May optional.Condition ∷ []) ts) [
    | inl k ↦ elim (names_or (after ts)) as (λ _. FoundOr SpellsCondition (May optional.Condition ∷ []) ts) [
      | inl (ns, rest, i) ↦ inl ((None, ns), rest, arms.a_using ts ts (after ts) rest ns refl k refl i)
      | inr f ↦ inr (arms.stopped_using ts ts (after ts) Refused refl k refl f)
    ]
    | inr u ↦ inl ((None, []), ts, arms.no_condition ts ts ts [] n refl u refl refl)
  ]
]

condition_of_or : (f : Form) (ts : List Token) → FoundOr (SpellsConditionOf f) (condition_parts f) ts
condition_of_or form.Plain ts = inl ((None, []), ts, arms.no_condition_of ts [] refl)
condition_of_or form.Inner ts = condition_or ts
condition_of_or form.Outer ts = condition_or ts

source_or : (f : Form) (ts : List Token) → FoundOr (SpellsTable f) (form_parts f) ts
source_or f ts = elim (name_or ts) as (λ _. FoundOr (SpellsTable f) (form_parts f) ts) [
  | inl (table, a, i) ↦ elim (alias_or a) as (λ _. FoundOr (SpellsTable f) (form_parts f) ts) [
    | inl (other, b, j) ↦ elim (condition_of_or f b) as (λ _. FoundOr (SpellsTable f) (form_parts f) ts) [
      | inl (on, rest, k) ↦ inl (record { table = table; alias = other; is_outer = is_outer f; on = on.0; using = on.1 }, rest, arms.a_source f ts a b rest table other on.0 on.1 (is_outer f) i j k refl)
      | inr e ↦ inr (arms.stopped_table_condition f ts a b table other Refused i j e)
    ]
    | inr e ↦ inr (arms.stopped_table_alias f ts a table Refused i e)
  ]
  | inr e ↦ inr (arms.stopped_table f ts Refused e)
]

abbrev SourcesOr : List Token → Type 0
SourcesOr ts = FoundOr SpellsTables (One expected.Name ∷ May optional.Alias ∷ May optional.Sources ∷ []) ts

further_sources_or : (n : ℕ) (old here : List Token) (xs : List RefTree) → IsSoFar SpellsFurtherTable SpellsTables (One expected.Name ∷ May optional.Alias ∷ May optional.Sources ∷ []) (May optional.Sources ∷ []) old xs here → length here < n → SourcesOr old
further_sources_or zero old here xs s lt = absurd (omega arith)
further_sources_or (suc n) old here xs s lt = elim (form_or here) as (λ _. SourcesOr old) [
  | inl (None, rest, j) ↦ inl (xs, rest, arms.sources_end old here rest xs s j)
  | inl (Some f, mid, j) ↦ elim (source_or f mid) as (λ _. SourcesOr old) [
    | inl (x, rest, i) ↦ let u = j.1 in let v = i.no_longer in further_sources_or n old rest (xs ++ x ∷ []) (arms.sources_more f old here mid rest x xs (xs ++ x ∷ []) s j i refl) (omega arith)
    | inr e ↦ inr (arms.sources_stopped f old here mid xs Refused s j e)
  ]
  | inr e ↦ inr (fails_later s.leads e)
]

source_list_or : (ts : List Token) → SourcesOr ts
source_list_or ts = elim (source_or form.Plain ts) as (λ _. SourcesOr ts) [
  | inl (x, rest, i) ↦ further_sources_or (suc (length rest)) ts rest (x ∷ []) (arms.sources_start ts rest x (x ∷ []) i refl) (omega arith)
  | inr f ↦ inr (fails_with (May optional.Sources ∷ []) f)
]

sources_or : (ts : List Token) → FoundOr SpellsFrom (May optional.From ∷ []) ts
sources_or ts = elim (from_word_or (next ts).kind) as (λ _. FoundOr SpellsFrom (May optional.From ∷ []) ts) [
  | inl k ↦ elim (source_list_or (after ts)) as (λ _. FoundOr SpellsFrom (May optional.From ∷ []) ts) [
    | inl (y, rest, i) ↦ inl (y, rest, arms.a_sources ts (after ts) rest y k refl i)
    | inr f ↦ inr (arms.stopped_sources ts (after ts) Refused k refl f)
  ]
  | inr n ↦ inl ([], ts, arms.no_sources ts ts n refl)
]

limits_or : (ts : List Token) → FoundOr SpellsLimit (May optional.Limit ∷ []) ts
limits_or ts = elim (limit_word_or (next ts).kind) as (λ _. FoundOr SpellsLimit (May optional.Limit ∷ []) ts) [
  | inl k ↦ elim (integer_or (after ts)) as (λ _. FoundOr SpellsLimit (May optional.Limit ∷ []) ts) [
    | inl (n, here, i) ↦ elim (offset_or here) as (λ _. FoundOr SpellsLimit (May optional.Limit ∷ []) ts) [
      | inl (skip, rest, j) ↦ inl ((Some n, skip), rest, arms.a_limits ts (after ts) here rest n skip k refl i j)
      | inr f ↦ inr (arms.stopped_offset_behind ts (after ts) here n Refused k refl i f)
    ]
    | inr f ↦ inr (arms.stopped_limits ts (after ts) Refused k refl (fails_with (May optional.Offset ∷ []) f))
  ]
  | inr n ↦ inl ((None, None), ts, arms.no_limits ts ts n refl)
]

-- ---- items

expression_item_or : (ts : List Token) → FoundOr SpellsExpressionItem (Must (rule.Chain level.Or 0) ∷ May optional.Alias ∷ []) ts
expression_item_or ts = elim (expression_or ts) as (λ _. FoundOr SpellsExpressionItem (Must (rule.Chain level.Or 0) ∷ May optional.Alias ∷ []) ts) [
  | inl (e, middle, i) ↦ elim (alias_or middle) as (λ _. FoundOr SpellsExpressionItem (Must (rule.Chain level.Or 0) ∷ May optional.Alias ∷ []) ts) [
    | inl (a, rest, j) ↦ inl (one e (record { start = (next ts).span.start; end = (next middle).previous_end }) a, rest, arms.an_expression_item ts middle rest e a (one e (record { start = (next ts).span.start; end = (next middle).previous_end }) a) i j refl)
    | inr f ↦ inr (fails_later (leads_with (May optional.Alias ∷ []) i.leads) f)
  ]
  | inr f ↦ inr (fails_with (May optional.Alias ∷ []) f)
]

item_or : (ts : List Token) → FoundOr SpellsItem (Must rule.SelectItem ∷ []) ts
item_or ts = elim (flag_or (is_all_of ts)) as (λ _. FoundOr SpellsItem (Must rule.SelectItem ∷ []) ts) [
  | inl h ↦ inl (all_of (name_of (next ts)), after (after (after ts)), arms.an_all_of ts (after (after (after ts))) (all_of (name_of (next ts))) h refl refl)
  | inr h ↦ elim (star_or (next ts).kind) as (λ _. FoundOr SpellsItem (Must rule.SelectItem ∷ []) ts) [
    | inl k ↦ inl (all (next ts).span.start, after ts, arms.an_all ts (after ts) (all (next ts).span.start) h k refl refl)
    | inr n ↦ elim (expression_item_or ts) as (λ _. FoundOr SpellsItem (Must rule.SelectItem ∷ []) ts) [
      | inl (x, rest, i) ↦ inl (x, rest, arms.an_other_item (λ (y : ItemTree). y) ts rest (Ok x) h n i)
      | inr f ↦ inr (arms.an_other_item (λ (y : ItemTree). y) ts ts (Err Refused) h n f)
    ]
  ]
]

opening_or : (ts : List Token) → FoundOr SpellsOpening (One expected.Select ∷ May optional.Distinct ∷ []) ts
opening_or ts = elim (select_word_or (next ts).kind) as (λ _. FoundOr SpellsOpening (One expected.Select ∷ May optional.Distinct ∷ []) ts) [
  | inl k ↦ elim (distinct_or (next (after ts)).kind) as (λ _. FoundOr SpellsOpening (One expected.Select ∷ May optional.Distinct ∷ []) ts) [
    | inl d ↦ inl (true, after (after ts), arms.an_opening ts (after ts) (after (after ts)) true k refl (arms.a_distinct (after ts) (after (after ts)) d refl))
    | inr d ↦ inl (false, after ts, arms.an_opening ts (after ts) (after ts) false k refl (arms.no_distinct (after ts) d))
  ]
  | inr n ↦ inr (arms.no_opening ts n)
]

-- ---- the whole

select_or_not : (ts : List Token) → FoundOr SpellsSelect select_parts ts
select_or_not ts =
    elim (opening_or ts) as (λ _. FoundOr SpellsSelect select_parts ts) [
      | inl (x1, t1, h1) ↦ let l1 = leads_with (Must rule.SelectItem ∷ May optional.SelectItems ∷ May optional.From ∷ May optional.Where ∷ May optional.Group ∷ May optional.Having ∷ May optional.Order ∷ May optional.Limit ∷ []) h1.leads in elim (listed_or SpellsItem (Must rule.SelectItem ∷ []) optional.SelectItems item_or arms.select_items_comma arms.select_items_no_comma t1) as (λ _. FoundOr SpellsSelect select_parts ts) [
        | inl (x2, t2, h2) ↦ let l2 = leads_on l1 (leads_with (May optional.From ∷ May optional.Where ∷ May optional.Group ∷ May optional.Having ∷ May optional.Order ∷ May optional.Limit ∷ []) h2.leads) in elim (sources_or t2) as (λ _. FoundOr SpellsSelect select_parts ts) [
          | inl (x3, t3, h3) ↦ let l3 = leads_on l2 (leads_with (May optional.Where ∷ May optional.Group ∷ May optional.Having ∷ May optional.Order ∷ May optional.Limit ∷ []) h3.leads) in elim (filter_or t3) as (λ _. FoundOr SpellsSelect select_parts ts) [
            | inl (x4, t4, h4) ↦ let l4 = leads_on l3 (leads_with (May optional.Group ∷ May optional.Having ∷ May optional.Order ∷ May optional.Limit ∷ []) h4.leads) in elim (keys_or t4) as (λ _. FoundOr SpellsSelect select_parts ts) [
              | inl (x5, t5, h5) ↦ let l5 = leads_on l4 (leads_with (May optional.Having ∷ May optional.Order ∷ May optional.Limit ∷ []) h5.leads) in elim (having_or t5) as (λ _. FoundOr SpellsSelect select_parts ts) [
                | inl (x6, t6, h6) ↦ let l6 = leads_on l5 (leads_with (May optional.Order ∷ May optional.Limit ∷ []) h6.leads) in elim (terms_or t6) as (λ _. FoundOr SpellsSelect select_parts ts) [
                  | inl (x7, t7, h7) ↦ let l7 = leads_on l6 (leads_with (May optional.Limit ∷ []) h7.leads) in elim (limits_or t7) as (λ _. FoundOr SpellsSelect select_parts ts) [
                    | inl (x8, t8, h8) ↦ inl (record { is_distinct = x1; items = x2; sources = x3; filter = x4; keys = x5; having = x6; terms = x7; limit = x8.0; skip = x8.1 }, t8, arms.a_select ts t1 t2 t3 t4 t5 t6 t7 t8 x1 x2 x3 x4 x5 x6 x7 x8 h1 h2 h3 h4 h5 h6 h7 h8)
                    | inr f ↦ inr (fails_later l7 f)
                  ]
                  | inr f ↦ inr (fails_later l6 (fails_with (May optional.Limit ∷ []) f))
                ]
                | inr f ↦ inr (fails_later l5 (fails_with (May optional.Order ∷ May optional.Limit ∷ []) f))
              ]
              | inr f ↦ inr (fails_later l4 (fails_with (May optional.Having ∷ May optional.Order ∷ May optional.Limit ∷ []) f))
            ]
            | inr f ↦ inr (fails_later l3 (fails_with (May optional.Group ∷ May optional.Having ∷ May optional.Order ∷ May optional.Limit ∷ []) f))
          ]
          | inr f ↦ inr (fails_later l2 (fails_with (May optional.Where ∷ May optional.Group ∷ May optional.Having ∷ May optional.Order ∷ May optional.Limit ∷ []) f))
        ]
        | inr f ↦ inr (fails_later l1 (fails_with (May optional.From ∷ May optional.Where ∷ May optional.Group ∷ May optional.Having ∷ May optional.Order ∷ May optional.Limit ∷ []) f))
      ]
      | inr f ↦ inr (fails_with (Must rule.SelectItem ∷ May optional.SelectItems ∷ May optional.From ∷ May optional.Where ∷ May optional.Group ∷ May optional.Having ∷ May optional.Order ∷ May optional.Limit ∷ []) f)
    ]

-- tokens are a sentence, or they have a fault
pub judged : (ts : List Token) → Judged ts
judged ts = elim (select_or_not ts) as (λ _. Judged ts) [
  | inl (t, rest, h) ↦ elim (semicolon_or (next rest).kind) as (λ _. Judged ts) [
    | inl k ↦ let told = told_behind (is_end (next (after rest)).kind) rest (after rest) k refl refl in elim (flag_or (is_end (next (after rest)).kind)) as (λ _. Judged ts) [
      | inl e ↦ let r = whole_select_read ts rest t (is_end (next (after rest)).kind) h told e in sentence t r.0 r.1
      | inr e ↦ faulty (whole_select_unended ts rest t (is_end (next (after rest)).kind) h told e)
    ]
    | inr n ↦ let told = told_here (is_end (next rest).kind) rest n refl in elim (flag_or (is_end (next rest).kind)) as (λ _. Judged ts) [
      | inl e ↦ let r = whole_select_read ts rest t (is_end (next rest).kind) h told e in sentence t r.0 r.1
      | inr e ↦ faulty (whole_select_unended ts rest t (is_end (next rest).kind) h told e)
    ]
  ]
  | inr g ↦ faulty (g.holds end_parts)
]
