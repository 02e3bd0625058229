-- Tokens have at most one tree, as an expression and as a select: two derivations from the same tokens end at the same place with the same tree.
use Rattle.std.proofs.Common.{◌≡◌, ◌≢◌, List, [], Bool, true, false, ◌&&◌, Option, Some, None, ℤ, refl, sym, ap, subst, ◌∙◌, arith, length, ◌+◌, ◌*◌}
use Rattle.std.proofs.lemmas.Bool.{false≢true}
use Rattle.sql_tokens.specs.declared.token.Token.{Token}
use Rattle.sql_tokens.specs.declared.token.Kind.{Kind}
use Rattle.sql_tokens.specs.declared.token.Kind.TheVariants as kind
use Rattle.sql_tokens.specs.declared.token.Clause.TheVariants as clause
use Rattle.sql_tokens.specs.declared.level.Level.TheVariants as level
use Rattle.sql_parser.specs.declared.clauses.Form.{Form}
use Rattle.sql_parser.specs.declared.clauses.Form.TheVariants as form
use Rattle.sql_tree.specs.declared.tree.Name.{Name}
use Rattle.sql_tokens.specs.Tokens.{next, after, is_name, is_dot, is_star, is_all_of}
use Rattle.sql_tree.specs.Tree.{Tree}
use Rattle.sql_tree.specs.Select.{ItemTree, RefTree, HavingTree, TermTree, SelectTree}
use Rattle.sql_parser.specs.Grammar.{chain}
use Rattle.sql_parser.specs.Whole.{IsTree}
use Rattle.sql_parser.specs.SelectGrammar.{Spelling, SpellsExpression, Repeated, no_further, one_further, Listed, listed, BehindComma, no_comma, a_comma, WithCommas, SpellsName, a_name, SpellsAlias, no_alias, an_alias, alias_with_as, SpellsExpressionItem, an_expression, SpellsItem, all_columns, all_columns_of, an_item, SpellsNames, some_names, SpellsCondition, no_condition, an_on, a_using, SpellsConditionOf, SpellsTable, a_table, a_join, without_outer, with_outer, SpellsForm, no_table, by_comma, by_cross_join, by_join, by_inner_join, by_left_join, SpellsFurtherTable, no_further_table, a_further_table, SpellsTables, SpellsDistinct, no_distinct, a_distinct, SpellsOpening, an_opening, SpellsFrom, no_from, a_from, SpellsWhere, no_where, a_where, SpellsBy, a_by, SpellsGroup, no_group, a_group, SpellsHaving, no_having, a_having, SpellsDirection, no_direction, ascending, descending, SpellsTerm, a_term, SpellsOrder, no_order, an_order, SpellsNumber, a_number, minus, SpellsInteger, unsigned, with_plus, with_minus, SpellsOffset, no_offset, an_offset, SpellsLimit, no_limit, a_limit, SpellsSelect, IsSelect}
use Rattle.sql_parser.proofs.Computed.{Found, read}
use Rattle.sql_parser.proofs.ReadSpelled.{computed}

-- a rule that derives at most one thing from the same tokens
abbrev pub DerivesOne : {X : Type 0} → Spelling X → Type 0
DerivesOne {X} rule = (ts us a b : List Token) (x y : X) → ts ≡ us → rule ts x a → rule us y b → (x ≡ y) × (a ≡ b)

moved : {X : Type 0} {ts us a : List Token} {x : X} (rule : Spelling X) → ts ≡ us → rule us x a → rule ts x a
moved {a = a} {x = x} rule e d = subst (λ (z : List Token). rule z x a) (sym e) d

from_one : {X : Type 0} (rule : Spelling X) → ((ts a b : List Token) (x y : X) → rule ts x a → rule ts y b → (x ≡ y) × (a ≡ b)) → DerivesOne rule
from_one rule same = λ ts us a b x y e d f. same ts a b x y d (moved rule e f)

-- ---- expressions

abbrev found_or : {X : Type 0} → X → Found X → X
found_or x None = x
found_or x (Some found) = found.0

abbrev rest_or : {X : Type 0} → List Token → Found X → List Token
rest_or ts None = ts
rest_or ts (Some found) = found.1

same_found : {X : Type 0} (x y : X) (a b : List Token) (found : Found X) → found ≡ Some (x, a) → found ≡ Some (y, b) → (x ≡ y) × (a ≡ b)
same_found x y a b found p q = (ap (found_or x) (sym p ∙ q), ap (rest_or a) (sym p ∙ q))

same_expression : (ts a b : List Token) (x y : Tree) → SpellsExpression ts x a → SpellsExpression ts y b → (x ≡ y) × (a ≡ b)
same_expression ts a b x y d f = same_found x y a b (read (12 * (length ts + 1)) (chain level.Or) ts) (computed d (12 * (length ts + 1)) (omega arith)) (computed f (12 * (length ts + 1)) (omega arith))

one_expression : DerivesOne SpellsExpression
one_expression = from_one SpellsExpression same_expression

pub one_tree : (ts : List Token) (a b : Tree) → IsTree ts a → IsTree ts b → a ≡ b
one_tree ts a b p q = (same_expression ts p.rest q.rest a b p.spelled q.spelled).0

-- ---- lists

some_no_none : {X : Type 0} {x : X} → None ≡ Some x → ⊥
some_no_none e = cc

some_in : {X : Type 0} {x y : X} → Some x ≡ Some y → x ≡ y
some_in e = cc

same_repeated : {X : Type 0} {more : Spelling (Option X)} {ts us a b : List Token} {xs ys : List X} → DerivesOne more → ts ≡ us → Repeated more ts xs a → Repeated more us ys b → (xs ≡ ys) × (a ≡ b)
same_repeated one e (no_further h) (no_further g) = (refl, (one _ _ _ _ _ _ e h g).1)
same_repeated one e (no_further h) (one_further g s) = absurd (some_no_none ((one _ _ _ _ _ _ e h g).0))
same_repeated one e (one_further h r) (no_further g) = absurd (some_no_none (sym ((one _ _ _ _ _ _ e h g).0)))
same_repeated one e (one_further h r) (one_further g s) =
    let p = one _ _ _ _ _ _ e h g in
    let q = same_repeated one p.1 r s in
    let x = some_in p.0 in
    (rw (x, q.0) refl, q.1)

same_listed : {X : Type 0} {first : Spelling X} {more : Spelling (Option X)} {ts us a b : List Token} {xs ys : List X} → DerivesOne first → DerivesOne more → ts ≡ us → Listed first more ts xs a → Listed first more us ys b → (xs ≡ ys) × (a ≡ b)
same_listed begins one e (listed h r) (listed g s) =
    let p = begins _ _ _ _ _ _ e h g in
    let q = same_repeated one p.1 r s in
    let x = p.0 in
    (rw (x, q.0) refl, q.1)

one_listed : {X : Type 0} (first : Spelling X) (more : Spelling (Option X)) → DerivesOne first → DerivesOne more → DerivesOne (Listed first more)
one_listed first more begins one = λ ts us a b xs ys e d f. same_listed begins one e d f

same_comma : {X : Type 0} {item : Spelling X} {ts a b : List Token} {x y : Option X} → DerivesOne item → BehindComma item ts x a → BehindComma item ts y b → (x ≡ y) × (a ≡ b)
same_comma one (no_comma h) (no_comma g) = (refl, refl)
same_comma one (no_comma h) (a_comma k s) = absurd (h k)
same_comma one (a_comma k s) (no_comma h) = absurd (h k)
same_comma one (a_comma k s) (a_comma j t) = let p = one _ _ _ _ _ _ refl s t in (ap Some p.0, p.1)

one_with_commas : {X : Type 0} (item : Spelling X) → DerivesOne item → DerivesOne (WithCommas item)
one_with_commas item one = one_listed item (BehindComma item) one (from_one (BehindComma item) (λ ts a b x y d f. same_comma one d f))

-- ---- names and items

same_name : {ts a b : List Token} {x y : Name} → SpellsName ts x a → SpellsName ts y b → (x ≡ y) × (a ≡ b)
same_name (a_name h) (a_name g) = (refl, refl)

one_name : DerivesOne SpellsName
one_name = from_one SpellsName (λ ts a b x y d f. same_name d f)

as_no_name : (k : Kind) → k ≡ kind.As → is_name k ≡ true → ⊥
as_no_name k e h = let p : is_name kind.As ≡ true = subst (λ (x : Kind). is_name x ≡ true) e h in cc

same_alias : {ts a b : List Token} {x y : Option Name} → SpellsAlias ts x a → SpellsAlias ts y b → (x ≡ y) × (a ≡ b)
same_alias (no_alias h n) (no_alias g m) = (refl, refl)
same_alias (no_alias h n) (an_alias (a_name g)) = absurd (false≢true (sym h ∙ g))
same_alias (no_alias h n) (alias_with_as k s) = absurd (n k)
same_alias (an_alias (a_name h)) (no_alias g n) = absurd (false≢true (sym g ∙ h))
same_alias (an_alias s) (an_alias t) = let p = same_name s t in (ap Some p.0, p.1)
same_alias (an_alias (a_name h)) (alias_with_as k s) = absurd (as_no_name _ k h)
same_alias (alias_with_as k s) (no_alias h n) = absurd (n k)
same_alias (alias_with_as k s) (an_alias (a_name h)) = absurd (as_no_name _ k h)
same_alias (alias_with_as k s) (alias_with_as j t) = let p = same_name s t in (ap Some p.0, p.1)

one_alias : DerivesOne SpellsAlias
one_alias = from_one SpellsAlias (λ ts a b x y d f. same_alias d f)

same_expression_item : {ts a b : List Token} {x y : ItemTree} → SpellsExpressionItem ts x a → SpellsExpressionItem ts y b → (x ≡ y) × (a ≡ b)
same_expression_item (an_expression s d) (an_expression t f) =
    let p = same_expression _ _ _ _ _ s t in
    let e = p.0 in
    let m = p.1 in
    let q = one_alias _ _ _ _ _ _ m d f in
    let n = q.0 in
    (rw (e, m, n) refl, q.1)

star_no_all : (ts : List Token) → (next ts).kind ≡ kind.Star → is_all_of ts ≡ false
star_no_all ts k = ap (λ (x : Kind). is_name x && (is_dot (next (after ts)).kind && is_star (next (after (after ts))).kind)) k

same_item : {ts a b : List Token} {x y : ItemTree} → SpellsItem ts x a → SpellsItem ts y b → (x ≡ y) × (a ≡ b)
same_item (all_columns k) (all_columns j) = (refl, refl)
same_item (all_columns {ts = ts} k) (all_columns_of h) = absurd (false≢true (sym (star_no_all ts k) ∙ h))
same_item (all_columns k) (an_item h n s) = absurd (n k)
same_item (all_columns_of h) (all_columns {ts = ts} k) = absurd (false≢true (sym (star_no_all ts k) ∙ h))
same_item (all_columns_of h) (all_columns_of g) = (refl, refl)
same_item (all_columns_of h) (an_item g n s) = absurd (false≢true (sym g ∙ h))
same_item (an_item h n s) (all_columns k) = absurd (n k)
same_item (an_item h n s) (all_columns_of g) = absurd (false≢true (sym h ∙ g))
same_item (an_item h n s) (an_item g m t) = same_expression_item s t

one_item : DerivesOne SpellsItem
one_item = from_one SpellsItem (λ ts a b x y d f. same_item d f)

-- ---- tables

same_names : {ts a b : List Token} {x y : List Name} → SpellsNames ts x a → SpellsNames ts y b → (x ≡ y) × (a ≡ b)
same_names (some_names k s c) (some_names j t d) = let p = one_with_commas SpellsName one_name _ _ _ _ _ _ refl s t in (p.0, ap after p.1)

same_condition : {ts a b : List Token} {x y : Option Tree × List Name} → SpellsCondition ts x a → SpellsCondition ts y b → (x ≡ y) × (a ≡ b)
same_condition (no_condition h g) (no_condition i j) = (refl, refl)
same_condition (no_condition h g) (an_on k s) = absurd (h k)
same_condition (no_condition h g) (a_using k s) = absurd (g k)
same_condition (an_on k s) (no_condition h g) = absurd (h k)
same_condition (an_on k s) (an_on j t) = let p = same_expression _ _ _ _ _ s t in (ap (λ (e : Tree). let c : Option Tree × List Name = (Some e, []) in c) p.0, p.1)
same_condition (an_on k s) (a_using j t) = absurd (let p = sym k ∙ j in cc)
same_condition (a_using k s) (no_condition h g) = absurd (g k)
same_condition (a_using k s) (an_on j t) = absurd (let p = sym k ∙ j in cc)
same_condition (a_using k s) (a_using j t) = let p = same_names s t in (ap (λ (names : List Name). let c : Option Tree × List Name = (None, names) in c) p.0, p.1)

same_condition_of : (how : Form) (ts a b : List Token) (x y : Option Tree × List Name) → SpellsConditionOf how ts x a → SpellsConditionOf how ts y b → (x ≡ y) × (a ≡ b)
same_condition_of form.Plain ts a b x y s t = (s.0 ∙ sym t.0, s.1 ∙ sym t.1)
same_condition_of form.Inner ts a b x y s t = same_condition s t
same_condition_of form.Outer ts a b x y s t = same_condition s t

one_condition_of : (how : Form) → DerivesOne (SpellsConditionOf how)
one_condition_of how = from_one (SpellsConditionOf how) (same_condition_of how)

same_table : {how : Form} {ts a b : List Token} {x y : RefTree} → SpellsTable how ts x a → SpellsTable how ts y b → (x ≡ y) × (a ≡ b)
same_table {how} (a_table n d c) (a_table m f g) =
    let p = same_name n m in
    let q = one_alias _ _ _ _ _ _ p.1 d f in
    let r = one_condition_of how _ _ _ _ _ _ q.1 c g in
    let name = p.0 in
    let alias = q.0 in
    let condition = r.0 in
    (rw (name, alias, condition) refl, r.1)

one_table : (how : Form) → DerivesOne (SpellsTable how)
one_table how = from_one (SpellsTable how) (λ ts a b x y d f. same_table d f)

-- how a further table is brought in, from the words
abbrev behind_join : List Token → Kind → List Token
behind_join ts (kind.Clause clause.Outer) = after (after ts)
behind_join ts other = after ts

abbrev form_by : List Token → Kind → Option Form × List Token
form_by ts kind.Comma = (Some form.Plain, after ts)
form_by ts (kind.Clause clause.Cross) = (Some form.Plain, after (after ts))
form_by ts (kind.Clause clause.Join) = (Some form.Inner, after ts)
form_by ts (kind.Clause clause.Inner) = (Some form.Inner, after (after ts))
form_by ts (kind.Clause clause.Left) = (Some form.Outer, behind_join (after ts) (next (after ts)).kind)
form_by ts other = (None, ts)

no_form : (ts : List Token) (k : Kind) → k ≢ kind.Comma → k ≢ kind.Clause clause.Cross → k ≢ kind.Clause clause.Join → k ≢ kind.Clause clause.Inner → k ≢ kind.Clause clause.Left → form_by ts k ≡ (None, ts)
no_form ts kind.Comma a b c d e = absurd (a refl)
no_form ts (kind.Clause clause.Cross) a b c d e = absurd (b refl)
no_form ts (kind.Clause clause.Join) a b c d e = absurd (c refl)
no_form ts (kind.Clause clause.Inner) a b c d e = absurd (d refl)
no_form ts (kind.Clause clause.Left) a b c d e = absurd (e refl)
no_form ts other a b c d e = refl

abbrev outer_form : List Token → Kind → Option Form × List Token
outer_form ts k = (Some form.Outer, behind_join ts k)

form_is : {ts rest : List Token} {how : Option Form} → SpellsForm ts how rest → form_by ts (next ts).kind ≡ (how, rest)
form_is (no_table {ts = ts} a b c d e) = no_form ts (next ts).kind a b c d e
form_is (by_comma {ts = ts} k) = ap (form_by ts) k
form_is (by_cross_join {ts = ts} k (a_join j)) = ap (form_by ts) k
form_is (by_join {ts = ts} (a_join j)) = ap (form_by ts) j
form_is (by_inner_join {ts = ts} k (a_join j)) = ap (form_by ts) k
form_is (by_left_join {ts = ts} k (without_outer n (a_join j))) = ap (form_by ts) k ∙ ap (outer_form (after ts)) j
form_is (by_left_join {ts = ts} k (with_outer o (a_join j))) = ap (form_by ts) k ∙ ap (outer_form (after ts)) o

same_pair : {X : Type 0} (x y : X) (a b : List Token) (pair : X × List Token) → pair ≡ (x, a) → pair ≡ (y, b) → (x ≡ y) × (a ≡ b)
same_pair {X} x y a b pair p q = (ap (λ (r : X × List Token). r.0) (sym p ∙ q), ap (λ (r : X × List Token). r.1) (sym p ∙ q))

one_form : DerivesOne SpellsForm
one_form = from_one SpellsForm (λ ts a b x y d f. same_pair x y a b (form_by ts (next ts).kind) (form_is d) (form_is f))

same_further_table : {ts a b : List Token} {x y : Option RefTree} → SpellsFurtherTable ts x a → SpellsFurtherTable ts y b → (x ≡ y) × (a ≡ b)
same_further_table (no_further_table h) (no_further_table g) = (refl, (one_form _ _ _ _ _ _ refl h g).1)
same_further_table (no_further_table h) (a_further_table g t) = absurd (some_no_none ((one_form _ _ _ _ _ _ refl h g).0))
same_further_table (a_further_table h s) (no_further_table g) = absurd (some_no_none (sym ((one_form _ _ _ _ _ _ refl h g).0)))
same_further_table (a_further_table {how = how} h s) (a_further_table {middle = between} {rest = rest} {table = table} g t) =
    let p = one_form _ _ _ _ _ _ refl h g in
    let q = one_table how _ _ _ _ _ _ p.1 s (subst (λ (f : Form). SpellsTable f between table rest) (sym (some_in p.0)) t) in
    (ap Some q.0, q.1)

one_tables : DerivesOne SpellsTables
one_tables = one_listed (SpellsTable form.Plain) SpellsFurtherTable (one_table form.Plain) (from_one SpellsFurtherTable (λ ts a b x y d f. same_further_table d f))

-- ---- the clauses

same_distinct : {ts a b : List Token} {x y : Bool} → SpellsDistinct ts x a → SpellsDistinct ts y b → (x ≡ y) × (a ≡ b)
same_distinct (no_distinct h) (no_distinct g) = (refl, refl)
same_distinct (no_distinct h) (a_distinct k) = absurd (h k)
same_distinct (a_distinct k) (no_distinct h) = absurd (h k)
same_distinct (a_distinct k) (a_distinct j) = (refl, refl)

same_opening : {ts a b : List Token} {x y : Bool} → SpellsOpening ts x a → SpellsOpening ts y b → (x ≡ y) × (a ≡ b)
same_opening (an_opening k s) (an_opening j t) = same_distinct s t

same_from : {ts a b : List Token} {x y : List RefTree} → SpellsFrom ts x a → SpellsFrom ts y b → (x ≡ y) × (a ≡ b)
same_from (no_from h) (no_from g) = (refl, refl)
same_from (no_from h) (a_from k s) = absurd (h k)
same_from (a_from k s) (no_from h) = absurd (h k)
same_from (a_from k s) (a_from j t) = one_tables _ _ _ _ _ _ refl s t

same_where : {ts a b : List Token} {x y : Option Tree} → SpellsWhere ts x a → SpellsWhere ts y b → (x ≡ y) × (a ≡ b)
same_where (no_where h) (no_where g) = (refl, refl)
same_where (no_where h) (a_where k s) = absurd (h k)
same_where (a_where k s) (no_where h) = absurd (h k)
same_where (a_where k s) (a_where j t) = let p = same_expression _ _ _ _ _ s t in (ap Some p.0, p.1)

same_by : {X : Type 0} {item : Spelling X} {ts a b : List Token} {x y : List X} → DerivesOne item → SpellsBy item ts x a → SpellsBy item ts y b → (x ≡ y) × (a ≡ b)
same_by {item = item} one (a_by k s) (a_by j t) = one_with_commas item one _ _ _ _ _ _ refl s t

same_group : {ts a b : List Token} {x y : List Tree} → SpellsGroup ts x a → SpellsGroup ts y b → (x ≡ y) × (a ≡ b)
same_group (no_group h) (no_group g) = (refl, refl)
same_group (no_group h) (a_group k s) = absurd (h k)
same_group (a_group k s) (no_group h) = absurd (h k)
same_group (a_group k s) (a_group j t) = same_by one_expression s t

same_having : {ts a b : List Token} {x y : Option HavingTree} → SpellsHaving ts x a → SpellsHaving ts y b → (x ≡ y) × (a ≡ b)
same_having (no_having h) (no_having g) = (refl, refl)
same_having (no_having h) (a_having k s) = absurd (h k)
same_having (a_having k s) (no_having h) = absurd (h k)
same_having (a_having {ts = ts} k s) (a_having j t) = let p = same_expression _ _ _ _ _ s t in (ap (λ (e : Tree). Some (record { place = (next ts).span.start; tree = e })) p.0, p.1)

same_direction : {ts a b : List Token} {x y : Bool} → SpellsDirection ts x a → SpellsDirection ts y b → (x ≡ y) × (a ≡ b)
same_direction (no_direction h g) (no_direction i j) = (refl, refl)
same_direction (no_direction h g) (ascending k) = absurd (h k)
same_direction (no_direction h g) (descending k) = absurd (g k)
same_direction (ascending k) (no_direction h g) = absurd (h k)
same_direction (ascending k) (ascending j) = (refl, refl)
same_direction (ascending k) (descending j) = absurd (let p = sym k ∙ j in cc)
same_direction (descending k) (no_direction h g) = absurd (g k)
same_direction (descending k) (ascending j) = absurd (let p = sym k ∙ j in cc)
same_direction (descending k) (descending j) = (refl, refl)

one_direction : DerivesOne SpellsDirection
one_direction = from_one SpellsDirection (λ ts a b x y d f. same_direction d f)

same_term : {ts a b : List Token} {x y : TermTree} → SpellsTerm ts x a → SpellsTerm ts y b → (x ≡ y) × (a ≡ b)
same_term (a_term s d) (a_term t f) =
    let p = same_expression _ _ _ _ _ s t in
    let q = one_direction _ _ _ _ _ _ p.1 d f in
    let e = p.0 in
    let direction = q.0 in
    (rw (e, direction) refl, q.1)

one_term : DerivesOne SpellsTerm
one_term = from_one SpellsTerm (λ ts a b x y d f. same_term d f)

same_order : {ts a b : List Token} {x y : List TermTree} → SpellsOrder ts x a → SpellsOrder ts y b → (x ≡ y) × (a ≡ b)
same_order (no_order h) (no_order g) = (refl, refl)
same_order (no_order h) (an_order k s) = absurd (h k)
same_order (an_order k s) (no_order h) = absurd (h k)
same_order (an_order k s) (an_order j t) = same_by one_term s t

abbrev number_in : Kind → ℤ → ℤ
number_in (kind.Number (Some n)) m = n
number_in other m = m

same_number : {ts a b : List Token} {x y : ℤ} → SpellsNumber ts x a → SpellsNumber ts y b → (x ≡ y) × (a ≡ b)
same_number (a_number {n = n} k) (a_number j) = (ap (λ (x : Kind). number_in x n) (sym k ∙ j), refl)

same_integer : {ts a b : List Token} {x y : ℤ} → SpellsInteger ts x a → SpellsInteger ts y b → (x ≡ y) × (a ≡ b)
same_integer (unsigned h g s) (unsigned i j t) = same_number s t
same_integer (unsigned h g s) (with_plus k t) = absurd (h k)
same_integer (unsigned h g s) (with_minus k t) = absurd (g k)
same_integer (with_plus k s) (unsigned h g t) = absurd (h k)
same_integer (with_plus k s) (with_plus j t) = same_number s t
same_integer (with_plus k s) (with_minus j t) = absurd (let p = sym k ∙ j in cc)
same_integer (with_minus k s) (unsigned h g t) = absurd (g k)
same_integer (with_minus k s) (with_plus j t) = absurd (let p = sym k ∙ j in cc)
same_integer (with_minus k s) (with_minus j t) = let p = same_number s t in (ap minus p.0, p.1)

same_offset : {ts a b : List Token} {x y : Option ℤ} → SpellsOffset ts x a → SpellsOffset ts y b → (x ≡ y) × (a ≡ b)
same_offset (no_offset h) (no_offset g) = (refl, refl)
same_offset (no_offset h) (an_offset k s) = absurd (h k)
same_offset (an_offset k s) (no_offset h) = absurd (h k)
same_offset (an_offset k s) (an_offset j t) = let p = same_integer s t in (ap Some p.0, p.1)

one_offset : DerivesOne SpellsOffset
one_offset = from_one SpellsOffset (λ ts a b x y d f. same_offset d f)

same_limit : {ts a b : List Token} {x y : Option ℤ × Option ℤ} → SpellsLimit ts x a → SpellsLimit ts y b → (x ≡ y) × (a ≡ b)
same_limit (no_limit h) (no_limit g) = (refl, refl)
same_limit (no_limit h) (a_limit k s d) = absurd (h k)
same_limit (a_limit k s d) (no_limit h) = absurd (h k)
same_limit (a_limit k s d) (a_limit j t f) =
    let p = same_integer s t in
    let q = one_offset _ _ _ _ _ _ p.1 d f in
    let n = p.0 in
    let skip = q.0 in
    (rw (n, skip) refl, q.1)

-- ---- the whole

abbrev numbers : SelectTree → Option ℤ × Option ℤ
numbers tree = (tree.limit, tree.skip)

abbrev made : Bool → List ItemTree → List RefTree → Option Tree → List Tree → Option HavingTree → List TermTree → Option ℤ × Option ℤ → SelectTree
made is_distinct items sources filter keys having terms numbers = record { is_distinct = is_distinct; items = items; sources = sources; filter = filter; keys = keys; having = having; terms = terms; limit = numbers.0; skip = numbers.1 }

same_made : {d d' : Bool} {i i' : List ItemTree} {s s' : List RefTree} {f f' : Option Tree} {k k' : List Tree} {h h' : Option HavingTree} {t t' : List TermTree} {n n' : Option ℤ × Option ℤ}
    → d ≡ d' → i ≡ i' → s ≡ s' → f ≡ f' → k ≡ k' → h ≡ h' → t ≡ t' → n ≡ n' → made d i s f k h t n ≡ made d' i' s' f' k' h' t' n'
same_made d i s f k h t n = rw (d, i, s, f, k, h, t, n) refl

same_fields : (a b : SelectTree) → a.is_distinct ≡ b.is_distinct → a.items ≡ b.items → a.sources ≡ b.sources → a.filter ≡ b.filter → a.keys ≡ b.keys → a.having ≡ b.having → a.terms ≡ b.terms → numbers a ≡ numbers b → a ≡ b
same_fields a b d i s f k h t n = same_made d i s f k h t n

same_select : (ts a b : List Token) (x y : SelectTree) → SpellsSelect ts x a → SpellsSelect ts y b → x ≡ y
same_select ts a b x y s t =
    let p1 = same_opening s.opening t.opening in
    let p2 = one_with_commas SpellsItem one_item _ _ _ _ _ _ p1.1 s.items t.items in
    let p3 = same_from s.from (moved SpellsFrom p2.1 t.from) in
    let p4 = same_where s.filter (moved SpellsWhere p3.1 t.filter) in
    let p5 = same_group s.group (moved SpellsGroup p4.1 t.group) in
    let p6 = same_having s.having (moved SpellsHaving p5.1 t.having) in
    let p7 = same_order s.order (moved SpellsOrder p6.1 t.order) in
    let p8 = same_limit s.limit (moved SpellsLimit p7.1 t.limit) in
    same_fields x y p1.0 p2.0 p3.0 p4.0 p5.0 p6.0 p7.0 p8.0

pub one_select : (ts : List Token) (a b : SelectTree) → IsSelect ts a → IsSelect ts b → a ≡ b
one_select ts a b p q = same_select ts p.rest q.rest a b p.spelled q.spelled
