-- Queries of one table: what is tested where it is read.
use Rattle.std.proofs.Common.{◌≡◌, ℕ, ◌+◌, ◌<◌, ◌&&◌, ◌||◌, length, take, arith, refl, sym, ap, ◌∙◌, Bool, IfSome, None, Option, Some, true, false, List, [], ◌∷◌, ◌++◌, filter, map, get_or}
use Rattle.std.proofs.lemmas.List.{take_more, map-append}
use Rattle.std.specs.List.{list_all, list_any}
use Rattle.osq_value.specs.declared.value.Value.{Value}
use Rattle.sql_query.specs.Resolved.{SourceTree, source_of}
use Rattle.sql_query.specs.View.{expr_of}
use Rattle.sql_query.specs.declared.query.QuerySource.{QuerySource}
use Rattle.sql_query.specs.declared.tree.Expr.{Expr}
use Rattle.sql_meaning.specs.Expressions.{alone, holds}
use Rattle.sql_meaning.specs.Joins.{View, product}

-- every row of the only table is a row of FROM
all-rows : (rows : List (List Value)) → filter (λ row. holds (alone row) []) (map (λ right. [] ++ right) rows) ++ [] ≡ rows
all-rows [] = refl
all-rows (row ∷ rows) = ap (λ (rest : List (List Value)). row ∷ rest) (all-rows rows)

pub product-one : (view : View) (source : SourceTree) → source.is_outer ≡ false → source.on ≡ [] → product view (source ∷ []) ≡ view source.table
product-one view source inner none = rw (inner, none) (all-rows (view source.table))

-- one part more
pub parts-more : (parts : List Expr) (at : ℕ) (part : Expr) → at < length parts → part ≡ get_or parts at part → map expr_of (take (at + 1) parts) ≡ map expr_of (take at parts) ++ expr_of part ∷ []
parts-more parts at part within is =
    ap (map expr_of) (take_more parts at part within ∙ ap (λ (p : Expr). take at parts ++ p ∷ []) (sym is)) ∙ map-append expr_of (take at parts) (part ∷ [])

-- the only table of FROM
pub only-one : (view : View) (sources : List QuerySource) (source : QuerySource) → length sources ≡ 1 → source ≡ get_or sources 0 source → source.is_outer ≡ false → source.on.parts ≡ []
    → product view (map source_of sources) ≡ view source.table.0
only-one view [] source one is inner none = absurd (omega (arith, one))
only-one view (first ∷ []) source one is inner none =
    ap (λ (s : QuerySource). product view (source_of s ∷ [])) (sym is) ∙ product-one view (source_of source) inner (ap (map expr_of) none)
only-one view (first ∷ second ∷ rest) source one is inner none = absurd (omega (arith, one))

-- tests that say the same keep the same rows
pub same-filter : (p q : List Value → Bool) → ((row : List Value) → p row ≡ q row) → (rows : List (List Value)) → filter p rows ≡ filter q rows
same-filter p q same rows = ap (λ (test : List Value → Bool). filter test rows) (λ i row. same row i)

and-true : (b : Bool) → (b && true) ≡ b
and-true true = refl
and-true false = refl

or-false : (b : Bool) → (b || false) ≡ b
or-false true = refl
or-false false = refl

-- of a list of one item
pub all-of-one : {X : Type 0} (p : X → Bool) (xs : List X) (x : X) → length xs ≡ 1 → x ≡ get_or xs 0 x → list_all p xs ≡ p x
all-of-one p [] x one is = absurd (omega (arith, one))
all-of-one p (y ∷ []) x one is = and-true (p y) ∙ ap p (sym is)
all-of-one p (y ∷ z ∷ xs) x one is = absurd (omega (arith, one))

pub any-of-one : {X : Type 0} (p : X → Bool) (xs : List X) (x : X) → length xs ≡ 1 → x ≡ get_or xs 0 x → list_any p xs ≡ p x
any-of-one p [] x one is = absurd (omega (arith, one))
any-of-one p (y ∷ []) x one is = or-false (p y) ∙ ap p (sym is)
any-of-one p (y ∷ z ∷ xs) x one is = absurd (omega (arith, one))

pub some-weaker : {X : Type 0} (found : Option X) (P Q : X → Type 0) → ((x : X) → P x → Q x) → IfSome found P → IfSome found Q
some-weaker None P Q h p = p
some-weaker (Some x) P Q h p = h x p
