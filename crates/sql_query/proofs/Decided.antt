-- Of two resolved expressions it can be decided whether they are equal.
use Rattle.std.proofs.Common.{◌≡◌, refl, ap, Bool, true, false, is_eq, Option, Some, None}
use Rattle.std.specs.Cmp.{Equal-is}
use Rattle.std.proofs.Math.Bool.{Bool-discrete}
use Rattle.std.proofs.Math.Decide.{ℕ_discrete}
use denote.Enum.Declared.{Declared}
use denote.Enum.Bare.{Bare, sameb, same_true, same_false}
use Rattle.osq_value.specs.contracts.catalogue.Affinity as affinity
use Rattle.osq_value.specs.declared.catalogue.Affinity.{Affinity}
use Rattle.osq_value.specs.declared.value.Value.{Value}
use Rattle.osq_value.specs.Order.{order_of}
use Rattle.osq_value.proofs.OrderLaws.{equal_of-order, order_of-equal}
use Rattle.sql_tree.specs.contracts.functions.Fold as fold
use Rattle.sql_tree.specs.contracts.functions.Function as function
use Rattle.sql_tree.specs.contracts.tree.Operator as operator
use Rattle.sql_query.specs.Exprs.{ExprTree, ExprTree-discrete}

by_order : (a b : Value) (r : Bool) → is_eq (order_of a b) ≡ r → Dec (a ≡ b)
by_order a b true e = let equal = Equal-is (order_of a b) in yes (equal_of-order a b (equal.0 e))
by_order a b false e = let equal = Equal-is (order_of a b) in no (λ same. let is = equal.1 (order_of-equal a b same) in let none : ⊥ = cc in none)

by_tags : (D : Declared) → Bare D.parts → (a b : D.D) (r : Bool) → sameb D a b ≡ r → Dec (a ≡ b)
by_tags D bare a b true e = yes (same_true D bare a b e)
by_tags D bare a b false e = no (same_false D a b e)

affinities : (a b : Option Affinity) → Dec (a ≡ b)
affinities None None = yes refl
affinities None (Some b) = no (λ e. let none : ⊥ = cc in none)
affinities (Some a) None = no (λ e. let none : ⊥ = cc in none)
affinities (Some a) (Some b) = within (by_tags affinity.the_type tt a b (sameb affinity.the_type a b) refl)
  where
    within : Dec (a ≡ b) → Dec (Some a ≡ Some b)
    within (yes e) = yes (ap Some e)
    within (no different) = no (λ e. different (let same : a ≡ b = cc in same))

pub decided : Discrete ExprTree
decided =
    ExprTree-discrete (λ a b. by_order a b (is_eq (order_of a b)) refl) ℕ_discrete affinities
    (λ a b. by_tags affinity.the_type tt a b (sameb affinity.the_type a b) refl) (λ a b. by_tags function.the_type tt a b (sameb function.the_type a b) refl)
    (λ a b. by_tags fold.the_type tt a b (sameb fold.the_type a b) refl) Bool-discrete (λ a b. by_tags operator.the_type tt a b (sameb operator.the_type a b) refl)
