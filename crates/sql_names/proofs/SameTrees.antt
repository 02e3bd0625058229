-- What tells whether two expressions are equal is the test of that, and so of keys.
use Rattle.std.proofs.Common.{◌≡◌, refl, sym, ap, ◌∙◌, ℕ, ◌<◌, ◌+◌, Bool, true, Decides, if◌then◌else◌, List, ◌∷◌, length, map, drop, get_or}
use Rattle.std.proofs.Math.Bool.{decide}
use Rattle.std.proofs.lemmas.Bool.Decides.{same_from_decides}
use Rattle.std.proofs.lemmas.List.{drop_more}
use Rattle.sql_query.specs.declared.tree.Expr.{Expr}
use Rattle.sql_query.specs.Exprs.{ExprTree}
use Rattle.sql_query.specs.View.{expr_of}
use Rattle.sql_query.proofs.Decided.{decided}
use Rattle.sql_names.specs.Bare.{is_same, is_key}

told : {P : Type 0} (d : Dec P) → Decides (decide d) P
unfolding decide
told (yes p) = (λ h. p, λ h. refl)
told (no n) = (λ h. absurd (let none : ⊥ = cc in none), λ p. absurd (n p))

pub is_same_from : (a b : ExprTree) (r : Bool) → Decides r (a ≡ b) → r ≡ is_same a b
unfolding is_same
is_same_from a b r d = same_from_decides r (is_same a b) d (told (decided a b))

-- whether an expression is among keys, at the first of them
pub key_then : (keys : List Expr) (at : ℕ) (key : Expr) (e : ExprTree) (r : Bool) → at < length keys → key ≡ get_or keys at key → Decides r (expr_of key ≡ e)
    → is_key (map expr_of (drop at keys)) e ≡ (if r then true else is_key (map expr_of (drop (at + 1) keys)) e)
key_then keys at key e r within is d =
    ap (λ (ks : List Expr). is_key (map expr_of ks) e) (drop_more keys at key within ∙ ap (λ (k : Expr). k ∷ drop (at + 1) keys) (sym is))
    ∙ ap (λ (b : Bool). if b then true else is_key (map expr_of (drop (at + 1) keys)) e) (sym (is_same_from (expr_of key) e r d))
