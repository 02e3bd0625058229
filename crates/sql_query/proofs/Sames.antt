-- Lists of resolved expressions are equal where they are equal part by part.
use Rattle.std.proofs.Common.{◌≡◌, ℕ, ◌+◌, ◌-◌, ◌<◌, ◌++◌, List, [], ◌∷◌, length, take, drop, get_or, map, ap, sym, ◌∙◌, refl, arith, length-drop}
use Rattle.std.proofs.lemmas.List.{take_more, take-append-drop}
use Rattle.sql_query.specs.declared.tree.Expr.{Expr}
use Rattle.sql_query.specs.declared.tree.ExprStep.{ExprStep}
use Rattle.sql_query.specs.Exprs.{ExprSteps, no_steps, then, Exprs, no_exprs, and_expr, ExprTree, OneExprStep}
use Rattle.sql_query.specs.View.{expr_of, step_of, steps_of, exprs_of, steps_after, exprs_after}
use Rattle.sql_query.proofs.Pushed.{steps_after-push, exprs_after-push}

exprs_of-append : (before : Exprs) (xs ys : List Expr) → exprs_after before (map expr_of (xs ++ ys)) ≡ exprs_after (exprs_after before (map expr_of xs)) (map expr_of ys)
exprs_of-append before [] ys = refl
exprs_of-append before (x ∷ xs) ys = exprs_of-append (and_expr before (expr_of x)) xs ys

exprs_fronts : {before second : Exprs} {x y : ExprTree} → and_expr before x ≡ and_expr second y → before ≡ second
exprs_fronts same = cc

exprs_lasts : {before second : Exprs} {x y : ExprTree} → and_expr before x ≡ and_expr second y → x ≡ y
exprs_lasts same = cc

-- equal lists of one length have equal fronts
exprs_of_front : (before second : Exprs) (xs ys : List Expr) → length xs ≡ length ys → exprs_after before (map expr_of xs) ≡ exprs_after second (map expr_of ys) → before ≡ second
exprs_of_front before second [] [] e same = same
exprs_of_front before second [] (y ∷ ys) e same = absurd (omega arith)
exprs_of_front before second (x ∷ xs) [] e same = absurd (omega arith)
exprs_of_front before second (x ∷ xs) (y ∷ ys) e same = exprs_fronts (exprs_of_front (and_expr before (expr_of x)) (and_expr second (expr_of y)) xs ys (omega arith) same)

exprs_of_taken : (xs ys : List Expr) (n : ℕ) → length xs ≡ length ys → exprs_of xs ≡ exprs_of ys → exprs_of (take n xs) ≡ exprs_of (take n ys)
exprs_of_taken xs ys n e same =
    let split_xs : exprs_of xs ≡ exprs_after (exprs_of (take n xs)) (map expr_of (drop n xs)) = ap exprs_of (sym (take-append-drop n xs)) ∙ exprs_of-append no_exprs (take n xs) (drop n xs) in
    let split_ys : exprs_of ys ≡ exprs_after (exprs_of (take n ys)) (map expr_of (drop n ys)) = ap exprs_of (sym (take-append-drop n ys)) ∙ exprs_of-append no_exprs (take n ys) (drop n ys) in
    let lengths : length (drop n xs) ≡ length (drop n ys) = length-drop n xs ∙ ap (λ (k : ℕ). k - n) e ∙ sym (length-drop n ys) in
    exprs_of_front (exprs_of (take n xs)) (exprs_of (take n ys)) (drop n xs) (drop n ys) lengths (sym split_xs ∙ same ∙ split_ys)

exprs_of_count : Exprs → ℕ
exprs_of_count no_exprs = 0
exprs_of_count (and_expr before e) = exprs_of_count before + 1

exprs_of_counted : (before : Exprs) (xs : List Expr) → exprs_of_count (exprs_after before (map expr_of xs)) ≡ exprs_of_count before + length xs
unfolding exprs_of_count
exprs_of_counted before [] = omega arith
exprs_of_counted before (x ∷ xs) = let h = exprs_of_counted (and_expr before (expr_of x)) xs in omega arith

pub exprs_of_as_many : (xs ys : List Expr) → exprs_of xs ≡ exprs_of ys → length xs ≡ length ys
unfolding exprs_of_count
exprs_of_as_many xs ys same =
    let left = exprs_of_counted no_exprs xs in
    let right = exprs_of_counted no_exprs ys in
    let many = ap exprs_of_count same in
    omega arith

exprs_of_more : (xs : List Expr) (i : ℕ) (item : Expr) → i < length xs → item ≡ get_or xs i item → exprs_of (take (i + 1) xs) ≡ and_expr (exprs_of (take i xs)) (expr_of item)
exprs_of_more xs i item within is =
    ap exprs_of (take_more xs i item within) ∙ exprs_after-push no_exprs (take i xs) (get_or xs i item) ∙ ap (λ (x : Expr). and_expr (exprs_of (take i xs)) (expr_of x)) (sym is)

pub exprs_of_longer : (xs ys : List Expr) (i : ℕ) (x y : Expr) → i < length xs → i < length ys → x ≡ get_or xs i x → y ≡ get_or ys i y → expr_of x ≡ expr_of y → exprs_of (take i xs) ≡ exprs_of (take i ys) → exprs_of (take (i + 1) xs) ≡ exprs_of (take (i + 1) ys)
exprs_of_longer xs ys i x y in_xs in_ys is_x is_y one before =
    exprs_of_more xs i x in_xs is_x ∙ ap (λ (s : Exprs). and_expr s (expr_of x)) before ∙ ap (and_expr (exprs_of (take i ys))) one ∙ sym (exprs_of_more ys i y in_ys is_y)

pub exprs_of_part : (xs ys : List Expr) (i : ℕ) (x y : Expr) → length xs ≡ length ys → i < length xs → i < length ys → x ≡ get_or xs i x → y ≡ get_or ys i y → exprs_of xs ≡ exprs_of ys → expr_of x ≡ expr_of y
exprs_of_part xs ys i x y e in_xs in_ys is_x is_y same =
    exprs_lasts (sym (exprs_of_more xs i x in_xs is_x) ∙ exprs_of_taken xs ys (i + 1) e same ∙ exprs_of_more ys i y in_ys is_y)

steps_of-append : (before : ExprSteps) (xs ys : List ExprStep) → steps_after before (map step_of (xs ++ ys)) ≡ steps_after (steps_after before (map step_of xs)) (map step_of ys)
steps_of-append before [] ys = refl
steps_of-append before (x ∷ xs) ys = steps_of-append (then before (step_of x)) xs ys

steps_fronts : {before second : ExprSteps} {x y : OneExprStep} → then before x ≡ then second y → before ≡ second
steps_fronts same = cc

steps_lasts : {before second : ExprSteps} {x y : OneExprStep} → then before x ≡ then second y → x ≡ y
steps_lasts same = cc

-- equal lists of one length have equal fronts
steps_of_front : (before second : ExprSteps) (xs ys : List ExprStep) → length xs ≡ length ys → steps_after before (map step_of xs) ≡ steps_after second (map step_of ys) → before ≡ second
steps_of_front before second [] [] e same = same
steps_of_front before second [] (y ∷ ys) e same = absurd (omega arith)
steps_of_front before second (x ∷ xs) [] e same = absurd (omega arith)
steps_of_front before second (x ∷ xs) (y ∷ ys) e same = steps_fronts (steps_of_front (then before (step_of x)) (then second (step_of y)) xs ys (omega arith) same)

steps_of_taken : (xs ys : List ExprStep) (n : ℕ) → length xs ≡ length ys → steps_of xs ≡ steps_of ys → steps_of (take n xs) ≡ steps_of (take n ys)
steps_of_taken xs ys n e same =
    let split_xs : steps_of xs ≡ steps_after (steps_of (take n xs)) (map step_of (drop n xs)) = ap steps_of (sym (take-append-drop n xs)) ∙ steps_of-append no_steps (take n xs) (drop n xs) in
    let split_ys : steps_of ys ≡ steps_after (steps_of (take n ys)) (map step_of (drop n ys)) = ap steps_of (sym (take-append-drop n ys)) ∙ steps_of-append no_steps (take n ys) (drop n ys) in
    let lengths : length (drop n xs) ≡ length (drop n ys) = length-drop n xs ∙ ap (λ (k : ℕ). k - n) e ∙ sym (length-drop n ys) in
    steps_of_front (steps_of (take n xs)) (steps_of (take n ys)) (drop n xs) (drop n ys) lengths (sym split_xs ∙ same ∙ split_ys)

steps_of_count : ExprSteps → ℕ
steps_of_count no_steps = 0
steps_of_count (then before e) = steps_of_count before + 1

steps_of_counted : (before : ExprSteps) (xs : List ExprStep) → steps_of_count (steps_after before (map step_of xs)) ≡ steps_of_count before + length xs
unfolding steps_of_count
steps_of_counted before [] = omega arith
steps_of_counted before (x ∷ xs) = let h = steps_of_counted (then before (step_of x)) xs in omega arith

pub steps_of_as_many : (xs ys : List ExprStep) → steps_of xs ≡ steps_of ys → length xs ≡ length ys
unfolding steps_of_count
steps_of_as_many xs ys same =
    let left = steps_of_counted no_steps xs in
    let right = steps_of_counted no_steps ys in
    let many = ap steps_of_count same in
    omega arith

steps_of_more : (xs : List ExprStep) (i : ℕ) (item : ExprStep) → i < length xs → item ≡ get_or xs i item → steps_of (take (i + 1) xs) ≡ then (steps_of (take i xs)) (step_of item)
steps_of_more xs i item within is =
    ap steps_of (take_more xs i item within) ∙ steps_after-push no_steps (take i xs) (get_or xs i item) ∙ ap (λ (x : ExprStep). then (steps_of (take i xs)) (step_of x)) (sym is)

pub steps_of_longer : (xs ys : List ExprStep) (i : ℕ) (x y : ExprStep) → i < length xs → i < length ys → x ≡ get_or xs i x → y ≡ get_or ys i y → step_of x ≡ step_of y → steps_of (take i xs) ≡ steps_of (take i ys) → steps_of (take (i + 1) xs) ≡ steps_of (take (i + 1) ys)
steps_of_longer xs ys i x y in_xs in_ys is_x is_y one before =
    steps_of_more xs i x in_xs is_x ∙ ap (λ (s : ExprSteps). then s (step_of x)) before ∙ ap (then (steps_of (take i ys))) one ∙ sym (steps_of_more ys i y in_ys is_y)

pub steps_of_part : (xs ys : List ExprStep) (i : ℕ) (x y : ExprStep) → length xs ≡ length ys → i < length xs → i < length ys → x ≡ get_or xs i x → y ≡ get_or ys i y → steps_of xs ≡ steps_of ys → step_of x ≡ step_of y
steps_of_part xs ys i x y e in_xs in_ys is_x is_y same =
    steps_lasts (sym (steps_of_more xs i x in_xs is_x) ∙ steps_of_taken xs ys (i + 1) e same ∙ steps_of_more ys i y in_ys is_y)
