use Rattle.std.proofs.Common.{ℕ, ◌<◌, ◌≤◌, List, [], ◌∷◌, ◌++◌, length, get_or, map, take, sym, subst, ap, ap₂, ◌∙◌, add-one}
use Rattle.osq_value.specs.declared.value.Value.{Value}
use Rattle.kept_tables.proofs.Answering.{passed_on, refused}
use Rattle.kept_tables.proofs.Places.{placed, take_past}
use Rattle.kept_tables.proofs.shown.all_of.Goals as goal

pub returns-in_err-of_row : goal.returns-in_err-of_row
returns-in_err-of_row g c = λ values held found.
    let is = c.as_slice-row-items.ensures ∙ found in
    let i = c.loop-row.row-index in
    let within : i < length (map g.T.Shown.shown values) = subst (λ (xs : List (List Value)). i < length xs) is c.loop-row-test.true in
    let at = placed g.T.Shown.shown g.T.Shown.is_held values i within held in
    let row = c.row-item.is ∙ ap (λ (xs : List (List Value)). get_or xs i c.row-item.result) is ∙ at.is c.row-item.result in
    passed_on values c.in_err-of_row.field-0.0 c.from_residual.result c.from_residual.ensures.1
    (refused at.value values c.in_err-of_row.field-0.0 (c.in_err-of_row.ensures at.value at.held row))

pub loop-row-preserved : goal.loop-row-preserved
loop-row-preserved g c = λ values held is.
    let i = c.loop-row.row-index in
    let within : i < length (map g.T.Shown.shown values) = subst (λ (xs : List (List Value)). i < length xs) is c.loop-row-test.true in
    let at = placed g.T.Shown.shown g.T.Shown.is_held values i within held in
    let row = c.row-item.is ∙ ap (λ (xs : List (List Value)). get_or xs i c.row-item.result) is ∙ at.is c.row-item.result in
    let same = c.in_ok-of_row.ensures at.value at.held row in
    c.in_ok-push.ensures.ok ∙ ap₂ (λ (xs : List g.row.T.Denot) (x : g.row.T.Denot). xs ++ x ∷ []) (c.loop-row.invariant values held is) same
    ∙ sym at.more ∙ ap (λ (k : ℕ). take k values) (sym (add-one i))

pub returns : goal.returns
returns g c = λ values held found.
    let is = c.as_slice-row-items.ensures ∙ found in
    let i = c.loop-row.row-index in
    let past : length (map g.T.Shown.shown values) ≤ i = subst (λ (xs : List (List Value)). length xs ≤ i) is c.loop-row-test.false in
    c.loop-row.invariant values held is ∙ take_past g.T.Shown.shown values i past
