use Rattle.std.proofs.Common.{◌≡◌, List, map, ap, ◌∙◌}
use Rattle.sql_tree.specs.declared.tree.Node.{Node}
use Rattle.sql_tree.specs.Select.{select_of}
use Rattle.sql_tree.specs.View.{tree_of}
use Rattle.sql_names.specs.Resolve.{whole_names, shown_in}
use Rattle.sql_names.specs.Making.{key_exprs}
use Rattle.sql_query.specs.Resolved.{query_of}
use Rattle.sql_scope.specs.Shown.{shown_of}
use Rattle.sql_query.specs.View.{expr_of}
use Rattle.sql_names.proofs.Answered.{found_fault, found_query}
use Rattle.sql_names.proofs.resolve.resolve_within.Goals as goal

pub returns-in-Some-clause-fault : goal.returns-in-Some-clause-fault
returns-in-Some-clause-fault c =
    let shown : map shown_of c.as_slice.result.now ≡ shown_in c.args.derived.now c.args.text.now c.args.scope.now (select_of c.args.select.now) = ap (map shown_of) c.as_slice.ensures.value ∙ c.in_ok-shown.ensures in
    let keys = c.in_ok-keys.ensures ∙ ap (λ (k : List Node). key_exprs (whole_names c.args.derived.now c.args.text.now c.args.scope.now (map shown_of c.as_slice.result.now)) (map tree_of k)) c.as_slice-2.ensures in
    let fault = found_fault c.args.derived.now c.args.text.now c.args.scope.now (select_of c.args.select.now) (map shown_of c.as_slice.result.now) (map expr_of c.in_ok-keys.keys) c.deref.result.now c.in_ok-fault.fault shown keys (c.deref.ensures.value ∙ c.in_ok-found.ensures) c.in_ok-fault.ensures in
    λ _. fault ∙ c.in-Some.is

pub returns-clause-sound : goal.returns-clause-sound
returns-clause-sound c =
    let shown : map shown_of c.as_slice.result.now ≡ shown_in c.args.derived.now c.args.text.now c.args.scope.now (select_of c.args.select.now) = ap (map shown_of) c.as_slice.ensures.value ∙ c.in_ok-shown.ensures in
    let keys = c.in_ok-keys.ensures ∙ ap (λ (k : List Node). key_exprs (whole_names c.args.derived.now c.args.text.now c.args.scope.now (map shown_of c.as_slice.result.now)) (map tree_of k)) c.as_slice-2.ensures in
    let fault = found_fault c.args.derived.now c.args.text.now c.args.scope.now (select_of c.args.select.now) (map shown_of c.as_slice.result.now) (map expr_of c.in_ok-keys.keys) c.deref.result.now c.in_ok-fault.fault shown keys (c.deref.ensures.value ∙ c.in_ok-found.ensures) c.in_ok-fault.ensures in
    fault ∙ c.in-None.is

pub returns-clause-ok : goal.returns-clause-ok
returns-clause-ok c =
    let shown : map shown_of c.as_slice.result.now ≡ shown_in c.args.derived.now c.args.text.now c.args.scope.now (select_of c.args.select.now) = ap (map shown_of) c.as_slice.ensures.value ∙ c.in_ok-shown.ensures in
    let keys = c.in_ok-keys.ensures ∙ ap (λ (k : List Node). key_exprs (whole_names c.args.derived.now c.args.text.now c.args.scope.now (map shown_of c.as_slice.result.now)) (map tree_of k)) c.as_slice-2.ensures in
    let fault = found_fault c.args.derived.now c.args.text.now c.args.scope.now (select_of c.args.select.now) (map shown_of c.as_slice.result.now) (map expr_of c.in_ok-keys.keys) c.deref.result.now c.in_ok-fault.fault shown keys (c.deref.ensures.value ∙ c.in_ok-found.ensures) c.in_ok-fault.ensures in
    found_query c.args.derived.now c.args.text.now c.args.scope.now (select_of c.args.select.now) (map shown_of c.in_ok-shown.shown.items) c.deref-in-None.result.now (query_of c.in_ok-query-in-None.query) c.in_ok-shown.ensures (c.deref-in-None.ensures.value ∙ c.in_ok-found.ensures) c.in_ok-query-in-None.ensures (fault ∙ c.in-None.is)
