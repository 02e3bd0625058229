use Rattle.std.proofs.Common.{◌∙◌, List, append-nil, map, subst, sym, true, false}
use Rattle.osq_value.specs.declared.value.Value.{Value}
use Rattle.sql_query.specs.View.{expr_of}
use Rattle.sql_meaning.specs.Lent.{values_in}
use Rattle.sql_groups.specs.Grouping.{AreKnown, kept_values}
use Rattle.sql_groups.proofs.Gathered.{values-more}
use Rattle.sql_groups.proofs.grouped.add_kept.Goals as goal

pub returns-then-branch-clause-grows : goal.returns-then-branch-clause-grows
returns-then-branch-clause-grows c = λ h items rows was.
    let condition = map expr_of c.args.condition.now.parts in
    subst (λ (kept : List (List Value)). AreKnown items kept c.add_row.new.group)
    (sym (values-more condition rows (values_in c.args.row) true (sym c.in_ok-is_kept.ensures ∙ c.if-branch.true)))
    (c.add_row.ensures.grows h items (kept_values condition rows) was)

pub returns-else-branch-clause-grows : goal.returns-else-branch-clause-grows
returns-else-branch-clause-grows c = λ h items rows was.
    let condition = map expr_of c.args.condition.now.parts in
    subst (λ (kept : List (List Value)). AreKnown items kept c.args.group.now)
    (sym (values-more condition rows (values_in c.args.row) false (sym c.in_ok-is_kept.ensures ∙ c.if-branch.false) ∙ append-nil (kept_values condition rows))) was
