use Rattle.std.proofs.Common.{◌∙◌, List, append-nil, map, subst, sym, true, false}
use Rattle.std.proofs.lemmas.Result.{on_ok_weaker}
use Rattle.osq_value.specs.declared.value.Value.{Value}
use Rattle.sql_query.specs.Resolved.{order_of}
use Rattle.sql_query.specs.View.{expr_of}
use Rattle.sql_meaning.specs.declared.joined.Joined.{Joined}
use Rattle.sql_groups.specs.Leading.{Leads, kept_pairs}
use Rattle.sql_groups.proofs.Leaders.{kept-more}
use Rattle.sql_groups.proofs.leading.look_at.Goals as goal

pub returns-then-branch : goal.returns-then-branch
returns-then-branch c =
    let terms = map order_of c.args.terms.now in
    let condition = map expr_of c.args.condition.now.parts in
    on_ok_weaker c.take_in.result
    (λ takes rows was.
    subst (λ (pairs : List (List Value × Joined)). Leads c.args.ways.now c.args.count pairs c.take_in.new.leaders)
    (sym (kept-more terms condition rows c.args.row true (sym c.in_ok-is_kept.ensures ∙ c.if-branch.true)))
    (takes (kept_pairs terms condition rows) was))
    c.take_in.ensures

pub returns-else-branch : goal.returns-else-branch
returns-else-branch c = λ rows was.
    let terms = map order_of c.args.terms.now in
    let condition = map expr_of c.args.condition.now.parts in
    subst (λ (pairs : List (List Value × Joined)). Leads c.args.ways.now c.args.count pairs c.args.leaders.now)
    (sym (kept-more terms condition rows c.args.row false (sym c.in_ok-is_kept.ensures ∙ c.if-branch.false) ∙ append-nil (kept_pairs terms condition rows))) was
