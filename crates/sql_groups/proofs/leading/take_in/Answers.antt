use Rattle.std.proofs.Common.{◌∙◌, ◌++◌, ◌∷◌, [], Bool, List, ap, map, subst, sym}
use Rattle.std.proofs.lemmas.Result.{on_ok_weaker}
use Rattle.osq_value.specs.declared.value.Value.{Value}
use Rattle.sql_query.specs.Resolved.{order_of}
use Rattle.sql_meaning.specs.declared.groups.Keyed.{Keyed}
use Rattle.sql_groups.specs.Leading.{IsBehind, all_of, members_of, sorted_row}
use Rattle.sql_groups.proofs.Leaders.{left-leads, pushed-leads}
use Rattle.sql_groups.proofs.leading.take_in.Goals as goal

pub returns-then-branch : goal.returns-then-branch
returns-then-branch c = λ pairs was.
    let row = sorted_row (map order_of c.args.terms.now) c.args.row in
    let told = c.in_ok-is_behind.ensures c.if-branch.true in
    let behind = subst (λ (best : List Keyed). IsBehind c.args.ways.now c.args.count (members_of best) row) c.as_slice.ensures.value
    (subst (λ (ways : List Bool). IsBehind ways c.args.count (members_of c.as_slice.result.now) row) (sym c.requires) told) in
    left-leads c.args.ways.now c.args.count pairs c.args.leaders.now row behind was

pub returns : goal.returns
returns c =
    let terms = map order_of c.args.terms.now in
    let row = sorted_row terms c.args.row in
    let one = ap (λ (key : List Value). (key, c.args.row) ∷ []) c.in_ok-key.ensures in
    on_ok_weaker c.push.result
    (λ adds pairs was.
    pushed-leads c.args.ways.now c.args.count pairs c.make_room.new.leaders c.push.new.leaders row adds.0 (adds.1 ∙ ap (λ more. all_of c.make_room.new.leaders ++ more) one) (c.in_ok-make_room.ensures pairs was))
    c.push.ensures
