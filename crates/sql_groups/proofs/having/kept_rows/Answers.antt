use Rattle.std.proofs.Common.{List, Option, ◌≡◌, ◌∷◌, ◌++◌, ◌∙◌, [], IfSome, ap, ap₂, drop, filter, get_or, length, map, subst, sym, take, arith}
use Rattle.std.proofs.lemmas.List.{take_all}
use Rattle.osq_value.specs.declared.value.Value.{Value}
use Rattle.sql_meaning.specs.declared.worth.Worth.{Worth}
use Rattle.sql_meaning.specs.Worths.{worths}
use Rattle.sql_groups.specs.declared.items.GroupItem.{GroupItem}
use Rattle.sql_groups.specs.Grouping.{AreKnown}
use Rattle.sql_groups.specs.Having.{over_all, tests_hold}
use Rattle.sql_groups.proofs.Keeping.{kept-more}
use Rattle.sql_groups.proofs.Zipped.{zip-long, zip-nth}
use Rattle.sql_groups.proofs.having.kept_rows.Goals as goal

pub loop-group-preserved : goal.loop-group-preserved
loop-group-preserved c = λ items lists folded.
    let at = c.loop-group.group-index in
    let groups = c.args.groups.now in
    let n = c.args.count in
    let p = λ (values : List Value). tests_hold c.args.tests.now (drop n values) in
    let long : length lists ≡ length groups = zip-long (AreKnown items) lists groups folded in
    let known : AreKnown items (get_or lists at []) c.as_slice.result.now =
    subst (AreKnown items (get_or lists at [])) (sym c.group-item.is ∙ sym c.as_slice.ensures) (zip-nth (AreKnown items) lists groups at [] c.group-item.result folded c.loop-group-test.true) in
    let told = subst (λ (o : Option (List Worth)). IfSome o (λ row. (items : List GroupItem) (rows : List (List Value)) → AreKnown items rows c.as_slice.result.now → worths row ≡ over_all items rows)) c.in-Some.is c.in_ok-row.ensures in
    c.in_ok-push_tested.ensures
    ∙ ap₂ (λ (before : List (List Value)) (row : List Value). before ++ map (take n) (filter p (row ∷ []))) (c.loop-group.invariant items lists folded) (told items (get_or lists at []) known)
    ∙ sym (kept-more (over_all items) p (take n) lists at [] (let h = c.loop-group-test.true in omega (arith, h, long)))

pub returns : goal.returns
returns c = λ items lists folded.
    let n = c.args.count in
    let p = λ (values : List Value). tests_hold c.args.tests.now (drop n values) in
    let long : length lists ≡ length c.args.groups.now = zip-long (AreKnown items) lists c.args.groups.now folded in
    c.loop-group.invariant items lists folded
    ∙ ap (λ (some : List (List (List Value))). map (take n) (filter p (map (over_all items) some))) (take_all c.loop-group.group-index lists (let h = c.loop-group-test.false in omega (arith, h, long)))
