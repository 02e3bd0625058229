use Rattle.std.proofs.Common.{List, Option, ◌≡◌, ◌∷◌, ◌∙◌, [], IfSome, ap, get_or, length, map, subst, sym, arith}
use Rattle.std.proofs.lemmas.List.{map-append, take_all}
use Rattle.osq_value.specs.declared.value.Value.{Value}
use Rattle.sql_meaning.specs.declared.worth.Worth.{Worth}
use Rattle.sql_meaning.specs.Worths.{worths}
use Rattle.sql_groups.specs.declared.items.GroupItem.{GroupItem}
use Rattle.sql_groups.specs.Folding.{item_over}
use Rattle.sql_groups.specs.Grouping.{AreKnown}
use Rattle.sql_groups.proofs.Zipped.{made-more, zip-long, zip-nth}
use Rattle.sql_groups.proofs.grouped.result_rows.Goals as goal

pub loop-group-preserved : goal.loop-group-preserved
loop-group-preserved c = λ items lists folded.
    let at = c.loop-group.group-index in
    let groups = c.args.groups.now in
    let long : length lists ≡ length groups = zip-long (AreKnown items) lists groups folded in
    let known : AreKnown items (get_or lists at []) c.as_slice.result.now =
    subst (AreKnown items (get_or lists at [])) (sym c.group-item.is ∙ sym c.as_slice.ensures) (zip-nth (AreKnown items) lists groups at [] c.group-item.result folded c.loop-group-test.true) in
    let told = subst (λ (o : Option (List Worth)). IfSome o (λ row. (items : List GroupItem) (rows : List (List Value)) → AreKnown items rows c.as_slice.result.now → worths row ≡ map (λ item. item_over item rows) items)) c.in-Some.is c.in_ok-row.ensures in
    ap (map worths) c.in_ok-push.ensures.ok ∙ map-append worths c.loop-group.rows (c.in-Some.row ∷ [])
    ∙ made-more (λ (rows : List (List Value)). map (λ item. item_over item rows) items) lists at [] (map worths c.loop-group.rows) (worths c.in-Some.row) (c.loop-group.invariant items lists folded)
    (let h = c.loop-group-test.true in omega (arith, h, long)) (told items (get_or lists at []) known)

pub returns : goal.returns
returns c = λ items lists folded.
    let long : length lists ≡ length c.args.groups.now = zip-long (AreKnown items) lists c.args.groups.now folded in
    c.loop-group.invariant items lists folded
    ∙ ap (map (λ (rows : List (List Value)). map (λ item. item_over item rows) items)) (take_all c.loop-group.group-index lists (let h = c.loop-group-test.false in omega (arith, h, long)))
