use Rattle.std.proofs.Common.{IfSome, List, Option, ◌≡◌, ◌∷◌, ◌∙◌, [], ap, get_or, length, map, subst, sym, arith}
use Rattle.std.proofs.lemmas.List.{map-append, take_all}
use Rattle.osq_value.specs.declared.value.Value.{Value}
use Rattle.sql_meaning.specs.declared.worth.Worth.{Worth}
use Rattle.sql_meaning.specs.Worths.{worth_of, worths}
use Rattle.sql_groups.specs.declared.items.GroupItem.{GroupItem}
use Rattle.sql_groups.specs.declared.items.GroupItem.TheVariants as item
use Rattle.sql_groups.specs.Folding.{HasFolded, item_over}
use Rattle.sql_groups.proofs.Zipped.{made-more, zip-long, zip-nth}
use Rattle.sql_groups.proofs.grouped.result_row.Goals as goal

pub loop-so_far-preserved : goal.loop-so_far-preserved
loop-so_far-preserved c = λ items rows known.
    let at = c.loop-so_far.so_far-index in
    let group = c.args.group.now in
    let long : length items ≡ length group = zip-long (HasFolded rows) items group known in
    let told = subst (λ (o : Option Worth). IfSome o (λ worth. (item : GroupItem) (rows : List (List Value)) → HasFolded rows item c.so_far-item.result → worth_of worth ≡ item_over item rows)) c.in-Some.is c.in_ok-worth.ensures in
    let stands : HasFolded rows (get_or items at item.Rows) c.so_far-item.result =
    subst (HasFolded rows (get_or items at item.Rows)) (sym c.so_far-item.is) (zip-nth (HasFolded rows) items group at item.Rows c.so_far-item.result known c.loop-so_far-test.true) in
    ap worths c.in_ok-push.ensures.ok ∙ map-append worth_of c.loop-so_far.row (c.in-Some.worth ∷ [])
    ∙ made-more (λ (item : GroupItem). item_over item rows) items at item.Rows (worths c.loop-so_far.row) (worth_of c.in-Some.worth) (c.loop-so_far.invariant items rows known)
    (let h = c.loop-so_far-test.true in omega (arith, h, long)) (told (get_or items at item.Rows) rows stands)

pub returns : goal.returns
returns c = λ items rows known.
    let long : length items ≡ length c.args.group.now = zip-long (HasFolded rows) items c.args.group.now known in
    c.loop-so_far.invariant items rows known
    ∙ ap (map (λ (item : GroupItem). item_over item rows)) (take_all c.loop-so_far.so_far-index items (let h = c.loop-so_far-test.false in omega (arith, h, long)))
