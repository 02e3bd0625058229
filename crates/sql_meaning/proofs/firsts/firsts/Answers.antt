use Rattle.std.proofs.Common.{◌≡◌, ap, sym, ◌∙◌, append-nil, append_assoc, take, map, List, [], ◌∷◌, ◌++◌}
use Rattle.sql_meaning.specs.Worths.{worths}
use Rattle.sql_meaning.specs.declared.worth.Worth.{Worth}
use Rattle.sql_meaning.specs.declared.front.Front.{Front}
use Rattle.sql_meaning.specs.Firsts.{firsts_by}
use Rattle.sql_meaning.proofs.FrontsLaws.{items_of, items-back}
use Rattle.sql_meaning.proofs.firsts.firsts.Goals as goal

pub loop-front-init : goal.loop-front-init
loop-front-init c = ap (λ (rows : List (List Worth)). rows ++ map items_of c.into_iter-front-iterator.result) c.new-firsts.ensures

pub loop-front-preserved : goal.loop-front-preserved
loop-front-preserved c =
    let rest = map items_of c.next.new.self in
    let together : (c.loop-front.firsts ++ c.in-Some.front.items ∷ []) ++ rest ≡ c.loop-front.firsts ++ (c.in-Some.front.items ∷ rest) = append_assoc c.loop-front.firsts (c.in-Some.front.items ∷ []) rest in
    ap (λ (rows : List (List Worth)). rows ++ rest) c.in_ok-push.ensures.ok
    ∙ together
    ∙ ap (λ (fronts : List (Front Worth)). c.loop-front.firsts ++ map items_of fronts) (sym c.in-Some.ensures.steps)
    ∙ c.loop-front.invariant

pub returns : goal.returns
returns c =
    let kept = firsts_by (λ (row : List Worth). take c.args.width (worths row)) c.args.rows in
    sym (append-nil c.loop-front.firsts)
    ∙ ap (λ (fronts : List (Front Worth)). c.loop-front.firsts ++ map items_of fronts) (sym c.in-None.ensures.steps.0)
    ∙ c.loop-front.invariant
    ∙ ap (map items_of) (c.into_iter-front-iterator.ensures.into_iter_gives.0 ∙ c.in_ok-front-items.ensures)
    ∙ items-back c.args.width kept
