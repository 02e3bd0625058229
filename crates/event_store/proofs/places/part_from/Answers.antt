use Rattle.std.proofs.Common.{◌≡◌, ◌<◌, ◌∙◌, ap, sym, subst, length}
use Rattle.std.specs.Prelude.{min}
use Rattle.event_store.proofs.Chains.{IsBehind, IsAhead, least_behind, least_ahead}
use Rattle.event_store.proofs.places.part_from.Goals as goal

pub returns-clause-behind : goal.returns-clause-behind
returns-clause-behind c table lt =
    let xs = c.args.parts.now in
    let first = c.args.first.now in
    let one = c.part_of-one.result in
    let two = c.part_of-two.result in
    let three = c.part_of-three.result in
    let is : c.min-2.result ≡ min (min one two) three = c.min-2.ensures ∙ ap (λ n. min n three) c.min.ensures in
    subst (IsBehind xs first table) (sym is) (least_behind xs first one two three c.part_of-one.ensures.behind c.part_of-two.ensures.behind c.part_of-three.ensures.behind table lt)

pub returns-clause-ahead : goal.returns-clause-ahead
returns-clause-ahead c within =
    let xs = c.args.parts.now in
    let first = c.args.first.now in
    let one = c.part_of-one.result in
    let two = c.part_of-two.result in
    let three = c.part_of-three.result in
    let is : c.min-2.result ≡ min (min one two) three = c.min-2.ensures ∙ ap (λ n. min n three) c.min.ensures in
    let found = least_ahead xs first one two three c.part_of-one.ensures.ahead c.part_of-two.ensures.ahead c.part_of-three.ensures.ahead (subst (λ n. n < length xs) is within) in
    (found.0, found.1, subst (IsAhead xs first found.0) (sym is) found.2)
