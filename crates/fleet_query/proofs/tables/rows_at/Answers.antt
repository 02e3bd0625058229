use Rattle.std.proofs.Common.{◌≡◌, ◌-◌, ◌<◌, ◌≤◌, ◌∙◌, get_or, length, refl, arith}
use Rattle.std.proofs.lemmas.Bool.Decides.{nat_tests}
use Rattle.std.proofs.lemmas.Option.{slice_get_read}
use Rattle.std.proofs.lemmas.Result.{IfOk-weaker}
use Rattle.fleet_query.proofs.LastsShown.{at_last}
use Rattle.fleet_query.proofs.tables.rows_at.Goals as goal

pub returns-in-Some : goal.returns-in-Some
returns-in-Some c =
    let past : 2 ≤ c.args.place = omega arith in
    let lookup = c.in-Some.ensures.lookup in
    let lasts = c.args.lasts.now in
    let last = c.in-Some.last.now in
    let within : c.args.place - 2 < length lasts = grind (arith, nat_tests, lookup) in
    let there : last ≡ get_or lasts (c.args.place - 2) last = grind (arith, lookup) in
    let found = slice_get_read lasts (length lasts) (c.args.place - 2) last refl within there in
    IfOk-weaker c.query_rows.result _ _
    (λ rows is. is ∙ at_last c.args.frames.now lasts c.args.place last c.requires past found)
    c.query_rows.ensures
