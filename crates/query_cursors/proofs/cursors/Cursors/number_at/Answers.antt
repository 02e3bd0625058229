use Rattle.std.proofs.Common.{◌≡◌, ◌<◌, true, Option, Some, length, get_or, arith, sym, ap, ◌∙◌}
use Rattle.std.specs.Option.{option_map_or}
use Rattle.std.proofs.lemmas.Bool.Decides.{nat_tests}
use Rattle.std.proofs.lemmas.Option.{slice_get-get_or}
use Rattle.pack_rules.specs.declared.schedule.Scheduled.{Scheduled}
use Rattle.pack_rules.specs.Keys.{same_key}
use Rattle.entry_model.specs.declared.restored.Run.{Run}
use Rattle.entry_model.proofs.Lasts.{same_key_is}
use Rattle.query_cursors.specs.Due.{number_of}
use Rattle.query_cursors.proofs.Placing.{placed_run_is}
use Rattle.query_cursors.proofs.cursors.Cursors.number_at.Goals as goal

pub returns-then-is : goal.returns-then-is
returns-then-is c =
    let v = c.args.self.now in
    let scheduled = c.in-Some.scheduled.now in
    let same : same_key scheduled.key c.args.key.now ≡ true = sym c.is.ensures ∙ c.if-is.true in
    let lookup = c.in-Some.ensures.lookup in
    let within : c.args.at < length c.args.queries.now = grind (arith, nat_tests, lookup) in
    let there : scheduled ≡ get_or c.args.queries.now c.args.at scheduled = grind (arith, lookup) in
    let stands = slice_get-get_or c.args.queries.now c.args.at scheduled within ∙ ap (λ (s : Scheduled). Some s) (sym there) in
    let run = c.placed_run.ensures ∙ placed_run_is v c.args.queries.now c.args.at scheduled c.requires stands in
    c.number_in.ensures ∙ ap (λ (o : Option Run). option_map_or (λ (run : Run). run.number) o 0) run ∙ ap (number_of v.runs) (same_key_is scheduled.key c.args.key.now same)
