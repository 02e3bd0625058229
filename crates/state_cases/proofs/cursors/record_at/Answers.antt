use Rattle.std.proofs.Common.{◌≡◌, ℕ, List, Option, Some, sym, ap, ◌∙◌}
use Rattle.std.specs.Prelude.{slice_get}
use Rattle.pack_rules.specs.declared.schedule.QueryKey.{QueryKey}
use Rattle.entry_model.specs.Reserved.{place_of}
use Rattle.entry_model.proofs.Lasts.{same_key_is}
use Rattle.query_cursors.proofs.Placing.{found_place}
use Rattle.state_cases.proofs.cursors.record_at.Goals as goal

-- the cursors know where the query at this place has its run
pub record-requires-clause-place : goal.record-requires-clause-place
record-requires-clause-place c =
    let at = c.in-Ok.place in
    let runs = c.args.cursors.now.runs in
    let scheduled = c.in-Some.scheduled.now in
    let same : scheduled.key ≡ c.args.key.now = same_key_is scheduled.key c.args.key.now (sym c.is.ensures ∙ c.if-is.true) in
    ap (λ (places : List (Option ℕ)). slice_get places at) c.requires.places
    ∙ found_place runs c.args.schedule.now.queries at scheduled (sym c.in-Some.ensures)
    ∙ ap (λ (key : QueryKey). Some (place_of runs key)) same
