use Rattle.std.proofs.Common.{◌≡◌, ℕ, Bool, true, false, List, length, set, Option, Some, None, sym, ap, ◌∙◌}
use Rattle.std.specs.Prelude.{slice_get, if◌then◌else◌}
use Rattle.entry_model.specs.Reserved.{has_run, place_of}
use Rattle.query_cursors.specs.Places.{Indexed}
use Rattle.query_cursors.proofs.Knowing.{missing}
use Rattle.query_cursors.proofs.Seeking.{get_or_is}
use Rattle.query_cursors.proofs.Noting.{run_there, no_run_there}
use Rattle.query_cursors.proofs.cursors.Cursors.record_commit.Goals as goal

pub returns-then-is_some-clause-places : goal.returns-then-is_some-clause-places
returns-then-is_some-clause-places c =
    let v = c.args.self.now in
    let at = c.args.at in
    let places : c.self.inside.places.items ≡ v.places = ap (λ (i : Indexed). i.places) c.self.view_is in
    let there : slice_get c.self.inside.places.items at ≡ Some (place_of v.runs c.args.key) = ap (λ (ps : List (Option ℕ)). slice_get ps at) places ∙ c.requires.place in
    let place : c.index.result.now ≡ place_of v.runs c.args.key = c.index.ensures ∙ get_or_is c.self.inside.places.items at (place_of v.runs c.args.key) c.index.result.now there in
    let some : has_run v.runs c.args.key ≡ true = run_there v.runs c.args.key c.index.result.now (sym place) (sym c.is_some.ensures ∙ c.if-is_some.true) in
    places ∙ sym (ap (λ (b : Bool). if b then v.places else set v.places at (Some (length v.runs))) some)

pub returns-clause-places : goal.returns-clause-places
returns-clause-places c =
    let v = c.args.self.now in
    let at = c.args.at in
    let places : c.self.inside.places.items ≡ v.places = ap (λ (i : Indexed). i.places) c.self.view_is in
    let runs : c.as_slice-count.result.now ≡ v.runs = c.as_slice-count.ensures ∙ ap (λ (i : Indexed). i.runs) c.self.view_is in
    let there : slice_get c.self.inside.places.items at ≡ Some (place_of v.runs c.args.key) = ap (λ (ps : List (Option ℕ)). slice_get ps at) places ∙ c.requires.place in
    let place : c.index.result.now ≡ place_of v.runs c.args.key = c.index.ensures ∙ get_or_is c.self.inside.places.items at (place_of v.runs c.args.key) c.index.result.now there in
    let none : has_run v.runs c.args.key ≡ false = no_run_there v.runs c.args.key (sym place ∙ missing c.index.result.now (sym c.is_some.ensures ∙ c.if-is_some.false)) in
    (λ i. set (places i) at (Some (length (runs i)))) ∙ sym (ap (λ (b : Bool). if b then v.places else set v.places at (Some (length v.runs))) none)
