use Rattle.std.proofs.Common.{◌≡◌, ℕ, ◌+◌, ◌*◌, List, length, min, drop, take, sym, ap, ◌∙◌, subst}
use Rattle.std.specs.Prelude.{IfOk}
use Rattle.std.proofs.lemmas.List.{length-map}
use Rattle.osq_value.specs.declared.value.Value.{Value}
use Rattle.session_state.specs.Computed.{schedule_shown}
use Rattle.session_state.proofs.Listing.{chunk_is}
use Rattle.session_state.proofs.listed.part_of.Goals as goal

pub returns : goal.returns
returns c =
    let part = c.args.part in
    let shown = schedule_shown c.args.cursors.now.runs c.args.queries.now in
    let long : length shown ≡ length c.args.queries.now = length-map c.args.queries.now _ in
    let to : c.min-to.result ≡ min (length shown) (part * 64 + 64) = c.min-to.ensures ∙ ap (λ (n : ℕ). min n (part * 64 + 64)) (sym long) in
    let rows = c.in_ok-rows_between.ensures ∙ ap (λ (to : ℕ). drop (part * 64) (take to shown)) to ∙ chunk_is shown part in
    subst (λ (rows : List (List Value)). IfOk c.of.result (λ shared. shared ≡ rows)) rows c.of.ensures
