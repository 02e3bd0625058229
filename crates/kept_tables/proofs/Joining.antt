-- The values of parts, one part behind another.
use Rattle.std.proofs.Common.{◌≡◌, ℕ, List, [], ◌∷◌, ◌++◌, map, append_assoc, sym, ap, ◌∙◌, cond}
use Rattle.std.specs.Prelude.{filter, flat_map, nat_lt, slice_index}
use Rattle.std.proofs.lemmas.List.{append-nil, map-append}
use Rattle.std.proofs.lemmas.Grind.{flat_map-append}
use Rattle.std.proofs.lemmas.List.Elements.{filter-append}
use Rattle.osq_value.specs.declared.value.TableId.{TableId}
use Rattle.osq_value.specs.declared.value.Value.{Value}
use Rattle.entry_model.specs.declared.restored.Live.{Live}
use Rattle.entry_model.specs.Values.{is_above}
use Rattle.kept_tables.specs.declared.live.LivePart.{LivePart}
use Rattle.kept_tables.specs.Loads.{above, event_of, events_in, events_of}

-- one more part of live events
pub events_in-more : (floors : List ℕ) (parts : List LivePart) (part : LivePart) → events_in floors (parts ++ part ∷ []) ≡ events_in floors parts ++ filter (is_above (slice_index floors)) (events_of part)
events_in-more floors parts part =
    ap (filter (is_above (slice_index floors))) (flat_map-append events_of parts (part ∷ []))
    ∙ filter-append (is_above (slice_index floors)) (flat_map events_of parts) (flat_map events_of (part ∷ []))
    ∙ ap (λ es. filter (is_above (slice_index floors)) (flat_map events_of parts) ++ filter (is_above (slice_index floors)) es) (append-nil (events_of part))

-- one more event of a part
pub live-more : (floors : List ℕ) (table : TableId) (moment floor : ℕ) (old live new : List Live) (pairs : List (ℕ × List Value)) (pair : ℕ × List Value)
    → floor ≡ slice_index floors table.0
    → live ≡ old ++ filter (is_above (slice_index floors)) (map (event_of table moment) pairs)
    → new ≡ live ++ above floor (event_of table moment pair)
    → new ≡ old ++ filter (is_above (slice_index floors)) (map (event_of table moment) (pairs ++ pair ∷ []))
live-more floors table moment floor old live new pairs pair same before after =
    let kept = filter (is_above (slice_index floors)) in
    let event = event_of table moment in
    let one : above floor (event pair) ≡ kept (event pair ∷ []) = ap (λ n. cond (nat_lt n pair.0) (event pair ∷ []) []) same in
    let all : kept (map event (pairs ++ pair ∷ [])) ≡ kept (map event pairs) ++ kept (event pair ∷ []) =
    ap kept (map-append event pairs (pair ∷ [])) ∙ filter-append (is_above (slice_index floors)) (map event pairs) (event pair ∷ []) in
    after ∙ ap (λ (es : List Live). es ++ above floor (event pair)) before ∙ ap (λ (es : List Live). (old ++ kept (map event pairs)) ++ es) one
    ∙ append_assoc old (kept (map event pairs)) (kept (event pair ∷ [])) ∙ ap (λ (es : List Live). old ++ es) (sym all)
