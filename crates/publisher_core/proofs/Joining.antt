-- What records join to, with one more.
use Rattle.std.proofs.Common.{◌≡◌, ◌+◌, List, [], ◌∷◌, ◌++◌, ap, ◌∙◌, arith}
use Rattle.std.proofs.lemmas.List.{append-nil}
use Rattle.std.proofs.lemmas.Grind.{flat_map-append}
use Rattle.publisher_core.specs.declared.record.ReadRecord.{ReadRecord}
use Rattle.osq_value.specs.declared.value.Event.{Event}
use Rattle.publisher_core.specs.Readings.{events_in, skipped_in, events_of, skipped_of}

pub events_more : (pieces : List ReadRecord) (piece : ReadRecord) → events_of (pieces ++ piece ∷ []) ≡ events_of pieces ++ events_in piece.gain
events_more pieces piece = flat_map-append (λ (p : ReadRecord). events_in p.gain) pieces (piece ∷ []) ∙ ap (λ (es : List Event). events_of pieces ++ es) (append-nil (events_in piece.gain))

pub skipped_more : (pieces : List ReadRecord) (piece : ReadRecord) → skipped_of (pieces ++ piece ∷ []) ≡ skipped_of pieces + skipped_in piece.gain
skipped_more [] piece = omega arith
skipped_more (first ∷ pieces) piece = let rest = skipped_more pieces piece in omega (arith, rest)
