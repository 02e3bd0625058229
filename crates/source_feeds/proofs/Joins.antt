-- What the readings of a step tell.
use Rattle.std.proofs.Common.{◌≡◌, ℕ, ◌+◌, ◌<◌, List, [], ◌∷◌, ◌++◌, length, map, refl, sym, ap, subst, ◌∙◌, arith, append_assoc, append-nil, length-append, suc, ◌⊎◌, inl, inr, ◌≤◌, min, take, get_or}
use Rattle.std.proofs.lemmas.List.{map-append, take_more}
use Rattle.std.proofs.lemmas.Grind.{flat_map-append}
use Rattle.osq_value.specs.declared.reading.Category.{Category}
use Rattle.osq_value.specs.declared.reading.Reading.{Reading}
use Rattle.osq_value.specs.declared.reading.Reading.TheVariants as reading
use Rattle.osq_value.specs.declared.value.Event.{Event}
use Rattle.publisher_core.specs.declared.record.Gain.{Gain}
use Rattle.publisher_core.specs.declared.record.Gain.TheVariants as gain
use Rattle.publisher_core.specs.declared.record.ReadRecord.{ReadRecord}
use Rattle.osq_value.specs.declared.source.SourceKind.{SourceKind}
use Rattle.osq_value.specs.declared.source.SourceKind.TheVariants.{Audit, Changes, Tables}
use Rattle.publisher_core.specs.Records.{ended, LinesGive, TableGives}
use Rattle.publisher_core.specs.Readings.{events_of, skipped_of, joined, reading_of, readings_of, skipped_in as skipped_by, events_in as events_by}
use Rattle.publisher_core.specs.Standing.{Gives}
use Rattle.publisher_core.specs.Stepping.{GrowsBy}
use Rattle.publisher_core.proofs.Given.{size_ended}
use Rattle.source_feeds.specs.Joining.{AreReadingsOf, Join, Rise, events_told, skipped_in, skipped_told, taken_of}
use Rattle.source_feeds.specs.Taking.{Takes, TakesFront, front_lines}
use Rattle.source_feeds.proofs.Lasts.{joined_last, last_place}
use Rattle.source_feeds.proofs.Splits.{has_last}

-- the one reading of some records tells what they give
joins_one : (pieces : List ReadRecord) → Join pieces (joined pieces)
joins_one [] = (refl, refl)
joins_one (first ∷ pieces) =
    let last = has_last first pieces in
    subst (λ (ps : List ReadRecord). Join ps (joined ps)) (sym last.2)
    (subst (λ (rs : List Reading). Join (last.0 ++ last.1 ∷ []) rs) (sym (joined_last last.0 last.1))
    (append-nil (events_of (last.0 ++ last.1 ∷ [])), (let sum : skipped_of (last.0 ++ last.1 ∷ []) + 0 ≡ skipped_of (last.0 ++ last.1 ∷ []) = omega arith in sum)))

-- the readings of a step are those of its records
pub reads_own : (kind : SourceKind) (pieces : List ReadRecord) → AreReadingsOf kind pieces (readings_of kind pieces)
reads_own Audit pieces = joins_one pieces
reads_own Changes pieces = joins_one pieces
reads_own Tables pieces = refl

pub events_told-append : (xs ys : List Reading) → events_told (xs ++ ys) ≡ events_told xs ++ events_told ys
events_told-append [] ys = refl
events_told-append (reading.Events taken events skipped ∷ xs) ys = ap (λ (es : List Event). events ++ es) (events_told-append xs ys) ∙ sym (append_assoc events (events_told xs) (events_told ys))
events_told-append (reading.Table taken table rows ∷ xs) ys = events_told-append xs ys

pub skipped_told-append : (xs ys : List Reading) → skipped_told (xs ++ ys) ≡ skipped_told xs + skipped_told ys
skipped_told-append [] ys = omega arith
skipped_told-append (reading ∷ xs) ys = let rest = skipped_told-append xs ys in omega (arith, rest)

pub skipped_of-append : (xs ys : List ReadRecord) → skipped_of (xs ++ ys) ≡ skipped_of xs + skipped_of ys
skipped_of-append [] ys = omega arith
skipped_of-append (piece ∷ xs) ys = let rest = skipped_of-append xs ys in omega (arith, rest)

joins_more : (front back : List ReadRecord) (xs ys : List Reading) → Join front xs → Join back ys → Join (front ++ back) (xs ++ ys)
joins_more front back xs ys first last =
    let skips = skipped_told-append xs ys in
    let lines = skipped_of-append front back in
    let one = first.1 in
    let other = last.1 in (
      events_told-append xs ys ∙ ap (λ (es : List Event). es ++ events_told ys) first.0 ∙ ap (λ (es : List Event). events_of front ++ es) last.0
          ∙ sym (flat_map-append (λ (piece : ReadRecord). events_by piece.gain) front back),
      omega (arith, skips, lines, one, other),
    )

-- readings one after another are those of the records one after another
pub reads_more : (kind : SourceKind) (front back : List ReadRecord) (xs ys : List Reading) → AreReadingsOf kind front xs → AreReadingsOf kind back ys → AreReadingsOf kind (front ++ back) (xs ++ ys)
reads_more Audit front back xs ys first last = joins_more front back xs ys first last
reads_more Changes front back xs ys first last = joins_more front back xs ys first last
reads_more Tables front back xs ys first last =
    ap (λ (rs : List Reading). rs ++ ys) first ∙ ap (λ (rs : List Reading). map reading_of front ++ rs) last ∙ sym (map-append reading_of front back)

tables_skip : (pieces : List ReadRecord) → skipped_told (map reading_of pieces) ≡ skipped_of pieces
tables_skip [] = refl
tables_skip (piece ∷ pieces) = by_gain piece.gain (tables_skip pieces) where
  by_gain : (given : Gain) → skipped_told (map reading_of pieces) ≡ skipped_of pieces → skipped_told (reading_of (record piece { gain = given }) ∷ map reading_of pieces) ≡ skipped_by given + skipped_of pieces
  by_gain (gain.Event event skipped) rest = omega (arith, rest)
  by_gain (gain.Table table rows) rest = omega (arith, rest)

-- a step's readings tell how many lines its records skipped
pub reads_skip : (kind : SourceKind) (pieces : List ReadRecord) → skipped_told (readings_of kind pieces) ≡ skipped_of pieces
reads_skip Audit pieces = (joins_one pieces).1
reads_skip Changes pieces = (joins_one pieces).1
reads_skip Tables pieces = tables_skip pieces

-- a reading of one line of tables ends where the line does
reading_end : (piece : ReadRecord) → taken_of (reading_of piece) ≡ piece.end
reading_end piece = by_gain piece.gain where
  by_gain : (given : Gain) → taken_of (reading_of (record piece { gain = given })) ≡ piece.end
  by_gain (gain.Event event skipped) = refl
  by_gain (gain.Table table rows) = refl

rise_lines : (start : ℕ) (lines : List (List ℕ)) (pieces : List ReadRecord) → LinesGive TableGives start lines pieces → Rise start (map reading_of pieces) (start + length (ended lines))
rise_lines start [] [] gives = omega arith
rise_lines start [] (piece ∷ pieces) gives = absurd gives
rise_lines start (line ∷ lines) [] gives = absurd gives
rise_lines start (line ∷ lines) (piece ∷ pieces) gives =
    let end = reading_end piece ∙ gives.1 in
    let size = size_ended line lines in
    let at : start + length line + 1 + length (ended lines) ≡ start + length (ended (line ∷ lines)) = omega (arith, size) in (
      omega (arith, end),
      subst (λ (n : ℕ). Rise n (map reading_of pieces) (start + length (ended (line ∷ lines)))) (sym end)
          (subst (Rise (start + length line + 1) (map reading_of pieces)) at (rise_lines (start + length line + 1) lines pieces gives.2)),
    )

-- the one reading of some records ends where their lines do
rise_one : (kind : SourceKind) (paths : List Category) (start after : ℕ) (lines : List (List ℕ)) (pieces : List ReadRecord) → Gives kind paths start lines pieces → after ≡ start + length (ended lines) → GrowsBy start after (joined pieces)
    → Rise start (joined pieces) after
rise_one kind paths start after lines [] gives end grown = grown
rise_one kind paths start after lines (first ∷ pieces) gives end grown =
    let last = has_last first pieces in
    let one = ap joined last.2 ∙ joined_last last.0 last.1 in
    let place = last_place kind paths start lines last.0 last.1 (subst (Gives kind paths start lines) last.2 gives) in
    let up : start < after = subst (λ (rs : List Reading). GrowsBy start after rs) one grown in
    subst (λ (rs : List Reading). Rise start rs after) (sym one) (omega (arith, up, place, end), end ∙ sym place)

-- the offsets of a step's readings rise from the offset before it to the one behind it
pub rises : (kind : SourceKind) (paths : List Category) (start after : ℕ) (lines : List (List ℕ)) (pieces : List ReadRecord) → Gives kind paths start lines pieces → after ≡ start + length (ended lines) → GrowsBy start after (readings_of kind pieces)
    → Rise start (readings_of kind pieces) after
rises Audit paths start after lines pieces gives end grown = rise_one Audit paths start after lines pieces gives end grown
rises Changes paths start after lines pieces gives end grown = rise_one Changes paths start after lines pieces gives end grown
rises Tables paths start after lines pieces gives end grown = subst (Rise start (map reading_of pieces)) (sym end) (rise_lines start lines pieces gives)

pub grows_up : {X : Type 0} → (before after : ℕ) (xs : List X) → GrowsBy before after xs → before < after + 1
grows_up before after [] still = omega (arith, still)
grows_up before after (x ∷ xs) up = omega (arith, up)

-- one more reading
pub skipped_next : (readings : List Reading) (at : ℕ) (reading : Reading) → at < length readings → reading ≡ get_or readings at reading → skipped_told (take (at + 1) readings) ≡ skipped_told (take at readings) + skipped_in reading
skipped_next readings at reading within is =
    let one = skipped_told-append (take at readings) (reading ∷ []) in
    ap skipped_told (take_more readings at reading within ∙ ap (λ (r : Reading). take at readings ++ r ∷ []) (sym is)) ∙ omega (arith, one)

-- offsets of readings one after another rise on
pub rise_on : (before between after : ℕ) (xs ys : List Reading) → Rise before xs between → Rise between ys after → Rise before (xs ++ ys) after
rise_on before between after [] ys first last = subst (λ (n : ℕ). Rise n ys after) first last
rise_on before between after (reading ∷ xs) ys first last = (first.0, rise_on (taken_of reading) between after xs ys first.1 last)

table_lines : (start : ℕ) (lines : List (List ℕ)) (pieces : List ReadRecord) → LinesGive TableGives start lines pieces → length pieces ≡ length lines
table_lines start [] [] gives = refl
table_lines start [] (piece ∷ pieces) gives = absurd gives
table_lines start (line ∷ lines) [] gives = absurd gives
table_lines start (line ∷ lines) (piece ∷ pieces) gives = ap suc (table_lines (start + length line + 1) lines pieces gives.2)

pub count_lines : (paths : List Category) (from most to : ℕ) (bytes : List ℕ) (pieces : List ReadRecord) → Takes Tables paths from bytes most pieces to → min most (length (front_lines bytes)) ≤ length pieces
count_lines paths from most to bytes pieces takes = by_all takes.all where
  by_all : (length pieces ≡ most) ⊎ TakesFront Tables from bytes takes.reads.lines → min most (length (front_lines bytes)) ≤ length pieces
  by_all (inl full) = omega (arith, full)
  by_all (inr begins) =
      let lines = table_lines from takes.reads.lines pieces takes.reads.gives in
      let front = ap length begins.1 ∙ length-append (front_lines bytes) begins.0 in
      omega (arith, lines, front)
