-- What is given by a callback for what was found, and back.
use Rattle.std.proofs.Common.{◌≡◌, ◌⊎◌, inl, inr, ℕ, ◌+◌, ◌≤◌, List, [], ◌∷◌, ◌++◌, length, map, refl, sym, ap, subst, ◌∙◌, arith, true, Option, Some, None}
use Rattle.std.specs.List.{AllZip}
use Rattle.std.proofs.lemmas.Grind.{flat_map-append}
use Rattle.std.proofs.lemmas.List.{append-nil}
use Rattle.std.proofs.lemmas.Slice.Zip.{AllZip-long}
use Rattle.osq_value.specs.declared.reading.Category.{Category}
use Rattle.osq_value.specs.declared.source.SourceKind.{SourceKind}
use Rattle.osq_value.specs.declared.source.SourceKind.TheVariants.{Audit, Changes, Tables}
use Rattle.osq_value.specs.declared.value.Event.{Event}
use Rattle.audit_records.specs.declared.line.AuditLine.{AuditLine}
use Rattle.change_records.specs.declared.change.Change.{Change}
use Rattle.publisher_core.specs.declared.gathering.AuditRecord.{AuditRecord}
use Rattle.publisher_core.specs.declared.record.Found.{Found}
use Rattle.publisher_core.specs.declared.record.Found.TheVariants as found
use Rattle.publisher_core.specs.declared.record.Gain.{Gain}
use Rattle.publisher_core.specs.declared.record.Gain.TheVariants as gain
use Rattle.publisher_core.specs.declared.record.Raw.{Raw}
use Rattle.publisher_core.specs.declared.record.ReadRecord.{ReadRecord}
use Rattle.publisher_core.specs.declared.record.Record.{Record}
use Rattle.publisher_core.specs.declared.record.Record.TheVariants as item
use Rattle.publisher_core.specs.Audit.{IsPieceOf, event_in, items_of}
use Rattle.publisher_core.specs.Found.{Finds, IsChangeFound, IsChangeRaw, IsEventOfItem, IsFoundAs, IsGainOf, IsGiven, IsTableFound, LinesAre, item_in, item_of, items_found, raw_of}
use Rattle.publisher_core.specs.Records.{ChangeGives, LinesGive, TableGives}
use Rattle.publisher_core.specs.Standing.{Gives, HasFound, HasPublished, Reader, Waiting, Waits, is_at_end}
use Rattle.publisher_core.specs.Stepping.{IsDrained, IsDry, StepFinds, Steps}
use Rattle.record_lines.specs.Limits.{STEP_BYTES}
use Rattle.publisher_core.proofs.Only.{records_only}
use Rattle.publisher_core.proofs.Standing.{over_drained}

abbrev found_of : AuditRecord → Found
found_of made = found.Record (raw_of made)

abbrev record_with : Gain → ℕ → ReadRecord
record_with given end = record { gain = given; end = end }

abbrev with_event : Option Event → ℕ → ℕ → ReadRecord
with_event event skipped end = record { gain = gain.Event event skipped; end = end }

event_is : (paths : List Category) (group : Option (List AuditLine)) (event : Option Event) → IsEventOfItem paths (item_in group) event → event ≡ event_in group
event_is paths None event is = is
event_is paths (Some group) event is = is

event_of_group : (paths : List Category) (group : Option (List AuditLine)) → IsEventOfItem paths (item_in group) (event_in group)
event_of_group paths None = refl
event_of_group paths (Some group) = refl

-- of a record of an audit log
piece_given : (paths : List Category) (made : AuditRecord) (one : Found) (piece : ReadRecord) → IsFoundAs made one → IsGiven paths one piece → IsPieceOf made piece
piece_given paths made one piece is given =
    let own : IsGainOf paths (raw_of made) piece = subst (λ (f : Found). IsGiven paths f piece) is given in
    own.2 ∙ ap (λ (e : Option Event). with_event e made.skipped made.end) (event_is paths made.group own.0 own.1)

pieces_given : (paths : List Category) (records : List AuditRecord) (many : List Found) (given : List ReadRecord) → AllZip IsFoundAs records many → AllZip (IsGiven paths) many given → AllZip IsPieceOf records given
pieces_given paths [] [] [] are gives = tt
pieces_given paths [] [] (piece ∷ given) are gives = absurd gives
pieces_given paths [] (one ∷ many) given are gives = absurd are
pieces_given paths (made ∷ records) [] given are gives = absurd are
pieces_given paths (made ∷ records) (one ∷ many) [] are gives = absurd gives
pieces_given paths (made ∷ records) (one ∷ many) (piece ∷ given) are gives =
    (piece_given paths made one piece are.0 gives.0, pieces_given paths records many given are.1 gives.1)

founds : (records : List AuditRecord) → AllZip IsFoundAs records (map found_of records)
founds [] = tt
founds (made ∷ records) = (refl, founds records)

founds_give : (paths : List Category) (records : List AuditRecord) (given : List ReadRecord) → AllZip IsPieceOf records given → AllZip (IsGiven paths) (map found_of records) given
founds_give paths [] [] are = tt
founds_give paths [] (piece ∷ given) are = absurd are
founds_give paths (made ∷ records) [] are = absurd are
founds_give paths (made ∷ records) (piece ∷ given) are = ((event_in made.group, event_of_group paths made.group, are.0), founds_give paths records given are.1)

-- of a line of changes
change_given : (paths : List Category) (line : List ℕ) (end : ℕ) (one : Found) (piece : ReadRecord) → IsChangeFound line end one → IsGiven paths one piece → ChangeGives paths line piece.gain × (piece.end ≡ end)
change_given paths line end one piece (raw, is, one_is) given = by_raw is (subst (λ (f : Found). IsGiven paths f piece) one_is given) where
  by_raw : IsChangeRaw line end raw → IsGainOf paths raw piece → ChangeGives paths line piece.gain × (piece.end ≡ end)
  by_raw (inl (change, line_is, raw_is)) own =
      let at : IsGainOf paths (record { item = Some (item.Change change); skipped = 0; end = end }) piece = subst (λ (r : Raw). IsGainOf paths r piece) raw_is own in
      (inl (change, at.0, line_is, at.1, ap (λ (p : ReadRecord). p.gain) at.2), ap (λ (p : ReadRecord). p.end) at.2)
  by_raw (inr (none, raw_is)) own =
      let at : IsGainOf paths (record { item = None; skipped = 1; end = end }) piece = subst (λ (r : Raw). IsGainOf paths r piece) raw_is own in
      (inr (none, ap (λ (p : ReadRecord). p.gain) at.2 ∙ ap (λ (e : Option Event). gain.Event e 1) at.1), ap (λ (p : ReadRecord). p.end) at.2)

table_given : (paths : List Category) (line : List ℕ) (end : ℕ) (one : Found) (piece : ReadRecord) → IsTableFound line end one → IsGiven paths one piece → TableGives line piece.gain × (piece.end ≡ end)
table_given paths line end one piece (own, is, one_is) given =
    let same : piece ≡ record { gain = own; end = end } = subst (λ (f : Found). IsGiven paths f piece) one_is given in
    (subst (λ (g : Gain). TableGives line g) (sym (ap (λ (p : ReadRecord). p.gain) same)) is, ap (λ (p : ReadRecord). p.end) same)

lines_given : (paths : List Category) (Is : List ℕ → ℕ → Found → Type 0) (gives : List ℕ → Gain → Type 0) → ((line : List ℕ) (end : ℕ) (one : Found) (piece : ReadRecord) → Is line end one → IsGiven paths one piece → gives line piece.gain × (piece.end ≡ end))
    → (start : ℕ) (lines : List (List ℕ)) (many : List Found) (given : List ReadRecord) → LinesAre Is start lines many → AllZip (IsGiven paths) many given → LinesGive gives start lines given
lines_given paths Is gives by start [] [] [] are all = tt
lines_given paths Is gives by start [] [] (piece ∷ given) are all = absurd all
lines_given paths Is gives by start [] (one ∷ many) given are all = absurd are
lines_given paths Is gives by start (line ∷ lines) [] given are all = absurd are
lines_given paths Is gives by start (line ∷ lines) (one ∷ many) [] are all = absurd all
lines_given paths Is gives by start (line ∷ lines) (one ∷ many) (piece ∷ given) are all =
    let first = by line (start + length line + 1) one piece are.0 all.0 in
    (first.0, first.1, lines_given paths Is gives by (start + length line + 1) lines many given are.1 all.1)

-- what was found where this was given
record LinesFound (paths : List Category) (Is : List ℕ → ℕ → Found → Type 0) (start : ℕ) (lines : List (List ℕ)) (given : List ReadRecord) : Type 0 where
  many : List Found
  are : LinesAre Is start lines many
  each : AllZip (IsGiven paths) many given

abbrev OneFound : List Category → (List ℕ → ℕ → Found → Type 0) → List ℕ → ReadRecord → Type 0
OneFound paths Is line piece = (one : Found) × Is line piece.end one × IsGiven paths one piece

change_found : (paths : List Category) (line : List ℕ) (piece : ReadRecord) → ChangeGives paths line piece.gain → OneFound paths IsChangeFound line piece
change_found paths line piece (inl (change, event, line_is, event_is, gain_is)) =
    let raw : Raw = record { item = Some (item.Change change); skipped = 0; end = piece.end } in
    (found.Record raw, (raw, inl (change, line_is, refl), refl), (event, event_is, ap (λ (g : Gain). record_with g piece.end) gain_is))
change_found paths line piece (inr (none, gain_is)) =
    let raw : Raw = record { item = None; skipped = 1; end = piece.end } in
    (found.Record raw, (raw, inr (none, refl), refl), (None, refl, ap (λ (g : Gain). record_with g piece.end) gain_is))

table_found : (paths : List Category) (line : List ℕ) (piece : ReadRecord) → TableGives line piece.gain → OneFound paths IsTableFound line piece
table_found paths line piece is = (found.Table piece, (piece.gain, is, refl), refl)

lines_found : (paths : List Category) (Is : List ℕ → ℕ → Found → Type 0) (gives : List ℕ → Gain → Type 0) → ((line : List ℕ) (piece : ReadRecord) → gives line piece.gain → OneFound paths Is line piece)
    → (start : ℕ) (lines : List (List ℕ)) (given : List ReadRecord) → LinesGive gives start lines given → LinesFound paths Is start lines given
lines_found paths Is gives by start [] [] all = record { many = []; are = tt; each = tt }
lines_found paths Is gives by start [] (piece ∷ given) all = absurd all
lines_found paths Is gives by start (line ∷ lines) [] all = absurd all
lines_found paths Is gives by start (line ∷ lines) (piece ∷ given) all =
    let first = by line piece all.0 in
    let rest = lines_found paths Is gives by (start + length line + 1) lines given all.2 in
    record { many = first.0 ∷ rest.many; are = (subst (λ (n : ℕ). Is line n first.0) all.1 first.1, rest.are); each = (first.2, rest.each) }

-- what a callback makes of all that was found is what the publisher has given
pub published : (reader : Reader) (many : List Found) (given : List ReadRecord) (start : ℕ) (stream : List ℕ) → HasFound reader many start stream → AllZip (IsGiven reader.paths) many given → HasPublished reader given start stream
published reader many given start stream s each = record {
  lines = s.lines;
  held = s.held;
  rest = s.rest;
  cut = s.cut;
  plain = s.plain;
  taken = s.taken;
  gives = by_gives reader.kind s.gives;
  waits = by_waits reader.kind s.waits;
  cutter = s.cutter;
  limit = s.limit;
  over = s.over;
}
  where
    by_gives : (kind : SourceKind) → Finds kind start s.lines many → Gives kind reader.paths start s.lines given
    by_gives Audit finds = record { records = finds.records; are = finds.are; each = pieces_given reader.paths finds.records many given finds.each each }
    by_gives Changes finds = lines_given reader.paths IsChangeFound (ChangeGives reader.paths) (change_given reader.paths) start s.lines many given finds each
    by_gives Tables finds = lines_given reader.paths IsTableFound TableGives (table_given reader.paths) start s.lines many given finds each

    by_waits : (kind : SourceKind) → Waiting kind reader many start s.lines s.held → Waits kind reader given start s.lines s.held
    by_waits Audit waits = record { records = waits.records; are = waits.are; each = pieces_given reader.paths waits.records many given waits.each each; gathered = waits.gathered }
    by_waits Changes waits = waits
    by_waits Tables waits = waits

-- a publisher that has given these has found such
pub record AsFound (reader : Reader) (given : List ReadRecord) (start : ℕ) (stream : List ℕ) : Type 0 where
  pub many : List Found
  pub stands : HasFound reader many start stream
  pub each : AllZip (IsGiven reader.paths) many given

pub as_found : (reader : Reader) (given : List ReadRecord) (start : ℕ) (stream : List ℕ) → HasPublished reader given start stream → AsFound reader given start stream
as_found reader given start stream s = by_kind reader.kind s.gives s.waits (λ many finds waits each. record {
  many = many;
  stands = record {
    lines = s.lines;
    held = s.held;
    rest = s.rest;
    cut = s.cut;
    plain = s.plain;
    taken = s.taken;
    gives = finds;
    waits = waits;
    cutter = s.cutter;
    limit = s.limit;
    over = s.over;
  };
  each = each;
})
  where
    by_kind : (kind : SourceKind) → Gives kind reader.paths start s.lines given → Waits kind reader given start s.lines s.held
        → ((many : List Found) → Finds kind start s.lines many → Waiting kind reader many start s.lines s.held → AllZip (IsGiven reader.paths) many given → AsFound reader given start stream)
        → AsFound reader given start stream
    by_kind Audit gives waits next =
        let same : gives.records ≡ waits.records = records_only (items_of start s.lines) gives.records waits.records gives.are waits.are in
        next (map found_of gives.records) (record { records = gives.records; are = gives.are; each = founds gives.records })
        (record { records = waits.records; are = waits.are; each = subst (λ (rs : List AuditRecord). AllZip IsFoundAs rs (map found_of gives.records)) same (founds gives.records); gathered = waits.gathered })
        (founds_give reader.paths gives.records given gives.each)
    by_kind Changes gives waits next =
        let all = lines_found reader.paths IsChangeFound (ChangeGives reader.paths) (change_found reader.paths) start s.lines given gives in
        next all.many all.are waits all.each
    by_kind Tables gives waits next =
        let all = lines_found reader.paths IsTableFound TableGives (table_found reader.paths) start s.lines given gives in
        next all.many all.are waits all.each

pub dry_given : (reader : Reader) (many : List Found) (given : List ReadRecord) (start : ℕ) (stream : List ℕ) → IsDrained reader many start stream → AllZip (IsGiven reader.paths) many given → IsDry reader given start stream
unfolding published
dry_given reader many given start stream d each =
    record { stands = published reader many given start stream d.stands each; none = d.none; dry = d.dry; last = d.last; all = d.all }

-- at the end no line is left
pub over_dry : (reader : Reader) (given : List ReadRecord) (start : ℕ) (stream : List ℕ) → is_at_end reader ≡ true → HasPublished reader given start stream → IsDry reader given start stream
over_dry reader given start stream over s =
    let had = as_found reader given start stream s in
    dry_given reader had.many given start stream (over_drained reader had.many start stream over had.stands) had.each

-- whether a publisher has begun says nothing of what it has read
pub begins : (before after : Reader) (given : List ReadRecord) (start : ℕ) (stream : List ℕ) → after ≡ record before { is_begun = after.is_begun } → HasPublished before given start stream → HasPublished after given start stream
begins before after given start stream is s = subst (λ (r : Reader). HasPublished r given start stream) (sym is) (record {
  lines = s.lines;
  held = s.held;
  rest = s.rest;
  cut = s.cut;
  plain = s.plain;
  taken = s.taken;
  gives = s.gives;
  waits = by_kind before.kind s.waits;
  cutter = s.cutter;
  limit = s.limit;
  over = s.over;
})
  where
    by_kind : (kind : SourceKind) → Waits kind before given start s.lines s.held → Waits kind (record before { is_begun = after.is_begun }) given start s.lines s.held
    by_kind Audit waits = record { records = waits.records; are = waits.are; each = waits.each; gathered = waits.gathered }
    by_kind Changes waits = waits
    by_kind Tables waits = waits

pub zip_append : {A B : Type 0} (R : A → B → Type 0) (xs others : List A) (ys more : List B) → AllZip R xs ys → AllZip R others more → AllZip R (xs ++ others) (ys ++ more)
zip_append R [] others [] more zip last = last
zip_append R [] others (y ∷ ys) more zip last = absurd zip
zip_append R (x ∷ xs) others [] more zip last = absurd zip
zip_append R (x ∷ xs) others (y ∷ ys) more zip last = (zip.0, zip_append R xs others ys more zip.1 last)

-- a step that found these has given what a callback makes of them
pub steps_given : (tells : Type 0) (before after : List ℕ) (reader : Reader) (many : List Found) (given : List ReadRecord) (start : ℕ) (stream : List ℕ) (more : List Found) (pieces : List ReadRecord) (most : ℕ)
    → StepFinds tells before after reader many start stream more most → AllZip (IsGiven reader.paths) many given → AllZip (IsGiven reader.paths) more pieces
    → Steps tells before after reader given start stream pieces most
steps_given tells before after reader many given start stream more pieces most s old new =
    let all = zip_append (IsGiven reader.paths) many more given pieces old new in
    let size = AllZip-long (IsGiven reader.paths) more pieces new in
    let few = s.count in
    record {
      fresh = s.fresh;
      left = s.left;
      stands = published reader (many ++ more) (given ++ pieces) start (stream ++ s.fresh) s.stands all;
      count = omega (arith, size, few);
      full = by_full size all s.full;
    }
  where
    by_full : length pieces ≡ length more → AllZip (IsGiven reader.paths) (many ++ more) (given ++ pieces)
        → (length more ≡ most) ⊎ (IsDrained reader (many ++ more) start (stream ++ s.fresh) × ((reader.is_ended ≡ true) ⊎ (STEP_BYTES ≤ length s.fresh)))
        → (length pieces ≡ most) ⊎ (IsDry reader (given ++ pieces) start (stream ++ s.fresh) × ((reader.is_ended ≡ true) ⊎ (STEP_BYTES ≤ length s.fresh)))
    by_full size all (inl full) = inl (omega (arith, size, full))
    by_full size all (inr (d, why)) = inr (dry_given reader (many ++ more) (given ++ pieces) start (stream ++ s.fresh) d all, why)

-- Of an audit log and of changes records alone are found.
abbrev AreRecords : List Found → Type 0
AreRecords [] = Unit {0}
AreRecords (found.Record raw ∷ many) = AreRecords many
AreRecords (found.Table own ∷ many) = ⊥

one_record : (one : Found) (many : List Found) (raw : Raw) → one ≡ found.Record raw → AreRecords many → AreRecords (one ∷ many)
one_record one many raw is rest = subst (λ (f : Found). AreRecords (f ∷ many)) (sym is) rest

records_alone : (kind : SourceKind) (start : ℕ) (lines : List (List ℕ)) (many : List Found) → (kind ≡ Tables → ⊥) → Finds kind start lines many → AreRecords many
records_alone Audit start lines many other finds = by_zip finds.records many finds.each where
  by_zip : (records : List AuditRecord) (all : List Found) → AllZip IsFoundAs records all → AreRecords all
  by_zip [] [] zip = tt
  by_zip [] (one ∷ all) zip = absurd zip
  by_zip (made ∷ records) [] zip = absurd zip
  by_zip (made ∷ records) (one ∷ all) zip = one_record one all (raw_of made) zip.0 (by_zip records all zip.1)
records_alone Changes start lines many other finds = by_lines start lines many finds where
  by_lines : (at : ℕ) (some : List (List ℕ)) (all : List Found) → LinesAre IsChangeFound at some all → AreRecords all
  by_lines at [] [] are = tt
  by_lines at [] (one ∷ all) are = absurd are
  by_lines at (line ∷ some) [] are = absurd are
  by_lines at (line ∷ some) (one ∷ all) are = one_record one all are.0.0 are.0.2 (by_lines (at + length line + 1) some all are.1)
records_alone Tables start lines many other finds = absurd (other refl)

records_back : (front back : List Found) → AreRecords (front ++ back) → AreRecords back
records_back [] back are = are
records_back (found.Record raw ∷ front) back are = records_back front back are
records_back (found.Table own ∷ front) back are = absurd are

-- no line of tables is found of another source
pub no_table : (reader : Reader) (front : List Found) (own : ReadRecord) (start : ℕ) (stream : List ℕ) → HasFound reader (front ++ found.Table own ∷ []) start stream → (reader.kind ≡ Tables → ⊥) → ⊥
no_table reader front own start stream s other = records_back front (found.Table own ∷ []) (records_alone reader.kind start s.lines (front ++ found.Table own ∷ []) other s.gives)

pub raws_given : (paths : List Category) (raws : List Raw) (pieces : List ReadRecord) → AllZip (IsGainOf paths) raws pieces → AllZip (IsGiven paths) (map found.Record raws) pieces
raws_given paths [] [] zip = tt
raws_given paths [] (piece ∷ pieces) zip = absurd zip
raws_given paths (raw ∷ raws) [] zip = absurd zip
raws_given paths (raw ∷ raws) (piece ∷ pieces) zip = (zip.0, raws_given paths raws pieces zip.1)

pub items_more : (many : List Found) (one : Found) → items_found (many ++ one ∷ []) ≡ items_found many ++ item_of one
items_more many one = flat_map-append item_of many (one ∷ []) ∙ ap (λ (rs : List Record). items_found many ++ rs) (append-nil (item_of one))
