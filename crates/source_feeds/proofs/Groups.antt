-- The last group of the lines of a step.
use Rattle.std.proofs.Common.{◌≡◌, ◌⊎◌, inl, inr, ℕ, ◌+◌, Bool, true, false, List, [], ◌∷◌, ◌++◌, length, take, map, flat_map, is_some, IsTrue, Option, Some, None, refl, sym, ap, subst, ◌∙◌, arith, append_assoc}
use Rattle.std.proofs.lemmas.List.{append_cancel_left}
use Rattle.std.proofs.lemmas.Bool.{true≢false}
use Rattle.std.proofs.lemmas.Grind.{flat_map-append}
use Rattle.std.proofs.Math.Seq.{take-append_seam}
use Rattle.audit_records.specs.declared.line.AuditLine.{AuditLine}
use Rattle.audit_records.specs.Groups.{groups_of, whole}
use Rattle.audit_records.specs.Runs.{AreWholeRuns, BeginsAnew, IsRun}
use Rattle.audit_records.proofs.Runs.{groups_of-runs}
use Rattle.publisher_core.specs.declared.gathering.AuditRecord.{AuditRecord}
use Rattle.publisher_core.specs.declared.record.ReadRecord.{ReadRecord}
use Rattle.osq_value.specs.declared.source.SourceKind.TheVariants.{Audit}
use Rattle.publisher_core.specs.Audit.{items_of}
use Rattle.publisher_core.specs.AuditParts.{Item, AreRecordsOf, BeginsWithLine, lines_in}
use Rattle.publisher_core.specs.Gathered as gathered
use Rattle.publisher_core.specs.Gathered.{IsBody, skipped_line}
use Rattle.publisher_core.specs.Records.{ended}
use Rattle.publisher_core.specs.Standing.{AuditWaits, HasGathered, Reader}
use Rattle.publisher_core.specs.Stepping.{HoldsLast}
use Rattle.publisher_core.proofs.Given.{as_many, items_of-append, length-items}
use Rattle.publisher_core.proofs.Only.{groups_are, groups_of_log}
use Rattle.publisher_core.proofs.Parts.{lines_in-append, whole_back}
use Rattle.source_feeds.proofs.Splits.{AuditBehind}

-- a front of a run is one
run_front : (begun front back : List AuditLine) → IsRun begun (front ++ back) → IsRun begun front
run_front begun [] back run = tt
run_front begun (line ∷ front) back run = (run.0, run_front (begun ++ line ∷ []) front back run.1)

anew_same : (before : List AuditLine) (groups : List (List AuditLine)) (first : AuditLine) (front back : List AuditLine) → BeginsAnew before (groups ++ (first ∷ front ++ back) ∷ []) → BeginsAnew before (groups ++ (first ∷ front) ∷ [])
anew_same before [] first front back anew = anew
anew_same before ([] ∷ groups) first front back anew = anew
anew_same before ((line ∷ lines) ∷ groups) first front back anew = anew

-- the last of some groups may be cut short
last_short : (groups : List (List AuditLine)) (first : AuditLine) (front back : List AuditLine) → AreWholeRuns (groups ++ (first ∷ front ++ back) ∷ []) → AreWholeRuns (groups ++ (first ∷ front) ∷ [])
last_short [] first front back runs = (omega arith, (run_front [] (first ∷ front) back runs.1.0, (tt, tt)))
last_short (group ∷ groups) first front back runs = (runs.0, (runs.1.0, (anew_same group groups first front back runs.1.1.0, last_short groups first front back runs.1.1.1)))

-- the lines of a log that begins with a line of the grammar
record FirstLine (items : List Item) : Type 0 where
  first : AuditLine
  lines : List AuditLine
  is : lines_in items ≡ first ∷ lines

first_line : (items : List Item) → BeginsWithLine items → FirstLine items
first_line [] begins = absurd begins
first_line (item ∷ items) begins = by_line item.line begins where
  by_line : (line : Option AuditLine) → IsTrue (is_some line) → FirstLine (record { line = line; end = item.end } ∷ items)
  by_line (Some line) some = record { first = line; lines = lines_in items; is = refl }
  by_line None none = absurd (true≢false (sym none))

groups_joined : (lines : List AuditLine) → flat_map (λ group. group) (groups_of lines) ≡ lines
groups_joined lines = (groups_of-runs lines).joined

-- The groups behind an offset, of whose lines the last ones are held: those of the front, and the held lines up to any place.
pub short_groups : (from : ℕ) (taken front behind : List (List ℕ)) (before : List (List AuditLine)) (all : List AuditLine)
    → groups_of all ≡ before ++ (groups_of (lines_in (items_of from taken)) ++ whole (lines_in (items_of (from + length (ended taken)) (front ++ behind))))
    → BeginsWithLine (items_of (from + length (ended taken)) front)
    → groups_of (lines_in (items_of from (taken ++ front))) ≡ groups_of (lines_in (items_of from taken)) ++ lines_in (items_of (from + length (ended taken)) front) ∷ []
short_groups from taken front behind before all groups begins =
    let at = from + length (ended taken) in
    let some = first_line (items_of at front) begins in
    let held : lines_in (items_of at (front ++ behind)) ≡ some.first ∷ some.lines ++ lines_in (items_of (at + length (ended front)) behind) =
    ap lines_in (items_of-append at front behind) ∙ lines_in-append (items_of at front) (items_of (at + length (ended front)) behind)
    ∙ ap (λ (ls : List AuditLine). ls ++ lines_in (items_of (at + length (ended front)) behind)) some.is in
    let own = groups_of (lines_in (items_of from taken)) in
    let runs = subst AreWholeRuns (groups ∙ ap (λ (ls : List AuditLine). before ++ (own ++ whole ls)) held) (groups_of-runs all).runs in
    let short = last_short own some.first some.lines (lines_in (items_of (at + length (ended front)) behind))
    (whole_back before (own ++ (some.first ∷ some.lines ++ lines_in (items_of (at + length (ended front)) behind)) ∷ []) runs) in
    let joined : flat_map (λ group. group) (own ++ (some.first ∷ some.lines) ∷ []) ≡ lines_in (items_of from (taken ++ front)) =
    flat_map-append (λ (group : List AuditLine). group) own ((some.first ∷ some.lines) ∷ [])
    ∙ ap (λ (ls : List AuditLine). ls ++ flat_map (λ group. group) ((some.first ∷ some.lines) ∷ [])) (groups_joined (lines_in (items_of from taken)))
    ∙ ap (λ (ls : List AuditLine). lines_in (items_of from taken) ++ ls) (one_group (some.first ∷ some.lines) ∙ sym some.is)
    ∙ sym (lines_in-append (items_of from taken) (items_of at front))
    ∙ ap lines_in (sym (items_of-append from taken front)) in
    sym (groups_are (lines_in (items_of from (taken ++ front))) (own ++ (some.first ∷ some.lines) ∷ []) (record { joined = joined; runs = short }))
    ∙ ap (λ (ls : List AuditLine). own ++ ls ∷ []) (sym some.is)
  where
    one_group : (group : List AuditLine) → flat_map (λ (ls : List AuditLine). ls) (group ∷ []) ≡ group
    one_group group = append_nil_is group where
      append_nil_is : (ls : List AuditLine) → ls ++ [] ≡ ls
      append_nil_is [] = refl
      append_nil_is (l ∷ ls) = ap (λ (more : List AuditLine). l ∷ more) (append_nil_is ls)

-- the groups of all lines, where the last ones are held
pub held_groups : (start : ℕ) (lines more held : List (List ℕ)) (pieces : List ReadRecord) → (split : AuditBehind start lines more pieces) → HoldsLast Audit start (lines ++ more) held
    → groups_of (lines_in (items_of start ((lines ++ more) ++ held)))
    ≡ split.before ++ (groups_of (lines_in (items_of (start + length (ended lines)) more)) ++ whole (lines_in (items_of (start + length (ended (lines ++ more))) held)))
held_groups start lines more held pieces split last =
    let own = groups_of (lines_in (items_of (start + length (ended lines)) more)) in
    let tail = whole (lines_in (items_of (start + length (ended (lines ++ more))) held)) in
    last.2
    ∙ ap (λ (gs : List (List AuditLine)). gs ++ tail) (groups_of_log (items_of start (lines ++ more)) last.0 last.1 ∙ split.groups)
    ∙ append_assoc split.before own tail

-- lines are held only from a first one of the grammar on
pub held_begins : (reader : Reader) (given : List ReadRecord) (start : ℕ) (lines held : List (List ℕ)) → AuditWaits reader given start lines held → reader.ready ≡ [] → reader.is_ended ≡ false
    → (held ≡ []) ⊎ BeginsWithLine (items_of (start + length (ended lines)) held)
held_begins reader given start lines held waits ready open_is =
    let stands : gathered.HasGathered (waits.records ++ reader.ready) (items_of start (lines ++ held)) reader.gathering =
    subst (λ (b : Bool). HasGathered b (waits.records ++ reader.ready) start (lines ++ held) reader.gathering) open_is waits.gathered in
    let records : waits.records ++ reader.ready ≡ waits.records = ap (λ (rs : List AuditRecord). waits.records ++ rs) ready ∙ no_more waits.records in
    let keeps = stands.keeps in
    let size = as_many start lines keeps.front waits.records waits.are (subst (AreRecordsOf keeps.front) records keeps.records) in
    let joined : keeps.front ++ keeps.held ≡ items_of start lines ++ items_of (start + length (ended lines)) held = keeps.joined ∙ items_of-append start lines held in
    let front : keeps.front ≡ items_of start lines =
    sym (take-append_seam keeps.front keeps.held) ∙ ap (take (length keeps.front)) joined
    ∙ ap (λ (n : ℕ). take n (items_of start lines ++ items_of (start + length (ended lines)) held)) (size ∙ sym (length-items start lines))
    ∙ take-append_seam (items_of start lines) (items_of (start + length (ended lines)) held) in
    let back : keeps.held ≡ items_of (start + length (ended lines)) held =
    append_cancel_left (items_of start lines) keeps.held (items_of (start + length (ended lines)) held) (ap (λ (is : List Item). is ++ keeps.held) (sym front) ∙ joined) in
    by_flag reader.gathering.holds keeps.holds.body keeps.holds.is_body (keeps.holds.joined ∙ back)
  where
    no_more : (records : List AuditRecord) → records ++ [] ≡ records
    no_more [] = refl
    no_more (made ∷ records) = ap (λ (rs : List AuditRecord). made ∷ rs) (no_more records)

    none_held : (place : ℕ) (lines : List (List ℕ)) → [] ≡ items_of place lines → lines ≡ []
    none_held place [] is = refl
    none_held place (line ∷ lines) is = absurd (let size = ap length is in omega (arith, size))

    begins_more : (items more : List Item) → BeginsWithLine items → BeginsWithLine (items ++ more)
    begins_more [] more begins = absurd begins
    begins_more (item ∷ items) more begins = begins

    by_flag : (flag : Bool) (body : List Item) → IsBody flag body reader.gathering → body ++ map skipped_line reader.gathering.behind.items ≡ items_of (start + length (ended lines)) held
        → (held ≡ []) ⊎ BeginsWithLine (items_of (start + length (ended lines)) held)
    by_flag true body is joined = inr (subst BeginsWithLine joined (begins_more body (map skipped_line reader.gathering.behind.items) is.0))
    by_flag false body is joined =
        inl (none_held (start + length (ended lines)) held
        (sym (ap (λ (items : List Item). items ++ map skipped_line reader.gathering.behind.items) is.0 ∙ ap (λ (ends : List ℕ). map skipped_line ends) is.1) ∙ joined))
