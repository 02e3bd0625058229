-- What is given of the lines of a stream, as more of them are taken.
use Rattle.std.proofs.Common.{◌≡◌, ℕ, zero, suc, ◌+◌, ◌<◌, List, [], ◌∷◌, ◌++◌, length, take, flat_map, refl, sym, ap, subst, ◌∙◌, arith, append_assoc, length-append, Option, Some, None}
use Rattle.std.specs.List.{AllZip}
use Rattle.std.proofs.lemmas.List.{append-nil, nil_from_length}
use Rattle.std.proofs.lemmas.Grind.{flat_map-append}
use Rattle.std.proofs.Math.Seq.{take-append_seam}
use Rattle.record_lines.specs.Lines.{HasNoFeed}
use Rattle.audit_records.specs.declared.line.AuditLine.{AuditLine}
use Rattle.publisher_core.specs.declared.gathering.AuditRecord.{AuditRecord}
use Rattle.publisher_core.specs.declared.record.Found.{Found}
use Rattle.publisher_core.specs.AuditParts.{Item, lines_in, skipped_in, IsPart, IsPartBy, AreRecordsOf}
use Rattle.publisher_core.specs.Audit.{items_of, line_in}
use Rattle.publisher_core.specs.Found.{LinesAre}
use Rattle.publisher_core.specs.Records.{ended, HaveNoFeed}

-- the bytes of lines
pub ended-append : (a b : List (List ℕ)) → ended (a ++ b) ≡ ended a ++ ended b
ended-append a b = flat_map-append (λ line. line ++ 10 ∷ []) a b

pub size_ended : (line : List ℕ) (lines : List (List ℕ)) → length (ended (line ∷ lines)) ≡ length line + 1 + length (ended lines)
size_ended line lines =
    let whole = length-append (line ++ 10 ∷ []) (ended lines) in
    let first = length-append line (10 ∷ []) in
    omega (arith, whole, first)

pub size_more : (lines : List (List ℕ)) (line : List ℕ) → length (ended (lines ++ line ∷ [])) ≡ length (ended lines) + length line + 1
size_more lines line =
    let whole = ap length (ended-append lines (line ∷ [])) ∙ length-append (ended lines) (ended (line ∷ [])) in
    let last = size_ended line [] in
    omega (arith, whole, last)

one_line : (line behind : List ℕ) → ended (line ∷ []) ++ behind ≡ line ++ 10 ∷ behind
one_line line behind = ap (λ (l : List ℕ). l ++ behind) (append-nil (line ++ 10 ∷ [])) ∙ append_assoc line (10 ∷ []) behind

-- one more line of the stream
pub cut_more : (stream rest line behind : List ℕ) (lines : List (List ℕ)) → stream ≡ ended lines ++ rest → rest ≡ line ++ 10 ∷ behind → stream ≡ ended (lines ++ line ∷ []) ++ behind
cut_more stream rest line behind lines cut is =
    cut
    ∙ ap (λ (l : List ℕ). ended lines ++ l) (is ∙ sym (one_line line behind))
    ∙ sym (append_assoc (ended lines) (ended (line ∷ [])) behind)
    ∙ ap (λ (l : List ℕ). l ++ behind) (sym (ended-append lines (line ∷ [])))

pub plain_more : (lines : List (List ℕ)) (line : List ℕ) → HaveNoFeed lines → HasNoFeed line → HaveNoFeed (lines ++ line ∷ [])
plain_more [] line plain one = (one, tt)
plain_more (other ∷ lines) line plain one = (plain.0, plain_more lines line plain.1 one)

pub not_plain : (line behind : List ℕ) → HasNoFeed (line ++ 10 ∷ behind) → ⊥
not_plain [] behind plain = plain.0 refl
not_plain (byte ∷ line) behind plain = not_plain line behind plain.1

-- one more line of a source that gives by lines
pub lines_are_more : (Is : List ℕ → ℕ → Found → Type 0) (start : ℕ) (lines : List (List ℕ)) (found : List Found) (line : List ℕ) (one : Found) → LinesAre Is start lines found → Is line (start + length (ended lines) + length line + 1) one → LinesAre Is start (lines ++ line ∷ []) (found ++ one ∷ [])
lines_are_more Is start [] [] line one all last = (subst (λ (n : ℕ). Is line n one) (let at : start + 0 + length line + 1 ≡ start + length line + 1 = omega arith in at) last, tt)
lines_are_more Is start [] (first ∷ found) line one all last = absurd all
lines_are_more Is start (other ∷ lines) [] line one all last = absurd all
lines_are_more Is start (other ∷ lines) (first ∷ found) line one all last =
    let size = size_ended other lines in
    let later : start + length (ended (other ∷ lines)) + length line + 1 ≡ start + length other + 1 + length (ended lines) + length line + 1 = omega (arith, size) in
    (all.0, lines_are_more Is (start + length other + 1) lines found line one all.1 (subst (λ (n : ℕ). Is line n one) later last))

-- the lines of an audit log
pub items_more : (start : ℕ) (lines : List (List ℕ)) (line : List ℕ) → items_of start (lines ++ line ∷ []) ≡ items_of start lines ++ record { line = line_in line; end = start + length (ended lines) + length line + 1 } ∷ []
items_more start [] line = ap (λ (n : ℕ). record { line = line_in line; end = n } ∷ []) (omega arith)
items_more start (other ∷ lines) line =
    let size = size_ended other lines in
    let at : start + length other + 1 + length (ended lines) + length line + 1 ≡ start + length (ended (other ∷ lines)) + length line + 1 = omega (arith, size) in
    ap (λ (is : List Item). record { line = line_in other; end = start + length other + 1 } ∷ is)
    (items_more (start + length other + 1) lines line ∙ ap (λ (n : ℕ). items_of (start + length other + 1) lines ++ record { line = line_in line; end = n } ∷ []) at)

pub items_of-append : (start : ℕ) (lines others : List (List ℕ)) → items_of start (lines ++ others) ≡ items_of start lines ++ items_of (start + length (ended lines)) others
items_of-append start [] others = ap (λ (n : ℕ). items_of n others) (let at : start ≡ start + 0 = omega arith in at)
items_of-append start (line ∷ lines) others =
    let size = size_ended line lines in
    let at : start + length line + 1 + length (ended lines) ≡ start + length (ended (line ∷ lines)) = omega (arith, size) in
    ap (λ (is : List Item). record { line = line_in line; end = start + length line + 1 } ∷ is)
    (items_of-append (start + length line + 1) lines others ∙ ap (λ (n : ℕ). items_of (start + length line + 1) lines ++ items_of n others) at)

items_of-take : (start n : ℕ) (lines : List (List ℕ)) → items_of start (take n lines) ≡ take n (items_of start lines)
items_of-take start zero lines = refl
items_of-take start (suc n) [] = refl
items_of-take start (suc n) (line ∷ lines) = ap (λ (is : List Item). record { line = line_in line; end = start + length line + 1 } ∷ is) (items_of-take (start + length line + 1) n lines)

pub length-items : (start : ℕ) (lines : List (List ℕ)) → length (items_of start lines) ≡ length lines
length-items start [] = refl
length-items start (line ∷ lines) = ap suc (length-items (start + length line + 1) lines)

-- the lines of the first items
pub front_lines : (start : ℕ) (lines : List (List ℕ)) (front back : List Item) → front ++ back ≡ items_of start lines → items_of start (take (length front) lines) ≡ front
front_lines start lines front back joined =
    items_of-take start (length front) lines ∙ ap (λ (is : List Item). take (length front) is) (sym joined) ∙ take-append_seam front back

-- the last item ends where the lines end
pub last_end : (start : ℕ) (lines : List (List ℕ)) (before : List Item) (last : Item) → items_of start lines ≡ before ++ last ∷ [] → last.end ≡ start + length (ended lines)
last_end start [] [] last is = absurd (let same = is in cc)
last_end start [] (item ∷ before) last is = absurd (let same = is in cc)
last_end start (line ∷ []) [] last is =
    let size = size_ended line [] in
    let same : last ≡ record { line = line_in line; end = start + length line + 1 } = cc in
    ap (λ (item : Item). item.end) same ∙ omega (arith, size)
last_end start (line ∷ []) (item ∷ []) last is = absurd (let same = is in cc)
last_end start (line ∷ []) (item ∷ other ∷ before) last is = absurd (let same = is in cc)
last_end start (line ∷ next ∷ lines) [] last is = absurd (let same = is in cc)
last_end start (line ∷ next ∷ lines) (item ∷ before) last is =
    let size = size_ended line (next ∷ lines) in
    let later : items_of (start + length line + 1) (next ∷ lines) ≡ before ++ last ∷ [] = cc in
    last_end (start + length line + 1) (next ∷ lines) before last later ∙ omega (arith, size)

-- how many lines a record has
abbrev size_by : Option (List AuditLine) → ℕ → ℕ
size_by None skipped = skipped
size_by (Some group) skipped = length group + skipped

abbrev sizes_of : List AuditRecord → ℕ
sizes_of [] = 0
sizes_of (made ∷ records) = size_by made.group made.skipped + sizes_of records

count_items : (items : List Item) → length items ≡ length (lines_in items) + skipped_in items
count_items [] = refl
count_items (item ∷ items) = by_line item.line refl (count_items items) where
  by_line : (found : Option AuditLine) → item.line ≡ found → length items ≡ length (lines_in items) + skipped_in items → length (item ∷ items) ≡ length (lines_in (item ∷ items)) + skipped_in (item ∷ items)
  by_line None is rest = rw is (omega (arith, rest))
  by_line (Some line) is rest = rw is (omega (arith, rest))

size_of_part : (group : Option (List AuditLine)) (part : List Item) (made : AuditRecord) → made.group ≡ group → IsPart part made → length part ≡ size_by made.group made.skipped
size_of_part None part made is part_is =
    let by : IsPartBy None part made = subst (λ (g : Option (List AuditLine)). IsPartBy g part made) is part_is in
    ap length by.one ∙ sym by.skipped ∙ ap (λ (g : Option (List AuditLine)). size_by g made.skipped) (sym is)
size_of_part (Some group) part made is part_is =
    let by : IsPartBy (Some group) part made = subst (λ (g : Option (List AuditLine)). IsPartBy g part made) is part_is in
    let lines = ap length by.lines in
    let skipped = by.skipped in
    let counted = count_items part in
    let sum : length part ≡ length group + made.skipped = omega (arith, counted, lines, skipped) in
    sum ∙ ap (λ (g : Option (List AuditLine)). size_by g made.skipped) (sym is)

sizes : (parts : List (List Item)) (records : List AuditRecord) → AllZip IsPart parts records → length (flat_map (λ part. part) parts) ≡ sizes_of records
sizes [] [] zip = refl
sizes [] (made ∷ records) zip = absurd zip
sizes (part ∷ parts) [] zip = absurd zip
sizes (part ∷ parts) (made ∷ records) zip =
    let whole = length-append part (flat_map (λ p. p) parts) in
    let first = size_of_part made.group part made refl zip.0 in
    let rest = sizes parts records zip.1 in
    omega (arith, whole, first, rest)

-- as many lines as the records have
pub as_many : (start : ℕ) (lines : List (List ℕ)) (front : List Item) (records : List AuditRecord) → AreRecordsOf (items_of start lines) records → AreRecordsOf front records → length front ≡ length lines
as_many start lines front records all same =
    let lines_size : length (items_of start lines) ≡ sizes_of records = ap length (sym all.joined) ∙ sizes all.parts records all.each in
    let front_size : length front ≡ sizes_of records = ap length (sym same.joined) ∙ sizes same.parts records same.each in
    front_size ∙ sym lines_size ∙ length-items start lines

-- records of these lines, and of these and more, are as many lines only where there are no more
pub none_more : (start : ℕ) (lines held : List (List ℕ)) (records : List AuditRecord) → AreRecordsOf (items_of start lines) records → AreRecordsOf (items_of start (lines ++ held)) records → held ≡ []
none_more start lines held records few all =
    let few_size : length (items_of start lines) ≡ sizes_of records = ap length (sym few.joined) ∙ sizes few.parts records few.each in
    let all_size : length (items_of start (lines ++ held)) ≡ sizes_of records = ap length (sym all.joined) ∙ sizes all.parts records all.each in
    let few_lines = length-items start lines in
    let all_lines = length-items start (lines ++ held) in
    let sum = length-append lines held in
    nil_from_length held (omega (arith, few_size, all_size, few_lines, all_lines, sum))

pub zip_more : {A B : Type 0} (R : A → B → Type 0) (xs : List A) (ys : List B) (x : A) (y : B) → AllZip R xs ys → R x y → AllZip R (xs ++ x ∷ []) (ys ++ y ∷ [])
zip_more R [] [] x y all one = (one, tt)
zip_more R [] (b ∷ ys) x y all one = absurd all
zip_more R (a ∷ xs) [] x y all one = absurd all
zip_more R (a ∷ xs) (b ∷ ys) x y all one = (all.0, zip_more R xs ys x y all.1 one)

-- of two fronts of the same lines the longer one has more bytes
pub more_bytes : (few others many rest : List (List ℕ)) → few ++ others ≡ many ++ rest → length few < length many → length (ended few) < length (ended many)
more_bytes [] others [] rest same less = absurd (omega (arith, less))
more_bytes [] others (line ∷ many) rest same less = let size = size_ended line many in omega (arith, size)
more_bytes (line ∷ few) others [] rest same less = absurd (omega (arith, less))
more_bytes (line ∷ few) others (first ∷ many) rest same less =
    let one : line ≡ first = cc in
    let tail : few ++ others ≡ many ++ rest = cc in
    let later : length (ended few) < length (ended many) = more_bytes few others many rest tail (omega (arith, less)) in
    let few_size = size_ended line few in
    let many_size = size_ended first many in
    let same_size = ap length one in
    omega (arith, later, few_size, many_size, same_size)
