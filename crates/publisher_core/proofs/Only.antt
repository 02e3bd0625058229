-- A log has one list of records, and lines have one list of groups.
use Rattle.std.proofs.Common.{◌≡◌, ℕ, Bool, cond, IsTrue, is_some, List, [], ◌∷◌, ◌++◌, Option, Some, None, refl, arith, sym, ap, subst, ◌∙◌, append_assoc, flat_map}
use Rattle.std.specs.List.{AllZip}
use Rattle.std.proofs.lemmas.List.{append-nil}
use Rattle.std.proofs.lemmas.Bool.{true≢false}
use Rattle.audit_records.specs.declared.line.AuditLine.{AuditLine}
use Rattle.audit_records.specs.Groups.{groups_behind, groups_of}
use Rattle.audit_records.specs.Runs.{IsRun, BeginsAnew, AreWholeRuns, AreRunsOf}
use Rattle.publisher_core.specs.declared.gathering.AuditRecord.{AuditRecord}
use Rattle.publisher_core.specs.AuditParts.{Item, lines_in, skipped_in, groups_in, BeginsWithLine, EndsWithLine, IsPart, IsPartBy, AreRecordsOf}
use Rattle.publisher_core.proofs.Parts.{lines_in-append}

-- a run is gathered whole
run_gathers : (begun run coming : List AuditLine) → IsRun begun run → groups_behind begun (run ++ coming) ≡ groups_behind (begun ++ run) coming
run_gathers begun [] coming run = ap (λ (lines : List AuditLine). groups_behind lines coming) (sym (append-nil begun))
run_gathers begun (line ∷ lines) coming run =
    ap (λ (b : Bool). cond b (groups_behind (begun ++ line ∷ []) (lines ++ coming)) (begun ∷ groups_behind (line ∷ []) (lines ++ coming))) run.0
    ∙ run_gathers (begun ++ line ∷ []) lines coming run.1
    ∙ ap (λ (ls : List AuditLine). groups_behind ls coming) (append_assoc begun (line ∷ []) lines)

runs_gather : (first : AuditLine) (group : List AuditLine) (groups : List (List AuditLine)) → BeginsAnew (first ∷ group) groups → AreWholeRuns groups → groups_behind (first ∷ group) (flat_map (λ group. group) groups) ≡ (first ∷ group) ∷ groups
runs_gather first group [] anew runs = refl
runs_gather first group ([] ∷ groups) anew runs = absurd anew
runs_gather first group ((line ∷ lines) ∷ groups) anew runs =
    ap (λ (b : Bool). cond b (groups_behind ((first ∷ group) ++ line ∷ []) (lines ++ flat_map (λ group. group) groups)) ((first ∷ group) ∷ groups_behind (line ∷ []) (lines ++ flat_map (λ group. group) groups))) anew
    ∙ ap (λ (gs : List (List AuditLine)). (first ∷ group) ∷ gs) (run_gathers (line ∷ []) lines (flat_map (λ group. group) groups) runs.1.0.1 ∙ runs_gather line lines groups runs.1.1.0 runs.1.1.1)

-- lines have one list of groups
pub groups_are : (lines : List AuditLine) (groups : List (List AuditLine)) → AreRunsOf lines groups → groups ≡ groups_of lines
unfolding groups_of
groups_are lines [] are = ap (groups_behind []) are.joined
groups_are lines ([] ∷ groups) are = absurd (let no : ⊥ = (let some = are.runs.0 in omega arith) in no)
groups_are lines ((first ∷ group) ∷ groups) are =
    sym (runs_gather first group groups are.runs.1.1.0 are.runs.1.1.1)
    ∙ sym (run_gathers [] (first ∷ group) (flat_map (λ group. group) groups) are.runs.1.0)
    ∙ ap (groups_behind []) are.joined

lines_joined : (parts : List (List Item)) (records : List AuditRecord) → AllZip IsPart parts records → flat_map (λ group. group) (groups_in records) ≡ lines_in (flat_map (λ part. part) parts)
lines_joined [] [] zip = refl
lines_joined [] (made ∷ records) zip = absurd zip
lines_joined (part ∷ parts) [] zip = absurd zip
lines_joined (part ∷ parts) (made ∷ records) zip = by_group made.group zip.0 (lines_joined parts records zip.1) where
  by_group : (group : Option (List AuditLine)) → IsPartBy group part made → flat_map (λ lines. lines) (groups_in records) ≡ lines_in (flat_map (λ items. items) parts) → flat_map (λ lines. lines) (groups_in (record { group = group; skipped = made.skipped; end = made.end } ∷ records)) ≡ lines_in (part ++ flat_map (λ items. items) parts)
  by_group (Some group) is rest =
      ap (λ (lines : List AuditLine). lines ++ flat_map (λ ls. ls) (groups_in records)) (sym is.lines)
      ∙ ap (λ (lines : List AuditLine). lines_in part ++ lines) rest
      ∙ sym (lines_in-append part (flat_map (λ items. items) parts))
  by_group None is rest = rest ∙ sym (ap (λ (items : List Item). lines_in (items ++ flat_map (λ others. others) parts)) is.one)

cons≢nil : {X : Type 0} → {x : X} → {xs : List X} → x ∷ xs ≡ [] → ⊥
cons≢nil e = cc

head_same : {X : Type 0} → {x y : X} → {xs ys : List X} → x ∷ xs ≡ y ∷ ys → x ≡ y
head_same e = cc

tail_same : {X : Type 0} → {x y : X} → {xs ys : List X} → x ∷ xs ≡ y ∷ ys → xs ≡ ys
tail_same e = cc

cancel : {X : Type 0} → (front one other : List X) → front ++ one ≡ front ++ other → one ≡ other
cancel [] one other e = e
cancel (x ∷ front) one other e = cancel front one other (tail_same e)

last_same : {X : Type 0} → (xs ys : List X) (x y : X) → xs ++ x ∷ [] ≡ ys ++ y ∷ [] → x ≡ y
last_same [] [] x y e = head_same e
last_same [] (b ∷ []) x y e = absurd (cons≢nil (sym (tail_same e)))
last_same [] (b ∷ (c ∷ ys)) x y e = absurd (cons≢nil (sym (tail_same e)))
last_same (a ∷ []) [] x y e = absurd (cons≢nil (tail_same e))
last_same (a ∷ (c ∷ xs)) [] x y e = absurd (cons≢nil (tail_same e))
last_same (a ∷ xs) (b ∷ ys) x y e = last_same xs ys x y (tail_same e)

-- the last of the items, if there is one, is a line of the grammar
abbrev LastIsLine : List Item → Type 0
LastIsLine [] = Unit {0}
LastIsLine (item ∷ []) = IsTrue (is_some item.line)
LastIsLine (item ∷ (next ∷ items)) = LastIsLine (next ∷ items)

last_is_line : (before : List Item) (line : AuditLine) (end : ℕ) → LastIsLine (before ++ record { line = Some line; end = end } ∷ [])
last_is_line [] line end = refl
last_is_line (item ∷ []) line end = refl
last_is_line (item ∷ (next ∷ before)) line end = last_is_line (next ∷ before) line end

ends_last : (part : List Item) (end : ℕ) → EndsWithLine part end → LastIsLine part
ends_last part end ends = subst LastIsLine (sym ends.1.1) (last_is_line ends.0 ends.1.0 end)

last_rest : (item : Item) (items : List Item) → LastIsLine (item ∷ items) → LastIsLine items
last_rest item [] last = tt
last_rest item (next ∷ items) last = last

has_line : (item : Item) (items : List Item) → LastIsLine (item ∷ items) → lines_in (item ∷ items) ≡ [] → ⊥
has_line item [] last none = by_line item.line last none where
  by_line : (line : Option AuditLine) → IsTrue (is_some line) → lines_in (record { line = line; end = item.end } ∷ []) ≡ [] → ⊥
  by_line (Some line) some empty = cons≢nil empty
  by_line None some empty = true≢false (sym some)
has_line item (next ∷ items) last none = by_line item.line none (has_line next items last) where
  by_line : (line : Option AuditLine) → lines_in (record { line = line; end = item.end } ∷ (next ∷ items)) ≡ [] → (lines_in (next ∷ items) ≡ [] → ⊥) → ⊥
  by_line (Some line) empty rest = cons≢nil empty
  by_line None empty rest = rest empty

lines_rest : (item : Item) (one other : List Item) → lines_in (item ∷ one) ≡ lines_in (item ∷ other) → lines_in one ≡ lines_in other
lines_rest item one other e = by_line item.line e where
  by_line : (line : Option AuditLine) → lines_in (record { line = line; end = item.end } ∷ one) ≡ lines_in (record { line = line; end = item.end } ∷ other) → lines_in one ≡ lines_in other
  by_line (Some line) same = tail_same same
  by_line None same = same

-- two fronts of one log that have the same lines and end with a line are one
same_part : (one other after_one after_other : List Item) → one ++ after_one ≡ other ++ after_other → lines_in one ≡ lines_in other → LastIsLine one → LastIsLine other → one ≡ other
same_part [] [] after_one after_other e lines last_one last_other = refl
same_part [] (y ∷ other) after_one after_other e lines last_one last_other = absurd (has_line y other last_other (sym lines))
same_part (x ∷ one) [] after_one after_other e lines last_one last_other = absurd (has_line x one last_one lines)
same_part (x ∷ one) (y ∷ other) after_one after_other e lines last_one last_other =
    let first : x ≡ y = head_same e in
    let lines_too : lines_in (x ∷ one) ≡ lines_in (x ∷ other) = lines ∙ ap (λ (item : Item). lines_in (item ∷ other)) (sym first) in
    let rest = same_part one other after_one after_other (tail_same e) (lines_rest x one other lines_too) (last_rest x one last_one) (last_rest y other last_other) in
    cc

some_item : (part : List Item) (made : AuditRecord) → IsPart part made → (rest : List Item) → part ++ rest ≡ [] → ⊥
some_item [] made is rest none = by_group made.group is where
  by_group : (group : Option (List AuditLine)) → IsPartBy group [] made → ⊥
  by_group (Some group) part = part.begins
  by_group None part = cons≢nil (sym part.one)
some_item (item ∷ part) made is rest none = cons≢nil none

begins_other : (part : List Item) (rest others : List Item) (end : ℕ) → BeginsWithLine part → part ++ rest ≡ record { line = None; end = end } ∷ others → ⊥
begins_other [] rest others end begins e = begins
begins_other (item ∷ part) rest others end begins e = true≢false (sym begins ∙ ap (λ (first : Item). is_some first.line) (head_same e))

-- the first records are one, and the parts behind them are cut from one rest
same_first : (p q : List Item) (r s : AuditRecord) (after_p after_q : List Item) (rs ss : List AuditRecord) → IsPart p r → IsPart q s → p ++ after_p ≡ q ++ after_q → groups_in (r ∷ rs) ≡ groups_in (s ∷ ss) → (after_p ≡ after_q → groups_in rs ≡ groups_in ss → rs ≡ ss) → r ∷ rs ≡ s ∷ ss
same_first p q r s after_p after_q rs ss is_p is_q e groups rest = by_groups r.group s.group is_p is_q groups where
  by_groups : (g h : Option (List AuditLine)) → IsPartBy g p r → IsPartBy h q s → groups_in (record { group = g; skipped = r.skipped; end = r.end } ∷ rs) ≡ groups_in (record { group = h; skipped = s.skipped; end = s.end } ∷ ss) → record { group = g; skipped = r.skipped; end = r.end } ∷ rs ≡ record { group = h; skipped = s.skipped; end = s.end } ∷ ss
  by_groups (Some g) (Some h) in_p in_q same =
      let group : g ≡ h = head_same same in
      let part : p ≡ q = same_part p q after_p after_q e (in_p.lines ∙ group ∙ sym in_q.lines) (ends_last p r.end in_p.ends) (ends_last q s.end in_q.ends) in
      let end : r.end ≡ s.end = ap (λ (item : Item). item.end) (last_same in_p.ends.0 in_q.ends.0 (record { line = Some in_p.ends.1.0; end = r.end }) (record { line = Some in_q.ends.1.0; end = s.end }) (sym in_p.ends.1.1 ∙ part ∙ in_q.ends.1.1)) in
      let skipped : r.skipped ≡ s.skipped = in_p.skipped ∙ ap skipped_in part ∙ sym in_q.skipped in
      let behind : after_p ≡ after_q = cancel p after_p after_q (e ∙ ap (λ (items : List Item). items ++ after_q) (sym part)) in
      let others : rs ≡ ss = rest behind (tail_same same) in
      cc
  by_groups None None in_p in_q same =
      let whole : record { line = None; end = r.end } ∷ after_p ≡ record { line = None; end = s.end } ∷ after_q =
      sym (ap (λ (items : List Item). items ++ after_p) in_p.one) ∙ e ∙ ap (λ (items : List Item). items ++ after_q) in_q.one in
      let end : r.end ≡ s.end = ap (λ (item : Item). item.end) (head_same whole) in
      let skipped : r.skipped ≡ s.skipped = in_p.skipped ∙ sym in_q.skipped in
      let others : rs ≡ ss = rest (tail_same whole) same in
      cc
  by_groups (Some g) None in_p in_q same = absurd (begins_other p after_p after_q s.end in_p.begins (e ∙ ap (λ (items : List Item). items ++ after_q) in_q.one))
  by_groups None (Some h) in_p in_q same = absurd (begins_other q after_q after_p r.end in_q.begins (sym e ∙ ap (λ (items : List Item). items ++ after_p) in_p.one))

same_records : (ps qs : List (List Item)) (rs ss : List AuditRecord) → AllZip IsPart ps rs → AllZip IsPart qs ss → flat_map (λ part. part) ps ≡ flat_map (λ part. part) qs → groups_in rs ≡ groups_in ss → rs ≡ ss
same_records [] [] [] [] zip_p zip_q e groups = refl
same_records [] qs (r ∷ rs) ss zip_p zip_q e groups = absurd zip_p
same_records (p ∷ ps) qs [] ss zip_p zip_q e groups = absurd zip_p
same_records [] [] [] (s ∷ ss) zip_p zip_q e groups = absurd zip_q
same_records [] (q ∷ qs) [] [] zip_p zip_q e groups = absurd zip_q
same_records [] (q ∷ qs) [] (s ∷ ss) zip_p zip_q e groups = absurd (some_item q s zip_q.0 (flat_map (λ part. part) qs) (sym e))
same_records (p ∷ ps) [] (r ∷ rs) [] zip_p zip_q e groups = absurd (some_item p r zip_p.0 (flat_map (λ part. part) ps) e)
same_records (p ∷ ps) [] (r ∷ rs) (s ∷ ss) zip_p zip_q e groups = absurd zip_q
same_records (p ∷ ps) (q ∷ qs) (r ∷ rs) [] zip_p zip_q e groups = absurd zip_q
same_records (p ∷ ps) (q ∷ qs) (r ∷ rs) (s ∷ ss) zip_p zip_q e groups =
    same_first p q r s (flat_map (λ part. part) ps) (flat_map (λ part. part) qs) rs ss zip_p.0 zip_q.0 e groups (same_records ps qs rs ss zip_p.1 zip_q.1)

pub groups_of_log : (items : List Item) (records : List AuditRecord) → AreRecordsOf items records → groups_in records ≡ groups_of (lines_in items)
groups_of_log items records are =
    groups_are (lines_in items) (groups_in records) (record { joined = lines_joined are.parts records are.each ∙ ap lines_in are.joined; runs = are.whole })

-- a log has one list of records
pub records_only : (items : List Item) (one other : List AuditRecord) → AreRecordsOf items one → AreRecordsOf items other → one ≡ other
records_only items one other is_one is_other =
    same_records is_one.parts is_other.parts one other is_one.each is_other.each (is_one.joined ∙ sym is_other.joined)
    (groups_of_log items one is_one ∙ sym (groups_of_log items other is_other))
