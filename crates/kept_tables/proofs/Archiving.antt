-- The rows of batches behind the statements of entries, and what a fetch shows of them.
use Rattle.std.proofs.Common.{◌≡◌, ℕ, zero, suc, ◌+◌, ◌-◌, ◌<◌, Bool, true, false, cond, List, [], ◌∷◌, ◌++◌, length, map, refl, sym, subst, ap, ap₂, ◌∙◌, append_assoc, arith}
use Rattle.std.specs.Prelude.{filter, flat_map, fold, ◌&&◌, ◌==◌, if◌then◌else◌, is_some, nat_le, nat_lt, slice_get, unwrap_or, Option, Some, None}
use Rattle.std.specs.List.{AllByRecursion}
use Rattle.std.proofs.lemmas.Bool.Decides.{nat_tests}
use Rattle.std.proofs.lemmas.List.{append-nil, map-append}
use Rattle.std.proofs.lemmas.List.Concat.{flat_map-append}
use Rattle.std.proofs.lemmas.List.Elements.{filter-append}
use Rattle.std.proofs.lemmas.List.Sums.{fold-append}
use Rattle.std.proofs.lemmas.Simd.{map-map}
use Rattle.osq_value.specs.declared.value.Value.{Value}
use Rattle.batch_frames.specs.Texts.{IsHeldValue}
use Rattle.entry_model.specs.declared.entry.Batch.{Batch}
use Rattle.entry_model.specs.declared.entry.Entry.{Entry}
use Rattle.entry_model.specs.declared.entry.Entry.TheVariants.{Opened, Configured, Ticked, Appended, TableSet, Expired, Committed, Acked}
use Rattle.entry_model.specs.declared.restored.Live.{Live}
use Rattle.entry_model.specs.Legal.{Follow, Legal, LegalNext}
use Rattle.entry_model.specs.Values.{acked_in, acked_upto, commits}
use Rattle.entry_model.proofs.Fitting.{fits}
use Rattle.entry_model.proofs.Follows.{Legal-push, over_legal}
use Rattle.entry_model.proofs.Lasts.{commits-append, last_of-append}
use Rattle.entry_model.proofs.Nexts.{quiet_commits}
use Rattle.kept_tables.specs.declared.counts.Counts.{Counts}
use Rattle.kept_tables.specs.declared.fetching.BatchPart.{BatchPart}
use Rattle.kept_tables.specs.Archive.{Part, Archive, Archives, ArchiveShows, FetchIsKnown, SealArchives, above, all_archived, archived, batch_part, parts_of, without_rows}
use Rattle.kept_tables.specs.Edits.{Edit, add_events, add_set_part, behind, counts_after, edits_of, event_edits, event_groups, is_full, live_part, next, own, part_edits, seal_edits, set_groups}
use Rattle.kept_tables.specs.Fetches.{IsBatchPart, batch_row, part_row}
use Rattle.kept_tables.specs.Groups.{groups, joined}
use Rattle.kept_tables.specs.Rows.{HoldsRows}
use Rattle.kept_tables.proofs.Cutting.{groups_join, all_groups_hold, all_mapped, filter_all, filter_both, filter_none, filter_turned}
use Rattle.kept_tables.proofs.Setting.{set_part}

-- ---- the numbers of batches

abbrev Numbered : ℕ → List Batch → Type 0
Numbered n [] = Unit {0}
Numbered n (batch ∷ batches) = (batch.number ≡ n) × Numbered (suc n) batches

numbered_more : (n : ℕ) (bs : List Batch) (b : Batch) → Numbered n bs → b.number ≡ n + length bs → Numbered n (bs ++ b ∷ [])
numbered_more n [] b h e = (omega (arith, e), tt)
numbered_more n (c ∷ bs) b h e = (h.0, numbered_more (suc n) bs b h.1 (omega (arith, e)))

numbered_next : (K : List Entry) (e : Entry) → Legal K → Numbered 1 (commits K) → LegalNext K e → Numbered 1 (commits (K ++ e ∷ []))
numbered_next K e legal h may = subst (Numbered 1) (sym (commits-append K (e ∷ []))) (by e may)
  where
    quiet : Numbered 1 (commits K ++ [])
    quiet = subst (Numbered 1) (sym (append-nil (commits K))) h

    by : (e : Entry) → LegalNext K e → Numbered 1 (commits K ++ commits (e ∷ []))
    by (Opened session rules) may = quiet
    by (Configured document schedule moment) may = quiet
    by (Ticked moment) may = quiet
    by (Appended source taken events skipped moment) may = quiet
    by (TableSet source table rows taken) may = quiet
    by (Expired table floor moment) may = quiet
    by (Committed batch) may = let next = may.next in numbered_more 1 (commits K) batch h (omega (arith, next))
    by (Acked upto) may = quiet

-- the batches of a legal list are numbered from 1
numbers : (K : List Entry) → Legal K → Numbered 1 (commits K)
numbers = over_legal (λ (es : List Entry). Numbered 1 (commits es)) tt numbered_next

numbered_at : (n : ℕ) (bs : List Batch) (k : ℕ) (b : Batch) → Numbered n bs → slice_get bs k ≡ Some b → b.number ≡ n + k
numbered_at n [] k b h e = absurd (cc)
numbered_at n (c ∷ bs) zero b h e =
    let here : c ≡ b = cc in
    let same : c.number ≡ b.number = ap (λ (x : Batch). x.number) here in
    let first = h.0 in
    omega (arith, same, first)
numbered_at n (c ∷ bs) (suc k) b h e = let rest = numbered_at (suc n) bs k b h.1 e in omega (arith, rest)

abbrev is_own : ℕ → Batch → Bool
is_own number batch = batch.number == number

none_later : (n m : ℕ) (bs : List Batch) → m < n → Numbered n bs → AllByRecursion (λ (b : Batch). is_own m b ≡ false) bs
none_later n m [] lt h = tt
none_later n m (c ∷ bs) lt h = let first = h.0 in (grind (arith, nat_tests, first, lt), none_later (suc n) m bs (omega (arith, lt)) h.1)

-- one batch has the number
only_one : (n : ℕ) (bs : List Batch) (k : ℕ) (b : Batch) (m : ℕ) → m ≡ n + k → Numbered n bs → slice_get bs k ≡ Some b → filter (is_own m) bs ≡ b ∷ []
only_one n [] k b m is h e = absurd (cc)
only_one n (c ∷ bs) zero b m is h e =
    let here : c ≡ b = cc in
    let first = h.0 in
    let own : is_own m c ≡ true = grind (arith, nat_tests, first, is) in
    ap (λ (t : Bool). cond t (c ∷ filter (is_own m) bs) (filter (is_own m) bs)) own
    ∙ ap (λ (cs : List Batch). c ∷ cs) (filter_none (is_own m) bs (none_later (suc n) m bs (omega (arith, is)) h.1))
    ∙ ap (λ (x : Batch). x ∷ []) here
only_one n (c ∷ bs) (suc k) b m is h e =
    let first = h.0 in
    let other : is_own m c ≡ false = grind (arith, nat_tests, first, is) in
    ap (λ (t : Bool). cond t (c ∷ filter (is_own m) bs) (filter (is_own m) bs)) other ∙ only_one (suc n) bs k b m (omega (arith, is)) h.1 e

-- ---- what several statements make

quiet_each : {X : Type 0} (f : X → Edit) → ((a : Archive) (x : X) → archived a (f x) ≡ a) → (a : Archive) (xs : List X) → fold archived a (map f xs) ≡ a
quiet_each f quiet a [] = refl
quiet_each f quiet a (x ∷ xs) = ap (λ (b : Archive). fold archived b (map f xs)) (quiet a x) ∙ quiet_each f quiet a xs

quiet_three : (a : Archive) (moment : ℕ) (events : List Live) → fold archived a (event_edits moment events 0 ++ event_edits moment events 1 ++ event_edits moment events 2) ≡ a
quiet_three a moment events =
    let edits = event_edits moment events in
    let quiet = λ (table : ℕ). quiet_each (λ (group : List Live). add_events (live_part table moment group)) (λ b group. refl) a in
    fold-append archived a (edits 0 ++ edits 1) (edits 2)
    ∙ ap (λ (b : Archive). fold archived b (edits 2)) (fold-append archived a (edits 0) (edits 1) ∙ ap (λ (b : Archive). fold archived b (edits 1)) (quiet 0 (event_groups (own 0 events))) ∙ quiet 1 (event_groups (own 1 events)))
    ∙ quiet 2 (event_groups (own 2 events))

abbrev part : ℕ → List (List Value) → Part
part number group = record { number = number; rows = group }

add_parts : (a : Archive) (before number : ℕ) (gs : List (List (List Value))) → fold archived a (part_edits before number gs) ≡ record a { parts = a.parts ++ map (part number) gs }
add_parts a before number [] = λ i. record a { parts = sym (append-nil a.parts) i }
add_parts a before number (g ∷ gs) =
    add_parts (record a { parts = a.parts ++ part number g ∷ [] }) (before + 1) number gs
    ∙ (λ i. record a { parts = append_assoc a.parts (part number g ∷ []) (map (part number) gs) i })

-- ---- parts of some batches

all_so : {X : Type 0} (P : Type 0) → P → (xs : List X) → AllByRecursion (λ (x : X). P) xs
all_so P h [] = tt
all_so P h (x ∷ xs) = (h, all_so P h xs)

own_parts : (p : ℕ → Bool) (bs : List Batch) → filter (λ (q : Part). p q.number) (flat_map parts_of bs) ≡ flat_map parts_of (filter (λ (b : Batch). p b.number) bs)
own_parts p [] = refl
own_parts p (b ∷ bs) = filter-append (λ (q : Part). p q.number) (parts_of b) (flat_map parts_of bs) ∙ by (p b.number) refl (own_parts p bs)
  where
    each : (t : Bool) → p b.number ≡ t → AllByRecursion (λ (q : Part). p q.number ≡ t) (parts_of b)
    each t is = all_mapped (λ (q : Part). p q.number ≡ t) (part b.number) (groups is_full b.rows) (all_so (p b.number ≡ t) is (groups is_full b.rows))

    by : (t : Bool) → p b.number ≡ t → filter (λ (q : Part). p q.number) (flat_map parts_of bs) ≡ flat_map parts_of (filter (λ (c : Batch). p c.number) bs)
        → filter (λ (q : Part). p q.number) (parts_of b) ++ filter (λ (q : Part). p q.number) (flat_map parts_of bs) ≡ flat_map parts_of (cond t (b ∷ filter (λ (c : Batch). p c.number) bs) (filter (λ (c : Batch). p c.number) bs))
    by true is h = ap₂ (λ (xs ys : List Part). xs ++ ys) (filter_all (λ (q : Part). p q.number) (parts_of b) (each true is)) h
    by false is h = ap₂ (λ (xs ys : List Part). xs ++ ys) (filter_none (λ (q : Part). p q.number) (parts_of b) (each false is)) h

-- ---- one entry

same_archive : (K : List Entry) (e : Entry) (a : Archive) → commits (e ∷ []) ≡ [] → acked_in e ≡ None → Archives a K → Archives a (K ++ e ∷ [])
same_archive K e a no_batch no_mark h =
    let batches = quiet_commits K e no_batch in
    let mark : acked_upto (K ++ e ∷ []) ≡ acked_upto K = last_of-append acked_in 0 K (e ∷ []) ∙ ap (λ (o : Option ℕ). unwrap_or o (acked_upto K)) no_mark in
    record {
      batches = h.batches ∙ ap (map without_rows) (sym batches);
      parts = h.parts ∙ ap₂ (λ (n : ℕ) (bs : List Batch). flat_map parts_of (above n bs)) (sym mark) (sym batches);
    }

narrower : (m n k : ℕ) → m < n → nat_lt n k ≡ (nat_lt m k && nat_lt n k)
narrower m n k lt = by (nat_lt n k) refl
  where
    by : (t : Bool) → nat_lt n k ≡ t → t ≡ (nat_lt m k && t)
    by true is =
        let below : nat_lt m k ≡ true = grind (arith, nat_tests, is, lt) in
        sym (ap (λ (t : Bool). t && true) below)
    by false is = neither (nat_lt m k)
      where
        neither : (t : Bool) → false ≡ (t && false)
        neither true = refl
        neither false = refl

module _ (K : List Entry) (legal : Legal K) (a : Archive) (h : Archives a K) where
  abbrev mark : ℕ
  mark = acked_upto K

  committed : (batch : Batch) → LegalNext K (Committed batch) → (counts : Counts) → Archives (all_archived a (edits_of counts (Committed batch))) (K ++ Committed batch ∷ [])
  committed batch may counts =
      let within = (fits K legal).acked in
      let next = may.next in
      let new : nat_lt mark batch.number ≡ true = grind (arith, nat_tests, within, next) in
      let batches : commits (K ++ Committed batch ∷ []) ≡ commits K ++ batch ∷ [] = commits-append K (Committed batch ∷ []) in
      let same_mark : acked_upto (K ++ Committed batch ∷ []) ≡ mark = last_of-append acked_in 0 K (Committed batch ∷ []) in
      let noted : Archive = record a { batches = a.batches ++ without_rows batch ∷ [] } in
      let now = filter-append (λ (b : Batch). nat_lt mark b.number) (commits K) (batch ∷ []) ∙ ap (λ (t : Bool). above mark (commits K) ++ cond t (batch ∷ []) []) new in
      subst (λ (b : Archive). Archives b (K ++ Committed batch ∷ [])) (sym (add_parts noted counts.parts batch.number (groups is_full batch.rows)))
      (record {
        batches =
            ap (λ (bs : List Batch). bs ++ without_rows batch ∷ []) h.batches ∙ sym (map-append without_rows (commits K) (batch ∷ [])) ∙ ap (map without_rows) (sym batches);
        parts =
            ap (λ (ps : List Part). ps ++ parts_of batch) h.parts
            ∙ ap (λ (ps : List Part). flat_map parts_of (above mark (commits K)) ++ ps) (sym (append-nil (parts_of batch)))
            ∙ sym (flat_map-append parts_of (above mark (commits K)) (batch ∷ []))
            ∙ ap (flat_map parts_of) (sym now)
            ∙ ap₂ (λ (n : ℕ) (bs : List Batch). flat_map parts_of (above n bs)) (sym same_mark) (sym batches);
      })

  acknowledged : (upto : ℕ) → mark < upto → (counts : Counts) → Archives (all_archived a (edits_of counts (Acked upto))) (K ++ Acked upto ∷ [])
  acknowledged upto lt counts =
      let batches : commits (K ++ Acked upto ∷ []) ≡ commits K = quiet_commits K (Acked upto) refl in
      let new_mark : acked_upto (K ++ Acked upto ∷ []) ≡ upto = last_of-append acked_in 0 K (Acked upto ∷ []) in
      let fewer = filter_both (λ (b : Batch). nat_lt upto b.number) (λ (b : Batch). nat_lt mark b.number) (λ (b : Batch). nat_lt upto b.number) (λ (b : Batch). narrower mark upto b.number lt) (commits K) in
      record {
        batches = h.batches ∙ ap (map without_rows) (sym batches);
        parts =
            ap (filter (λ (q : Part). nat_lt upto q.number)) h.parts
            ∙ own_parts (nat_lt upto) (above mark (commits K))
            ∙ ap (flat_map parts_of) (sym fewer)
            ∙ ap₂ (λ (n : ℕ) (bs : List Batch). flat_map parts_of (above n bs)) (sym new_mark) (sym batches);
      }

  archive_next : (e : Entry) → LegalNext K e → (counts : Counts) → Archives (all_archived a (edits_of counts e)) (K ++ e ∷ [])
  archive_next (Opened session rules) may counts = same_archive K (Opened session rules) a refl refl h
  archive_next (Configured document schedule moment) may counts = same_archive K (Configured document schedule moment) a refl refl h
  archive_next (Ticked moment) may counts = same_archive K (Ticked moment) a refl refl h
  archive_next (Expired table floor moment) may counts = same_archive K (Expired table floor moment) a refl refl h
  archive_next (Appended source taken events skipped moment) may counts =
      subst (λ (b : Archive). Archives b (K ++ Appended source taken events skipped moment ∷ [])) (sym (quiet_three a moment (behind counts.last moment events)))
      (same_archive K (Appended source taken events skipped moment) a refl refl h)
  archive_next (TableSet source table rows taken) may counts =
      subst (λ (b : Archive). Archives b (K ++ TableSet source table rows taken ∷ [])) (sym (quiet_each (λ (group : List (List Value)). add_set_part (set_part table.0 group)) (λ b group. refl) a (set_groups rows)))
      (same_archive K (TableSet source table rows taken) a refl refl h)
  archive_next (Committed batch) may counts = committed batch may counts
  archive_next (Acked upto) may counts = acknowledged upto may.0 counts

-- ---- all entries

all_archive : (K entries : List Entry) (counts : Counts) (a : Archive) → Legal K → Follow K entries → Archives a K → Archives (all_archived a (seal_edits counts entries)) (K ++ entries)
all_archive K [] counts a legal follow h = subst (Archives a) (sym (append-nil K)) h
all_archive K (e ∷ entries) counts a legal follow h =
    let edits = edits_of (next counts) e in
    let now = archive_next K legal a h e follow.0 (next counts) in
    let rest = all_archive (K ++ e ∷ []) entries (counts_after (next counts) e) (all_archived a edits) (Legal-push K e legal follow.0) follow.1 now in
    subst (λ (es : List Entry). Archives (all_archived a (edits ++ seal_edits (counts_after (next counts) e) entries)) es) (append_assoc K (e ∷ []) entries)
    (subst (λ (b : Archive). Archives b (K ++ e ∷ [] ++ entries)) (sym (fold-append archived a edits (seal_edits (counts_after (next counts) e) entries))) rest)

pub seal_archives : SealArchives
seal_archives before entries counts archive legal follow h = all_archive before entries counts archive legal follow h

-- ---- what is shown

same_rows : (n : ℕ) (bs : List Batch) → map batch_row (filter (is_own n) (map without_rows bs)) ≡ map batch_row (filter (is_own n) bs)
same_rows n [] = refl
same_rows n (b ∷ bs) = by (is_own n b) (same_rows n bs)
  where
    by : (t : Bool) → map batch_row (filter (is_own n) (map without_rows bs)) ≡ map batch_row (filter (is_own n) bs)
        → map batch_row (cond t (without_rows b ∷ filter (is_own n) (map without_rows bs)) (filter (is_own n) (map without_rows bs))) ≡ map batch_row (cond t (b ∷ filter (is_own n) bs) (filter (is_own n) bs))
    by true rest = ap (λ (rs : List (List Value)). batch_row b ∷ rs) rest
    by false rest = rest

-- the number is above the mark, and the batch is at its place
record IsThere (mark number : ℕ) (batches : List Batch) (batch : Batch) : Type 0 where
  above_mark : mark < number
  is : slice_get batches (number - 1) ≡ Some batch

there : (mark number : ℕ) (batches : List Batch) (batch : Batch) (t : Bool) → nat_lt mark number ≡ t → (if t then slice_get batches (number - 1) else None) ≡ Some batch → IsThere mark number batches batch
there mark number batches batch true is e = record { above_mark = grind (arith, nat_tests, is); is = e }
there mark number batches batch false is e = absurd (cc)

abbrev made : List (List Value) → BatchPart
made group = record { rows = group }

rows_of_made : (gs : List (List (List Value))) → joined (map (λ (p : BatchPart). p.rows) (map made gs)) ≡ joined gs
rows_of_made [] = refl
rows_of_made (g ∷ gs) = ap (λ (rs : List (List Value)). g ++ rs) (rows_of_made gs)

pub archive_shows : ArchiveShows
archive_shows entries archive number batch legal h is held =
    let mark = acked_upto entries in
    let batches = commits entries in
    let at = there mark number batches batch (nat_lt mark number) refl is in
    let higher = at.above_mark in
    let numbered = numbers entries legal in
    let place : number ≡ 1 + (number - 1) = omega (arith, higher) in
    let owned : batch.number ≡ 1 + (number - 1) = numbered_at 1 batches (number - 1) batch numbered at.is in
    let new : nat_lt mark batch.number ≡ true = grind (arith, nat_tests, higher, owned, place) in
    let only = only_one 1 batches (number - 1) batch number place numbered at.is in
    let parts : filter (λ (q : Part). q.number == number) archive.parts ≡ parts_of batch =
    ap (filter (λ (q : Part). q.number == number)) h.parts
    ∙ own_parts (λ (n : ℕ). n == number) (above mark batches)
    ∙ ap (flat_map parts_of) (filter_turned (is_own number) (λ (b : Batch). nat_lt mark b.number) batches ∙ ap (filter (λ (b : Batch). nat_lt mark b.number)) only ∙ ap (λ (t : Bool). cond t (batch ∷ []) []) new)
    ∙ append-nil (parts_of batch) in
    let gs = groups is_full batch.rows in
    let whole = groups_join is_full batch.rows in
    record {
      one = ap (λ (bs : List Batch). map batch_row (filter (is_own number) bs)) h.batches ∙ same_rows number batches ∙ ap (map batch_row) only;
      parts = map made gs;
      held = all_mapped IsBatchPart made gs (all_groups_hold (λ (row : List Value). AllByRecursion IsHeldValue row) gs (subst HoldsRows (sym whole) held));
      are = ap (map (λ (q : Part). part_row (batch_part q))) parts ∙ map-map (λ (q : Part). part_row (batch_part q)) (part batch.number) gs ∙ sym (map-map part_row made gs);
      same = rows_of_made gs ∙ whole;
    }

-- ---- which are fetched

is_there : (batches : List Batch) (k : ℕ) → nat_lt k (length batches) ≡ is_some (slice_get batches k)
is_there [] k = grind (arith, nat_tests)
is_there (b ∷ bs) zero = grind (arith, nat_tests)
is_there (b ∷ bs) (suc k) = let same : nat_lt (suc k) (suc (length bs)) ≡ nat_lt k (length bs) = grind (arith, nat_tests) in same ∙ is_there bs k

known : (mark number : ℕ) (batches : List Batch) (t : Bool) → nat_lt mark number ≡ t → (t && nat_le number (length batches)) ≡ is_some (if t then slice_get batches (number - 1) else None)
known mark number batches true is =
    let same : nat_le number (length batches) ≡ nat_lt (number - 1) (length batches) = grind (arith, nat_tests, is) in
    same ∙ is_there batches (number - 1)
known mark number batches false is = refl

pub fetch_is_known : FetchIsKnown
fetch_is_known entries kept number keeps =
    ap₂ (λ (acked batches : ℕ). nat_lt acked number && nat_le number batches) keeps.counts.acked keeps.counts.batches
    ∙ known (acked_upto entries) number (commits entries) (nat_lt (acked_upto entries) number) refl
