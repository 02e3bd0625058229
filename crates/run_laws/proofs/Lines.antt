-- A step of a source of changes is settled by its bytes.
use Rattle.std.proofs.Common.{◌≡◌, ◌⊎◌, inl, inr, ℕ, zero, suc, ◌+◌, ◌-◌, ◌*◌, ◌≤◌, ◌<◌, ◌==◌, Bool, true, false, List, [], ◌∷◌, ◌++◌, length, take, drop, map, refl, ap, sym, ◌∙◌, subst, arith, append_assoc, append-nil, length-append, Option, Some, None}
use Rattle.std.specs.Prelude.{All, if◌then◌else◌, unwrap_or}
use Rattle.std.proofs.Math.Nat.{suc-mul, mul-le-mul_right}
use Rattle.std.proofs.Math.Seq.{take-append-add}
use Rattle.std.proofs.lemmas.Bool.{cases_lt}
use Rattle.std.proofs.lemmas.List.Elements.{All-nil, All-cons, All-head, All-tail, All-append, All-weaker}
use Rattle.osq_value.specs.declared.reading.Category.{Category}
use Rattle.osq_value.specs.declared.source.SourceKind.{SourceKind}
use Rattle.osq_value.specs.declared.source.SourceKind.TheVariants.{Changes}
use Rattle.osq_value.specs.declared.value.Event.{Event}
use Rattle.record_lines.specs.Lines.{lines_behind, lines_of}
use Rattle.record_lines.proofs.Cuts.{lines_of-first}
use Rattle.change_records.specs.declared.change.Change.{Change}
use Rattle.change_records.specs.Changes.{change_of}
use Rattle.change_records.specs.Events.{FindsCategory, IsCategoryOf, IsEventOf, StandsBefore, file_event}
use Rattle.change_records.specs.Events as events
use Rattle.publisher_core.specs.declared.record.Gain.{Gain}
use Rattle.publisher_core.specs.declared.record.Gain.TheVariants as gain
use Rattle.publisher_core.specs.declared.record.ReadRecord.{ReadRecord}
use Rattle.publisher_core.specs.Readings.{readings_of}
use Rattle.publisher_core.specs.Records.{ChangeGives, HaveNoFeed, IsChangeLine, LinesGive, ended}
use Rattle.record_lines.specs.Limits.{STEP_BYTES}
use Rattle.publisher_core.proofs.Given.{size_ended}
use Rattle.source_feeds.specs.Taking.{Takes, TakesFront, front_lines}
use Rattle.source_feeds.proofs.Cuts.{begins_line, more_lines}
use Rattle.session_state.specs.Readings.{entry_of}
use Rattle.entry_model.specs.declared.entry.Entry.{Entry}
use Rattle.entry_model.specs.Values.{moment_of, taken_from}
use Rattle.session_model.specs.Taking.{GivesStep}
use Rattle.run_laws.specs.OneList.{LinesGiveOne}
use Rattle.run_laws.proofs.Names.{none_before, one_before}

at_seam : (P : Category → Type 0) (front : List Category) (x : Category) (behind : List Category) → All P (front ++ x ∷ behind) → P x
at_seam P [] x behind all = All-head P x behind all
at_seam P (first ∷ front) x behind all = at_seam P front x behind (All-tail P first (front ++ x ∷ behind) all)

module _ (path : List ℕ) (categories : List Category) where
  -- no category of the path stands before the one that it has
  first_of : (c : Category) → IsCategoryOf path categories c → All (λ (e : Category). events.Takes e path → StandsBefore e.name c.name → ⊥) categories
  first_of c is =
      let P : Category → Type 0 = λ (e : Category). events.Takes e path → StandsBefore e.name c.name → ⊥ in
      let front = All-weaker (λ (e : Category). events.Takes e path → StandsBefore c.name e.name) P (λ e before takes later. one_before c.name e.name (before takes) later) is.before is.before_it in
      subst (All P) (sym is.place) (All-append P is.before (c ∷ is.after) front (All-cons P c is.after (λ takes itself. one_before c.name c.name itself itself) is.after_it))

  names_same : (c d : Category) → IsCategoryOf path categories c → IsCategoryOf path categories d → c.name ≡ d.name
  names_same c d x y =
      let P : Category → Category → Type 0 = λ (f : Category) (e : Category). events.Takes e path → StandsBefore e.name f.name → ⊥ in
      none_before c.name d.name
      (at_seam (P d) x.before c x.after (subst (All (P d)) x.place (first_of d y)) x.takes)
      (at_seam (P c) y.before d y.after (subst (All (P c)) y.place (first_of c x)) y.takes)

  none_takes : (c : Category) → IsCategoryOf path categories c → All (λ (e : Category). events.Takes e path → ⊥) categories → ⊥
  none_takes c is none = at_seam (λ (e : Category). events.Takes e path → ⊥) is.before c is.after (subst (All (λ (e : Category). events.Takes e path → ⊥)) is.place none) is.takes

-- a change has one event or none
event_same : (change : Change) (paths : List Category) (one other : Option Event) → IsEventOf change paths one → IsEventOf change paths other → one ≡ other
event_same change paths None None x y = refl
event_same change paths None (Some e) x y = absurd (none_takes change.path paths y.0 y.1 x)
event_same change paths (Some e) None x y = absurd (none_takes change.path paths x.0 x.1 y)
event_same change paths (Some d) (Some e) x y =
    ap Some (x.2 ∙ (ap (file_event change) (names_same change.path paths x.0 y.0 x.1 y.1) ∙ sym y.2))

some_same : {X : Type 0} (x y : X) → Some x ≡ Some y → x ≡ y
some_same {X} x y e = ap (λ (o : Option X). unwrap_or o x) e

-- a line is that of one change
change_same : (line : List ℕ) (one other : Change) → IsChangeLine line one → IsChangeLine line other → one ≡ other
change_same line one other x y =
    some_same one other (sym x.form ∙ (ap change_of (some_same x.value y.value (sym x.json ∙ y.json)) ∙ y.form))

gain_same : (paths : List Category) (line : List ℕ) (one other : Gain) → ChangeGives paths line one → ChangeGives paths line other → one ≡ other
gain_same paths line one other (inl x) (inl y) =
    let changes = change_same line x.0 y.0 x.2 y.2 in
    let both = event_same y.0 paths x.1 y.1 (subst (λ (c : Change). IsEventOf c paths x.1) changes x.3) y.3 in
    x.4 ∙ (ap (λ (e : Option Event). gain.Event e 0) both ∙ sym y.4)
gain_same paths line one other (inl x) (inr y) = absurd (y.0 x.0 x.2)
gain_same paths line one other (inr x) (inl y) = absurd (x.0 y.0 y.2)
gain_same paths line one other (inr x) (inr y) = x.1 ∙ sym y.1

abbrev record_with : Gain → ℕ → ReadRecord
record_with given end = record { gain = given; end = end }

-- lines give one list of records, with one for each
records_same : (paths : List Category) (start : ℕ) (lines : List (List ℕ)) (one other : List ReadRecord) → LinesGive (ChangeGives paths) start lines one → LinesGive (ChangeGives paths) start lines other → one ≡ other
records_same paths start [] [] [] x y = refl
records_same paths start [] [] (q ∷ qs) x y = absurd y
records_same paths start [] (p ∷ ps) other x y = absurd x
records_same paths start (line ∷ lines) [] other x y = absurd x
records_same paths start (line ∷ lines) (p ∷ ps) [] x y = absurd y
records_same paths start (line ∷ lines) (p ∷ ps) (q ∷ qs) x y =
    let gains = gain_same paths line p.gain q.gain x.0 y.0 in
    let ends = x.1 ∙ sym y.1 in
    let rest = records_same paths (start + length line + 1) lines ps qs x.2 y.2 in
    ap (λ (g : Gain). record_with g p.end ∷ ps) gains ∙ (ap (λ (n : ℕ). record_with q.gain n ∷ ps) ends ∙ ap (λ (rs : List ReadRecord). q ∷ rs) rest)

records_count : (paths : List Category) (start : ℕ) (lines : List (List ℕ)) (pieces : List ReadRecord) → LinesGive (ChangeGives paths) start lines pieces → length pieces ≡ length lines
records_count paths start [] [] x = refl
records_count paths start [] (p ∷ ps) x = absurd x
records_count paths start (line ∷ lines) [] x = absurd x
records_count paths start (line ∷ lines) (p ∷ ps) x = ap suc (records_count paths (start + length line + 1) lines ps x.2)

-- the lines of bytes that begin with lines
lines_first : (lines : List (List ℕ)) (rest : List ℕ) → HaveNoFeed lines → lines_of (ended lines ++ rest) ≡ lines ++ lines_of rest
lines_first [] rest plain = refl
lines_first (line ∷ lines) rest plain =
    ap lines_of (begins_line line lines rest) ∙ lines_of-first line (ended lines ++ rest) plain.0 ∙ ap (λ (ls : List (List ℕ)). line ∷ ls) (lines_first lines rest plain.1)

abbrev IsShort : ℕ → List ℕ → Type 0
IsShort most line = length line ≤ most

-- with fewer bytes in front the first line is no longer
fewer_front : (most : ℕ) (more begun bytes : List ℕ) → All (IsShort most) (lines_behind (more ++ begun) bytes) → All (IsShort most) (lines_behind begun bytes)
fewer_front most more begun [] all = All-nil (IsShort most)
fewer_front most more begun (byte ∷ bytes) all = by_feed (byte == 10) (fewer_front most more (begun ++ byte ∷ []) bytes) all where
  by_feed : (feed : Bool) → (All (IsShort most) (lines_behind (more ++ (begun ++ byte ∷ [])) bytes) → All (IsShort most) (lines_behind (begun ++ byte ∷ []) bytes))
      → All (IsShort most) (if feed then (more ++ begun) ∷ lines_behind [] bytes else lines_behind ((more ++ begun) ++ byte ∷ []) bytes) → All (IsShort most) (if feed then begun ∷ lines_behind [] bytes else lines_behind (begun ++ byte ∷ []) bytes)
  by_feed true further h =
      let size = length-append more begun in
      let first = All-head (IsShort most) (more ++ begun) (lines_behind [] bytes) h in
      All-cons (IsShort most) begun (lines_behind [] bytes) (omega (arith, size, first)) (All-tail (IsShort most) (more ++ begun) (lines_behind [] bytes) h)
  by_feed false further h = further (subst (λ (bs : List ℕ). All (IsShort most) (lines_behind bs bytes)) (append_assoc more begun (byte ∷ [])) h)

-- the lines behind an offset are no longer than those of all bytes
short_behind : (most from : ℕ) (bytes : List ℕ) → All (IsShort most) (lines_of bytes) → All (IsShort most) (lines_of (drop from bytes))
unfolding lines_of
short_behind most zero bytes all = all
short_behind most (suc from) [] all = all
short_behind most (suc from) (byte ∷ bytes) all = short_behind most from bytes (by_feed (byte == 10) all) where
  by_feed : (feed : Bool) → All (IsShort most) (if feed then [] ∷ lines_behind [] bytes else lines_behind (byte ∷ []) bytes) → All (IsShort most) (lines_behind [] bytes)
  by_feed true h = All-tail (IsShort most) [] (lines_behind [] bytes) h
  by_feed false h = fewer_front most (byte ∷ []) [] bytes h

front_short : (most : ℕ) (front behind : List (List ℕ)) → All (IsShort most) (front ++ behind) → All (IsShort most) front
front_short most [] behind all = All-nil (IsShort most)
front_short most (line ∷ front) behind all =
    All-cons (IsShort most) line front (All-head (IsShort most) line (front ++ behind) all) (front_short most front behind (All-tail (IsShort most) line (front ++ behind) all))

size_short : (most : ℕ) (lines : List (List ℕ)) → All (IsShort most) lines → length (ended lines) ≤ length lines * (most + 1)
size_short most [] all = omega arith
size_short most (line ∷ lines) all =
    let first = All-head (IsShort most) line lines all in
    let rest = size_short most lines (All-tail (IsShort most) line lines all) in
    let size = size_ended line lines in
    let product = suc-mul (length lines) (most + 1) in
    omega (arith, first, rest, size, product)

-- one step reads these lines of the bytes, by what it may take
module _ (paths : List Category) (records from most : ℕ) (left : List ℕ) (fit : records * (most + 1) ≤ STEP_BYTES) (short : All (IsShort most) (lines_of left)) where
  abbrev Took : Type 0
  Took = (pieces : List ReadRecord) × (to : ℕ) × Takes Changes paths from left records pieces to

  lines_in : Took → List (List ℕ)
  lines_in t = t.2.reads.lines

  few_lines : (t : Took) → length t.2.reads.lines ≤ records
  few_lines t =
      let count = records_count paths from t.2.reads.lines t.0 t.2.reads.gives in
      let few = t.2.few in
      omega (arith, count, few)

  lines_are : (t : Took) → lines_of left ≡ t.2.reads.lines ++ lines_of t.2.reads.rest
  lines_are t = ap lines_of t.2.reads.cut ∙ lines_first t.2.reads.lines t.2.reads.rest t.2.reads.plain

  -- all of its lines are among the first 16777216 bytes
  within : (t : Took) → length (ended t.2.reads.lines) ≤ STEP_BYTES
  within t =
      let shorts = front_short most t.2.reads.lines (lines_of t.2.reads.rest) (subst (All (IsShort most)) (lines_are t) short) in
      let size = size_short most t.2.reads.lines shorts in
      let product = mul-le-mul_right (most + 1) (few_lines t) in
      omega (arith, size, product, fit)

  front_has : (t : Took) → (more : List (List ℕ)) × (front_lines left ≡ t.2.reads.lines ++ more)
  front_has t =
      let lines = t.2.reads.lines in
      let rest = t.2.reads.rest in
      let size = length (ended lines) in
      let some = STEP_BYTES - size in
      let inside = within t in
      let whole : size + some ≡ STEP_BYTES = omega (arith, inside) in
      let cut : take STEP_BYTES left ≡ ended lines ++ take some rest =
      ap (take STEP_BYTES) t.2.reads.cut ∙ (ap (λ (n : ℕ). take n (ended lines ++ rest)) (sym whole) ∙ take-append-add (ended lines) rest some) in
      (lines_of (take some rest), ap lines_of cut ∙ lines_first lines (take some rest) t.2.reads.plain)

  -- a step has at least the lines of another one
  has_all : (t u : Took) → length u.2.reads.lines ≤ length t.2.reads.lines
  has_all t u = by_all t.2.all where
    by_all : (length t.0 ≡ records) ⊎ TakesFront Changes from left t.2.reads.lines → length u.2.reads.lines ≤ length t.2.reads.lines
    by_all (inl full) =
        let count = records_count paths from t.2.reads.lines t.0 t.2.reads.gives in
        let few = few_lines u in
        omega (arith, full, count, few)
    by_all (inr front) =
        let has = front_has u in
        let mine = ap length front.1 ∙ length-append (front_lines left) front.0 in
        let theirs = ap length has.1 ∙ length-append u.2.reads.lines has.0 in
        omega (arith, mine, theirs)

  -- where the one spelling is no longer than the other, the lines are the same
  lines_by : (t u : Took) → length (ended t.2.reads.lines) ≤ length (ended u.2.reads.lines) → t.2.reads.lines ≡ u.2.reads.lines
  lines_by t u shorter =
      let begins = more_lines t.2.reads.lines u.2.reads.lines t.2.reads.rest u.2.reads.rest t.2.reads.plain u.2.reads.plain (sym t.2.reads.cut ∙ u.2.reads.cut) shorter in
      let size = ap length begins.1 ∙ length-append t.2.reads.lines begins.0 in
      let many = has_all t u in
      sym (append-nil t.2.reads.lines) ∙ (ap (λ (ls : List (List ℕ)). t.2.reads.lines ++ ls) (sym (empty begins.0 (omega (arith, size, many)))) ∙ sym begins.1) where
        empty : (ls : List (List ℕ)) → length ls ≡ 0 → ls ≡ []
        empty [] none = refl
        empty (l ∷ ls) none = absurd (let bad = none in omega (arith, bad))

  lines_both : (t u : Took) → t.2.reads.lines ≡ u.2.reads.lines
  lines_both t u = by_size (cases_lt (length (ended u.2.reads.lines)) (length (ended t.2.reads.lines))) where
    by_size : (length (ended u.2.reads.lines) < length (ended t.2.reads.lines)) ⊎ (length (ended t.2.reads.lines) ≤ length (ended u.2.reads.lines)) → t.2.reads.lines ≡ u.2.reads.lines
    by_size (inl more) = sym (lines_by u t (omega (arith, more)))
    by_size (inr less) = lines_by t u less

  pieces_same : (t u : Took) → t.0 ≡ u.0
  pieces_same t u =
      records_same paths from u.2.reads.lines t.0 u.0 (subst (λ (ls : List (List ℕ)). LinesGive (ChangeGives paths) from ls t.0) (lines_both t u) t.2.reads.gives) u.2.reads.gives

pub lines_give_one : (tells : Type 0) → LinesGiveOne tells
lines_give_one tells given source told kind lines kept one other x y =
    let paths = given.config.categories in
    let from = taken_from kept source.name in
    let left = drop from source.bytes in
    let takes : (s : List Entry) (step : GivesStep tells given kept source s) → Takes Changes paths from left given.records step.pieces step.to =
    λ s step. subst (λ (k : SourceKind). Takes k paths from left given.records step.pieces step.to) kind (step.takes told) in
    let same = pieces_same paths given.records from lines.most left lines.fit (short_behind lines.most from source.bytes lines.short) (x.pieces, x.to, takes one x) (y.pieces, y.to, takes other y) in
    x.are ∙ (ap (λ (ps : List ReadRecord). map (entry_of source.name (moment_of kept)) (readings_of source.kind ps)) same ∙ sym y.are)
