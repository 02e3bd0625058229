-- What a gathering stands for, as lines come and records are given.
use Rattle.std.proofs.Common.{Result, Ok, Err, OnOk, ◌≡◌, ℕ, suc, ◌+◌, Bool, true, false, cond, IsTrue, IfSome, IfNone, is_some, is_none, List, [], ◌∷◌, ◌++◌, length, map, Option, Some, None, refl, arith, sym, ap, subst, ◌∙◌, append_assoc, length-append}
use Rattle.std.specs.List.{filter}
use Rattle.std.specs.Option.{option_to_list}
use Rattle.std.proofs.lemmas.List.{append-nil, map-append}
use Rattle.std.proofs.lemmas.List.Elements.{filter-append}
use Rattle.std.proofs.lemmas.Bool.{true≢false}
use Rattle.audit_records.specs.declared.line.AuditLine.{AuditLine}
use Rattle.audit_records.specs.Groups.{is_ended, goes_on, own_group, whole, HasGrouped as StandsForGroups}
use Rattle.audit_records.proofs.Builds.{stands_new}
use Rattle.publisher_core.specs.declared.gathering.AuditRecord.{AuditRecord}
use Rattle.publisher_core.specs.declared.gathering.Gathering.{Gathering}
use Rattle.publisher_core.specs.AuditParts.{Item, lines_in, skipped_in, groups_in, BeginsWithLine, EndsWithLine, AreRecordsOf}
use Rattle.publisher_core.specs.Gathered.{skipped_line, lone, ended_records, IsBody, Holds, HoldsNothing, Keeps, HasGathered, Gains}
use Rattle.publisher_core.proofs.Parts.{AreParts, parts_append, parts_one, parts_lone, parts_of, records_are, records_none, groups_in-append, groups_in-lone, lines_in-append, lines_in-skipped}

skipped_in-append : (front back : List Item) → skipped_in (front ++ back) ≡ skipped_in front + skipped_in back
skipped_in-append front back =
    ap length (filter-append (λ item. is_none item.line) front back) ∙ length-append (filter (λ item. is_none item.line) front) (filter (λ item. is_none item.line) back)

skipped_in-skipped : (ends : List ℕ) → skipped_in (map skipped_line ends) ≡ length ends
skipped_in-skipped [] = refl
skipped_in-skipped (end ∷ ends) = ap suc (skipped_in-skipped ends)

begins_more : (items more : List Item) → BeginsWithLine items → BeginsWithLine (items ++ more)
begins_more [] more begins = absurd begins
begins_more (item ∷ items) more begins = begins

begins_line : (items : List Item) → BeginsWithLine items → lines_in items ≡ [] → ⊥
begins_line [] begins none = begins
begins_line (item ∷ items) begins none = by_line item.line begins none where
  by_line : (line : Option AuditLine) → IsTrue (is_some line) → lines_in (record { line = line; end = item.end } ∷ items) ≡ [] → ⊥
  by_line (Some line) some none = cc
  by_line None some none = true≢false (sym some)

-- the lines of what is held are those of the group
lines_held : (held : List Item) (gathering : Gathering) → Holds held gathering → lines_in held ≡ gathering.builder
lines_held held gathering holds =
    ap lines_in (sym holds.joined)
    ∙ lines_in-append holds.body (map skipped_line gathering.behind.items)
    ∙ ap (λ (lines : List AuditLine). lines_in holds.body ++ lines) (lines_in-skipped gathering.behind.items)
    ∙ append-nil (lines_in holds.body)
    ∙ holds.lines

skipped_held : (held : List Item) (gathering : Gathering) → Holds held gathering → skipped_in held ≡ gathering.inside + length gathering.behind.items
skipped_held held gathering holds =
    ap skipped_in (sym holds.joined)
    ∙ skipped_in-append holds.body (map skipped_line gathering.behind.items)
    ∙ ap (λ (n : ℕ). skipped_in holds.body + n) (skipped_in-skipped gathering.behind.items)
    ∙ ap (λ (n : ℕ). n + length gathering.behind.items) (sym holds.skipped)

-- where no group is held nothing is
none_held : (held : List Item) (gathering : Gathering) → Holds held gathering → gathering.holds ≡ false → (held ≡ []) × HoldsNothing gathering
none_held held gathering holds none =
    let body = subst (λ (b : Bool). IsBody b holds.body gathering) none holds.is_body in (
      sym holds.joined ∙ ap (λ (items : List Item). items ++ map skipped_line gathering.behind.items) body.0 ∙ ap (λ (ends : List ℕ). map skipped_line ends) body.1,
      record { none = none; lines = sym holds.lines ∙ ap lines_in body.0; skipped = holds.skipped ∙ ap skipped_in body.0; behind = body.1 },
    )

begins_held : (held : List Item) (gathering : Gathering) → Holds held gathering → gathering.holds ≡ true → BeginsWithLine held
begins_held held gathering holds some =
    let body = subst (λ (b : Bool). IsBody b holds.body gathering) some holds.is_body in
    subst BeginsWithLine holds.joined (begins_more holds.body (map skipped_line gathering.behind.items) body.0)

-- a skipped line is in no group
skipped_groups : (given : List AuditRecord) (items : List Item) (gathering : Gathering) (end : ℕ) → StandsForGroups (groups_in given) (lines_in items) gathering.builder → StandsForGroups (groups_in given) (lines_in (items ++ skipped_line end ∷ [])) gathering.builder
skipped_groups given items gathering end groups =
    subst (λ (lines : List AuditLine). StandsForGroups (groups_in given) lines gathering.builder) (sym (lines_in-append items (skipped_line end ∷ []) ∙ append-nil (lines_in items))) groups

-- a group that is held has a line
some_held : (held : List Item) (gathering : Gathering) → Holds held gathering → gathering.holds ≡ true → gathering.builder ≡ [] → ⊥
some_held held gathering holds some none =
    let body = subst (λ (b : Bool). IsBody b holds.body gathering) some holds.is_body in
    begins_line holds.body body.0 (holds.lines ∙ none)

-- where the group ends, what is held is cut into its records
held_parts : (held : List Item) (gathering : Gathering) → Holds held gathering → gathering.holds ≡ true → AreParts held (ended_records gathering gathering.builder)
held_parts held gathering holds some =
    let body = subst (λ (b : Bool). IsBody b holds.body gathering) some holds.is_body in
    let made : AuditRecord = record { group = Some gathering.builder; skipped = gathering.inside; end = gathering.last } in
    let group : AreParts holds.body (made ∷ []) = parts_one holds.body made (record { begins = body.0; ends = body.1; lines = holds.lines; skipped = holds.skipped }) in
    subst (λ (items : List Item). AreParts items (ended_records gathering gathering.builder)) holds.joined (parts_append group (parts_lone gathering.behind.items))

groups_in-ended : (gathering : Gathering) (group : List AuditLine) → groups_in (ended_records gathering group) ≡ group ∷ []
groups_in-ended gathering group = ap (λ (groups : List (List AuditLine)). group ∷ groups) (groups_in-lone gathering.behind.items)

nothing_holds : (gathering : Gathering) → HoldsNothing gathering → Holds [] gathering
nothing_holds gathering nothing = record {
  body = [];
  joined = ap (λ (ends : List ℕ). map skipped_line ends) nothing.behind;
  is_body = subst (λ (b : Bool). IsBody b [] gathering) (sym nothing.none) (refl, nothing.behind);
  lines = sym nothing.lines;
  skipped = nothing.skipped;
}

pub nothing_stands : (gathering : Gathering) → HoldsNothing gathering → HasGathered [] [] gathering
nothing_stands gathering nothing = record {
  keeps = record {
    front = [];
    held = [];
    joined = refl;
    records = records_none;
    holds = nothing_holds gathering nothing;
    groups = subst (λ (lines : List AuditLine). StandsForGroups [] [] lines) (sym nothing.lines) stands_new;
  };
  unended = ap is_ended nothing.lines;
}

-- everything that came is given, and nothing is held
pub all_given : (given : List AuditRecord) (items : List Item) (gathering : Gathering) → AreParts items given → HoldsNothing gathering → StandsForGroups (groups_in given) (lines_in items) gathering.builder → HasGathered given items gathering
all_given given items gathering cut nothing groups = record {
  keeps = record {
    front = items;
    held = [];
    joined = append-nil items;
    records = records_are items given (lines_in items) gathering.builder cut groups;
    holds = nothing_holds gathering nothing;
    groups = groups;
  };
  unended = ap is_ended nothing.lines;
}

-- the items of the log so far are cut into the records given and those of the group that ends now
pub parts_ended : (given : List AuditRecord) (items : List Item) (gathering : Gathering) (group : List AuditLine) → Keeps given items gathering → gathering.holds ≡ true → group ≡ gathering.builder → AreParts items (given ++ ended_records gathering group)
parts_ended given items gathering group keeps some is =
    subst (λ (lines : List AuditLine). AreParts items (given ++ ended_records gathering lines)) (sym is)
    (subst (λ (all : List Item). AreParts all (given ++ ended_records gathering gathering.builder)) keeps.joined (parts_append (parts_of keeps.records) (held_parts keeps.held gathering keeps.holds some)))

pub groups_ended : (given : List AuditRecord) (gathering : Gathering) (group : List AuditLine) → groups_in (given ++ ended_records gathering group) ≡ groups_in given ++ group ∷ []
groups_ended given gathering group = groups_in-append given (ended_records gathering group) ∙ ap (λ (groups : List (List AuditLine)). groups_in given ++ groups) (groups_in-ended gathering group)

pub by_holds : {C : Type 0} (gathering : Gathering) → (gathering.holds ≡ true → C) → (gathering.holds ≡ false → C) → C
by_holds {C = C} gathering some none = by_bool gathering.holds refl where
  by_bool : (b : Bool) → gathering.holds ≡ b → C
  by_bool true is = some is
  by_bool false is = none is

-- lines that are held are a group's
pub lines_hold : (given : List AuditRecord) (items : List Item) (gathering : Gathering) → Keeps given items gathering → (gathering.builder ≡ [] → ⊥) → gathering.holds ≡ true
lines_hold given items gathering keeps lines = by_holds gathering (λ some. some) (λ none. absurd (lines (none_held keeps.held gathering keeps.holds none).1.lines))

-- where no lines are held nothing is
pub no_lines_hold : (given : List AuditRecord) (items : List Item) (gathering : Gathering) → Keeps given items gathering → gathering.builder ≡ [] → gathering.holds ≡ false
no_lines_hold given items gathering keeps none = by_holds gathering (λ some. absurd (some_held keeps.held gathering keeps.holds some none)) (λ no. no)

pub nothing_kept : (given : List AuditRecord) (items : List Item) (gathering : Gathering) → Keeps given items gathering → gathering.holds ≡ false → (AreRecordsOf items given) × HoldsNothing gathering
nothing_kept given items gathering keeps none =
    let no = none_held keeps.held gathering keeps.holds none in
    let all : keeps.front ≡ items = sym (append-nil keeps.front) ∙ ap (λ (held : List Item). keeps.front ++ held) (sym no.0) ∙ keeps.joined in
    (subst (λ (front : List Item). AreRecordsOf front given) all keeps.records, no.1)

-- the line goes on with what is held, and the skipped lines that waited stand inside the group
keeps_on : (given : List AuditRecord) (items : List Item) (old new : Gathering) (line : AuditLine) (end : ℕ) → Keeps given items old → new.builder ≡ old.builder ++ line ∷ [] → new.inside ≡ old.inside + length old.behind.items → new.behind.items ≡ [] → new.last ≡ end → new.holds ≡ true → StandsForGroups (groups_in given) (lines_in items ++ line ∷ []) new.builder → Keeps given (items ++ record { line = Some line; end = end } ∷ []) new
keeps_on given items old new line end keeps lines inside behind last some groups =
    let item : Item = record { line = Some line; end = end } in
    let body : List Item = keeps.held ++ item ∷ [] in
    let begins : BeginsWithLine body = by_holds old
    (λ (held : old.holds ≡ true). begins_more keeps.held (item ∷ []) (begins_held keeps.held old keeps.holds held))
    (λ (none : old.holds ≡ false). subst (λ (held : List Item). BeginsWithLine (held ++ item ∷ [])) (sym (none_held keeps.held old keeps.holds none).0) refl) in
    let ends : EndsWithLine body new.last = subst (λ (n : ℕ). EndsWithLine body n) (sym last) (keeps.held, (line, refl)) in
    let skipped : skipped_in body ≡ skipped_in keeps.held + 0 = skipped_in-append keeps.held (item ∷ []) in
    let inner : skipped_in keeps.held ≡ old.inside + length old.behind.items = skipped_held keeps.held old keeps.holds in
    record {
      front = keeps.front;
      held = body;
      joined = sym (append_assoc keeps.front keeps.held (item ∷ [])) ∙ ap (λ (all : List Item). all ++ item ∷ []) keeps.joined;
      records = keeps.records;
      holds = record {
        body = body;
        joined = ap (λ (ends : List ℕ). body ++ map skipped_line ends) behind ∙ append-nil body;
        is_body = subst (λ (b : Bool). IsBody b body new) (sym some) (begins, ends);
        lines = lines_in-append keeps.held (item ∷ []) ∙ ap (λ (ls : List AuditLine). ls ++ line ∷ []) (lines_held keeps.held old keeps.holds) ∙ sym lines;
        skipped = omega arith;
      };
      groups = subst (λ (ls : List AuditLine). StandsForGroups (groups_in given) ls new.builder) (sym (lines_in-append items (item ∷ []))) groups;
    }

-- the line begins a group, and the records of the group before it were given
keeps_begun : (given : List AuditRecord) (items : List Item) (new : Gathering) (line : AuditLine) (end : ℕ) → AreParts items given → new.builder ≡ line ∷ [] → new.inside ≡ 0 → new.behind.items ≡ [] → new.last ≡ end → new.holds ≡ true → StandsForGroups (groups_in given) (lines_in items ++ line ∷ []) new.builder → Keeps given (items ++ record { line = Some line; end = end } ∷ []) new
keeps_begun given items new line end cut lines inside behind last some groups =
    let item : Item = record { line = Some line; end = end } in
    let ends : EndsWithLine (item ∷ []) new.last = subst (λ (n : ℕ). EndsWithLine (item ∷ []) n) (sym last) ([], (line, refl)) in
    record {
      front = items;
      held = item ∷ [];
      joined = refl;
      records = records_are items given (lines_in items ++ line ∷ []) new.builder cut groups;
      holds = record {
        body = item ∷ [];
        joined = ap (λ (ends : List ℕ). item ∷ map skipped_line ends) behind;
        is_body = subst (λ (b : Bool). IsBody b (item ∷ []) new) (sym some) (refl, ends);
        lines = sym lines;
        skipped = inside;
      };
      groups = subst (λ (ls : List AuditLine). StandsForGroups (groups_in given) ls new.builder) (sym (lines_in-append items (item ∷ []))) groups;
    }

-- a line was put into the builder, and what became of the group before it was settled
pub settled : (given : List AuditRecord) (items : List Item) (old new : Gathering) (line : AuditLine) (end : ℕ) (before : Option (List AuditLine)) (records_old records_new : List AuditRecord) → Keeps given items old → before ≡ cond (goes_on old.builder line) None (Some old.builder) → new.builder ≡ cond (goes_on old.builder line) (old.builder ++ line ∷ []) (line ∷ []) → StandsForGroups (groups_in given ++ option_to_list before) (lines_in items ++ line ∷ []) new.builder → IfSome before (λ group. (records_new ≡ records_old ++ ended_records old group) × (new.inside ≡ 0)) → IfNone before ((records_new ≡ records_old) × (new.inside ≡ old.inside + length old.behind.items)) → new.behind.items ≡ [] → new.last ≡ end → new.holds ≡ true → Gains (λ gained. Keeps (given ++ gained) (items ++ record { line = Some line; end = end } ∷ []) new) records_old records_new
settled given items old new line end before records_old records_new keeps before_is lines groups some none behind last holds =
    by_line (goes_on old.builder line) refl before_is lines where
      all : List Item
      all = items ++ record { line = Some line; end = end } ∷ []

      by_line : (on : Bool) → goes_on old.builder line ≡ on → before ≡ cond on None (Some old.builder) → new.builder ≡ cond on (old.builder ++ line ∷ []) (line ∷ []) → Gains (λ gained. Keeps (given ++ gained) (items ++ record { line = Some line; end = end } ∷ []) new) records_old records_new
      by_line true on is_none_before longer =
          let same = subst (λ (o : Option (List AuditLine)). IfNone o ((records_new ≡ records_old) × (new.inside ≡ old.inside + length old.behind.items))) is_none_before none in
          let here = subst (λ (o : Option (List AuditLine)). StandsForGroups (groups_in given ++ option_to_list o) (lines_in items ++ line ∷ []) new.builder) is_none_before groups in
          let here_too = subst (λ (gs : List (List AuditLine)). StandsForGroups gs (lines_in items ++ line ∷ []) new.builder) (append-nil (groups_in given)) here in
          ([], (same.0 ∙ sym (append-nil records_old), subst (λ (gs : List AuditRecord). Keeps gs (items ++ record { line = Some line; end = end } ∷ []) new) (sym (append-nil given)) (keeps_on given items old new line end keeps longer same.1 behind last holds here_too)))
      by_line false on is_some_before begun =
          let more = subst (λ (o : Option (List AuditLine)). IfSome o (λ group. (records_new ≡ records_old ++ ended_records old group) × (new.inside ≡ 0))) is_some_before some in
          let here = subst (λ (o : Option (List AuditLine)). StandsForGroups (groups_in given ++ option_to_list o) (lines_in items ++ line ∷ []) new.builder) is_some_before groups in
          let gained : List AuditRecord = ended_records old old.builder in
          let here_too = subst (λ (gs : List (List AuditLine)). StandsForGroups gs (lines_in items ++ line ∷ []) new.builder) (sym (groups_ended given old old.builder)) here in
          let held = lines_hold given items old keeps (λ (no : old.builder ≡ []). true≢false (sym (ap (λ (ls : List AuditLine). goes_on ls line) no) ∙ on)) in
          (gained, (more.0, keeps_begun (given ++ gained) items new line end (parts_ended given items old old.builder keeps held refl) begun more.1 behind last holds here_too))

pub waits : (given : List AuditRecord) (items : List Item) (old new : Gathering) (end : ℕ) → HasGathered given items old → old.holds ≡ true → new.builder ≡ old.builder → new.holds ≡ old.holds → new.last ≡ old.last → new.inside ≡ old.inside → new.behind.items ≡ old.behind.items ++ end ∷ [] → HasGathered given (items ++ skipped_line end ∷ []) new
waits given items old new end stands some lines holds last inside behind =
    let keeps = stands.keeps in
    let body = keeps.holds.body in
    let old_body : BeginsWithLine body × EndsWithLine body old.last = subst (λ (b : Bool). IsBody b body old) some keeps.holds.is_body in
    let more : map skipped_line new.behind.items ≡ map skipped_line old.behind.items ++ skipped_line end ∷ [] =
    ap (λ (ends : List ℕ). map skipped_line ends) behind ∙ map-append skipped_line old.behind.items (end ∷ []) in
    record {
      keeps = record {
        front = keeps.front;
        held = keeps.held ++ skipped_line end ∷ [];
        joined = sym (append_assoc keeps.front keeps.held (skipped_line end ∷ [])) ∙ ap (λ (all : List Item). all ++ skipped_line end ∷ []) keeps.joined;
        records = keeps.records;
        holds = record {
          body = body;
          joined = ap (λ (later : List Item). body ++ later) more ∙ sym (append_assoc body (map skipped_line old.behind.items) (skipped_line end ∷ [])) ∙ ap (λ (all : List Item). all ++ skipped_line end ∷ []) keeps.holds.joined;
          is_body = subst (λ (b : Bool). IsBody b body new) (sym (holds ∙ some)) (old_body.0, subst (λ (n : ℕ). EndsWithLine body n) (sym last) old_body.1);
          lines = keeps.holds.lines ∙ sym lines;
          skipped = inside ∙ keeps.holds.skipped;
        };
        groups = subst (λ (ls : List AuditLine). StandsForGroups (groups_in given) (lines_in (items ++ skipped_line end ∷ [])) ls) (sym lines) (skipped_groups given items old end keeps.groups);
      };
      unended = ap is_ended lines ∙ stands.unended;
    }

pub alone : (given : List AuditRecord) (items : List Item) (gathering : Gathering) (end : ℕ) → HasGathered given items gathering → gathering.holds ≡ false → HasGathered (given ++ lone end ∷ []) (items ++ skipped_line end ∷ []) gathering
alone given items gathering end stands none =
    let kept = nothing_kept given items gathering stands.keeps none in
    let one : AreParts (skipped_line end ∷ []) (lone end ∷ []) = parts_one (skipped_line end ∷ []) (lone end) (record { one = refl; skipped = refl }) in
    let groups : groups_in given ≡ groups_in (given ++ lone end ∷ []) = sym (groups_in-append given (lone end ∷ []) ∙ append-nil (groups_in given)) in
    all_given (given ++ lone end ∷ []) (items ++ skipped_line end ∷ []) gathering (parts_append (parts_of kept.0) one) kept.1
    (subst (λ (gs : List (List AuditLine)). StandsForGroups gs (lines_in (items ++ skipped_line end ∷ [])) gathering.builder) groups (skipped_groups given items gathering end stands.keeps.groups))

cons≢nil : {X : Type 0} → {x : X} → {xs : List X} → x ∷ xs ≡ [] → ⊥
cons≢nil e = cc

some≢none : {X : Type 0} → (x : X) → Some x ≡ None → ⊥
some≢none x e = cc

pub own_some : (lines group : List AuditLine) → Some group ≡ own_group lines → (is_ended lines ≡ true) × (group ≡ lines)
own_some lines group own = by_ended (is_ended lines) refl own where
  by_ended : (b : Bool) → is_ended lines ≡ b → Some group ≡ cond b (Some lines) None → (is_ended lines ≡ true) × (group ≡ lines)
  by_ended true is e = (is, cc)
  by_ended false is e = absurd (some≢none group e)

pub own_none : (lines : List AuditLine) → None ≡ own_group lines → is_ended lines ≡ false
own_none lines own = by_ended (is_ended lines) refl own where
  by_ended : (b : Bool) → is_ended lines ≡ b → None ≡ cond b (Some lines) None → is_ended lines ≡ false
  by_ended true is e = absurd (some≢none lines (sym e))
  by_ended false is e = is

pub whole_some : (lines group : List AuditLine) → group ∷ [] ≡ whole lines → (group ≡ lines) × ((lines ≡ []) → ⊥)
whole_some [] group e = absurd (cons≢nil e)
whole_some (line ∷ lines) group e = (cc, λ no. cons≢nil no)

pub whole_none : (lines : List AuditLine) → [] ≡ whole lines → lines ≡ []
whole_none [] e = refl
whole_none (line ∷ lines) e = absurd (cons≢nil (sym e))

pub on_ok : {T E P Q : Type 0} → (r : Result T E) → (P → Q) → OnOk r P → OnOk r Q
on_ok (Ok v) f p = f p
on_ok (Err e) f p = tt

pub on_both : {T E : Type 0} → (P Q : Type 0) → (r : Result T E) → OnOk r P → OnOk r Q → OnOk r (P × Q)
on_both P Q (Ok v) p q = (p, q)
on_both P Q (Err e) p q = tt

-- a group was given, and no line is left in the builder
pub gave_all : {T E : Type 0} → (r : Result T E) (gathering : Gathering) → OnOk r (gathering.behind.items ≡ []) → OnOk r (gathering.inside ≡ 0) → OnOk r (gathering.holds ≡ false) → gathering.builder ≡ [] → OnOk r (HoldsNothing gathering)
gave_all (Ok v) gathering behind inside holds lines = record { none = holds; lines = lines; skipped = inside; behind = behind }
gave_all (Err e) gathering behind inside holds lines = tt

-- the records gained later stand behind those gained before
pub gains_more : (given gained : List AuditRecord) (items : List Item) (new : Gathering) (before between after : List AuditRecord) → between ≡ before ++ gained → Gains (λ later. HasGathered ((given ++ gained) ++ later) items new) between after → Gains (λ all. HasGathered (given ++ all) items new) before after
gains_more given gained items new before between after is (later, last) =
    (gained ++ later, (last.0 ∙ ap (λ (rs : List AuditRecord). rs ++ later) is ∙ append_assoc before gained later, subst (λ (rs : List AuditRecord). HasGathered rs items new) (append_assoc given gained later) last.1))
