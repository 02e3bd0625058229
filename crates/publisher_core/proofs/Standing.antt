-- What a publisher stands for, as more lines are taken.
use Rattle.std.proofs.Common.{◌≡◌, ◌⊎◌, inl, inr, ℕ, ◌+◌, ◌<◌, ◌==◌, ◌&&◌, Bool, true, false, List, [], ◌∷◌, ◌++◌, length, map, take, drop, refl, sym, ap, subst, ◌∙◌, arith, append_assoc, length-append}
use Rattle.std.proofs.lemmas.List.{append-nil, append_cancel_left, take-append-drop, nil_from_length}
use Rattle.std.proofs.Math.Seq.{take-append_seam}
use Rattle.std.proofs.lemmas.Bool.{true≢false, eqb-true}
use Rattle.record_lines.specs.declared.line.Cut.{Cut}
use Rattle.record_lines.specs.Cutting as cutting
use Rattle.record_lines.specs.Lines.{HasNoFeed}
use Rattle.publisher_core.specs.declared.gathering.AuditRecord.{AuditRecord}
use Rattle.publisher_core.specs.declared.gathering.Gathering.{Gathering}
use Rattle.osq_value.specs.declared.source.SourceKind.{SourceKind}
use Rattle.osq_value.specs.declared.source.SourceKind.TheVariants.{Audit, Changes, Tables}
use Rattle.publisher_core.specs.declared.record.Gain.{Gain}
use Rattle.publisher_core.specs.declared.record.Found.{Found}
use Rattle.publisher_core.specs.declared.record.Found.TheVariants as found
use Rattle.publisher_core.specs.declared.record.Raw.{Raw}
use Rattle.audit_records.specs.declared.line.AuditLine.{AuditLine}
use Rattle.audit_records.specs.Groups.{groups_of, whole}
use Rattle.publisher_core.specs.AuditParts.{Item, AreRecordsOf, groups_in, lines_in}
use Rattle.publisher_core.proofs.Only.{groups_of_log}
use Rattle.publisher_core.specs.Gathered as gathered
use Rattle.publisher_core.specs.Audit.{items_of, line_in}
use Rattle.publisher_core.specs.Records.{ended, HaveNoFeed, TableGives}
use Rattle.publisher_core.specs.Found.{Finds, IsChangeFound, IsChangeRaw, IsFoundAs, IsTableFound, LinesAre}
use Rattle.publisher_core.specs.Standing.{Reader, HasFound, Waiting, AuditHolds, NoneWaits, HasGathered, is_at_end, limit_of}
use Rattle.publisher_core.specs.Stepping.{HoldsLast, IsDrained, TakesCut}
use Rattle.publisher_core.proofs.Parts.{records_split, records_none, records_end, lines_in-append, lines_in-skipped}
use Rattle.publisher_core.proofs.Given.{cut_more, plain_more, not_plain, size_more, lines_are_more, items_more, front_lines, last_end, as_many, items_of-append, length-items, more_bytes, none_more, zip_more}

-- a line was cut off where its source is not at its end
goes_on : (before reader : Reader) (given : List Found) (start : ℕ) (stream : List ℕ) (cut : Cut) → TakesCut before reader given start stream cut → before.is_ended ≡ true → ⊥
goes_on before reader given start stream cut t is_ended = not_plain t.line.line t.line.behind (subst HasNoFeed t.line.stream_is (t.stands.over is_ended))

-- the offset behind the line that was cut off
pub record CutOff (start : ℕ) (lines : List (List ℕ)) (line : List ℕ) (end : ℕ) : Type 0 where
  pub is : end ≡ start + length (ended lines) + length line + 1

-- one more line of a source that gives by lines, whose kind has them so
by_line : (kind : SourceKind) (Is : List ℕ → ℕ → Found → Type 0) (before reader after : Reader) (given : List Found) (start : ℕ) (stream : List ℕ) (cut : Cut) (one : Found) (end : ℕ)
    → (t : TakesCut before reader given start stream cut)
    → reader.kind ≡ kind
    → (Finds kind start t.stands.lines given → LinesAre Is start t.stands.lines given)
    → (LinesAre Is start (t.stands.lines ++ t.line.line ∷ []) (given ++ one ∷ []) → Finds kind start (t.stands.lines ++ t.line.line ∷ []) (given ++ one ∷ []))
    → (Waiting kind before given start t.stands.lines t.stands.held → NoneWaits before t.stands.held)
    → (NoneWaits after [] → Waiting kind after (given ++ one ∷ []) start (t.stands.lines ++ t.line.line ∷ []) [])
    → Is t.line.line end one
    → end ≡ start + length (ended (t.stands.lines ++ t.stands.held)) + length t.line.line + 1
    → after ≡ record reader { taken = end }
    → HasFound after (given ++ one ∷ []) start stream
by_line kind Is before reader after given start stream cut one end t is finds_old finds_new waits_old waits_new this at after_is =
    let s = t.stands in
    let kinds : before.kind ≡ kind = sym (ap (λ (r : Reader). r.kind) t.same) ∙ is in
    let waits = waits_old (subst (λ (k : SourceKind). Waiting k before given start s.lines s.held) kinds s.waits) in
    let all_lines : s.lines ++ s.held ≡ s.lines = ap (λ (h : List (List ℕ)). s.lines ++ h) waits.0 ∙ append-nil s.lines in
    let at_lines : end ≡ start + length (ended s.lines) + length t.line.line + 1 = at ∙ ap (λ (ls : List (List ℕ)). start + length (ended ls) + length t.line.line + 1) all_lines in
    let old : Finds kind start s.lines given = subst (λ (k : SourceKind). Finds k start s.lines given) kinds s.gives in
    let new : Finds kind start (s.lines ++ t.line.line ∷ []) (given ++ one ∷ []) =
    finds_new (lines_are_more Is start s.lines given t.line.line one (finds_old old) (subst (λ (n : ℕ). Is t.line.line n one) at_lines this)) in
    let after_kind : after.kind ≡ kind = ap (λ (r : Reader). r.kind) after_is ∙ is in
    let ready : after.ready ≡ [] = ap (λ (r : Reader). r.ready) after_is ∙ ap (λ (r : Reader). r.ready) t.same ∙ waits.1 in
    let cut_lines : stream ≡ ended s.lines ++ s.rest = s.cut ∙ ap (λ (ls : List (List ℕ)). ended ls ++ s.rest) all_lines in
    let size = size_more s.lines t.line.line in
    let cutter : after.cutter ≡ reader.cutter = ap (λ (r : Reader). r.cutter) after_is in
    let nil = append-nil (s.lines ++ t.line.line ∷ []) in
    let stands_at : start + length (ended (s.lines ++ s.held)) + length t.line.line + 1 ≡ start + length (ended ((s.lines ++ t.line.line ∷ []) ++ [])) =
    sym at ∙ at_lines ∙ omega (arith, size) ∙ ap (λ (ls : List (List ℕ)). start + length (ended ls)) (sym nil) in
    record {
      lines = s.lines ++ t.line.line ∷ [];
      held = [];
      rest = t.line.behind;
      cut = cut_more stream s.rest t.line.line t.line.behind s.lines cut_lines t.line.stream_is ∙ ap (λ (ls : List (List ℕ)). ended ls ++ t.line.behind) (sym nil);
      plain = subst HaveNoFeed (sym nil) (plain_more s.lines t.line.line (subst HaveNoFeed all_lines s.plain) t.line.plain);
      taken = ap (λ (r : Reader). r.taken) after_is ∙ at_lines ∙ omega (arith, size);
      gives = subst (λ (k : SourceKind). Finds k start (s.lines ++ t.line.line ∷ []) (given ++ one ∷ [])) (sym after_kind) new;
      waits = subst (λ (k : SourceKind). Waiting k after (given ++ one ∷ []) start (s.lines ++ t.line.line ∷ []) []) (sym after_kind) (waits_new (refl, ready));
      cutter = subst (λ (n : ℕ). cutting.HasCut after.cutter n t.line.behind) stands_at
          (subst (λ (k : cutting.Cutter). cutting.HasCut k (start + length (ended (s.lines ++ s.held)) + length t.line.line + 1) t.line.behind) (sym cutter) t.line.stands);
      limit = ap (λ (k : cutting.Cutter). k.limit) cutter ∙ t.line.limit ∙ s.limit ∙ ap limit_of (kinds ∙ sym after_kind);
      over = λ ended_is. absurd (goes_on before reader given start stream cut t (ap (λ (r : Reader). r.is_ended) (sym t.same) ∙ ap (λ (r : Reader). r.is_ended) (sym after_is) ∙ ended_is));
    }

pub change_given : (before reader after : Reader) (given : List Found) (start : ℕ) (stream : List ℕ) (cut : Cut) (raw : Raw) (end : ℕ)
    → (t : TakesCut before reader given start stream cut) → reader.kind ≡ Changes → IsChangeRaw t.line.line end raw
    → end ≡ start + length (ended (t.stands.lines ++ t.stands.held)) + length t.line.line + 1 → after ≡ record reader { taken = end }
    → HasFound after (given ++ found.Record raw ∷ []) start stream
change_given before reader after given start stream cut raw end t is one at after_is =
    by_line Changes IsChangeFound before reader after given start stream cut (found.Record raw) end t is (λ g. g) (λ g. g) (λ w. w) (λ w. w) (raw, one, refl) at after_is

pub table_given : (before reader after : Reader) (given : List Found) (start : ℕ) (stream : List ℕ) (cut : Cut) (gain : Gain) (end : ℕ)
    → (t : TakesCut before reader given start stream cut) → reader.kind ≡ Tables → TableGives t.line.line gain
    → end ≡ start + length (ended (t.stands.lines ++ t.stands.held)) + length t.line.line + 1 → after ≡ record reader { taken = end }
    → HasFound after (given ++ found.Table (record { gain = gain; end = end }) ∷ []) start stream
table_given before reader after given start stream cut gain end t is one at after_is =
    by_line Tables IsTableFound before reader after given start stream cut (found.Table (record { gain = gain; end = end })) end t is (λ g. g) (λ g. g) (λ w. w) (λ w. w) (gain, one, refl) at after_is

not_ended : (flag : Bool) → (flag ≡ true → ⊥) → flag ≡ false
not_ended true never = absurd (never refl)
not_ended false never = refl

-- what the gathering has of one more line
gathered_more : (before reader after : Reader) (given : List Found) (start : ℕ) (stream : List ℕ) (line : List ℕ) (end : ℕ) (lines held : List (List ℕ))
    → before.is_ended ≡ false → after.is_ended ≡ false → before.gathering ≡ reader.gathering → before.ready ≡ reader.ready
    → end ≡ start + length (ended (lines ++ held)) + length line + 1
    → gathered.Takes (record { line = line_in line; end = end }) reader.gathering after.gathering reader.ready after.ready
    → AuditHolds IsFoundAs before given start lines held → AuditHolds IsFoundAs after given start lines (held ++ line ∷ [])
gathered_more before reader after given start stream line end lines held open_is after_open gathering ready at takes waits =
    let stands_before : HasGathered false (waits.records ++ before.ready) start (lines ++ held) before.gathering = subst (λ (b : Bool). HasGathered b (waits.records ++ before.ready) start (lines ++ held) before.gathering) open_is waits.gathered in
    let stands_ready : gathered.HasGathered (waits.records ++ reader.ready) (items_of start (lines ++ held)) before.gathering = subst (λ (rs : List AuditRecord). gathered.HasGathered (waits.records ++ rs) (items_of start (lines ++ held)) before.gathering) ready stands_before in
    let stands : gathered.HasGathered (waits.records ++ reader.ready) (items_of start (lines ++ held)) reader.gathering = subst (λ (g : Gathering). gathered.HasGathered (waits.records ++ reader.ready) (items_of start (lines ++ held)) g) gathering stands_ready in
    let gains = takes (waits.records ++ reader.ready) (items_of start (lines ++ held)) stands in
    let items : items_of start (lines ++ held) ++ record { line = line_in line; end = end } ∷ [] ≡ items_of start (lines ++ (held ++ line ∷ [])) =
    ap (λ (n : ℕ). items_of start (lines ++ held) ++ record { line = line_in line; end = n } ∷ []) at ∙ sym (items_more start (lines ++ held) line) ∙ ap (items_of start) (append_assoc lines held (line ∷ [])) in
    let records : (waits.records ++ reader.ready) ++ gains.0 ≡ waits.records ++ after.ready = append_assoc waits.records reader.ready gains.0 ∙ ap (λ (rs : List AuditRecord). waits.records ++ rs) (sym gains.1.0) in
    let new : gathered.HasGathered (waits.records ++ after.ready) (items_of start (lines ++ (held ++ line ∷ []))) after.gathering =
    subst (λ (rs : List AuditRecord). gathered.HasGathered rs (items_of start (lines ++ (held ++ line ∷ []))) after.gathering) records
    (subst (λ (is : List Item). gathered.HasGathered ((waits.records ++ reader.ready) ++ gains.0) is after.gathering) items gains.1.1) in
    record {
      records = waits.records;
      are = waits.are;
      each = waits.each;
      gathered = subst (λ (b : Bool). HasGathered b (waits.records ++ after.ready) start (lines ++ (held ++ line ∷ [])) after.gathering) (sym after_open) new;
    }

-- one more line of an audit log was taken in
pub line_gathered : (before reader after : Reader) (given : List Found) (start : ℕ) (stream : List ℕ) (cut : Cut) (end : ℕ)
    → (t : TakesCut before reader given start stream cut) → reader.kind ≡ Audit
    → end ≡ start + length (ended (t.stands.lines ++ t.stands.held)) + length t.line.line + 1
    → gathered.Takes (record { line = line_in t.line.line; end = end }) reader.gathering after.gathering reader.ready after.ready
    → after ≡ record reader { gathering = after.gathering; ready = after.ready }
    → HasFound after given start stream
line_gathered before reader after given start stream cut end t is at takes after_is =
    let s = t.stands in
    let kinds : before.kind ≡ Audit = sym (ap (λ (r : Reader). r.kind) t.same) ∙ is in
    let after_kind : after.kind ≡ before.kind = ap (λ (r : Reader). r.kind) after_is ∙ ap (λ (r : Reader). r.kind) t.same in
    let after_ended : after.is_ended ≡ before.is_ended = ap (λ (r : Reader). r.is_ended) after_is ∙ ap (λ (r : Reader). r.is_ended) t.same in
    let open_is : before.is_ended ≡ false = not_ended before.is_ended (goes_on before reader given start stream cut t) in
    let gathering : before.gathering ≡ reader.gathering = sym (ap (λ (r : Reader). r.gathering) t.same) in
    let ready : before.ready ≡ reader.ready = sym (ap (λ (r : Reader). r.ready) t.same) in
    let waits : AuditHolds IsFoundAs before given start s.lines s.held = subst (λ (k : SourceKind). Waiting k before given start s.lines s.held) kinds s.waits in
    let more = gathered_more before reader after given start stream t.line.line end s.lines s.held open_is (after_ended ∙ open_is) gathering ready at takes waits in
    let all : (s.lines ++ s.held) ++ t.line.line ∷ [] ≡ s.lines ++ (s.held ++ t.line.line ∷ []) = append_assoc s.lines s.held (t.line.line ∷ []) in
    let cutter : after.cutter ≡ reader.cutter = ap (λ (r : Reader). r.cutter) after_is in
    let size = size_more (s.lines ++ s.held) t.line.line in
    let stands_at : start + length (ended (s.lines ++ s.held)) + length t.line.line + 1 ≡ start + length (ended (s.lines ++ (s.held ++ t.line.line ∷ []))) = omega (arith, size) ∙ ap (λ (ls : List (List ℕ)). start + length (ended ls)) all in
    record {
      lines = s.lines;
      held = s.held ++ t.line.line ∷ [];
      rest = t.line.behind;
      cut = cut_more stream s.rest t.line.line t.line.behind (s.lines ++ s.held) s.cut t.line.stream_is ∙ ap (λ (ls : List (List ℕ)). ended ls ++ t.line.behind) all;
      plain = subst HaveNoFeed all (plain_more (s.lines ++ s.held) t.line.line s.plain t.line.plain);
      taken = ap (λ (r : Reader). r.taken) after_is ∙ ap (λ (r : Reader). r.taken) t.same ∙ s.taken;
      gives = subst (λ (k : SourceKind). Finds k start s.lines given) (sym after_kind) s.gives;
      waits = subst (λ (k : SourceKind). Waiting k after given start s.lines (s.held ++ t.line.line ∷ [])) (sym (after_kind ∙ kinds)) more;
      cutter = subst (λ (n : ℕ). cutting.HasCut after.cutter n t.line.behind) stands_at
          (subst (λ (k : cutting.Cutter). cutting.HasCut k (start + length (ended (s.lines ++ s.held)) + length t.line.line + 1) t.line.behind) (sym cutter) t.line.stands);
      limit = ap (λ (k : cutting.Cutter). k.limit) cutter ∙ t.line.limit ∙ s.limit ∙ ap limit_of (sym after_kind);
      over = λ ended_is. absurd (goes_on before reader given start stream cut t (sym after_ended ∙ ended_is));
    }

-- the front of the lines whose records are known to be whole
record KnownFront (start : ℕ) (lines : List (List ℕ)) (records : List AuditRecord) : Type 0 where
  front : List Item
  back : List Item
  joined : front ++ back ≡ items_of start lines
  are : AreRecordsOf front records

known_front : (is_ended : Bool) (records : List AuditRecord) (start : ℕ) (lines : List (List ℕ)) (gathering : Gathering) → HasGathered is_ended records start lines gathering → KnownFront start lines records
known_front true records start lines gathering all = record { front = items_of start lines; back = []; joined = append-nil (items_of start lines); are = all }
known_front false records start lines gathering stands = record { front = stands.keeps.front; back = stands.keeps.held; joined = stands.keeps.joined; are = stands.keeps.records }

-- where the lines of one more record end among the lines
record OneMore (start : ℕ) (lines : List (List ℕ)) (records : List AuditRecord) (made : AuditRecord) : Type 0 where
  front : List (List ℕ)
  back : List (List ℕ)
  joined : front ++ back ≡ lines
  are : AreRecordsOf (items_of start front) (records ++ made ∷ [])
  end : made.end ≡ start + length (ended front)

one_more : (start : ℕ) (lines : List (List ℕ)) (records rest : List AuditRecord) (made : AuditRecord) → KnownFront start lines (records ++ made ∷ rest) → OneMore start lines records made
one_more start lines records rest made known =
    let split = records_split known.front (records ++ made ∷ []) rest (subst (AreRecordsOf known.front) (sym (append_assoc records (made ∷ []) rest)) known.are) in
    let joined : split.items_front ++ (split.items_back ++ known.back) ≡ items_of start lines =
    sym (append_assoc split.items_front split.items_back known.back) ∙ ap (λ (is : List Item). is ++ known.back) split.joined ∙ known.joined in
    let items = front_lines start lines split.items_front (split.items_back ++ known.back) joined in
    let ends = records_end split.items_front records made split.are_front in
    record {
      front = take (length split.items_front) lines;
      back = drop (length split.items_front) lines;
      joined = take-append-drop (length split.items_front) lines;
      are = subst (λ (is : List Item). AreRecordsOf is (records ++ made ∷ [])) (sym items) split.are_front;
      end = last_end start (take (length split.items_front) lines) ends.before (record { line = ends.line; end = made.end }) (items ∙ ends.is);
    }

no_record : (made : AuditRecord) (rest : List AuditRecord) → made ∷ rest ≡ [] → ⊥
no_record made rest e = let same = e in cc

-- a record that was whole is given
pub popped : (before after : Reader) (given : List Found) (start : ℕ) (stream : List ℕ) (made : AuditRecord) (piece : Found) (rest : List AuditRecord)
    → HasFound before given start stream → before.ready ≡ made ∷ rest → IsFoundAs made piece → after ≡ record before { taken = made.end; ready = rest }
    → HasFound after (given ++ piece ∷ []) start stream
popped before after given start stream made piece rest s ready is after_is = by_kind before.kind refl s.waits where
  by_kind : (kind : SourceKind) → before.kind ≡ kind → Waiting kind before given start s.lines s.held → HasFound after (given ++ piece ∷ []) start stream
  by_kind Changes kind waits = absurd (no_record made rest (sym ready ∙ waits.1))
  by_kind Tables kind waits = absurd (no_record made rest (sym ready ∙ waits.1))
  by_kind Audit kind waits =
      let known = known_front before.is_ended (waits.records ++ before.ready) start (s.lines ++ s.held) before.gathering waits.gathered in
      let more = one_more start (s.lines ++ s.held) waits.records rest made (subst (λ (rs : List AuditRecord). KnownFront start (s.lines ++ s.held) (waits.records ++ rs)) ready known) in
      let each = zip_more IsFoundAs waits.records given made piece waits.each is in
      let after_kind : after.kind ≡ before.kind = ap (λ (r : Reader). r.kind) after_is in
      let after_ready : after.ready ≡ rest = ap (λ (r : Reader). r.ready) after_is in
      let after_ended : after.is_ended ≡ before.is_ended = ap (λ (r : Reader). r.is_ended) after_is in
      let after_gathering : after.gathering ≡ before.gathering = ap (λ (r : Reader). r.gathering) after_is in
      let after_cutter : after.cutter ≡ before.cutter = ap (λ (r : Reader). r.cutter) after_is in
      let records : waits.records ++ before.ready ≡ (waits.records ++ made ∷ []) ++ after.ready =
      ap (λ (rs : List AuditRecord). waits.records ++ rs) (ready ∙ ap (λ (rs : List AuditRecord). made ∷ rs) (sym after_ready)) ∙ sym (append_assoc waits.records (made ∷ []) after.ready) in
      let all_gathered : HasGathered after.is_ended ((waits.records ++ made ∷ []) ++ after.ready) start (more.front ++ more.back) after.gathering =
      subst (λ (b : Bool). HasGathered b ((waits.records ++ made ∷ []) ++ after.ready) start (more.front ++ more.back) after.gathering) (sym after_ended)
      (subst (λ (g : Gathering). HasGathered before.is_ended ((waits.records ++ made ∷ []) ++ after.ready) start (more.front ++ more.back) g) (sym after_gathering)
      (subst (λ (ls : List (List ℕ)). HasGathered before.is_ended ((waits.records ++ made ∷ []) ++ after.ready) start ls before.gathering) (sym more.joined)
      (subst (λ (rs : List AuditRecord). HasGathered before.is_ended rs start (s.lines ++ s.held) before.gathering) records waits.gathered))) in
      let new_waits : AuditHolds IsFoundAs after (given ++ piece ∷ []) start more.front more.back = record { records = waits.records ++ made ∷ []; are = more.are; each = each; gathered = all_gathered } in
      record {
        lines = more.front;
        held = more.back;
        rest = s.rest;
        cut = s.cut ∙ ap (λ (ls : List (List ℕ)). ended ls ++ s.rest) (sym more.joined);
        plain = subst HaveNoFeed (sym more.joined) s.plain;
        taken = ap (λ (r : Reader). r.taken) after_is ∙ more.end;
        gives = subst (λ (k : SourceKind). Finds k start more.front (given ++ piece ∷ [])) (sym (after_kind ∙ kind)) (record { records = waits.records ++ made ∷ []; are = more.are; each = each });
        waits = subst (λ (k : SourceKind). Waiting k after (given ++ piece ∷ []) start more.front more.back) (sym (after_kind ∙ kind)) new_waits;
        cutter = subst (λ (k : cutting.Cutter). cutting.HasCut k (start + length (ended (more.front ++ more.back))) s.rest) (sym after_cutter)
            (subst (λ (ls : List (List ℕ)). cutting.HasCut before.cutter (start + length (ended ls)) s.rest) (sym more.joined) s.cutter);
        limit = ap (λ (k : cutting.Cutter). k.limit) after_cutter ∙ s.limit ∙ ap limit_of (sym after_kind);
        over = λ is_ended. s.over (sym after_ended ∙ is_ended);
      }

-- what the gathering holds are the lines that are held
holds_lines : (start : ℕ) (lines held : List (List ℕ)) (records : List AuditRecord) (gathering : Gathering) → AreRecordsOf (items_of start lines) records → gathered.HasGathered records (items_of start (lines ++ held)) gathering
    → gathering.builder ≡ lines_in (items_of (start + length (ended lines)) held)
holds_lines start lines held records gathering are stands =
    let keeps = stands.keeps in
    let all = items_of-append start lines held in
    let first : items_of start lines ≡ keeps.front =
    ap (items_of start) (sym (take-append_seam lines held) ∙ ap (λ (n : ℕ). take n (lines ++ held)) (sym (as_many start lines keeps.front records are keeps.records)))
    ∙ front_lines start (lines ++ held) keeps.front keeps.held keeps.joined in
    let rest : keeps.held ≡ items_of (start + length (ended lines)) held =
    append_cancel_left keeps.front keeps.held (items_of (start + length (ended lines)) held) (keeps.joined ∙ all ∙ ap (λ (is : List Item). is ++ items_of (start + length (ended lines)) held) first) in
    let h = keeps.holds in
    let skipped = lines_in-skipped gathering.behind.items in
    sym h.lines ∙ sym (append-nil (lines_in h.body)) ∙ ap (λ (ls : List AuditLine). lines_in h.body ++ ls) (sym skipped)
    ∙ sym (lines_in-append h.body (map gathered.skipped_line gathering.behind.items)) ∙ ap lines_in (h.joined ∙ rest)

-- the groups of all lines are those given, and the one that is held
held_last : (start : ℕ) (lines held : List (List ℕ)) (records : List AuditRecord) (gathering : Gathering) → AreRecordsOf (items_of start lines) records → gathered.HasGathered records (items_of start (lines ++ held)) gathering
    → groups_of (lines_in (items_of start (lines ++ held))) ≡ groups_in records ++ whole (lines_in (items_of (start + length (ended lines)) held))
held_last start lines held records gathering are stands =
    let none : List AuditLine = [] in
    let groups = stands.keeps.groups none in
    ap groups_of (sym (append-nil (lines_in (items_of start (lines ++ held))))) ∙ sym groups ∙ ap (λ (ls : List AuditLine). groups_in records ++ whole ls) (holds_lines start lines held records gathering are stands)

-- at the source's end no line is held
ended_last : (start : ℕ) (lines held : List (List ℕ)) (records : List AuditRecord) → AreRecordsOf (items_of start lines) records → held ≡ []
    → groups_of (lines_in (items_of start (lines ++ held))) ≡ groups_in records ++ whole (lines_in (items_of (start + length (ended lines)) held))
ended_last start lines held records are none =
    let short : lines ++ held ≡ lines = ap (λ (h : List (List ℕ)). lines ++ h) none ∙ append-nil lines in
    ap (λ (ls : List (List ℕ)). groups_of (lines_in (items_of start ls))) short ∙ sym (groups_of_log (items_of start lines) records are) ∙ sym (append-nil (groups_in records))
    ∙ ap (λ (h : List (List ℕ)). groups_in records ++ whole (lines_in (items_of (start + length (ended lines)) h))) (sym none)

-- the lines of one more record are more
one_grows : (start : ℕ) (lines held : List (List ℕ)) (records : List AuditRecord) (made : AuditRecord) → AreRecordsOf (items_of start lines) records → (more : OneMore start (lines ++ held) records made) → length (ended lines) < length (ended more.front)
one_grows start lines held records made are more =
    let split = records_split (items_of start more.front) records (made ∷ []) more.are in
    let few = as_many start lines split.items_front records are split.are_front in
    let ends = records_end split.items_back [] made split.are_back in
    let some = ap length ends.is ∙ length-append ends.before (record { line = ends.line; end = made.end } ∷ []) in
    let all = ap length (sym split.joined) ∙ length-append split.items_front split.items_back in
    let count = length-items start more.front in
    more_bytes lines held more.front more.back (sym more.joined) (omega (arith, few, some, all, count))

-- a record that is given ends behind those before it
pub popped_grows : (before : Reader) (given : List Found) (start : ℕ) (stream : List ℕ) (made : AuditRecord) (rest : List AuditRecord) → HasFound before given start stream → before.ready ≡ made ∷ rest → before.taken < made.end
popped_grows before given start stream made rest s ready = by_kind before.kind s.waits where
  by_kind : (kind : SourceKind) → Waiting kind before given start s.lines s.held → before.taken < made.end
  by_kind Changes waits = absurd (no_record made rest (sym ready ∙ waits.1))
  by_kind Tables waits = absurd (no_record made rest (sym ready ∙ waits.1))
  by_kind Audit waits =
      let known = known_front before.is_ended (waits.records ++ before.ready) start (s.lines ++ s.held) before.gathering waits.gathered in
      let more = one_more start (s.lines ++ s.held) waits.records rest made (subst (λ (rs : List AuditRecord). KnownFront start (s.lines ++ s.held) (waits.records ++ rs)) ready known) in
      let less = one_grows start s.lines s.held waits.records made waits.are more in
      let taken = s.taken in
      let end = more.end in
      omega (arith, less, taken, end)

-- no line is left
pub dry : (reader : Reader) (given : List Found) (start : ℕ) (stream : List ℕ) → (s : HasFound reader given start stream) → reader.ready ≡ [] → HasNoFeed s.rest → IsDrained reader given start stream
dry reader given start stream s ready plain = record { stands = s; none = ready; dry = plain; last = by_last reader.kind refl s.waits; all = λ is_ended. by_kind reader.kind refl s.waits is_ended } where
  by_kind : (kind : SourceKind) → reader.kind ≡ kind → Waiting kind reader given start s.lines s.held → reader.is_ended ≡ true → s.held ≡ []
  by_kind Changes kind waits is_ended = waits.0
  by_kind Tables kind waits is_ended = waits.0
  by_kind Audit kind waits is_ended =
      let all : AreRecordsOf (items_of start (s.lines ++ s.held)) (waits.records ++ reader.ready) = subst (λ (b : Bool). HasGathered b (waits.records ++ reader.ready) start (s.lines ++ s.held) reader.gathering) is_ended waits.gathered in
      let records : waits.records ++ reader.ready ≡ waits.records = ap (λ (rs : List AuditRecord). waits.records ++ rs) ready ∙ append-nil waits.records in
      none_more start s.lines s.held waits.records waits.are (subst (λ (rs : List AuditRecord). AreRecordsOf (items_of start (s.lines ++ s.held)) rs) records all)

  by_flag : (flag : Bool) → (waits : AuditHolds IsFoundAs reader given start s.lines s.held) → reader.kind ≡ Audit → HasGathered flag waits.records start (s.lines ++ s.held) reader.gathering
      → groups_of (lines_in (items_of start (s.lines ++ s.held))) ≡ groups_in waits.records ++ whole (lines_in (items_of (start + length (ended s.lines)) s.held))
  by_flag true waits kind all = ended_last start s.lines s.held waits.records waits.are (none_more start s.lines s.held waits.records waits.are all)
  by_flag false waits kind stands = held_last start s.lines s.held waits.records reader.gathering waits.are stands

  by_last : (kind : SourceKind) → reader.kind ≡ kind → Waiting kind reader given start s.lines s.held → HoldsLast reader.kind start s.lines s.held
  by_last Changes kind waits = subst (λ (k : SourceKind). HoldsLast k start s.lines s.held) (sym kind) waits.0
  by_last Tables kind waits = subst (λ (k : SourceKind). HoldsLast k start s.lines s.held) (sym kind) waits.0
  by_last Audit kind waits =
      let records : waits.records ++ reader.ready ≡ waits.records = ap (λ (rs : List AuditRecord). waits.records ++ rs) ready ∙ append-nil waits.records in
      subst (λ (k : SourceKind). HoldsLast k start s.lines s.held) (sym kind)
      (waits.records, waits.are, by_flag reader.is_ended waits kind (subst (λ (rs : List AuditRecord). HasGathered reader.is_ended rs start (s.lines ++ s.held) reader.gathering) records waits.gathered))

-- a queue from which nothing could be taken
pub no_front : (records : List AuditRecord) → records ≡ drop 1 records → records ≡ []
no_front [] same = refl
no_front (made ∷ records) same = absurd (let size = ap length same in omega (arith, size))

-- nothing was taken off the cutter, and no record was whole
pub same_reader : (reader : Reader) (cutter : cutting.Cutter) (ready : List AuditRecord) → cutter ≡ reader.cutter → ready ≡ reader.ready → record reader { cutter = cutter; ready = ready } ≡ reader
same_reader reader cutter ready cutter_is ready_is =
    ap (λ (k : cutting.Cutter). record reader { cutter = k; ready = ready }) cutter_is ∙ ap (λ (rs : List AuditRecord). record reader { ready = rs }) ready_is

-- more of the source was read
pub fed : (before after : Reader) (given : List Found) (start : ℕ) (stream fresh : List ℕ)
    → (d : IsDrained before given start stream) → before.is_ended ≡ false
    → cutting.HasCut after.cutter (start + length (ended (d.stands.lines ++ d.stands.held))) (d.stands.rest ++ fresh) → after.cutter.limit ≡ before.cutter.limit
    → after ≡ record before { cutter = after.cutter }
    → HasFound after given start (stream ++ fresh)
fed before after given start stream fresh d open_is cutter limit after_is =
    let s = d.stands in
    let kind : after.kind ≡ before.kind = ap (λ (r : Reader). r.kind) after_is in
    let is_ended : after.is_ended ≡ before.is_ended = ap (λ (r : Reader). r.is_ended) after_is in
    let gathering : after.gathering ≡ before.gathering = ap (λ (r : Reader). r.gathering) after_is in
    let ready : after.ready ≡ before.ready = ap (λ (r : Reader). r.ready) after_is in
    record {
      lines = s.lines;
      held = s.held;
      rest = s.rest ++ fresh;
      cut = ap (λ (l : List ℕ). l ++ fresh) s.cut ∙ append_assoc (ended (s.lines ++ s.held)) s.rest fresh;
      plain = s.plain;
      taken = ap (λ (r : Reader). r.taken) after_is ∙ s.taken;
      gives = subst (λ (k : SourceKind). Finds k start s.lines given) (sym kind) s.gives;
      waits = same_waits before after given start s.lines s.held kind is_ended gathering ready s.waits;
      cutter = cutter;
      limit = limit ∙ s.limit ∙ ap limit_of (sym kind);
      over = λ over. absurd (true≢false (sym over ∙ is_ended ∙ open_is));
    }
  where
    same_waits : (before after : Reader) (given : List Found) (start : ℕ) (lines held : List (List ℕ)) → after.kind ≡ before.kind → after.is_ended ≡ before.is_ended → after.gathering ≡ before.gathering → after.ready ≡ before.ready
        → Waiting before.kind before given start lines held → Waiting after.kind after given start lines held
    same_waits before after given start lines held kind is_ended gathering ready waits = subst (λ (k : SourceKind). Waiting k after given start lines held) (sym kind) (by_kind before.kind waits) where
      by_kind : (k : SourceKind) → Waiting k before given start lines held → Waiting k after given start lines held
      by_kind Changes waits = (waits.0, ready ∙ waits.1)
      by_kind Tables waits = (waits.0, ready ∙ waits.1)
      by_kind Audit waits = record {
        records = waits.records;
        are = waits.are;
        each = waits.each;
        gathered =
            subst (λ (b : Bool). HasGathered b (waits.records ++ after.ready) start (lines ++ held) after.gathering) (sym is_ended)
            (subst (λ (g : Gathering). HasGathered before.is_ended (waits.records ++ after.ready) start (lines ++ held) g) (sym gathering)
            (subst (λ (rs : List AuditRecord). HasGathered before.is_ended (waits.records ++ rs) start (lines ++ held) before.gathering) (sym ready) waits.gathered));
      }

-- the source is at its end: what of it waits is taken as whole
pub ended_as : (before after : Reader) (given : List Found) (start : ℕ) (stream : List ℕ)
    → (d : IsDrained before given start stream) → after.kind ≡ before.kind → after.taken ≡ before.taken → after.cutter ≡ before.cutter
    → Waiting after.kind after given start d.stands.lines d.stands.held
    → HasFound after given start stream
ended_as before after given start stream d kind taken cutter waits =
    let s = d.stands in
    record {
      lines = s.lines;
      held = s.held;
      rest = s.rest;
      cut = s.cut;
      plain = s.plain;
      taken = taken ∙ s.taken;
      gives = subst (λ (k : SourceKind). Finds k start s.lines given) (sym kind) s.gives;
      waits = waits;
      cutter = subst (λ (k : cutting.Cutter). cutting.HasCut k (start + length (ended (s.lines ++ s.held))) s.rest) (sym cutter) s.cutter;
      limit = ap (λ (k : cutting.Cutter). k.limit) cutter ∙ s.limit ∙ ap limit_of (sym kind);
      over = λ over. d.dry;
    }

-- of changes and tables nothing waits
pub ended_by_lines : (kind : SourceKind) → (before after : Reader) (given : List Found) (start : ℕ) (stream : List ℕ)
    → (d : IsDrained before given start stream) → before.kind ≡ kind → (kind ≡ Changes) ⊎ (kind ≡ Tables) → after ≡ record before { is_ended = true }
    → HasFound after given start stream
ended_by_lines Audit before after given start stream d kind line after_is = absurd (no_line line) where
  no_line : (Audit ≡ Changes) ⊎ (Audit ≡ Tables) → ⊥
  no_line (inl e) = let same = e in cc
  no_line (inr e) = let same = e in cc
ended_by_lines Changes before after given start stream d kind line after_is =
    let s = d.stands in
    let waits : NoneWaits before s.held = subst (λ (k : SourceKind). Waiting k before given start s.lines s.held) kind s.waits in
    let after_kind : after.kind ≡ before.kind = ap (λ (r : Reader). r.kind) after_is in
    let ready : after.ready ≡ before.ready = ap (λ (r : Reader). r.ready) after_is in
    ended_as before after given start stream d after_kind (ap (λ (r : Reader). r.taken) after_is) (ap (λ (r : Reader). r.cutter) after_is)
    (subst (λ (k : SourceKind). Waiting k after given start s.lines s.held) (sym (after_kind ∙ kind)) (waits.0, ready ∙ waits.1))
ended_by_lines Tables before after given start stream d kind line after_is =
    let s = d.stands in
    let waits : NoneWaits before s.held = subst (λ (k : SourceKind). Waiting k before given start s.lines s.held) kind s.waits in
    let after_kind : after.kind ≡ before.kind = ap (λ (r : Reader). r.kind) after_is in
    let ready : after.ready ≡ before.ready = ap (λ (r : Reader). r.ready) after_is in
    ended_as before after given start stream d after_kind (ap (λ (r : Reader). r.taken) after_is) (ap (λ (r : Reader). r.cutter) after_is)
    (subst (λ (k : SourceKind). Waiting k after given start s.lines s.held) (sym (after_kind ∙ kind)) (waits.0, ready ∙ waits.1))

-- of an audit log the gathering gives what it holds
pub ended_audit : (before after : Reader) (given : List Found) (start : ℕ) (stream : List ℕ)
    → (d : IsDrained before given start stream) → before.kind ≡ Audit → before.is_ended ≡ false
    → gathered.Finishes before.gathering after.gathering before.ready after.ready
    → after ≡ record before { gathering = after.gathering; ready = after.ready; is_ended = true }
    → HasFound after given start stream
ended_audit before after given start stream d kind open_is finishes after_is =
    let s = d.stands in
    let waits : AuditHolds IsFoundAs before given start s.lines s.held = subst (λ (k : SourceKind). Waiting k before given start s.lines s.held) kind s.waits in
    let stands : gathered.HasGathered (waits.records ++ before.ready) (items_of start (s.lines ++ s.held)) before.gathering = subst (λ (b : Bool). HasGathered b (waits.records ++ before.ready) start (s.lines ++ s.held) before.gathering) open_is waits.gathered in
    let gains = finishes (waits.records ++ before.ready) (items_of start (s.lines ++ s.held)) stands in
    let records : (waits.records ++ before.ready) ++ gains.0 ≡ waits.records ++ after.ready = append_assoc waits.records before.ready gains.0 ∙ ap (λ (rs : List AuditRecord). waits.records ++ rs) (sym gains.1.0) in
    let all : AreRecordsOf (items_of start (s.lines ++ s.held)) (waits.records ++ after.ready) = subst (AreRecordsOf (items_of start (s.lines ++ s.held))) records gains.1.1.0 in
    let after_kind : after.kind ≡ before.kind = ap (λ (r : Reader). r.kind) after_is in
    let after_ended : after.is_ended ≡ true = ap (λ (r : Reader). r.is_ended) after_is in
    let new : AuditHolds IsFoundAs after given start s.lines s.held = record {
      records = waits.records;
      are = waits.are;
      each = waits.each;
      gathered = subst (λ (b : Bool). HasGathered b (waits.records ++ after.ready) start (s.lines ++ s.held) after.gathering) (sym after_ended) all;
    } in
    ended_as before after given start stream d after_kind (ap (λ (r : Reader). r.taken) after_is) (ap (λ (r : Reader). r.cutter) after_is)
    (subst (λ (k : SourceKind). Waiting k after given start s.lines s.held) (sym (after_kind ∙ kind)) new)

-- nothing was read yet
pub nothing_read : (reader : Reader) → cutting.HasCut reader.cutter reader.taken [] → reader.cutter.limit ≡ limit_of reader.kind → gathered.HasGathered [] [] reader.gathering → reader.ready ≡ [] → reader.is_ended ≡ false
    → HasFound reader [] reader.taken []
nothing_read reader cutter limit gathering ready open_is = record {
  lines = [];
  held = [];
  rest = [];
  cut = refl;
  plain = tt;
  taken = omega arith;
  gives = by_gives reader.kind;
  waits = by_waits reader.kind;
  cutter = subst (λ (n : ℕ). cutting.HasCut reader.cutter n []) (let e : reader.taken ≡ reader.taken + 0 = omega arith in e) cutter;
  limit = limit;
  over = λ over. tt;
}
  where
    by_gives : (kind : SourceKind) → Finds kind reader.taken [] []
    by_gives Audit = record { records = []; are = records_none; each = tt }
    by_gives Changes = tt
    by_gives Tables = tt

    by_waits : (kind : SourceKind) → Waiting kind reader [] reader.taken [] []
    by_waits Audit = record {
      records = [];
      are = records_none;
      each = tt;
      gathered = subst (λ (b : Bool). HasGathered b ([] ++ reader.ready) reader.taken [] reader.gathering) (sym open_is)
          (subst (λ (rs : List AuditRecord). gathered.HasGathered rs [] reader.gathering) (sym ready) gathering);
    }
    by_waits Changes = (refl, ready)
    by_waits Tables = (refl, ready)

both_true : (a b : Bool) → (a && b) ≡ true → (a ≡ true) × (b ≡ true)
both_true true b is = (refl, is)
both_true false b is = absurd (true≢false (sym is))

-- at the end no line is left
pub over_drained : (reader : Reader) (given : List Found) (start : ℕ) (stream : List ℕ) → is_at_end reader ≡ true → HasFound reader given start stream → IsDrained reader given start stream
over_drained reader given start stream over s =
    let both = both_true reader.is_ended (length reader.ready == 0) over in
    dry reader given start stream s (nil_from_length reader.ready (eqb-true (length reader.ready) 0 both.1)) (s.over both.0)
