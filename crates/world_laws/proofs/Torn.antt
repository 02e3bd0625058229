-- The ledger of a file that was cut anywhere.
use Rattle.std.proofs.Common.{◌≡◌, ◌∙◌, ℕ, ◌==◌, Bool, true, false, cond, List, [], ◌∷◌, ◌++◌, ap, refl, sym, subst, append_assoc, append-nil}
use Rattle.std.specs.List.{AllByRecursion}
use Rattle.record_lines.specs.Lines.{lines_behind, lines_of, rest_behind, rest_of}
use Rattle.batch_frames.specs.declared.frame.Frame.{Frame}
use Rattle.collector_core.specs.Received.{HostDigests, all_received, none_recorded, received}
use Rattle.collector_core.proofs.Receiving.{stays}
use Rattle.collector_answers.specs.declared.judging.Judged.{Judged}
use Rattle.collector_answers.specs.declared.judging.Judged.TheVariants.{Bad, Framed}
use Rattle.collector_answers.specs.Judging.{AreJudged, IsJudged, frames_of}
use Rattle.collector_ledger.specs.Files.{file_lines}
use Rattle.collector_ledger.proofs.Taken.{all_received-append, frames_of-append}
use Rattle.collect_rounds.proofs.Lines.{lines-append, rest-append}
use Rattle.world_laws.specs.Laws.{Torn}
use Rattle.world_laws.specs.Lines.{BeginsText}
use Rattle.world_laws.proofs.Braces.{none_begins}
use Rattle.world_laws.proofs.Judgings.{AllAlike, all_alike, received_same}

-- ---- the lines of the whole file

-- the line that was begun, with what is left of it, and the lines behind it
record Goes (begun behind : List ℕ) : Type 0 where
  left : List ℕ
  more : List (List ℕ)
  is : lines_behind begun behind ++ rest_behind begun behind ∷ [] ≡ (begun ++ left) ∷ more

goes : (begun behind : List ℕ) → Goes begun behind
goes begun [] = record { left = []; more = []; is = ap (λ (line : List ℕ). line ∷ []) (sym (append-nil begun)) }
goes begun (byte ∷ behind) =
    let next = by (byte == 10) (goes (begun ++ byte ∷ []) behind) in
    record { left = next.0; more = next.1; is = next.2 }
  where
    by : (t : Bool) → Goes (begun ++ byte ∷ []) behind → (left : List ℕ) × (more : List (List ℕ))
        × (cond t (begun ∷ lines_behind [] behind) (lines_behind (begun ++ byte ∷ []) behind) ++ cond t (rest_behind [] behind) (rest_behind (begun ++ byte ∷ []) behind) ∷ [] ≡ (begun ++ left) ∷ more)
    by true next = ([], lines_behind [] behind ++ rest_behind [] behind ∷ [], ap (λ (line : List ℕ). line ∷ (lines_behind [] behind ++ rest_behind [] behind ∷ [])) (sym (append-nil begun)))
    by false next = (byte ∷ next.left, next.more, next.is ∙ ap (λ (line : List ℕ). line ∷ next.more) (append_assoc begun (byte ∷ []) next.left))

whole_lines : (file behind : List ℕ) (next : Goes (rest_of file) behind) → file_lines (file ++ behind) ≡ lines_of file ++ (rest_of file ++ next.left) ∷ next.more
unfolding lines_of rest_of
whole_lines file behind next =
    ap (λ (lines : List (List ℕ)). lines ++ rest_behind [] (file ++ behind) ∷ []) (lines-append [] file behind)
    ∙ ap (λ (rest : List ℕ). (lines_behind [] file ++ lines_behind (rest_behind [] file) behind) ++ rest ∷ []) (rest-append [] file behind)
    ∙ append_assoc (lines_behind [] file) (lines_behind (rest_behind [] file) behind) (rest_behind (rest_behind [] file) behind ∷ [])
    ∙ ap (λ (lines : List (List ℕ)). lines_behind [] file ++ lines) next.is

-- ---- what was judged, in two parts

record Parted (lines more : List (List ℕ)) (judged : List Judged) : Type 0 where
  front : List Judged
  back : List Judged
  is : judged ≡ front ++ back
  first : AreJudged lines front
  second : AreJudged more back

parted : (lines more : List (List ℕ)) (judged : List Judged) → AreJudged (lines ++ more) judged → Parted lines more judged
parted [] more judged are = record { front = []; back = judged; is = refl; first = tt; second = are }
parted (line ∷ lines) more [] are = absurd are
parted (line ∷ lines) more (one ∷ judged) are =
    let next = parted lines more judged are.1 in
    record { front = one ∷ next.front; back = next.back; is = ap (λ (rest : List Judged). one ∷ rest) next.is; first = (are.0, next.first); second = next.second }

fronts : (lines more : List (List ℕ)) → AllByRecursion BeginsText (lines ++ more) → AllByRecursion BeginsText lines × AllByRecursion BeginsText more
fronts [] more begin = (tt, begin)
fronts (line ∷ lines) more begin = let next = fronts lines more begin.1 in ((begin.0, next.0), next.1)

-- ---- what is recorded

-- lines that are judged alike leave the same
frames_same : (one other : HostDigests) (judged others : List Judged) → ((host : List ℕ) → one host ≡ other host) → AllAlike judged others
    → (host : List ℕ) → all_received one (frames_of judged) host ≡ all_received other (frames_of others) host
frames_same one other [] [] same alike host = same host
frames_same one other [] (next ∷ others) same alike host = absurd alike
frames_same one other (first ∷ judged) [] same alike host = absurd alike
frames_same one other (Framed frame digest ∷ judged) (Framed next shown ∷ others) same alike host =
    frames_same (received one frame) (received other next) judged others (λ any. received_same any one other frame next (same any) alike.0) alike.1 host
frames_same one other (Framed frame digest ∷ judged) (Bad kind ∷ others) same alike host = absurd alike.0
frames_same one other (Bad kind ∷ judged) (Framed frame digest ∷ others) same alike host = absurd alike.0
frames_same one other (Bad kind ∷ judged) (Bad another ∷ others) same alike host = frames_same one other judged others same alike.1 host

-- more lines only add
grows : (judged front back : List Judged) → AllAlike judged front → (host : List ℕ)
    → (added : List (List ℕ)) × (all_received none_recorded (frames_of (front ++ back)) host ≡ all_received none_recorded (frames_of judged) host ++ added)
grows judged front back alike host =
    let later = stays (all_received none_recorded (frames_of front)) (frames_of back) host in (
      later.0,
      ap (λ (frames : List Frame). all_received none_recorded frames host) (frames_of-append front back)
          ∙ all_received-append none_recorded (frames_of front) (frames_of back) host ∙ later.1
          ∙ ap (λ (digests : List (List ℕ)). digests ++ later.0) (sym (frames_same none_recorded none_recorded judged front (λ any. refl) alike host)),
    )

-- a line of which more is to come is the text of no frame, so it is passed over
passed_over : (line left : List ℕ) (byte : ℕ) (judged : Judged) → BeginsText (line ++ byte ∷ left) → IsJudged line judged → frames_of (judged ∷ []) ≡ []
passed_over line left byte (Bad kind) begins is = refl
passed_over line left byte (Framed frame digest) (other, behind, text) is =
    absurd
    (none_begins frame other byte (left ++ behind)
    (ap (λ (bytes : List ℕ). bytes ++ byte ∷ (left ++ behind)) (sym is.1.is) ∙ sym (append_assoc line (byte ∷ left) behind) ∙ text.is))

-- so both readings judge the same lines, and the whole file has more of them
cut_at : (lines more : List (List ℕ)) (rest left : List ℕ) (judged all : List Judged) → AllByRecursion BeginsText (lines ++ (rest ++ left) ∷ more)
    → AreJudged (lines ++ rest ∷ []) judged → AreJudged (lines ++ (rest ++ left) ∷ more) all → (host : List ℕ)
    → (added : List (List ℕ)) × (all_received none_recorded (frames_of all) host ≡ all_received none_recorded (frames_of judged) host ++ added)
cut_at lines more rest [] judged all begin some_are all_are host =
    let same = append-nil rest in
    let lines_are : lines ++ (rest ++ []) ∷ more ≡ (lines ++ rest ∷ []) ++ more =
    ap (λ (line : List ℕ). lines ++ line ∷ more) same ∙ sym (append_assoc lines (rest ∷ []) more) in
    let parts = parted (lines ++ rest ∷ []) more all (subst (λ (ls : List (List ℕ)). AreJudged ls all) lines_are all_are) in
    let grown = grows judged parts.front parts.back (all_alike (lines ++ rest ∷ []) judged parts.front some_are parts.first) host in
    (grown.0, ap (λ (js : List Judged). all_received none_recorded (frames_of js) host) parts.is ∙ grown.1)
cut_at lines more rest (byte ∷ left) judged all begin some_are all_are host =
    let parts = parted lines ((rest ++ byte ∷ left) ∷ more) all all_are in
    let begins = fronts lines ((rest ++ byte ∷ left) ∷ more) begin in
    let some = parted lines (rest ∷ []) judged some_are in
    let grown = grows some.front parts.front parts.back (all_alike lines some.front parts.front some.first parts.first) host in
    let none = only rest left byte some.back begins.1.0 some.second in
    let kept : frames_of judged ≡ frames_of some.front =
    ap frames_of some.is ∙ frames_of-append some.front some.back ∙ ap (λ (frames : List Frame). frames_of some.front ++ frames) none ∙ append-nil (frames_of some.front) in (
      grown.0,
      ap (λ (js : List Judged). all_received none_recorded (frames_of js) host) parts.is ∙ grown.1
          ∙ ap (λ (frames : List Frame). all_received none_recorded frames host ++ grown.0) (sym kept),
    )
  where
    only : (line left : List ℕ) (byte : ℕ) (judged : List Judged) → BeginsText (line ++ byte ∷ left) → AreJudged (line ∷ []) judged → frames_of judged ≡ []
    only line left byte [] begins are = refl
    only line left byte (one ∷ []) begins are = passed_over line left byte one begins are.0
    only line left byte (one ∷ other ∷ judged) begins are = absurd are.1

pub torn : Torn
torn file behind some all begin first whole host =
    let next = goes (rest_of file) behind in
    let lines = whole_lines file behind next in
    let grown =
    cut_at (lines_of file) next.more (rest_of file) next.left first.judged whole.judged (subst (AllByRecursion BeginsText) lines begin) first.lines
    (subst (λ (ls : List (List ℕ)). AreJudged ls whole.judged) lines whole.lines) host in
    (grown.0, whole.is host ∙ grown.1 ∙ ap (λ (digests : List (List ℕ)). digests ++ grown.0) (sym (first.is host)))
