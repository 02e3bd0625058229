-- How answers begin.
use Rattle.std.proofs.Common.{Result, Ok, Err, ◌≡◌, ℕ, zero, suc, ◌==◌, Bool, true, false, List, [], ◌∷◌, ◌++◌, Option, Some, None, unwrap_or, refl, sym, ap, ◌∙◌, codes, arith}
use Rattle.std.specs.Prelude.{if◌then◌else◌, ◌&&◌, nat_lt, option_map, IfOk}
use Rattle.osq_value.specs.declared.memory.NoMemory.{NoMemory}
use Rattle.std.specs.Fmt.{decimal}
use Rattle.std.specs.Str.{IsAscii, IsUtf8}
use Rattle.std.proofs.lemmas.Bool.{and_parts, ltb-true}
use Rattle.std.proofs.lemmas.List.{append_cancel_left, append_cancel_right}
use Rattle.std.proofs.lemmas.Str.{IsUtf8-from_ascii}
use Rattle.batch_frames.proofs.Cuts.{unlike_heads}
use Rattle.result_batches.specs.Json.{quoted}
use Rattle.collector_answers.specs.declared.answer.Answer.{Answer}
use Rattle.collector_answers.specs.declared.answer.Answer.TheVariants.{Recorded, Repeat, Gap, Conflict, Bad}
use Rattle.collector_answers.specs.declared.answer.BadAnswer.{BadAnswer}
use Rattle.collector_answers.specs.declared.answer.BadAnswer.TheVariants.{TooLong, NotJson, WrongShape, BadDigest, NotCanonical}
use Rattle.collector_answers.specs.declared.read.Counted.{Counted}
use Rattle.collector_answers.specs.Fields.{IsPlain, ShowsPlain, TakesBad, TakesCounted}
use Rattle.collector_answers.specs.Lines.{bad_line, conflict_line, counted_line, front_of, kind_name, line_of, told}
use Rattle.collector_answers.specs.Reads.{IsDigest, IsHeld, IsHeldTold, Reads, Shows}
use Rattle.collector_answers.proofs.Told.{counted, counted_is, none_some, spread, told_is}

-- no list begins with both
abbrev pub apart : List ℕ → List ℕ → Bool
apart [] other = false
apart (x ∷ xs) [] = false
apart (x ∷ xs) (y ∷ ys) = if x == y then apart xs ys else true

by_head : (x y : ℕ) (one other : List ℕ) (b : Bool) → (x == y) ≡ b → x ∷ one ≡ y ∷ other → (b ≡ true → one ≡ other → ⊥) → ⊥
by_head x y one other true same e later = later refl (let tails : one ≡ other = cc in tails)
by_head x y one other false unlike e later = unlike_heads x y one other e unlike

pub never_both : (one other a b : List ℕ) → apart one other ≡ true → one ++ a ≡ other ++ b → ⊥
never_both [] other a b h e = absurd (let no : ⊥ = cc in no)
never_both (x ∷ xs) [] a b h e = absurd (let no : ⊥ = cc in no)
never_both (x ∷ xs) (y ∷ ys) a b h e =
    by_head x y (xs ++ a) (ys ++ b) (x == y) refl e (λ same tails. never_both xs ys a b (sym (ap (λ (t : Bool). if t then apart xs ys else true) same) ∙ h) tails)

-- the text of a bad line's answer, around the name of its kind
pub bad_is : (kind : BadAnswer) → bad_line kind ≡ codes "{\"answer\":\"bad\",\"kind\":\"" ++ (kind_name kind ++ codes "\"}")
unfolding bad_line
bad_is TooLong = refl
bad_is NotJson = refl
bad_is WrongShape = refl
bad_is BadDigest = refl
bad_is NotCanonical = refl

pub kind_behind : (line rest : List ℕ) (kind : BadAnswer) → line ≡ codes "{\"answer\":\"bad\",\"kind\":\"" ++ rest → line ≡ bad_line kind → rest ≡ kind_name kind ++ codes "\"}"
kind_behind line rest kind whole is = append_cancel_left (codes "{\"answer\":\"bad\",\"kind\":\"") rest (kind_name kind ++ codes "\"}") (sym whole ∙ is ∙ bad_is kind)

pub kind_between : (line rest name : List ℕ) (kind : BadAnswer) → line ≡ codes "{\"answer\":\"bad\",\"kind\":\"" ++ rest → rest ≡ name ++ codes "\"}" → line ≡ bad_line kind → name ≡ kind_name kind
kind_between line rest name kind whole end is = append_cancel_right name (kind_name kind) (codes "\"}") (sym end ∙ kind_behind line rest kind whole is)

abbrev all_ascii : List ℕ → Bool
all_ascii [] = true
all_ascii (b ∷ bs) = nat_lt b 128 && all_ascii bs

ascii_by : (bytes : List ℕ) → all_ascii bytes ≡ true → IsAscii bytes
ascii_by [] h i = omega arith
ascii_by (b ∷ bs) h zero = ltb-true b 128 (and_parts (nat_lt b 128) (all_ascii bs) h).0
ascii_by (b ∷ bs) h (suc i) = ascii_by bs (and_parts (nat_lt b 128) (all_ascii bs) h).1 i

pub name_utf8 : (kind : BadAnswer) → IsUtf8 (kind_name kind)
name_utf8 TooLong = IsUtf8-from_ascii (codes "TooLong") (ascii_by (codes "TooLong") refl)
name_utf8 NotJson = IsUtf8-from_ascii (codes "NotJson") (ascii_by (codes "NotJson") refl)
name_utf8 WrongShape = IsUtf8-from_ascii (codes "WrongShape") (ascii_by (codes "WrongShape") refl)
name_utf8 BadDigest = IsUtf8-from_ascii (codes "BadDigest") (ascii_by (codes "BadDigest") refl)
name_utf8 NotCanonical = IsUtf8-from_ascii (codes "NotCanonical") (ascii_by (codes "NotCanonical") refl)

-- ---- a line begins as one answer does, and so as no other

-- the front of an answer
abbrev pub front_by : Answer → List ℕ
front_by (Recorded host number recorded) = front_of (codes "recorded")
front_by (Repeat host number recorded) = front_of (codes "repeat")
front_by (Gap host number recorded) = front_of (codes "gap")
front_by (Conflict host number recorded kept found) = front_of (codes "conflict")
front_by (Bad kind) = codes "{\"answer\":\"bad\",\"kind\":\""

counted_begins : (front host : List ℕ) (number recorded : ℕ) → (rest : List ℕ) × (counted_line front host number recorded ≡ front ++ rest)
counted_begins front host number recorded =
    (_, counted_is front host number recorded ∙ spread front (quoted host) (codes ",\"number\":") (decimal number) (codes ",\"recorded\":") (decimal recorded ++ codes "}"))

begins : (answer : Answer) → (rest : List ℕ) × (line_of answer ≡ front_by answer ++ rest)
begins (Recorded host number recorded) = counted_begins (front_of (codes "recorded")) host number recorded
begins (Repeat host number recorded) = counted_begins (front_of (codes "repeat")) host number recorded
begins (Gap host number recorded) = counted_begins (front_of (codes "gap")) host number recorded
begins (Conflict host number recorded kept found) = (
  _,
  told_is (front_of (codes "conflict")) host (conflict_line kept found) number recorded
      ∙ spread (front_of (codes "conflict")) (quoted host) (codes ",\"number\":") (decimal number) (codes ",\"recorded\":") (decimal recorded ++ conflict_line kept found),
)
begins (Bad kind) = (kind_name kind ++ codes "\"}", bad_is kind)

other : {P : Type 0} → (line front rest : List ℕ) (answer : Answer) → line ≡ front ++ rest → line ≡ line_of answer → apart front (front_by answer) ≡ true → P
other line front rest answer whole is unlike =
    let (behind, at) = begins answer in
    absurd (never_both front (front_by answer) rest behind unlike (sym whole ∙ is ∙ at))

same_recorded : (h host : List ℕ) (n number m recorded : ℕ) → counted h n m ≡ counted host number recorded → Some (Recorded h n m) ≡ Some (Recorded host number recorded)
same_recorded h host n number m recorded e = ap (λ (c : Option Counted). option_map (λ (x : Counted). Recorded x.host x.number x.recorded) c) e

same_repeat : (h host : List ℕ) (n number m recorded : ℕ) → counted h n m ≡ counted host number recorded → Some (Repeat h n m) ≡ Some (Repeat host number recorded)
same_repeat h host n number m recorded e = ap (λ (c : Option Counted). option_map (λ (x : Counted). Repeat x.host x.number x.recorded) c) e

same_gap : (h host : List ℕ) (n number m recorded : ℕ) → counted h n m ≡ counted host number recorded → Some (Gap h n m) ≡ Some (Gap host number recorded)
same_gap h host n number m recorded e = ap (λ (c : Option Counted). option_map (λ (x : Counted). Gap x.host x.number x.recorded) c) e

pub recorded_shown : (line h : List ℕ) (n m : ℕ) → TakesCounted line (front_of (codes "recorded")) (counted h n m) → ShowsPlain line (Some (Recorded h n m))
recorded_shown line h n m takes = record { is = is; none = λ host kept found number recorded at. other line (front_of (codes "recorded")) takes.behind.0 (Conflict host number recorded kept found) takes.behind.1 at refl } where
  is : (answer : Answer) → IsHeld answer → IsPlain answer → line ≡ line_of answer → Some (Recorded h n m) ≡ Some answer
  is (Recorded host number recorded) held plain at = same_recorded h host n number m recorded (takes.is host number recorded held at)
  is (Repeat host number recorded) held plain at = other line (front_of (codes "recorded")) takes.behind.0 (Repeat host number recorded) takes.behind.1 at refl
  is (Gap host number recorded) held plain at = other line (front_of (codes "recorded")) takes.behind.0 (Gap host number recorded) takes.behind.1 at refl
  is (Conflict host number recorded kept found) held plain at = absurd plain
  is (Bad kind) held plain at = other line (front_of (codes "recorded")) takes.behind.0 (Bad kind) takes.behind.1 at refl

pub repeat_shown : (line h : List ℕ) (n m : ℕ) → TakesCounted line (front_of (codes "repeat")) (counted h n m) → ShowsPlain line (Some (Repeat h n m))
repeat_shown line h n m takes = record { is = is; none = λ host kept found number recorded at. other line (front_of (codes "repeat")) takes.behind.0 (Conflict host number recorded kept found) takes.behind.1 at refl } where
  is : (answer : Answer) → IsHeld answer → IsPlain answer → line ≡ line_of answer → Some (Repeat h n m) ≡ Some answer
  is (Recorded host number recorded) held plain at = other line (front_of (codes "repeat")) takes.behind.0 (Recorded host number recorded) takes.behind.1 at refl
  is (Repeat host number recorded) held plain at = same_repeat h host n number m recorded (takes.is host number recorded held at)
  is (Gap host number recorded) held plain at = other line (front_of (codes "repeat")) takes.behind.0 (Gap host number recorded) takes.behind.1 at refl
  is (Conflict host number recorded kept found) held plain at = absurd plain
  is (Bad kind) held plain at = other line (front_of (codes "repeat")) takes.behind.0 (Bad kind) takes.behind.1 at refl

pub gap_shown : (line h : List ℕ) (n m : ℕ) → TakesCounted line (front_of (codes "gap")) (counted h n m) → ShowsPlain line (Some (Gap h n m))
gap_shown line h n m takes = record { is = is; none = λ host kept found number recorded at. other line (front_of (codes "gap")) takes.behind.0 (Conflict host number recorded kept found) takes.behind.1 at refl } where
  is : (answer : Answer) → IsHeld answer → IsPlain answer → line ≡ line_of answer → Some (Gap h n m) ≡ Some answer
  is (Recorded host number recorded) held plain at = other line (front_of (codes "gap")) takes.behind.0 (Recorded host number recorded) takes.behind.1 at refl
  is (Repeat host number recorded) held plain at = other line (front_of (codes "gap")) takes.behind.0 (Repeat host number recorded) takes.behind.1 at refl
  is (Gap host number recorded) held plain at = same_gap h host n number m recorded (takes.is host number recorded held at)
  is (Conflict host number recorded kept found) held plain at = absurd plain
  is (Bad kind) held plain at = other line (front_of (codes "gap")) takes.behind.0 (Bad kind) takes.behind.1 at refl

pub bad_shown : (line : List ℕ) (shown : BadAnswer) → TakesBad line (Some shown) → ShowsPlain line (Some (Bad shown))
bad_shown line shown takes = record { is = is; none = λ host kept found number recorded at. other line (codes "{\"answer\":\"bad\",\"kind\":\"") takes.behind.0 (Conflict host number recorded kept found) takes.behind.1 at refl } where
  is : (answer : Answer) → IsHeld answer → IsPlain answer → line ≡ line_of answer → Some (Bad shown) ≡ Some answer
  is (Recorded host number recorded) held plain at = other line (codes "{\"answer\":\"bad\",\"kind\":\"") takes.behind.0 (Recorded host number recorded) takes.behind.1 at refl
  is (Repeat host number recorded) held plain at = other line (codes "{\"answer\":\"bad\",\"kind\":\"") takes.behind.0 (Repeat host number recorded) takes.behind.1 at refl
  is (Gap host number recorded) held plain at = other line (codes "{\"answer\":\"bad\",\"kind\":\"") takes.behind.0 (Gap host number recorded) takes.behind.1 at refl
  is (Conflict host number recorded kept found) held plain at = absurd plain
  is (Bad kind) held plain at = ap (option_map Bad) (takes.is kind at)

-- none of them is told
pub none_shown : (line : List ℕ) → TakesCounted line (front_of (codes "recorded")) None → TakesCounted line (front_of (codes "repeat")) None → TakesCounted line (front_of (codes "gap")) None → TakesBad line None
    → ShowsPlain line None
none_shown line recorded_none repeat_none gap_none bad_none = record { is = is; none = λ host kept found number recorded at. refl } where
  is : (answer : Answer) → IsHeld answer → IsPlain answer → line ≡ line_of answer → None ≡ Some answer
  is (Recorded host number recorded) held plain at = none_some _ (recorded_none.is host number recorded held at)
  is (Repeat host number recorded) held plain at = none_some _ (repeat_none.is host number recorded held at)
  is (Gap host number recorded) held plain at = none_some _ (gap_none.is host number recorded held at)
  is (Conflict host number recorded kept found) held plain at = absurd plain
  is (Bad kind) held plain at = none_some _ (bad_none.is kind at)

-- an answer that tells of no digests is the one shown
pub plain_shown : (line : List ℕ) (answer : Answer) → ShowsPlain line (Some answer) → Shows line (Some answer)
plain_shown line answer shows (Recorded host number recorded) held at = shows.is (Recorded host number recorded) held tt at
plain_shown line answer shows (Repeat host number recorded) held at = shows.is (Repeat host number recorded) held tt at
plain_shown line answer shows (Gap host number recorded) held at = shows.is (Gap host number recorded) held tt at
plain_shown line answer shows (Conflict host number recorded kept found) held at = none_some _ (sym (shows.none host kept found number recorded at))
plain_shown line answer shows (Bad kind) held at = shows.is (Bad kind) held tt at

-- else it is a conflict
pub conflict_shown : (line : List ℕ) (shown : Option Answer) → ShowsPlain line None
    → ((host kept found : List ℕ) (number recorded : ℕ) → IsHeld (Conflict host number recorded kept found) → line ≡ line_of (Conflict host number recorded kept found) → shown ≡ Some (Conflict host number recorded kept found))
    → Shows line shown
conflict_shown line shown plain told_so (Recorded host number recorded) held at = none_some _ (plain.is (Recorded host number recorded) held tt at)
conflict_shown line shown plain told_so (Repeat host number recorded) held at = none_some _ (plain.is (Repeat host number recorded) held tt at)
conflict_shown line shown plain told_so (Gap host number recorded) held at = none_some _ (plain.is (Gap host number recorded) held tt at)
conflict_shown line shown plain told_so (Conflict host number recorded kept found) held at = told_so host kept found number recorded held at
conflict_shown line shown plain told_so (Bad kind) held at = none_some _ (plain.is (Bad kind) held tt at)

-- what is shown is read where its text is the line
pub read_so : (line text : List ℕ) (answer : Answer) → Shows line (Some answer) → text ≡ line_of answer → text ≡ line → Reads line (Some answer)
read_so line text answer shows made same = (sym same ∙ made, shows)

pub read_not : (line text : List ℕ) (answer : Answer) → Shows line (Some answer) → text ≡ line_of answer → (text ≡ line → ⊥) → Reads line None
read_not line text answer shows made unlike other held at = unlike (made ∙ ap (λ (o : Option Answer). line_of (unwrap_or o answer)) (shows other held at) ∙ sym at)

pub nothing_read : (line : List ℕ) → Shows line None → Reads line None
nothing_read line shows other held at = none_some _ (shows other held at)

pub conflict_ends : (line : List ℕ) (r : Result (Option Answer) NoMemory) → ShowsPlain line None
    → ((host kept found : List ℕ) (number recorded : ℕ) → IsHeldTold host number recorded → IsDigest kept → IsDigest found
    → line ≡ told (front_of (codes "conflict")) host number recorded ++ conflict_line kept found → IfOk r (λ shown. shown ≡ Some (Conflict host number recorded kept found)))
    → IfOk r (λ shown. Shows line shown)
conflict_ends line (Ok shown) plain told_so =
    conflict_shown line shown plain (λ host kept found number recorded held at. told_so host kept found number recorded held.0 held.1 held.2 at)
conflict_ends line (Err e) plain told_so = tt
