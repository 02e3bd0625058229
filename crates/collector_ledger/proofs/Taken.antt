-- The ledger of a file, line by line.
use Rattle.std.proofs.Common.{◌≡◌, ℕ, List, [], ◌∷◌, ◌++◌, take, drop, refl, sym, subst, ap, ◌∙◌, bytes_eq, append_assoc}
use Rattle.std.specs.Prelude.{if◌then◌else◌}
use Rattle.memchr.specs.Find.{IsFirstByte, is_byte}
use Rattle.std.specs.Prelude.{Some, None}
use Rattle.record_lines.specs.Lines.{lines_of, rest_of}
use Rattle.record_lines.proofs.Cuts.{all_rest, first_cut, no_cuts, plain-none}
use Rattle.batch_frames.specs.Texts.{digest_of}
use Rattle.batch_frames.specs.declared.frame.Frame.{Frame}
use Rattle.collector_core.specs.Receipts.{kept_after}
use Rattle.collector_core.specs.Received.{HostDigests, all_received, none_recorded, received}
use Rattle.collector_answers.specs.declared.judging.Judged.{Judged}
use Rattle.collector_answers.specs.declared.judging.Judged.TheVariants.{Framed, Bad}
use Rattle.collector_answers.specs.Judging.{AreJudged, frames_of}
use Rattle.collector_ledger.specs.Files.{IsLedgerOf, file_lines}
use Rattle.collector_ledger.specs.Takes.{TakesLine}

-- frames behind others
pub all_received-append : (recorded : HostDigests) (frames others : List Frame) (host : List ℕ) → all_received recorded (frames ++ others) host ≡ all_received (all_received recorded frames) others host
all_received-append recorded [] others host = refl
all_received-append recorded (frame ∷ frames) others host = all_received-append (received recorded frame) frames others host

-- what is received hangs on the digests alone
pub received-alike : (one other : HostDigests) (frame : Frame) → ((host : List ℕ) → one host ≡ other host) → (host : List ℕ) → received one frame host ≡ received other frame host
received-alike one other frame alike host =
    ap (λ (digests : List (List ℕ)). if bytes_eq frame.host host then kept_after digests frame.batch.number (digest_of frame) else digests) (alike host)

pub all_received-alike : (one other : HostDigests) (frames : List Frame) → ((host : List ℕ) → one host ≡ other host) → (host : List ℕ) → all_received one frames host ≡ all_received other frames host
all_received-alike one other [] alike host = alike host
all_received-alike one other (frame ∷ frames) alike host = all_received-alike (received one frame) (received other frame) frames (received-alike one other frame alike) host

pub frames_of-append : (judged others : List Judged) → frames_of (judged ++ others) ≡ frames_of judged ++ frames_of others
frames_of-append [] others = refl
frames_of-append (Framed frame digest ∷ judged) others = ap (λ (frames : List Frame). frame ∷ frames) (frames_of-append judged others)
frames_of-append (Bad kind ∷ judged) others = frames_of-append judged others

pub judged-append : (lines more : List (List ℕ)) (judged others : List Judged) → AreJudged lines judged → AreJudged more others → AreJudged (lines ++ more) (judged ++ others)
judged-append [] more [] others are also = also
judged-append [] more (j ∷ judged) others are also = absurd are
judged-append (line ∷ lines) more [] others are also = absurd are
judged-append (line ∷ lines) more (j ∷ judged) others are also = (are.0, judged-append lines more judged others are.1 also)

-- the front lines of the file are taken
pub record HasTaken (file rest : List ℕ) (recorded : HostDigests) : Type 0 where
  pub done : List (List ℕ)
  pub judged : List Judged
  pub lines : file_lines file ≡ done ++ file_lines rest
  pub are : AreJudged done judged
  pub is : (host : List ℕ) → recorded host ≡ all_received none_recorded (frames_of judged) host

pub taken_none : (file : List ℕ) (recorded : HostDigests) → ((host : List ℕ) → recorded host ≡ []) → HasTaken file file recorded
taken_none file recorded none = record { done = []; judged = []; lines = refl; are = tt; is = none }

-- one more line is taken
grown : (recorded after : HostDigests) (judged : List Judged) (j : Judged) → ((host : List ℕ) → recorded host ≡ all_received none_recorded (frames_of judged) host)
    → ((host : List ℕ) → after host ≡ all_received recorded (frames_of (j ∷ [])) host) → (host : List ℕ) → after host ≡ all_received none_recorded (frames_of (judged ++ j ∷ [])) host
grown recorded after judged j before takes host =
    takes host ∙ all_received-alike recorded (all_received none_recorded (frames_of judged)) (frames_of (j ∷ [])) before host
    ∙ sym (all_received-append none_recorded (frames_of judged) (frames_of (j ∷ [])) host)
    ∙ ap (λ (frames : List Frame). all_received none_recorded frames host) (sym (frames_of-append judged (j ∷ [])))

pub taken_more : (file rest line behind : List ℕ) (recorded after : HostDigests) → HasTaken file rest recorded → file_lines rest ≡ line ∷ file_lines behind → TakesLine recorded line after → HasTaken file behind after
taken_more file rest line behind recorded after before cut takes = record {
  done = before.done ++ line ∷ [];
  judged = before.judged ++ takes.judged ∷ [];
  lines = before.lines ∙ ap (λ (lines : List (List ℕ)). before.done ++ lines) cut ∙ sym (append_assoc before.done (line ∷ []) (file_lines behind));
  are = judged-append before.done (line ∷ []) before.judged (takes.judged ∷ []) before.are (takes.is, tt);
  is = grown recorded after before.judged takes.judged before.is takes.after_is;
}

-- the last line is taken
pub taken_all : (file rest : List ℕ) (recorded after : HostDigests) → HasTaken file rest recorded → file_lines rest ≡ rest ∷ [] → TakesLine recorded rest after → IsLedgerOf file after
taken_all file rest recorded after before last takes = record {
  judged = before.judged ++ takes.judged ∷ [];
  lines =
      subst (λ (lines : List (List ℕ)). AreJudged lines (before.judged ++ takes.judged ∷ [])) (ap (λ (lines : List (List ℕ)). before.done ++ lines) (sym last) ∙ sym before.lines)
      (judged-append before.done (rest ∷ []) before.judged (takes.judged ∷ []) before.are (takes.is, tt));
  is = grown recorded after before.judged takes.judged before.is takes.after_is;
}

-- a line feed was found
pub first_line : (rest line behind : List ℕ) (at : ℕ) → IsFirstByte (is_byte 10) rest (Some at) → line ≡ take at rest → behind ≡ drop 1 (drop at rest) → file_lines rest ≡ line ∷ file_lines behind
first_line rest line behind at found line_is behind_is =
    let first = first_cut rest at found in
    ap (λ (lines : List (List ℕ)). lines ++ rest_of rest ∷ []) first.lines ∙ ap (λ (end : List ℕ). (take at rest ∷ lines_of (drop 1 (drop at rest))) ++ end ∷ []) first.rest
    ∙ ap (λ (l : List ℕ). l ∷ file_lines (drop 1 (drop at rest))) (sym line_is) ∙ ap (λ (b : List ℕ). line ∷ file_lines b) (sym behind_is)

-- none was found
pub last_line : (rest : List ℕ) → IsFirstByte (is_byte 10) rest None → file_lines rest ≡ rest ∷ []
last_line rest nowhere =
    let plain = plain-none rest nowhere in
    ap (λ (lines : List (List ℕ)). lines ++ rest_of rest ∷ []) (no_cuts rest plain) ∙ ap (λ (end : List ℕ). end ∷ []) (all_rest rest plain)
