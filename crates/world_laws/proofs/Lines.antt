-- What is recorded of a host, line by line.
use Rattle.std.proofs.Common.{◌≡◌, ◌∙◌, ◌⊎◌, inl, inr, ℕ, ◌-◌, ◌<◌, ◌^◌, List, [], ◌∷◌, ◌++◌, refl, sym, subst, arith}
use Rattle.entry_model.specs.declared.entry.Entry.{Entry}
use Rattle.entry_model.specs.Legal.{Legal}
use Rattle.entry_model.specs.Values.{commits}
use Rattle.entry_model.proofs.Lasts.{commits-append}
use Rattle.batch_frames.specs.declared.frame.Frame.{Frame}
use Rattle.batch_frames.specs.Decodes.{IsFrameOf as IsTextOf}
use Rattle.batch_frames.specs.Texts.{text_of}
use Rattle.batch_frames.proofs.Framed.{numbers_of}
use Rattle.frame_laws.specs.Laws.{frame_of}
use Rattle.batch_forwarder.specs.Frames.{IsFrameOf}
use Rattle.batch_forwarder.proofs.Told.{stay_frames}
use Rattle.collector_core.specs.Received.{HostDigests, all_received, none_recorded, received}
use Rattle.collector_answers.specs.declared.judging.Judged.{Judged}
use Rattle.collector_answers.specs.declared.judging.Judged.TheVariants.{Bad, Framed}
use Rattle.collector_answers.specs.Judging.{AreJudged, frames_of}
use Rattle.collector_ledger.specs.Files.{file_lines}
use Rattle.collect_rounds.specs.Collecting.{after_lines}
use Rattle.world_laws.specs.Laws.{FileIsPrefix, HostsArePrefixes, LinesArePrefix, StillPrefix}
use Rattle.world_laws.specs.Prefixes.{IsPrefix}
use Rattle.world_laws.specs.Sent.{ComeFrom, IsNoText, WasSent, WereSent}
use Rattle.world_laws.proofs.Numbers.{number_at}
use Rattle.world_laws.proofs.Prefixes.{HasPlace, HavePlaces, all_prefix, longer, no_digests}
use Rattle.world_laws.proofs.Texts.{same_digest, same_sender}

-- what is recorded behind lines is what is recorded behind their frames
behind_frames : (recorded : HostDigests) (judged : List Judged) (host : List ℕ) → after_lines recorded judged host ≡ all_received recorded (frames_of judged) host
behind_frames recorded [] host = refl
behind_frames recorded (Framed frame digest ∷ judged) host = behind_frames (received recorded frame) judged host
behind_frames recorded (Bad kind ∷ judged) host = behind_frames recorded judged host

-- what was sent over a front of the list was sent over the list
over_all : (host : List ℕ) (entries : List Entry) (line : List ℕ) (sent : WasSent host entries line) → IsFrameOf host (commits entries) sent.number line
over_all host entries line sent =
    subst (λ (es : List Entry). IsFrameOf host (commits es) sent.number line) sent.are
    (subst (λ batches. IsFrameOf host batches sent.number line) (sym (commits-append sent.before sent.after)) (stay_frames host (commits sent.before) (commits sent.after) sent.number line sent.is))

-- whose frame a line is, which was sent by this host, and where its batch stands
record Sent (host : List ℕ) (entries : List Entry) (frame : Frame) : Type 0 where
  own : host ≡ frame.host
  place : HasPlace host (commits entries) frame

found : (host : List ℕ) (entries : List Entry) (line : List ℕ) (frame : Frame) → Legal entries → IsTextOf line frame → WasSent host entries line → Sent host entries frame
found host entries line frame legal text sent =
    let of = over_all host entries line sent in
    let has = number_at entries (sent.number - 1) of.batch legal of.at in
    let bound = has.small in
    let small : of.batch.number < 2 ^ 64 = omega (arith, bound) in
    let e : text_of (frame_of host of.batch) ≡ text_of frame = sym of.text ∙ text.is in
    let sender = same_sender (frame_of host of.batch) frame small (numbers_of frame text.valid).number e in
    record {
      own = sender.0;
      place = record { place = sent.number - 1; batch = of.batch; at = of.at; number = sym sender.1 ∙ has.is; digest = sym (same_digest (frame_of host of.batch) frame e) };
    }

places : (host : List ℕ) (entries : List Entry) (lines : List (List ℕ)) (judged : List Judged) → Legal entries → WereSent host entries lines → AreJudged lines judged
    → HavePlaces host (commits entries) (frames_of judged)
places host entries [] [] legal sent are = tt
places host entries [] (one ∷ judged) legal sent are = absurd are
places host entries (line ∷ lines) [] legal sent are = absurd are
places host entries (line ∷ lines) (Framed frame digest ∷ judged) legal sent are =
    ((λ own. (found host entries line frame legal are.0.1 (sent.0 frame are.0.1 own)).place), places host entries lines judged legal sent.1 are.1)
places host entries (line ∷ lines) (Bad kind ∷ judged) legal sent are = places host entries lines judged legal sent.1 are.1

-- lines that were sent keep a prefix
lines_keep : (host : List ℕ) (entries : List Entry) (recorded : HostDigests) (lines : List (List ℕ)) (judged : List Judged) → Legal entries → IsPrefix host (commits entries) (recorded host)
    → WereSent host entries lines → AreJudged lines judged → IsPrefix host (commits entries) (after_lines recorded judged host)
lines_keep host entries recorded lines judged legal before sent are =
    subst (IsPrefix host (commits entries)) (sym (behind_frames recorded judged host))
    (all_prefix host (commits entries) recorded (frames_of judged) before (places host entries lines judged legal sent are))

pub lines_are_prefix : LinesArePrefix
lines_are_prefix host entries lines judged legal sent are = lines_keep host entries none_recorded lines judged legal (no_digests host (commits entries)) sent are

pub still_prefix : StillPrefix
still_prefix host before after recorded lines judged legal first sent are =
    lines_keep host (before ++ after) recorded lines judged legal
    (subst (λ batches. IsPrefix host batches (recorded host)) (sym (commits-append before after)) (longer host (commits before) (commits after) (recorded host) first)) sent are

pub file_is_prefix : FileIsPrefix
file_is_prefix host entries file recorded legal sent of =
    subst (IsPrefix host (commits entries)) (sym (of.is host))
    (all_prefix host (commits entries) none_recorded (frames_of of.judged) (no_digests host (commits entries)) (places host entries (file_lines file) of.judged legal sent of.lines))

-- ---- many hosts

-- a line that some host sent was sent by the host that its frame tells
by_host : (kept : List ℕ → List Entry) (line host : List ℕ) (frame : Frame) → ((any : List ℕ) → Legal (kept any)) → IsTextOf line frame → frame.host ≡ host
    → IsNoText line ⊎ ((sender : List ℕ) × WasSent sender (kept sender) line) → WasSent host (kept host) line
by_host kept line host frame legal text own (inl none) = absurd (none frame text)
by_host kept line host frame legal text own (inr (sender, sent)) =
    let told = found sender (kept sender) line frame (legal sender) text sent in
    subst (λ (any : List ℕ). WasSent any (kept any) line) (told.own ∙ own) sent

each_sent : (kept : List ℕ → List Entry) (lines : List (List ℕ)) (host : List ℕ) → ((any : List ℕ) → Legal (kept any)) → ComeFrom kept lines → WereSent host (kept host) lines
each_sent kept [] host legal come = tt
each_sent kept (line ∷ lines) host legal come = ((λ frame text own. by_host kept line host frame legal text own come.0), each_sent kept lines host legal come.1)

pub hosts_are_prefixes : HostsArePrefixes
hosts_are_prefixes kept lines judged legal come are host = lines_are_prefix host (kept host) lines judged (legal host) (each_sent kept lines host legal come) are
