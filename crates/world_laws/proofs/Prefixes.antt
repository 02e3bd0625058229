-- What is recorded of a host, frame by frame.
use Rattle.std.proofs.Common.{◌≡◌, ◌∙◌, ℕ, zero, suc, ◌+◌, ◌≤◌, ◌==◌, Bool, true, false, List, [], ◌∷◌, ◌++◌, length, length-append, map, take, bytes_eq, ap, refl, sym, subst, arith, Some}
use Rattle.std.specs.Prelude.{if◌then◌else◌, slice_get}
use Rattle.std.specs.List.{AllByRecursion}
use Rattle.std.proofs.lemmas.Bool.{eqb-true}
use Rattle.std.proofs.lemmas.List.{length-map, length-take-le, map-append}
use Rattle.std.proofs.lemmas.Option.{slice_get_within}
use Rattle.std.proofs.lemmas.Slice.Eq.{bytes_eq-Decides}
use Rattle.entry_model.specs.declared.entry.Batch.{Batch}
use Rattle.entry_model.specs.declared.entry.Entry.{Entry}
use Rattle.entry_model.specs.Legal.{Legal}
use Rattle.entry_model.specs.Values.{commits}
use Rattle.batch_frames.specs.declared.frame.Frame.{Frame}
use Rattle.batch_frames.specs.Texts.{digest_of}
use Rattle.batch_forwarder.proofs.Places.{take_more}
use Rattle.collector_core.specs.Received.{HostDigests, all_received, none_recorded, received}
use Rattle.collector_core.specs.Receipts.{kept_after}
use Rattle.world_laws.specs.Laws.{LedgerIsPrefix}
use Rattle.world_laws.specs.Prefixes.{IsPrefix, digest_for}
use Rattle.world_laws.specs.Sent.{AreSent, IsSent}
use Rattle.world_laws.proofs.Numbers.{number_at}

-- the frame has the number of a batch's place, counted from 1, and the digest of that batch
pub record HasPlace (host : List ℕ) (batches : List Batch) (frame : Frame) : Type 0 where
  pub place : ℕ
  pub batch : Batch
  pub at : slice_get batches place ≡ Some batch
  pub number : frame.batch.number ≡ place + 1
  pub digest : digest_of frame ≡ digest_for host batch

-- each of the host's frames has one
abbrev pub HavePlaces : List ℕ → List Batch → List Frame → Type 0
HavePlaces host batches frames = AllByRecursion (λ frame. frame.host ≡ host → HasPlace host batches frame) frames

pub no_digests : (host : List ℕ) (batches : List Batch) → IsPrefix host batches []
no_digests host batches = record { count = 0; within = omega arith; is = refl }

prefix_length : (host : List ℕ) (batches : List Batch) (digests : List (List ℕ)) (before : IsPrefix host batches digests) → length digests ≡ before.count
prefix_length host batches digests before =
    ap length before.is ∙ length-map (take before.count batches) (digest_for host) ∙ length-take-le before.count batches before.within

-- the digest of the next batch is added
one_more : (host : List ℕ) (batches : List Batch) (digests : List (List ℕ)) (digest : List ℕ) (batch : Batch) (before : IsPrefix host batches digests)
    → slice_get batches before.count ≡ Some batch → digest ≡ digest_for host batch → IsPrefix host batches (digests ++ digest ∷ [])
one_more host batches digests digest batch before at is =
    let within = slice_get_within batches before.count batch at in
    record {
      count = suc before.count;
      within = omega (arith, within);
      is =
          ap (λ (ds : List (List ℕ)). ds ++ digest ∷ []) before.is ∙ ap (λ (d : List ℕ). map (digest_for host) (take before.count batches) ++ d ∷ []) is
          ∙ sym (map-append (digest_for host) (take before.count batches) (batch ∷ [])) ∙ ap (map (digest_for host)) (sym (take_more batches before.count batch at));
    }

-- a frame with a place is recorded where that is the next one, and else it changes nothing
kept_prefix : (host : List ℕ) (batches : List Batch) (digests : List (List ℕ)) (frame : Frame) → IsPrefix host batches digests → HasPlace host batches frame
    → IsPrefix host batches (kept_after digests frame.batch.number (digest_of frame))
kept_prefix host batches digests frame before found = by (frame.batch.number == length digests + 1) refl
  where
    by : (t : Bool) → (frame.batch.number == length digests + 1) ≡ t → IsPrefix host batches (if t then digests ++ digest_of frame ∷ [] else digests)
    by true e =
        let long = prefix_length host batches digests before in
        let next = eqb-true frame.batch.number (length digests + 1) e in
        let number = found.number in
        let here : found.place ≡ before.count = omega (arith, long, next, number) in
        one_more host batches digests (digest_of frame) found.batch before (subst (λ (n : ℕ). slice_get batches n ≡ Some found.batch) here found.at) found.digest
    by false e = before

received_prefix : (host : List ℕ) (batches : List Batch) (recorded : HostDigests) (frame : Frame) → IsPrefix host batches (recorded host) → (frame.host ≡ host → HasPlace host batches frame)
    → IsPrefix host batches (received recorded frame host)
received_prefix host batches recorded frame before own = by (bytes_eq frame.host host) refl
  where
    by : (t : Bool) → bytes_eq frame.host host ≡ t → IsPrefix host batches (if t then kept_after (recorded host) frame.batch.number (digest_of frame) else recorded host)
    by true e = kept_prefix host batches (recorded host) frame before (own ((bytes_eq-Decides frame.host host).0 e))
    by false e = before

-- frames with places keep a prefix
pub all_prefix : (host : List ℕ) (batches : List Batch) (recorded : HostDigests) (frames : List Frame) → IsPrefix host batches (recorded host) → HavePlaces host batches frames
    → IsPrefix host batches (all_received recorded frames host)
all_prefix host batches recorded [] before all = before
all_prefix host batches recorded (frame ∷ frames) before all =
    all_prefix host batches (received recorded frame) frames (received_prefix host batches recorded frame before all.0) all.1

-- the front of a list stays it when the list grows
pub longer : (host : List ℕ) (batches later : List Batch) (digests : List (List ℕ)) → IsPrefix host batches digests → IsPrefix host (batches ++ later) digests
longer host batches later digests before =
    let long = length-append batches later in
    let within = before.within in
    record { count = before.count; within = omega (arith, long, within); is = before.is ∙ ap (map (digest_for host)) (sym (take_front before.count batches later before.within)) }
  where
    take_front : {X : Type 0} (n : ℕ) (xs ys : List X) → n ≤ length xs → take n (xs ++ ys) ≡ take n xs
    take_front zero xs ys within = refl
    take_front (suc n) [] ys within = absurd (omega (arith, within))
    take_front (suc n) (x ∷ xs) ys within = ap (λ l. x ∷ l) (take_front n xs ys (omega (arith, within)))

place_of : (host : List ℕ) (entries : List Entry) (frame : Frame) → Legal entries → IsSent host (commits entries) frame → HasPlace host (commits entries) frame
place_of host entries frame legal sent =
    let has = number_at entries sent.place sent.batch legal sent.at in
    record { place = sent.place; batch = sent.batch; at = sent.at; number = ap (λ (f : Frame). f.batch.number) sent.is ∙ has.is; digest = ap digest_of sent.is }

places : (host : List ℕ) (entries : List Entry) (frames : List Frame) → Legal entries → AreSent host (commits entries) frames → HavePlaces host (commits entries) frames
places host entries [] legal sent = tt
places host entries (frame ∷ frames) legal sent = ((λ own. place_of host entries frame legal (sent.0 own)), places host entries frames legal sent.1)

pub ledger_is_prefix : LedgerIsPrefix
ledger_is_prefix host entries frames legal sent =
    all_prefix host (commits entries) none_recorded frames (no_digests host (commits entries)) (places host entries frames legal sent)
