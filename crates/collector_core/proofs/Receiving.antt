-- What holds of the frames that are received.
use Rattle.std.proofs.Common.{◌≡◌, ◌∙◌, ℕ, ◌+◌, ◌==◌, Bool, true, false, List, [], ◌∷◌, ◌++◌, length, map, cond, bytes_eq, ap, refl, sym, subst, arith}
use Rattle.std.specs.Prelude.{◌&&◌, if◌then◌else◌}
use Rattle.std.proofs.lemmas.List.{append_assoc, append-nil, length_push}
use Rattle.std.proofs.lemmas.Slice.Eq.{bytes_eq-Decides}
use Rattle.batch_frames.specs.Texts.{digest_of}
use Rattle.batch_frames.specs.declared.frame.Frame.{Frame}
use Rattle.collector_core.specs.Laws.{Stays, AreNumbered, InOrder, Isolation, Once, Recorded, frames_of}
use Rattle.collector_core.specs.Received.{HostDigests, all_received, none_recorded, received, recorded_from}
use Rattle.collector_core.specs.Receipts.{kept_after}

-- the digests of a host after its frames
abbrev own_after : List (List ℕ) → List Frame → List (List ℕ)
own_after digests [] = digests
own_after digests (frame ∷ frames) = own_after (kept_after digests frame.batch.number (digest_of frame)) frames

own-first : (b : Bool) (digests : List (List ℕ)) (frame : Frame) (rest : List Frame)
    → own_after (if b then kept_after digests frame.batch.number (digest_of frame) else digests) rest ≡ own_after digests (cond b (frame ∷ rest) rest)
own-first true digests frame rest = refl
own-first false digests frame rest = refl

own-all : (host : List ℕ) (recorded : HostDigests) (frames : List Frame) → all_received recorded frames host ≡ own_after (recorded host) (frames_of host frames)
own-all host recorded [] = refl
own-all host recorded (frame ∷ frames) =
    own-all host (received recorded frame) frames ∙ own-first (bytes_eq frame.host host) (recorded host) frame (frames_of host frames)

pub isolation : Isolation
isolation host one other frames others same alike =
    own-all host one frames ∙ ap (λ (digests : List (List ℕ)). own_after digests (frames_of host frames)) same
    ∙ ap (own_after (other host)) alike ∙ sym (own-all host other others)

-- a number that was the next is not the next once it is recorded
passed : (digests : List (List ℕ)) (number : ℕ) (digest : List ℕ) → (number == length digests + 1) ≡ true → (number == length (digests ++ digest ∷ []) + 1) ≡ false
passed digests number digest next = grind (arith, length_push)

kept-once : (digests : List (List ℕ)) (number : ℕ) (digest : List ℕ) → kept_after (kept_after digests number digest) number digest ≡ kept_after digests number digest
kept-once digests number digest = by (number == length digests + 1) refl
  where
    by : (b : Bool) → (number == length digests + 1) ≡ b
        → kept_after (if b then digests ++ digest ∷ [] else digests) number digest ≡ (if b then digests ++ digest ∷ [] else digests)
    by true e = ap (λ (b : Bool). if b then (digests ++ digest ∷ []) ++ digest ∷ [] else (digests ++ digest ∷ [])) (passed digests number digest e)
    by false e = ap (λ (b : Bool). if b then digests ++ digest ∷ [] else digests) e

pub once : Once
once recorded frame host = by (bytes_eq frame.host host)
  where
    after : Bool → List (List ℕ) → List (List ℕ)
    after b digests = if b then kept_after digests frame.batch.number (digest_of frame) else digests

    by : (b : Bool) → after b (after b (recorded host)) ≡ after b (recorded host)
    by true = kept-once (recorded host) frame.batch.number (digest_of frame)
    by false = refl

-- the next number is recorded
next : (digests : List (List ℕ)) (number : ℕ) (digest : List ℕ) → number ≡ length digests + 1 → kept_after digests number digest ≡ digests ++ digest ∷ []
next digests number digest is = ap (λ (b : Bool). if b then digests ++ digest ∷ [] else digests) (equal is)
  where
    equal : number ≡ length digests + 1 → (number == length digests + 1) ≡ true
    equal e = grind arith

in-order-on : (host : List ℕ) (recorded : HostDigests) (frames : List Frame) → AreNumbered (length (recorded host) + 1) host frames
    → all_received recorded frames host ≡ recorded host ++ map digest_of frames
in-order-on host recorded [] numbered = sym (append-nil (recorded host))
in-order-on host recorded (frame ∷ frames) numbered =
    let own : bytes_eq frame.host host ≡ true = (bytes_eq-Decides frame.host host).1 numbered.0 in
    let step : received recorded frame host ≡ recorded host ++ digest_of frame ∷ [] =
    ap (λ (b : Bool). if b then kept_after (recorded host) frame.batch.number (digest_of frame) else recorded host) own
    ∙ next (recorded host) frame.batch.number (digest_of frame) numbered.1 in
    let long : length (recorded host) + 1 ≡ length (received recorded frame host) =
    sym (ap length step ∙ length_push (recorded host) (digest_of frame)) in
    in-order-on host (received recorded frame) frames (subst (λ (n : ℕ). AreNumbered (n + 1) host frames) long numbered.2)
    ∙ ap (λ (digests : List (List ℕ)). digests ++ map digest_of frames) step
    ∙ append_assoc (recorded host) (digest_of frame ∷ []) (map digest_of frames)

pub in-order : InOrder
in-order host frames numbered = in-order-on host none_recorded frames numbered

-- digests are only added
added-one : (b : Bool) (digests : List (List ℕ)) (digest : List ℕ) → (added : List (List ℕ)) × ((if b then digests ++ digest ∷ [] else digests) ≡ digests ++ added)
added-one true digests digest = (digest ∷ [], refl)
added-one false digests digest = ([], sym (append-nil digests))

added-own : (b : Bool) (digests : List (List ℕ)) (number : ℕ) (digest : List ℕ)
    → (added : List (List ℕ)) × ((if b then kept_after digests number digest else digests) ≡ digests ++ added)
added-own true digests number digest = added-one (number == length digests + 1) digests digest
added-own false digests number digest = ([], sym (append-nil digests))

pub stays : Stays
stays recorded [] host = ([], sym (append-nil (recorded host)))
stays recorded (frame ∷ frames) host =
    let first = added-own (bytes_eq frame.host host) (recorded host) frame.batch.number (digest_of frame) in
    let later = stays (received recorded frame) frames host in
    (first.0 ++ later.0, later.1 ∙ ap (λ (digests : List (List ℕ)). digests ++ later.0) first.1 ∙ append_assoc (recorded host) first.0 later.0)

-- the digests of a host after a frame, which is its own or not, and the next or not
abbrev after_frame : Bool → Bool → List (List ℕ) → Frame → List (List ℕ)
after_frame own next digests frame = if own then (if next then digests ++ digest_of frame ∷ [] else digests) else digests

recorded-step : (host : List ℕ) (own next : Bool) (digests : List (List ℕ)) (frame : Frame) (frames : List Frame)
    → digests ++ map digest_of (if own && next then frame ∷ recorded_from (length digests + 1) host frames else recorded_from (length digests) host frames)
    ≡ after_frame own next digests frame ++ map digest_of (recorded_from (length (after_frame own next digests frame)) host frames)
recorded-step host true true digests frame frames =
    ap (λ (n : ℕ). digests ++ digest_of frame ∷ map digest_of (recorded_from n host frames)) (sym (length_push digests (digest_of frame)))
    ∙ sym (append_assoc digests (digest_of frame ∷ []) (map digest_of (recorded_from (length (digests ++ digest_of frame ∷ [])) host frames)))
recorded-step host true false digests frame frames = refl
recorded-step host false next digests frame frames = refl

recorded-on : (host : List ℕ) (recorded : HostDigests) (frames : List Frame)
    → recorded host ++ map digest_of (recorded_from (length (recorded host)) host frames) ≡ all_received recorded frames host
recorded-on host recorded [] = append-nil (recorded host)
recorded-on host recorded (frame ∷ frames) =
    recorded-step host (bytes_eq frame.host host) (frame.batch.number == length (recorded host) + 1) (recorded host) frame frames
    ∙ recorded-on host (received recorded frame) frames

pub recorded : Recorded
recorded host frames = recorded-on host none_recorded frames
