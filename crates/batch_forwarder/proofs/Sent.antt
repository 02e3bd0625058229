-- Frames sent one after another.
use Rattle.std.proofs.Common.{◌≡◌, ◌⊎◌, ℕ, suc, ◌+◌, ◌-◌, ◌≤◌, true, false, List, [], ◌∷◌, ◌++◌, length, take, sym, ap, ◌∙◌, subst, inl, inr, arith, append_assoc, Some}
use Rattle.std.specs.Prelude.{slice_get}
use Rattle.std.proofs.lemmas.List.{append-nil, take_all}
use Rattle.osq_outside.specs.Causes.{Rose}
use Rattle.entry_model.specs.declared.entry.Batch.{Batch}
use Rattle.entry_model.specs.declared.entry.Entry.{Entry}
use Rattle.entry_model.specs.Values.{commits}
use Rattle.batch_forwarder.specs.declared.forwarder.Forwarder.{Forwarder}
use Rattle.batch_forwarder.specs.Frames.{frame_for, frame_text, frames_due}
use Rattle.batch_forwarder.specs.Sending.{IsOver, SendsFront, SendsNext, next_frame}
use Rattle.batch_forwarder.specs.Windows.{after_next, restarted}
use Rattle.batch_forwarder.proofs.Due.{due_few, next_due, next_is, next_last, none_due}
use Rattle.batch_forwarder.proofs.Places.{take_more}

rose_back : (first before now : ℕ) → first ≤ before → Rose before now → Rose first now
rose_back first before now later rose = omega (arith, later, rose)

pub or_rose_back : (P : Type 0) (first before now : ℕ) → first ≤ before → P ⊎ Rose before now → P ⊎ Rose first now
or_rose_back P first before now later (inl is) = inl is
or_rose_back P first before now later (inr rose) = inr (rose_back first before now later rose)

-- so many frames were sent from a restart on
pub record HasSent (host : List ℕ) (entries : List Entry) (before now : List (List ℕ)) (forwarder : Forwarder) (count : ℕ) : Type 0 where
  pub over : IsOver entries forwarder
  pub last : forwarder.last ≡ forwarder.acked + count
  pub sent : now ≡ before ++ take count (frames_due host entries)

module _ (host : List ℕ) (entries : List Entry) (before : List (List ℕ)) where
  pub sent_none : (start : Forwarder) → IsOver entries start → HasSent host entries before before (restarted start) 0
  sent_none start over = record {
    over = record { acked = over.acked; sealed = over.sealed };
    last = omega arith;
    sent = sym (append-nil before);
  }

  module _ (now : List (List ℕ)) (forwarder : Forwarder) (count : ℕ) (has : HasSent host entries before now forwarder count) where
    within : forwarder.acked ≤ forwarder.last
    within = let last = has.last in omega (arith, last)

    place : forwarder.last - forwarder.acked ≡ count
    place = let last = has.last in omega (arith, last)

    more : (later : List (List ℕ)) (frame : List ℕ) → next_frame host forwarder entries ≡ Some frame → later ≡ now ++ frame ∷ [] → HasSent host entries before later (after_next forwarder) (count + 1)
    more later frame due is =
        let next = next_is host forwarder entries frame due in
        let at : slice_get (frames_due host entries) count ≡ Some frame = ap (slice_get (frames_due host entries)) (sym place) ∙ next_due host forwarder entries has.over within frame next in
        let one : count + 1 ≡ suc count = omega arith in
        let whole : later ≡ before ++ take (count + 1) (frames_due host entries) =
        is ∙ ap (λ frames. frames ++ frame ∷ []) has.sent ∙ append_assoc before (take count (frames_due host entries)) (frame ∷ [])
        ∙ ap (λ frames. before ++ frames) (sym (ap (λ n. take n (frames_due host entries)) one ∙ take_more (frames_due host entries) count frame at)) in
        subst (λ (f : Forwarder). HasSent host entries before later f (count + 1)) (sym (next_last host forwarder entries next.may))
        (record { over = record { acked = has.over.acked; sealed = has.over.sealed }; last = (let last = has.last in omega (arith, last)); sent = whole })

    -- one more was sent
    pub sent_more : (failed : Type 0) (later : List (List ℕ)) → SendsNext (next_frame host forwarder entries) failed now later true → HasSent host entries before later (after_next forwarder) (count + 1)
    sent_more failed later sends = more later sends.0 sends.1 sends.2

    -- the first so many
    pub sent_front : (later : List (List ℕ)) → later ≡ now → SendsFront (frames_due host entries) before later
    sent_front later same = record { count = count; sent = same ∙ has.sent }

    all_sent : length (frames_due host entries) ≤ count → now ≡ before ++ frames_due host entries
    all_sent enough = has.sent ∙ ap (λ frames. before ++ frames) (take_all count (frames_due host entries) enough)

    -- none more could be sent
    pub sent_all : (failed : Type 0) (later : List (List ℕ)) → SendsNext (next_frame host forwarder entries) failed now later false
        → ((place : ℕ) (batch : Batch) → slice_get (commits entries) place ≡ Some batch → frame_for host batch ≡ Some (frame_text host batch))
        → (later ≡ before ++ frames_due host entries) ⊎ failed
    sent_all failed later (same, inr rose) framed = inr rose
    sent_all failed later (same, inl none) framed =
        inl (same ∙ all_sent (subst (λ (n : ℕ). length (frames_due host entries) ≤ n) place (none_due host forwarder entries has.over within framed none)))

    -- no more are sent at once
    pub sent_most : count ≡ 64 → now ≡ before ++ frames_due host entries
    sent_most most = let few = due_few host forwarder entries in all_sent (omega (arith, few, most))
