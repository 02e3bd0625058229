-- The next frame is the next of those that are due.
use Rattle.std.proofs.Common.{◌≡◌, ℕ, ◌+◌, ◌-◌, ◌<◌, ◌≤◌, Bool, true, false, cond, List, length, take, drop, min, refl, sym, ap, ◌∙◌, arith, Option, Some, None}
use Rattle.std.specs.Prelude.{nat_lt, slice_get, option_and_then, unwrap_or}
use Rattle.std.specs.Option.{option_map}
use Rattle.std.proofs.lemmas.Bool.Decides.{nat_tests}
use Rattle.std.proofs.lemmas.List.{length-drop, length-map, length-take}
use Rattle.std.proofs.lemmas.Option.{none-some, same_Some, slice_get-map}
use Rattle.entry_model.specs.declared.entry.Batch.{Batch}
use Rattle.entry_model.specs.declared.entry.Entry.{Entry}
use Rattle.entry_model.specs.Values.{acked_upto, commits}
use Rattle.batch_keeper.specs.Fetching.{fetched}
use Rattle.batch_forwarder.specs.declared.forwarder.Forwarder.{Forwarder}
use Rattle.batch_forwarder.specs.Frames.{frame_for, frame_text, frames_due, has_frame}
use Rattle.batch_forwarder.specs.Sending.{IsOver, next_frame}
use Rattle.batch_forwarder.specs.Windows.{IN_FLIGHT, after_next, may_send}
use Rattle.batch_forwarder.proofs.Places.{get_drop, get_take, none_past}

-- the next frame is that of a batch, which may be sent
pub record IsNext (host : List ℕ) (forwarder : Forwarder) (entries : List Entry) (frame : List ℕ) : Type 0 where
  pub batch : Batch
  pub may : may_send forwarder (forwarder.last + 1) ≡ true
  pub at : slice_get (commits entries) forwarder.last ≡ Some batch
  pub is : frame_text host batch ≡ frame

module _ (host : List ℕ) (forwarder : Forwarder) (entries : List Entry) where
  by_frame : (batch : Batch) (frame : List ℕ) (has : Bool) → has_frame host batch ≡ has → frame_for host batch ≡ Some frame → frame_text host batch ≡ frame
  by_frame batch frame true is made = same_Some (frame_text host batch) frame (sym (ap (λ b. cond b (Some (frame_text host batch)) None) is) ∙ made)
  by_frame batch frame false is made = absurd (none-some frame (sym (ap (λ b. cond b (Some (frame_text host batch)) None) is) ∙ made))

  by_place : (found : Option Batch) (frame : List ℕ) → option_and_then (frame_for host) found ≡ Some frame → (batch : Batch) × (found ≡ Some batch) × (frame_text host batch ≡ frame)
  by_place None frame made = absurd (none-some frame made)
  by_place (Some batch) frame made = (batch, refl, by_frame batch frame (has_frame host batch) refl made)

  by_mark : (unacked : Bool) → nat_lt (acked_upto entries) (forwarder.last + 1) ≡ unacked → (frame : List ℕ) → option_and_then (frame_for host) (fetched entries (forwarder.last + 1)) ≡ Some frame
      → (batch : Batch) × (slice_get (commits entries) forwarder.last ≡ Some batch) × (frame_text host batch ≡ frame)
  by_mark true is frame made =
      let number : forwarder.last + 1 - 1 ≡ forwarder.last = omega arith in
      let found : fetched entries (forwarder.last + 1) ≡ slice_get (commits entries) forwarder.last =
      ap (λ b. cond b (slice_get (commits entries) (forwarder.last + 1 - 1)) None) is ∙ ap (slice_get (commits entries)) number in
      by_place (slice_get (commits entries) forwarder.last) frame (sym (ap (option_and_then (frame_for host)) found) ∙ made)
  by_mark false is frame made =
      let none : fetched entries (forwarder.last + 1) ≡ None = ap (λ b. cond b (slice_get (commits entries) (forwarder.last + 1 - 1)) None) is in
      absurd (none-some frame (sym (ap (option_and_then (frame_for host)) none) ∙ made))

  by_window : (may : Bool) → may_send forwarder (forwarder.last + 1) ≡ may → (frame : List ℕ) → next_frame host forwarder entries ≡ Some frame → IsNext host forwarder entries frame
  by_window true is frame made =
      let fetches : next_frame host forwarder entries ≡ option_and_then (frame_for host) (fetched entries (forwarder.last + 1)) =
      ap (λ b. option_and_then (λ number. option_and_then (frame_for host) (fetched entries number)) (cond b (Some (forwarder.last + 1)) None)) is in
      let found = by_mark (nat_lt (acked_upto entries) (forwarder.last + 1)) refl frame (sym fetches ∙ made) in
      record { batch = found.0; may = is; at = found.1; is = found.2 }
  by_window false is frame made =
      let none : next_frame host forwarder entries ≡ None =
      ap (λ b. option_and_then (λ number. option_and_then (frame_for host) (fetched entries number)) (cond b (Some (forwarder.last + 1)) None)) is in
      absurd (none-some frame (sym none ∙ made))

  pub next_is : (frame : List ℕ) → next_frame host forwarder entries ≡ Some frame → IsNext host forwarder entries frame
  next_is frame made = by_window (may_send forwarder (forwarder.last + 1)) refl frame made

  -- a frame that is next is the next one due
  pub next_due : IsOver entries forwarder → forwarder.acked ≤ forwarder.last → (frame : List ℕ) → IsNext host forwarder entries frame → slice_get (frames_due host entries) (forwarder.last - forwarder.acked) ≡ Some frame
  next_due over within frame next =
      let acked = over.acked in
      let within' : forwarder.last + 1 ≤ forwarder.acked + 64 = grind (arith, nat_tests, next.may) in
      let near : forwarder.last - forwarder.acked < IN_FLIGHT = omega (arith, within') in
      let place : acked_upto entries + (forwarder.last - forwarder.acked) ≡ forwarder.last = omega (arith, acked, within) in
      slice_get-map (frame_text host) (take IN_FLIGHT (drop (acked_upto entries) (commits entries))) (forwarder.last - forwarder.acked)
      ∙ ap (option_map (frame_text host)) (get_take (drop (acked_upto entries) (commits entries)) (forwarder.last - forwarder.acked) IN_FLIGHT near
      ∙ get_drop (acked_upto entries) (commits entries) (forwarder.last - forwarder.acked)
      ∙ ap (slice_get (commits entries)) place ∙ next.at) ∙ ap Some next.is

  -- the number that is given is one more
  pub next_last : may_send forwarder (forwarder.last + 1) ≡ true → after_next forwarder ≡ record forwarder { last = forwarder.last + 1 }
  next_last may = ap (λ b. record forwarder { last = unwrap_or (cond b (Some (forwarder.last + 1)) None) forwarder.last }) may

  -- so many frames are due
  due_count : length (frames_due host entries) ≡ min 64 (length (commits entries) - acked_upto entries)
  due_count =
      length-map (take IN_FLIGHT (drop (acked_upto entries) (commits entries))) (frame_text host)
      ∙ length-take IN_FLIGHT (drop (acked_upto entries) (commits entries)) ∙ ap (min 64) (length-drop (acked_upto entries) (commits entries))

  pub due_few : length (frames_due host entries) ≤ 64
  due_few = let count = due_count in omega (arith, count)

  is_made : (batch : Batch) (frame : List ℕ) → may_send forwarder (forwarder.last + 1) ≡ true → nat_lt (acked_upto entries) (forwarder.last + 1) ≡ true
      → slice_get (commits entries) forwarder.last ≡ Some batch → frame_for host batch ≡ Some frame → next_frame host forwarder entries ≡ Some frame
  is_made batch frame may unacked at made =
      let number : forwarder.last + 1 - 1 ≡ forwarder.last = omega arith in
      ap (λ b. option_and_then (λ number. option_and_then (frame_for host) (fetched entries number)) (cond b (Some (forwarder.last + 1)) None)) may
      ∙ ap (λ b. option_and_then (frame_for host) (cond b (slice_get (commits entries) (forwarder.last + 1 - 1)) None)) unacked
      ∙ ap (λ place. option_and_then (frame_for host) (slice_get (commits entries) place)) number
      ∙ ap (option_and_then (frame_for host)) at ∙ made

  -- where each batch has a frame, none is next only where none is due any more
  pub none_due : IsOver entries forwarder → forwarder.acked ≤ forwarder.last
      → ((place : ℕ) (batch : Batch) → slice_get (commits entries) place ≡ Some batch → frame_for host batch ≡ Some (frame_text host batch))
      → next_frame host forwarder entries ≡ None → length (frames_due host entries) ≤ forwarder.last - forwarder.acked
  none_due over within framed none = by_may (may_send forwarder (forwarder.last + 1)) refl
    where
      by_found : (found : Option Batch) → slice_get (commits entries) forwarder.last ≡ found → may_send forwarder (forwarder.last + 1) ≡ true → length (frames_due host entries) ≤ forwarder.last - forwarder.acked
      by_found None at may =
          let past = none_past (commits entries) forwarder.last at in
          let sealed = over.sealed in
          absurd (grind (arith, nat_tests, may, sealed, past))
      by_found (Some batch) at may =
          let acked = over.acked in
          let unacked : nat_lt (acked_upto entries) (forwarder.last + 1) ≡ true = grind (arith, nat_tests, acked, within) in
          absurd (none-some (frame_text host batch) (sym none ∙ is_made batch (frame_text host batch) may unacked at (framed forwarder.last batch at)))

      by_may : (may : Bool) → may_send forwarder (forwarder.last + 1) ≡ may → length (frames_due host entries) ≤ forwarder.last - forwarder.acked
      by_may false is =
          let count = due_count in
          let acked = over.acked in
          let sealed = over.sealed in
          grind (arith, nat_tests, count, acked, sealed, is, within)
      by_may true is = by_found (slice_get (commits entries) forwarder.last) refl is
