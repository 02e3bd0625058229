-- What forwarding leaves, by what sending and polling leave.
use Rattle.std.proofs.Common.{◌≡◌, ◌⊎◌, ◌≤◌, ◌<◌, ◌^◌, ℕ, true, List, [], ◌++◌, length, map, sym, ap, ◌∙◌, subst, arith}
use Rattle.std.proofs.lemmas.List.{append-nil}
use Rattle.osq_outside.specs.Causes.{Rose}
use Rattle.entry_model.specs.declared.entry.Entry.{Entry}
use Rattle.entry_model.specs.declared.entry.Entry.TheVariants.{Acked}
use Rattle.entry_model.specs.Legal.{Legal}
use Rattle.entry_model.specs.Summary.{summary}
use Rattle.entry_model.proofs.Follows.{Legal-front}
use Rattle.batch_frames.specs.Valid.{is_host}
use Rattle.session_state.specs.Kept.{Counts, IsState, Kept, counts_of}
use Rattle.session_model.specs.Working.{acks_of, marks_beyond}
use Rattle.batch_forwarder.specs.declared.forwarder.Forwarder.{Forwarder}
use Rattle.batch_forwarder.specs.Frames.{frames_due}
use Rattle.batch_forwarder.specs.Polling.{Polls, PollsAll}
use Rattle.batch_forwarder.specs.Sending.{IsOver, SendsFront}
use Rattle.batch_forwarder.specs.Windows.{acked_of, fresh, sealed_of}
use Rattle.daemon_rounds.specs.Keeping.{GoesOn}
use Rattle.forward_rounds.specs.Forwarding.{AreBeyond, Forwarded, View}
use Rattle.forward_rounds.proofs.Marking.{are_beyond}

-- a state whose tail is sealed stands for the kept list
module _ (tells : Type 0) (kept : List Entry) (s : Kept) (g : GoesOn tells kept s) (sealed : s.tail ≡ []) where
  pub counts_are : tells → Legal kept → counts_of (summary kept) ≡ s.counts
  counts_are told legal =
      let list = g.list told in
      let before : Legal list.before = Legal-front list.before g.sealed (subst Legal list.is legal) in
      let all : list.before ++ (g.sealed ++ s.tail) ≡ kept =
      ap (λ (tail : List Entry). list.before ++ (g.sealed ++ tail)) sealed ∙ ap (λ (es : List Entry). list.before ++ es) (append-nil g.sealed) ∙ sym list.is in
      subst (λ (es : List Entry). counts_of (summary es) ≡ s.counts) all (g.stands.values list.before before list.same).counts

  few : IsState s → tells → Legal kept → length kept < 2 ^ 63
  few is told legal =
      let size : length kept ≡ s.counts.position = ap (λ (c : Counts). c.position) (counts_are told legal) in
      let room = is.position in
      omega (arith, size, room)

  -- a forwarder that begins with its counts
  module _ (first : Forwarder) (begins : first ≡ fresh s.counts.acked s.counts.batches) where
    pub over : tells → Legal kept → IsOver kept first
    over told legal = subst (IsOver kept) (sym begins) (record {
      acked = sym (ap (λ (c : Counts). c.acked) (counts_are told legal));
      sealed = sym (ap (λ (c : Counts). c.batches) (counts_are told legal));
    })

    module _ (is : IsState s) (host : List ℕ) (named : is_host host ≡ true) (link_tells : Type 0) (before mid after : View) (forwarder last : Forwarder) (none marks : List ℕ) where
      -- what sending and polling leave
      pub record Steps : Type 0 where
        pub same : (acked_of forwarder ≡ acked_of first) × (sealed_of forwarder ≡ sealed_of first)
        pub front : tells → link_tells → IsOver kept first → SendsFront (frames_due host kept) before.sent mid.sent
        pub whole : tells → link_tells → IsOver kept first → Legal kept → length kept < 2 ^ 63 → is_host host ≡ true → (mid.sent ≡ before.sent ++ frames_due host kept) ⊎ Rose before.faults mid.faults
        pub waiting : link_tells → mid.waiting ≡ before.waiting
        pub earlier : before.faults ≤ mid.faults
        pub none_is : none ≡ []
        pub polls : PollsAll link_tells (Rose mid.faults after.faults) host mid.waiting after.waiting forwarder last none marks
        pub sent : link_tells → after.sent ≡ mid.sent
        pub later : mid.faults ≤ after.faults

      module _ (steps : Steps) where
        abbrev polls : Polls link_tells host [] mid.waiting after.waiting forwarder last none marks
        polls = steps.polls.polls

        acked : forwarder.acked ≡ s.counts.acked
        acked = steps.same.0 ∙ ap acked_of begins

        batches : forwarder.sealed ≡ s.counts.batches
        batches = steps.same.1 ∙ ap sealed_of begins

        marks_are : marks ≡ marks_beyond s.counts.acked s.counts.batches polls.found
        marks_are =
            polls.marks.added ∙ ap (λ (xs : List ℕ). xs ++ marks_beyond forwarder.acked forwarder.sealed polls.found) steps.none_is
            ∙ (λ i. marks_beyond (acked i) (batches i) polls.found)

        acks_are : tells → Legal kept → map Acked marks ≡ acks_of kept polls.found
        acks_are told legal =
            let same = counts_are told legal in
            ap (map Acked) marks_are ∙ sym (ap (λ (c : Counts). map Acked (marks_beyond c.acked c.batches polls.found)) same)

        pub forwarded : Forwarded (tells × Legal kept) link_tells host kept s marks before after
        forwarded = record {
          found = polls.found;
          marks_are = marks_are;
          acks_are = λ legal. acks_are legal.0 legal.1;
          forwards = λ legal. record {
            between = mid.faults;
            earlier = steps.earlier;
            later = steps.later;
            front = λ told. subst (λ (sent : List (List ℕ)). SendsFront (frames_due host kept) before.sent sent) (sym (steps.sent told)) (steps.front legal.0 told (over legal.0 legal.1));
            all = λ told.
                subst (λ (sent : List (List ℕ)). (sent ≡ before.sent ++ frames_due host kept) ⊎ Rose before.faults mid.faults) (sym (steps.sent told))
                (steps.whole legal.0 told (over legal.0 legal.1) legal.1 (few is legal.0 legal.1) named);
            polled = polls.polled;
            waits = λ told. sym (steps.waiting told) ∙ polls.waits told;
            most = polls.most;
            whole = steps.polls.whole;
            are = polls.are;
          };
        }

-- marks that were answered are above one another
pub beyond : (legal tells : Type 0) (host : List ℕ) (kept : List Entry) (s : Kept) (marks : List ℕ) (before after : View) → Forwarded legal tells host kept s marks before after → AreBeyond s.counts.acked s.counts.batches marks
beyond legal tells host kept s marks before after f =
    subst (AreBeyond s.counts.acked s.counts.batches) (sym f.marks_are) (are_beyond s.counts.acked s.counts.batches f.found)
