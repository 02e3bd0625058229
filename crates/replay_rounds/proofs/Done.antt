-- A session that ran all its ticks.
use Rattle.std.proofs.Common.{◌≡◌, ℕ, ◌+◌, true, false, List, [], ◌∷◌, ◌++◌, None, length, length-append, map, sym, ap, ◌∙◌, subst, append_assoc, arith}
use Rattle.source_feeds.specs.Feeding.{Feeding}
use Rattle.entry_model.specs.declared.entry.Entry.{Entry}
use Rattle.entry_model.specs.declared.entry.Entry.TheVariants.{Acked}
use Rattle.entry_model.specs.Legal.{Legal}
use Rattle.entry_model.specs.Laws.{Coverage}
use Rattle.entry_model.specs.Views.{is_evented_table}
use Rattle.forward_rounds.specs.Forwarding.{View}
use Rattle.std.specs.Prelude.{All}
use Rattle.session_model.specs.Taking.{IsReadWhole}
use Rattle.session_model.specs.Working.{acks_of}
use Rattle.session_state.specs.Kept.{Counts, IsState, Kept}
use Rattle.session_state.specs.StateOf.{HasValues}
use Rattle.session_state.specs.Ticks.{first_due, owed_at}
use Rattle.session_state.proofs.Dues.{none_due, owed_is}
use Rattle.replay_rounds.specs.Fixed.{Fixed}
use Rattle.replay_rounds.specs.Refusals.{numbers_of}
use Rattle.replay_rounds.specs.Sources.{AreFed, all_over}
use Rattle.replay_rounds.specs.Running.{HasMore, HasRun, run_by}
use Rattle.replay_rounds.specs.Standing.{Standing}
use Rattle.replay_rounds.specs.declared.refused.Numbers.{Numbers}
use Rattle.replay_rounds.specs.declared.running.Ended.{Ended}
use Rattle.replay_rounds.proofs.Endings.{all_present, all_whole, one_full_tick}
use Rattle.replay_rounds.proofs.Full.{HaveSteps}
use Rattle.replay_rounds.proofs.Ran.{HeardIn, IsAdded, IsToldAll, all_kept, forwarded_all, grows_heard, heard_acks, heard_read, values}
use Rattle.replay_rounds.proofs.Sessions.{at_beat}

-- behind the last tick, what was heard is acknowledged and sealed
module _ {S C : Type 0} (left : S → List ℕ) (x : Fixed) (reads : C → ℕ → C → Type 0) (clock now : C) (before kept : List Entry) (written : List ℕ) (feeds : List Feeding) (objects : List S) (last : ℕ) (old s : Kept) (r : IsAdded left x reads clock now before feeds objects last old) (marks : List ℕ) (after : View) (heard : HeardIn x before marks r.linked after)
    (grown : x.keeper_tells → kept ≡ before ++ map Acked marks) (standing : Standing left x (r.entries ++ map Acked marks) kept feeds objects last s) (empty : s.tail ≡ []) (told : x.sink_tells → IsToldAll x (r.entries ++ map Acked marks) written)
    (ticks : ℕ) (have : x.keeper_tells → HaveSteps x.source_tells left x.given.records ticks x.start x.given.sources feeds objects) (is : IsState s) (due : first_due s ≡ None) (owed : (table : ℕ) → is_evented_table table ≡ true → owed_at s table ≡ None) (coverage : Coverage) where
  abbrev entries : List Entry
  entries = r.entries ++ map Acked marks

  list_is : x.keeper_tells → kept ≡ x.start ++ (r.entries ++ map Acked marks)
  list_is = all_kept left x (r.entries ++ map Acked marks) kept feeds objects last s standing empty

  has : x.keeper_tells → Legal x.start → HasValues kept s
  has tells legal =
      subst (λ (list : List Entry). HasValues list s) (sym (list_is tells)) (values left x (r.entries ++ map Acked marks) kept feeds objects last s standing tells legal)

  -- the list ends with its last tick and what is acknowledged behind it
  ends_are : (tells : x.keeper_tells) (sources : x.source_tells) (legal : Legal x.start) → kept ≡ (x.start ++ (r.full tells sources legal).before) ++ ((r.full tells sources legal).last ++ acks_of ((x.start ++ (r.full tells sources legal).before) ++ (r.full tells sources legal).last) heard.found)
  ends_are tells sources legal =
      let ends = r.full tells sources legal in
      let front : x.start ++ r.entries ≡ (x.start ++ ends.before) ++ ends.last = ap (λ (es : List Entry). x.start ++ es) ends.are ∙ sym (append_assoc x.start ends.before ends.last) in
      list_is tells ∙ sym (append_assoc x.start r.entries (map Acked marks))
      ∙ ap (λ (es : List Entry). (x.start ++ r.entries) ++ es) (heard_acks left x reads clock now before feeds objects last old r marks after heard tells legal)
      ∙ ap (λ (list : List Entry). list ++ acks_of list heard.found) front
      ∙ append_assoc (x.start ++ ends.before) ends.last (acks_of ((x.start ++ ends.before) ++ ends.last) heard.found)

  has_more : x.keeper_tells → x.source_tells → Legal x.start → all_over feeds ≡ false → HasMore x ticks kept
  has_more tells sources legal over =
      let ends = r.full tells sources legal in
      let fed = subst (λ (list : List Entry). AreFed x.source_tells left x.given.config.categories x.start list x.given.sources feeds objects) (sym (list_is tells)) (standing.fed tells) in
      record {
        before = x.start ++ ends.before;
        moment = ends.moment;
        last = ends.last;
        polled = heard.found;
        are = ends_are tells sources legal;
        full = one_full_tick x.order x.source_tells left x.given ticks x.start kept (x.start ++ ends.before) ends.moment feeds objects ends.last sources fed (have tells) ends.tick over;
      }

  pub has_run : (ended : Ended) → length r.beats + 1 ≡ ticks → ended.is_end ≡ all_over feeds → ended.numbers ≡ numbers_of s → HasRun (run_by x reads clock now) ticks kept written after ended
  has_run ended count over numbers = record {
    beats = r.beats ++ at_beat r.reading heard.found ∷ [];
    entries = r.entries ++ map Acked marks;
    read = heard_read left x reads clock now before feeds objects last old r marks after heard;
    count = (let size = length-append r.beats (at_beat r.reading heard.found ∷ []) in omega (arith, size, count));
    grows = grows_heard left x reads clock now before feeds objects last old r marks after heard kept grown;
    forwarded = forwarded_all left x reads clock now before feeds objects last old r marks after heard;
    told = told;
    covered = λ tells legal. coverage kept (has tells legal).legal;
    answered = λ tells legal. none_due kept s (has tells legal) is.runs due;
    settled = λ tells legal table evented. owed_is kept s (has tells legal) table evented ∙ owed table evented;
    events = λ tells legal. ap (λ (n : Numbers). n.events) numbers ∙ (has tells legal).image.last;
    batches = λ tells legal. ap (λ (n : Numbers). n.batches) numbers ∙ sym (ap (λ (c : Counts). c.batches) (has tells legal).counts);
    acknowledged = λ tells legal. ap (λ (n : Numbers). n.acknowledged) numbers ∙ sym (ap (λ (c : Counts). c.acked) (has tells legal).counts);
    present = λ tells sources. all_present x.source_tells left x.given.config.categories x.start (x.start ++ (r.entries ++ map Acked marks)) x.given.sources feeds objects sources (standing.fed tells);
    whole = λ tells sources legal ended_all.
        subst (λ (list : List Entry). All (IsReadWhole x.start list) x.given.sources) (sym (list_is tells)) (all_whole x.source_tells left x.given.config.categories x.start (x.start ++ (r.entries ++ map Acked marks)) x.given.sources feeds objects sources (standing.fed tells) (sym over ∙ ended_all));
    more = λ tells sources legal ended_not. has_more tells sources legal (sym over ∙ ended_not);
  }
