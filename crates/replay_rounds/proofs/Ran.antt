-- A session that runs: what holds of it behind each of its ticks.
use Rattle.std.proofs.Common.{◌≡◌, ℕ, ◌+◌, ◌≤◌, List, [], ◌∷◌, ◌++◌, length, refl, sym, ap, ◌∙◌, subst, append_assoc, arith}
use Rattle.std.specs.Prelude.{All, Option, false, map, max, take}
use Rattle.std.proofs.lemmas.List.{append-nil}
use Rattle.std.proofs.lemmas.List.Elements.{All-cons, All-nil}
use Rattle.config_files.specs.Configurations.{IsConfigOf}
use Rattle.source_feeds.specs.Feeding.{Feeding}
use Rattle.pack_rules.specs.declared.schedule.Form.{Form}
use Rattle.pack_rules.specs.declared.schedule.Form.TheVariants as form
use Rattle.pack_rules.specs.declared.schedule.Schedule.{Schedule}
use Rattle.entry_model.specs.declared.entry.Entry.{Entry}
use Rattle.entry_model.specs.declared.entry.Entry.TheVariants.{Acked, Opened}
use Rattle.entry_model.specs.Legal.{Legal}
use Rattle.entry_model.specs.Values.{moment_of, no_schedule}
use Rattle.session_model.specs.Orders.{TicksIn}
use Rattle.session_model.specs.Sessions.{Beat, Opens}
use Rattle.session_model.specs.Working.{acks_of, is_batch}
use Rattle.session_state.specs.Kept.{Counts, Kept}
use Rattle.session_state.specs.StateOf.{HasValues}
use Rattle.batch_forwarder.proofs.Following.{acks_may_follow}
use Rattle.daemon_rounds.specs.Adding.{counts_after}
use Rattle.daemon_rounds.specs.Telling.{AreLinesOf}
use Rattle.forward_rounds.specs.Forwarding.{View}
use Rattle.forward_rounds.proofs.Acks.{acks_schedule, configured_behind, moment_behind, schedule_behind, taken_behind}
use Rattle.replay_rounds.specs.Fixed.{Fixed}
use Rattle.replay_rounds.specs.OneTick.{HasOneTick, IsOneTick}
use Rattle.replay_rounds.specs.Linking.{HasForwarded, IsAcked, IsHeard, readings_of}
use Rattle.replay_rounds.specs.Running.{AddsAt, Grows, IsKept, IsWritten, ReadsAll, run_by}
use Rattle.replay_rounds.specs.Refusals.{numbers_of}
use Rattle.replay_rounds.specs.Sources.{AreFed}
use Rattle.replay_rounds.specs.Standing.{Standing}
use Rattle.replay_rounds.specs.Stopping.{AreNumbersOf}
use Rattle.replay_rounds.specs.Ticked.{TakesTick}
use Rattle.replay_rounds.proofs.Feeds.{fed_on}
use Rattle.replay_rounds.proofs.Linked.{ForwardsIn, Walks, all_heard, has_forwarded, heard_none, quiet_heard, quiet_session, session, walks_first, walks_on}
use Rattle.replay_rounds.proofs.Sessions.{TicksBy, at_beat}
use Rattle.replay_rounds.proofs.Tellings.{form_behind, form_is, told_more}
use Rattle.replay_rounds.specs.FullTicks.{IsFullTick}

pub reads_more : {C : Type 0} (reads : C → ℕ → C → Type 0) (before between after : C) (readings : List ℕ) (reading : ℕ) → ReadsAll reads before readings between → reads between reading after → ReadsAll reads before (readings ++ reading ∷ []) after
reads_more reads before between after [] reading same read =
    (after, subst (λ (at : _). reads at reading after) same read, refl)
reads_more reads before between after (first ∷ readings) reading (next, one, rest) read =
    (next, one, reads_more reads next between after readings reading rest read)

-- of the lines of all entries, which were written one after another
abbrev pub IsToldAll : Fixed → List Entry → List ℕ → Type 0
IsToldAll x entries written = (lines : List ℕ) × AreLinesOf x.given.host.identifier form.Event entries lines × (written ≡ x.written ++ lines)

-- the last tick, in which each source that isn't at its end gave a full step
pub record EndsFull (x : Fixed) (entries : List Entry) (feeds : List Feeding) : Type 0 where
  pub before : List Entry
  pub moment : ℕ
  pub last : List Entry
  pub are : entries ≡ before ++ last
  pub tick : IsFullTick x.order x.source_tells x.given (x.start ++ before) moment feeds last

-- Behind a tick: the clock was read so often, and the session has added these entries, all of which are kept. It hasn't forwarded behind that tick yet.
pub record IsAdded {S C : Type 0} (left : S → List ℕ) (x : Fixed) (reads : C → ℕ → C → Type 0) (clock now : C) (kept : List Entry) (feeds : List Feeding) (objects : List S) (last : ℕ) (s : Kept) : Type 0 where
  pub beats : List Beat
  pub reading : ℕ
  pub entries : List Entry
  pub linked : View
  pub read : ReadsAll reads clock (readings_of beats ++ reading ∷ []) now
  pub standing : Standing left x entries kept feeds objects last s
  pub empty : s.tail ≡ []
  pub walks : x.keeper_tells → Legal x.start → Walks x beats reading entries linked
  pub full : x.keeper_tells → x.source_tells → Legal x.start → EndsFull x entries feeds

-- it is so over a list that is the same
abbrev pub still_added : {S C : Type 0} (left : S → List ℕ) (x : Fixed) (reads : C → ℕ → C → Type 0) (clock now : C) (kept other : List Entry) (feeds : List Feeding) (objects : List S) (last : ℕ) (s : Kept) → IsAdded left x reads clock now kept feeds objects last s → (x.keeper_tells → other ≡ kept) → IsAdded left x reads clock now other feeds objects last s
still_added left x reads clock now kept other feeds objects last s r same = record {
  beats = r.beats;
  reading = r.reading;
  entries = r.entries;
  linked = r.linked;
  read = r.read;
  standing = record {
    base = r.standing.base;
    same = r.standing.same;
    stands = r.standing.stands;
    sealed = r.standing.sealed;
    parts = r.standing.parts;
    list = λ tells. same tells ∙ r.standing.list tells;
    configured = r.standing.configured;
    schedule = r.standing.schedule;
    fed = r.standing.fed;
  };
  empty = r.empty;
  walks = r.walks;
  full = r.full;
}

-- and they are told
pub record IsRunning {S C : Type 0} (left : S → List ℕ) (x : Fixed) (reads : C → ℕ → C → Type 0) (clock now : C) (kept : List Entry) (written : List ℕ) (feeds : List Feeding) (objects : List S) (last : ℕ) (s : Kept) : Type 0 where
  pub added : IsAdded left x reads clock now kept feeds objects last s
  pub told : x.sink_tells → IsToldAll x added.entries written

-- what is sealed goes from the tail to the keeper
pub sealed_standing : {S : Type 0} (left : S → List ℕ) (x : Fixed) (entries kept now : List Entry) (feeds : List Feeding) (objects : List S) (last : ℕ) (s t : Kept) → Standing left x entries kept feeds objects last s → t ≡ record s { tail = [] } → (x.keeper_tells → now ≡ kept ++ s.tail) → Standing left x entries now feeds objects last t
sealed_standing left x entries kept now feeds objects last s t h taken grown = subst (Standing left x entries now feeds objects last) (sym taken) (record {
  base = h.base;
  same = h.same;
  stands = record {
    values = λ before legal same. let v = h.stands.values before legal same in record { legal = v.legal; counts = v.counts; image = v.image; schedule = v.schedule; ticked = v.ticked; rules = v.rules };
    marks = h.stands.marks;
    position = h.stands.position;
  };
  sealed = entries;
  parts = sym (append-nil entries);
  list = λ tells. grown tells ∙ ap (λ (list : List Entry). list ++ s.tail) (h.list tells) ∙ append_assoc x.start h.sealed s.tail ∙ ap (λ (es : List Entry). x.start ++ es) (sym h.parts);
  configured = h.configured;
  schedule = h.schedule;
  fed = h.fed;
})

-- what the keeper has where nothing is in the tail
pub all_kept : {S : Type 0} (left : S → List ℕ) (x : Fixed) (entries kept : List Entry) (feeds : List Feeding) (objects : List S) (last : ℕ) (s : Kept) → Standing left x entries kept feeds objects last s → s.tail ≡ [] → x.keeper_tells → kept ≡ x.start ++ entries
all_kept left x entries kept feeds objects last s h empty tells =
    h.list tells ∙ ap (λ (es : List Entry). x.start ++ es) (sym (append-nil h.sealed) ∙ ap (λ (es : List Entry). h.sealed ++ es) (sym empty) ∙ sym h.parts)

pub values : {S : Type 0} (left : S → List ℕ) (x : Fixed) (entries kept : List Entry) (feeds : List Feeding) (objects : List S) (last : ℕ) (s : Kept) → Standing left x entries kept feeds objects last s → x.keeper_tells → Legal x.start → HasValues (x.start ++ entries) s
values left x entries kept feeds objects last s h tells legal = h.stands.values x.start legal (h.same tells)

-- and its numbers, which the state has
pub numbers_are : {S : Type 0} (left : S → List ℕ) (x : Fixed) (entries kept : List Entry) (feeds : List Feeding) (objects : List S) (last : ℕ) (s : Kept) → Standing left x entries kept feeds objects last s → s.tail ≡ [] → AreNumbersOf x kept (numbers_of s)
numbers_are left x entries kept feeds objects last s h empty = λ tells legal.
    let has = subst (λ (list : List Entry). HasValues list s) (sym (all_kept left x entries kept feeds objects last s h empty tells)) (values left x entries kept feeds objects last s h tells legal) in
    record { events = has.image.last; batches = sym (ap (λ (c : Counts). c.batches) has.counts); acknowledged = sym (ap (λ (c : Counts). c.acked) has.counts) }

pub moment_is : {S : Type 0} (left : S → List ℕ) (x : Fixed) (entries kept : List Entry) (feeds : List Feeding) (objects : List S) (last : ℕ) (s : Kept) → Standing left x entries kept feeds objects last s → x.keeper_tells → Legal x.start → moment_of (x.start ++ entries) ≡ s.counts.moment
moment_is left x entries kept feeds objects last s h tells legal =
    ap (λ (c : Counts). c.moment) (values left x entries kept feeds objects last s h tells legal).counts

-- the state that has acknowledged these marks stands for them too
pub acked_standing : {S : Type 0} (left : S → List ℕ) (x : Fixed) (entries kept : List Entry) (feeds : List Feeding) (objects : List S) (last : ℕ) (s t : Kept) (marks : List ℕ) → Standing left x entries kept feeds objects last s → IsAcked s marks t → Standing left x (entries ++ map Acked marks) kept feeds objects last t
acked_standing left x entries kept feeds objects last s t marks h acked = record {
  base = h.base;
  same = h.same;
  stands = acked.adds.stands h.base entries h.stands;
  sealed = h.sealed;
  parts = ap (λ (es : List Entry). es ++ map Acked marks) h.parts ∙ append_assoc h.sealed s.tail (map Acked marks) ∙ ap (λ (es : List Entry). h.sealed ++ es) (sym acked.adds.tail);
  list = h.list;
  configured = λ before. configured_behind before entries marks ∙ h.configured before;
  schedule = λ before. schedule_behind before entries marks ∙ h.schedule before ∙ sym (acks_schedule s.schedule marks) ∙ sym acked.adds.schedule;
  fed = λ tells. subst (λ (list : List Entry). AreFed x.source_tells left x.given.config.categories x.start list x.given.sources feeds objects) (append_assoc x.start entries (map Acked marks))
      (fed_on x.source_tells left x.given.config.categories x.start (x.start ++ entries) ((x.start ++ entries) ++ map Acked marks) x.given.sources feeds objects (taken_behind (x.start ++ entries) marks) (h.fed tells));
}

module _ {S C : Type 0} (left : S → List ℕ) (x : Fixed) (reads : C → ℕ → C → Type 0) (clock now : C) (kept next : List Entry) (nexts : List Feeding) (rests : List S) (last moment : ℕ) (old settled new : Kept) (added : List Entry) (t : TakesTick left x added kept nexts rests last moment old settled) (taken : new ≡ record settled { tail = [] }) (grown : x.keeper_tells → next ≡ kept ++ settled.tail) where
  pub standing_behind : Standing left x (added ++ t.own) next nexts rests last new
  standing_behind =
      sealed_standing left x (added ++ t.own) kept next nexts rests last settled new t.standing taken grown

  pub empty_behind : new.tail ≡ []
  empty_behind = ap (λ (k : Kept). k.tail) taken

  pub legal_behind : x.keeper_tells → Legal x.start → Legal (x.start ++ (added ++ t.own))
  legal_behind tells legal =
      (values left x (added ++ t.own) next nexts rests last new standing_behind tells legal).legal

  pub full_behind : x.keeper_tells → x.source_tells → Legal x.start → EndsFull x (added ++ t.own) nexts
  full_behind tells told legal = record { before = added; moment = moment; last = t.own; are = refl; tick = t.full tells told legal }

  -- the first tick of a session that opened at the clock's first reading
  module _ (reading : ℕ) (notes : List ℕ) (read : reads clock reading now) (configuration : IsConfigOf x.given.documents x.given.config notes) (opens : x.keeper_tells → Legal x.start → Opens x.source_tells x.given x.start reading added) (at : x.keeper_tells → Legal x.start → moment ≡ max reading (moment_of (x.start ++ added))) where
    unfoldable pub first_added : IsAdded left x reads clock now next nexts rests last new
    first_added = record {
      beats = [];
      reading = reading;
      entries = added ++ t.own;
      linked = x.link.before;
      read = (now, read, refl);
      standing = standing_behind;
      empty = empty_behind;
      walks = λ tells legal. walks_first x reading notes added t.own configuration (opens tells legal) (subst (λ (m : ℕ). TicksIn x.order x.source_tells x.given (x.start ++ added) m t.own) (at tells legal) (t.ticks tells legal)) (legal_behind tells legal);
      full = full_behind;
    }

    unfoldable pub first_ran : (written : List ℕ) → (x.sink_tells → IsToldAll x (added ++ t.own) written) → IsRunning left x reads clock now next written nexts rests last new
    unfolding first_added
    first_ran written told = record { added = first_added; told = told }

-- lines of the entries of a session that opens are the same, whatever form ran before it
pub from_opened : (host : List ℕ) (before : Form) (number : ℕ) (added own rest : List Entry) (text : List ℕ) → added ≡ Opened number 2 ∷ rest → AreLinesOf host before (added ++ own) text → AreLinesOf host form.Event (added ++ own) text
from_opened host before number added own rest text begins are =
    subst (λ (es : List Entry). AreLinesOf host form.Event (es ++ own) text) (sym begins) (subst (λ (es : List Entry). AreLinesOf host before (es ++ own) text) begins are)

-- these marks are heard behind a tick, where this list is sealed, and the link is left so
abbrev pub HeardIn : Fixed → List Entry → List ℕ → View → View → Type 0
HeardIn x kept marks linked after =
    IsHeard (x.keeper_tells × Legal kept) x.link.forwards x.link.tells x.given.host.identifier kept marks linked after

-- the clock's readings at one beat more
pub readings-more : (beats : List Beat) (reading : ℕ) (polled : List (Option ℕ)) → readings_of (beats ++ at_beat reading polled ∷ []) ≡ readings_of beats ++ reading ∷ []
readings-more [] reading polled = refl
readings-more (beat ∷ beats) reading polled = ap (λ (rs : List ℕ). beat.reading ∷ rs) (readings-more beats reading polled)

-- acknowledgements take nothing of a source
pub taken_stays : (counts : Counts) (marks : List ℕ) → (counts_after counts (map Acked marks)).taken ≡ counts.taken
taken_stays counts [] = refl
taken_stays counts (mark ∷ marks) = taken_stays (record counts { position = counts.position + 1; acked = mark }) marks

-- no acknowledgement is a batch
pub acks_silent : (marks : List ℕ) → All (λ (entry : Entry). is_batch entry ≡ false) (map Acked marks)
acks_silent [] = All-nil (λ (entry : Entry). is_batch entry ≡ false)
acks_silent (mark ∷ marks) = All-cons (λ (entry : Entry). is_batch entry ≡ false) (Acked mark) (map Acked marks) refl (acks_silent marks)

-- what was heard behind the session's last tick, and what it acknowledges
module _ {S C : Type 0} (left : S → List ℕ) (x : Fixed) (reads : C → ℕ → C → Type 0) (clock now : C) (kept : List Entry) (feeds : List Feeding) (objects : List S) (last : ℕ) (s : Kept) (r : IsAdded left x reads clock now kept feeds objects last s) (marks : List ℕ) (after : View) (heard : HeardIn x kept marks r.linked after) where
  heard_list : x.keeper_tells → kept ≡ x.start ++ r.entries
  heard_list = all_kept left x r.entries kept feeds objects last s r.standing r.empty

  heard_legal : x.keeper_tells → Legal x.start → Legal kept
  heard_legal tells legal = subst Legal (sym (heard_list tells)) (r.walks tells legal).legal

  pub heard_acks : x.keeper_tells → Legal x.start → map Acked marks ≡ acks_of (x.start ++ r.entries) heard.found
  heard_acks tells legal =
      heard.acks_are (tells, heard_legal tells legal) ∙ ap (λ (list : List Entry). acks_of list heard.found) (heard_list tells)

  pub heard_in : x.keeper_tells → Legal x.start → ForwardsIn x (x.start ++ r.entries) heard.found r.linked after
  heard_in tells legal =
      subst (λ (list : List Entry). ForwardsIn x list heard.found r.linked after) (heard_list tells) (heard.by (tells, heard_legal tells legal))

  -- they may follow
  pub acks_legal : x.keeper_tells → Legal x.start → Legal (x.start ++ (r.entries ++ acks_of (x.start ++ r.entries) heard.found))
  acks_legal tells legal =
      subst Legal (append_assoc x.start r.entries (acks_of (x.start ++ r.entries) heard.found)) (acks_may_follow (x.start ++ r.entries) heard.found (r.walks tells legal).legal)

  -- a list that has them too
  pub grows_heard : (list : List Entry) → (x.keeper_tells → list ≡ kept ++ map Acked marks) → Grows x list (r.beats ++ at_beat r.reading heard.found ∷ []) (r.entries ++ map Acked marks)
  grows_heard list has = record {
    grown = λ tells. has tells ∙ ap (λ (front : List Entry). front ++ map Acked marks) (heard_list tells) ∙ append_assoc x.start r.entries (map Acked marks);
    adds = λ tells legal. subst (λ (es : List Entry). AddsAt x.order x.source_tells x.given x.start (r.beats ++ at_beat r.reading heard.found ∷ []) (r.entries ++ es)) (sym (heard_acks tells legal))
        (session x r.beats r.reading r.entries r.linked (r.walks tells legal) heard.found (acks_legal tells legal));
    heard = λ tells legal. all_heard x r.beats r.reading r.entries r.linked (r.walks tells legal) heard.found after (heard_in tells legal);
  }

  pub heard_read : ReadsAll reads clock (readings_of (r.beats ++ at_beat r.reading heard.found ∷ [])) now
  heard_read = subst (λ (rs : List ℕ). ReadsAll reads clock rs now) (sym (readings-more r.beats r.reading heard.found)) r.read

  pub heard_kept : (list : List Entry) → (x.keeper_tells → list ≡ kept ++ map Acked marks) → IsKept (run_by x reads clock now) list
  heard_kept list has = record {
    beats = r.beats ++ at_beat r.reading heard.found ∷ [];
    more = [];
    entries = r.entries ++ map Acked marks;
    read = subst (λ (rs : List ℕ). ReadsAll reads clock rs now) (sym (append-nil (readings_of (r.beats ++ at_beat r.reading heard.found ∷ [])))) heard_read;
    few = omega arith;
    grows = grows_heard list has;
  }

  pub forwarded_all : x.keeper_tells → Legal x.start → HasForwarded x (r.beats ++ at_beat r.reading heard.found ∷ []) (r.entries ++ map Acked marks) after
  forwarded_all tells legal =
      subst (λ (es : List Entry). HasForwarded x (r.beats ++ at_beat r.reading heard.found ∷ []) (r.entries ++ es) after) (sym (heard_acks tells legal))
      (has_forwarded x r.beats r.reading r.entries r.linked (r.walks tells legal) heard.found after (heard_in tells legal))

-- a further tick at the clock's next reading, behind what was heard
module _ {S C : Type 0} (left : S → List ℕ) (x : Fixed) (reads : C → ℕ → C → Type 0) (clock between now : C) (kept next : List Entry) (feeds nexts : List Feeding) (objects rests : List S) (configured_at last moment reading : ℕ) (old begun settled new : Kept) (r : IsAdded left x reads clock between kept feeds objects configured_at old) (marks : List ℕ) (after : View) (heard : HeardIn x kept marks r.linked after) (acked : IsAcked old marks begun)
    (t : TakesTick left x (r.entries ++ map Acked marks) kept nexts rests last moment begun settled) where
  pub tail_own : settled.tail ≡ map Acked marks ++ t.own
  tail_own =
      t.tail ∙ ap (λ (es : List Entry). es ++ t.own) (acked.adds.tail ∙ ap (λ (es : List Entry). es ++ map Acked marks) r.empty)

  pub more_is : (r.entries ++ map Acked marks) ++ t.own ≡ r.entries ++ (map Acked marks ++ t.own)
  more_is = append_assoc r.entries (map Acked marks) t.own

  -- they are those of one tick
  pub next_one : HasOneTick (map Acked marks ++ t.own)
  next_one = record { opening = map Acked marks; tick = t.own; are = refl; silent = acks_silent marks; one = t.one }

  -- the lines of all entries go on with those of the tick's
  pub told_on : (before more : List ℕ) → IsToldAll x r.entries before → AreLinesOf x.given.host.identifier begun.schedule.form settled.tail more → (lines : List ℕ) × (before ≡ x.written ++ lines) × AreLinesOf x.given.host.identifier form.Event r.entries lines × AreLinesOf x.given.host.identifier form.Event (r.entries ++ (map Acked marks ++ t.own)) (lines ++ more)
  told_on before more (lines, are, is) ares =
      (lines, is, are, told_more x.given.host.identifier form.Event r.entries (map Acked marks ++ t.own) lines more are own)
    where
      form_now : form_behind form.Event r.entries ≡ begun.schedule.form
      form_now = form_is no_schedule r.entries ∙ ap (λ (d : Schedule). d.form) (r.standing.schedule no_schedule ∙ sym (acks_schedule old.schedule marks) ∙ sym acked.adds.schedule)

      own : AreLinesOf x.given.host.identifier (form_behind form.Event r.entries) (map Acked marks ++ t.own) more
      own =
          subst (λ (f : Form). AreLinesOf x.given.host.identifier f (map Acked marks ++ t.own) more) (sym form_now) (subst (λ (es : List Entry). AreLinesOf x.given.host.identifier begun.schedule.form es more) tail_own ares)

  module _ (taken : new ≡ record settled { tail = [] }) (grown : x.keeper_tells → next ≡ kept ++ settled.tail) (read : reads between reading now) (at : moment ≡ max reading old.counts.moment) where
    pub standing_now : Standing left x ((r.entries ++ map Acked marks) ++ t.own) next nexts rests last new
    standing_now =
        standing_behind left x reads clock now kept next nexts rests last moment begun settled new (r.entries ++ map Acked marks) t taken grown

    module _ (tells : x.keeper_tells) (legal : Legal x.start) where
      acks_so : map Acked marks ≡ acks_of (x.start ++ r.entries) heard.found
      acks_so = heard_acks left x reads clock between kept feeds objects configured_at old r marks after heard tells legal

      moment_same : moment ≡ max reading (moment_of (x.start ++ (r.entries ++ map Acked marks)))
      moment_same =
          at ∙ ap (max reading) (sym (ap moment_of (sym (append_assoc x.start r.entries (map Acked marks))) ∙ moment_behind (x.start ++ r.entries) marks ∙ moment_is left x r.entries kept feeds objects configured_at old r.standing tells legal))

      tick_so : TicksBy x.order x.source_tells x.given (x.start ++ (r.entries ++ map Acked marks)) reading t.own
      tick_so =
          subst (λ (m : ℕ). TicksIn x.order x.source_tells x.given (x.start ++ (r.entries ++ map Acked marks)) m t.own) moment_same (t.ticks tells legal)

      pub walks_so : Walks x (r.beats ++ at_beat r.reading heard.found ∷ []) reading ((r.entries ++ map Acked marks) ++ t.own) after
      walks_so =
          subst (λ (es : List Entry). Walks x (r.beats ++ at_beat r.reading heard.found ∷ []) reading ((r.entries ++ es) ++ t.own) after) (sym acks_so)
          (walks_on x r.beats r.reading r.entries r.linked (r.walks tells legal) heard.found after (heard_in left x reads clock between kept feeds objects configured_at old r marks after heard tells legal) reading t.own
          (subst (λ (es : List Entry). TicksBy x.order x.source_tells x.given (x.start ++ (r.entries ++ es)) reading t.own) acks_so tick_so)
          (subst (λ (es : List Entry). Legal (x.start ++ ((r.entries ++ es) ++ t.own))) acks_so (values left x ((r.entries ++ map Acked marks) ++ t.own) next nexts rests last new standing_now tells legal).legal))

    unfoldable pub added_on : IsAdded left x reads clock now next nexts rests last new
    added_on = record {
      beats = r.beats ++ at_beat r.reading heard.found ∷ [];
      reading = reading;
      entries = (r.entries ++ map Acked marks) ++ t.own;
      linked = after;
      read = subst (λ (rs : List ℕ). ReadsAll reads clock (rs ++ reading ∷ []) now) (sym (readings-more r.beats r.reading heard.found)) (reads_more reads clock between now (readings_of r.beats ++ r.reading ∷ []) reading r.read read);
      standing = standing_now;
      empty = ap (λ (k : Kept). k.tail) taken;
      walks = walks_so;
      full = full_behind left x reads clock now kept next nexts rests last moment begun settled new (r.entries ++ map Acked marks) t taken grown;
    }

    unfoldable pub ran_on : (before written : List ℕ) → (x.sink_tells → IsToldAll x r.entries before) → (x.sink_tells → (more : List ℕ) × AreLinesOf x.given.host.identifier begun.schedule.form settled.tail more × (written ≡ before ++ more)) → IsRunning left x reads clock now next written nexts rests last new
    unfolding added_on
    ran_on before written told more = record {
      added = added_on;
      told = λ tells.
          let (text, ares, is) = more tells in
          let (lines, was, front, all) = told_on before text (told tells) ares in
          (lines ++ text, subst (λ (es : List Entry). AreLinesOf x.given.host.identifier form.Event es (lines ++ text)) (sym more_is) all, is ∙ ap (λ (front : List ℕ). front ++ text) was ∙ append_assoc x.written lines text);
    }

-- what is kept where nothing was sealed
pub none_kept : (x : Fixed) (has_read : List ℕ → Type 0) (readings : List ℕ) (kept : List Entry) → has_read readings → length readings ≤ 1 → (x.keeper_tells → kept ≡ x.start) → IsKept (record { fixed = x; has_read = has_read }) kept
none_kept x has_read readings kept read few same = record {
  beats = [];
  more = readings;
  entries = [];
  read = read;
  few = few;
  grows = record { grown = λ tells. same tells ∙ sym (append-nil x.start); adds = λ tells legal. refl; heard = λ tells legal. heard_none x };
}

module _ {S C : Type 0} (left : S → List ℕ) (x : Fixed) (reads : C → ℕ → C → Type 0) (clock now : C) (kept : List Entry) (feeds : List Feeding) (objects : List S) (last : ℕ) (s : Kept) (r : IsAdded left x reads clock now kept feeds objects last s) where
  pub grows : Grows x kept (r.beats ++ at_beat r.reading [] ∷ []) r.entries
  grows = record {
    grown = all_kept left x r.entries kept feeds objects last s r.standing r.empty;
    adds = λ tells legal. quiet_session x r.beats r.reading r.entries r.linked (r.walks tells legal);
    heard = λ tells legal. quiet_heard x r.beats r.reading r.entries r.linked (r.walks tells legal);
  }

  pub read_all : ReadsAll reads clock (readings_of (r.beats ++ at_beat r.reading [] ∷ [])) now
  read_all = subst (λ (rs : List ℕ). ReadsAll reads clock rs now) (sym (readings-more r.beats r.reading [])) r.read

  -- what is kept behind a tick
  pub all_is_kept : IsKept (run_by x reads clock now) kept
  all_is_kept = record {
    beats = r.beats ++ at_beat r.reading [] ∷ [];
    more = [];
    entries = r.entries;
    read = subst (λ (rs : List ℕ). ReadsAll reads clock rs now) (sym (append-nil (readings_of (r.beats ++ at_beat r.reading [] ∷ [])))) read_all;
    few = omega arith;
    grows = grows;
  }

  -- and where the keeper then fails
  pub is_still_kept : (list : List Entry) → (x.keeper_tells → list ≡ kept) → x.keeper_tells → IsKept (run_by x reads clock now) list
  is_still_kept list same tells = subst (IsKept (run_by x reads clock now)) (sym (same tells)) all_is_kept

  -- it is still kept where the next tick isn't, for which the clock was read once more
  pub still_kept : (reading : ℕ) (after : C) (list : List Entry) → reads now reading after → list ≡ kept → IsKept (run_by x reads clock after) list
  still_kept reading after list read same = record {
    beats = r.beats ++ at_beat r.reading [] ∷ [];
    more = reading ∷ [];
    entries = r.entries;
    read = reads_more reads clock now after (readings_of (r.beats ++ at_beat r.reading [] ∷ [])) reading read_all read;
    few = omega arith;
    grows = subst (λ (list : List Entry). Grows x list (r.beats ++ at_beat r.reading [] ∷ []) r.entries) (sym same) grows;
  }

-- behind these entries the list has so many more, which are a tick, or nothing
abbrev pub HasRest : Fixed → List Entry → List Entry → Type 0
HasRest x kept whole = (rest : List Entry) × HasOneTick rest × (kept ≡ x.start ++ (whole ++ rest))

pub no_tick : HasOneTick []
no_tick = record { opening = []; tick = []; are = refl; silent = All-nil (λ (entry : Entry). is_batch entry ≡ false); one = tt }

-- entries that are one tick alone
pub tick_alone : (entries : List Entry) → IsOneTick entries → HasOneTick entries
tick_alone entries one = record { opening = []; tick = entries; are = refl; silent = All-nil (λ (entry : Entry). is_batch entry ≡ false); one = one }

-- where the lines of these entries were written whole, and the list may have a tick more
pub all_written : (x : Fixed) (kept entries : List Entry) (written : List ℕ) → (x.keeper_tells → HasRest x kept entries) → IsToldAll x entries written → IsWritten x kept written
all_written x kept entries written kept_are (lines, are, is) = record {
  whole = entries;
  part = [];
  kept_are = kept_are;
  lines = lines;
  told = are;
  more = [];
  told_more = subst (λ (es : List Entry). AreLinesOf x.given.host.identifier form.Event es (lines ++ [])) (sym (append-nil entries)) (subst (AreLinesOf x.given.host.identifier form.Event entries) (sym (append-nil lines)) are);
  count = 0;
  written_is = is ∙ sym (append-nil (x.written ++ lines));
}

-- the results where nothing was written
pub none_written : (x : Fixed) (kept : List Entry) (written : List ℕ) → (x.keeper_tells → HasRest x kept []) → written ≡ x.written → IsWritten x kept written
none_written x kept written kept_are same = all_written x kept [] written kept_are ([], refl, same ∙ sym (append-nil x.written))

-- where behind them a front part of the lines of a tick was written
pub partly_written : (x : Fixed) (kept whole part : List Entry) (written lines more : List ℕ) (count : ℕ) → HasOneTick part → (x.keeper_tells → kept ≡ x.start ++ (whole ++ part)) → AreLinesOf x.given.host.identifier form.Event whole lines → AreLinesOf x.given.host.identifier form.Event (whole ++ part) (lines ++ more) → written ≡ (x.written ++ lines) ++ take count more → IsWritten x kept written
partly_written x kept whole part written lines more count one kept_are told are is = record {
  whole = whole;
  part = part;
  kept_are = λ tells. ([], subst HasOneTick (sym (append-nil part)) one, kept_are tells ∙ ap (λ (es : List Entry). x.start ++ (whole ++ es)) (sym (append-nil part)));
  lines = lines;
  told = told;
  more = more;
  told_more = are;
  count = count;
  written_is = is;
}

-- what was written, over a list that is the same
pub written_still : (x : Fixed) (kept other : List Entry) (written : List ℕ) → (x.keeper_tells → other ≡ kept) → IsWritten x kept written → IsWritten x other written
written_still x kept other written same is = record {
  whole = is.whole;
  part = is.part;
  kept_are = λ tells. let (rest, one, are) = is.kept_are tells in (rest, one, same tells ∙ are);
  lines = is.lines;
  told = is.told;
  more = is.more;
  told_more = is.told_more;
  count = is.count;
  written_is = is.written_is;
}
