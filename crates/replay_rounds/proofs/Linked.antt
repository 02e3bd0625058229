-- What a session forwarded behind each of its ticks, and heard.
use Rattle.std.proofs.Common.{◌≡◌, ℕ, Bool, true, false, List, [], ◌∷◌, ◌++◌, Option, refl, sym, ap, ◌∙◌, subst, append_assoc}
use Rattle.std.proofs.lemmas.List.{append-nil}
use Rattle.std.proofs.lemmas.List.Concat.{flat_map-append}
use Rattle.config_files.specs.Configurations.{IsConfigOf}
use Rattle.entry_model.specs.declared.entry.Entry.{Entry}
use Rattle.entry_model.specs.Legal.{Legal}
use Rattle.batch_forwarder.specs.Polling.{AreMarks}
use Rattle.forward_rounds.specs.Forwarding.{View}
use Rattle.forward_rounds.proofs.Marking.{marks-append}
use Rattle.session_model.specs.Sessions.{Beat, Opens, TicksAt}
use Rattle.session_model.specs.Working.{acks_of}
use Rattle.replay_rounds.specs.Fixed.{Fixed, Linked}
use Rattle.replay_rounds.specs.Linking.{ForwardsAt, ForwardsBy, HasForwarded, Heard, HeardBy, polled_at}
use Rattle.replay_rounds.specs.Running.{AddsAt}
use Rattle.replay_rounds.proofs.Sessions.{TicksBy, at_beat, ticks_more, with_acks}

abbrev pub ForwardsIn : Fixed → List Entry → List (Option ℕ) → View → View → Type 0
ForwardsIn x kept found before after = ForwardsBy x.link.forwards x.link.tells x.given.host.identifier kept found before after

forwards_one : (x : Fixed) (kept : List Entry) (reading : ℕ) (polled : List (Option ℕ)) (own : List Entry) (before after : View) → TicksBy x.order x.source_tells x.given kept reading own → ForwardsIn x (kept ++ own) polled before after → ForwardsAt x kept (at_beat reading polled ∷ []) (with_acks kept own polled) before after
forwards_one x kept reading polled own before after tick by =
    (own, [], after, tick, by, (refl, refl), sym (append-nil (with_acks kept own polled)))

-- one tick more
pub forwards_more : (x : Fixed) (kept : List Entry) (beats : List Beat) (front own : List Entry) (reading : ℕ) (polled : List (Option ℕ)) (before between after : View) → ForwardsAt x kept beats front before between → TicksBy x.order x.source_tells x.given (kept ++ front) reading own
    → ForwardsIn x ((kept ++ front) ++ own) polled between after → ForwardsAt x kept (beats ++ at_beat reading polled ∷ []) (front ++ with_acks (kept ++ front) own polled) before after
forwards_more x kept [] front own reading polled before between after (none, same) tick by =
    let list : kept ++ front ≡ kept = ap (λ (es : List Entry). kept ++ es) none ∙ append-nil kept in
    let one = forwards_one x kept reading polled own before after (subst (λ (list : List Entry). TicksBy x.order x.source_tells x.given list reading own) list tick)
    (subst (λ (v : View). ForwardsIn x (kept ++ own) polled v after) same (subst (λ (list : List Entry). ForwardsIn x (list ++ own) polled between after) list by)) in
    subst (λ (es : List Entry). ForwardsAt x kept (at_beat reading polled ∷ []) es before after) (ap (λ (list : List Entry). with_acks list own polled) (sym list) ∙ ap (λ (es : List Entry). es ++ with_acks (kept ++ front) own polled) (sym none)) one
forwards_more x kept (beat ∷ beats) front own reading polled before between after (first, others, next, t, f, rest, are) tick by =
    let mine = with_acks kept first beat.polled in
    let whole : kept ++ front ≡ (kept ++ mine) ++ others = ap (λ (es : List Entry). kept ++ es) are ∙ sym (append_assoc kept mine others) in
    let later = forwards_more x (kept ++ mine) beats others own reading polled next between after rest (subst (λ (list : List Entry). TicksBy x.order x.source_tells x.given list reading own) whole tick)
    (subst (λ (list : List Entry). ForwardsIn x (list ++ own) polled between after) whole by) in
    let last = with_acks ((kept ++ mine) ++ others) own polled in
    (first, others ++ last, next, t, f, later, ap (λ (list : List Entry). front ++ with_acks list own polled) whole ∙ ap (λ (es : List Entry). es ++ last) are ∙ append_assoc mine others last)

-- its ticks are those of a session
pub ticks_of : (x : Fixed) (kept : List Entry) (beats : List Beat) (entries : List Entry) (before after : View) → ForwardsAt x kept beats entries before after → TicksAt x.order x.source_tells x.given kept beats entries
ticks_of x kept [] entries before after (none, same) = none
ticks_of x kept (beat ∷ beats) entries before after (own, others, next, tick, by, rest, are) =
    (own, others, tick, ticks_of x (kept ++ with_acks kept own beat.polled) beats others next after rest, are)

-- the answers that gave these marks were the first of those that waited
abbrev HearsBy : Bool → Type 0 → List ℕ → List (Option ℕ) → View → View → Type 0
HearsBy false tells host marks before after = marks ≡ []
HearsBy true tells host marks before after = (lines : List (List ℕ)) × AreMarks host lines marks × (tells → before.waiting ≡ lines ++ after.waiting)

hears_none : (forwards : Bool) (tells : Type 0) (host : List ℕ) (before after : View) → after ≡ before → HearsBy forwards tells host [] before after
hears_none false tells host before after same = refl
hears_none true tells host before after same = ([], tt, λ told. ap (λ (v : View). v.waiting) (sym same))

hears_one : (forwards : Bool) (tells : Type 0) (host : List ℕ) (kept : List Entry) (found : List (Option ℕ)) (before after : View) → ForwardsBy forwards tells host kept found before after → HearsBy forwards tells host found before after
hears_one false tells host kept found before after (none, same) = none
hears_one true tells host kept found before after f = (f.polled, f.are, f.waits)

hears_then : (forwards : Bool) (tells : Type 0) (host : List ℕ) (first rest : List (Option ℕ)) (before between after : View) → HearsBy forwards tells host first before between → HearsBy forwards tells host rest between after → HearsBy forwards tells host (first ++ rest) before after
hears_then false tells host first rest before between after none nothing = ap (λ (marks : List (Option ℕ)). marks ++ rest) none ∙ nothing
hears_then true tells host first rest before between after (lines, are, waits) (others, these, wait) =
    (lines ++ others, marks-append host lines others first rest are these, λ told. waits told ∙ ap (λ (left : List (List ℕ)). lines ++ left) (wait told) ∙ sym (append_assoc lines others after.waiting))

pub hears_of : (x : Fixed) (kept : List Entry) (beats : List Beat) (entries : List Entry) (before after : View) → ForwardsAt x kept beats entries before after → HearsBy x.link.forwards x.link.tells x.given.host.identifier (polled_at beats) before after
hears_of x kept [] entries before after (none, same) = hears_none x.link.forwards x.link.tells x.given.host.identifier before after same
hears_of x kept (beat ∷ beats) entries before after (own, others, next, tick, by, rest, are) =
    hears_then x.link.forwards x.link.tells x.given.host.identifier beat.polled (polled_at beats) before next after (hears_one x.link.forwards x.link.tells x.given.host.identifier (kept ++ own) beat.polled before next by)
    (hears_of x (kept ++ with_acks kept own beat.polled) beats others next after rest)

heard_by : (forwards : Bool) (link : Linked) (host : List ℕ) (marks : List (Option ℕ)) (after : View) → HearsBy forwards link.tells host marks link.before after → HeardBy forwards link host marks
heard_by false link host marks after none = none
heard_by true link host marks after (lines, are, waits) = (lines, are, λ told. (after.waiting, waits told))

pub heard_none : (x : Fixed) → Heard x []
heard_none x = heard_by x.link.forwards x.link x.given.host.identifier [] x.link.before (hears_none x.link.forwards x.link.tells x.given.host.identifier x.link.before x.link.before refl)

polled-more : (beats : List Beat) (reading : ℕ) (polled : List (Option ℕ)) → polled_at (beats ++ at_beat reading polled ∷ []) ≡ polled_at beats ++ polled
polled-more beats reading polled =
    flat_map-append (λ (beat : Beat). beat.polled) beats (at_beat reading polled ∷ []) ∙ ap (λ (marks : List (Option ℕ)). polled_at beats ++ marks) (append-nil polled)

-- the reading at which a session opens
abbrev pub first_reading : List Beat → ℕ → ℕ
first_reading [] reading = reading
first_reading (beat ∷ beats) reading = beat.reading

first_same : (beats : List Beat) (last reading : ℕ) (polled : List (Option ℕ)) → first_reading (beats ++ at_beat last polled ∷ []) reading ≡ first_reading beats last
first_same [] last reading polled = refl
first_same (beat ∷ beats) last reading polled = refl

-- A session has ticked at these beats, and then at this reading; behind all its ticks but the last it forwarded, and left its link so.
pub record Walks (x : Fixed) (beats : List Beat) (reading : ℕ) (entries : List Entry) (linked : View) : Type 0 where
  pub notes : List ℕ
  pub configuration : IsConfigOf x.given.documents x.given.config notes
  pub opening : List Entry
  pub opens : Opens x.source_tells x.given x.start (first_reading beats reading) opening
  pub front : List Entry
  pub forwards : ForwardsAt x (x.start ++ opening) beats front x.link.before linked
  pub own : List Entry
  pub tick : TicksBy x.order x.source_tells x.given ((x.start ++ opening) ++ front) reading own
  pub are : entries ≡ opening ++ (front ++ own)
  pub legal : Legal (x.start ++ entries)

module _ (x : Fixed) (beats : List Beat) (reading : ℕ) (entries : List Entry) (linked : View) (w : Walks x beats reading entries linked) where
  -- the list behind the last tick
  list_is : ((x.start ++ w.opening) ++ w.front) ++ w.own ≡ x.start ++ entries
  list_is =
      append_assoc (x.start ++ w.opening) w.front w.own ∙ append_assoc x.start w.opening (w.front ++ w.own) ∙ ap (λ (es : List Entry). x.start ++ es) (sym w.are)

  -- all of it, with what is acknowledged behind the last tick
  ends_are : (polled : List (Option ℕ)) → w.opening ++ (w.front ++ with_acks ((x.start ++ w.opening) ++ w.front) w.own polled) ≡ entries ++ acks_of (x.start ++ entries) polled
  ends_are polled =
      ap (λ (list : List Entry). w.opening ++ (w.front ++ (w.own ++ acks_of list polled))) list_is
      ∙ ap (λ (es : List Entry). w.opening ++ es) (sym (append_assoc w.front w.own (acks_of (x.start ++ entries) polled)))
      ∙ sym (append_assoc w.opening (w.front ++ w.own) (acks_of (x.start ++ entries) polled))
      ∙ ap (λ (es : List Entry). es ++ acks_of (x.start ++ entries) polled) (sym w.are)

  ticks : (polled : List (Option ℕ)) → TicksAt x.order x.source_tells x.given (x.start ++ w.opening) (beats ++ at_beat reading polled ∷ []) (w.front ++ with_acks ((x.start ++ w.opening) ++ w.front) w.own polled)
  ticks polled = ticks_more x.order x.source_tells x.given (x.start ++ w.opening) beats w.front w.own reading polled (ticks_of x (x.start ++ w.opening) beats w.front x.link.before linked w.forwards) w.tick

  -- it is a session, whatever is polled behind its last tick
  pub session : (polled : List (Option ℕ)) → Legal (x.start ++ (entries ++ acks_of (x.start ++ entries) polled)) → AddsAt x.order x.source_tells x.given x.start (beats ++ at_beat reading polled ∷ []) (entries ++ acks_of (x.start ++ entries) polled)
  session polled legal = by_beats beats w.opens (ticks polled) where
    by_beats : (bs : List Beat) → Opens x.source_tells x.given x.start (first_reading bs reading) w.opening → TicksAt x.order x.source_tells x.given (x.start ++ w.opening) (bs ++ at_beat reading polled ∷ []) (w.front ++ with_acks ((x.start ++ w.opening) ++ w.front) w.own polled)
        → AddsAt x.order x.source_tells x.given x.start (bs ++ at_beat reading polled ∷ []) (entries ++ acks_of (x.start ++ entries) polled)
    by_beats [] opens at = record { notes = w.notes; configuration = w.configuration; opening = w.opening; ticks = w.front ++ with_acks ((x.start ++ w.opening) ++ w.front) w.own polled; opens = opens; ticks_at = at; are = sym (ends_are polled); legal = legal }
    by_beats (b ∷ bs) opens at = record { notes = w.notes; configuration = w.configuration; opening = w.opening; ticks = w.front ++ with_acks ((x.start ++ w.opening) ++ w.front) w.own polled; opens = opens; ticks_at = at; are = sym (ends_are polled); legal = legal }

  -- so it is where none is
  pub quiet_session : AddsAt x.order x.source_tells x.given x.start (beats ++ at_beat reading [] ∷ []) entries
  quiet_session =
      subst (AddsAt x.order x.source_tells x.given x.start (beats ++ at_beat reading [] ∷ [])) (append-nil entries)
      (session [] (subst (λ (es : List Entry). Legal (x.start ++ es)) (sym (append-nil entries)) w.legal))

  pub quiet_heard : Heard x (beats ++ at_beat reading [] ∷ [])
  quiet_heard =
      subst (HeardBy x.link.forwards x.link x.given.host.identifier) (sym (polled-more beats reading [] ∙ append-nil (polled_at beats)))
      (heard_by x.link.forwards x.link x.given.host.identifier (polled_at beats) linked (hears_of x (x.start ++ w.opening) beats w.front x.link.before linked w.forwards))

  -- behind the last tick it forwarded too
  module _ (polled : List (Option ℕ)) (after : View) (by : ForwardsIn x (x.start ++ entries) polled linked after) where
    forwards_all : ForwardsAt x (x.start ++ w.opening) (beats ++ at_beat reading polled ∷ []) (w.front ++ with_acks ((x.start ++ w.opening) ++ w.front) w.own polled) x.link.before after
    forwards_all =
        forwards_more x (x.start ++ w.opening) beats w.front w.own reading polled x.link.before linked after w.forwards w.tick (subst (λ (list : List Entry). ForwardsIn x list polled linked after) (sym list_is) by)

    pub all_heard : Heard x (beats ++ at_beat reading polled ∷ [])
    all_heard =
        heard_by x.link.forwards x.link x.given.host.identifier (polled_at (beats ++ at_beat reading polled ∷ [])) after
        (hears_of x (x.start ++ w.opening) (beats ++ at_beat reading polled ∷ []) (w.front ++ with_acks ((x.start ++ w.opening) ++ w.front) w.own polled) x.link.before after forwards_all)

    pub has_forwarded : HasForwarded x (beats ++ at_beat reading polled ∷ []) (entries ++ acks_of (x.start ++ entries) polled) after
    has_forwarded = by_beats beats w.opens forwards_all where
      by_beats : (bs : List Beat) → Opens x.source_tells x.given x.start (first_reading bs reading) w.opening
          → ForwardsAt x (x.start ++ w.opening) (bs ++ at_beat reading polled ∷ []) (w.front ++ with_acks ((x.start ++ w.opening) ++ w.front) w.own polled) x.link.before after
          → HasForwarded x (bs ++ at_beat reading polled ∷ []) (entries ++ acks_of (x.start ++ entries) polled) after
      by_beats [] opens at = (w.opening, w.front ++ with_acks ((x.start ++ w.opening) ++ w.front) w.own polled, opens, at, sym (ends_are polled))
      by_beats (b ∷ bs) opens at = (w.opening, w.front ++ with_acks ((x.start ++ w.opening) ++ w.front) w.own polled, opens, at, sym (ends_are polled))

    -- and a further tick may follow
    pub walks_on : (next : ℕ) (own : List Entry) → TicksBy x.order x.source_tells x.given (x.start ++ (entries ++ acks_of (x.start ++ entries) polled)) next own → Legal (x.start ++ ((entries ++ acks_of (x.start ++ entries) polled) ++ own))
        → Walks x (beats ++ at_beat reading polled ∷ []) next ((entries ++ acks_of (x.start ++ entries) polled) ++ own) after
    walks_on next own tick legal = record {
      notes = w.notes;
      configuration = w.configuration;
      opening = w.opening;
      opens = subst (λ (r : ℕ). Opens x.source_tells x.given x.start r w.opening) (sym (first_same beats reading next polled)) w.opens;
      front = w.front ++ with_acks ((x.start ++ w.opening) ++ w.front) w.own polled;
      forwards = forwards_all;
      own = own;
      tick = subst (λ (list : List Entry). TicksBy x.order x.source_tells x.given list next own) (ap (λ (es : List Entry). x.start ++ es) (sym (ends_are polled)) ∙ sym (append_assoc x.start w.opening (w.front ++ with_acks ((x.start ++ w.opening) ++ w.front) w.own polled))) tick;
      are = ap (λ (es : List Entry). es ++ own) (sym (ends_are polled)) ∙ append_assoc w.opening (w.front ++ with_acks ((x.start ++ w.opening) ++ w.front) w.own polled) own;
      legal = legal;
    }

-- the first tick of a session
pub walks_first : (x : Fixed) (reading : ℕ) (notes : List ℕ) (opening own : List Entry) → IsConfigOf x.given.documents x.given.config notes → Opens x.source_tells x.given x.start reading opening → TicksBy x.order x.source_tells x.given (x.start ++ opening) reading own → Legal (x.start ++ (opening ++ own)) → Walks x [] reading (opening ++ own) x.link.before
walks_first x reading notes opening own configuration opens tick legal = record {
  notes = notes;
  configuration = configuration;
  opening = opening;
  opens = opens;
  front = [];
  forwards = (refl, refl);
  own = own;
  tick = subst (λ (list : List Entry). TicksBy x.order x.source_tells x.given list reading own) (sym (append-nil (x.start ++ opening))) tick;
  are = refl;
  legal = legal;
}
