-- How a session that ran all its ticks left its sources.
use Rattle.std.proofs.Common.{◌≡◌, ℕ, suc, ◌≤◌, Bool, true, false, ◌&&◌, List, [], ◌∷◌, ◌++◌, length, inl, inr, map, refl, sym, ap, ◌∙◌, arith, length-append}
use Rattle.std.specs.Prelude.{◌⊎◌, All, Contains}
use Rattle.std.proofs.lemmas.List.Elements.{All-cons, All-nil}
use Rattle.osq_value.specs.declared.reading.Category.{Category}
use Rattle.publisher_core.specs.Standing.{is_at_end}
use Rattle.source_feeds.specs.Feeding.{Feeding}
use Rattle.entry_model.specs.declared.entry.Entry.{Entry}
use Rattle.entry_model.specs.Values.{taken_from}
use Rattle.session_model.specs.Given.{Given, Source}
use Rattle.session_model.specs.Taking.{IsReadWhole}
use Rattle.replay_rounds.specs.Sources.{AreFed, AreFullOrOver, AreFullSteps, HadFullSteps, HasFullStep, IsFed, IsFull, IsFullStep, IsUnended, all_over}
use Rattle.replay_rounds.proofs.Full.{HaveSteps, had_steps}
use Rattle.replay_rounds.specs.FullTicks.{AreFullParts, HasFullPart, HasFullTick, IsFullTick}
use Rattle.session_model.specs.Orders.{Order, at_once, in_turn}
use Rattle.entry_model.specs.declared.entry.Entry.TheVariants.{Ticked}

both : (a b : Bool) → (a && b) ≡ true → (a ≡ true) × (b ≡ true)
both true b h = (refl, h)
both false b h = absurd (cc)

-- where each feed is at its end, each source is read whole
pub all_whole : {S : Type 0} (tells : Type 0) (left : S → List ℕ) (paths : List Category) (start now : List Entry) (sources : List Source) (feeds : List Feeding) (objects : List S) → tells → AreFed tells left paths start now sources feeds objects → all_over feeds ≡ true → All (IsReadWhole start now) sources
all_whole tells left paths start now [] feeds objects told fed over = All-nil (IsReadWhole start now)
all_whole tells left paths start now (source ∷ sources) [] objects told fed over = absurd fed
all_whole tells left paths start now (source ∷ sources) (feed ∷ feeds) [] told fed over = absurd fed
all_whole tells left paths start now (source ∷ sources) (feed ∷ feeds) (object ∷ objects) told fed over =
    let (here, rest) = both (is_at_end feed.reader) (all_over feeds) over in
    All-cons (IsReadWhole start now) source sources (fed.0.over told here) (all_whole tells left paths start now sources feeds objects told fed.1 rest)

-- each source has the bytes that were dropped
pub all_present : {S : Type 0} (tells : Type 0) (left : S → List ℕ) (paths : List Category) (start now : List Entry) (sources : List Source) (feeds : List Feeding) (objects : List S) → tells → AreFed tells left paths start now sources feeds objects → All (λ (source : Source). taken_from start source.name ≤ length source.bytes) sources
all_present tells left paths start now [] feeds objects told fed =
    All-nil (λ (source : Source). taken_from start source.name ≤ length source.bytes)
all_present tells left paths start now (source ∷ sources) [] objects told fed = absurd fed
all_present tells left paths start now (source ∷ sources) (feed ∷ feeds) [] told fed = absurd fed
all_present tells left paths start now (source ∷ sources) (feed ∷ feeds) (object ∷ objects) told fed =
    let is = fed.0.fed.left told in
    let size = is.size in
    let whole = ap length is.bytes in
    let parts = length-append is.dropped (fed.0.fed.stream ++ left object) in
    All-cons (λ (source : Source). taken_from start source.name ≤ length source.bytes) source sources (omega (arith, size, whole, parts)) (all_present tells left paths start now sources feeds objects told fed.1)

pub here : {X : Type 0} (x : X) (xs : List X) → Contains (x ∷ xs) x
here x xs = (0, omega arith, refl)

pub later : {X : Type 0} (y : X) (xs : List X) (x : X) → Contains xs x → Contains (y ∷ xs) x
later y xs x (i, within, is) = (suc i, omega (arith, within), is)

-- one of these sources gave a full step behind this list, and so many full ones in all
abbrev pub HasFull : List Category → (records steps : ℕ) → List Entry → Given → List Entry → List Source → Type 0
HasFull paths records steps start given kept sources =
    (source : Source) × Contains sources source × IsFull given kept source × (1 ≤ records → HadFullSteps paths records steps start source)

-- where one isn't, its source gave a full step, now and in each step before
pub one_full : {S : Type 0} (tells : Type 0) (left : S → List ℕ) (paths : List Category) (records steps : ℕ) (start now : List Entry) (given : Given) (kept : List Entry) (sources : List Source) (feeds : List Feeding) (objects : List S) → tells → AreFed tells left paths start now sources feeds objects → HaveSteps tells left records steps start sources feeds objects → AreFullOrOver given kept sources feeds → all_over feeds ≡ false → HasFull paths records steps start given kept sources
one_full tells left paths records steps start now given kept [] [] objects told fed have full over = absurd (cc)
one_full tells left paths records steps start now given kept [] (feed ∷ feeds) objects told fed have full over = absurd fed
one_full tells left paths records steps start now given kept (source ∷ sources) [] objects told fed have full over = absurd fed
one_full tells left paths records steps start now given kept (source ∷ sources) (feed ∷ feeds) [] told fed have full over = absurd fed
one_full tells left paths records steps start now given kept (source ∷ sources) (feed ∷ feeds) (object ∷ objects) told fed have full over =
    by_end (is_at_end feed.reader) refl (one_full tells left paths records steps start now given kept sources feeds objects told fed.1 have.1 full.1)
  where
    by_end : (b : Bool) → is_at_end feed.reader ≡ b → (all_over feeds ≡ false → HasFull paths records steps start given kept sources) → HasFull paths records steps start given kept (source ∷ sources)
    by_end false e further =
        (source, here source sources, full.0 e, had_steps tells left paths records steps start now source feed object told fed.0 have.0 e)
    by_end true e further =
        let (found, among, is, had) = further (sym (ap (λ (b : Bool). b && all_over feeds) e) ∙ over) in
        (found, later source sources found among, is, had)

-- the feed of a source by the bytes that are left of it
fed_by_bytes : {S : Type 0} (tells : Type 0) (left : S → List ℕ) (paths : List Category) (start now : List Entry) (source : Source) (feed : Feeding) (object : S) → IsFed tells left paths start now source feed object → IsFed tells (λ (bytes : List ℕ). bytes) paths start now source feed (left object)
fed_by_bytes tells left paths start now source feed object is =
    record { name = is.name; kind = is.kind; paths_are = is.paths_are; place = is.place; pieces = is.pieces; fed = is.fed; over = is.over }

-- the same of each source
pub fed_by_all : {S : Type 0} (tells : Type 0) (left : S → List ℕ) (paths : List Category) (start now : List Entry) (sources : List Source) (feeds : List Feeding) (objects : List S) → AreFed tells left paths start now sources feeds objects → AreFed tells (λ (bytes : List ℕ). bytes) paths start now sources feeds (map left objects)
fed_by_all tells left paths start now [] [] [] fed = fed
fed_by_all tells left paths start now [] [] (object ∷ objects) fed = absurd fed
fed_by_all tells left paths start now [] (feed ∷ feeds) objects fed = absurd fed
fed_by_all tells left paths start now (source ∷ sources) [] objects fed = absurd fed
fed_by_all tells left paths start now (source ∷ sources) (feed ∷ feeds) [] fed = absurd fed
fed_by_all tells left paths start now (source ∷ sources) (feed ∷ feeds) (object ∷ objects) fed =
    (fed_by_bytes tells left paths start now source feed object fed.0, fed_by_all tells left paths start now sources feeds objects fed.1)

-- where one isn't at its end, and each such one gave a full step in its turn, there is one that did, now and in each step before
one_full_step : {S : Type 0} (tells : Type 0) (left : S → List ℕ) (paths : List Category) (records steps : ℕ) (start now : List Entry) (given : Given) (kept : List Entry) (sources : List Source) (feeds : List Feeding) (objects : List S) (entries : List Entry) → tells → AreFed tells left paths start now sources feeds objects → HaveSteps tells left records steps start sources feeds objects → AreFullSteps given kept sources feeds entries → all_over feeds ≡ false → HasFullStep (IsUnended tells paths records steps start now) given kept sources entries
one_full_step tells left paths records steps start now given kept [] [] objects entries told fed have full over = absurd (cc)
one_full_step tells left paths records steps start now given kept [] (feed ∷ feeds) objects entries told fed have full over = absurd fed
one_full_step tells left paths records steps start now given kept (source ∷ sources) [] objects entries told fed have full over = absurd fed
one_full_step tells left paths records steps start now given kept (source ∷ sources) (feed ∷ feeds) [] entries told fed have full over = absurd fed
one_full_step tells left paths records steps start now given kept (source ∷ sources) (feed ∷ feeds) (object ∷ objects) entries told fed have (own, others, (step, full, behind, are)) over =
    (own, others, (step, are, by_end (is_at_end feed.reader) refl (one_full_step tells left paths records steps start now given (kept ++ own) sources feeds objects others told fed.1 have.1 behind)))
  where
    by_end : (b : Bool) → is_at_end feed.reader ≡ b → (all_over feeds ≡ false → HasFullStep (IsUnended tells paths records steps start now) given (kept ++ own) sources others)
        → (IsUnended tells paths records steps start now source × IsFullStep given kept source own step) ⊎ HasFullStep (IsUnended tells paths records steps start now) given (kept ++ own) sources others
    by_end false e further =
        inl (record { feed = feed; rest = left object; fed = fed_by_bytes tells left paths start now source feed object fed.0; unended = e; full = had_steps tells left paths records steps start now source feed object told fed.0 have.0 e }, full e)
    by_end true e further = inr (further (sym (ap (λ (b : Bool). b && all_over feeds) e) ∙ over))

-- the same where each such one gave a full step behind one list
one_full_part : {S : Type 0} (tells : Type 0) (left : S → List ℕ) (paths : List Category) (records steps : ℕ) (start now : List Entry) (given : Given) (kept body : List Entry) (sources : List Source) (feeds : List Feeding) (objects : List S) → tells → AreFed tells left paths start now sources feeds objects → HaveSteps tells left records steps start sources feeds objects → AreFullParts given kept body sources feeds → all_over feeds ≡ false → HasFullPart (IsUnended tells paths records steps start now) given kept sources body
one_full_part tells left paths records steps start now given kept body [] [] objects told fed have full over = absurd (cc)
one_full_part tells left paths records steps start now given kept body [] (feed ∷ feeds) objects told fed have full over = absurd fed
one_full_part tells left paths records steps start now given kept body (source ∷ sources) [] objects told fed have full over = absurd fed
one_full_part tells left paths records steps start now given kept body (source ∷ sources) (feed ∷ feeds) [] told fed have full over = absurd fed
one_full_part tells left paths records steps start now given kept body (source ∷ sources) (feed ∷ feeds) (object ∷ objects) told fed have ((step, full), behind) over =
    by_end (is_at_end feed.reader) refl (one_full_part tells left paths records steps start now given kept body sources feeds objects told fed.1 have.1 behind)
  where
    by_end : (b : Bool) → is_at_end feed.reader ≡ b → (all_over feeds ≡ false → HasFullPart (IsUnended tells paths records steps start now) given kept sources body) → HasFullPart (IsUnended tells paths records steps start now) given kept (source ∷ sources) body
    by_end false e further =
        (source, here source sources, record { feed = feed; rest = left object; fed = fed_by_bytes tells left paths start now source feed object fed.0; unended = e; full = had_steps tells left paths records steps start now source feed object told fed.0 have.0 e }, (step, full e))
    by_end true e further =
        let (found, among, is, whole) = further (sym (ap (λ (b : Bool). b && all_over feeds) e) ∙ over) in
        (found, later source sources found among, is, whole)

-- and of a tick in either order
pub one_full_tick : {S : Type 0} (order : Order) (tells : Type 0) (left : S → List ℕ) (given : Given) (steps : ℕ) (start now kept : List Entry) (moment : ℕ) (feeds : List Feeding) (objects : List S) (entries : List Entry) → tells → AreFed tells left given.config.categories start now given.sources feeds objects → HaveSteps tells left given.records steps start given.sources feeds objects → IsFullTick order tells given kept moment feeds entries → all_over feeds ≡ false → HasFullTick order (IsUnended tells given.config.categories given.records steps start now) tells given kept moment entries
one_full_tick in_turn tells left given steps start now kept moment feeds objects entries told fed have (tick, full) over =
    (tick, one_full_step tells left given.config.categories given.records steps start now given (kept ++ (Ticked moment ∷ tick.configured)) given.sources feeds objects tick.taken told fed have full over)
one_full_tick at_once tells left given steps start now kept moment feeds objects entries told fed have (tick, full) over =
    (tick, one_full_part tells left given.config.categories given.records steps start now given (kept ++ (Ticked moment ∷ tick.configured)) tick.body given.sources feeds objects told fed have full over)
