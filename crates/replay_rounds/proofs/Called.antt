-- The calls of a run on its keeper, and the ticks that it keeps by them.
use Rattle.std.proofs.Common.{◌≡◌, ℕ, zero, suc, ◌+◌, ◌≤◌, Bool, true, false, List, [], ◌∷◌, ◌++◌, length, filter, cond, map, refl, sym, ap, ◌∙◌, subst, arith}
use Rattle.std.specs.Prelude.{All, Err, Ok, OnOk, Result, if◌then◌else◌}
use Rattle.std.proofs.Math.Numerals.{suc-eq-add-one}
use Rattle.std.proofs.lemmas.List.{length-append}
use Rattle.std.proofs.lemmas.List.Elements.{All-append, All-cons, All-head, All-nil, All-tail, filter-append}
use Rattle.batch_keeper.specs.Calling.{Calls, Fails, Passes, after_one, is_next}
use Rattle.osq_config.specs.declared.config.Config.{Config}
use Rattle.pack_rules.specs.declared.host.Host.{Host}
use Rattle.source_feeds.specs.Feeding.{Feeding}
use Rattle.entry_model.specs.declared.entry.Entry.{Entry}
use Rattle.entry_model.specs.declared.entry.Entry.TheVariants.{Acked, Configured, Opened, Ticked}
use Rattle.entry_model.specs.declared.restored.Restored.{Restored}
use Rattle.session_model.specs.Orders.{Order}
use Rattle.session_state.specs.Kept.{Kept}
use Rattle.daemon_rounds.specs.Answering.{committed_all}
use Rattle.daemon_rounds.specs.Opening.{Opens}
use Rattle.daemon_rounds.specs.Rounding.{round_entries}
use Rattle.daemon_rounds.specs.Ticking.{asks_again}
use Rattle.daemon_rounds.specs.declared.setup.Setup.{Setup}
use Rattle.replay_rounds.specs.Called.{HasSealed, HasStopped}
use Rattle.replay_rounds.specs.Linking.{IsAcked}
use Rattle.replay_rounds.specs.OneTick.{is_tick, ticks_of}
use Rattle.replay_rounds.specs.Ticked.{TickDone}
use Rattle.replay_rounds.proofs.Again.{again_brings, again_entries}
use Rattle.replay_rounds.proofs.Rounds.{gives, plain_tickless}
use Rattle.replay_rounds.proofs.Ticks.{NoTick, again_tickless, round_tickless, settled_tickless}

-- it is so behind each result
pub on_ok : {T E P : Type 0} (result : Result T E) → P → OnOk result P
on_ok (Ok value) p = p
on_ok (Err error) p = tt

pub not_both : (b : Bool) → b ≡ true → b ≡ false → ⊥
not_both true on off = cc
not_both false on off = cc

-- one call more
passed_one : (count : ℕ) (before after : Calls) → Passes before count after → is_next after ≡ false → Passes before (suc count) (after_one after)
passed_one zero before after same next = (subst (λ (calls : Calls). is_next calls ≡ false) same next, ap after_one same)
passed_one (suc count) before after (first, rest) next = (first, passed_one count (after_one before) after rest next)

pub passed_on : (count : ℕ) (before between after : Calls) → Passes before count between → Passes between 1 after → Passes before (suc count) after
passed_on count before between after passed (next, is) =
    subst (Passes before (suc count)) (sym is) (passed_one count before between passed next)

pub failed_on : (count : ℕ) (before between after : Calls) → Passes before count between → Fails between 0 after → Fails before count after
failed_on count before between after passed fails =
    record { last = fails.last; passed = subst (Passes before count) (sym fails.passed) passed; next = fails.next; made = fails.made }

-- what a seal that fails keeps is told once
pub still_whole : (count : ℕ) (before after : Calls) → Passes before count after → after.is_whole ≡ before.is_whole
still_whole zero before after same = ap (λ (calls : Calls). calls.is_whole) same
still_whole (suc count) before after (first, rest) = still_whole count (after_one before) after rest

pub ticks_of-append : (xs ys : List Entry) → ticks_of (xs ++ ys) ≡ ticks_of xs + ticks_of ys
ticks_of-append xs ys =
    ap (λ (es : List Entry). length es) (filter-append is_tick xs ys) ∙ length-append (filter is_tick xs) (filter is_tick ys)

-- none begins
pub none_of : (entries : List Entry) → All NoTick entries → ticks_of entries ≡ 0
none_of [] none = refl
none_of (entry ∷ rest) none =
    ap (λ (b : Bool). length (cond b (entry ∷ filter is_tick rest) (filter is_tick rest))) (All-head NoTick entry rest none) ∙ none_of rest (All-tail NoTick entry rest none)

acks_tickless : (marks : List ℕ) → All NoTick (map Acked marks)
acks_tickless [] = All-nil NoTick
acks_tickless (mark ∷ marks) = All-cons NoTick (Acked mark) (map Acked marks) refl (acks_tickless marks)

-- what the tail gained
gained : (old : List Entry) (entries now : List Entry) → now ≡ old ++ entries → ticks_of now ≡ ticks_of old + ticks_of entries
gained old entries now is = ap ticks_of is ∙ ticks_of-append old entries

gained_none : (old entries now : List Entry) → now ≡ old ++ entries → All NoTick entries → ticks_of now ≡ ticks_of old
gained_none old entries now is none =
    let all = gained old entries now is in
    let no = none_of entries none in
    omega (arith, all, no)

-- one tick begins in a tick
pub tick_begins : {S : Type 0} (order : Order) (tells : Type 0) (left : S → List ℕ) (faults : S → ℕ) (setup : Setup) (config : Config) (documents : List (List ℕ)) (configured_at moment : ℕ) (feeds nexts : List Feeding) (objects rests : List S) (old settled : Kept) → TickDone order tells left faults setup config documents configured_at moment feeds nexts objects rests old settled → ticks_of settled.tail ≡ ticks_of old.tail + 1
tick_begins order tells left faults setup config documents configured_at moment feeds nexts objects rests old settled done =
    let asks = asks_again config configured_at moment in
    let f = done.fills in
    let begun : ticks_of f.ticked.tail ≡ ticks_of old.tail + 1 = gained old.tail (Ticked moment ∷ []) f.ticked.tail f.ticks.tail in
    let anew = again_entries asks config documents setup.host moment f.ticked f.configured f.again in
    let again : ticks_of f.configured.tail ≡ ticks_of f.ticked.tail = gained_none f.ticked.tail anew f.configured.tail (again_brings asks config documents setup.host moment f.ticked f.configured f.again).tail (again_tickless asks config documents setup.host moment f.ticked f.configured f.again) in
    let round = gives order tells left faults setup.records feeds nexts objects rests f.configured done.filled f.rounds in
    let taken : ticks_of done.filled.tail ≡ ticks_of f.configured.tail = gained_none f.configured.tail round.body done.filled.tail round.gains.tail (plain_tickless round.body round.plain) in
    let settling : ticks_of settled.tail ≡ ticks_of done.filled.tail = gained_none done.filled.tail (committed_all done.settles.batches ++ done.settles.expired) settled.tail done.settles.brings.tail (settled_tickless done.filled settled done.settles) in
    omega (arith, begun, again, taken, settling)

-- none begins where a session opens
pub none_opening : {S : Type 0} (tells : Type 0) (left : S → List ℕ) (faults : S → ℕ) (most : ℕ) (restored : Restored) (config : Config) (documents : List (List ℕ)) (host : Host) (moment : ℕ) (feeds nexts : List Feeding) (sources rests : List S) (state : Kept) → Opens tells left faults most restored config documents host moment feeds nexts sources rests state → ticks_of state.tail ≡ 0
none_opening tells left faults most restored config documents host moment feeds nexts sources rests state opens =
    let tables = round_entries restored.moment opens.tables.turns in
    let configured = Configured documents opens.configures.schedule moment in
    ap ticks_of opens.opened.tail ∙ none_of (Opened (restored.sessions + 1) 2 ∷ tables ++ configured ∷ []) (All-cons NoTick (Opened (restored.sessions + 1) 2) (tables ++ configured ∷ []) refl (All-append NoTick tables (configured ∷ []) (round_tickless restored.moment opens.tables.turns) (All-cons NoTick configured [] refl (All-nil NoTick))))

-- acknowledgements alone begin none
pub none_acked : (old : Kept) (marks : List ℕ) (new : Kept) → old.tail ≡ [] → IsAcked old marks new → ticks_of new.tail ≡ 0
none_acked old marks new empty acked =
    gained_none old.tail (map Acked marks) new.tail acked.adds.tail (acks_tickless marks) ∙ ap ticks_of empty

-- the list has what was sealed
pub sealed_ticks : (kept now tail : List Entry) (count : ℕ) → now ≡ kept ++ tail → ticks_of tail ≡ count → ticks_of now ≡ ticks_of kept + count
sealed_ticks kept now tail count is are = gained kept tail now is ∙ ap (λ (n : ℕ). ticks_of kept + n) are

-- and where the seal failed, all of it or nothing
pub failed_ticks : (is_whole : Bool) (kept now tail : List Entry) (count : ℕ) → now ≡ (if is_whole then kept ++ tail else kept) → ticks_of tail ≡ count → ticks_of now ≡ ticks_of kept + (if is_whole then count else 0)
failed_ticks true kept now tail count is are = gained kept tail now is ∙ ap (λ (n : ℕ). ticks_of kept + n) are
failed_ticks false kept now tail count is are = let same = ap ticks_of is in omega (arith, same)

-- the first tick behind the load
pub first_sealed : (tells : Type 0) (start before after : Calls) (list kept now : List Entry) → Passes start 1 before → (tells → kept ≡ list) → Passes before 1 after → (tells → ticks_of now ≡ ticks_of kept + 1) → HasSealed tells start after list now 1
first_sealed tells start before after list kept now loaded same passed ticked =
    record { passed = passed_on 1 start before after loaded passed; ticked = λ told. ticked told ∙ ap (λ (es : List Entry). ticks_of es + 1) (same told) }

-- one tick more
pub next_sealed : (tells : Type 0) (start before after : Calls) (list kept now : List Entry) (ticks : ℕ) → HasSealed tells start before list kept ticks → Passes before 1 after → (tells → ticks_of now ≡ ticks_of kept + 1) → HasSealed tells start after list now (ticks + 1)
next_sealed tells start before after list kept now ticks sealed passed ticked =
    record {
      passed = subst (λ (count : ℕ). Passes start (suc count) after) (suc-eq-add-one ticks) (passed_on (suc ticks) start before after sealed.passed passed);
      ticked = λ told. let one = ticked told in let all = sealed.ticked told in omega (arith, one, all);
    }

-- the load failed
pub stopped_load : (tells : Type 0) (start after : Calls) (list now : List Entry) (most : ℕ) → Fails start 0 after → (tells → now ≡ list) → HasStopped tells start after list now most
stopped_load tells start after list now most failed same =
    record { count = 0; few = omega arith; failed = failed; ticked = λ told. let is = ap ticks_of (same told) in omega (arith, is) }

-- the first seal behind the load failed
pub stopped_first : (tells : Type 0) (start before after : Calls) (list kept now : List Entry) (most : ℕ) → 1 ≤ most → Passes start 1 before → (tells → kept ≡ list) → Fails before 0 after → (tells → ticks_of now ≡ ticks_of kept + (if before.is_whole then 1 else 0)) → HasStopped tells start after list now most
stopped_first tells start before after list kept now most some loaded same failed left =
    let whole = still_whole 1 start before loaded in
    record {
      count = 1;
      few = some;
      failed = failed_on 1 start before after loaded failed;
      ticked = λ told.
          let own : ticks_of now ≡ ticks_of kept + (if start.is_whole then 1 else 0) = left told ∙ ap (λ (b : Bool). ticks_of kept + (if b then 1 else 0)) whole in
          let is = ap ticks_of (same told) in
          omega (arith, own, is);
    }

-- the seal behind so many ticks failed
pub stopped_next : (tells : Type 0) (start before after : Calls) (list kept now : List Entry) (ticks most : ℕ) → suc ticks ≤ most → HasSealed tells start before list kept ticks → Fails before 0 after → (tells → ticks_of now ≡ ticks_of kept + (if before.is_whole then 1 else 0)) → HasStopped tells start after list now most
stopped_next tells start before after list kept now ticks most few sealed failed left =
    let whole = still_whole (suc ticks) start before sealed.passed in
    record {
      count = suc ticks;
      few = few;
      failed = failed_on (suc ticks) start before after sealed.passed failed;
      ticked = λ told.
          let own : ticks_of now ≡ ticks_of kept + (if start.is_whole then 1 else 0) = left told ∙ ap (λ (b : Bool). ticks_of kept + (if b then 1 else 0)) whole in
          let all = sealed.ticked told in
          omega (arith, own, all);
    }
