-- Which call on the keeper failed, and what two sessions answer to that.
use Rattle.std.proofs.Common.{◌≡◌, ◌≤◌, ◌<◌, ◌+◌, ◌-◌, ◌*◌, ◌^◌, ℕ, zero, suc, arith, Bool, true, false, List, [], ◌∷◌, refl, sym, ap, ◌∙◌, subst, inl, inr}
use Rattle.std.specs.Prelude.{◌↔◌, ◌==◌, ◌||◌, if◌then◌else◌}
use Rattle.std.proofs.Math.Nat.{min-eq_left}
use Rattle.std.proofs.lemmas.Bool.{eqb-false, eqb-true}
use Rattle.osq_outside.specs.declared.fails.Fail.{Fail}
use Rattle.osq_outside.specs.declared.fails.Failures.{Failures}
use Rattle.osq_outside.specs.Failing.{fresh, one_more}
use Rattle.entry_model.specs.declared.entry.Entry.{Entry}
use Rattle.batch_keeper.specs.declared.keeper.MemoryKeeper.{MemoryKeeper}
use Rattle.batch_keeper.specs.Calling.{Calls, Fails, Passes, after_one, is_next}
use Rattle.batch_keeper.specs.Counted.{calls_of}
use Rattle.generated_changes.specs.Generated.{lines_of}
use Rattle.kept_report.specs.declared.counting.ListNumbers.{ListNumbers}
use Rattle.kept_report.specs.Counting.{numbers_in}
use Rattle.replay_rounds.specs.Called.{HasSealed, HasStopped, ticks_more}
use Rattle.replay_rounds.specs.OneTick.{ticks_of}
use Rattle.osq_program.specs.declared.killing.KillReport.{KillReport}
use Rattle.osq_program.specs.declared.status.Status.{Status}
use Rattle.osq_program.specs.declared.status.Status.TheVariants.{Ok as Done, KeeperFault}
use Rattle.osq_program.specs.Answers.{IsDoneStatus}
use Rattle.osq_program.specs.Killing.{IsKillRun, IsKilled, IsRunOver, made_calls}
use Rattle.osq_program.specs.SelfTesting.{HasGrownOver, HasRunOver, self_key, ticks_for}

one_more_is : (made : ℕ) → made + 1 ≤ 2 ^ 64 - 1 → one_more made ≡ made + 1
one_more_is made few = min-eq_left few

after_is : (kill : ℕ) (whole : Bool) (made : ℕ) → made + 1 ≤ 2 ^ 64 - 1 → after_one (made_calls kill whole made) ≡ made_calls kill whole (made + 1)
after_is kill whole made few = ap (λ (n : ℕ). made_calls kill whole n) (one_more_is made few)

or_false : (b : Bool) → (b || false) ≡ b
or_false true = refl
or_false false = refl

-- whether the next call is that one
next_is : (kill : ℕ) (whole : Bool) (made : ℕ) → made + 1 ≤ 2 ^ 64 - 1 → is_next (made_calls kill whole made) ≡ (kill == made + 1)
next_is kill whole made few = or_false (kill == one_more made) ∙ ap (λ (n : ℕ). kill == n) (one_more_is made few)

-- None of so many calls was to fail: so many more are made, and the one of this number isn't among them.
pub passes_beyond : (kill : ℕ) (whole : Bool) (count made : ℕ) (after : Calls) → made + count ≤ 2 ^ 64 - 1 → Passes (made_calls kill whole made) count after → (after ≡ made_calls kill whole (made + count)) × (made < kill → made + count < kill)
passes_beyond kill whole zero made after few same =
    (same ∙ ap (λ (n : ℕ). made_calls kill whole n) (omega arith), λ behind. omega (arith, behind))
passes_beyond kill whole (suc count) made after few (first, rest) =
    let one : made + 1 ≤ 2 ^ 64 - 1 = omega (arith, few) in
    let next = passes_beyond kill whole count (made + 1) after (omega (arith, few)) (subst (λ (calls : Calls). Passes calls count after) (after_is kill whole made one) rest) in
    let other : kill ≡ made + 1 → ⊥ = eqb-false kill (made + 1) (sym (next_is kill whole made one) ∙ first) in
    let counted : (made + 1) + count ≡ made + suc count = omega arith in
    (next.0 ∙ ap (λ (n : ℕ). made_calls kill whole n) counted, λ behind. subst (λ (n : ℕ). n < kill) counted (next.1 (omega (arith, behind, other))))

-- One failed: it is that one.
pub fails_there : (kill : ℕ) (whole : Bool) (count made : ℕ) (after : Calls) → made + count + 1 ≤ 2 ^ 64 - 1 → Fails (made_calls kill whole made) count after → (kill ≡ made + count + 1) × (after ≡ made_calls kill whole (made + count + 1))
fails_there kill whole count made after few fails =
    let passed = passes_beyond kill whole count made fails.last (omega (arith, few)) fails.passed in
    let next : is_next (made_calls kill whole (made + count)) ≡ true = subst (λ (calls : Calls). is_next calls ≡ true) passed.0 fails.next in
    (eqb-true kill (made + count + 1) (sym (next_is kill whole (made + count) few) ∙ next), fails.made ∙ ap after_one passed.0 ∙ after_is kill whole (made + count) few)

-- behind a session all calls of which passed
pub done_calls : (tells : Type 0) (kill : ℕ) (whole : Bool) (made ticks : ℕ) (before after : Calls) (kept now : List Entry) → made + ticks + 1 ≤ 2 ^ 64 - 1 → before ≡ made_calls kill whole made → HasSealed tells before after kept now ticks → (after ≡ made_calls kill whole (made + ticks + 1)) × (made < kill → made + ticks + 1 < kill)
done_calls tells kill whole made ticks before after kept now few is sealed =
    let counted : made + suc ticks ≡ made + ticks + 1 = omega arith in
    let all = passes_beyond kill whole (suc ticks) made after (omega (arith, few)) (subst (λ (calls : Calls). Passes calls (suc ticks) after) is sealed.passed) in
    (all.0 ∙ ap (λ (n : ℕ). made_calls kill whole n) counted, λ behind. subst (λ (n : ℕ). n < kill) counted (all.1 behind))

-- behind one whose keeper failed
pub record StoppedAt (tells : Type 0) (kill : ℕ) (whole : Bool) (made ticks : ℕ) (after : Calls) (kept now : List Entry) : Type 0 where
  pub count : ℕ
  pub few : count ≤ ticks
  pub there : kill ≡ made + count + 1
  pub calls : after ≡ made_calls kill whole kill
  pub ticked : tells → ticks_of now ≡ ticks_of kept + ticks_more whole count

pub stopped_calls : (tells : Type 0) (kill : ℕ) (whole : Bool) (made ticks : ℕ) (before after : Calls) (kept now : List Entry) → made + ticks + 1 ≤ 2 ^ 64 - 1 → before ≡ made_calls kill whole made → HasStopped tells before after kept now ticks → StoppedAt tells kill whole made ticks after kept now
stopped_calls tells kill whole made ticks before after kept now few is stopped =
    let fewer = stopped.few in
    let there = fails_there kill whole stopped.count made after (omega (arith, few, fewer)) (subst (λ (calls : Calls). Fails calls stopped.count after) is stopped.failed) in
    record {
      count = stopped.count;
      few = stopped.few;
      there = there.0;
      calls = there.1 ∙ ap (λ (n : ℕ). made_calls kill whole n) (sym there.0);
      ticked = λ told. stopped.ticked told ∙ ap (λ (b : Bool). ticks_of kept + ticks_more b stopped.count) (ap (λ (calls : Calls). calls.is_whole) is);
    }

pub fault_not_done : (status : Status) → status ≡ Done → status ≡ KeeperFault → ⊥
fault_not_done status done fault = cc

pub is_done : (status : Status) → status ≡ Done → IsDoneStatus status
is_done status done = subst IsDoneStatus (sym done) tt

-- how many ticks are kept, where the seal of one failed
kept_ticks : (whole : Bool) (kill count ticks : ℕ) → kill ≡ count + 1 → 2 ≤ kill → ticks ≡ ticks_more whole count → ticks ≡ (kill - 2) + (if whole then 1 else 0)
kept_ticks whole kill zero ticks there some are = absurd (omega (arith, there, some))
kept_ticks whole kill (suc seals) ticks there some are = let counted : seals ≡ kill - 2 = omega (arith, there) in are ∙ ap (λ (n : ℕ). n + (if whole then 1 else 0)) counted

-- which session failed, and what the first kept
pub record AreKilled (kill ticks : ℕ) (whole : Bool) (between : List Entry) (first second : Status) : Type 0 where
  pub first_fails : (first ≡ KeeperFault) ↔ ((1 ≤ kill) × (kill ≤ ticks + 1))
  pub second_fails : (second ≡ KeeperFault) ↔ ((ticks + 2 ≤ kill) × (kill ≤ 2 * ticks + 2))
  pub ticked : 2 ≤ kill → kill ≤ ticks + 1 → ticks_of between ≡ (kill - 2) + (if whole then 1 else 0)

module _ (kill ticks : ℕ) (whole : Bool) (few : 2 * ticks + 4 ≤ 2 ^ 64 - 1) (start middle last : Calls) (list between kept : List Entry) (start_is : start ≡ made_calls kill whole 0) (empty : list ≡ []) (first second : Status) (first_stopped : first ≡ KeeperFault → HasStopped (Unit {0}) start middle list between ticks) (first_done : IsDoneStatus first → HasSealed (Unit {0}) start middle list between ticks) (second_stopped : second ≡ KeeperFault → HasStopped (Unit {0}) middle last between kept ticks)
    (second_done : IsDoneStatus second → HasSealed (Unit {0}) middle last between kept ticks) where
  -- the first was done
  module _ (done : first ≡ Done) where
    passed : (middle ≡ made_calls kill whole (0 + ticks + 1)) × (0 < kill → 0 + ticks + 1 < kill)
    passed =
        done_calls (Unit {0}) kill whole 0 ticks start middle list between (omega (arith, few)) start_is (first_done (is_done first done))

    both_done : second ≡ Done → AreKilled kill ticks whole between first second
    both_done too =
        let again = done_calls (Unit {0}) kill whole (0 + ticks + 1) ticks middle last between kept (omega (arith, few)) passed.0 (second_done (is_done second too)) in
        record {
          first_fails = (λ fault. absurd (fault_not_done first done fault), λ within. let some = within.0 in let most = within.1 in let beyond = passed.1 (omega (arith, some)) in absurd (omega (arith, most, beyond)));
          second_fails = (λ fault. absurd (fault_not_done second too fault), λ within. let some = within.0 in let most = within.1 in let beyond = again.1 (omega (arith, some)) in absurd (omega (arith, most, beyond)));
          ticked = λ some most. let beyond = passed.1 (omega (arith, some)) in absurd (omega (arith, most, beyond));
        }

    second_failed : second ≡ KeeperFault → AreKilled kill ticks whole between first second
    second_failed failed =
        let at = stopped_calls (Unit {0}) kill whole (0 + ticks + 1) ticks middle last between kept (omega (arith, few)) passed.0 (second_stopped failed) in
        let there = at.there in
        let fewer = at.few in
        record {
          first_fails = (λ fault. absurd (fault_not_done first done fault), λ within. let most = within.1 in absurd (omega (arith, most, there)));
          second_fails = (λ fault. (omega (arith, there), omega (arith, there, fewer)), λ within. failed);
          ticked = λ some most. absurd (omega (arith, most, there));
        }

  -- the first failed, and the second is done
  first_failed : first ≡ KeeperFault → second ≡ Done → AreKilled kill ticks whole between first second
  first_failed failed done =
      let at = stopped_calls (Unit {0}) kill whole 0 ticks start middle list between (omega (arith, few)) start_is (first_stopped failed) in
      let there = at.there in
      let fewer = at.few in
      record {
        first_fails = (λ fault. (omega (arith, there), omega (arith, there, fewer)), λ within. failed);
        second_fails = (λ fault. absurd (fault_not_done second done fault), λ within. let some = within.0 in absurd (omega (arith, some, there, fewer)));
        ticked = λ some most.
            let kept = at.ticked tt in
            let none : ticks_of list ≡ 0 = ap ticks_of empty in
            kept_ticks whole kill at.count (ticks_of between) (omega (arith, there)) some (omega (arith, kept, none));
      }

  -- it can't fail twice
  never_both : first ≡ KeeperFault → second ≡ KeeperFault → ⊥
  never_both failed too =
      let at = stopped_calls (Unit {0}) kill whole 0 ticks start middle list between (omega (arith, few)) start_is (first_stopped failed) in
      let there = at.there in
      let fewer = at.few in
      let again = stopped_calls (Unit {0}) kill whole kill ticks middle last between kept (omega (arith, few, there, fewer)) at.calls (second_stopped too) in
      let there_again = again.there in
      omega (arith, there_again)

  pub are_killed : IsKilled first → IsKilled second → AreKilled kill ticks whole between first second
  are_killed (inr done) (inr too) = both_done done too
  are_killed (inr done) (inl failed) = second_failed done failed
  are_killed (inl failed) (inr done) = first_failed failed done
  are_killed (inl failed) (inl too) = absurd (never_both failed too)

-- a keeper on which no call was made
abbrev calls_with : List Fail → ℕ → Bool → Calls
calls_with fails made whole = record { fails = fails; made = made; is_whole = whole }

pub keeper_calls : (keeper : MemoryKeeper) (fails : List Fail) (kill : ℕ) (whole : Bool) → keeper.failures ≡ fresh fails → keeper.is_whole ≡ whole → fails ≡ (record { call = kill }) ∷ [] → calls_of keeper ≡ made_calls kill whole 0
keeper_calls keeper fails kill whole failures_are whole_is fails_are =
    ap (λ (failures : Failures). calls_with failures.fails failures.calls keeper.is_whole) failures_are ∙ ap (λ (b : Bool). calls_with fails 0 b) whole_is ∙ ap (λ (all : List Fail). calls_with all 0 whole) fails_are

pub is_run_over : (own lines : List ℕ) (count start : ℕ) (before after : List Entry) (status ended : Status) → own ≡ lines → ended ≡ status → IsKilled ended → HasGrownOver own count start before after → (IsDoneStatus status → HasRunOver own count start before after) → IsRunOver lines count start before after ended
is_run_over own lines count start before after status ended are same killed grown done =
    record {
      ended = killed;
      grown = subst (λ (ls : List ℕ). HasGrownOver ls count start before after) are grown;
      done = λ is. subst (λ (ls : List ℕ). HasRunOver ls count start before after) are (done (subst IsDoneStatus same is));
    }

pub few_ticks : (count : ℕ) → count ≤ 1000000 → 2 * ticks_for count + 4 ≤ 2 ^ 64 - 1
few_ticks count few = omega (arith, few)

pub is_kill_run : (from count kill : ℕ) (whole : Bool) (report : KillReport) (start : ℕ) (list between kept : List Entry) (numbers : ListNumbers) → IsRunOver (lines_of from count) count 1000 list between report.first → list ≡ [] → IsRunOver (lines_of from count) count start between kept report.second → start ≡ 1000 + 60 * ticks_for count
    → AreKilled kill (ticks_for count) whole between report.first report.second → numbers ≡ numbers_in self_key kept → report.events ≡ numbers.events → report.batches ≡ numbers.batches → report.rows ≡ numbers.rows → report.cursor ≡ numbers.cursor → IsKillRun from count kill whole report
is_kill_run from count kill whole report start list between kept numbers first empty second start_is killed are events batches rows cursor =
    record {
      between = between;
      kept = kept;
      first = subst (λ (es : List Entry). IsRunOver (lines_of from count) count 1000 es between report.first) empty first;
      second = subst (λ (at : ℕ). IsRunOver (lines_of from count) count at between kept report.second) start_is second;
      first_fails = killed.first_fails;
      second_fails = killed.second_fails;
      ticked = killed.ticked;
      events = events ∙ ap (λ (n : ListNumbers). n.events) are;
      batches = batches ∙ ap (λ (n : ListNumbers). n.batches) are;
      rows = rows ∙ ap (λ (n : ListNumbers). n.rows) are;
      cursor = cursor ∙ ap (λ (n : ListNumbers). n.cursor) are;
    }
