-- A session whose ticks are over, and a source of which had more.
use Rattle.std.proofs.Common.{◌≡◌, inl, inr, ℕ, suc, ◌*◌, ◌≤◌, ◌<◌, Bool, true, false, List, [], ◌∷◌, ◌++◌, length, refl, ap, ◌∙◌, arith, length-append}
use Rattle.std.specs.Prelude.{All, Contains}
use Rattle.std.proofs.Math.Nat.{le-div_iff_mul-le}
use Rattle.std.proofs.lemmas.List.Elements.{All-contains}
use Rattle.record_lines.specs.Lines.{lines_of}
use Rattle.record_lines.proofs.Cuts.{lines_of-first}
use Rattle.osq_value.specs.declared.reading.Category.{Category}
use Rattle.publisher_core.specs.Records.{ended, HaveNoFeed}
use Rattle.record_lines.specs.Limits.{STEP_BYTES}
use Rattle.source_feeds.proofs.Cuts.{begins_line}
use Rattle.entry_model.specs.declared.entry.Entry.{Entry}
use Rattle.entry_model.specs.declared.entry.Entry.TheVariants.{Ticked}
use Rattle.entry_model.specs.Legal.{Legal}
use Rattle.entry_model.specs.Values.{taken_from}
use Rattle.session_model.specs.Given.{Given, Source}
use Rattle.session_model.specs.Orders.{Order, in_turn, at_once}
use Rattle.forward_rounds.specs.Forwarding.{View}
use Rattle.replay_rounds.specs.Fixed.{Fixed, Run}
use Rattle.replay_rounds.specs.FullTicks.{HasFullTick}
use Rattle.replay_rounds.specs.Running.{HasMore, HasRun, run_by}
use Rattle.replay_rounds.specs.Sources.{HadFullSteps, HasFullStep, IsUnended}
use Rattle.replay_rounds.specs.declared.running.Ended.{Ended}
use Rattle.replay_rounds.proofs.Pieces.{few_pieces}
use Rattle.run_laws.specs.Enough.{AreEnough, enough_for, left_of}
use Rattle.run_laws.specs.Ticks.{FewTicks, HadFewTicks, ReadsWhole, fixed_by}

-- the lines of bytes that begin with lines
lines_more : (lines : List (List ℕ)) (rest : List ℕ) → HaveNoFeed lines → lines_of (ended lines ++ rest) ≡ lines ++ lines_of rest
lines_more [] rest plain = refl
lines_more (line ∷ lines) rest plain =
    ap lines_of (begins_line line lines rest) ∙ lines_of-first line (ended lines ++ rest) plain.0 ∙ ap (λ (ls : List (List ℕ)). line ∷ ls) (lines_more lines rest plain.1)

-- so many full steps are fewer than are enough
pub full_few : (paths : List Category) (records steps : ℕ) (start : List Entry) (source : Source) → 1 ≤ records → HadFullSteps paths records steps start source → steps < enough_for records start source
full_few paths records steps start source some had =
    let read = had.read in
    let pieces = few_pieces source.kind paths (taken_from start source.name) read.lines had.pieces read.gives in
    let lines = ap (λ (bytes : List ℕ). length (lines_of bytes)) read.cut ∙ ap length (lines_more read.lines read.rest read.plain) ∙ length-append read.lines (lines_of read.rest) in
    let given = had.given in
    let one = (le-div_iff_mul-le some).1 (let few : had.by_records * records ≤ length (lines_of (left_of start source)) = omega (arith, given, pieces, lines) in few) in
    let other = (le-div_iff_mul-le (let wide : 0 < STEP_BYTES = omega arith in wide)).1 had.took in
    let all = had.all in
    omega (arith, one, other, all)

here : {X : Type 0} (x : X) (xs : List X) → Contains (x ∷ xs) x
here x xs = (0, omega arith, refl)

later : {X : Type 0} (y : X) (xs : List X) (x : X) → Contains xs x → Contains (y ∷ xs) x
later y xs x (i, within, is) = (suc i, omega (arith, within), is)

-- the source whose step is full is such a one
one_full : (Is : Source → Type 0) (given : Given) (kept : List Entry) (sources : List Source) (taken : List Entry) → HasFullStep Is given kept sources taken → (source : Source) × Contains sources source × Is source
one_full Is given kept [] taken has = absurd has
one_full Is given kept (source ∷ sources) taken (own, rest, (step, are, inl (is, full))) = (source, here source sources, is)
one_full Is given kept (first ∷ sources) taken (own, rest, (step, are, inr behind)) =
    let (source, among, is) = one_full Is given (kept ++ own) sources rest behind in
    (source, later first sources source among, is)

-- in a tick of either order
one_full_in : (order : Order) (Is : Source → Type 0) (tells : Type 0) (given : Given) (kept : List Entry) (moment : ℕ) (entries : List Entry) → HasFullTick order Is tells given kept moment entries → (source : Source) × Contains given.sources source × Is source
one_full_in in_turn Is tells given kept moment entries (tick, full) = one_full Is given (kept ++ (Ticked moment ∷ tick.configured)) given.sources tick.taken full
one_full_in at_once Is tells given kept moment entries (tick, (source, among, is, full)) = (source, among, is)

pub had_few : (x : Fixed) (ticks : ℕ) (kept : List Entry) → 1 ≤ x.given.records → HasMore x ticks kept → HadFewTicks x.given x.start ticks
had_few x ticks kept some more =
    let (source, among, is) = one_full_in x.order (IsUnended x.source_tells x.given.config.categories x.given.records ticks x.start kept) x.source_tells x.given more.before more.moment more.last more.full in
    record { source = source; among = among; few = full_few x.given.config.categories x.given.records ticks x.start source some (is.full some) }

pub few_ticks : (tells link_tells : Type 0) → FewTicks tells link_tells
few_ticks tells link_tells order given start kept ticks written forwards before some more =
    had_few (fixed_by order (Unit {0}) (Unit {0}) tells link_tells given start written forwards before) ticks kept some more

-- a run that isn't at the ends of its sources had too few ticks for one of them
pub is_end : (ran : Run) (ticks : ℕ) (kept : List Entry) (written : List ℕ) (linked : View) (ended : Ended) → HasRun ran ticks kept written linked ended → ran.fixed.keeper_tells → ran.fixed.source_tells → Legal ran.fixed.start → 1 ≤ ran.fixed.given.records → All (AreEnough ran.fixed.given.records ran.fixed.start ticks) ran.fixed.given.sources → ended.is_end ≡ true
is_end ran ticks kept written linked ended run kept_told told legal some enough = by_end ended.is_end refl where
  by_end : (end : Bool) → ended.is_end ≡ end → end ≡ true
  by_end true is = refl
  by_end false is =
      let had = had_few ran.fixed ticks kept some (run.more kept_told told legal is) in
      let few = had.few in
      let many = All-contains (AreEnough ran.fixed.given.records ran.fixed.start ticks) ran.fixed.given.sources had.source enough had.among in
      absurd (omega (arith, few, many))

pub reads_whole : {C : Type 0} (keeper_tells sink_tells source_tells link_tells : Type 0) (reads : C → ℕ → C → Type 0) → ReadsWhole keeper_tells sink_tells source_tells link_tells reads
reads_whole keeper_tells sink_tells source_tells link_tells reads order given start kept results_before results_after forwards link_before link_after clock now ticks ended kept_told told legal some run enough =
    is_end (run_by (fixed_by order keeper_tells sink_tells source_tells link_tells given start results_before forwards link_before) reads clock now) ticks kept results_after link_after ended run kept_told told legal some enough
