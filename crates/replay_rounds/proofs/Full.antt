-- How many full steps each source gave in a session.
use Rattle.std.proofs.Common.{◌≡◌, ◌⊎◌, inl, inr, ℕ, suc, ◌+◌, ◌*◌, ◌≤◌, Bool, true, false, ◌&&◌, ◌==◌, List, [], ◌∷◌, ◌++◌, length, map, refl, sym, ap, subst, ◌∙◌, arith, append_assoc, length-append}
use Rattle.std.specs.Prelude.{All, drop}
use Rattle.std.proofs.Math.Nat.{suc-mul}
use Rattle.std.proofs.Math.Seq.{drop-append_seam}
use Rattle.std.proofs.lemmas.Bool.{true≢false}
use Rattle.std.proofs.lemmas.List.Elements.{All-head, All-tail}
use Rattle.record_lines.specs.Lines.{HasNoFeed}
use Rattle.osq_value.specs.declared.reading.Category.{Category}
use Rattle.osq_value.specs.declared.reading.Reading.{Reading}
use Rattle.osq_value.specs.declared.source.SourceKind.{SourceKind}
use Rattle.publisher_core.specs.declared.record.ReadRecord.{ReadRecord}
use Rattle.publisher_core.specs.Records.{ended}
use Rattle.publisher_core.specs.Standing.{Gives, is_at_end}
use Rattle.record_lines.specs.Limits.{STEP_BYTES}
use Rattle.publisher_core.proofs.Given.{not_plain}
use Rattle.source_feeds.specs.Feeding.{Fed, Feeding}
use Rattle.source_feeds.specs.Stepping.{IsStep}
use Rattle.source_feeds.specs.Taking.{IsBehindLastFeed, ReadsTo}
use Rattle.source_feeds.proofs.Steps.{reads_to}
use Rattle.entry_model.specs.declared.entry.Entry.{Entry}
use Rattle.entry_model.specs.Values.{taken_from}
use Rattle.session_model.specs.Given.{Source}
use Rattle.daemon_rounds.specs.Rounding.{Whole}
use Rattle.daemon_rounds.specs.Turns.{Gave, IsTurn, Turn}
use Rattle.daemon_rounds.specs.declared.turning.Which.TheVariants as which
use Rattle.replay_rounds.specs.Sources.{AreFed, HadFullSteps, IsFed}
use Rattle.replay_rounds.proofs.Pieces.{few_pieces}

-- So many steps were full: each gave so many records, or read 16777216 bytes. So many records were given in all, and of so many bytes these are left.
pub record AreFull (records steps pieces bytes left : ℕ) : Type 0 where
  pub by_records : ℕ
  pub by_bytes : ℕ
  pub all : steps ≡ by_records + by_bytes
  pub given : by_records * records ≤ pieces
  pub took : by_bytes * STEP_BYTES + left ≤ bytes

-- the bytes that the source has behind what the list has of it
abbrev pub behind : List Entry → Source → List ℕ
behind start source = drop (taken_from start source.name) source.bytes

-- the session read the source behind what `start` has of it, and as long as it isn't at its end so many steps were full
pub record HasSteps {S : Type 0} (tells : Type 0) (left : S → List ℕ) (records steps : ℕ) (start : List Entry) (source : Source) (feed : Feeding) (object : S) : Type 0 where
  pub pieces : List ReadRecord
  pub fed : Fed tells source.bytes (left object) feed (taken_from start source.name) pieces
  pub full : tells → 1 ≤ records → is_at_end feed.reader ≡ false → AreFull records steps (length pieces) (length (behind start source)) (length (left object))

-- each source
abbrev pub HaveSteps : {S : Type 0} → Type 0 → (S → List ℕ) → ℕ → ℕ → List Entry → List Source → List Feeding → List S → Type 0
HaveSteps tells left records steps start [] [] [] = Unit {0}
HaveSteps tells left records steps start (source ∷ sources) (feed ∷ feeds) (object ∷ objects) =
    HasSteps tells left records steps start source feed object × HaveSteps tells left records steps start sources feeds objects
HaveSteps tells left records steps start _ _ _ = ⊥

-- before the first step
one_begun : {S : Type 0} (tells : Type 0) (left : S → List ℕ) (paths : List Category) (records : ℕ) (start now : List Entry) (source : Source) (feed : Feeding) (object : S) → IsFed tells left paths start now source feed object → HasSteps tells left records 0 start source feed object
one_begun tells left paths records start now source feed object is = record { pieces = is.pieces; fed = is.fed; full = none } where
  none : tells → 1 ≤ records → is_at_end feed.reader ≡ false → AreFull records 0 (length is.pieces) (length (behind start source)) (length (left object))
  none told some unended =
      let l = is.fed.left told in
      let tail : behind start source ≡ is.fed.stream ++ left object = ap (λ (n : ℕ). drop n source.bytes) (sym l.size) ∙ ap (drop (length l.dropped)) l.bytes ∙ drop-append_seam l.dropped (is.fed.stream ++ left object) in
      let size = ap length tail ∙ length-append is.fed.stream (left object) in
      record { by_records = 0; by_bytes = 0; all = refl; given = omega arith; took = omega (arith, size) }

pub steps_begun : {S : Type 0} (tells : Type 0) (left : S → List ℕ) (paths : List Category) (records : ℕ) (start now : List Entry) (sources : List Source) (feeds : List Feeding) (objects : List S) → AreFed tells left paths start now sources feeds objects → HaveSteps tells left records 0 start sources feeds objects
steps_begun tells left paths records start now [] [] [] are = tt
steps_begun tells left paths records start now (source ∷ sources) (feed ∷ feeds) (object ∷ objects) are =
    (one_begun tells left paths records start now source feed object are.0, steps_begun tells left paths records start now sources feeds objects are.1)
steps_begun tells left paths records start now _ _ _ are = absurd are

-- behind the last line feed there is no record
none_behind : (kind : SourceKind) (paths : List Category) (kept from to : ℕ) (bytes : List ℕ) (pieces : List ReadRecord) → IsBehindLastFeed kept bytes from → ReadsTo kind paths from (drop from bytes) pieces to → length pieces ≡ 0
none_behind kind paths kept from to bytes pieces last reads = by_lines reads.lines reads.gives reads.cut where
  rest_is : drop from bytes ≡ last.rest
  rest_is = ap (λ (n : ℕ). drop n bytes) (sym last.size) ∙ ap (drop (length last.front)) last.cut ∙ drop-append_seam last.front last.rest

  by_lines : (lines : List (List ℕ)) → Gives kind paths from lines pieces → drop from bytes ≡ ended lines ++ reads.rest → length pieces ≡ 0
  by_lines [] gives cut = let few = few_pieces kind paths from [] pieces gives in omega (arith, few)
  by_lines (line ∷ lines) gives cut =
      absurd
      (not_plain line (ended lines ++ reads.rest)
      (subst HasNoFeed (sym rest_is ∙ cut ∙ append_assoc (line ++ 10 ∷ []) (ended lines) reads.rest ∙ append_assoc line (10 ∷ []) (ended lines ++ reads.rest)) last.none))

over_ended : (ended_is empty : Bool) → (ended_is && empty) ≡ true → ended_is ≡ true
over_ended true empty is = refl
over_ended false empty is = absurd (true≢false (sym is))

module _ {S : Type 0} (tells : Type 0) (left : S → List ℕ) (paths : List Category) (records steps : ℕ) (start now : List Entry) (source : Source) (feed next : Feeding) (object rest : S) (readings : List Reading) (is : IsFed tells left paths start now source feed object) (has : HasSteps tells left records steps start source feed object) (gave : Gave tells (left object) (left rest) feed next records readings) where
  step : IsStep tells source.bytes (left object) (left rest) feed next (taken_from start source.name) has.pieces records readings
  step = gave.steps source.bytes (taken_from start source.name) has.pieces has.fed

  module _ (told : tells) (some : 1 ≤ records) (unended : is_at_end next.reader ≡ false) where
    abbrev Full : Type 0
    Full = AreFull records (suc steps) (length (has.pieces ++ step.pieces)) (length (behind start source)) (length (left rest))

    fewer : length (left object) ≡ length step.fresh + length (left rest)
    fewer = ap length (step.left told) ∙ length-append step.fresh (left rest)

    pieces_are : length (has.pieces ++ step.pieces) ≡ length has.pieces + length step.pieces
    pieces_are = length-append has.pieces step.pieces

    -- one full step more
    more : AreFull records steps (length has.pieces) (length (behind start source)) (length (left object)) → (length step.pieces ≡ records) ⊎ (STEP_BYTES ≤ length step.fresh) → Full
    more f (inl all) =
        let product = suc-mul f.by_records records in
        let were = f.given in
        let took = f.took in
        let sum = f.all in
        let size = pieces_are in
        let less = fewer in
        record { by_records = suc f.by_records; by_bytes = f.by_bytes; all = omega (arith, sum); given = omega (arith, product, were, all, size); took = omega (arith, took, less) }
    more f (inr much) =
        let product = suc-mul f.by_bytes STEP_BYTES in
        let were = f.given in
        let took = f.took in
        let sum = f.all in
        let size = pieces_are in
        let less = fewer in
        record { by_records = f.by_records; by_bytes = suc f.by_bytes; all = omega (arith, sum); given = omega (arith, were, size); took = omega (arith, product, took, less, much) }

    -- a source that was at its end gives nothing, and has nothing left to read
    none_over : is_at_end feed.reader ≡ true → ⊥
    none_over over = by_read (step.reads told unended) where
      place : IsBehindLastFeed (taken_from start source.name) source.bytes feed.reader.taken
      place = subst (IsBehindLastFeed (taken_from start source.name) source.bytes) (sym is.place) (is.over told over)

      none : length step.pieces ≡ 0
      none = none_behind feed.kind feed.reader.paths (taken_from start source.name) feed.reader.taken next.reader.taken source.bytes step.pieces place (step.takes told).reads

      nothing : length (left object) ≡ 0
      nothing = ap length (has.fed.end told (over_ended feed.reader.is_ended (length feed.reader.ready == 0) over))

      by_read : (length step.pieces ≡ records) ⊎ (STEP_BYTES ≤ length step.fresh) → ⊥
      by_read (inl all) = let no = none in absurd (omega (arith, all, no, some))
      by_read (inr much) =
          let no = nothing in
          let less = fewer in
          absurd (omega (arith, much, no, less))

    full : Full
    full = by_end (is_at_end feed.reader) refl where
      by_end : (b : Bool) → is_at_end feed.reader ≡ b → Full
      by_end false open_still = more (has.full told some open_still) (step.reads told unended)
      by_end true over = absurd (none_over over)

  one_more : HasSteps tells left records (suc steps) start source next rest
  one_more = record { pieces = has.pieces ++ step.pieces; fed = step.fed; full = full }

-- a round of all sources
module _ {S : Type 0} (tells : Type 0) (left : S → List ℕ) (faults : S → ℕ) (paths : List Category) (records steps : ℕ) (start now : List Entry) where
  by_turns : (sources : List Source) (turns : List (Turn S)) → All (IsTurn tells left faults which.Every records) turns → AreFed tells left paths start now sources (map (λ (turn : Turn S). turn.feed) turns) (map (λ (turn : Turn S). turn.source) turns) → HaveSteps tells left records steps start sources (map (λ (turn : Turn S). turn.feed) turns) (map (λ (turn : Turn S). turn.source) turns)
      → HaveSteps tells left records (suc steps) start sources (map (λ (turn : Turn S). turn.next) turns) (map (λ (turn : Turn S). turn.rest) turns)
  by_turns [] [] each are have = tt
  by_turns [] (turn ∷ turns) each are have = absurd are
  by_turns (source ∷ sources) [] each are have = absurd are
  by_turns (source ∷ sources) (turn ∷ turns) each are have = (
    one_more tells left paths records steps start now source turn.feed turn.next turn.source turn.rest turn.readings are.0 have.0 (All-head (IsTurn tells left faults which.Every records) turn turns each).plays,
    by_turns sources turns (All-tail (IsTurn tells left faults which.Every records) turn turns each) are.1 have.1,
  )

  pub steps_more : (sources : List Source) (feeds nexts : List Feeding) (objects rests : List S) (turns : List (Turn S)) → Whole feeds nexts objects rests turns → All (IsTurn tells left faults which.Every records) turns → AreFed tells left paths start now sources feeds objects → HaveSteps tells left records steps start sources feeds objects → HaveSteps tells left records (suc steps) start sources nexts rests
  steps_more sources feeds nexts objects rests turns whole each are have =
      subst (λ (fs : List Feeding). HaveSteps tells left records (suc steps) start sources fs rests) (sym whole.nexts_are)
      (subst (λ (os : List S). HaveSteps tells left records (suc steps) start sources (map (λ (turn : Turn S). turn.next) turns) os) (sym whole.rests_are)
      (by_turns sources turns each
      (subst (λ (os : List S). AreFed tells left paths start now sources (map (λ (turn : Turn S). turn.feed) turns) os) whole.sources_are (subst (λ (fs : List Feeding). AreFed tells left paths start now sources fs objects) whole.feeds_are are))
      (subst (λ (os : List S). HaveSteps tells left records steps start sources (map (λ (turn : Turn S). turn.feed) turns) os) whole.sources_are (subst (λ (fs : List Feeding). HaveSteps tells left records steps start sources fs objects) whole.feeds_are have))))

-- what that says of a source that isn't at its end
pub had_steps : {S : Type 0} (tells : Type 0) (left : S → List ℕ) (paths : List Category) (records steps : ℕ) (start now : List Entry) (source : Source) (feed : Feeding) (object : S) → tells → IsFed tells left paths start now source feed object → HasSteps tells left records steps start source feed object → is_at_end feed.reader ≡ false → 1 ≤ records → HadFullSteps paths records steps start source
had_steps tells left paths records steps start now source feed object told is has unended some =
    let f = has.full told some unended in
    let took = f.took in
    record {
      by_records = f.by_records;
      by_bytes = f.by_bytes;
      all = f.all;
      pieces = has.pieces;
      to = feed.reader.taken;
      read = subst (λ (kind : SourceKind). ReadsTo kind paths (taken_from start source.name) (behind start source) has.pieces feed.reader.taken) (has.fed.kind ∙ is.kind)
          (subst (λ (ps : List Category). ReadsTo feed.reader.kind ps (taken_from start source.name) (behind start source) has.pieces feed.reader.taken) is.paths_are
          (reads_to feed.reader (taken_from start source.name) has.pieces has.fed.stream source.bytes (left object) has.fed.stands (has.fed.left told)));
      given = f.given;
      took = omega (arith, took);
    }
