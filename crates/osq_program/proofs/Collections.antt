-- How a collector's run is answered.
use Rattle.std.proofs.Common.{◌++◌, take, drop, length, get_or, slice_set, arith, ◌≡◌, ◌⊎◌, inl, inr, ℕ, Bool, true, false, List, [], ◌∷◌, Some, Result, Ok, Err, map, refl, sym, ap, subst, slice_get, ◌∙◌}
use Rattle.std.proofs.Math.Seq.{take-append_seam}
use Rattle.osq_value.specs.declared.source.SourceName.{SourceName}
use Rattle.collector_core.specs.Ledgers.{digests_of}
use Rattle.collector_ledger.specs.declared.opened.OpenedLedger.{OpenedLedger}
use Rattle.collector_ledger.specs.Files.{IsOpened}
use Rattle.collect_rounds.specs.Runs.{Runs}
use Rattle.program_words.specs.declared.command.CollectWords.{CollectWords}
use Rattle.collect_rounds.specs.declared.error.CollectError.{CollectError}
use Rattle.collect_rounds.specs.declared.error.CollectError.TheVariants as stop
use Rattle.osq_program.specs.declared.status.Status.{Status}
use Rattle.osq_program.specs.declared.status.Status.TheVariants.{Ok as Done, TicksSpent, OutOfMemory}
use Rattle.osq_program.specs.Collecting.{HasRun, IsCollect, IsStoppedBy, IsUnwritten, after, before, stream}
use Rattle.osq_program.specs.Ending.{IsNamedAt}
use Rattle.osq_program.specs.Observed.{Observed}
use Rattle.osq_program.specs.Reasons.{HasFailed}
use Rattle.osq_program.specs.Report.{HasFields, IsRefusedAs, IsUnread}
use Rattle.osq_program.specs.Telling.{MayTellOfLedger}

-- the stream is what the first source gives
pub first_stream : {S : Type 0} → (left : S → List ℕ) (sources : List S) (source : S) → slice_get sources 0 ≡ Some source → stream (map left sources) ≡ left source
first_stream left [] source there = absurd (let gone : ⊥ = cc in gone)
first_stream left (first ∷ sources) source there = ap left (let same : first ≡ source = cc in same)

-- one source of the list is read on
pub one_source : {S : Type 0} → (sources : List S) (source d : S) → length sources ≡ 1 → source ≡ get_or sources 0 d → slice_get sources 0 ≡ Some source
one_source [] source d size is = absurd (omega (arith, size))
one_source (first ∷ sources) source d size is = ap (λ x. Some x) (sym is)

pub changed_first : {S : Type 0} → (sources : List S) (source : S) → length sources ≡ 1 → slice_get (slice_set sources 0 source) 0 ≡ Some source
changed_first [] source size = absurd (omega (arith, size))
changed_first (first ∷ sources) source size = refl

-- what the slice of all sources has at its end is what they are then
slice_back : {S : Type 0} → (count : ℕ) (rests objects : List S) → length rests ≡ count → take count (rests ++ drop (length rests) objects) ≡ rests
slice_back count rests objects size = ap (λ (n : ℕ). take n (rests ++ drop (length rests) objects)) (sym size) ∙ take-append_seam rests (drop (length rests) objects)

-- a ledger was opened, and the stream of the one source was collected
pub run_so : {S : Type 0} → (words : CollectWords) (seen : Observed) (ended : Result Bool CollectError) (left : S → List ℕ) (opened : OpenedLedger) (path : List ℕ) (objects slice rests : List S) (count : ℕ)
    → seen.all_bytes ≡ map left objects → seen.rest_bytes ≡ map left (take count (rests ++ drop (length rests) objects)) → slice ≡ objects → length rests ≡ count → path ≡ words.ledger
    → (seen.files_tell → IsOpened (seen.file path) opened)
    → (seen.source_tells → seen.sink_tells → Runs (digests_of opened.ledger) opened.has_rest (stream (map left slice)) (stream (map left rests)) words.ticks (before seen) (after seen) ended)
    → HasRun words seen ended
run_so words seen ended left opened path objects slice rests count all later same size path_is opens runs = record {
  recorded = digests_of opened.ledger;
  rest = opened.has_rest;
  ledger = λ tells. let file = subst (λ (p : List ℕ). IsOpened (seen.file p) opened) path_is (opens tells) in (file.ledger, file.rest);
  runs = λ told tells.
      subst (λ (bytes : List (List ℕ)). Runs (digests_of opened.ledger) opened.has_rest (stream seen.all_bytes) (stream bytes) words.ticks (before seen) (after seen) ended)
      (sym (later ∙ ap (map left) (slice_back count rests objects size)))
      (subst (λ (bytes : List (List ℕ)). Runs (digests_of opened.ledger) opened.has_rest (stream bytes) (stream (map left rests)) words.ticks (before seen) (after seen) ended)
      (ap (map left) same ∙ sym all) (runs told tells));
}

module _ (words : CollectWords) (seen : Observed) (kept : seen.keeper_tells → seen.kept_after ≡ seen.kept_before) where
  pub done_so : (ended : Result Bool CollectError) → ended ≡ Ok true → HasRun words seen ended → (seen.sink_tells → seen.status_after ≡ seen.status_before) → IsCollect words seen Done
  done_so ended end run quiet = record { leaves = subst (HasRun words seen) end run; quiet = λ done. quiet; cause = λ refusal. absurd refusal; kept = kept }

  pub spent_so : (status : Status) → status ≡ TicksSpent → (ended : Result Bool CollectError) → ended ≡ Ok false → HasRun words seen ended → IsCollect words seen status
  spent_so status is ended end run = subst (λ (s : Status). IsCollect words seen s) (sym is) (record { leaves = subst (HasRun words seen) end run; quiet = λ done. absurd done; cause = λ refusal. absurd refusal; kept = kept })

  wanting : (error : CollectError) (status : Status) → status ≡ OutOfMemory → HasRun words seen (Err error) → IsCollect words seen status
  wanting error status is run = subst (λ (s : Status). IsCollect words seen s) (sym is) (record { leaves = inr (error, run); quiet = λ done. absurd done; cause = λ refusal. tt; kept = kept })

  pub stopped_so : (error : CollectError) (status : Status) → IsStoppedBy words.sources error status → HasRun words seen (Err error)
      → ((name : List ℕ) → error ≡ stop.SourceFault → IsNamedAt words.sources 0 name → HasFailed words.sources seen name)
      → (error ≡ stop.SinkFault → seen.ledger_failed ⊎ seen.results_failed) → IsCollect words seen status
  stopped_so stop.SourceFault status (inl is) run source sinks = wanting stop.SourceFault status is run
  stopped_so stop.SourceFault status (inr (name, named, is)) run source sinks =
      subst (λ (s : Status). IsCollect words seen s) (sym is) (record { leaves = run; quiet = λ done. absurd done; cause = λ refusal. source name refl named; kept = kept })
  stopped_so stop.SinkFault status is run source sinks =
      subst (λ (s : Status). IsCollect words seen s) (sym is) (record { leaves = run; quiet = λ done. absurd done; cause = λ refusal. sinks refl; kept = kept })
  stopped_so stop.NoMemory status is run source sinks = wanting stop.NoMemory status is run

  -- the ledger's file can't be read
  pub unread_so : (status : Status) → IsUnread status → seen.files_failed → IsUnwritten seen → IsCollect words seen status
  unread_so status (inl is) failed same =
      subst (λ (s : Status). IsCollect words seen s) (sym is) (record { leaves = same; quiet = λ done. absurd done; cause = λ refusal. failed; kept = kept })
  unread_so status (inr is) failed same =
      subst (λ (s : Status). IsCollect words seen s) (sym is) (record { leaves = inl same; quiet = λ done. absurd done; cause = λ refusal. tt; kept = kept })

-- the answer to a collector that stopped so is one to it
pub stopped_as : (sources : List SourceName) (error : CollectError) (stopped status : Status) → IsStoppedBy sources error stopped → IsRefusedAs stopped status → IsStoppedBy sources error status
stopped_as sources error stopped status by (inl is) = subst (IsStoppedBy sources error) (sym is) by
stopped_as sources stop.SourceFault stopped status by (inr (fields, is)) = inl is
stopped_as sources stop.SinkFault stopped status by (inr (fields, is)) = absurd (subst HasFields by fields)
stopped_as sources stop.NoMemory stopped status by (inr (fields, is)) = absurd (subst HasFields by fields)

-- none of these answers tells of a file
pub collect_may : (words : CollectWords) (error : CollectError) (status : Status) → IsStoppedBy words.sources error status → MayTellOfLedger words.ledger status []
collect_may words stop.SourceFault status (inl is) = subst (λ (s : Status). MayTellOfLedger words.ledger s []) (sym is) refl
collect_may words stop.SourceFault status (inr (name, named, is)) = subst (λ (s : Status). MayTellOfLedger words.ledger s []) (sym is) refl
collect_may words stop.SinkFault status is = subst (λ (s : Status). MayTellOfLedger words.ledger s []) (sym is) refl
collect_may words stop.NoMemory status is = subst (λ (s : Status). MayTellOfLedger words.ledger s []) (sym is) refl
