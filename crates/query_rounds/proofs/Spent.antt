-- A question that a spent number ends.
use Rattle.std.proofs.Common.{◌≡◌, ℕ, List, sym, subst}
use Rattle.std.specs.Prelude.{bytes_eq}
use Rattle.osq_value.specs.declared.reading.Category.{Category}
use Rattle.entry_model.specs.declared.entry.Entry.{Entry}
use Rattle.entry_model.specs.Fits.{IsDistinct}
use Rattle.entry_model.specs.Legal.{Legal}
use Rattle.entry_model.specs.Summary.{summary}
use Rattle.session_model.specs.Given.{Given}
use Rattle.osq_value.specs.declared.source.SourceName.{SourceName}
use Rattle.daemon_rounds.specs.Starting.{source_names}
use Rattle.replay_rounds.specs.Sources.{sources_of}
use Rattle.query_rounds.specs.Asking.{IsGivenFrom, Spends}
use Rattle.query_rounds.specs.Reading.{IsOverfull}
use Rattle.query_rounds.specs.Running.{place_of}
use Rattle.query_rounds.proofs.Taken.{all_taken, begun_taken, one_spends, sources_distinct, spent}

module _ {S : Type 0} (tells : Type 0) (left : S → List ℕ) (faults : S → ℕ) (names : List SourceName) (objects rests : List S) (rounds : ℕ) (given : Given) (kept : List Entry) (told : tells) (legal : Legal kept) (distinct : IsDistinct bytes_eq (source_names names)) where
  spends_over : given.sources ≡ sources_of left names objects → IsOverfull tells left faults names given.config.categories given.records rounds (summary kept) objects rests → Spends given kept rounds
  spends_over are over =
      let apart = sources_distinct tells left faults given kept names objects over.start are over.begun distinct in
      let (entries, taken, full) = all_taken tells left faults given kept told legal apart over.runs.count over.start over.runs.between (begun_taken tells left faults given kept names objects over.start are over.begun) over.runs.turns in
      let end = place_of over.feeds rests over.state in
      record {
        count = over.runs.count;
        few = over.runs.few;
        entries = entries;
        takes = taken.takes;
        own = spent tells left faults given kept told legal apart over.runs.count entries over.runs.between end taken over.runs.overflows;
        spends = one_spends tells left faults given kept told legal apart over.runs.count entries over.runs.between end taken over.runs.overflows;
      }

  pub has_spent : (paths : List Category) (records : ℕ) → IsGivenFrom left names objects paths records given → IsOverfull tells left faults names paths records rounds (summary kept) objects rests → Spends given kept rounds
  has_spent paths records is over =
      spends_over is.sources_are (subst (λ (records : ℕ). IsOverfull tells left faults names given.config.categories records rounds (summary kept) objects rests) (sym is.records_are) (subst (λ (paths : List Category). IsOverfull tells left faults names paths records rounds (summary kept) objects rests) (sym is.paths_are) over))
