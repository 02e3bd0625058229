-- Steps of sources one after another are steps behind the same list.
use Rattle.std.proofs.Common.{◌≡◌, ℕ, Bool, true, false, ◌||◌, List, [], ◌∷◌, ◌++◌, map, drop, refl, ap, ap₂, sym, ◌∙◌, subst, arith, append-nil}
use Rattle.std.specs.Prelude.{All, bytes_eq}
use Rattle.std.specs.List.{list_any}
use Rattle.std.proofs.lemmas.List.Elements.{All-nil, All-cons, All-tail, All-append, All-map, All-weaker, filter-append}
use Rattle.osq_value.specs.declared.reading.Reading.{Reading}
use Rattle.publisher_core.specs.Readings.{readings_of}
use Rattle.entry_model.specs.declared.entry.Entry.{Entry}
use Rattle.entry_model.specs.Fits.{IsDistinct}
use Rattle.entry_model.specs.Values.{moment_of, taken_from}
use Rattle.session_state.specs.Readings.{entry_of}
use Rattle.source_feeds.specs.Taking.{Takes}
use Rattle.session_model.specs.Given.{Given, Source}
use Rattle.session_model.specs.Laws.{names_of}
use Rattle.session_model.specs.Taking.{GivesStep, GivesSteps, from_source, is_from}
use Rattle.session_model.proofs.Names.{Differs, bytes_differ, differs, from_other, from_own, moment_behind, or_left, or_right, own_is, taken_behind}

-- a step depends on the list by the source's offset and the moment alone
pub retake : (tells : Type 0) (given : Given) (kept now : List Entry) (source : Source) (own : List Entry) → taken_from now source.name ≡ taken_from kept source.name → moment_of now ≡ moment_of kept → GivesStep tells given now source own → GivesStep tells given kept source own
retake tells given kept now source own at when step = record {
  pieces = step.pieces;
  to = step.to;
  few = step.few;
  takes = λ told. subst (λ (n : ℕ). Takes source.kind given.config.categories n (drop n source.bytes) given.records step.pieces step.to) at (step.takes told);
  are = step.are ∙ ap (λ (m : ℕ). map (entry_of source.name m) (readings_of source.kind step.pieces)) when;
}

module _ (tells : Type 0) (given : Given) (kept : List Entry) (source : Source) (own : List Entry) (step : GivesStep tells given kept source own) where
  abbrev readings : List Reading
  readings = readings_of source.kind step.pieces

  pub from_step : from_source source.name own ≡ own
  from_step =
      ap (from_source source.name) step.are ∙ (from_own source.name (moment_of kept) readings ∙ sym step.are)

  pub from_step_other : (other : List ℕ) → bytes_eq source.name other ≡ false → from_source other own ≡ []
  from_step_other other differ =
      ap (from_source other) step.are ∙ from_other source.name (moment_of kept) other differ readings

  pub taken_after : (other : List ℕ) → bytes_eq source.name other ≡ false → taken_from (kept ++ own) other ≡ taken_from kept other
  taken_after other differ =
      ap (λ (l : List Entry). taken_from (kept ++ l) other) step.are ∙ taken_behind source.name (moment_of kept) other differ kept readings

  pub moment_after : moment_of (kept ++ own) ≡ moment_of kept
  moment_after =
      ap (λ (l : List Entry). moment_of (kept ++ l)) step.are ∙ moment_behind source.name (moment_of kept) kept readings

  pub own_parts : All (λ (entry : Entry). is_from source.name entry ≡ true) own
  own_parts =
      let P : Entry → Type 0 = λ (entry : Entry). is_from source.name entry ≡ true in
      subst (All P) (sym step.are) (All-map P (entry_of source.name (moment_of kept)) readings (each readings)) where
        each : (rs : List Reading) → All (λ (reading : Reading). is_from source.name (entry_of source.name (moment_of kept) reading) ≡ true) rs
        each rs k d lt = own_is source.name (moment_of kept) _

-- none of these sources has the name, and so none of their entries
pub none_from : (tells : Type 0) (given : Given) (kept : List Entry) (sources : List Source) (taken : List Entry) → GivesSteps tells given kept sources taken → (name : List ℕ) → Differs name sources → from_source name taken ≡ []
none_from tells given kept [] taken steps name differ = ap (from_source name) steps
none_from tells given kept (source ∷ sources) taken steps name differ =
    let own = steps.0 in
    let others = steps.1 in
    ap (from_source name) steps.4
    ∙ (filter-append (is_from name) own others ∙ ap₂ ◌++◌ (from_step_other tells given kept source own steps.2 name (bytes_differ name source.name differ.0)) (none_from tells given (kept ++ own) sources others steps.3 name differ.1))

module _ (tells : Type 0) (given : Given) (kept : List Entry) (source : Source) (sources : List Source) (taken own others : List Entry) (step : GivesStep tells given kept source own) (rest : GivesSteps tells given (kept ++ own) sources others) (are : taken ≡ own ++ others) (differ : Differs source.name sources) where
  pub from_first : from_source source.name taken ≡ own
  from_first =
      ap (from_source source.name) are
      ∙ (filter-append (is_from source.name) own others ∙ (ap₂ ◌++◌ (from_step tells given kept source own step) (none_from tells given (kept ++ own) sources others rest source.name differ) ∙ append-nil own))

  pub from_later : (name : List ℕ) → bytes_eq source.name name ≡ false → from_source name taken ≡ from_source name others
  from_later name other =
      ap (from_source name) are
      ∙ (filter-append (is_from name) own others ∙ ap (λ (l : List Entry). l ++ from_source name others) (from_step_other tells given kept source own step name other))

  pub back : (later : List Source) → Differs source.name later → All (λ (s : Source). GivesStep tells given (kept ++ own) s (from_source s.name others)) later → All (λ (s : Source). GivesStep tells given kept s (from_source s.name taken)) later
  back [] d h = All-nil (λ (s : Source). GivesStep tells given kept s (from_source s.name taken))
  back (s ∷ ss) d h =
      let here : GivesStep tells given (kept ++ own) s (from_source s.name others) = h 0 s (omega arith) in
      let moved = retake tells given kept (kept ++ own) s (from_source s.name others) (taken_after tells given kept source own step s.name d.0) (moment_after tells given kept source own step) here in
      All-cons (λ (s : Source). GivesStep tells given kept s (from_source s.name taken)) s ss
      (subst (GivesStep tells given kept s) (sym (from_later s.name d.0)) moved)
      (back ss d.1 (All-tail (λ (s : Source). GivesStep tells given (kept ++ own) s (from_source s.name others)) s ss h))

pub steps_each : (tells : Type 0) (given : Given) (kept : List Entry) (sources : List Source) (taken : List Entry) → IsDistinct bytes_eq (names_of sources) → GivesSteps tells given kept sources taken → All (λ (s : Source). GivesStep tells given kept s (from_source s.name taken)) sources
steps_each tells given kept [] taken distinct steps = All-nil (λ (s : Source). GivesStep tells given kept s (from_source s.name taken))
steps_each tells given kept (source ∷ sources) taken distinct steps =
    let own = steps.0 in
    let others = steps.1 in
    let step = steps.2 in
    let rest = steps.3 in
    let are = steps.4 in
    let d = differs source.name sources distinct.0 in
    All-cons (λ (s : Source). GivesStep tells given kept s (from_source s.name taken)) source sources
    (subst (GivesStep tells given kept source) (sym (from_first tells given kept source sources taken own others step rest are d)) step)
    (back tells given kept source sources taken own others step rest are d sources d (steps_each tells given (kept ++ own) sources others distinct.1 rest))

pub steps_parts : (tells : Type 0) (given : Given) (kept : List Entry) (sources : List Source) (taken : List Entry) → GivesSteps tells given kept sources taken → All (λ (entry : Entry). list_any (λ (s : Source). is_from s.name entry) sources ≡ true) taken
steps_parts tells given kept [] taken steps =
    let P : Entry → Type 0 = λ (entry : Entry). list_any (λ (s : Source). is_from s.name entry) [] ≡ true in
    subst (All P) (sym steps) (All-nil P)
steps_parts tells given kept (source ∷ sources) taken steps =
    let own = steps.0 in
    let others = steps.1 in
    let any : Entry → Bool = λ (entry : Entry). list_any (λ (s : Source). is_from s.name entry) sources in
    let P : Entry → Type 0 = λ (entry : Entry). (is_from source.name entry || any entry) ≡ true in
    let front = All-weaker (λ (entry : Entry). is_from source.name entry ≡ true) P (λ entry h. or_left (is_from source.name entry) (any entry) h) own (own_parts tells given kept source own steps.2) in
    let end = All-weaker (λ (entry : Entry). any entry ≡ true) P (λ entry h. or_right (is_from source.name entry) (any entry) h) others (steps_parts tells given (kept ++ own) sources others steps.3) in
    subst (All P) (sym steps.4) (All-append P own others front end)
