-- A session of one thread is a session in some order.
use Rattle.std.proofs.Common.{◌≡◌, ℕ, Bool, true, ◌||◌, List, [], ◌∷◌, ◌++◌, map, refl, ap, sym, ◌∙◌, subst, append_assoc, append-nil}
use Rattle.std.specs.Prelude.{All, bytes_eq, max}
use Rattle.std.specs.List.{list_any}
use Rattle.std.proofs.lemmas.List.Elements.{All-nil, All-cons, All-append, All-weaker, filter-append}
use Rattle.pack_rules.specs.declared.schedule.QueryKey.{QueryKey}
use Rattle.entry_model.specs.declared.entry.Entry.{Entry}
use Rattle.entry_model.specs.declared.entry.Entry.TheVariants.{Committed, Ticked}
use Rattle.entry_model.specs.Fits.{IsDistinct}
use Rattle.entry_model.specs.Values.{moment_of}
use Rattle.entry_model.specs.Views.{due_queries}
use Rattle.session_model.specs.Given.{Given, Source}
use Rattle.session_model.specs.Laws.{Forgets, names_of}
use Rattle.session_model.specs.Orders.{in_turn, at_once}
use Rattle.session_model.specs.Sessions.{Beat, TicksAt}
use Rattle.session_model.specs.Taking.{GivesStep, GivesSteps, from_source, is_from}
use Rattle.session_model.specs.Ticking.{Answers, Ticks, expiries_of}
use Rattle.session_model.specs.Working.{Passes, Works, acks_of, is_batch, is_part}
use Rattle.session_model.proofs.Names.{or_left, or_right}
use Rattle.session_model.proofs.Steps.{steps_each, steps_parts}

abbrev IsBatch : Entry → Type 0
IsBatch entry = is_batch entry ≡ true

batches : (kept : List Entry) (queries : List QueryKey) (entries : List Entry) → Answers kept queries entries → All IsBatch entries
batches kept [] entries h = subst (All IsBatch) (sym h) (All-nil IsBatch)
batches kept (query ∷ queries) entries h =
    let batch = h.0 in
    let others = h.1 in
    subst (All IsBatch) (sym h.5) (All-cons IsBatch (Committed batch) others refl (batches (kept ++ Committed batch ∷ []) queries others h.4))

-- a batch is of no source
none_answered : (name : List ℕ) (kept : List Entry) (queries : List QueryKey) (entries : List Entry) → Answers kept queries entries → from_source name entries ≡ []
none_answered name kept [] entries h = ap (from_source name) h
none_answered name kept (query ∷ queries) entries h =
    ap (from_source name) h.5 ∙ none_answered name (kept ++ Committed h.0 ∷ []) queries h.1 h.4

module _ (tells : Type 0) (given : Given) (distinct : IsDistinct bytes_eq (names_of given.sources)) where
  -- a step of each source, and then batches, are a body of a tick
  module _ (kept before taken answered : List Entry) (queries : List QueryKey) (takes : GivesSteps tells given kept given.sources taken) (answers : Answers before queries answered) (none : due_queries (kept ++ (taken ++ answered)) ≡ []) where
    from_both : (name : List ℕ) → from_source name (taken ++ answered) ≡ from_source name taken
    from_both name =
        filter-append (is_from name) taken answered
        ∙ (ap (λ (l : List Entry). from_source name taken ++ l) (none_answered name before queries answered answers) ∙ append-nil (from_source name taken))

    by_turns : Works tells given kept (taken ++ answered)
    by_turns =
        let P : Entry → Type 0 = λ (entry : Entry). is_part given.sources entry ≡ true in
        let any : Entry → Bool = λ (entry : Entry). list_any (λ (s : Source). is_from s.name entry) given.sources in
        let readings = All-weaker (λ (entry : Entry). any entry ≡ true) P (λ entry h. or_right (is_batch entry) (any entry) h) taken (steps_parts tells given kept given.sources taken takes) in
        let commits = All-weaker IsBatch P (λ entry h. or_left (is_batch entry) (any entry) h) answered (batches before queries answered answers) in
        let one : Source → Type 0 = λ (s : Source). GivesStep tells given kept s (from_source s.name taken) in
        let all : Source → Type 0 = λ (s : Source). GivesStep tells given kept s (from_source s.name (taken ++ answered)) in
        record {
          takes = All-weaker one all (λ s h. subst (GivesStep tells given kept s) (sym (from_both s.name)) h) given.sources (steps_each tells given kept given.sources taken distinct takes);
          parts = All-append P taken answered readings commits;
          answered = none;
        }

  passes : (kept : List Entry) (moment : ℕ) (own : List Entry) → Ticks tells given kept moment own → Passes tells given kept moment own
  passes kept moment own t = record {
    configured = t.configured;
    body = body;
    configures = t.configures;
    works = by_turns (kept ++ begun) (kept ++ (begun ++ t.taken)) t.taken t.answered (due_queries (kept ++ (begun ++ t.taken))) t.takes t.answers (ap due_queries behind ∙ t.none);
    are = t.are ∙ ap (λ (es : List Entry). es ++ expiries_of (kept ++ es)) (append_assoc begun t.taken t.answered);
  }
    where
      begun : List Entry
      begun = Ticked moment ∷ t.configured

      body : List Entry
      body = t.taken ++ t.answered

      behind : (kept ++ (Ticked moment ∷ t.configured)) ++ (t.taken ++ t.answered) ≡ kept ++ ((Ticked moment ∷ t.configured) ++ t.taken ++ t.answered)
      behind =
          append_assoc kept (Ticked moment ∷ t.configured) (t.taken ++ t.answered) ∙ ap (λ (es : List Entry). kept ++ es) (sym (append_assoc (Ticked moment ∷ t.configured) t.taken t.answered))

  ticks_at : (kept : List Entry) (beats : List Beat) (entries : List Entry) → TicksAt in_turn tells given kept beats entries → TicksAt at_once tells given kept beats entries
  ticks_at kept [] entries none = none
  ticks_at kept (beat ∷ beats) entries (own, others, tick, rest, are) = (
    own,
    others,
    passes kept (max beat.reading (moment_of kept)) own tick,
    ticks_at (kept ++ (own ++ acks_of (kept ++ own) beat.polled)) beats others rest,
    are,
  )

pub forgets : (tells : Type 0) → Forgets tells
forgets tells given kept first beats entries distinct s = record {
  notes = s.notes;
  configuration = s.configuration;
  opening = s.opening;
  ticks = s.ticks;
  opens = s.opens;
  ticks_at = ticks_at tells given distinct (kept ++ s.opening) (first ∷ beats) s.ticks s.ticks_at;
  are = s.are;
  legal = s.legal;
}
