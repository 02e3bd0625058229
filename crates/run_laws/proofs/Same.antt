-- What the same session adds is the same, part by part.
use Rattle.std.proofs.Common.{◌≡◌, ℕ, ◌+◌, Option, Bool, true, false, List, [], ◌∷◌, ◌++◌, length, take, ap, sym, ◌∙◌, subst}
use Rattle.std.specs.Prelude.{All, max, filter}
use Rattle.std.proofs.lemmas.List.Elements.{All-head, All-tail, All-filter}
use Rattle.osq_value.specs.declared.value.Value.{Value}
use Rattle.pack_rules.specs.declared.schedule.QueryKey.{QueryKey}
use Rattle.sql_texts.specs.Meaning.{meaning}
use Rattle.entry_model.specs.declared.entry.Batch.{Batch}
use Rattle.entry_model.specs.declared.entry.Entry.{Entry}
use Rattle.entry_model.specs.declared.entry.Entry.TheVariants.{Committed, Opened, Ticked}
use Rattle.entry_model.specs.Legal.{Follow, MayCommit, begins_at}
use Rattle.entry_model.specs.Values.{commits, last_number, moment_of, sessions}
use Rattle.entry_model.specs.Views.{due_queries, view_of}
use Rattle.entry_model.proofs.Follows.{Follow-split}
use Rattle.session_model.specs.Configuring.{Configures, ConfiguresBy, is_outdated}
use Rattle.session_model.specs.Given.{Given, Source}
use Rattle.session_model.specs.Orders.{in_turn}
use Rattle.session_model.specs.Sessions.{Beat, IsSession, Opens, TicksAt, is_tables}
use Rattle.session_model.specs.Taking.{GivesSteps}
use Rattle.session_model.specs.Ticking.{Answers, Ticks, expiries_of}
use Rattle.session_model.specs.Working.{acks_of}
use Rattle.run_laws.specs.OneList.{GivesOne, SameEntries}
use Rattle.run_laws.proofs.Schedules.{configures_same}

abbrev batch_with : ℕ → QueryKey → ℕ → ℕ → ℕ → ℕ → List (List Value) → Batch
batch_with number query lo hi cut moment rows = record { number = number; query = query; lo = lo; hi = hi; cut = cut; moment = moment; rows = rows }

-- the batch of a query that is cut behind the whole list
abbrev next_batch : List Entry → QueryKey → Batch
next_batch kept query =
    let lo = begins_at kept query query.mode in
    batch_with (length (commits kept) + 1) query lo (last_number (take (length kept) kept)) (length kept) (moment_of kept) (meaning query.text (view_of (take (length kept) kept) lo (moment_of kept)))

batch_is : (kept : List Entry) (query : QueryKey) (b : Batch) → b.query ≡ query → b.cut ≡ length kept → MayCommit kept b → b ≡ next_batch kept query
batch_is kept query b asks cuts may =
    let lo : b.lo ≡ begins_at kept query query.mode = may.lower ∙ ap (λ (q : QueryKey). begins_at kept q q.mode) asks in
    let hi : b.hi ≡ last_number (take (length kept) kept) = may.upper ∙ ap (λ (n : ℕ). last_number (take n kept)) cuts in
    let rows : b.rows ≡ meaning query.text (view_of (take (length kept) kept) (begins_at kept query query.mode) (moment_of kept)) =
    may.answer
    ∙ (ap (λ (q : QueryKey). meaning q.text (view_of (take b.cut kept) b.lo b.moment)) asks
    ∙ (ap (λ (n : ℕ). meaning query.text (view_of (take n kept) b.lo b.moment)) cuts
    ∙ (ap (λ (n : ℕ). meaning query.text (view_of (take (length kept) kept) n b.moment)) lo
    ∙ ap (λ (n : ℕ). meaning query.text (view_of (take (length kept) kept) (begins_at kept query query.mode) n)) may.now))) in
    let number = length (commits kept) + 1 in
    let begin = begins_at kept query query.mode in
    let end = last_number (take (length kept) kept) in
    ap (λ (n : ℕ). batch_with n b.query b.lo b.hi b.cut b.moment b.rows) may.next
    ∙ (ap (λ (q : QueryKey). batch_with number q b.lo b.hi b.cut b.moment b.rows) asks
    ∙ (ap (λ (n : ℕ). batch_with number query n b.hi b.cut b.moment b.rows) lo
    ∙ (ap (λ (n : ℕ). batch_with number query begin n b.cut b.moment b.rows) hi
    ∙ (ap (λ (n : ℕ). batch_with number query begin end n b.moment b.rows) cuts
    ∙ (ap (λ (n : ℕ). batch_with number query begin end (length kept) n b.rows) may.now
    ∙ ap (λ (rs : List (List Value)). batch_with number query begin end (length kept) (moment_of kept) rs) rows)))))

-- the batches of these queries, one after another, each cut behind all that stands before it
abbrev next_batches : List Entry → List QueryKey → List Entry
next_batches kept [] = []
next_batches kept (query ∷ queries) = Committed (next_batch kept query) ∷ next_batches (kept ++ Committed (next_batch kept query) ∷ []) queries

answers_are : (kept : List Entry) (queries : List QueryKey) (answered : List Entry) → Follow kept answered → Answers kept queries answered → answered ≡ next_batches kept queries
answers_are kept [] answered follow h = h
answers_are kept (query ∷ queries) answered follow h =
    let batch = h.0 in
    let others = h.1 in
    let f : Follow kept (Committed batch ∷ others) = subst (Follow kept) h.5 follow in
    let is : batch ≡ next_batch kept query = batch_is kept query batch h.2 h.3 f.0 in
    let behind : Batch → List Entry = λ (b : Batch). kept ++ Committed b ∷ [] in
    let rest = answers_are (behind batch) queries others f.1 h.4 in
    h.5
    ∙ (ap (λ (es : List Entry). Committed batch ∷ es) rest
    ∙ ap (λ (b : Batch). Committed b ∷ next_batches (behind b) queries) is)

configured_same : (given : Given) (again : Bool) (kept : List Entry) (moment : ℕ) (one other : List Entry) → ConfiguresBy again given kept moment one → ConfiguresBy again given kept moment other → one ≡ other
configured_same given true kept moment one other x y =
    x.2 ∙ (ap (λ (e : Entry). e ∷ []) (configures_same given kept moment x.0 y.0 x.1 y.1) ∙ sym y.2)
configured_same given false kept moment one other x y = x ∙ sym y

module _ (tells : Type 0) (given : Given) where
  steps_same : (kept : List Entry) (sources : List Source) (one other : List Entry) → All (GivesOne tells given) sources → GivesSteps tells given kept sources one → GivesSteps tells given kept sources other → one ≡ other
  steps_same kept [] one other sole x y = x ∙ sym y
  steps_same kept (source ∷ sources) one other sole x y =
      let own : x.0 ≡ y.0 = All-head (GivesOne tells given) source sources sole kept x.0 y.0 x.2 y.2 in
      let others = steps_same (kept ++ y.0) sources x.1 y.1 (All-tail (GivesOne tells given) source sources sole) (subst (λ (es : List Entry). GivesSteps tells given (kept ++ es) sources x.1) own x.3) y.3 in
      x.4 ∙ (ap (λ (es : List Entry). es ++ x.1) own ∙ (ap (λ (es : List Entry). y.0 ++ es) others ∙ sym y.4))

  module _ (sole : All (GivesOne tells given) given.sources) where
    -- a tick as a list of its parts
    abbrev begun : ℕ → List Entry → List Entry → List Entry
    begun moment configured taken = Ticked moment ∷ configured ++ taken

    abbrev tick_of : List Entry → ℕ → List Entry → List Entry → List Entry → List Entry
    tick_of kept moment configured taken answered =
        Ticked moment ∷ configured ++ taken ++ answered ++ expiries_of (kept ++ (Ticked moment ∷ configured ++ taken ++ answered))

    -- the answers of a tick may follow what stands before them
    answers_follow : (kept : List Entry) (moment : ℕ) (configured taken answered behind : List Entry) → Follow kept (Ticked moment ∷ configured ++ taken ++ answered ++ behind) → Follow (kept ++ begun moment configured taken) answered
    answers_follow kept moment configured taken answered behind follow =
        let front = begun moment configured taken in
        (Follow-split kept front answered (Follow-split kept (front ++ answered) behind follow).0).1

    answered_are : (kept : List Entry) (moment : ℕ) (entries : List Entry) → Follow kept entries → (t : Ticks tells given kept moment entries) → t.answered ≡ next_batches (kept ++ begun moment t.configured t.taken) (due_queries (kept ++ begun moment t.configured t.taken))
    answered_are kept moment entries follow t =
        let behind = expiries_of (kept ++ (Ticked moment ∷ t.configured ++ t.taken ++ t.answered)) in
        let before = kept ++ begun moment t.configured t.taken in
        answers_are before (due_queries before) t.answered (answers_follow kept moment t.configured t.taken t.answered behind (subst (Follow kept) t.are follow)) t.answers

    tick_same : (kept : List Entry) (moment : ℕ) (one other : List Entry) → Follow kept one → Follow kept other → Ticks tells given kept moment one → Ticks tells given kept moment other → one ≡ other
    tick_same kept moment one other f g x y =
        let conf : x.configured ≡ y.configured = configured_same given (is_outdated given (kept ++ Ticked moment ∷ []) moment) (kept ++ Ticked moment ∷ []) moment x.configured y.configured x.configures y.configures in
        let took : x.taken ≡ y.taken = steps_same (kept ++ (Ticked moment ∷ y.configured)) given.sources x.taken y.taken sole
        (subst (λ (es : List Entry). GivesSteps tells given (kept ++ (Ticked moment ∷ es)) given.sources x.taken) conf x.takes) y.takes in
        let batches : List Entry → List Entry → List Entry = λ (c : List Entry) (t : List Entry). next_batches (kept ++ begun moment c t) (due_queries (kept ++ begun moment c t)) in
        let whole : List Entry → List Entry → List Entry = λ (c : List Entry) (t : List Entry). tick_of kept moment c t (batches c t) in
        let x_is : one ≡ whole x.configured x.taken = x.are ∙ ap (tick_of kept moment x.configured x.taken) (answered_are kept moment one f x) in
        let y_is : other ≡ whole y.configured y.taken = y.are ∙ ap (tick_of kept moment y.configured y.taken) (answered_are kept moment other g y) in
        x_is ∙ (ap (λ (c : List Entry). whole c x.taken) conf ∙ (ap (whole y.configured) took ∙ sym y_is))

    -- a tick with what is acknowledged behind its seal
    abbrev sealed_by : List Entry → List (Option ℕ) → List Entry → List Entry
    sealed_by kept polled own = own ++ acks_of (kept ++ own) polled

    ticks_same : (kept : List Entry) (beats : List Beat) (one other : List Entry) → Follow kept one → Follow kept other → TicksAt in_turn tells given kept beats one → TicksAt in_turn tells given kept beats other → one ≡ other
    ticks_same kept [] one other f g x y = x ∙ sym y
    ticks_same kept (beat ∷ beats) one other f g x y =
        let sealed = sealed_by kept beat.polled in
        let fs = Follow-split kept (sealed x.0) x.1 (subst (Follow kept) x.4 f) in
        let gs = Follow-split kept (sealed y.0) y.1 (subst (Follow kept) y.4 g) in
        let f_own = (Follow-split kept x.0 (acks_of (kept ++ x.0) beat.polled) fs.0).0 in
        let g_own = (Follow-split kept y.0 (acks_of (kept ++ y.0) beat.polled) gs.0).0 in
        let own : x.0 ≡ y.0 = tick_same kept (max beat.reading (moment_of kept)) x.0 y.0 f_own g_own x.2 y.2 in
        let others : x.1 ≡ y.1 = ticks_same (kept ++ sealed y.0) beats x.1 y.1 (subst (λ (es : List Entry). Follow (kept ++ sealed es) x.1) own fs.1) gs.1
        (subst (λ (es : List Entry). TicksAt in_turn tells given (kept ++ sealed es) beats x.1) own x.3) y.3 in
        x.4 ∙ (ap (λ (es : List Entry). sealed es ++ x.1) own ∙ (ap (λ (es : List Entry). sealed y.0 ++ es) others ∙ sym y.4))

    opening_same : (kept : List Entry) (reading : ℕ) (one other : List Entry) → Opens tells given kept reading one → Opens tells given kept reading other → one ≡ other
    opening_same kept reading one other x y =
        let opened = Opened (sessions kept + 1) 2 in
        let tables : x.tables ≡ y.tables = steps_same (kept ++ opened ∷ []) (filter (λ (source : Source). is_tables source.kind) given.sources) x.tables y.tables
        (All-filter (λ (source : Source). is_tables source.kind) (GivesOne tells given) given.sources sole) x.takes y.takes in
        let conf : x.configured ≡ y.configured = configures_same given (kept ++ (opened ∷ y.tables)) (max reading (moment_of kept)) x.configured y.configured
        (subst (λ (es : List Entry). Configures given (kept ++ (opened ∷ es)) (max reading (moment_of kept)) x.configured) tables x.configures) y.configures in
        x.are ∙ (ap (λ (es : List Entry). opened ∷ es ++ x.configured ∷ []) tables ∙ (ap (λ (e : Entry). opened ∷ y.tables ++ e ∷ []) conf ∙ sym y.are))

    session_same : (kept : List Entry) (beat : Beat) (beats : List Beat) (one other : List Entry) → IsSession in_turn tells given kept beat beats one → IsSession in_turn tells given kept beat beats other → one ≡ other
    session_same kept beat beats one other x y =
        let opening : x.opening ≡ y.opening = opening_same kept beat.reading x.opening y.opening x.opens y.opens in
        let fs = Follow-split kept x.opening x.ticks (subst (Follow kept) x.are (Follow-split [] kept one x.legal).1) in
        let gs = Follow-split kept y.opening y.ticks (subst (Follow kept) y.are (Follow-split [] kept other y.legal).1) in
        let ticks : x.ticks ≡ y.ticks = ticks_same (kept ++ y.opening) (beat ∷ beats) x.ticks y.ticks
        (subst (λ (es : List Entry). Follow (kept ++ es) x.ticks) opening fs.1) gs.1
        (subst (λ (es : List Entry). TicksAt in_turn tells given (kept ++ es) (beat ∷ beats) x.ticks) opening x.ticks_at) y.ticks_at in
        x.are ∙ (ap (λ (es : List Entry). es ++ x.ticks) opening ∙ (ap (λ (es : List Entry). y.opening ++ es) ticks ∙ sym y.are))

pub same_entries : (tells : Type 0) → SameEntries tells
same_entries tells given kept beat beats one other sole = session_same tells given sole kept beat beats one other
