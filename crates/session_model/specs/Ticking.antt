-- What a tick adds.
use Rattle.std.specs.Prelude.{◌≡◌, ℕ, List, [], ◌∷◌, ◌++◌, length, filter_map, Option}
use Rattle.std.specs.Option.{option_map}
use Rattle.osq_value.specs.Catalogue.{evented_ids}
use Rattle.pack_rules.specs.declared.schedule.QueryKey.{QueryKey}
use Rattle.entry_model.specs.declared.entry.Batch.{Batch}
use Rattle.entry_model.specs.declared.entry.Entry.{Entry}
use Rattle.entry_model.specs.declared.entry.Entry.TheVariants.{Committed, Expired, Ticked}
use Rattle.entry_model.specs.Values.{moment_of}
use Rattle.entry_model.specs.Views.{due_queries, owed_floor}
use Rattle.session_model.specs.Configuring.{ConfiguresAgain}
use Rattle.session_model.specs.Given.{Given}
use Rattle.session_model.specs.Taking.{GivesSteps}

-- a batch for each of these queries, in their order, each made of all that stands before it
abbrev pub Answers : List Entry → List QueryKey → List Entry → Type 0
Answers kept [] entries = entries ≡ []
Answers kept (query ∷ queries) entries =
    (batch : Batch) × (others : List Entry) × (batch.query ≡ query) × (batch.cut ≡ length kept) × Answers (kept ++ Committed batch ∷ []) queries others
    × (entries ≡ Committed batch ∷ others)

abbrev pub expiry_of : List Entry → ℕ → Option Entry
expiry_of kept table = option_map (λ (floor : ℕ). Expired (record { 0 = table }) floor (moment_of kept)) (owed_floor kept table)

-- an expiry for each evented table that owes one, in the order of the catalogue
abbrev pub expiries_of : List Entry → List Entry
expiries_of kept = filter_map (expiry_of kept) evented_ids

-- At this moment the tick begins; the session is configured again where that is due; each source is taken a step; each query that is then due
-- is answered, behind which none is; and what is then owed expires. `tells` says whether the sources tell their bytes.
pub record Ticks (tells : Type 0) (given : Given) (kept : List Entry) (moment : ℕ) (entries : List Entry) : Type 0 where
  pub configured : List Entry
  pub taken : List Entry
  pub answered : List Entry
  pub configures : ConfiguresAgain given (kept ++ Ticked moment ∷ []) moment configured
  pub takes : GivesSteps tells given (kept ++ (Ticked moment ∷ configured)) given.sources taken
  pub answers : Answers (kept ++ (Ticked moment ∷ configured ++ taken)) (due_queries (kept ++ (Ticked moment ∷ configured ++ taken))) answered
  pub none : due_queries (kept ++ (Ticked moment ∷ configured ++ taken ++ answered)) ≡ []
  pub are : entries ≡ Ticked moment ∷ configured ++ taken ++ answered ++ expiries_of (kept ++ (Ticked moment ∷ configured ++ taken ++ answered))
