-- The numbers of a list, entry by entry.
use Rattle.std.proofs.Common.{◌≡◌, ℕ, ◌+◌, ◌<◌, Bool, true, false, List, [], ◌∷◌, drop, filter, get_or, length, Some, refl, sym, ap, ◌∙◌, cond}
use Rattle.std.proofs.lemmas.List.{at_drop_more}
use Rattle.pack_rules.specs.declared.schedule.QueryKey.{QueryKey}
use Rattle.entry_model.specs.declared.entry.Batch.{Batch}
use Rattle.entry_model.specs.declared.entry.Entry.{Entry}
use Rattle.entry_model.specs.declared.entry.Entry.TheVariants.{Opened, Configured, Ticked, Appended, TableSet, Expired, Committed, Acked}
use Rattle.entry_model.specs.Values.{commits, last_of, same_key}
use Rattle.kept_report.specs.Counting.{cursor_after}

-- where a query stands behind entries, if it stood there before
abbrev pub cursor_from : QueryKey → ℕ → List Entry → ℕ
cursor_from query cursor entries = last_of (λ (batch : Batch). Some batch.hi) cursor (filter (λ batch. same_key batch.query query) (commits entries))

kept_cursor : (query : QueryKey) (cursor : ℕ) (batch : Batch) (rest : List Batch) (same : Bool)
    → last_of (λ (batch : Batch). Some batch.hi) cursor (cond same (batch ∷ rest) rest) ≡ last_of (λ (batch : Batch). Some batch.hi) (cond same batch.hi cursor) rest
kept_cursor query cursor batch rest true = refl
kept_cursor query cursor batch rest false = refl

pub cursor_from-cons : (query : QueryKey) (cursor : ℕ) (entry : Entry) (entries : List Entry) → cursor_from query cursor (entry ∷ entries) ≡ cursor_from query (cursor_after query cursor entry) entries
cursor_from-cons query cursor (Opened session rules) entries = refl
cursor_from-cons query cursor (Configured document schedule moment) entries = refl
cursor_from-cons query cursor (Ticked moment) entries = refl
cursor_from-cons query cursor (Appended source taken events skipped moment) entries = refl
cursor_from-cons query cursor (TableSet source table rows taken) entries = refl
cursor_from-cons query cursor (Expired table floor moment) entries = refl
cursor_from-cons query cursor (Committed batch) entries =
    kept_cursor query cursor batch (filter (λ batch. same_key batch.query query) (commits entries)) (same_key batch.query query)
cursor_from-cons query cursor (Acked upto) entries = refl

-- one entry more is read
pub cursor_on : (query : QueryKey) (cursor : ℕ) (entries : List Entry) (at : ℕ) (entry : Entry) → at < length entries → entry ≡ get_or entries at entry
    → cursor_from query cursor (drop at entries) ≡ cursor_from query (cursor_after query cursor entry) (drop (at + 1) entries)
cursor_on query cursor entries at entry within is =
    at_drop_more (cursor_from query cursor) entries at entry within
    ∙ ap (λ (e : Entry). cursor_from query cursor (e ∷ drop (at + 1) entries)) (sym is)
    ∙ cursor_from-cons query cursor entry (drop (at + 1) entries)
