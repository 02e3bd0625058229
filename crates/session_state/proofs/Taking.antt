-- A reading that goes forward may be added.
use Rattle.std.proofs.Common.{◌≡◌, ℕ, ◌+◌, ◌<◌, ◌≤◌, ◌^◌, List, length, true, sym, ap, ◌∙◌, arith}
use Rattle.std.specs.Prelude.{All}
use Rattle.osq_value.specs.declared.value.Event.{Event}
use Rattle.osq_value.specs.declared.value.TableId.{TableId}
use Rattle.osq_value.specs.declared.value.Value.{Value}
use Rattle.entry_model.specs.declared.entry.Entry.{Entry}
use Rattle.entry_model.specs.declared.entry.Entry.TheVariants.{Appended, TableSet}
use Rattle.entry_model.specs.Legal.{LegalNext, IsEvent, width_of}
use Rattle.entry_model.specs.Next.{offset_at}
use Rattle.entry_model.specs.Values.{taken_from}
use Rattle.entry_model.specs.Views.{is_recorded_table}
use Rattle.entry_model.proofs.Summaries.{taken_is}
use Rattle.event_store.specs.Contents.{AreWide}
use Rattle.session_state.specs.Kept.{Counts, Kept}
use Rattle.session_state.specs.StateOf.{HasValues}

-- the state's offset of a source is the list's
offset_is : (K : List Entry) (s : Kept) → HasValues K s → (source : List ℕ) → offset_at s.counts.taken source ≡ taken_from K source
offset_is K s h source = sym (ap (λ (c : Counts). offset_at c.taken source) h.counts) ∙ taken_is K source

pub may_append : (K : List Entry) (s : Kept) (source : List ℕ) (taken : ℕ) (events : List Event) (skipped : ℕ) → HasValues K s → offset_at s.counts.taken source < taken → All IsEvent events → s.image.last + length events ≤ 2 ^ 62 → LegalNext K (Appended source taken events skipped s.counts.moment)
may_append K s source taken events skipped h forwards are fits =
    let offset = offset_is K s h source in
    let last = h.image.last in
    (omega (arith, offset, forwards), sym (ap (λ (c : Counts). c.moment) h.counts), are, omega (arith, last, fits))

pub may_set : (K : List Entry) (s : Kept) (source : List ℕ) (table : TableId) (rows : List (List Value)) (taken : ℕ) → HasValues K s → offset_at s.counts.taken source < taken → is_recorded_table table.0 ≡ true → AreWide (width_of table.0) rows → LegalNext K (TableSet source table rows taken)
may_set K s source table rows taken h forwards recorded wide =
    let offset = offset_is K s h source in
    (omega (arith, offset, forwards), recorded, wide)
