use Rattle.std.proofs.Common.{◌∙◌, sym, ap, length, List}
use Rattle.osq_value.specs.declared.value.Value.{Value}
use Rattle.event_store.specs.declared.shown.Held.{Held}
use Rattle.event_store.specs.Shown.{shown_of}
use Rattle.event_store.proofs.Parting.{length_rows}
use Rattle.event_store.proofs.shown.ShownRows.len.Goals as goal

pub returns-in-Parted : goal.returns-in-Parted
returns-in-Parted c =
    c.len-in-Parted.ensures ∙ sym (length_rows c.in-Parted.rows) ∙ ap (λ (held : Held). length (shown_of held)) (sym c.in-Parted.is) ∙ ap (λ (rows : List (List Value)). length rows) c.self.view_is
