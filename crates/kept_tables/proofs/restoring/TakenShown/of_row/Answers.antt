use Rattle.std.proofs.Common.{◌≡◌, ℕ, List, ap, ap₂}
use Rattle.osq_value.specs.declared.value.Value.{Value}
use Rattle.entry_model.specs.declared.restored.Taken.{Taken}
use Rattle.kept_tables.specs.Columns.{number_at, text_at}
use Rattle.kept_tables.proofs.Answering.{passed_on, refused}
use Rattle.kept_tables.proofs.restoring.TakenShown.of_row.Goals as goal

abbrev taken : List ℕ → ℕ → Taken
taken source offset = record { source = source; offset = offset }

pub returns-in_err-source : goal.returns-in_err-source
returns-in_err-source c = λ value held is.
    passed_on value c.in_err-source.field-0.0 c.from_residual.result c.from_residual.ensures.1
    (refused value.source value c.in_err-source.field-0.0 (c.in_err-source.ensures value.source (ap (λ (r : List Value). text_at r 0) is)))

pub returns-in_err-offset : goal.returns-in_err-offset
returns-in_err-offset c = λ value held is.
    absurd (let not_there = c.in_err-offset.ensures value.offset (ap (λ (r : List Value). number_at r 1) is) in let no : ⊥ = cc in no)

pub returns : goal.returns
returns c = λ value held is.
    let source = c.in_ok-source.ensures value.source (ap (λ (r : List Value). text_at r 0) is) in
    let found = c.in_ok-offset.ensures value.offset (ap (λ (r : List Value). number_at r 1) is) in
    let offset : c.in_ok-offset.offset ≡ value.offset = cc in
    ap₂ taken source offset
