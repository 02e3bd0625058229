-- A moment's nanoseconds are not cut by the width that they are kept in, and what is shown of their clock is the moment's text.
use Rattle.std.proofs.Common.{◌≡◌, ◌≤◌, ◌*◌, ◌<◌, ◌^◌, ℕ, List, pos, ◌*ℤ◌, ap, ◌∙◌, arith, to_z, of_z, FitsSigned}
use Rattle.std.specs.Prelude.{Result, Ok, Err, IfOk}
use Rattle.std.proofs.lemmas.Int.{to_z_pos, to_z-of_z}
use Rattle.osq_value.specs.declared.moment.TheConstants.{LAST_MOMENT}
use Rattle.jiff.proofs.SpanFacts.{signed_arith}
use Rattle.jiff_core.specs.declared.civil.datetime.DateTime.{DateTime}
use Rattle.jiff_core.specs.DateTime.{civil_nanos}
use Rattle.calendar_text.specs.Calendar.{clock_text, IsCalendarText}
use mir.Syntax.{w128}

pub nanos_of : (moment : ℕ) → moment ≤ LAST_MOMENT → to_z w128 (of_z w128 (to_z w128 moment *ℤ pos 1_000_000_000)) ≡ pos moment *ℤ pos 1_000_000_000
nanos_of moment bound =
    let small : moment < 2 ^ 127 = omega arith in
    let fits : FitsSigned w128 (pos (moment * 1_000_000_000)) = omega (arith, signed_arith) in
    ap (λ z. to_z w128 (of_z w128 (z *ℤ pos 1_000_000_000))) (to_z_pos w128 moment small)
    ∙ to_z-of_z w128 (pos (moment * 1_000_000_000)) fits

pub texts : (A E : Type 0) (bytes : A → List ℕ) (moment : ℕ) (clock : DateTime) → civil_nanos clock ≡ pos moment *ℤ pos 1_000_000_000
    → (result : Result A E) → IfOk result (λ text. bytes text ≡ clock_text clock) → IfOk result (λ text. IsCalendarText moment (bytes text))
texts A E bytes moment clock instant (Ok text) shown = record { clock = clock; instant = instant; shown = shown }
texts A E bytes moment clock instant (Err _) _ = tt
