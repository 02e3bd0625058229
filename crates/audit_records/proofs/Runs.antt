-- The groups of lines are the lines, cut into runs as long as can be.
use Rattle.std.proofs.Common.{◌≡◌, ◌<◌, Bool, true, false, cond, List, [], ◌∷◌, ◌++◌, length, refl, arith, sym, ap, subst, append_assoc}
use Rattle.std.proofs.lemmas.List.{append-nil}
use Rattle.std.proofs.lemmas.Bool.{true≢false}
use Rattle.audit_records.specs.declared.line.AuditLine.{AuditLine}
use Rattle.audit_records.specs.Groups.{goes_on, groups_behind, groups_of, whole}
use Rattle.audit_records.specs.Runs.{IsRun, BeginsAnew, AreRunsOf}

IsRun-more : (begun lines : List AuditLine) (line : AuditLine) → IsRun begun lines → goes_on (begun ++ lines) line ≡ true → IsRun begun (lines ++ line ∷ [])
IsRun-more begun [] line run on = (subst (λ ls. goes_on ls line ≡ true) (append-nil begun) on, tt)
IsRun-more begun (first ∷ lines) line run on =
    (run.0, IsRun-more (begun ++ first ∷ []) lines line run.1 (subst (λ ls. goes_on ls line ≡ true) (sym (append_assoc begun (first ∷ []) lines)) on))

begins_anew : (before begun coming : List AuditLine) (first : AuditLine) → goes_on before first ≡ false → BeginsAnew before (groups_behind (first ∷ begun) coming)
begins_anew before begun [] first off = off
begins_anew before begun (line ∷ coming) first off =
    elim (goes_on (first ∷ begun) line) as (λ t. BeginsAnew before (cond t (groups_behind ((first ∷ begun) ++ line ∷ []) coming) ((first ∷ begun) ∷ groups_behind (line ∷ []) coming))) [
      | true ↦ begins_anew before (begun ++ line ∷ []) coming first off
      | false ↦ off
    ]

some_line : (begun : List AuditLine) (line : AuditLine) → goes_on begun line ≡ false → 0 < length begun
some_line [] line off = absurd (true≢false off)
some_line (first ∷ begun) line off = omega arith

whole_run : (begun : List AuditLine) → IsRun [] begun → AreRunsOf (begun ++ []) (whole begun)
whole_run [] run = record { joined = refl; runs = tt }
whole_run (first ∷ begun) run = record { joined = refl; runs = (omega arith, (run, (tt, tt))) }

runs_behind : (begun coming : List AuditLine) → IsRun [] begun → AreRunsOf (begun ++ coming) (groups_behind begun coming)
runs_behind begun [] run = whole_run begun run
runs_behind begun (line ∷ coming) run =
    by_line (goes_on begun line) refl (λ on. runs_behind (begun ++ line ∷ []) coming (IsRun-more [] begun line run on)) (runs_behind (line ∷ []) coming (refl, tt)) where
      by_line : (t : Bool) → goes_on begun line ≡ t → (goes_on begun line ≡ true → AreRunsOf ((begun ++ line ∷ []) ++ coming) (groups_behind (begun ++ line ∷ []) coming)) → AreRunsOf (line ∷ coming) (groups_behind (line ∷ []) coming) → AreRunsOf (begun ++ line ∷ coming) (cond t (groups_behind (begun ++ line ∷ []) coming) (begun ∷ groups_behind (line ∷ []) coming))
      by_line true is longer _ = subst (λ lines. AreRunsOf lines (groups_behind (begun ++ line ∷ []) coming)) (append_assoc begun (line ∷ []) coming) (longer is)
      by_line false is _ others = record {
        joined = ap (λ lines. begun ++ lines) others.joined;
        runs = (some_line begun line is, (run, (begins_anew begun [] coming line is, others.runs)));
      }

pub groups_of-runs : (lines : List AuditLine) → AreRunsOf lines (groups_of lines)
unfolding groups_of
groups_of-runs lines = runs_behind [] lines tt
