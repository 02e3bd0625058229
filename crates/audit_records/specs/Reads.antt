-- What a reader answers.
use Rattle.std.specs.Prelude.{◌≡◌, Option, Some, None, Result, Ok, Err}
use Rattle.audit_records.specs.declared.error.AuditLineError.{AuditLineError}
use Rattle.audit_records.specs.declared.error.AuditLineError.TheVariants as fault

-- that there is none, where memory isn't wanting
abbrev pub Refuses : {Y : Type 0} → Option Y → AuditLineError → Type 0
Refuses found fault.BadLine = found ≡ None
Refuses found fault.NoMemory = Unit {0}

-- the value, seen through a view, or that there is none
abbrev pub ReadsAs : {X Y : Type 0} → (X → Y) → Option Y → Result X AuditLineError → Type 0
ReadsAs view found (Ok x) = found ≡ Some (view x)
ReadsAs view found (Err error) = Refuses found error

abbrev pub Reads : {X : Type 0} → Option X → Result X AuditLineError → Type 0
Reads found result = ReadsAs (λ value. value) found result
