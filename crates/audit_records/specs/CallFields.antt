-- For proofs of the code's steps, and no part of the meaning: the fields of a system call's line that a row shows, found in one walk.
use Rattle.std.specs.Prelude.{ℕ, List, [], ◌∷◌, codes, map, Option, option_copied}
use Rattle.std.specs.Option.{option_or}
use Rattle.audit_records.specs.declared.line.AuditLine.{AuditLine}
use Rattle.audit_records.specs.declared.line.Field.{Field}
use Rattle.audit_records.specs.declared.process.CallFields.{CallFields}
use Rattle.audit_records.specs.FieldValues.{field_of}
use Rattle.audit_records.specs.Indexes.{with_key}

abbrev pub call_keys : List (List ℕ)
call_keys = codes "pid" ∷ codes "exe" ∷ codes "auid" ∷ codes "uid" ∷ codes "euid" ∷ codes "gid" ∷ codes "egid" ∷ codes "ppid" ∷ []

-- what was found of each of these keys
abbrev pub found_of : CallFields → List (Option Field)
found_of found = option_copied found.pid ∷ option_copied found.exe ∷ option_copied found.auid ∷ option_copied found.uid
    ∷ option_copied found.euid ∷ option_copied found.gid ∷ option_copied found.egid ∷ option_copied found.ppid ∷ []

-- of each key the first field of the line
abbrev pub first_fields : AuditLine → List (Option Field)
first_fields line = map (λ key. field_of key line) call_keys

-- each of these, and where there is none what stands at its place in the other list
abbrev pub each_or : List (Option Field) → List (Option Field) → List (Option Field)
each_or [] others = []
each_or (one ∷ ones) [] = one ∷ ones
each_or (one ∷ ones) (other ∷ others) = option_or one other ∷ each_or ones others

-- the field, at the place of its key
abbrev pub placed : Field → List (Option Field)
placed field = map (λ key. with_key key field) call_keys
