use Rattle.std.proofs.Common.{inl, inr, refl, sym, ◌∙◌}
use Rattle.std.proofs.lemmas.Bool.{false≢true}
use Rattle.audit_records.proofs.HexText.{hex_bytes-read, hex_bytes-refused}
use Rattle.audit_records.proofs.value.hex_bytes.Goals as goal

pub returns-in-Ok : goal.returns-in-Ok
returns-in-Ok c = hex_bytes-read c.args.text.now _ c.in-Ok.ensures.ok

pub returns-else-eq : goal.returns-else-eq
returns-else-eq c =
    elim c.in-Err.ensures.err [
      | inl full ↦ absurd (false≢true (sym c.if-eq.false ∙ c.eq.ensures ∙ rw full refl))
      | inr refused ↦ hex_bytes-refused c.args.text.now _ refused
    ]
