use Rattle.std.proofs.Common.{◌≡◌, ap, sym, ◌∙◌, Some, subst}
use Rattle.std.specs.Prelude.{IsUtf8, string_bytes}
use Rattle.std.proofs.lemmas.Bool.{false≢true}
use Rattle.std.proofs.lemmas.Str.{IsUtf8-string_bytes}
use Rattle.audit_records.proofs.HexText.{utf8_text-whole, utf8_text-broken}
use Rattle.audit_records.proofs.value.utf8_text.Goals as goal

pub returns-in-Ok : goal.returns-in-Ok
returns-in-Ok c =
    let same : string_bytes c.in-Ok.text ≡ c.args.bytes.items = ap (λ v. v.items) c.in-Ok.ensures.ok in
    ap Some same ∙ sym (utf8_text-whole c.args.bytes.items (subst IsUtf8 same (IsUtf8-string_bytes c.in-Ok.text)))

pub returns : goal.returns
returns c = sym (utf8_text-broken c.args.bytes.items (λ whole. false≢true (c.in-Err.ensures.succeeds whole)))
