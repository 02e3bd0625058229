use Rattle.std.proofs.Common.{ap, sym, ◌∙◌, cond}
use Rattle.std.proofs.lemmas.Result.{IfOk-weaker}
use Rattle.std.proofs.lemmas.Str.{is_utf8-from_IsUtf8}
use Rattle.hex.specs.Hex.{encode_lower}
use Rattle.audit_records.proofs.HexText.{is_utf8-broken}
use Rattle.audit_records.proofs.address.path_text.Goals as goal

pub returns-in-Ok : goal.returns-in-Ok
returns-in-Ok c =
    let path = c.args.path.now in
    let shown = ap (λ t. cond t path (encode_lower path)) (is_utf8-from_IsUtf8 path c.in-Ok.ensures.cases.1) in
    IfOk-weaker c.of.result _ _ (λ text made. made ∙ c.in-Ok.ensures.cases.0 ∙ sym shown) c.of.ensures

pub returns-in_ok-digits-in-Err : goal.returns-in_ok-digits-in-Err
returns-in_ok-digits-in-Err c =
    let path = c.args.path.now in
    let shown = ap (λ t. cond t path (encode_lower path)) (is_utf8-broken path c.in-Err.ensures.cases.0) in
    c.from_string.ensures ∙ c.in_ok-digits-in-Err.ensures ∙ sym shown
