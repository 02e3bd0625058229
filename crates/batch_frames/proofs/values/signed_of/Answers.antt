use Rattle.std.proofs.Common.{◌≡◌, sym, ap, subst, ◌∙◌, to_z, of_z, pos}
use Rattle.std.specs.Fmt.{signed_decimal}
use Rattle.std.specs.Int.{w64}
use Rattle.std.specs.Result.{result_unwrap_or}
use Rattle.std.specs.Str.{IsUtf8}
use Rattle.std.proofs.lemmas.Fmt.{IsAscii-signed, parse-signed_decimal}
use Rattle.std.proofs.lemmas.Int.{to_z-of_z}
use Rattle.std.proofs.lemmas.Str.{IsUtf8-from_ascii}
use Rattle.batch_frames.proofs.Begins.{fits_signed}
use Rattle.batch_frames.proofs.values.signed_of.Goals as goal

pub returns-in-Ok : goal.returns-in-Ok
returns-in-Ok c = λ n small is.
    let read : c.unwrap_or.result ≡ n = c.unwrap_or.ensures ∙ ap (λ r. result_unwrap_or r (pos 0)) (parse-signed_decimal w64 n _ c.parse.result (fits_signed n small) small (c.in-Ok.ensures.cases.0 ∙ is) c.parse.ensures.value.0) in
    ap (λ z. to_z w64 (of_z w64 z)) read ∙ to_z-of_z w64 n (fits_signed n small)

pub returns-in-Err : goal.returns-in-Err
returns-in-Err c = λ n small is. absurd (c.in-Err.ensures.cases.0 (subst IsUtf8 (sym is) (IsUtf8-from_ascii (signed_decimal n) (IsAscii-signed n small))))
