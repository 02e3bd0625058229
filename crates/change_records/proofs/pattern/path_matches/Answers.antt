use Rattle.std.proofs.Common.{ℕ, List, Some, None, sym, subst}
use Rattle.std.proofs.lemmas.Bool.{false≢true, ltb-true, lt-ltb}
use Rattle.memchr.specs.Find.{IsFirstByte, is_byte}
use Rattle.change_records.proofs.PathMatches.{any_behind, none_behind, path_any}
use Rattle.change_records.proofs.pattern.path_matches.Goals as goal

pub returns-in-Some : goal.returns-in-Some
returns-in-Some c =
    let first = subst (λ (bytes : List ℕ). IsFirstByte (is_byte 47) bytes (Some c.in-Some.at)) c.as_bytes.ensures.value c.in-Some.ensures in
    let behind = any_behind c.args.path.now c.in-Some.at first in
    let any = path_any c.args.pattern.now c.args.path.now (sym c.if-eq.ensures) in
    (λ h. any.0 (behind.0 (ltb-true _ _ h)), λ m. lt-ltb _ _ (behind.1 (any.1 m)))

pub returns-in-None : goal.returns-in-None
returns-in-None c =
    let nowhere = subst (λ (bytes : List ℕ). IsFirstByte (is_byte 47) bytes None) c.as_bytes.ensures.value c.in-None.ensures in
    let any = path_any c.args.pattern.now c.args.path.now (sym c.if-eq.ensures) in
    (λ h. absurd (false≢true h), λ m. absurd (none_behind c.args.path.now nowhere (any.1 m)))
