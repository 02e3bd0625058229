use Rattle.std.proofs.Common.{rules, ◌≡◌, ◌∙◌, sym, subst, ℕ, List}
use Rattle.std.specs.Str.{IsUtf8}
use Rattle.std.specs.String.{string_bytes}
use Rattle.std.proofs.lemmas.Bool.{true≢false}
use Rattle.std.proofs.lemmas.Str.{IsUtf8-string_bytes}
use Rattle.config_files.proofs.Texts.{text_of-others, text_of-utf8}
use Rattle.config_files.proofs.text.text_of.Goals as goal

pub returns-in-Ok : goal.returns-in-Ok
returns-in-Ok c =
    let same : string_bytes c.in-Ok.text ≡ c.args.bytes = search rules in
    let kept : c.from_string.result ≡ c.args.bytes = search rules in
    kept ∙ sym (text_of-utf8 c.args.bytes (subst (λ (bytes : List ℕ). IsUtf8 bytes) same (IsUtf8-string_bytes c.in-Ok.text)))

pub returns : goal.returns
returns c =
    c.empty.ensures ∙ sym (text_of-others c.args.bytes (λ is. true≢false (sym (c.in-Err.ensures.succeeds (subst (λ (bytes : List ℕ). IsUtf8 bytes) (sym c.into_vec.ensures) is)))))
