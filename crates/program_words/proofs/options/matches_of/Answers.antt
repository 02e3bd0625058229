use Rattle.std.proofs.Common.{◌≡◌, ◌∙◌, ⊎_elim, ap, ap₂, refl, subst, sym}
use Rattle.clap.specs.Kinds.{IsAmong}
use Rattle.clap.specs.Words.{app_of, fault_of, is_simple, is_simple_and_free, kind_of, matches_of}
use Rattle.clap.proofs.WalkLemmas.{both}
use Rattle.program_words.specs.Rules.{app_for}
use Rattle.program_words.proofs.Matched.{simple}
use Rattle.program_words.proofs.options.matches_of.Goals as goal

pub returns-in-Ok-clause-rows : goal.returns-in-Ok-clause-rows
returns-in-Ok-clause-rows c =
    let is : app_of c.in_ok-reader_of.field-0 ≡ app_for c.args.command = c.in_ok-reader_of.ensures in
    let plain = (both _ _ (simple c.args.command)).0 in
    (c.in-Ok.ensures.matches (ap is_simple is ∙ plain)).0 ∙ ap₂ matches_of is refl

pub returns-in-Ok-clause-right : goal.returns-in-Ok-clause-right
returns-in-Ok-clause-right c =
    let is : app_of c.in_ok-reader_of.field-0 ≡ app_for c.args.command = c.in_ok-reader_of.ensures in
    ap₂ fault_of (sym is) refl ∙ c.in-Ok.ensures.kinds (ap is_simple_and_free is ∙ simple c.args.command)

pub returns : goal.returns
returns c =
    let is : app_of c.in_ok-reader_of.field-0 ≡ app_for c.args.command = c.in_ok-reader_of.ensures in
    let fails = c.in-Err.ensures.kinds (ap is_simple_and_free is ∙ simple c.args.command) in
    record {
      rows = tt;
      right = tt;
      usage = λ usage none. ⊎_elim (λ memory. c.in_default.not-OutOfMemory (c.kind.ensures ∙ memory)) (λ among. subst (IsAmong (kind_of c.in-Err.error)) (ap₂ fault_of is refl ∙ none) among) fails;
    }
