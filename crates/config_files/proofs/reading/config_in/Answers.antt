use Rattle.std.proofs.Common.{◌≡◌, ◌∷◌, [], ◌∙◌, sym, ap, subst, ℕ, List, Ok}
use Rattle.osq_config.specs.declared.config.Config.{Config}
use Rattle.osq_config.specs.Counts.{fault_of_config}
use Rattle.osq_config.specs.Reads.{Answers}
use Rattle.osq_config.specs.Values.{config_of}
use Rattle.config_files.specs.Texts.{text_of}
use Rattle.config_files.proofs.Texts.{text_of-utf8}
use Rattle.config_files.proofs.reading.config_in.Goals as goal

pub returns-clause-config : goal.returns-clause-config
returns-clause-config g c =
    let document = c.in-Some.document in
    let answer : Answers fault_of_config config_of document (Ok c.in_ok-config.config) =
    subst (λ (bytes : List ℕ). Answers fault_of_config config_of bytes (Ok c.in_ok-config.config)) c.as_slice.ensures c.in_ok-config.ensures.answer in
    let kept : text_of document ≡ document = text_of-utf8 document answer.1.is_text in (
      document,
      λ tells. sym (c.in_ok-document.ensures.bytes tells) ∙ c.in-Some.is,
      subst (λ (config : Config). Answers fault_of_config config_of document (Ok config)) (sym c.in_ok-begun.ensures.config) answer,
      c.in_ok-begun.ensures.documents ∙ ap (λ (text : List ℕ). text ∷ []) kept,
      c.in_ok-begun.ensures.notes,
    )
