use Rattle.std.proofs.Common.{◌∙◌, ◌++◌, ◌∷◌, [], ℕ, List, Option, ap}
use Rattle.osq_outside.specs.declared.files.NamedFile.{NamedFile}
use Rattle.osq_program.proofs.SelfTests.{self_file}
use Rattle.osq_program.specs.SelfTesting.{config_path}
use Rattle.osq_program.proofs.self_session.files_of.Goals as goal

pub returns : goal.returns
returns c =
    ap (λ (file : List ℕ → Option (List ℕ)). file config_path) c.new-2.ensures.files
    ∙ self_file c.push.new.self c.in_ok-of.field-0 c.in_ok-of-2.field-0
    (c.in_ok-push.ensures.ok ∙ ap (λ (files : List NamedFile). files ++ (record { path = c.in_ok-of.field-0; text = c.in_ok-of-2.field-0 }) ∷ []) c.new-files.ensures)
    c.in_ok-of.ensures (c.in_ok-of-2.ensures ∙ c.as_bytes.ensures.value)
