use Rattle.std.proofs.Common.{◌≡◌, ◌∙◌, List, ap, subst}
use Rattle.std.specs.Prelude.{IfOk}
use Rattle.entry_model.specs.declared.entry.Entry.{Entry}
use Rattle.kept_report.specs.Counting.{numbers_in, numbers_line}
use Rattle.kept_report.specs.declared.counting.ListNumbers.{ListNumbers}
use Rattle.osq_program.specs.SelfTesting.{self_key}
use Rattle.osq_program.proofs.SelfTests.{session_tested}
use Rattle.osq_program.proofs.self_test.tested.Goals as goal

pub returns-in-Ok : goal.returns-in-Ok
returns-in-Ok c =
    let are = c.in_ok-self_numbers-in-Ok.ensures ∙ ap (λ (list : List Entry). numbers_in self_key list) c.entries.ensures in
    session_tested c.args.words.now _ _ _ _ c.numbers_line.result c.in_ok-status.ensures.done c.in-Ok.is c.in_ok-lines.ensures (c.new-keeper.ensures.entries ∙ c.new.ensures)
    (subst (λ (numbers : ListNumbers). IfOk c.numbers_line.result (λ line. line ≡ numbers_line numbers)) are c.numbers_line.ensures)
