use Rattle.std.proofs.Common.{refl}
use Rattle.std.proofs.lemmas.Result.{on_ok_weaker}
use Rattle.collect_rounds.specs.declared.collector.Collector.{Collector}
use Rattle.collect_rounds.proofs.Taking.{received-so}
use Rattle.collect_rounds.proofs.collector.Collector.receive.Goals as goal

pub returns-clause-takes : goal.returns-clause-takes
returns-clause-takes c =
    let base : Collector = record c.args.self.now { ledger = c.receive.new.self } in
    on_ok_weaker c.add_answer.result
    (λ is. received-so c.args.self.now base c.add_recorded.new.self c.add_answer.new.self c.args.frame c.args.digest c.args.line.now c.in_ok-receipt.receipt c.recorded-recorded.result c.answer_by-answer.result
    c.requires.frame c.requires.digest refl refl refl c.in_ok-receipt.ensures.receipt c.in_ok-receipt.ensures.step c.in_ok-add_recorded.ensures c.recorded-recorded.ensures c.answer_by-answer.ensures is)
    c.add_answer.ensures
