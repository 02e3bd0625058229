use Rattle.std.proofs.Common.{sym, ◌∙◌}
use Rattle.std.proofs.lemmas.Result.{on_ok_weaker}
use Rattle.collector_answers.specs.declared.answer.BadAnswer.TheVariants.{TooLong}
use Rattle.collector_answers.specs.declared.judging.Judged.TheVariants.{Bad}
use Rattle.collector_answers.specs.Judging.{LIMIT}
use Rattle.collect_rounds.proofs.Taking.{bad-so, skipped-long}
use Rattle.collect_rounds.proofs.collector.Collector.take_cut.Goals as goal

pub returns-in-Skipped-clause-takes : goal.returns-in-Skipped-clause-takes
returns-in-Skipped-clause-takes c = λ end line is.
    on_ok_weaker c.add_answer.result
    (λ new. record { judged = Bad TooLong; is = skipped-long LIMIT end c.in-Skipped.end line (sym c.in-Skipped.is ∙ is); takes = bad-so c.args.self.now c.add_answer.new.self TooLong new })
    c.add_answer.ensures
