use Rattle.std.proofs.Common.{◌∙◌, sym, ap, Option}
use Rattle.sql_faults.specs.declared.error.ParseError.{ParseError}
use Rattle.sql_faults.specs.Stack.{expects}
use Rattle.sql_faults.specs.Reading.{settled, least_from}
use Rattle.sql_faults.proofs.Turn.{turn_faulty}
use Rattle.sql_faults.proofs.recognizer.take.Goals as goal

pub returns-in-Some-fault_of : goal.returns-in-Some-fault_of
returns-in-Some-fault_of c = λ others.
    turn_faulty c.args.least c.in-Some.expected c.args.token (settled (expects c.args.parts.now.items) c.args.token c.args.is_all_of) (expects c.settle.new.parts.items) c.in-Some-fault_of.fault others
    (rw c.in-Some.is at c.in_ok-expected.ensures) (sym c.is_fitting.ensures ∙ c.if-not-is_fitting.false) (sym c.in-Some-fault_of.ensures)
    ∙ ap (λ (x : Option ParseError). least_from x (others (expects c.settle.new.parts.items))) (sym c.lesser_fault-in-Some-fault_of.ensures)
