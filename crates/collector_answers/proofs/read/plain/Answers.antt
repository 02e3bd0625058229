use Rattle.collector_answers.proofs.Fronts.{bad_shown, gap_shown, none_shown, recorded_shown, repeat_shown}
use Rattle.collector_answers.proofs.read.plain.Goals as goal

pub returns-in-Some : goal.returns-in-Some
returns-in-Some c = recorded_shown c.args.line.now c.in-Some.counted.host c.in-Some.counted.number c.in-Some.counted.recorded (rw c.in-Some.is at c.in_ok-counted.ensures)

pub returns-in-Some-2 : goal.returns-in-Some-2
returns-in-Some-2 c = repeat_shown c.args.line.now c.in-Some-2.counted.host c.in-Some-2.counted.number c.in-Some-2.counted.recorded (rw c.in-Some-2.is at c.in_ok-counted-2.ensures)

pub returns-in-Some-3 : goal.returns-in-Some-3
returns-in-Some-3 c = gap_shown c.args.line.now c.in-Some-3.counted.host c.in-Some-3.counted.number c.in-Some-3.counted.recorded (rw c.in-Some-3.is at c.in_ok-counted-3.ensures)

pub returns-in-Some-bad : goal.returns-in-Some-bad
returns-in-Some-bad c = bad_shown c.args.line.now c.in-Some-bad.kind c.in-Some-bad.ensures

pub returns-in-None : goal.returns-in-None
returns-in-None c =
    none_shown c.args.line.now (rw c.in_default.is at c.in_ok-counted.ensures) (rw c.in_default-2.is at c.in_ok-counted-2.ensures) (rw c.in_default-3.is at c.in_ok-counted-3.ensures) c.in-None.ensures
