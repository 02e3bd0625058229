use Rattle.osqd.proofs.run.Goals as goal

pub returns : goal.returns
returns g c =
    let (status, ends, does, told) = c.answered-answer.ensures in
    (c.answered-answer.new.outside, status, ends, does, told)
