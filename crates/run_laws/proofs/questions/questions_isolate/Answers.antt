use Rattle.run_laws.proofs.questions.questions_isolate.Goals as goal
use Rattle.run_laws.proofs.Questioned as law

pub returns : goal.returns
returns g c = law.questions_isolate _
