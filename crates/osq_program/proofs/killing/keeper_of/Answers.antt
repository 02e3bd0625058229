use Rattle.std.proofs.Common.{◌∙◌, ◌++◌, ◌∷◌, [], List, ap}
use Rattle.osq_outside.specs.declared.fails.Fail.{Fail}
use Rattle.osq_program.proofs.Kills.{keeper_calls}
use Rattle.osq_program.proofs.killing.keeper_of.Goals as goal

pub returns-clause-calls : goal.returns-clause-calls
returns-clause-calls c =
    keeper_calls c.new-2.result c.push.new.self c.args.kill c.args.whole c.new-2.ensures.failures c.new-2.ensures.is_whole
    (c.in_ok-push.ensures.ok ∙ ap (λ (fails : List Fail). fails ++ (record { call = c.args.kill }) ∷ []) c.new-fails.ensures)
