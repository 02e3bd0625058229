use Rattle.std.proofs.Common.{◌≡◌, map}
use Rattle.std.proofs.lemmas.Grind.{common_steps}
use Rattle.std.proofs.Common.{arith}
use Rattle.sql_query.specs.Answers.{names_in_result}
use Rattle.sql_query.specs.Resolved.{result_of}
use Rattle.sql_query.proofs.NamesLength.{names_count}
use Rattle.sql_query.proofs.answers.names_of.Goals as goal

pub returns-clause-count : goal.returns-clause-count
returns-clause-count c =
    let all : c.loop-item.names ≡ names_in_result (map result_of c.args.query.now.items) = grind (arith, common_steps) in
    names_count c.loop-item.names c.args.query.now.items all
