use Rattle.std.proofs.lemmas.Result.{on_ok_weaker}
use Rattle.sql_groups.proofs.Leaders.{gathered-leads}
use Rattle.sql_groups.proofs.leading.make_room.Goals as goal

pub returns-then-len-max : goal.returns-then-len-max
returns-then-len-max c =
    on_ok_weaker c.gather.result
    (λ gathers pairs was. gathered-leads c.args.ways.now c.args.count pairs c.args.leaders.now c.gather.new.leaders gathers.0 gathers.1 was)
    c.gather.ensures
