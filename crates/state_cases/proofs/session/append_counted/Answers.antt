use Rattle.state_cases.proofs.Cuts.{added_known}
use Rattle.state_cases.proofs.session.append_counted.Goals as goal

pub returns : goal.returns
returns g c = added_known c.args.state.now c.append.new.self _ c.append.result c.append.ensures.added c.append.ensures.err
