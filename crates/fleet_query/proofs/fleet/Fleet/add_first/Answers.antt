use Rattle.std.proofs.Common.{List, [], Option, ap, unwrap_or}
use Rattle.batch_frames.specs.declared.frame.Frame.{Frame}
use Rattle.collector_core.proofs.Changed.{others_keep}
use Rattle.fleet_query.specs.Fleets.{frames_in}
use Rattle.fleet_query.proofs.fleet.Fleet.add_first.Goals as goal

pub returns-clause-others : goal.returns-clause-others
unfolding frames_in
returns-clause-others c = λ other apart.
    ap (λ (o : Option (List Frame)). unwrap_or o []) (others_keep c.args.self.now.hosts c.insert.new.self _ _ c.in_ok-insert.ensures.updates other apart)
