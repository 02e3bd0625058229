use Rattle.std.proofs.Common.{List, [], Option, ap, refl, subst, unwrap_or, ◌∙◌}
use Rattle.std.specs.Prelude.{IsSome}
use Rattle.batch_frames.specs.declared.frame.Frame.{Frame}
use Rattle.collector_core.proofs.Changed.{others_keep}
use Rattle.fleet_query.specs.Fleets.{frames_in}
use Rattle.fleet_query.proofs.fleet.Fleet.add.Goals as goal

pub returns-in-Some-clause-others : goal.returns-in-Some-clause-others
unfolding frames_in
returns-in-Some-clause-others c = λ other apart.
    let written = c.get_mut.follows.holds c.push.new.self in
    ap (λ (o : Option (List Frame)). unwrap_or o [])
    (others_keep c.args.self.now.hosts (c.get_mut.follows.lender c.push.new.self) c.as_str.result.now _ (written.3 (subst IsSome c.in-Some.ensures.value refl)) other (λ same. apart (same ∙ c.as_str.ensures)))
