use Rattle.pack_rules.proofs.Soundness.{schedule_sound}
use Rattle.daemon_rounds.proofs.Configured.{configures}
use Rattle.daemon_rounds.proofs.configuring.configure.Goals as goal

pub configure-requires-clause-sound : goal.configure-requires-clause-sound
configure-requires-clause-sound c =
    schedule_sound c.args.config.now c.args.host.now _ _ c.requires.bounded c.in_ok-schedule.ensures

pub returns-in-Ok-clause-configured : goal.returns-in-Ok-clause-configured
returns-in-Ok-clause-configured c =
    configures c.args.config.now c.args.documents.now _ c.args.host.now c.args.moment c.args.state.now c.configure.new.self _ _ c.is_state.ensures c.in_ok-documents.ensures c.requires.later c.in_ok-view.ensures c.in_ok-schedule.ensures c.in-Ok.ensures.configured c.in-Ok.ensures.claims
