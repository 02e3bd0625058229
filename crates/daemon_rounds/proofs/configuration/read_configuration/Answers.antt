use Rattle.daemon_rounds.proofs.Bounded.{config_bounded}
use Rattle.daemon_rounds.proofs.configuration.read_configuration.Goals as goal

pub returns-in-Ok-clause-bounded : goal.returns-in-Ok-clause-bounded
returns-in-Ok-clause-bounded g c =
    config_bounded c.in-Ok.made.documents c.in-Ok.made.config c.in-Ok.made.notes c.in-Ok.ensures.configured.holds
