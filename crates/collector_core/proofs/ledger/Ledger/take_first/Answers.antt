use Rattle.std.proofs.Common.{List, [], ℕ, Option, ap, unwrap_or, ◌∙◌}
use Rattle.collector_core.specs.Ledgers.{digests_of}
use Rattle.collector_core.proofs.Changed.{others_keep}
use Rattle.collector_core.proofs.ledger.Ledger.take_first.Goals as goal

pub returns-in_ok-insert-clause-others : goal.returns-in_ok-insert-clause-others
unfolding digests_of
returns-in_ok-insert-clause-others c = λ other apart.
    ap (λ (o : Option (List (List ℕ))). unwrap_or o [])
    (others_keep c.args.self.now.hosts c.insert.new.self _ _ c.in_ok-insert.ensures.updates other (λ same. apart (same ∙ c.in_ok-from_str.ensures.ok ∙ c.as_str.ensures)))
