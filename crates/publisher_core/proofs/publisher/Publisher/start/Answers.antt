use Rattle.std.proofs.Common.{refl, subst, sym}
use Rattle.publisher_core.specs.Standing.{Reader, HasPublished}
use Rattle.publisher_core.proofs.Giving.{begins}
use Rattle.publisher_core.proofs.publisher.Publisher.start.Goals as goal

pub returns-in-Ok-clause-stands : goal.returns-in-Ok-clause-stands
returns-in-Ok-clause-stands g c = λ given start stream s. begins _ _ given start stream refl (subst (λ (r : Reader). HasPublished r given start stream) (sym c.self.view_is) s)
