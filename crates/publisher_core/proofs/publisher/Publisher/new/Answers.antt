use Rattle.std.proofs.Common.{refl, ◌∙◌, []}
use Rattle.publisher_core.proofs.Giving.{published}
use Rattle.publisher_core.proofs.Standing.{nothing_read}
use Rattle.publisher_core.proofs.publisher.Publisher.new.Goals as goal

pub returns-clause-stands : goal.returns-clause-stands
returns-clause-stands g c = published _ [] [] _ [] (nothing_read _ (c.new.ensures.stands) (c.new.ensures.limit ∙ c.limit_of.ensures) c.new-2.ensures.stands c.new-3.ensures.items refl) tt
