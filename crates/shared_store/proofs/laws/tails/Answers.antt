use Rattle.std.proofs.Common.{◌∷◌, [], ◌∙◌}
use Rattle.shared_store.specs.declared.noted.Noted.TheVariants.{Taken}
use Rattle.shared_store.proofs.Lists.{untaken-append, untaken_all}
use Rattle.shared_store.proofs.laws.tails.Goals as goal

pub returns : goal.returns
returns c = record {
  marked = λ start before after state none stands. stands.tail ∙ untaken-append start.tail before (Taken ∷ after) ∙ untaken_all [] after none;
  unmarked = λ start notes state none stands. stands.tail ∙ untaken_all start.tail notes none;
}
