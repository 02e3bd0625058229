use Rattle.std.proofs.Common.{◌++◌}
use Rattle.session_state.proofs.Dues.{knows_dues}
use Rattle.shared_store.specs.Notes.{entries_in}
use Rattle.shared_store.proofs.laws.dues.Goals as goal

pub returns : goal.returns
returns c =
    λ start notes state is stands base added begun before legal same. knows_dues (before ++ (added ++ entries_in notes)) state is ((stands.stands base added begun).values before legal same)
