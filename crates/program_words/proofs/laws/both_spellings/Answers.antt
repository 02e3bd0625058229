use Rattle.program_words.proofs.Spellings.{both_spellings}
use Rattle.program_words.proofs.laws.both_spellings.Goals as goal

pub returns : goal.returns
returns c = both_spellings
