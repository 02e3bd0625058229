use Rattle.std.proofs.Common.{◌≡◌, drop}
use Rattle.std.specs.HashSet.{contains}
use Rattle.program_words.specs.Reading.{are_apart}
use Rattle.program_words.proofs.Apart.{same_text, texts_now, unseen_apart}
use Rattle.program_words.proofs.options.are_apart.Given as goal

abbrev pub invariant-loop-text : goal.invariant-loop-text
invariant-loop-text l = unseen_apart (contains same_text l.seen) (drop l.text-index l.texts) ≡ are_apart (texts_now l.texts)
