use Rattle.std.proofs.Common.{ap, drop, map, subst, sym, Err}
use Rattle.program_words.specs.declared.error.WordsError.TheVariants.{Usage}
use Rattle.program_words.specs.Given.{options_of}
use Rattle.program_words.specs.Reading.{Tells}
use Rattle.program_words.proofs.Matched.{words_told}
use Rattle.program_words.proofs.Told.{refused_wrong, same_error}
use Rattle.program_words.proofs.options.GivenOptions.read.Goals as goal

pub returns-in_err-matches-clause-usage : goal.returns-in_err-matches-clause-usage
returns-in_err-matches-clause-usage c =
    λ is. refused_wrong c.args.command (map (λ w. w.now) c.args.words.now) c.requires.clean (c.in_err-matches.ensures.usage (ap Err (same_error c.from_residual.result c.in_err-matches.field-0.0 Usage c.from_residual.ensures.1 is)))

pub invariant_of-result : goal.invariant_of-result
invariant_of-result c =
    record {
      told = subst (λ rows. Tells c.args.command rows (options_of (drop 1 (map (λ w. w.now) c.args.words.now)))) (sym c.in_ok-matches.ensures.rows)
          (words_told c.args.command (map (λ w. w.now) c.args.words.now) c.requires.clean c.in_ok-matches.ensures.right);
    }
