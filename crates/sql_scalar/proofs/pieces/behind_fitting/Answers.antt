use Rattle.std.proofs.Common.{◌∷◌, [], sym, ◌∙◌, rules}
use Rattle.std.specs.Str.{chars}
use Rattle.sql_scalar.proofs.PieceFits.{first_fit, no_fit, no_fit_at_all, behind_end, end_trans}
use Rattle.sql_scalar.proofs.pieces.behind_fitting.Goals as goal

pub returns-in-Some : goal.returns-in-Some
returns-in-Some c =
    let piece = chars c.args.piece.now in
    let from = chars c.loop-behind.from.now in
    let behind = chars c.in-Some.behind.now in (
      (λ others. c.loop-behind.invariant.kept others ∙ first_fit piece others from behind c.requires.plain (sym c.in-Some.ensures)),
      end_trans (chars c.args.text.now) from behind c.loop-behind.invariant.end (behind_end piece from behind (sym c.in-Some.ensures)),
    )

pub returns-in_default-split_first_char : goal.returns-in_default-split_first_char
returns-in_default-split_first_char c =
    λ others. c.loop-behind.invariant.kept others
    ∙ no_fit_at_all (chars c.args.piece.now) others (chars c.loop-behind.from.now) c.requires.plain (sym c.in_default.ensures)
    c.in_default-split_first_char.ensures

pub loop-behind-preserved : goal.loop-behind-preserved
loop-behind-preserved c =
    let from = chars c.loop-behind.from.now in
    let split = c.in-Some-split_first_char in
    let skip = c.skip_to_fit-from-in-loop-behind in
    record {
      from_text = search rules;
      kept = λ others. c.loop-behind.invariant.kept others
          ∙ no_fit (chars c.args.piece.now) others from (chars split.later.now) split.field-0-0 c.requires.plain (sym c.in_default.ensures) split.ensures.0
          ∙ skip.ensures.same others;
      end = end_trans (chars c.args.text.now) from (chars skip.result.now) c.loop-behind.invariant.end
          (end_trans from (chars split.later.now) (chars skip.result.now) (split.field-0-0 ∷ [], split.ensures.0) skip.ensures.end);
    }
