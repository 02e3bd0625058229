use Rattle.std.proofs.Common.{◌∷◌, [], ◌&&◌, ap, sym, subst, ◌∙◌, rules}
use Rattle.std.specs.Str.{chars}
use Rattle.sql_scalar.specs.Likeness.{is_like, somewhere}
use Rattle.sql_scalar.specs.Pieces.{Lacks}
use Rattle.sql_scalar.proofs.PieceFits.{at_last, none_at_last, lacks_front}
use Rattle.sql_scalar.proofs.Retries.{anything}
use Rattle.sql_scalar.proofs.pieces.fits_end.Goals as goal

pub returns-in_default-split_last_char : goal.returns-in_default-split_last_char
returns-in_default-split_last_char c =
    sym (c.loop-others.invariant.kept
    ∙ none_at_last (chars c.loop-others.signs.now) (chars c.in-Some.others.now) (chars c.loop-others.rest.now) c.in-Some.sign c.in-Some.ensures.0
    c.in_default-split_last_char.ensures c.loop-others.invariant.plain)

pub returns-then-not-fits_one : goal.returns-then-not-fits_one
returns-then-not-fits_one c =
    let last = c.in-Some-split_last_char in
    sym (c.loop-others.invariant.kept
    ∙ at_last (chars c.loop-others.signs.now) (chars c.in-Some.others.now) (chars c.loop-others.rest.now) (chars last.front.now) c.in-Some.sign last.last
    c.in-Some.ensures.0 last.ensures.0 c.loop-others.invariant.plain
    ∙ ap (λ b. b && somewhere (is_like (chars c.in-Some.others.now)) (chars last.front.now)) (sym c.if-not-fits_one.ensures))

pub loop-others-preserved : goal.loop-others-preserved
loop-others-preserved c =
    let last = c.in-Some-split_last_char in
    record {
      signs_text = search rules;
      rest_text = search rules;
      kept =
          c.loop-others.invariant.kept
          ∙ at_last (chars c.loop-others.signs.now) (chars c.in-Some.others.now) (chars c.loop-others.rest.now) (chars last.front.now) c.in-Some.sign
          last.last
          c.in-Some.ensures.0 last.ensures.0 c.loop-others.invariant.plain
          ∙ ap (λ b. b && somewhere (is_like (chars c.in-Some.others.now)) (chars last.front.now)) (sym c.if-not-fits_one.ensures);
      plain = lacks_front 37 (chars c.in-Some.others.now) (c.in-Some.sign ∷ []) (subst (Lacks 37) c.in-Some.ensures.0 c.loop-others.invariant.plain);
    }

pub returns : goal.returns
returns c = sym (c.loop-others.invariant.kept ∙ anything (chars c.loop-others.signs.now) (chars c.loop-others.rest.now) c.in_default.ensures)
