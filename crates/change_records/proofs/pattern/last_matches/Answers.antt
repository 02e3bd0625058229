use Rattle.std.proofs.Common.{sym, ◌∙◌, ap, bytes_eq}
use Rattle.std.proofs.lemmas.Bool.{false≢true}
use Rattle.change_records.proofs.PathMatches.{last_any, last_one, last_many}
use Rattle.change_records.proofs.pattern.last_matches.Goals as goal

pub returns-then-eq : goal.returns-then-eq
returns-then-eq c = last_any c.args.last.now c.args.path.now c.is_empty.result (ap (bytes_eq c.args.last.now) (sym c.as_slice.ensures) ∙ sym c.if-eq.ensures) c.is_empty.ensures

pub returns-then-is_none : goal.returns-then-is_none
returns-then-is_none c =
    let step = last_one c.args.last.now c.args.path.now c.memchr.result (ap (bytes_eq c.args.last.now) (sym c.as_slice.ensures) ∙ sym c.if-eq.ensures) c.memchr.ensures c.if-is_none.ensures in
    (λ is. step.0 (c.part_matches.ensures.0 is), λ m. c.part_matches.ensures.1 (step.1 m))

pub returns-else-is_none : goal.returns-else-is_none
returns-else-is_none c =
    (λ is. absurd (false≢true (sym c.if-is_none.false ∙ is)), λ m. absurd (last_many c.args.last.now c.args.path.now c.memchr.result (ap (bytes_eq c.args.last.now) (sym c.as_slice.ensures) ∙ sym c.if-eq.ensures) c.memchr.ensures c.if-is_none.ensures m))
