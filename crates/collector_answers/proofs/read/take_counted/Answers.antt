use Rattle.std.proofs.Common.{◌++◌, Some, None, sym, ◌∙◌, codes}
use Rattle.std.specs.Fmt.{decimal}
use Rattle.std.proofs.lemmas.Bool.Decides.{Decides-eqb}
use Rattle.std.proofs.lemmas.List.{append_cancel_right}
use Rattle.std.proofs.lemmas.Slice.Eq.{strip_suffix_is}
use Rattle.collector_answers.specs.Fields.{TakesTold}
use Rattle.collector_answers.proofs.Told.{counted_is, counted_same, none_some, same_some, told_and, told_parts}
use Rattle.collector_answers.proofs.read.take_counted.Goals as goal

pub returns-in_default : goal.returns-in_default
returns-in_default c =
    let none : TakesTold c.args.line.now c.args.front.now None = rw c.in_default.is at c.in_ok-told.ensures in
    record {
      behind = tt;
      is = λ host number recorded held at. none_some _ (none.is host (decimal recorded ++ codes "}") number held.text held.numbered (at ∙ counted_is c.args.front.now host number recorded));
    }

pub returns-in_default-strip_suffix : goal.returns-in_default-strip_suffix
returns-in_default-strip_suffix c =
    let some : TakesTold c.args.line.now c.args.front.now (told_and c.in-Some.told.host c.in-Some.told.number c.in-Some.rest.now) = rw c.in-Some.is at c.in_ok-told.ensures in
    record {
      behind = tt;
      is = λ host number recorded held at.
          let parts =
          told_parts c.in-Some.told.host host c.in-Some.told.number number c.in-Some.rest.now (decimal recorded ++ codes "}")
          (some.is host (decimal recorded ++ codes "}") number held.text held.numbered (at ∙ counted_is c.args.front.now host number recorded)) in
          absurd (strip_suffix_is Decides-eqb c.in-Some.rest.now (codes "}") None c.in_default-strip_suffix.ensures.cases (decimal recorded) parts.rest_is);
    }

pub returns-in-Some-number_of : goal.returns-in-Some-number_of
returns-in-Some-number_of c =
    let some : TakesTold c.args.line.now c.args.front.now (told_and c.in-Some.told.host c.in-Some.told.number c.in-Some.rest.now) = rw c.in-Some.is at c.in_ok-told.ensures in
    let end = strip_suffix_is Decides-eqb c.in-Some.rest.now (codes "}") (Some c.in-Some-strip_suffix.digits) c.in-Some-strip_suffix.ensures.cases in
    record {
      behind = some.behind;
      is = λ host number recorded held at.
          let parts =
          told_parts c.in-Some.told.host host c.in-Some.told.number number c.in-Some.rest.now (decimal recorded ++ codes "}")
          (some.is host (decimal recorded ++ codes "}") number held.text held.numbered (at ∙ counted_is c.args.front.now host number recorded)) in
          let digits = append_cancel_right c.in-Some-strip_suffix.digits.now (decimal recorded) (codes "}") (sym end ∙ parts.rest_is) in
          counted_same c.in-Some.told.host host c.in-Some.told.number number c.in-Some-number_of.recorded recorded parts.host_is parts.number_is
          (same_some c.in-Some-number_of.recorded recorded (c.in-Some-number_of.ensures recorded held.counted digits));
    }

pub returns-in-None : goal.returns-in-None
returns-in-None c =
    let some : TakesTold c.args.line.now c.args.front.now (told_and c.in-Some.told.host c.in-Some.told.number c.in-Some.rest.now) = rw c.in-Some.is at c.in_ok-told.ensures in
    let end = strip_suffix_is Decides-eqb c.in-Some.rest.now (codes "}") (Some c.in-Some-strip_suffix.digits) c.in-Some-strip_suffix.ensures.cases in
    record {
      behind = tt;
      is = λ host number recorded held at.
          let parts =
          told_parts c.in-Some.told.host host c.in-Some.told.number number c.in-Some.rest.now (decimal recorded ++ codes "}")
          (some.is host (decimal recorded ++ codes "}") number held.text held.numbered (at ∙ counted_is c.args.front.now host number recorded)) in
          none_some _ (c.in-None.ensures recorded held.counted (append_cancel_right c.in-Some-strip_suffix.digits.now (decimal recorded) (codes "}") (sym end ∙ parts.rest_is)));
    }
