use Rattle.std.proofs.Common.{List, ℕ, ◌++◌, Some, None, ap, sym, ◌∙◌, codes}
use Rattle.std.specs.Fmt.{decimal}
use Rattle.std.proofs.lemmas.Bool.Decides.{Decides-eqb}
use Rattle.std.proofs.lemmas.List.{append_cancel_left}
use Rattle.std.proofs.lemmas.Slice.Eq.{strip_prefix_is}
use Rattle.result_batches.specs.Json.{quoted}
use Rattle.collector_answers.proofs.Told.{host_taken, number_taken, spread, told_same}
use Rattle.collector_answers.proofs.read.take_told.Goals as goal

pub returns-in_default : goal.returns-in_default
returns-in_default c = record {
  behind = tt;
  is = λ host rest number held small is.
      absurd (strip_prefix_is Decides-eqb c.args.line.now c.as_bytes.result.now None c.in_default.ensures.cases (quoted host ++ (codes ",\"number\":" ++ (decimal number ++ (codes ",\"recorded\":" ++ rest))))
      (is ∙ spread c.args.front.now (quoted host) (codes ",\"number\":") (decimal number) (codes ",\"recorded\":") rest
      ∙ ap (λ (f : List ℕ). f ++ (quoted host ++ (codes ",\"number\":" ++ (decimal number ++ (codes ",\"recorded\":" ++ rest))))) (sym c.as_bytes.ensures.value)));
}

pub returns-in_default-strip_prefix : goal.returns-in_default-strip_prefix
returns-in_default-strip_prefix c =
    let first = c.in-Some.rest in
    let whole = strip_prefix_is Decides-eqb c.args.line.now c.as_bytes.result.now (Some first) c.in-Some.ensures.cases ∙ ap (λ (f : List ℕ). f ++ first.now) c.as_bytes.ensures.value in
    record {
      behind = tt;
      is = λ host rest number held small is.
          let one = host_taken c.args.line.now c.args.front.now first.now c.in_ok-host.host c.in_ok-host.rest.now whole c.in_ok-host.ensures host rest number held is in
          absurd (strip_prefix_is Decides-eqb c.in_ok-host.rest.now (codes ",\"number\":") None c.in_default-strip_prefix.ensures.cases (decimal number ++ (codes ",\"recorded\":" ++ rest)) one.1);
    }

pub returns-in-Some-strip_prefix-2 : goal.returns-in-Some-strip_prefix-2
returns-in-Some-strip_prefix-2 c =
    let first = c.in-Some.rest in
    let whole = strip_prefix_is Decides-eqb c.args.line.now c.as_bytes.result.now (Some first) c.in-Some.ensures.cases ∙ ap (λ (f : List ℕ). f ++ first.now) c.as_bytes.ensures.value in
    let second = c.in-Some-strip_prefix.rest in
    let cut = strip_prefix_is Decides-eqb c.in_ok-host.rest.now (codes ",\"number\":") (Some second) c.in-Some-strip_prefix.ensures.cases in
    let third = c.in-Some-strip_prefix-2.rest in
    let cut2 = strip_prefix_is Decides-eqb c.in_ok-number.rest.now (codes ",\"recorded\":") (Some third) c.in-Some-strip_prefix-2.ensures.cases in
    record {
      behind = (first.now, whole);
      is = λ host rest number held small is.
          let one = host_taken c.args.line.now c.args.front.now first.now c.in_ok-host.host c.in_ok-host.rest.now whole c.in_ok-host.ensures host rest number held is in
          let two = number_taken c.args.line.now c.args.front.now first.now c.in_ok-host.host c.in_ok-host.rest.now whole c.in_ok-host.ensures host rest number held is second.now c.in_ok-number.rest.now c.in_ok-number.number cut c.in_ok-number.ensures small in
          told_same c.in_ok-host.host host c.in_ok-number.number number third.now rest one.0 two.0 (append_cancel_left (codes ",\"recorded\":") third.now rest (sym cut2 ∙ two.1));
    }

pub returns-in-None : goal.returns-in-None
returns-in-None c =
    let first = c.in-Some.rest in
    let whole = strip_prefix_is Decides-eqb c.args.line.now c.as_bytes.result.now (Some first) c.in-Some.ensures.cases ∙ ap (λ (f : List ℕ). f ++ first.now) c.as_bytes.ensures.value in
    let second = c.in-Some-strip_prefix.rest in
    let cut = strip_prefix_is Decides-eqb c.in_ok-host.rest.now (codes ",\"number\":") (Some second) c.in-Some-strip_prefix.ensures.cases in
    record {
      behind = tt;
      is = λ host rest number held small is.
          let two = number_taken c.args.line.now c.args.front.now first.now c.in_ok-host.host c.in_ok-host.rest.now whole c.in_ok-host.ensures host rest number held is second.now c.in_ok-number.rest.now c.in_ok-number.number cut c.in_ok-number.ensures small in
          absurd (strip_prefix_is Decides-eqb c.in_ok-number.rest.now (codes ",\"recorded\":") None c.in-None.ensures.cases rest two.1);
    }
