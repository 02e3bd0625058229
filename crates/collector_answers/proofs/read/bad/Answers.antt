use Rattle.std.proofs.Common.{◌≡◌, List, ℕ, ◌++◌, Option, Some, None, ap, sym, subst, ◌∙◌, codes}
use Rattle.std.specs.Str.{IsUtf8}
use Rattle.std.proofs.lemmas.Bool.Decides.{Decides-eqb}
use Rattle.std.proofs.lemmas.Slice.Eq.{strip_prefix_is, strip_suffix_is}
use Rattle.collector_answers.specs.declared.answer.BadAnswer.{BadAnswer}
use Rattle.collector_answers.specs.Fields.{IsBehind, TakesBad}
use Rattle.collector_answers.specs.Lines.{bad_line, kind_name}
use Rattle.collector_answers.proofs.Fronts.{bad_is, kind_behind, kind_between, name_utf8}
use Rattle.collector_answers.proofs.read.bad.Goals as goal

-- no kind is told
untold : (line : List ℕ) (result : Option BadAnswer) → ((kind : BadAnswer) → line ≡ bad_line kind → ⊥) → result ≡ None → TakesBad line result
untold line result never is = subst (TakesBad line) (sym is) (record { behind = tt; is = λ kind at. absurd (never kind at) })

begun : (line rest : List ℕ) (result : Option BadAnswer) → line ≡ codes "{\"answer\":\"bad\",\"kind\":\"" ++ rest → IsBehind line (codes "{\"answer\":\"bad\",\"kind\":\"") result
begun line rest None whole = tt
begun line rest (Some kind) whole = (rest, whole)

pub returns-in_err-strip_prefix : goal.returns-in_err-strip_prefix
returns-in_err-strip_prefix c =
    untold c.args.line.now c.from_residual.result
    (λ kind at.
    strip_prefix_is Decides-eqb c.args.line.now c.as_bytes.result.now None c.in_err-strip_prefix.ensures.cases (kind_name kind ++ codes "\"}")
    (at ∙ bad_is kind ∙ ap (λ (f : List ℕ). f ++ (kind_name kind ++ codes "\"}")) (sym c.as_bytes.ensures.value)))
    c.from_residual.ensures

pub returns-in_err-name : goal.returns-in_err-name
returns-in_err-name c =
    let rest = c.in_ok-strip_prefix.field-0 in
    let whole = strip_prefix_is Decides-eqb c.args.line.now c.as_bytes.result.now (Some rest) c.in_ok-strip_prefix.ensures.cases ∙ ap (λ (f : List ℕ). f ++ rest.now) c.as_bytes.ensures.value in
    untold c.args.line.now c.from_residual-in_err-name.result
    (λ kind at. strip_suffix_is Decides-eqb rest.now (codes "\"}") None c.in_err-name.ensures.cases (kind_name kind) (kind_behind c.args.line.now rest.now kind whole at))
    c.from_residual-in_err-name.ensures

pub returns-in-Ok : goal.returns-in-Ok
returns-in-Ok c =
    let rest = c.in_ok-strip_prefix.field-0 in
    let whole = strip_prefix_is Decides-eqb c.args.line.now c.as_bytes.result.now (Some rest) c.in_ok-strip_prefix.ensures.cases ∙ ap (λ (f : List ℕ). f ++ rest.now) c.as_bytes.ensures.value in
    let end = strip_suffix_is Decides-eqb rest.now (codes "\"}") (Some c.in_ok-name.name) c.in_ok-name.ensures.cases in
    record {
      behind = begun c.args.line.now rest.now c.kind_named.result whole;
      is = λ kind at. c.kind_named.ensures kind (c.in-Ok.ensures.cases.0 ∙ kind_between c.args.line.now rest.now c.in_ok-name.name.now kind whole end at);
    }

pub returns-in-Err : goal.returns-in-Err
returns-in-Err c =
    let rest = c.in_ok-strip_prefix.field-0 in
    let whole = strip_prefix_is Decides-eqb c.args.line.now c.as_bytes.result.now (Some rest) c.in_ok-strip_prefix.ensures.cases ∙ ap (λ (f : List ℕ). f ++ rest.now) c.as_bytes.ensures.value in
    let end = strip_suffix_is Decides-eqb rest.now (codes "\"}") (Some c.in_ok-name.name) c.in_ok-name.ensures.cases in
    record {
      behind = tt;
      is = λ kind at. absurd (c.in-Err.ensures.cases.0 (subst IsUtf8 (sym (kind_between c.args.line.now rest.now c.in_ok-name.name.now kind whole end at)) (name_utf8 kind)));
    }
