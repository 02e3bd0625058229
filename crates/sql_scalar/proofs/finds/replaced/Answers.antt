use Rattle.std.proofs.Common.{◌++◌, ◌<◌, ℕ, List, ap, subst, sym, ◌∙◌, rules, append_assoc}
use Rattle.std.specs.String.{string_bytes}
use Rattle.sql_scalar.specs.Finds.{replaced}
use Rattle.sql_scalar.proofs.Replacing.{replaced_once, replaced_never, whole_split}
use Rattle.sql_scalar.proofs.finds.replaced.Goals as goal

pub loop-front-preserved : goal.loop-front-preserved
loop-front-preserved c =
    let found = c.in-Some.ensures.cases in
    let text = found.2.1 in
    let rest = replaced c.args.wanted.now c.args.other.now 0 c.in-Some.behind.now in
    let split = whole_split c.args.wanted.now c.loop-front.rest.now c.in-Some.front.now c.in-Some.behind.now found.0 found.1 found.3 found.4 text.split in
    let once =
    replaced_once c.args.wanted.now c.args.other.now c.loop-front.rest.now c.in-Some.front.now c.in-Some.behind.now c.requires split
    (λ place before. found.2.0 place (subst (λ (n : ℕ). place < n) found.6 before)) in
    let front = c.in_ok-push_within.ensures.pushed in
    let both = c.in_ok-push_within-2.ensures.pushed in
    record {
      text = search rules;
      so_far =
          c.loop-front.invariant.so_far
          ∙ ap (λ (s : List ℕ). string_bytes c.loop-front.made ++ s) once
          ∙ sym (append_assoc (string_bytes c.loop-front.made) c.in-Some.front.now (c.args.other.now ++ rest))
          ∙ ap (λ (s : List ℕ). s ++ (c.args.other.now ++ rest)) (sym front)
          ∙ sym (append_assoc (string_bytes c.push_within.new.made) c.args.other.now rest)
          ∙ ap (λ (s : List ℕ). s ++ rest) (sym both);
    }

pub returns-clause-made : goal.returns-clause-made
returns-clause-made c =
    c.from_string.ensures
    ∙ c.in_ok-push_within-3.ensures.pushed
    ∙ sym (c.loop-front.invariant.so_far
    ∙ ap (λ (s : List ℕ). string_bytes c.loop-front.made ++ s)
    (replaced_never c.args.wanted.now c.args.other.now c.loop-front.rest.now c.requires c.in_default.ensures.cases))
