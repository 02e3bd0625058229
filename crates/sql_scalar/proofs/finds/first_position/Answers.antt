use Rattle.std.proofs.Common.{◌≡◌, ◌≢◌, ◌<◌, ◌^◌, false, [], ℕ, List, pos, refl, ap, sym, subst, ◌∙◌, eqb-true, eq-eqb, length, arith, rules}
use Rattle.std.specs.Str.{chars}
use Rattle.std.proofs.lemmas.Int.{ints}
use Rattle.sql_scalar.specs.Finds.{begins, first_position}
use Rattle.sql_scalar.proofs.Beginnings.{begins_text, begins_no_text, first_is, first_is_later, first_is_nowhere, some_char}
use Rattle.sql_scalar.proofs.CharSteps.{no_char}
use Rattle.sql_scalar.proofs.finds.first_position.Goals as goal

pub returns-then-is_empty : goal.returns-then-is_empty
returns-then-is_empty c =
    let none = no_char c.args.wanted.now (eqb-true (length c.args.wanted.now) 0 (sym c.if-is_empty.ensures)) in
    ap pos (sym (ap (λ (wanted : List ℕ). first_position wanted 1 (chars c.args.text.now)) none
    ∙ first_is [] 1 (chars c.args.text.now) refl))

pub returns-then-starts_with : goal.returns-then-starts_with
returns-then-starts_with c =
    let h = c.if-starts_with.ensures.cases in
    let found =
    first_is (chars c.args.wanted.now) c.loop-tail.position (chars c.loop-tail.rest.now)
    (begins_text c.args.wanted.now c.loop-tail.rest.now _ c.utf8.wanted h.1.1) in
    let place : first_position (chars c.args.wanted.now) 1 (chars c.args.text.now)
    ≡ c.loop-tail.position = c.loop-tail.invariant.so_far ∙ found in
    let small : length c.args.text.now < 2 ^ 63 = omega arith in
    let near = c.loop-tail.invariant.small in
    let step = c.in-Some.ensures.1 in
    omega (arith, ints, place, small, near, step)

pub loop-tail-preserved : goal.loop-tail-preserved
loop-tail-preserved c = record {
  text = search rules;
  so_far =
      c.loop-tail.invariant.so_far
      ∙ ap (first_position (chars c.args.wanted.now) c.loop-tail.position) c.in-Some.ensures.0
      ∙ first_is_later (chars c.args.wanted.now) c.loop-tail.position c.in-Some.field-0-0 (chars c.in-Some.tail.now)
      (subst (λ (s : List ℕ). begins (chars c.args.wanted.now) s ≡ false) c.in-Some.ensures.0
      (begins_no_text c.args.wanted.now c.loop-tail.rest.now c.utf8.wanted c.loop-tail.invariant.text c.if-starts_with.ensures.cases));
  small = omega (arith, c.in-Some.ensures.1);
}

pub returns : goal.returns
returns c =
    let some : length c.args.wanted.now ≢ 0 = λ none. absurd (let no : ⊥ = cc (
      sym c.if-is_empty.ensures,
      eq-eqb
          (length c.args.wanted.now) 0 none,
    ) in no) in
    ap pos
    (sym (c.loop-tail.invariant.so_far
    ∙ ap (first_position (chars c.args.wanted.now) c.loop-tail.position) c.in_default.ensures
    ∙ first_is_nowhere (chars c.args.wanted.now) c.loop-tail.position (some_char c.args.wanted.now c.utf8.wanted some)))
