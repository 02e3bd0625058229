use Rattle.std.proofs.Common.{◌≡◌, ◌∷◌, ◌++◌, sym, subst, ap, ◌∙◌}
use Rattle.batch_frames.proofs.Escapes.{Front, front, read_all, read_more}
use Rattle.batch_frames.proofs.strings.inside.Goals as goal

pub loop-byte-init : goal.loop-byte-init
loop-byte-init c =
    let plain = c.plain_front.result.0.now in
    let rest = c.plain_front.result.1.now in
    record {
      stops = c.plain_front.ensures.stops;
      read = λ text tail is.
          subst (λ inside. Front inside rest text tail) (sym (c.in_ok-extend.ensures.ok ∙ ap (λ i. i ++ plain) c.new-inside.ensures))
          (front plain rest text tail c.plain_front.ensures.plain (sym c.plain_front.ensures.whole ∙ is));
    }

pub returns-then-byte-eq34 : goal.returns-then-byte-eq34
returns-then-byte-eq34 c = λ text behind is.
    let at : c.loop-byte.rest.now ≡ c.in-Some.byte.now ∷ c.in-Some.behind.now = c.in-Some.ensures.cases.0 in
    read_all _ _ text behind c.in-Some.behind.now c.in-Some.byte.now (c.loop-byte.invariant.read text behind is) at c.if-byte-eq34.true

pub loop-byte-preserved : goal.loop-byte-preserved
loop-byte-preserved c = record {
  stops = c.plain_front-in-Some.ensures.stops;
  read = λ text tail is.
      let at : c.loop-byte.rest.now ≡ c.in-Some.byte.now ∷ c.in-Some.behind.now = c.in-Some.ensures.cases.0 in
      read_more _ _ text tail c.in-Some.behind.now _ _ _ c.extend-in-Some.new.self c.in-Some.byte.now _ (c.loop-byte.invariant.read text tail is) at c.loop-byte.invariant.stops c.if-byte-eq34.false
      c.unescape-meant.ensures.value c.plain_front-in-Some.ensures.whole c.plain_front-in-Some.ensures.plain
      (c.in_ok-extend-2.ensures.ok ∙ ap (λ i. i ++ c.plain_front-in-Some.result.0.now) c.in_ok-push.ensures.ok);
}
