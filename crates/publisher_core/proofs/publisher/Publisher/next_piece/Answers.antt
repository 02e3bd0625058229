use Rattle.std.proofs.Common.{subst, ◌∙◌, arith}
use Rattle.publisher_core.specs.declared.record.Next.{Next}
use Rattle.publisher_core.specs.Stepping.{Goes, Grows}
use Rattle.publisher_core.proofs.Stepping.{same_piece}
use Rattle.publisher_core.proofs.publisher.Publisher.next_piece.Goals as goal

pub returns-in-Ok-Nothing-clause-found : goal.returns-in-Ok-Nothing-clause-found
returns-in-Ok-Nothing-clause-found g c = λ given start stream s.
    subst (λ (n : Next). Goes c.next_record.new.self given start stream n) c.in-Ok-Nothing.field-0-is
    (c.in-Ok-Nothing.ensures.goes given start stream (c.loop-piece.invariant.stands given start stream s))

pub loop-piece-preserved : goal.loop-piece-preserved
loop-piece-preserved g c = record {
  stands = λ given start stream s.
      subst (λ (n : Next). Goes c.next_record.new.self given start stream n) c.in-Ok-More.field-0-is
      (c.in-Ok-More.ensures.goes given start stream (c.loop-piece.invariant.stands given start stream s));
  still = λ given start stream s.
      subst (λ (n : Next). Grows c.loop-piece.self.taken c.next_record.new.self.taken n) c.in-Ok-More.field-0-is
      (c.in-Ok-More.ensures.grown given start stream (c.loop-piece.invariant.stands given start stream s)) ∙ c.loop-piece.invariant.still given start stream s;
  same = same_piece c.args.self.now c.loop-piece.self c.next_record.new.self c.loop-piece.invariant.same c.in-Ok-More.ensures.same;
}

pub returns-in-Ok-Nothing-clause-grown : goal.returns-in-Ok-Nothing-clause-grown
returns-in-Ok-Nothing-clause-grown g c = λ given start stream s.
    subst (λ (n : Next). Grows c.loop-piece.self.taken c.next_record.new.self.taken n) c.in-Ok-Nothing.field-0-is
    (c.in-Ok-Nothing.ensures.grown given start stream (c.loop-piece.invariant.stands given start stream s)) ∙ c.loop-piece.invariant.still given start stream s

pub returns-in-Ok-Whole-clause-grown : goal.returns-in-Ok-Whole-clause-grown
returns-in-Ok-Whole-clause-grown g c = λ given start stream s.
    let less = subst (λ (n : Next). Grows c.loop-piece.self.taken c.next_record.new.self.taken n) c.in-Ok-Whole.field-0-is (c.in-Ok-Whole.ensures.grown given start stream (c.loop-piece.invariant.stands given start stream s)) in
    let still = c.loop-piece.invariant.still given start stream s in
    omega (arith, less, still)
