use Rattle.std.proofs.Common.{◌≡◌, ◌≤◌, Bool, MatchBool, length, get_or, arith, refl, subst}
use Rattle.entry_model.specs.declared.entry.Entry.TheVariants.{Acked}
use Rattle.session_state.specs.StateOf.{Adds}
use Rattle.forward_rounds.proofs.Marking.{all_acknowledged, due_stays, next_acknowledged, owed_stays, tail_tellable}
use Rattle.forward_rounds.proofs.acknowledging.acknowledge_each.Goals as goal

pub loop-mark-preserved : goal.loop-mark-preserved
loop-mark-preserved c =
    let s = c.loop-mark.state in
    let t = c.acknowledge.new.self in
    let upto = get_or c.args.marks.now c.loop-mark.mark-index 0 in
    let added : Adds s (Acked upto) t = subst (λ (done : Bool). MatchBool done (Adds s (Acked upto) t) (t ≡ s)) c.if-not-branch.false c.in_ok-acknowledge.ensures.added in
    next_acknowledged c.args.state.now c.args.marks.now c.loop-mark.mark-index upto s t c.loop-mark-test.true refl c.loop-mark.invariant added c.acknowledge.ensures.claims

pub returns-clause-due : goal.returns-clause-due
returns-clause-due c =
    let spent = c.loop-mark-test.false in
    let past : length c.args.marks.now ≤ c.loop-mark.mark-index = omega (arith, spent) in
    due_stays c.args.state.now c.loop-mark.state c.args.marks.now (all_acknowledged c.args.state.now c.args.marks.now c.loop-mark.mark-index c.loop-mark.state past c.loop-mark.invariant)

pub returns-clause-owed : goal.returns-clause-owed
returns-clause-owed c = λ table evented.
    let spent = c.loop-mark-test.false in
    let past : length c.args.marks.now ≤ c.loop-mark.mark-index = omega (arith, spent) in
    let i = c.loop-mark.invariant in
    owed_stays c.args.state.now c.loop-mark.state c.args.marks.now (all_acknowledged c.args.state.now c.args.marks.now c.loop-mark.mark-index c.loop-mark.state past i) i.image table

pub returns-clause-tellable : goal.returns-clause-tellable
returns-clause-tellable c =
    let spent = c.loop-mark-test.false in
    let past : length c.args.marks.now ≤ c.loop-mark.mark-index = omega (arith, spent) in
    tail_tellable c.args.state.now c.loop-mark.state c.args.marks.now c.requires.sealed (all_acknowledged c.args.state.now c.args.marks.now c.loop-mark.mark-index c.loop-mark.state past c.loop-mark.invariant)
