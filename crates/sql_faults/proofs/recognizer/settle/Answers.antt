use Rattle.std.proofs.Common.{refl, ◌∙◌}
use Rattle.sql_faults.specs.Stack.{expects}
use Rattle.sql_faults.specs.Reading.{entered}
use Rattle.sql_faults.proofs.Turn.{settles_must, settles_in, settles_past, settles_one, settles_none}
use Rattle.sql_faults.proofs.recognizer.settle.Goals as goal

pub returns-in-One : goal.returns-in-One
returns-in-One c = c.loop-part.invariant ∙ settles_one c.in-One.expected c.args.token c.args.is_all_of (expects c.loop-part.parts.items) (expects c.pop.new.parts.items) (rw c.in-One.is at c.in-Some.ensures.taken)

pub returns-in-Must : goal.returns-in-Must
returns-in-Must c =
    rw c.loop-part.invariant (settles_must c.in-Must.rule c.args.token c.args.is_all_of (expects c.loop-part.parts.items) (expects c.pop.new.parts.items) (expects c.open.new.parts.items) (expects c.first_token.new.parts.items) c.first_token.result
    (rw c.in-Must.is at c.in-Some.ensures.taken) c.in_ok-open-in-Must.ensures c.first_token.ensures)

pub returns-then-branch : goal.returns-then-branch
returns-then-branch c =
    rw c.loop-part.invariant (settles_in c.in-May.optional c.args.token c.args.is_all_of (expects c.loop-part.parts.items) (expects c.pop.new.parts.items) (expects c.enter.new.parts.items) (expects c.first_token-then-branch.new.parts.items) c.first_token-then-branch.result
    (entered c.in-May.optional c.args.token.kind) c.pop.new.parts.items c.enter.new.parts.items (rw c.in-May.is at c.in-Some.ensures.taken) refl refl refl (rw c.if-branch.true at c.in_ok-enter-in-May.ensures) c.first_token-then-branch.ensures)

pub loop-part-preserved : goal.loop-part-preserved
loop-part-preserved c =
    c.loop-part.invariant ∙ settles_past c.in-May.optional c.args.token c.args.is_all_of (expects c.loop-part.parts.items) (expects c.pop.new.parts.items) (entered c.in-May.optional c.args.token.kind) c.pop.new.parts.items c.enter.new.parts.items
    (rw c.in-May.is at c.in-Some.ensures.taken) refl refl (rw c.if-branch.false at c.in_ok-enter-in-May.ensures)

pub returns : goal.returns
returns c = c.loop-part.invariant ∙ settles_none c.args.token c.args.is_all_of (expects c.loop-part.parts.items) c.in_default.ensures.taken
