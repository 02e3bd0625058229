use Rattle.std.proofs.Common.{◌∙◌, ap, arith, take, drop, length, ◌-◌}
use Rattle.std.proofs.lemmas.List.{nil_from_length}
use Rattle.sql_faults.specs.Stack.{expects}
use Rattle.sql_tokens.specs.Tokens.{is_all_of}
use Rattle.sql_faults.specs.Reading.{first_fault}
use Rattle.sql_tokens.proofs.Lexed.{split_first}
use Rattle.sql_faults.proofs.Turn.{turn_stops, turn_goes, turn_ends}
use Rattle.sql_faults.proofs.recognizer.least_fault.Goals as goal

pub returns-in-Stopped : goal.returns-in-Stopped
returns-in-Stopped c =
    let rest = c.loop-rest.rest.now in
    let h = rw c.in-Stopped.is at c.in_ok-least.ensures in
    turn_stops (first_fault (expects c.args.parts.items) c.args.tokens.now) c.loop-rest.least (expects c.loop-rest.parts.items) (expects c.take.new.parts.items) _ c.is_at_all_of-is_all_of.result (take (length rest - 1) (drop 1 rest)) rest c.in-Stopped.least c.loop-rest.invariant
    (split_first rest _ (omega arith)) (c.is_at_all_of-is_all_of.ensures ∙ ap is_all_of c.new.ensures) h

pub loop-rest-preserved : goal.loop-rest-preserved
loop-rest-preserved c =
    let rest = c.loop-rest.rest.now in
    let h = rw c.in-Taken.is at c.in_ok-least.ensures in
    turn_goes (first_fault (expects c.args.parts.items) c.args.tokens.now) c.loop-rest.least (expects c.loop-rest.parts.items) (expects c.take.new.parts.items) _ c.is_at_all_of-is_all_of.result (take (length rest - 1) (drop 1 rest)) rest c.in-Taken.found c.loop-rest.invariant
    (split_first rest _ (omega arith)) (c.is_at_all_of-is_all_of.ensures ∙ ap is_all_of c.new.ensures) h

pub returns : goal.returns
returns c =
    let rest = c.loop-rest.rest.now in
    c.turn_fault.ensures ∙ turn_ends (first_fault (expects c.args.parts.items) c.args.tokens.now) c.loop-rest.least (expects c.loop-rest.parts.items) (expects c.take-2.new.parts.items) rest _ c.loop-rest.invariant (nil_from_length rest (omega arith)) c.in_ok-take.ensures
