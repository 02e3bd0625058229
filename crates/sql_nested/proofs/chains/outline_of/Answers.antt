use Rattle.std.proofs.Common.{arith, sym, ◌-◌, take, drop, length}
use Rattle.std.proofs.lemmas.List.{nil_from_length}
use Rattle.sql_tokens.proofs.Lexed.{split_first}
use Rattle.sql_nested.specs.Chains.{begun, traced_from}
use Rattle.sql_nested.proofs.Traces.{traced_more, traced_ends}
use Rattle.sql_nested.proofs.chains.outline_of.Goals as goal

pub loop-rest-preserved : goal.loop-rest-preserved
loop-rest-preserved c =
    let text = c.args.text.now in
    let rest = c.loop-rest.rest.now in
    traced_more text c.loop-rest.trace c.pass.new.self (traced_from text begun c.args.tokens.now) rest (take (length rest - 1) (drop 1 rest)) _ c.in_ok-pass.ensures (split_first rest _ (omega arith)) c.loop-rest.invariant

pub returns : goal.returns
returns c =
    let rest = c.loop-rest.rest.now in
    sym (traced_ends c.args.text.now c.args.tokens.now rest c.loop-rest.trace c.in_ok-ended.field-0 (nil_from_length rest (omega arith)) c.loop-rest.invariant c.in_ok-ended.ensures)
