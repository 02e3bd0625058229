use Rattle.std.proofs.Common.{◌∙◌, sym, length}
use Rattle.sql_tokens.proofs.Blanks.{more_turns, no_turn, one_shorter}
use Rattle.sql_tokens.proofs.lexer.past_blanks.Goals as goal

pub loop-next-preserved : goal.loop-next-preserved
loop-next-preserved c =
    let i = c.loop-next.invariant in
    more_turns (length c.args.text.now) i.0 c.args.text.now c.loop-next.rest.now c.in-Some.next.now i.1 i.2 (sym c.in-Some.ensures)

pub loop-next-smaller : goal.loop-next-smaller
loop-next-smaller c = one_shorter c.loop-next.rest.now c.in-Some.next.now (sym c.in-Some.ensures)

pub returns : goal.returns
returns c =
    let i = c.loop-next.invariant in
    sym (i.2 ∙ no_turn i.0 c.loop-next.rest.now (sym c.in_default.ensures))
