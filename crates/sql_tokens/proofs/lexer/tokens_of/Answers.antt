use Rattle.std.proofs.Common.{◌+◌, ◌-◌, ◌<◌, refl, sym, ap, arith, length, subst, List, take, drop, slice_index_or}
use Rattle.sql_tokens.specs.declared.token.Token.{Token}
use Rattle.sql_tokens.specs.Lexing.{tokens_of}
use Rattle.sql_tokens.proofs.Lexed.{IsLexed, lexed_start, lexed_more, from_shorter, piece_shorter, split_first}
use Rattle.sql_tokens.proofs.lexer.tokens_of.Goals as goal

pub loop-from-init : goal.loop-from-init
loop-from-init c = subst (λ (x : List Token). IsLexed (tokens_of c.args.text.now) x (length c.args.text.now) 0 c.args.text.now) (sym c.new-tokens.ensures.items) (lexed_start c.args.text.now)

pub overflow_sub-start : goal.overflow_sub-start
overflow_sub-start c = from_shorter c.loop-from.rest.now c.past_blanks-from.result.now c.past_blanks-from.ensures

pub overflow_sub-end : goal.overflow_sub-end
overflow_sub-end c =
    let from = c.past_blanks-from.result.now in
    let f = split_first from 0 (omega arith) in
    let b = piece_shorter (slice_index_or from 0 0) (take (length from - 1) (drop 1 from)) in
    let k = ap length f in
    let m = ap length c.piece-piece.ensures.rest in
    omega arith

pub loop-from-smaller : goal.loop-from-smaller
loop-from-smaller c =
    let from = c.past_blanks-from.result.now in
    let f = split_first from 0 (omega arith) in
    let b = piece_shorter (slice_index_or from 0 0) (take (length from - 1) (drop 1 from)) in
    let k = ap length f in
    let m = ap length c.piece-piece.ensures.rest in
    let g = from_shorter c.loop-from.rest.now from c.past_blanks-from.ensures in
    let h : length c.piece-piece.result.rest.now < length c.loop-from.rest.now = omega arith in
    h

pub loop-from-preserved : goal.loop-from-preserved
loop-from-preserved c =
    let rest = c.loop-from.rest.now in
    let from = c.past_blanks-from.result.now in
    let more = c.piece-piece.result.rest.now in
    let start = c.loop-from.place + (length rest - length from) in
    lexed_more (tokens_of c.args.text.now) c.loop-from.tokens.items c.push-in-loop-from.new.self.items (length c.args.text.now) c.loop-from.place start (start + (length from - length more)) rest from (slice_index_or from 0 0) (take (length from - 1) (drop 1 from)) c.piece-piece.result.kind more c.token-in-loop-from.result
    c.loop-from.invariant c.past_blanks-from.ensures (split_first from 0 (omega arith)) c.piece-piece.ensures.kind c.piece-piece.ensures.rest refl refl c.token-in-loop-from.ensures c.in_ok-push-2.ensures.items
