use Rattle.std.proofs.Common.{arith, sym, ◌∙◌, ◌-◌, take, drop, length, slice_index_or}
use Rattle.std.proofs.lemmas.List.{nil_from_length}
use Rattle.sql_tokens.specs.Tokens.{end_token}
use Rattle.sql_tokens.proofs.Lexed.{split_first}
use Rattle.sql_nested.specs.Breaches.{first_breach}
use Rattle.sql_nested.proofs.Breaks.{looks_split, breach_begins, breach_found, breach_later, breach_ends}
use Rattle.sql_nested.proofs.breaches.first_breach.Goals as goal

pub loop-rest-init : goal.loop-rest-init
loop-rest-init c = record { looked = c.in_ok-looks.ensures; known = breach_begins c.args.text.now c.args.tokens.now c.start-standing.result c.start-standing.ensures }

pub returns-in-Some : goal.returns-in-Some
returns-in-Some c =
    let text = c.args.text.now in
    let rest = c.loop-rest.rest.now in
    let tail = take (length rest - 1) (drop 1 rest) in
    let taken = c.take_look-look.ensures _ _ (looks_split text rest tail (slice_index_or rest 0 end_token) c.loop-rest.looks (split_first rest end_token (omega arith)) c.loop-rest.invariant.looked) in
    sym (breach_found text c.loop-rest.standing rest tail _ c.take_look-look.result c.in-Some.kind (first_breach text c.args.tokens.now)
    (sym c.in-Some.is ∙ c.breach_at.ensures) (split_first rest _ (omega arith)) c.loop-rest.invariant.known taken.0)

pub loop-rest-preserved : goal.loop-rest-preserved
loop-rest-preserved c =
    let text = c.args.text.now in
    let rest = c.loop-rest.rest.now in
    let tail = take (length rest - 1) (drop 1 rest) in
    let taken = c.take_look-look.ensures _ _ (looks_split text rest tail (slice_index_or rest 0 end_token) c.loop-rest.looks (split_first rest end_token (omega arith)) c.loop-rest.invariant.looked) in
    record {
      looked = taken.1;
      known = breach_later text c.loop-rest.standing c.pass.new.self rest tail _ c.take_look-look.result (first_breach text c.args.tokens.now)
          (sym c.in_default-breach_at.is ∙ c.breach_at.ensures) (split_first rest _ (omega arith)) c.loop-rest.invariant.known taken.0 c.in_ok-pass.ensures;
    }

pub returns : goal.returns
returns c =
    let rest = c.loop-rest.rest.now in
    sym (breach_ends c.args.text.now c.loop-rest.standing rest (first_breach c.args.text.now c.args.tokens.now) (nil_from_length rest (omega arith)) c.loop-rest.invariant.known)
