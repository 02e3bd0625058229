use Rattle.std.proofs.Common.{rules, ◌≡◌, ◌++◌, ℕ, List, length, take, sym, ap, ◌∙◌, arith, Ok}
use Rattle.record_lines.specs.Limits.{PIECE_BYTES}
use Rattle.collect_rounds.specs.Runs.{Written}
use Rattle.collect_rounds.proofs.Rounding.{goes-further, more-left, round-ended, round-full, round-stopped, stops-further, stops-unread}
use Rattle.collect_rounds.proofs.rounds.take_round.Goals as goal

pub returns-in_err-count-clause-round : goal.returns-in_err-count-clause-round
returns-in_err-count-clause-round g c = λ told tells recorded has_rest given before at.
    let now : Written = record { ledger = g.O.Sink.written c.loop-read.ledger; answers = g.O.Sink.written c.loop-read.answers } in
    let on = c.loop-read.invariant.goes told tells recorded has_rest given before at in
    round-stopped recorded has_rest given (g.S.Source.left c.args.source.now) (g.S.Source.left c.read.new.self) on.more before now c.loop-read.collector c.from_residual.result c.from_residual.ensures.0
    (on.left_is ∙ ap (λ (x : List ℕ). on.more ++ x) (sym (c.in_err-count.ensures.err told)))
    (stops-unread recorded has_rest given (g.S.Source.left c.args.source.now) (g.S.Source.left c.loop-read.source) before now c.loop-read.collector c.loop-read.read on)

pub returns-then-count-eq0-clause-round : goal.returns-then-count-eq0-clause-round
returns-then-count-eq0-clause-round g c = λ told tells recorded has_rest given before at.
    let now : Written = record { ledger = g.O.Sink.written c.loop-read.ledger; answers = g.O.Sink.written c.loop-read.answers } in
    let on = c.loop-read.invariant.goes told tells recorded has_rest given before at in
    let none = c.if-count-eq0.true in
    let room : length c.read.new.into ≡ PIECE_BYTES = search rules in
    round-ended recorded has_rest given (g.S.Source.left c.args.source.now) (g.S.Source.left c.loop-read.source) (g.S.Source.left c.read.new.self) before now c.loop-read.collector c.loop-read.read on
    (c.in_ok-count.ensures.end told (ap (λ (n : ℕ). Ok n) none) (omega (arith, room)))
    (c.in_ok-count.ensures.bytes told ∙ ap (λ (n : ℕ). take n c.read.new.into ++ g.S.Source.left c.read.new.self) none)
    c.loop-read.invariant.within

pub loop-read-preserved : goal.loop-read-preserved
loop-read-preserved g c =
    let now : Written = record { ledger = g.O.Sink.written c.loop-read.ledger; answers = g.O.Sink.written c.loop-read.answers } in
    let later : Written = record { ledger = g.O.Sink.written c.take_piece.new.ledger; answers = g.O.Sink.written c.take_piece.new.answers } in
    let rest = g.S.Source.left c.read.new.self in
    let i = c.loop-read.invariant in
    let risen = c.in_ok-count.ensures.cause.later in
    let both = c.in_ok-take_piece.ensures.later in
    record {
      goes = λ told tells recorded has_rest given before at.
          let on = i.goes told tells recorded has_rest given before at in
          let gave = c.in_ok-count.ensures.bytes told ∙ ap (λ (x : List ℕ). x ++ rest) (sym c.split_at.ensures.front) in
          goes-further recorded has_rest given (g.S.Source.left c.args.source.now) (g.S.Source.left c.loop-read.source) rest c.split_at.result.0.now before now later c.loop-read.collector c.take_piece.new.collector c.loop-read.read on gave
          c.in_ok-count.count c.split_at.ensures.front_len (c.in_ok-take_piece.ensures.next tells recorded has_rest (given ++ on.more) before on.at);
      within = (let below = c.loop-read-test.true in let count = c.in_ok-count.ensures.count in let room : length c.read.new.into ≡ PIECE_BYTES = search rules in omega arith);
      room = search rules;
      source = (let before = i.source in omega (arith, before, risen));
      ledger = (let before = i.ledger in omega (arith, before, both.0));
      answers = (let before = i.answers in omega (arith, before, both.1));
    }

pub returns-in_err-take_piece-clause-round : goal.returns-in_err-take_piece-clause-round
returns-in_err-take_piece-clause-round g c = λ told tells recorded has_rest given before at.
    let now : Written = record { ledger = g.O.Sink.written c.loop-read.ledger; answers = g.O.Sink.written c.loop-read.answers } in
    let later : Written = record { ledger = g.O.Sink.written c.take_piece.new.ledger; answers = g.O.Sink.written c.take_piece.new.answers } in
    let left = g.S.Source.left c.args.source.now in
    let mid = g.S.Source.left c.loop-read.source in
    let rest = g.S.Source.left c.read.new.self in
    let on = c.loop-read.invariant.goes told tells recorded has_rest given before at in
    let gave = c.in_ok-count.ensures.bytes told ∙ ap (λ (x : List ℕ). x ++ rest) (sym c.split_at.ensures.front) in
    round-stopped recorded has_rest given left rest (on.more ++ c.split_at.result.0.now) before later c.take_piece.new.collector c.from_residual-in_err-take_piece.result c.from_residual-in_err-take_piece.ensures.0
    (more-left recorded has_rest given left mid rest c.split_at.result.0.now before now later c.loop-read.collector c.take_piece.new.collector c.loop-read.read on gave)
    (stops-further recorded has_rest given left mid rest c.split_at.result.0.now before now later c.loop-read.collector c.take_piece.new.collector c.loop-read.read on gave
    (c.in_err-take_piece.ensures.next tells recorded has_rest (given ++ on.more) before on.at))

pub returns-clause-round : goal.returns-clause-round
returns-clause-round g c = λ told tells recorded has_rest given before at.
    let now : Written = record { ledger = g.O.Sink.written c.loop-read.ledger; answers = g.O.Sink.written c.loop-read.answers } in
    let on = c.loop-read.invariant.goes told tells recorded has_rest given before at in
    round-full recorded has_rest given (g.S.Source.left c.args.source.now) (g.S.Source.left c.loop-read.source) before now c.loop-read.collector c.loop-read.read on c.loop-read-test.false c.loop-read.invariant.within
