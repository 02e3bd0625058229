use Rattle.std.proofs.Common.{◌++◌, ◌≤◌, List, ℕ, length, take, ap, ◌∙◌, arith, refl}
use Rattle.collect_rounds.specs.Runs.{Written}
use Rattle.collect_rounds.proofs.Rounding.{next-stopped}
use Rattle.collect_rounds.proofs.Standing.{at-more}
use Rattle.collect_rounds.proofs.Stops.{all-taken, none-taken, stopped-before, stopped-within}
use Rattle.collect_rounds.proofs.rounds.take_piece.Goals as goal

pub returns-in_err-take_piece-clause-next : goal.returns-in_err-take_piece-clause-next
returns-in_err-take_piece-clause-next g c = λ told recorded has_rest given before at.
    let now : Written = record { ledger = g.O.Sink.written c.args.ledger.now; answers = g.O.Sink.written c.args.answers.now } in
    next-stopped recorded has_rest (given ++ c.args.piece.now) before now c.take_piece.new.self c.from_residual.result c.from_residual.ensures.0
    (stopped-before recorded has_rest given c.args.piece.now before now c.args.collector.now at)

pub returns-in_err-write_all-clause-next : goal.returns-in_err-write_all-clause-next
returns-in_err-write_all-clause-next g c = λ told recorded has_rest given before at.
    let now : Written = record { ledger = g.O.Sink.written c.args.ledger.now; answers = g.O.Sink.written c.args.answers.now } in
    let later : Written = record { ledger = g.O.Sink.written c.write_all.new.sink; answers = g.O.Sink.written c.args.answers.now } in
    let bytes = c.in_err-write_all.ensures.bytes told in
    let takes = c.in_ok-take_piece.ensures at.start _ at.limit at.stands in
    next-stopped recorded has_rest (given ++ c.args.piece.now) before later c.take_piece.new.self c.from_residual-in_err-write_all.result c.from_residual-in_err-write_all.ensures.0
    (stopped-within recorded has_rest given c.args.piece.now before now later c.args.collector.now c.take_piece.new.self at takes bytes.0 0
    (bytes.1 ∙ ap (λ (x : List ℕ). now.ledger ++ take bytes.0 x) c.as_slice.ensures)
    (none-taken now.answers now.answers c.take_piece.new.self.answers refl) (λ some. absurd (omega (arith, some))))

pub returns-in_err-write_all-2-clause-next : goal.returns-in_err-write_all-2-clause-next
returns-in_err-write_all-2-clause-next g c = λ told recorded has_rest given before at.
    let now : Written = record { ledger = g.O.Sink.written c.args.ledger.now; answers = g.O.Sink.written c.args.answers.now } in
    let later : Written = record { ledger = g.O.Sink.written c.write_all.new.sink; answers = g.O.Sink.written c.write_all-2.new.sink } in
    let added = c.take_piece.new.self.added in
    let whole = c.in_ok-write_all.ensures.bytes told ∙ ap (λ (x : List ℕ). now.ledger ++ x) c.as_slice.ensures in
    let bytes = c.in_err-write_all-2.ensures.bytes told in
    let takes = c.in_ok-take_piece.ensures at.start _ at.limit at.stands in
    next-stopped recorded has_rest (given ++ c.args.piece.now) before later c.take_piece.new.self c.from_residual-in_err-write_all-2.result c.from_residual-in_err-write_all-2.ensures.0
    (stopped-within recorded has_rest given c.args.piece.now before now later c.args.collector.now c.take_piece.new.self at takes (length added) bytes.0
    (all-taken now.ledger later.ledger added whole) (bytes.1 ∙ ap (λ (x : List ℕ). now.answers ++ take bytes.0 x) c.as_slice-2.ensures)
    (λ some. (let same : length added ≤ length added = omega arith in same)))

pub returns-clause-next : goal.returns-clause-next
returns-clause-next g c = λ told recorded has_rest given before at.
    let now : Written = record { ledger = g.O.Sink.written c.args.ledger.now; answers = g.O.Sink.written c.args.answers.now } in
    let later : Written = record { ledger = g.O.Sink.written c.write_all.new.sink; answers = g.O.Sink.written c.write_all-2.new.sink } in
    let takes = c.in_ok-take_piece.ensures at.start _ at.limit at.stands in
    at-more recorded has_rest given c.args.piece.now before now later c.args.collector.now c.take_piece.new.self at takes
    (c.in_ok-write_all.ensures.bytes told ∙ ap (λ (x : List ℕ). now.ledger ++ x) c.as_slice.ensures)
    (c.in_ok-write_all-2.ensures.bytes told ∙ ap (λ (x : List ℕ). now.answers ++ x) c.as_slice-2.ensures)
