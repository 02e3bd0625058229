use Rattle.std.proofs.Common.{ℕ, ◌+◌, ◌++◌, [], length, sym, ap, ◌∙◌, subst}
use Rattle.record_lines.specs.Cutting.{Cutter}
use Rattle.record_lines.specs.Lines.{cut_of}
use Rattle.collector_core.specs.Ledgers.{digests_of}
use Rattle.collect_rounds.specs.Takes.{TakesPiece, standing_of}
use Rattle.collect_rounds.proofs.Standing.{taken-all, taken-more, taken-none}
use Rattle.collect_rounds.proofs.Taking.{emptied}
use Rattle.collect_rounds.proofs.collector.Collector.take_piece.Goals as goal

pub loop-cut-init : goal.loop-cut-init
loop-cut-init c = λ start begun limit stands.
    taken-none (record (standing_of c.args.self.now) { added = []; answers = [] }) (begun ++ c.args.piece.now) start _
    (emptied (digests_of c.args.self.now.ledger) c.args.self.now.has_rest c.new.result c.new-2.result c.new.ensures c.new-2.ensures)
    (c.in_ok-feed.ensures.limit ∙ limit) (c.in_ok-feed.ensures.ok start begun stands)

pub loop-cut-preserved : goal.loop-cut-preserved
loop-cut-preserved c = λ start begun limit stands.
    let taken = c.loop-cut.invariant start begun limit stands in
    let cut = c.in-Some.ensures.some taken.start taken.stream taken.stands in
    let end = taken.start + length cut.line + 1 in
    taken-more (record (standing_of c.args.self.now) { added = []; answers = [] }) (begun ++ c.args.piece.now) c.loop-cut.self c.take_cut.new.self c.take_line.new.self taken cut.line cut.behind cut.stream_is
    cut.plain cut.limit cut.stands (c.in_ok-take_cut.ensures.takes end cut.line (cut.cut_is ∙ ap (λ (n : ℕ). cut_of n end cut.line) taken.limit)) c.in_ok-take_cut.ensures.cutter

pub returns : goal.returns
returns c = λ start begun limit stands.
    let taken = c.loop-cut.invariant start begun limit stands in
    subst (λ (x : Cutter). TakesPiece c.args.self.now begun c.args.piece.now (record c.loop-cut.self { cutter = x })) (sym c.in_default.ensures.same)
    (taken-all c.args.self.now begun c.args.piece.now c.loop-cut.self taken (c.in_default.ensures.none taken.start taken.stream taken.stands))
