use Rattle.std.proofs.Common.{drop, ap, ◌∙◌}
use Rattle.collector_core.specs.Ledgers.{digests_of}
use Rattle.collector_ledger.proofs.Taken.{first_line, last_line, taken_all, taken_more, taken_none}
use Rattle.collector_ledger.proofs.file.ledger_of.Goals as goal

pub loop-at-init : goal.loop-at-init
loop-at-init c = taken_none c.args.file.now (digests_of c.empty-ledger.result) c.empty-ledger.ensures

pub loop-at-preserved : goal.loop-at-preserved
loop-at-preserved c =
    let rest = c.loop-at.rest.now in
    let line = c.split_at.result.0.now in
    let behind = c.split_at-in-Some.result.1.now in
    let cut = first_line rest line behind c.in-Some.at c.in-Some.ensures c.split_at.ensures.front (c.split_at-in-Some.ensures.back ∙ ap (drop 1) c.split_at.ensures.back) in
    taken_more c.args.file.now rest line behind (digests_of c.loop-at.ledger) _ c.loop-at.invariant cut c.in_ok-take_line.ensures

pub returns : goal.returns
returns c =
    taken_all c.args.file.now c.loop-at.rest.now (digests_of c.loop-at.ledger) _ c.loop-at.invariant (last_line c.loop-at.rest.now c.in_default.ensures) c.in_ok-take_line-2.ensures
