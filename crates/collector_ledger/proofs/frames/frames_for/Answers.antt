use Rattle.std.proofs.Common.{drop, ap, ◌∙◌}
use Rattle.collector_ledger.proofs.Recorded.{found_all, found_more, found_none}
use Rattle.collector_ledger.proofs.Taken.{first_line, last_line}
use Rattle.collector_ledger.proofs.frames.frames_for.Goals as goal

pub loop-at-init : goal.loop-at-init
loop-at-init c = found_none c.args.file.now c.args.host.now _ c.new-frames.ensures

pub loop-at-preserved : goal.loop-at-preserved
loop-at-preserved c =
    let rest = c.loop-at.rest.now in
    let line = c.split_at.result.0.now in
    let behind = c.split_at-in-Some.result.1.now in
    let cut = first_line rest line behind c.in-Some.at c.in-Some.ensures c.split_at.ensures.front (c.split_at-in-Some.ensures.back ∙ ap (drop 1) c.split_at.ensures.back) in
    found_more c.args.file.now c.args.host.now rest line behind c.loop-at.frames _ c.loop-at.invariant cut c.in_ok-take_line.ensures

pub returns : goal.returns
returns c =
    found_all c.args.file.now c.args.host.now c.loop-at.rest.now c.loop-at.frames _ c.loop-at.invariant (last_line c.loop-at.rest.now c.in_default.ensures) c.in_ok-take_line-2.ensures
