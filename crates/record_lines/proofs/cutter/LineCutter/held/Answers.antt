use Rattle.std.proofs.Common.{ap, arith}
use Rattle.record_lines.specs.Held.{texts_size, held_by}
use Rattle.record_lines.proofs.Kept.{texts_size-append}
use Rattle.record_lines.proofs.cutter.LineCutter.held.Goals as goal

pub with_texts-size-requires : goal.with_texts-size-requires
with_texts-size-requires c =
    let parts = texts_size-append c.as_slices.result.0.now c.as_slices.result.1.now in
    let all = ap texts_size c.as_slices.ensures.items in
    let kept = c.self.invariant in
    let size = c.len.ensures in
    omega (arith, parts, all, kept.0, kept.1.lines, kept.1.came, size)

pub with_texts-requires : goal.with_texts-requires
with_texts-requires c =
    let parts = texts_size-append c.as_slices.result.0.now c.as_slices.result.1.now in
    let all = ap texts_size c.as_slices.ensures.items in
    let kept = c.self.invariant in
    let size = c.len.ensures in
    let first = c.with_texts-size.ensures in
    omega (arith, parts, all, kept.0, kept.1.lines, kept.1.came, size, first)

pub returns : goal.returns
returns c =
    let parts = texts_size-append c.as_slices.result.0.now c.as_slices.result.1.now in
    let all = ap texts_size c.as_slices.ensures.items in
    let size = c.len.ensures in
    let first = c.with_texts-size.ensures in
    let second = c.with_texts.ensures in
    let same = ap held_by c.self.view_is in
    omega (arith, parts, all, size, first, second, same)
