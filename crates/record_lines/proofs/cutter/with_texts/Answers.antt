use Rattle.std.proofs.Common.{◌≡◌, ◌+◌, [], ◌∷◌, ◌++◌, take, ap, ◌∙◌, sym, arith}
use Rattle.std.proofs.lemmas.List.{take_more}
use Rattle.record_lines.specs.declared.line.Cut.{Cut}
use Rattle.record_lines.proofs.Kept.{texts_begin, texts_next}
use Rattle.record_lines.proofs.cutter.with_texts.Goals as goal

pub overflow_add-size : goal.overflow_add-size
overflow_add-size c =
    let l = c.loop-cut in
    let x = c.cut-item.result in
    let taken : take (l.cut-index + 1) c.args.cuts.now ≡ take l.cut-index c.args.cuts.now ++ x ∷ [] = take_more c.args.cuts.now l.cut-index x c.loop-cut-test.true ∙ ap (λ (e : Cut). take l.cut-index c.args.cuts.now ++ e ∷ []) (sym c.cut-item.is) in
    let next = texts_next c.args.cuts.now l.cut-index x taken in
    let most = texts_begin c.args.cuts.now (l.cut-index + 1) in
    let so_far = l.invariant in
    let size = c.text_len-size.ensures in
    let bound = c.requires in
    omega (arith, next, most, so_far, size, bound)

pub loop-cut-preserved : goal.loop-cut-preserved
loop-cut-preserved c =
    let l = c.loop-cut in
    let x = c.cut-item.result in
    let taken : take (l.cut-index + 1) c.args.cuts.now ≡ take l.cut-index c.args.cuts.now ++ x ∷ [] = take_more c.args.cuts.now l.cut-index x c.loop-cut-test.true ∙ ap (λ (e : Cut). take l.cut-index c.args.cuts.now ++ e ∷ []) (sym c.cut-item.is) in
    let next = texts_next c.args.cuts.now l.cut-index x taken in
    let so_far = l.invariant in
    let size = c.text_len-size.ensures in
    omega (arith, next, so_far, size)
