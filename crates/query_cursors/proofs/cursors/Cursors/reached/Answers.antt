use Rattle.std.proofs.Common.{◌≡◌, ◌+◌, ◌∷◌, [], ◌++◌, ℕ, Some, get_or, map, take, sym, ap, ◌∙◌}
use Rattle.std.proofs.lemmas.List.{map-append, take_more}
use Rattle.entry_model.specs.Views.{least_of, lesser}
use Rattle.query_cursors.specs.Places.{cursor_at}
use Rattle.query_cursors.proofs.Least.{least_more}
use Rattle.query_cursors.proofs.cursors.Cursors.reached.Goals as goal

pub loop-at-preserved : goal.loop-at-preserved
loop-at-preserved c =
    let cursor = cursor_at c.args.self.now in
    let readers = c.args.readers.now in
    let at = c.loop-at.at-index in
    let so_far : map cursor (take (at + 1) readers) ≡ map cursor (take at readers) ++ cursor (get_or readers at 0) ∷ [] =
    ap (map cursor) (take_more readers at 0 c.loop-at-test.true) ∙ map-append cursor (take at readers) (get_or readers at 0 ∷ []) in
    ap (λ (n : ℕ). Some n) (c.lesser.ensures ∙ (λ i. lesser (c.cursor_at.ensures i) (c.loop-at.invariant i)))
    ∙ sym (least_more (map cursor (take at readers)) (cursor (get_or readers at 0)))
    ∙ sym (ap least_of so_far)
