use Rattle.std.proofs.Common.{rules, ◌≡◌, ◌+◌, ◌∷◌, [], ◌++◌, length, List, sym, subst, ap, ◌∙◌, arith, length-append}
use Rattle.shared_store.proofs.Seats.{Splits, splits_one}
use Rattle.shared_store.proofs.store.Store.split_into.Goals as goal

pub loop-preserved : goal.loop-preserved
loop-preserved c =
    let s = c.in_ok-split.ensures in
    let before = c.loop.invariant in
    let items = c.push_reserved.ensures.items in
    let more = splits_one c.args.self.now c.args.seat.now c.loop.seat c.split.new.seat c.in_ok-split.split c.loop.seats.items before.0 s.seat s.counts s.out s.new s.same s.fresh in
    let long : length (c.loop.seats.items ++ c.in_ok-split.split ∷ []) ≡ length c.loop.seats.items + 1 = length-append c.loop.seats.items (c.in_ok-split.split ∷ []) in (
      subst (Splits c.args.self.now c.args.seat.now c.split.new.seat) (sym items) more,
      ap (λ (l : List _). length l) items ∙ omega (arith, long, before.1),
      search rules,
    )
