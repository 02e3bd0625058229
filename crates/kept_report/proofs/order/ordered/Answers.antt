use Rattle.std.proofs.Common.{rules}
use Rattle.std.proofs.lemmas.Fn.{always_returns_same}
use Rattle.kept_report.proofs.Orders.{is_before-order}
use Rattle.kept_report.proofs.order.ordered.Goals as goal

pub returns : goal.returns
returns c =
    let sorted = c.in_ok-sort_by.ensures.sorted _ is_before-order (always_returns_same _ _ _ (λ a r g h. search rules)) in
    search rules
