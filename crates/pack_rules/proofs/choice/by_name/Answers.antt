use Rattle.std.proofs.Common.{rules, ◌∙◌}
use Rattle.std.proofs.lemmas.Fn.{always_returns_same, dedup_same}
use Rattle.pack_rules.proofs.ByNames.{by_name_is, is_before-order, same_name}
use Rattle.pack_rules.proofs.choice.by_name.Goals as goal

pub returns : goal.returns
returns c =
    by_name_is c.args.offers _ _ _ c.into_vec-queries.ensures
    (c.in_ok-sort_by.ensures.sorted _ is_before-order (always_returns_same _ _ _ (λ a r g h. search rules)))
    (c.sort_by.ensures.stable _ is_before-order (always_returns_same _ _ _ (λ a r g h. search rules)))
    (c.from_vec.ensures ∙ dedup_same _ same_name _ (λ x y b f' x' y' k. search rules) _ _ c.dedup_by.ensures.filtered)
