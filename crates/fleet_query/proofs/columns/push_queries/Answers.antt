use Rattle.std.proofs.Common.{◌≤◌, ◌∙◌, ◌++◌, ◌∷◌, [], List, append_assoc, length, map, take, ap, subst, sym, arith}
use Rattle.std.specs.Prelude.{All}
use Rattle.std.proofs.lemmas.List.Elements.{All-push}
use Rattle.sql_query.specs.declared.derived.Derived.{Derived}
use Rattle.fleet_query.specs.Tables.{query_table}
use Rattle.fleet_query.proofs.LastsShown.{behind, tables_more}
use Rattle.fleet_query.proofs.columns.push_queries.Goals as goal

pub loop-last-preserved : goal.loop-last-preserved
loop-last-preserved c =
    let i = c.loop-last.invariant in
    let lasts = c.args.lasts.now in
    let at = c.loop-last.last-index in
    let last = c.last-item.result in
    let old = c.args.derived.now in
    let narrow = λ (shown : Derived). length shown.columns ≤ 32767 in
    record {
      derived =
          c.in_ok-push.ensures.ok ∙ (λ k. i.derived k ++ c.in_ok-query_table.ensures.table k ∷ [])
          ∙ append_assoc old (map query_table (behind (take at lasts))) (query_table last.now ∷ [])
          ∙ ap (λ (tables : List Derived). old ++ tables) (sym (tables_more lasts at last (omega arith) c.last-item.is));
      narrow = subst (All narrow) (sym c.in_ok-push.ensures.ok) (All-push narrow c.loop-last.derived c.in_ok-query_table.field-0 i.narrow c.in_ok-query_table.ensures.narrow);
    }
