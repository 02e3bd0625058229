use Rattle.std.proofs.Common.{◌≡◌, ◌+◌, ◌++◌, ◌∷◌, [], List, drop, map, length, ap, sym, ◌∙◌, subst, arith}
use Rattle.std.proofs.lemmas.List.{drop_more, length-append}
use Rattle.sql_tree.specs.declared.select.TableRef.{TableRef}
use Rattle.sql_tree.specs.Select.{ref_of}
use Rattle.sql_scope.specs.Scope.{scope_from, AreNarrow}
use Rattle.sql_scope.proofs.Widths.{scope_next, narrow_push}
use Rattle.sql_scope.proofs.tables.scope_of.Goals as goal

pub loop-table-preserved : goal.loop-table-preserved
loop-table-preserved c =
    let before = c.loop-table.scope in
    let at = c.loop-table.table-index in
    let item = c.table-item.result in
    let tables = c.args.tables.now in
    let pushed : c.push.new.self ≡ before ++ c.in_ok-seen.seen ∷ [] = c.in_ok-push.ensures.ok in
    let dropped : drop at tables ≡ item ∷ drop (at + 1) tables = drop_more tables at item c.loop-table-test.true ∙ ap (λ (t : TableRef). t ∷ drop (at + 1) tables) (sym c.table-item.is) in
    let longer = ap length pushed ∙ length-append before (c.in_ok-seen.seen ∷ []) in
    let many = c.loop-table.invariant.many in
    let counted = c.loop-table.invariant.counted in
    record {
      many = omega arith;
      counted = omega arith;
      narrow = subst AreNarrow (sym pushed) (narrow_push before c.in_ok-seen.seen c.loop-table.invariant.narrow c.in_ok-at.ensures.narrow);
      here =
          scope_next c.args.derived.now c.args.text.now before c.push.new.self c.loop-table.source c.loop-table.at c.in_ok-at.at c.in_ok-seen.seen (ref_of item) (map ref_of (drop (at + 1) tables)) c.in_ok-seen.ensures c.in_ok-at.ensures.place pushed
          ∙ sym (ap (λ (ts : List TableRef). before ++ scope_from c.args.derived.now c.args.text.now c.loop-table.source c.loop-table.at (map ref_of ts)) dropped)
          ∙ c.loop-table.invariant.here;
    }
