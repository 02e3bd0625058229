use Rattle.std.proofs.Common.{◌≡◌, ◌∙◌, IfSome, List, Option, [], ◌∷◌, ap, map, subst}
use Rattle.osq_value.specs.declared.value.Value.{Value}
use Rattle.sql_query.specs.Resolved.{query_of}
use Rattle.sql_meaning.specs.declared.worth.Worth.{Worth}
use Rattle.sql_meaning.specs.Finished.{finished}
use Rattle.sql_meaning.specs.Steps.{asked_by, filtered}
use Rattle.sql_meaning.specs.Worths.{worths}
use Rattle.sql_groups.specs.declared.items.GroupItem.{GroupItem}
use Rattle.sql_groups.specs.Folding.{item_over}
use Rattle.sql_groups.specs.Grouping.{IsFolded}
use Rattle.sql_groups.proofs.Gathered.{all-mean}
use Rattle.sql_groups.proofs.totals.Totals.rows.Goals as goal

pub returns : goal.returns
returns c = λ condition rows was.
    let query = asked_by condition (query_of c.args.query.now) in
    let made = subst (λ (o : Option (List (List Worth))). IfSome o (λ rows. (items : List GroupItem) (lists : List (List (List Value))) → IsFolded items lists (c.args.self.group ∷ []) → map worths rows ≡ map (λ rows. map (λ item. item_over item rows) items) lists)) c.in-Some.is c.in_ok-result_rows.ensures in
    c.in_ok-finished-in-Some.ensures ∙ ap (finished query) (made was.0 (filtered query rows ∷ []) (was.3, tt)) ∙ all-mean query was.0 was.1 was.2 rows
