use Rattle.sql_tree.specs.View.{tree_of}
use Rattle.std.proofs.Common.{option_map, map, [], ◌∷◌}
use Rattle.sql_tree.specs.Select.{item_of, ref_of, having_of, term_of}
use Rattle.sql_parser.proofs.SelectArms.{a_select}
use Rattle.std.proofs.lemmas.Result.{err_from_is_err_and}
use Rattle.sql_faults.specs.declared.part.Part.TheVariants.{One, Must, May}
use Rattle.sql_faults.specs.declared.part.Expected.TheVariants as expected
use Rattle.sql_faults.specs.declared.part.Rule.TheVariants as rule
use Rattle.sql_faults.specs.declared.part.Optional.TheVariants as optional
use Rattle.sql_parser.proofs.Arms.{stopped_with, stops_behind}
use Rattle.sql_parser.proofs.SelectStopped.{after_opening, after_items, after_sources, after_filter, after_keys, after_having, after_terms, leads_opening, leads_items, leads_sources, leads_filter, leads_keys, leads_having, leads_terms}
use Rattle.sql_parser.proofs.clauses.select.Goals as goal

pub returns-in_err-is_distinct : goal.returns-in_err-is_distinct
returns-in_err-is_distinct c =
    let p = err_from_is_err_and c.from_residual.result c.from_residual.ensures.1 in
    rw (p.1, p.2) (stopped_with (One expected.Select ∷ May optional.Distinct ∷ []) after_opening c.args.reader.now c.in_err-is_distinct.field-0.0 c.in_err-is_distinct.ensures)

pub returns-in_err-items : goal.returns-in_err-items
returns-in_err-items c =
    let p = err_from_is_err_and c.from_residual-in_err-items.result c.from_residual-in_err-items.ensures.1 in
    rw (p.1, p.2) (stops_behind (Must rule.SelectItem ∷ May optional.SelectItems ∷ []) after_items c.in_err-items.field-0.0 (leads_opening c.in_ok-is_distinct.ensures) c.in_err-items.ensures)

pub returns-in_err-sources : goal.returns-in_err-sources
returns-in_err-sources c =
    let p = err_from_is_err_and c.from_residual-in_err-sources.result c.from_residual-in_err-sources.ensures.1 in
    rw (p.1, p.2) (stops_behind (May optional.From ∷ []) after_sources c.in_err-sources.field-0.0 (leads_items (leads_opening c.in_ok-is_distinct.ensures) c.in_ok-items.ensures) c.in_err-sources.ensures)

pub returns-in_err-filter : goal.returns-in_err-filter
returns-in_err-filter c =
    let p = err_from_is_err_and c.from_residual-in_err-filter.result c.from_residual-in_err-filter.ensures.1 in
    rw (p.1, p.2) (stops_behind (May optional.Where ∷ []) after_filter c.in_err-filter.field-0.0 (leads_sources (leads_items (leads_opening c.in_ok-is_distinct.ensures) c.in_ok-items.ensures) c.in_ok-sources.ensures) c.in_err-filter.ensures)

pub returns-in_err-keys : goal.returns-in_err-keys
returns-in_err-keys c =
    let p = err_from_is_err_and c.from_residual-in_err-keys.result c.from_residual-in_err-keys.ensures.1 in
    rw (p.1, p.2) (stops_behind (May optional.Group ∷ []) after_keys c.in_err-keys.field-0.0 (leads_filter (leads_sources (leads_items (leads_opening c.in_ok-is_distinct.ensures) c.in_ok-items.ensures) c.in_ok-sources.ensures) c.in_ok-filter.ensures) c.in_err-keys.ensures)

pub returns-in_err-having : goal.returns-in_err-having
returns-in_err-having c =
    let p = err_from_is_err_and c.from_residual-in_err-having.result c.from_residual-in_err-having.ensures.1 in
    rw (p.1, p.2) (stops_behind (May optional.Having ∷ []) after_having c.in_err-having.field-0.0 (leads_keys (leads_filter (leads_sources (leads_items (leads_opening c.in_ok-is_distinct.ensures) c.in_ok-items.ensures) c.in_ok-sources.ensures) c.in_ok-filter.ensures) c.in_ok-keys.ensures) c.in_err-having.ensures)

pub returns-in_err-terms : goal.returns-in_err-terms
returns-in_err-terms c =
    let p = err_from_is_err_and c.from_residual-in_err-terms.result c.from_residual-in_err-terms.ensures.1 in
    rw (p.1, p.2) (stops_behind (May optional.Order ∷ []) after_terms c.in_err-terms.field-0.0 (leads_having (leads_keys (leads_filter (leads_sources (leads_items (leads_opening c.in_ok-is_distinct.ensures) c.in_ok-items.ensures) c.in_ok-sources.ensures) c.in_ok-filter.ensures) c.in_ok-keys.ensures) c.in_ok-having.ensures) c.in_err-terms.ensures)

pub returns-in_err-limit : goal.returns-in_err-limit
returns-in_err-limit c =
    let p = err_from_is_err_and c.from_residual-in_err-limit.result c.from_residual-in_err-limit.ensures.1 in
    rw (p.1, p.2) (stops_behind (May optional.Limit ∷ []) [] c.in_err-limit.field-0.0 (leads_terms (leads_having (leads_keys (leads_filter (leads_sources (leads_items (leads_opening c.in_ok-is_distinct.ensures) c.in_ok-items.ensures) c.in_ok-sources.ensures) c.in_ok-filter.ensures) c.in_ok-keys.ensures) c.in_ok-having.ensures) c.in_ok-terms.ensures) c.in_err-limit.ensures)

pub returns : goal.returns
returns c =
    a_select c.args.reader.now c.opening.new.reader c.items.new.reader c.sources.new.reader c.filter.new.reader c.keys.new.reader c.having.new.reader c.terms.new.reader c.limits.new.reader c.in_ok-is_distinct.is_distinct (map item_of c.in_ok-items.items) (map ref_of c.in_ok-sources.sources) (option_map tree_of c.in_ok-filter.filter) (map tree_of c.in_ok-keys.keys) (option_map having_of c.in_ok-having.having) (map term_of c.in_ok-terms.terms) (c.in_ok-limit.limit, c.in_ok-limit.skip) c.in_ok-is_distinct.ensures c.in_ok-items.ensures c.in_ok-sources.ensures c.in_ok-filter.ensures c.in_ok-keys.ensures c.in_ok-having.ensures c.in_ok-terms.ensures c.in_ok-limit.ensures
