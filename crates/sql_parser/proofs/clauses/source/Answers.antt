use Rattle.sql_tree.specs.View.{tree_of}
use Rattle.std.proofs.Common.{option_map, [], ◌∷◌}
use Rattle.sql_parser.proofs.SelectArms.{a_source}
use Rattle.std.proofs.lemmas.Result.{err_from_is_err_and}
use Rattle.sql_faults.specs.declared.part.Part.TheVariants.{One, May}
use Rattle.sql_faults.specs.declared.part.Expected.TheVariants as expected
use Rattle.sql_faults.specs.declared.part.Optional.TheVariants as optional
use Rattle.sql_parser.specs.SelectDescent.{condition_parts}
use Rattle.sql_parser.proofs.Laws.{leads_on, leads_with}
use Rattle.sql_parser.proofs.Arms.{stopped_with, stops_behind, stopped_later}
use Rattle.sql_parser.proofs.clauses.source.Goals as goal

pub returns-in_err-table : goal.returns-in_err-table
returns-in_err-table c =
    let p = err_from_is_err_and c.from_residual.result c.from_residual.ensures.1 in
    rw (p.1, p.2) (stopped_with (One expected.Name ∷ []) (May optional.Alias ∷ condition_parts c.args.form) c.args.reader.now c.in_err-table.field-0.0 c.in_err-table.ensures)

pub returns-in_err-alias : goal.returns-in_err-alias
returns-in_err-alias c =
    let later = condition_parts c.args.form in
    let p = err_from_is_err_and c.from_residual-in_err-alias.result c.from_residual-in_err-alias.ensures.1 in
    rw (p.1, p.2) (stops_behind (May optional.Alias ∷ []) later c.in_err-alias.field-0.0 (leads_with (May optional.Alias ∷ later) c.in_ok-table.ensures.leads) c.in_err-alias.ensures)

pub returns-in_err-on : goal.returns-in_err-on
returns-in_err-on c =
    let later = condition_parts c.args.form in
    let p = err_from_is_err_and c.from_residual-in_err-on.result c.from_residual-in_err-on.ensures.1 in
    rw (p.1, p.2) (stopped_later c.in_err-on.field-0.0 (leads_on (leads_with (May optional.Alias ∷ later) c.in_ok-table.ensures.leads) (leads_with later c.in_ok-alias.ensures.leads)) c.in_err-on.ensures)

pub returns : goal.returns
returns c =
    a_source c.args.form c.args.reader.now c.name.new.reader c.alias.new.reader c.condition_of.new.reader c.in_ok-table.table c.in_ok-alias.alias (option_map tree_of c.in_ok-on.on) c.in_ok-on.using c.is_outer.result c.in_ok-table.ensures c.in_ok-alias.ensures c.in_ok-on.ensures c.is_outer.ensures
