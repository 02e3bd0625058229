use Rattle.std.proofs.Common.{ap, ◌∙◌, ◌++◌, List}
use Rattle.sql_query.specs.Resolved.{source_of}
use Rattle.virtual_tables.specs.declared.constraint.Constraint.{Constraint}
use Rattle.sql_planner.specs.Explained.{where_text}
use Rattle.sql_planner.proofs.Pieces.{four}
use Rattle.sql_planner.proofs.explaining.push_line.Goals as goal

pub returns : goal.returns
returns c =
    four _ _ _ _ _ _ _ _ _ c.in_ok-extend.ensures.ok
    (c.in_ok-push_where.ensures ∙ ap (λ (constraints : List Constraint). c.push_on.new.text ++ where_text (source_of c.args.source.now) constraints) c.as_slice.ensures)
    c.in_ok-push_on.ensures c.in_ok-push_heading.ensures
