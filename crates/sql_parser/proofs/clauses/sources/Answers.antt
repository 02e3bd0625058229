use Rattle.sql_tokens.specs.declared.token.Kind.TheVariants as kind
use Rattle.sql_tokens.specs.declared.token.Clause.TheVariants as clause
use Rattle.std.proofs.Common.{map}
use Rattle.sql_tree.specs.Select.{ref_of}
use Rattle.sql_parser.proofs.SelectArms.{took_yes, took_no, no_sources, finds_sources}
use Rattle.sql_parser.proofs.clauses.sources.Goals as goal

pub returns-then-take : goal.returns-then-take
returns-then-take c =
    let t = took_yes (kind.Clause clause.From) c.args.reader.now c.take.new.reader c.take.result c.take.ensures c.if-take.true in
    finds_sources (map ref_of) c.args.reader.now c.take.new.reader c.source_list.new.reader c.source_list.result t.0 t.1 c.source_list.ensures

pub returns-else-take : goal.returns-else-take
returns-else-take c =
    let t = took_no (kind.Clause clause.From) c.args.reader.now c.take.new.reader c.take.result c.take.ensures c.if-take.false in
    rw c.new.ensures (no_sources c.args.reader.now c.take.new.reader t.0 t.1)
