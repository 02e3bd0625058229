use Rattle.sql_tokens.specs.declared.token.Kind.TheVariants as kind
use Rattle.sql_tokens.specs.declared.token.Clause.TheVariants as clause
use Rattle.std.proofs.Common.{[], ◌∷◌, map}
use Rattle.sql_faults.specs.declared.part.Part.TheVariants.{Must, May}
use Rattle.sql_faults.specs.declared.part.Rule.TheVariants as rule
use Rattle.sql_faults.specs.declared.part.Optional.TheVariants as optional
use Rattle.sql_tokens.specs.declared.level.Level.TheVariants as level
use Rattle.sql_tree.specs.View.{tree_of}
use Rattle.sql_parser.specs.declared.stop.Stop.TheVariants.{Refused}
use Rattle.sql_parser.proofs.SelectArms.{took_yes, took_no, no_keys, stopped_keys, finds_keys, fails_by_list}
use Rattle.sql_parser.proofs.clauses.keys.Goals as goal

pub returns-then-not-take : goal.returns-then-not-take
returns-then-not-take c =
    let t = took_no (kind.Clause clause.Group) c.args.reader.now c.take.new.reader c.take.result c.take.ensures c.if-not-take.true in
    rw c.new.ensures (no_keys c.args.reader.now c.take.new.reader t.0 t.1)

pub returns-then-not-take-2 : goal.returns-then-not-take-2
returns-then-not-take-2 c =
    let t = took_yes (kind.Clause clause.Group) c.args.reader.now c.take.new.reader c.take.result c.take.ensures c.if-not-take.false in
    let u = took_no (kind.Clause clause.By) c.take.new.reader c.take-2.new.reader c.take-2.result c.take-2.ensures c.if-not-take-2.true in
    stopped_keys c.args.reader.now c.take.new.reader Refused t.0 t.1 (fails_by_list (Must (rule.Chain level.Or 0) ∷ May (optional.Item 0) ∷ []) c.take.new.reader u.0)

pub returns : goal.returns
returns c =
    let t = took_yes (kind.Clause clause.Group) c.args.reader.now c.take.new.reader c.take.result c.take.ensures c.if-not-take.false in
    let u = took_yes (kind.Clause clause.By) c.take.new.reader c.take-2.new.reader c.take-2.result c.take-2.ensures c.if-not-take-2.false in
    finds_keys (map tree_of) c.args.reader.now c.take.new.reader c.take-2.new.reader c.expression_list.new.reader c.expression_list.result t.0 t.1 u.0 u.1 c.expression_list.ensures
