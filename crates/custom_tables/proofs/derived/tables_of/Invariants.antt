use Rattle.std.proofs.Common.{◌≡◌, map, take}
use Rattle.custom_tables.specs.Derived.{table_of_rule}
use Rattle.custom_tables.specs.Hidden.{with_hidden}
use Rattle.custom_tables.specs.declared.rule.Rule.{Rule}
use Rattle.custom_tables.proofs.derived.tables_of.Given as goal

abbrev pub invariant-loop-rule : goal.invariant-loop-rule
invariant-loop-rule l = l.tables ≡ map (λ (rule : Rule). with_hidden l.asked (table_of_rule rule)) (take l.rule-index l.rules)
