use Rattle.std.proofs.Common.{◌≡◌, ◌-◌, ◌++◌, map}
use Rattle.custom_tables.specs.Derived.{catalogue_from}
use Rattle.custom_tables.specs.Hidden.{with_hidden}
use Rattle.custom_tables.proofs.derived.push_catalogue.Given as goal

abbrev pub invariant-loop-place : goal.invariant-loop-place
invariant-loop-place l = l.tables ++ map (with_hidden l.asked) (catalogue_from (15 - l.place) l.place) ≡ l.initial.tables ++ map (with_hidden l.asked) (catalogue_from 15 0)
