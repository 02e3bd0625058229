use Rattle.std.proofs.Common.{◌≡◌, length}
use Rattle.sql_nested.specs.Outlook.{looks}
use Rattle.sql_nested.specs.Breaches.{first_from, first_breach}
use Rattle.sql_nested.proofs.breaches.first_breach.Given as goal

abbrev pub invariant-loop-rest : goal.invariant-loop-rest
invariant-loop-rest l = record {
  looked : l.looks ≡ looks l.text l.rest;
  known : first_breach l.text l.tokens ≡ first_from l.text l.standing l.rest;
}

abbrev pub decreases-loop-rest : goal.decreases-loop-rest
decreases-loop-rest l = length l.rest
