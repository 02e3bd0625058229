use Rattle.std.proofs.Common.{ℕ, ◌<◌, ◌≡◌, Some, refl, sym, ap, ◌∙◌, arith}
use Rattle.osq_value.proofs.NamedTables.{id_of-found, id_of-none}
use Rattle.osq_value.specs.Catalogue.{heading_at}
use Rattle.osq_value.specs.Described.{heading, id}
use Rattle.osq_value.proofs.catalogue.table_of.Goals as goal

pub returns-then-eq_ignore_ascii_case-clause-id : goal.returns-then-eq_ignore_ascii_case-clause-id
returns-then-eq_ignore_ascii_case-clause-id c =
    let found = c.in-Some.found in
    let place = c.loop-place.place in
    let number : id found ≡ place = ap (λ t. t.0) c.in-Some.ensures.id in
    let at : heading_at place ≡ Some (heading found) = sym c.in-Some.ensures.heading in
    ap (λ (n : ℕ). Some n) number ∙ sym (id_of-found _ place (heading found) at (c.if-eq_ignore_ascii_case.ensures.test.0 refl) c.loop-place.invariant)

pub returns-clause-id : goal.returns-clause-id
returns-clause-id c = sym (id_of-none _ (λ k h. c.loop-place.invariant k (let e : k < c.loop-place.place = omega arith in e)))
