use Rattle.std.proofs.Common.{◌≡◌, ◌-◌, ◌∙◌, ℕ, Bool, List, ap, length, map, not, subst, sym, false, true, refl, arith}
use Rattle.std.specs.Prelude.{slice_get}
use Rattle.std.specs.Option.{option_map}
use Rattle.std.specs.Ordering.{is_lt}
use Rattle.std.proofs.lemmas.List.{length-map}
use Rattle.std.proofs.lemmas.Option.{slice_get-map}
use Rattle.sql_query.specs.Resolved.{order_of}
use Rattle.sql_meaning.specs.declared.worth.Worth.{Worth}
use Rattle.sql_meaning.specs.Keyed.{member_of}
use Rattle.sql_meaning.specs.Lent.{values_in}
use Rattle.sql_meaning.specs.Order.{order_by}
use Rattle.sql_meaning.specs.Worths.{worths}
use Rattle.sql_groups.specs.Leading.{directions, members_of, sort_keys, sorted_row, stands_before}
use Rattle.sql_groups.proofs.Leaders.{weak}
use Rattle.sql_groups.proofs.Placing.{passed-over}
use Rattle.sql_groups.proofs.leading.is_behind.Goals as goal

untrue : (b : Bool) → not b ≡ true → b ≡ false
untrue true h = sym h
untrue false h = refl

pub returns-in_ok-order-in-Some : goal.returns-in_ok-order-in-Some
returns-in_ok-order-in-Some c = λ h more up.
    let terms = map order_of c.args.terms.now in
    let ways = directions terms in
    let best = members_of c.args.best.now in
    let long = length-map c.args.best.now member_of in
    let last = sym (slice_get-map member_of c.args.best.now (length c.args.best.now - 1)) in
    let keys = sort_keys terms (values_in c.args.row) in
    let less = sym (c.is_lt.ensures ∙ ap is_lt c.in_ok-order-in-Some.ensures) ∙ untrue c.is_lt.result h in
    passed-over (stands_before ways) (weak ways c.args.count) best more (sorted_row terms c.args.row) (member_of c.in-Some.last.now) c.args.count up
    (ap (option_map member_of) c.in-Some.ensures.value ∙ last ∙ ap (λ (n : ℕ). slice_get best (n - 1)) (sym long))
    (omega (arith, long, c.if-best-count.false)) (subst (λ (others : List Worth). is_lt (order_by ways keys (worths others)) ≡ false) c.as_slice.ensures less)
