use Rattle.std.proofs.Common.{◌≡◌, ◌∙◌, ap, sym, take, List, Bool, ℕ}
use Rattle.std.specs.Cmp.Lexicographic.{pointwise}
use Rattle.std.proofs.lemmas.List.{take-map}
use Rattle.indexmap.specs.IndexSet.{insert_key}
use Rattle.osq_value.specs.contracts.value.ValuePartialEq.TheImpl as equality
use Rattle.sql_meaning.specs.declared.front.Front.{Front}
use Rattle.sql_meaning.specs.declared.worth.Worth.{Worth}
use Rattle.sql_meaning.specs.Firsts.{same_values}
use Rattle.sql_meaning.specs.Fronts.{fronted}
use Rattle.sql_meaning.specs.Worths.{worth_of, worths}
use Rattle.sql_meaning.proofs.Equality.{worths-are}
use Rattle.sql_meaning.proofs.HashedLaws.{insert_key-made}
use Rattle.sql_meaning.proofs.firsts.first_fronts.Goals as goal

abbrev equal : Front Worth → Front Worth → Bool
equal left right = pointwise (λ (l r : Worth). equality.eq-value.it (worth_of l) (worth_of r)) (take left.width left.items) (take right.width right.items)

is : (width : ℕ) (x y : List Worth) → equal (fronted width x) (fronted width y) ≡ same_values (take width (worths x)) (take width (worths y))
is width x y = worths-are (take width x) (take width y) ∙ (λ i. same_values (sym (take-map worth_of width x) i) (sym (take-map worth_of width y) i))

pub loop-items-preserved : goal.loop-items-preserved
loop-items-preserved c =
    let width = c.args.width in
    c.in_ok-insert.ensures.keys
    ∙ ap (λ (keys : List (Front Worth)). insert_key equal keys (fronted width c.in-Some.items)) c.loop-items.invariant
    ∙ insert_key-made equal (λ (row : List Worth). take width (worths row)) (fronted width) (is width) c.loop-items.yielded c.in-Some.items
