use Rattle.std.proofs.Common.{◌≡◌, Option, None, [], ap, false, true, subst, sym, ◌∙◌, ◌∷◌, is_some}
use Rattle.std.proofs.lemmas.Option.{IfSome_then}
use Rattle.osq_value.specs.declared.value.Value.{Value}
use Rattle.sql_tree.specs.declared.functions.Fold.{Fold}
use Rattle.sql_tree.specs.declared.functions.Fold.TheVariants.{Count, Sum}
use Rattle.sql_meaning.specs.Expressions.{value_at}
use Rattle.sql_groups.specs.declared.items.GroupItem.TheVariants as item
use Rattle.sql_groups.specs.declared.so_far.SoFar.TheVariants as so_far
use Rattle.sql_groups.specs.Folding.{HasFolded, count_with, greatest, least, number_in, sum_with}
use Rattle.sql_meaning.specs.Known.{known_of}
use Rattle.sql_groups.proofs.Standing.{is-copied, known-more, no-known, no-sum, one-best, sum-grows}
use Rattle.sql_groups.proofs.so_far.begun_fold.Goals as goal

pub returns-in-Count : goal.returns-in-Count
returns-in-Count c =
    let place = c.args.place in
    IfSome_then c.counted.result c.counted.ensures
    (λ begun is row told.
    let known : is_some (known_of (value_at row place)) ≡ c.is_some.result = sym (c.is_some.ensures ∙ is-copied c.args.known ∙ ap is_some told) in
    subst (λ (fold : Fold). HasFolded (row ∷ []) (item.Folded fold place) begun) (sym c.in-Count.is)
    (subst (HasFolded (row ∷ []) (item.Folded Count place)) (ap (λ b. so_far.Known place (count_with 0 b)) known ∙ sym is)
    (known-more (item.Folded Count place) [] row place 0 (no-known place))))

pub returns-in-Sum : goal.returns-in-Sum
returns-in-Sum c =
    let place = c.args.place in
    IfSome_then c.summed.result c.summed.ensures
    (λ begun is row told.
    subst (λ (fold : Fold). HasFolded (row ∷ []) (item.Folded fold place) begun) (sym c.in-Sum.is)
    (subst (HasFolded (row ∷ []) (item.Folded Sum place)) (ap (λ (o : Option Value). so_far.Sum place (sum_with None (number_in o))) (sym told) ∙ sym is)
    (sum-grows (item.Folded Sum place) [] row place None (no-sum place))))

pub returns-in-Min : goal.returns-in-Min
returns-in-Min c = λ row told.
    subst (λ (fold : Fold). HasFolded (row ∷ []) (item.Folded fold c.args.place) (so_far.Nearest c.args.place false c.args.known)) (sym c.in-Min.is)
    (least (row ∷ []) c.args.place c.args.known (one-best false row c.args.place c.args.known told))

pub returns-in-Max : goal.returns-in-Max
returns-in-Max c = λ row told.
    subst (λ (fold : Fold). HasFolded (row ∷ []) (item.Folded fold c.args.place) (so_far.Nearest c.args.place true c.args.known)) (sym c.in-Max.is)
    (greatest (row ∷ []) c.args.place c.args.known (one-best true row c.args.place c.args.known told))
