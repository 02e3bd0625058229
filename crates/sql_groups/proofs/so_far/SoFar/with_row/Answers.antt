use Rattle.std.proofs.Common.{◌≡◌, Option, [], ap, subst, sym, ◌∙◌, ◌++◌, ◌∷◌, is_some}
use Rattle.std.specs.Option.{option_copied}
use Rattle.std.proofs.lemmas.Option.{IfSome_then}
use Rattle.osq_value.specs.declared.value.Value.{Value}
use Rattle.sql_meaning.specs.Expressions.{value_at}
use Rattle.sql_meaning.specs.Lent.{values_in}
use Rattle.sql_groups.specs.declared.so_far.SoFar.TheVariants as so_far
use Rattle.sql_groups.specs.Folding.{HasFolded, best_with, count_with, number_in, sum_with}
use Rattle.sql_meaning.specs.Known.{known_of}
use Rattle.sql_groups.proofs.Standing.{first-more, is-copied, known-more, lone-more, nearest-more, rows-more, sum-grows}
use Rattle.sql_groups.proofs.so_far.SoFar.with_row.Goals as goal

pub returns-in-First : goal.returns-in-First
returns-in-First c = λ item rows stands.
    subst (HasFolded (rows ++ values_in c.args.row ∷ []) item) (sym c.in-First.is)
    (first-more item rows (values_in c.args.row) c.in-First.value (subst (HasFolded rows item) c.in-First.is stands))

pub returns-in-Alone : goal.returns-in-Alone
returns-in-Alone c = λ item rows stands.
    subst (HasFolded (rows ++ values_in c.args.row ∷ []) item) (sym c.in-Alone.is)
    (lone-more item rows (values_in c.args.row) c.in-Alone.row c.in-Alone.expr (subst (HasFolded rows item) c.in-Alone.is stands))

pub returns-in-Some : goal.returns-in-Some
returns-in-Some c = λ item rows stands.
    subst (λ n. HasFolded (rows ++ values_in c.args.row ∷ []) item (so_far.Rows n)) (sym c.in-Some.ensures.1)
    (rows-more item rows (values_in c.args.row) c.in-Rows.count (subst (HasFolded rows item) c.in-Rows.is stands))

pub returns-in-Known : goal.returns-in-Known
returns-in-Known c =
    let row = values_in c.args.row in
    let place = c.in-Known.place in
    let known : is_some (known_of (value_at row place)) ≡ c.is_some.result =
    sym (c.is_some.ensures ∙ is-copied c.known_in.result ∙ ap is_some c.known_in.ensures) in
    IfSome_then c.counted.result c.counted.ensures
    (λ more is item rows stands.
    subst (HasFolded (rows ++ row ∷ []) item) (ap (λ b. so_far.Known place (count_with c.in-Known.count b)) known ∙ sym is)
    (known-more item rows row place c.in-Known.count (subst (HasFolded rows item) c.in-Known.is stands)))

pub returns-in-Sum : goal.returns-in-Sum
returns-in-Sum c =
    let row = values_in c.args.row in
    let place = c.in-Sum.place in
    IfSome_then c.summed.result c.summed.ensures
    (λ more is item rows stands.
    subst (HasFolded (rows ++ row ∷ []) item) (ap (λ (o : Option Value). so_far.Sum place (sum_with c.in-Sum.sum (number_in o))) (sym c.known_in-in-Sum.ensures) ∙ sym is)
    (sum-grows item rows row place c.in-Sum.sum (subst (HasFolded rows item) c.in-Sum.is stands)))

pub returns-in-Nearest : goal.returns-in-Nearest
returns-in-Nearest c = λ item rows stands.
    let row = values_in c.args.row in
    let place = c.in-Nearest.place in
    nearest-more item rows row place c.in-Nearest.is_greatest c.in-Nearest.best c.nearest.result
    (c.nearest.ensures ∙ ap (best_with c.in-Nearest.is_greatest (option_copied c.in-Nearest.best)) c.known_in-in-Nearest.ensures)
    (subst (HasFolded rows item) c.in-Nearest.is stands)
