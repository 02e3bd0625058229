use Rattle.std.proofs.Common.{◌≡◌, ◌+◌, ◌++◌, ◌∷◌, [], subst, suc, sym, set, arith}
use Rattle.sql_meaning.specs.Lent.{values_in}
use Rattle.sql_groups.specs.Folding.{HasFolded}
use Rattle.sql_groups.proofs.Zipped.{Turning, turn, turned}
use Rattle.sql_groups.proofs.grouped.add_row.Goals as goal

pub loop-at-init : goal.loop-at-init
loop-at-init c = λ items rows known. known

pub loop-at-preserved : goal.loop-at-preserved
loop-at-preserved c = λ items rows known.
    let R = HasFolded rows in
    let S = HasFolded (rows ++ values_in c.args.row ∷ []) in
    let at = c.loop-at.at in
    let next : suc at ≡ at + 1 = omega arith in
    subst (λ n. Turning R S n items (set c.loop-at.group at c.in-Some.more)) next
    (turn R S at items c.loop-at.group c.index-group-at.result c.in-Some.more (c.loop-at.invariant items rows known)
    (let h = c.loop-at-test.true in let l = c.loop-at.auto.group in omega (arith, h, l))
    (λ item stands. c.in-Some.ensures item rows (subst (HasFolded rows item) (sym c.index-group-at.is) stands)))

pub returns : goal.returns
returns c = record {
  long = c.loop-at.auto.group;
  grows = λ h items rows known.
      turned (HasFolded rows) (HasFolded (rows ++ values_in c.args.row ∷ [])) c.loop-at.at items c.loop-at.group (c.loop-at.invariant items rows known)
      (let h = c.loop-at-test.false in let l = c.loop-at.auto.group in omega (arith, h, l));
}
