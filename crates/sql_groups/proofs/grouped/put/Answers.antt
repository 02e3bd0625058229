use Rattle.std.proofs.Common.{List, Some, None, ◌≡◌, ◌∙◌, ap, subst, sym, Bool, ◌<◌, ◌++◌, [], drop, get_or, length, refl, set, take, arith}
use Rattle.std.specs.Prelude.{if◌then◌else◌}
use Rattle.std.proofs.lemmas.List.{get_or_default}
use Rattle.std.proofs.lemmas.Result.{IfOk-weaker}
use Rattle.sql_meaning.specs.Lent.{values_in}
use Rattle.sql_groups.specs.declared.so_far.SoFar.{SoFar}
use Rattle.sql_groups.specs.Grouping.{Grows, Puts}
use Rattle.sql_groups.proofs.Gathered.{replaced}
use Rattle.sql_groups.proofs.grouped.put.Goals as goal

pub returns-then-is_new : goal.returns-then-is_new
returns-then-is_new c =
    IfOk-weaker c.push_begun.result _ _
    (λ told begins h. subst (λ (b : Bool). Puts c.args.items.now c.args.groups.now.items (if b then None else Some c.args.at) (values_in c.args.row) c.push_begun.new.groups.items) (sym c.if-is_new.true) (begins h))
    c.push_begun.ensures

pub returns-then-at-len : goal.returns-then-at-len
returns-then-at-len c =
    let at = c.args.at in
    let row = values_in c.args.row in
    let groups = c.args.groups.now.items in
    let before = c.index_mut.result.now in
    let more = c.add_row.new.group in
    let within : at < length groups = (let h = c.if-at-len.true in let l = c.len.ensures in omega (arith, h, l)) in
    let was : before ≡ get_or groups at [] = c.index_mut.ensures.value ∙ get_or_default groups at before [] within in
    let now = replaced before more (c.add_row.ensures.long ∙ ap length c.as_mut_slice.ensures.value) in
    λ h. subst (λ (b : Bool). Puts c.args.items.now groups (if b then None else Some at) row (set groups at (take (length before) (more ++ drop (length more) before)))) (sym c.if-is_new.false) (
      take (length before) (more ++ drop (length more) before),
      refl,
      subst (λ (g : List SoFar). Grows row g (take (length before) (more ++ drop (length more) before))) (c.as_mut_slice.ensures.value ∙ was)
          (subst (Grows row c.as_mut_slice.result.now) (sym now) (c.add_row.ensures.grows h)),
    )
