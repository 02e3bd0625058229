use Rattle.std.proofs.Common.{◌-◌, ◌++◌, List, ℕ, ap, ◌∙◌, sym, take, length, take-append-drop}
use Rattle.std.proofs.lemmas.Slice.Eq.{bytes_eq-Decides}
use Rattle.change_records.proofs.PartMatches.{suffix}
use Rattle.change_records.proofs.pattern.ends_with.Goals as goal

pub returns : goal.returns
returns c =
    let at = length c.args.bytes.now - length c.args.end.now in
    let back = c.split_at.ensures.back in
    let same = bytes_eq-Decides c.split_at.result.1.now c.args.end.now in (
      (λ is. (take at c.args.bytes.now, sym (take-append-drop at c.args.bytes.now) ∙ ap (λ (ys : List ℕ). take at c.args.bytes.now ++ ys) (sym back ∙ same.0 (sym c.eq.ensures ∙ is)))),
      λ (run, is). c.eq.ensures ∙ same.1 (back ∙ suffix run c.args.end.now c.args.bytes.now is),
    )
