use Rattle.std.proofs.Common.{◌≡◌, ap, ◌∙◌, take, length}
use Rattle.std.proofs.Math.Seq.{take-append_seam}
use Rattle.std.proofs.lemmas.Bool.{false≢true}
use Rattle.std.proofs.lemmas.Slice.Eq.{bytes_eq-Decides}
use Rattle.change_records.proofs.pattern.behind.Goals as goal

pub returns-else-eq : goal.returns-else-eq
returns-else-eq c = λ rest e.
    let same : c.split_at.result.0.now ≡ c.args.front.now =
    c.split_at.ensures.front ∙ ap (take (length c.args.front.now)) e ∙ take-append_seam c.args.front.now rest in
    false≢true (c.if-eq.ensures ∙ (bytes_eq-Decides _ _).1 same)
