use Rattle.std.proofs.Common.{sym, ap, ◌∙◌, ◌++◌, lit<}
use Rattle.std.proofs.lemmas.Str.{encode_ascii}
use Rattle.sql_scalar.proofs.Spaces.{no_space_before}
use Rattle.sql_scalar.proofs.texts.behind_spaces.Goals as goal

pub returns : goal.returns
returns c =
    sym (c.loop-tail.invariant.kept
    ∙ no_space_before c.loop-tail.rest.now (λ rest e. c.in_default.ensures.cases rest (e
    ∙ ap (λ w. w ++ rest) (sym (encode_ascii 32 (lit< tt))))))
