use Rattle.std.proofs.Common.{sym, ap, ◌∙◌, ◌++◌, lit<}
use Rattle.std.proofs.lemmas.Str.{encode_ascii}
use Rattle.sql_scalar.proofs.Spaces.{no_space_behind}
use Rattle.sql_scalar.proofs.texts.before_spaces.Goals as goal

pub returns : goal.returns
returns c =
    sym (c.loop-front.invariant.kept
    ∙ no_space_behind c.loop-front.rest.now (λ front e. c.in_default.ensures.cases front (e
    ∙ ap (λ w. front ++ w) (sym (encode_ascii 32 (lit< tt))))))
