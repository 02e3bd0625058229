use Rattle.std.proofs.Common.{◌++◌, ◌∙◌, codes}
use Rattle.result_batches.specs.Frames.{hexadecimal}
use Rattle.collector_answers.proofs.Digits.{conflict_is}
use Rattle.collector_answers.proofs.Told.{none_some, same_both, same_pair}
use Rattle.collector_answers.proofs.read.digests.Goals as goal

pub returns-in_err-kept : goal.returns-in_err-kept
returns-in_err-kept c = λ kept found one other is. none_some _ (c.in_err-kept.ensures kept _ one (is ∙ conflict_is kept found one other))

pub returns-in_err-found : goal.returns-in_err-found
returns-in_err-found c = λ kept found one other is.
    let first =
    same_pair c.in_ok-kept.kept kept c.in_ok-kept.rest.now ((codes "\",\"found\":\"" ++ hexadecimal found) ++ codes "\"}") (c.in_ok-kept.ensures kept _ one (is ∙ conflict_is kept found one other)) in
    none_some _ (c.in_err-found.ensures found (codes "\"}") other first.1)

pub returns : goal.returns
returns c = λ kept found one other is.
    let first =
    same_pair c.in_ok-kept.kept kept c.in_ok-kept.rest.now ((codes "\",\"found\":\"" ++ hexadecimal found) ++ codes "\"}") (c.in_ok-kept.ensures kept _ one (is ∙ conflict_is kept found one other)) in
    let second = same_pair c.in_ok-found.found found c.in_ok-found.field-0-1.now (codes "\"}") (c.in_ok-found.ensures found (codes "\"}") other first.1) in
    same_both c.in_ok-kept.kept kept c.in_ok-found.found found first.0 second.0
