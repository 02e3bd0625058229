use Rattle.std.proofs.Common.{Err, ap, ◌∙◌, arith}
use Rattle.daemon_rounds.proofs.Adding.{brings_one, still_free}
use Rattle.daemon_rounds.proofs.appending.append_one.Goals as goal

pub unreachable-requires : goal.unreachable-requires
unreachable-requires g c =
    let late = (c.append.ensures.backwards c.in-Err-Backwards.field-0-0).0 (c.in-Err-Backwards.is ∙ ap Err c.in-Err-Backwards.field-0-is) in
    let kept = late.0 in
    let most = late.1 in
    let before = c.requires.rising.0 in
    omega (arith, kept, most, before)

pub returns-in-Ok-clause-appended : goal.returns-in-Ok-clause-appended
returns-in-Ok-clause-appended g c = brings_one _ _ _ c.in-Ok.ensures.added (still_free c.args.state.now c.append.new.self c.append.ensures.claims)
