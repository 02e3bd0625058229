use Rattle.std.proofs.Common.{rules, ◌++◌, ℕ, List, ap, take, ◌∙◌, refl, sym, subst}
use Rattle.osq_program.specs.declared.status.Status.TheVariants.{OutOfMemory, SinkFault}
use Rattle.osq_program.specs.Telling.{MayTellOfLedger, TellsSome}
use Rattle.osq_program.proofs.Fleets.{answered_partly, answered_whole, has_answer, refused_may, starved, unanswered, unread}
use Rattle.osq_program.proofs.Toldings.{tells_end, tells_line, tells_refused, tells_unread}
use Rattle.osq_program.proofs.fleet.run_fleet.Goals as goal

pub returns-in-Err-Fault-clause-does : goal.returns-in-Err-Fault-clause-does
returns-in-Err-Fault-clause-does g c =
    unread c.args.words.now _ (λ tells. refl) (λ tells. refl) c.refuse_unread.result c.refuse_unread.ensures.unread (c.in-Err-Fault.ensures.cause.failed (search rules))

pub returns-in-Err-NoMemory-clause-does : goal.returns-in-Err-NoMemory-clause-does
returns-in-Err-NoMemory-clause-does g c =
    starved c.args.words.now _ (λ tells. refl) (λ tells. refl) c.starve.result c.starve.ensures.same

pub returns-in-Err-clause-does : goal.returns-in-Err-clause-does
returns-in-Err-clause-does g c =
    unanswered c.args.words.now _ (λ tells. refl) (λ tells. refl) c.in-Ok.frames c.as_slice.result.now c.as_str.result.now c.as_str-2.result.now c.as_str-3.result.now c.in-Err.status c.refuse.result
    c.as_str.ensures c.as_str-2.ensures c.in-Ok.ensures.opened c.as_slice.ensures c.as_str-3.ensures c.in-Err.ensures.cause c.refuse.ensures.same

pub returns-in-Ok-write_all-clause-does : goal.returns-in-Ok-write_all-clause-does
returns-in-Ok-write_all-clause-does g c =
    answered_whole c.args.words.now _ c.in-Ok-text_shown.lines
    (has_answer c.args.words.now _ c.in-Ok.frames c.as_slice.result.now c.as_str.result.now c.as_str-2.result.now c.as_str-3.result.now c.in-Ok-text_shown.lines
    c.as_str.ensures c.as_str-2.ensures c.in-Ok.ensures.opened c.as_slice.ensures c.as_str-3.ensures c.in-Ok-text_shown.ensures.shows)
    (λ tells. c.in-Ok-write_all.ensures.bytes tells ∙ ap (λ (l : List ℕ). g.O.Sink.written c.args.outside.now.results ++ l) c.as_slice-2.ensures) (λ tells. refl) (λ tells. refl)

pub returns-clause-does : goal.returns-clause-does
returns-clause-does g c =
    answered_partly c.args.words.now _ c.in-Ok-text_shown.lines
    (has_answer c.args.words.now _ c.in-Ok.frames c.as_slice.result.now c.as_str.result.now c.as_str-2.result.now c.as_str-3.result.now c.in-Ok-text_shown.lines
    c.as_str.ensures c.as_str-2.ensures c.in-Ok.ensures.opened c.as_slice.ensures c.as_str-3.ensures c.in-Ok-text_shown.ensures.shows)
    (λ tells. let f = c.in-Err-write_all.ensures.bytes tells in (f.0, f.1 ∙ ap (λ (l : List ℕ). g.O.Sink.written c.args.outside.now.results ++ take f.0 l) c.as_slice-2.ensures))
    c.in-Err-write_all.ensures.cause.failed (λ tells. refl) c.refuse-in-Err-write_all.result c.refuse-in-Err-write_all.ensures.same

pub returns-in-Err-Fault-clause-told : goal.returns-in-Err-Fault-clause-told
returns-in-Err-Fault-clause-told g c =
    tells_end (MayTellOfLedger c.args.words.now.ledger) _ c.refuse_unread.result (tells_unread (MayTellOfLedger c.args.words.now.ledger) _ c.args.words.now.ledger c.refuse_unread.result c.refuse_unread.ensures.unread refl refl c.refuse_unread.ensures.told)

pub returns-in-Err-NoMemory-clause-told : goal.returns-in-Err-NoMemory-clause-told
returns-in-Err-NoMemory-clause-told g c =
    tells_end (MayTellOfLedger c.args.words.now.ledger) _ c.starve.result (subst (TellsSome (MayTellOfLedger c.args.words.now.ledger) _) (sym c.starve.ensures.same) (tells_line (MayTellOfLedger c.args.words.now.ledger) _ OutOfMemory refl c.starve.ensures.told))

pub returns-in-Err-clause-told : goal.returns-in-Err-clause-told
returns-in-Err-clause-told g c =
    tells_end (MayTellOfLedger c.args.words.now.ledger) _ c.refuse.result
    (tells_refused (MayTellOfLedger c.args.words.now.ledger) _ c.in-Err.status c.refuse.result c.refuse.ensures.same
    (refused_may c.args.words.now.ledger c.as_slice.result.now c.as_str-3.result.now c.in-Err.status c.in-Err.ensures.cause) refl c.refuse.ensures.told)

pub returns-clause-told : goal.returns-clause-told
returns-clause-told g c =
    tells_end (MayTellOfLedger c.args.words.now.ledger) _ c.refuse-in-Err-write_all.result
    (tells_refused (MayTellOfLedger c.args.words.now.ledger) _ SinkFault c.refuse-in-Err-write_all.result c.refuse-in-Err-write_all.ensures.same refl refl c.refuse-in-Err-write_all.ensures.told)
