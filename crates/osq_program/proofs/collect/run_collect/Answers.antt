use Rattle.std.proofs.Common.{rules, ◌≡◌, [], List, Ok, Err, length, refl, sym, ap, subst, ◌∙◌}
use Rattle.osq_value.specs.declared.source.SourceName.{SourceName}
use Rattle.osq_program.specs.Collecting.{IsStoppedBy}
use Rattle.osq_program.specs.declared.status.Status.TheVariants.{OutOfMemory, TicksSpent}
use Rattle.osq_program.specs.Telling.{MayTellOfLedger, TellsSome}
use Rattle.osq_program.proofs.Collections.{collect_may, done_so, run_so, spent_so, stopped_as, stopped_so, unread_so}
use Rattle.osq_program.proofs.Replays.{fails_there}
use Rattle.osq_program.proofs.Toldings.{as_plain, tells_end, tells_line, tells_unread}
use Rattle.osq_program.proofs.collect.run_collect.Goals as goal

pub returns-in-Ok-true-clause-does : goal.returns-in-Ok-true-clause-does
returns-in-Ok-true-clause-does g c =
    let slice = c.as_mut_slice.ensures in
    let size : length c.collect_stream.new.sources ≡ c.args.outside.now.sources.len = search rules in
    done_so c.args.words.now _ (λ tells. refl) c.collect_stream.result (c.in-Ok-true.is ∙ ap (λ b. Ok b) c.in-Ok-true.field-0-test)
    (run_so c.args.words.now _ c.collect_stream.result g.S.Source.left c.in-Ok.opened c.as_str.result.now c.args.outside.now.sources.items c.as_mut_slice.result.now c.collect_stream.new.sources c.args.outside.now.sources.len
    refl refl slice.value size c.as_str.ensures c.in-Ok.ensures.opened c.collect_stream.ensures.runs)
    (λ tells. refl)

pub returns-in-Ok-false-clause-does : goal.returns-in-Ok-false-clause-does
returns-in-Ok-false-clause-does g c =
    let slice = c.as_mut_slice.ensures in
    let size : length c.collect_stream.new.sources ≡ c.args.outside.now.sources.len = search rules in
    spent_so c.args.words.now _ (λ tells. refl) _ (as_plain TicksSpent _ (λ none. none) c.refuse.ensures.same) c.collect_stream.result (c.in-Ok-false.is ∙ ap (λ b. Ok b) c.in-Ok-false.field-0-test)
    (run_so c.args.words.now _ c.collect_stream.result g.S.Source.left c.in-Ok.opened c.as_str.result.now c.args.outside.now.sources.items c.as_mut_slice.result.now c.collect_stream.new.sources c.args.outside.now.sources.len
    refl refl slice.value size c.as_str.ensures c.in-Ok.ensures.opened c.collect_stream.ensures.runs)

pub returns-in-Err-clause-does : goal.returns-in-Err-clause-does
returns-in-Err-clause-does g c =
    let slice = c.as_mut_slice.ensures in
    let error = c.in-Err.error in
    let size : length c.collect_stream.new.sources ≡ c.args.outside.now.sources.len = search rules in
    let answer = subst (λ (sources : List SourceName). IsStoppedBy sources error c.stopped-status.result) c.as_slice.ensures c.stopped-status.ensures in
    stopped_so c.args.words.now _ (λ tells. refl) error _ (stopped_as c.args.words.now.sources error c.stopped-status.result c.refuse-in-Err.result answer c.refuse-in-Err.ensures.same)
    (run_so c.args.words.now _ (Err error) g.S.Source.left c.in-Ok.opened c.as_str.result.now c.args.outside.now.sources.items c.as_mut_slice.result.now c.collect_stream.new.sources c.args.outside.now.sources.len
    refl refl slice.value size c.as_str.ensures c.in-Ok.ensures.opened c.in-Err.ensures.runs)
    (λ name is named. (0, named, fails_there g.S.Source.faults 0 _ _ _ _ _ slice.value slice.len (c.in-Err.ensures.source (ap (λ e. Err e) is))))
    (λ is. c.in-Err.ensures.sinks (ap (λ e. Err e) is))

pub returns-in-Err-Fault-clause-does : goal.returns-in-Err-Fault-clause-does
returns-in-Err-Fault-clause-does g c =
    unread_so c.args.words.now _ (λ tells. refl) c.refuse_unread.result c.refuse_unread.ensures.unread (c.in-Err-Fault.ensures.cause.failed (search rules)) (λ tells. (refl, refl))

pub returns-in-Err-Fault-clause-told : goal.returns-in-Err-Fault-clause-told
returns-in-Err-Fault-clause-told g c =
    tells_end (MayTellOfLedger c.args.words.now.ledger) _ c.refuse_unread.result (tells_unread (MayTellOfLedger c.args.words.now.ledger) _ c.args.words.now.ledger c.refuse_unread.result c.refuse_unread.ensures.unread refl refl c.refuse_unread.ensures.told)

pub returns-in-Err-NoMemory-clause-told : goal.returns-in-Err-NoMemory-clause-told
returns-in-Err-NoMemory-clause-told g c =
    tells_end (MayTellOfLedger c.args.words.now.ledger) _ c.starve.result (subst (TellsSome (MayTellOfLedger c.args.words.now.ledger) _) (sym c.starve.ensures.same) (tells_line (MayTellOfLedger c.args.words.now.ledger) _ OutOfMemory refl c.starve.ensures.told))

pub returns-in-Ok-false-clause-told : goal.returns-in-Ok-false-clause-told
returns-in-Ok-false-clause-told g c =
    tells_end (MayTellOfLedger c.args.words.now.ledger) _ c.refuse.result
    (tells_line (MayTellOfLedger c.args.words.now.ledger) _ c.refuse.result (subst (λ s. MayTellOfLedger c.args.words.now.ledger s []) (sym (as_plain TicksSpent _ (λ none. none) c.refuse.ensures.same)) refl) c.refuse.ensures.told)

pub returns-in-Err-clause-told : goal.returns-in-Err-clause-told
returns-in-Err-clause-told g c =
    let error = c.in-Err.error in
    let answer = subst (λ (sources : List SourceName). IsStoppedBy sources error c.stopped-status.result) c.as_slice.ensures c.stopped-status.ensures in
    tells_end (MayTellOfLedger c.args.words.now.ledger) _ c.refuse-in-Err.result
    (tells_line (MayTellOfLedger c.args.words.now.ledger) _ c.refuse-in-Err.result (collect_may c.args.words.now error c.refuse-in-Err.result (stopped_as c.args.words.now.sources error c.stopped-status.result c.refuse-in-Err.result answer c.refuse-in-Err.ensures.same)) c.refuse-in-Err.ensures.told)
