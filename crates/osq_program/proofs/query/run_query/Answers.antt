use Rattle.std.proofs.Common.{◌≡◌, Err, refl, inl, inr, ℕ, List, take, ap, sym, subst, ◌∙◌, ◌++◌, append_assoc, map, length}
use Rattle.osq_value.specs.declared.source.SourceName.{SourceName}
use Rattle.sql_query.specs.Resolved.{query_of}
use Rattle.sql_texts.specs.TextFaults.{text_fault}
use Rattle.sql_texts.specs.Texts.{query_in}
use Rattle.query_rounds.specs.Asking.{IsAnswer}
use Rattle.query_rounds.specs.Refusals.{IsBehindLoading}
use Rattle.query_rounds.specs.declared.error.AskError.{AskError}
use Rattle.query_rounds.specs.declared.error.AskError.TheVariants as ask
use Rattle.osq_program.specs.Ending.{IsAnswerTo}
use Rattle.osq_program.specs.Telling.{MayQueryTell}
use Rattle.osq_program.specs.declared.status.Status.TheVariants.{SinkFault}
use Rattle.osq_program.proofs.Ended.{later_then, rose_behind}
use Rattle.osq_program.proofs.Toldings.{refused_cause, tells_end, tells_more, tells_more_refused, tells_part, tells_part_behind, tells_refused, tells_unconfigured, unconfigured_cause}
use Rattle.osq_program.proofs.Questions.{accepted_by, answered, answered_may, config_may, ended_may, text_may, unskipped_may, as_fault, as_keeper, as_late, as_refused, as_shrank, as_spent, given_for, meant_for, no_sink, of_text, posed_by, refused_config, refused_text, same_lines, skips_for, unanswered, untold}
use Rattle.osq_program.proofs.Replays.{answered as caused, fails_there, is_within, shrank_by}
use Rattle.osq_program.proofs.Setups.{names_distinct}
use Rattle.osq_program.proofs.query.run_query.Goals as goal

pub returns-in-Err-clause-does : goal.returns-in-Err-clause-does
returns-in-Err-clause-does g c =
    refused_text _ _ c.refuse.result _ refl (refused_cause _ c.in-Err.status c.refuse.result c.refuse.ensures.same (of_text _ _ c.in-Err.status c.as_str-text.ensures c.in-Err.ensures.cause)) (λ tells. refl) (λ tells. refl)

pub returns-in-Err-watched_by-clause-does : goal.returns-in-Err-watched_by-clause-does
returns-in-Err-watched_by-clause-does g c =
    refused_config _ _ c.refuse_unconfigured.result _ refl (ap text_fault (sym c.as_str-text.ensures) ∙ c.in-Ok.ensures.accepted)
    (unconfigured_cause _ _ _ c.in-Err-watched_by.refused c.refuse_unconfigured.result c.in-Err-watched_by.ensures.cause c.refuse_unconfigured.ensures.same) (λ tells. refl) (λ tells. refl)

pub returns-in_default-clause-does : goal.returns-in_default-clause-does
returns-in_default-clause-does g c =
    let watched = c.in-Ok-watched_by.watched in
    untold _ _ _ refl (posed_by _ _ _ watched.paths watched.notes c.as_str-text.ensures c.in-Ok.ensures.accepted c.in-Ok-watched_by.ensures.watched) c.in_default.ensures.cause.failed (λ tells. refl) (λ tells. refl)

pub ask_kept-requires-clause-accepted : goal.ask_kept-requires-clause-accepted
ask_kept-requires-clause-accepted g c κs within = accepted_by _ _ c.in-Ok.ensures.query

pub ask_kept-requires-clause-distinct : goal.ask_kept-requires-clause-distinct
ask_kept-requires-clause-distinct g c κs within =
    names_distinct _ c.args.words.now.sources c.as_slice-2.ensures c.requires.bounded.sources_in.own_paths

pub returns-in-Ok-ask_kept-clause-does : goal.returns-in-Ok-ask_kept-clause-does
returns-in-Ok-ask_kept-clause-does g c =
    let left = g.S.Source.left in
    let watched = c.in-Ok-watched_by.watched in
    let asked = c.in-Ok-ask_kept.asked in
    let names = c.as_slice-2.ensures in
    let bytes = sym (ap (map left) c.as_mut_slice.ensures.value) in
    let (moment, read, early, meant, answer) = c.in-Ok-ask_kept.ensures.answer in
    let (taken, taken_is, skips) = c.in-Ok-ask_kept.ensures.skipped in
    answered _ _ (posed_by _ _ _ watched.paths watched.notes c.as_str-text.ensures c.in-Ok.ensures.accepted c.in-Ok-watched_by.ensures.watched) moment read early asked
    (meant_for c.args.words.now _ _ _ _ moment asked.rows names c.as_str-text.ensures meant)
    taken taken_is c.in-Ok-ask_kept.ensures.fit (skips_for c.args.words.now _ watched.paths taken _ _ _ asked.is_end asked.skipped names bytes skips)
    (λ kept_told source_told legal given is. subst (λ (text : List ℕ). IsAnswer given (g.K.Keeper.kept c.args.outside.now.keeper) text c.args.words.now.ticks moment asked) c.as_str-text.ensures
    (answer kept_told source_told legal given (given_for left _ _ _ _ _ given names bytes is)))
    _ (same_lines c.args.words.now.text (query_of c.in-Ok.query) asked.rows (ap query_in (sym c.as_str-text.ensures) ∙ c.in-Ok.ensures.query)) c.in-Ok-ask_kept.ensures.same _ c.write_answer.ensures.writes
    (λ done tells. ap g.O.Sink.written (c.write_answer.ensures.quiet done) ∙ c.in-Ok-write_all-2.ensures.bytes tells
    ∙ ap (λ (skipped : List ℕ). g.O.Sink.written c.write_all.new.sink ++ skipped) c.as_slice-in-Ok-ask_kept.ensures
    ∙ ap (λ (text : List ℕ). text ++ asked.skipped) (c.in-Ok-write_all.ensures.bytes tells ∙ ap (λ (notes : List ℕ). g.O.Sink.written c.args.outside.now.status ++ notes) c.as_slice.ensures)
    ∙ append_assoc (g.O.Sink.written c.args.outside.now.status) watched.notes asked.skipped)

pub answer_to-status-requires-clause-fault : goal.answer_to-status-requires-clause-fault
answer_to-status-requires-clause-fault g c = λ place is.
    let why = as_fault c.in-Err-ask_kept.error place (sym c.ended.ensures ∙ is) in
    let fails = c.in-Err-ask_kept.ensures.fault place (ap Err why) in
    is_within c.as_mut_slice.result.now _ place fails.source
    (c.as_mut_slice.ensures.len ∙ c.requires.sources ∙ sym (ap (λ (sources : List SourceName). length sources) c.as_slice-in-Err-ask_kept.ensures)) fails.was

pub answer_to-status-requires-clause-shrank : goal.answer_to-status-requires-clause-shrank
answer_to-status-requires-clause-shrank g c = λ place kept found is.
    let why = as_shrank c.in-Err-ask_kept.error place kept found (sym c.ended.ensures ∙ is) in
    let h = c.in-Err-ask_kept.ensures.shrank place kept found (ap Err why) in
    is_within c.as_mut_slice.result.now _ place h.2.source
    (c.as_mut_slice.ensures.len ∙ c.requires.sources ∙ sym (ap (λ (sources : List SourceName). length sources) c.as_slice-in-Err-ask_kept.ensures)) h.2.source_there

pub returns-clause-does : goal.returns-clause-does
returns-clause-does g c =
    let left = g.S.Source.left in
    let watched = c.in-Ok-watched_by.watched in
    let e = c.in-Err-ask_kept.error in
    let s = c.in-Err-ask_kept.ensures in
    let by = sym c.ended.ensures in
    let names = c.as_slice-2.ensures in
    let bytes = sym (ap (map left) c.as_mut_slice.ensures.value) in
    let fit = λ (error : AskError) (is : e ≡ error) (behind : IsBehindLoading error) (tells : g.K.Keeper.tells). s.fit_behind tells (subst IsBehindLoading (sym is) behind) in
    let posed = posed_by c.args.words.now _ _ watched.paths watched.notes c.as_str-text.ensures c.in-Ok.ensures.accepted c.in-Ok-watched_by.ensures.watched in
    let answer = subst (λ (sources : List SourceName). IsAnswerTo sources c.ended.result c.answer_to-status.result) c.as_slice-in-Err-ask_kept.ensures c.answer_to-status.ensures in
    unanswered _ _ c.refuse-in-Err-ask_kept.result _ refl (refused_cause _ c.answer_to-status.result c.refuse-in-Err-ask_kept.result c.refuse-in-Err-ask_kept.ensures.same
    (caused _ c.args.words.now.sources c.ended.result _ answer
    (λ is. (posed, s.keeper_cause (ap Err (as_keeper e (by ∙ is)))))
    (λ is. (posed, λ tells. (s.illegal tells (ap Err (as_refused e (by ∙ is))), s.refused tells (ap Err (as_refused e (by ∙ is))))))
    (λ moment is. let late = s.moment moment (ap Err (as_late e moment (by ∙ is))) in (posed, fit (ask.MomentTooLarge moment) (as_late e moment (by ∙ is)) tt, late.0, late.1))
    (λ place name is named. (posed, fit (ask.SourceFault place) (as_fault e place (by ∙ is)) tt, (place, named, fails_there g.S.Source.faults place _ _ _ _ _ c.as_mut_slice.ensures.value c.as_mut_slice.ensures.len (s.fault place (ap Err (as_fault e place (by ∙ is)))))))
    (λ place kept found name is named.
    let h = s.shrank place kept found (ap Err (as_shrank e place kept found (by ∙ is))) in
    (posed, fit (ask.SourceShrank place kept found) (as_shrank e place kept found (by ∙ is)) tt, shrank_by left _ _ _ _ h.0 place kept found name names bytes h.1 h.2 named))
    (λ is. (posed, fit ask.NumbersSpent (as_spent e (by ∙ is)) tt, λ kept_told source_told legal given over. s.spent (ap Err (as_spent e (by ∙ is))) kept_told source_told legal given (given_for left _ _ _ _ _ given names bytes over)))
    (λ is. no_sink e (by ∙ is))))
    (λ tells. refl) s.same

pub returns-in-Err-clause-told : goal.returns-in-Err-clause-told
returns-in-Err-clause-told g c =
    tells_end (MayQueryTell c.args.words.now _) _ c.refuse.result
    (tells_refused (MayQueryTell c.args.words.now _) _ c.in-Err.status c.refuse.result c.refuse.ensures.same (text_may c.args.words.now _ _ c.in-Err.status c.in-Err.ensures.cause) (inl refl) c.refuse.ensures.told)

pub returns-in-Err-watched_by-clause-told : goal.returns-in-Err-watched_by-clause-told
returns-in-Err-watched_by-clause-told g c =
    tells_end (MayQueryTell c.args.words.now _) _ c.refuse_unconfigured.result
    (tells_unconfigured (MayQueryTell c.args.words.now _) _ _ _ _ c.in-Err-watched_by.refused c.refuse_unconfigured.result c.in-Err-watched_by.ensures.cause c.refuse_unconfigured.ensures.same
    (λ file is. (file, is, refl)) (config_may c.args.words.now _ _) c.refuse_unconfigured.ensures.told)

pub returns-in_default-write_all-clause-told : goal.returns-in_default-write_all-clause-told
returns-in_default-write_all-clause-told g c =
    let left = g.S.Source.left in
    let watched = c.in-Ok-watched_by.watched in
    let asked = c.in-Ok-ask_kept.asked in
    let names = c.as_slice-2.ensures in
    let bytes = sym (ap (map left) c.as_mut_slice.ensures.value) in
    let (moment, read, early, meant, answer) = c.in-Ok-ask_kept.ensures.answer in
    let (taken, taken_is, skips) = c.in-Ok-ask_kept.ensures.skipped in
    tells_end (MayQueryTell c.args.words.now _) _ SinkFault
    (tells_part_behind (MayQueryTell c.args.words.now _) _ watched.notes asked.skipped _ (g.O.Sink.written c.write_all.new.sink)
    (unskipped_may c.args.words.now _ (posed_by _ _ _ watched.paths watched.notes c.as_str-text.ensures c.in-Ok.ensures.accepted c.in-Ok-watched_by.ensures.watched) moment read early asked
    (meant_for c.args.words.now _ _ _ _ moment asked.rows names c.as_str-text.ensures meant)
    taken taken_is c.in-Ok-ask_kept.ensures.fit (skips_for c.args.words.now _ watched.paths taken _ _ _ asked.is_end asked.skipped names bytes skips)
    (λ kept_told source_told legal given is. subst (λ (text : List ℕ). IsAnswer given (g.K.Keeper.kept c.args.outside.now.keeper) text c.args.words.now.ticks moment asked) c.as_str-text.ensures
    (answer kept_told source_told legal given (given_for left _ _ _ _ _ given names bytes is)))
    _ (same_lines c.args.words.now.text (query_of c.in-Ok.query) asked.rows (ap query_in (sym c.as_str-text.ensures) ∙ c.in-Ok.ensures.query)) c.in-Ok-ask_kept.ensures.same)
    c.in_default-write_all.ensures.cause.failed (rose_behind _ _ _ c.in-Ok-write_all.ensures.cause.later)
    (λ tells. c.in-Ok-write_all.ensures.bytes tells ∙ ap (λ (notes : List ℕ). g.O.Sink.written c.args.outside.now.status ++ notes) c.as_slice.ensures)
    (λ tells. let (count, is) = c.in_default-write_all.ensures.bytes tells in (count, is ∙ ap (λ (text : List ℕ). g.O.Sink.written c.write_all.new.sink ++ take count text) c.as_slice-in-Ok-ask_kept.ensures)))

pub returns-in_default-clause-told : goal.returns-in_default-clause-told
returns-in_default-clause-told g c =
    tells_end (MayQueryTell c.args.words.now _) _ SinkFault
    (tells_part (MayQueryTell c.args.words.now _) _ c.in-Ok-watched_by.watched.notes (inl ((posed_by c.args.words.now _ _ c.in-Ok-watched_by.watched.paths c.in-Ok-watched_by.watched.notes c.as_str-text.ensures c.in-Ok.ensures.accepted c.in-Ok-watched_by.ensures.watched), refl)) c.in_default.ensures.cause.failed
    (λ tells. let (count, is) = c.in_default.ensures.bytes tells in (count, is ∙ ap (λ (text : List ℕ). g.O.Sink.written c.args.outside.now.status ++ take count text) c.as_slice.ensures)))

pub returns-in-Ok-ask_kept-clause-told : goal.returns-in-Ok-ask_kept-clause-told
returns-in-Ok-ask_kept-clause-told g c =
    let left = g.S.Source.left in
    let watched = c.in-Ok-watched_by.watched in
    let asked = c.in-Ok-ask_kept.asked in
    let names = c.as_slice-2.ensures in
    let bytes = sym (ap (map left) c.as_mut_slice.ensures.value) in
    let (moment, read, early, meant, answer) = c.in-Ok-ask_kept.ensures.answer in
    let (taken, taken_is, skips) = c.in-Ok-ask_kept.ensures.skipped in
    record {
      tells = λ short. tells_more (MayQueryTell c.args.words.now _) _ (watched.notes ++ asked.skipped) c.write_answer.result _ (g.O.Sink.written c.write_all-in-Ok-ask_kept.new.sink)
          (answered_may c.args.words.now _ (posed_by _ _ _ watched.paths watched.notes c.as_str-text.ensures c.in-Ok.ensures.accepted c.in-Ok-watched_by.ensures.watched) moment read early asked
          (meant_for c.args.words.now _ _ _ _ moment asked.rows names c.as_str-text.ensures meant)
          taken taken_is c.in-Ok-ask_kept.ensures.fit (skips_for c.args.words.now _ watched.paths taken _ _ _ asked.is_end asked.skipped names bytes skips)
          (λ kept_told source_told legal given is. subst (λ (text : List ℕ). IsAnswer given (g.K.Keeper.kept c.args.outside.now.keeper) text c.args.words.now.ticks moment asked) c.as_str-text.ensures
          (answer kept_told source_told legal given (given_for left _ _ _ _ _ given names bytes is)))
          _ (same_lines c.args.words.now.text (query_of c.in-Ok.query) asked.rows (ap query_in (sym c.as_str-text.ensures) ∙ c.in-Ok.ensures.query)) c.in-Ok-ask_kept.ensures.same c.write_answer.result short c.write_answer.ensures.writes)
          (rose_behind _ _ _ (later_then _ _ _ c.in-Ok-write_all.ensures.cause.later c.in-Ok-write_all-2.ensures.cause.later))
          (λ tells. c.in-Ok-write_all-2.ensures.bytes tells
          ∙ ap (λ (skipped : List ℕ). g.O.Sink.written c.write_all.new.sink ++ skipped) c.as_slice-in-Ok-ask_kept.ensures
          ∙ ap (λ (text : List ℕ). text ++ asked.skipped) (c.in-Ok-write_all.ensures.bytes tells ∙ ap (λ (notes : List ℕ). g.O.Sink.written c.args.outside.now.status ++ notes) c.as_slice.ensures)
          ∙ append_assoc (g.O.Sink.written c.args.outside.now.status) watched.notes asked.skipped)
          (λ tells. c.write_answer.ensures.told tells short);
    }

pub returns-clause-told : goal.returns-clause-told
returns-clause-told g c =
    let e = c.in-Err-ask_kept.error in
    let answer = subst (λ (sources : List SourceName). IsAnswerTo sources c.ended.result c.answer_to-status.result) c.as_slice-in-Err-ask_kept.ensures c.answer_to-status.ensures in
    let named = subst (λ by. IsAnswerTo c.args.words.now.sources by c.answer_to-status.result) c.ended.ensures answer in
    tells_end (MayQueryTell c.args.words.now _) _ c.refuse-in-Err-ask_kept.result
    (tells_more_refused (MayQueryTell c.args.words.now _) _ c.in-Ok-watched_by.watched.notes c.answer_to-status.result c.refuse-in-Err-ask_kept.result _ (g.O.Sink.written c.write_all.new.sink) c.refuse-in-Err-ask_kept.ensures.same
    (ended_may c.args.words.now _ c.args.words.now.sources e c.answer_to-status.result c.in-Ok-watched_by.watched.notes named ((posed_by c.args.words.now _ _ c.in-Ok-watched_by.watched.paths c.in-Ok-watched_by.watched.notes c.as_str-text.ensures c.in-Ok.ensures.accepted c.in-Ok-watched_by.ensures.watched), refl)) (inr (inl ((posed_by c.args.words.now _ _ c.in-Ok-watched_by.watched.paths c.in-Ok-watched_by.watched.notes c.as_str-text.ensures c.in-Ok.ensures.accepted c.in-Ok-watched_by.ensures.watched), refl)))
    (rose_behind _ _ _ c.in-Ok-write_all.ensures.cause.later)
    (λ tells. c.in-Ok-write_all.ensures.bytes tells ∙ ap (λ (notes : List ℕ). g.O.Sink.written c.args.outside.now.status ++ notes) c.as_slice.ensures)
    c.refuse-in-Err-ask_kept.ensures.told)
