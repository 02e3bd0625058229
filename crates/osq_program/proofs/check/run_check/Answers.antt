use Rattle.std.proofs.Common.{inl, inr, ℕ, List, ◌++◌, take, refl, sym, ap, ◌∙◌, subst, append-nil}
use Rattle.osq_program.specs.declared.status.Status.TheVariants.{SinkFault, OutOfMemory}
use Rattle.osq_program.specs.Telling.{MayCheckTell, TellsSome}
use Rattle.osq_program.proofs.Ended.{rose_behind}
use Rattle.osq_program.proofs.Listings.{check_may, partly_listed, refused_config}
use Rattle.osq_program.proofs.Toldings.{as_plain, tells_end, tells_line, tells_more_plain, tells_part, tells_unconfigured, unconfigured_cause}
use Rattle.osq_program.proofs.check.run_check.Goals as goal

pub returns-in-Err-clause-does : goal.returns-in-Err-clause-does
returns-in-Err-clause-does g c =
    refused_config c.args.words.now _ c.refuse_unconfigured.result _ refl (unconfigured_cause _ _ _ c.in-Err.refused c.refuse_unconfigured.result c.in-Err.ensures.cause c.refuse_unconfigured.ensures.same) (λ tells. refl) (λ tells. refl)

pub returns-in-Err-clause-told : goal.returns-in-Err-clause-told
returns-in-Err-clause-told g c =
    tells_end (MayCheckTell c.args.words.now _) _ c.refuse_unconfigured.result
    (tells_unconfigured (MayCheckTell c.args.words.now _) _ _ _ _ c.in-Err.refused c.refuse_unconfigured.result c.in-Err.ensures.cause c.refuse_unconfigured.ensures.same
    (λ file is. (file, is, refl)) (check_may c.args.words.now _ _) c.refuse_unconfigured.ensures.told)

pub returns-in_default-clause-told : goal.returns-in_default-clause-told
returns-in_default-clause-told g c =
    tells_end (MayCheckTell c.args.words.now _) _ c.starve.result (subst (TellsSome (MayCheckTell c.args.words.now _) _) (sym c.starve.ensures.same) (tells_line (MayCheckTell c.args.words.now _) _ OutOfMemory refl c.starve.ensures.told))

pub returns-in-Err-write_all-clause-does : goal.returns-in-Err-write_all-clause-does
returns-in-Err-write_all-clause-does g c =
    partly_listed _ _ c.in-Ok-texts_of.checked.lines c.in-Ok-texts_of.checked.notes (record { config = c.in-Ok.made.config; documents = c.in-Ok.made.documents; left_out = c.in-Ok.made.notes; configured = c.in-Ok.ensures.config; listing = c.in-Ok-texts_of.ensures.lines; noted = c.in-Ok-texts_of.ensures.notes })
    (λ tells. (0, sym (append-nil _))) (inr c.in-Err-write_all.ensures.cause.failed) (λ tells. refl) _ refl

pub returns-in-Err-write_all-clause-told : goal.returns-in-Err-write_all-clause-told
returns-in-Err-write_all-clause-told g c =
    tells_end (MayCheckTell c.args.words.now _) _ SinkFault
    (tells_part (MayCheckTell c.args.words.now _) _ c.in-Ok-texts_of.checked.notes (c.in-Ok-texts_of.checked.lines, (record { config = c.in-Ok.made.config; documents = c.in-Ok.made.documents; left_out = c.in-Ok.made.notes; configured = c.in-Ok.ensures.config; listing = c.in-Ok-texts_of.ensures.lines; noted = c.in-Ok-texts_of.ensures.notes })) c.in-Err-write_all.ensures.cause.failed
    (λ tells. let (count, is) = c.in-Err-write_all.ensures.bytes tells in (count, is ∙ ap (λ (text : List ℕ). g.O.Sink.written c.args.outside.now.status ++ take count text) c.as_slice.ensures)))

pub returns-clause-does : goal.returns-clause-does
returns-clause-does g c =
    partly_listed _ _ c.in-Ok-texts_of.checked.lines c.in-Ok-texts_of.checked.notes (record { config = c.in-Ok.made.config; documents = c.in-Ok.made.documents; left_out = c.in-Ok.made.notes; configured = c.in-Ok.ensures.config; listing = c.in-Ok-texts_of.ensures.lines; noted = c.in-Ok-texts_of.ensures.notes })
    (λ tells. let (count, is) = c.in-Err-write_all-2.ensures.bytes tells in (count, is ∙ ap (λ (text : List ℕ). g.O.Sink.written c.args.outside.now.results ++ take count text) c.as_slice-2.ensures)) (inl c.in-Err-write_all-2.ensures.cause.failed) (λ tells. refl) _
    (as_plain SinkFault _ (λ none. none) c.refuse.ensures.same)

pub returns-clause-told : goal.returns-clause-told
returns-clause-told g c =
    tells_end (MayCheckTell c.args.words.now _) _ c.refuse.result
    (tells_more_plain (MayCheckTell c.args.words.now _) _ c.in-Ok-texts_of.checked.notes SinkFault c.refuse.result _ (g.O.Sink.written c.write_all.new.sink) (λ none. none) c.refuse.ensures.same
    (c.in-Ok-texts_of.checked.lines, (record { config = c.in-Ok.made.config; documents = c.in-Ok.made.documents; left_out = c.in-Ok.made.notes; configured = c.in-Ok.ensures.config; listing = c.in-Ok-texts_of.ensures.lines; noted = c.in-Ok-texts_of.ensures.notes }))
    (rose_behind _ _ _ c.in-Ok-write_all.ensures.cause.later) (λ tells. c.in-Ok-write_all.ensures.bytes tells ∙ ap (λ (text : List ℕ). g.O.Sink.written c.args.outside.now.status ++ text) c.as_slice.ensures)
    c.refuse.ensures.told)
