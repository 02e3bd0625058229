use Rattle.std.proofs.Common.{Some, ap, refl, subst, sym, ◌∙◌}
use Rattle.program_words.specs.Bounds.{IsBounded}
use Rattle.program_words.specs.declared.command.CommandWords.{CommandWords}
use Rattle.program_words.specs.declared.command.CommandWords.TheVariants.{Daemon as AsksDaemon}
use Rattle.osq_outside.specs.Causes.{Rose}
use Rattle.program_words.specs.declared.error.WordsError.{WordsError}
use Rattle.osq_program.specs.Answers.{IsUsageStatus}
use Rattle.osq_program.specs.Report.{Tells, status_of, words_text}
use Rattle.osq_program.proofs.Paths.{for_read, not_forwarding, only_memory, tells_wanting, told_for_read, wants_by}
use Rattle.osq_program.proofs.run.run_daemon.Goals as goal

pub run_by_threads-requires-clause-bounded : goal.run_by_threads-requires-clause-bounded
unfolding IsBounded
run_by_threads-requires-clause-bounded g c κs within = subst IsBounded c.in-Ok-Daemon.field-0-is c.in-Ok-Daemon.ensures.bounds

pub returns-in-Ok-Daemon-clause-does : goal.returns-in-Ok-Daemon-clause-does
returns-in-Ok-Daemon-clause-does g c = λ command is used. for_read (AsksDaemon c.in-Ok-Daemon.words) command _ _ (sym (c.in-Ok-Daemon.ensures.command ∙ ap (λ (w : CommandWords). Some w) c.in-Ok-Daemon.field-0-is) ∙ is) c.run_by_threads.ensures.does

pub returns-in-Ok-Daemon-clause-told : goal.returns-in-Ok-Daemon-clause-told
returns-in-Ok-Daemon-clause-told g c = λ command is used. told_for_read (AsksDaemon c.in-Ok-Daemon.words) command _ _ (sym (c.in-Ok-Daemon.ensures.command ∙ ap (λ (w : CommandWords). Some w) c.in-Ok-Daemon.field-0-is) ∙ is) c.run_by_threads.ensures.told

pub returns-in-Ok-Daemon-clause-link : goal.returns-in-Ok-Daemon-clause-link
returns-in-Ok-Daemon-clause-link g c = λ quiet.
    c.run_by_threads.ensures.link (not_forwarding _ (AsksDaemon c.in-Ok-Daemon.words) (c.in-Ok-Daemon.ensures.command ∙ ap (λ (w : CommandWords). Some w) c.in-Ok-Daemon.field-0-is) quiet)

pub returns-in-Err-clause-does : goal.returns-in-Err-clause-does
returns-in-Err-clause-does g c = λ command is used.
    let answer = c.refuse_words.ensures.answer in
    let memory = only_memory c.in-Err.error (λ usage. used (subst IsUsageStatus (sym answer) usage)) in
    wants_by command _ _ (answer ∙ ap status_of memory) refl (λ seen. refl) (λ seen. refl) (λ seen. refl)

pub returns-in-Err-clause-told : goal.returns-in-Err-clause-told
returns-in-Err-clause-told g c = λ command is used.
    let answer = c.refuse_words.ensures.answer in
    let memory = only_memory c.in-Err.error (λ usage. used (subst IsUsageStatus (sym answer) usage)) in
    tells_wanting command _ _ (answer ∙ ap status_of memory) refl (λ tells. subst (λ (error : WordsError). Tells (Rose (g.O.Sink.faults c.args.outside.now.status) (g.O.Sink.faults c.refuse_words.new.status)) (g.O.Sink.written c.args.outside.now.status) (g.O.Sink.written c.refuse_words.new.status) (words_text error)) memory (c.refuse_words.ensures.text tells))
