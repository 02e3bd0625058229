use Rattle.std.proofs.Common.{◌∙◌, ap, map, sym}
use Rattle.program_words.proofs.Threads.{by_first, is_daemon_word, threads_by_word}
use Rattle.program_words.proofs.read.is_by_threads.Goals as goal

pub returns-in-Some-clause-command : goal.returns-in-Some-clause-command
returns-in-Some-clause-command c =
    λ command is. threads_by_word (map (λ w. w.now) c.args.words.now) command is ∙ by_first c.args.words.now ∙ ap is_daemon_word (sym c.in-Some.ensures.value) ∙ sym c.eq.ensures

pub returns-in-None-clause-command : goal.returns-in-None-clause-command
returns-in-None-clause-command c =
    λ command is. threads_by_word (map (λ w. w.now) c.args.words.now) command is ∙ by_first c.args.words.now ∙ ap is_daemon_word (sym c.in-None.ensures.value)
