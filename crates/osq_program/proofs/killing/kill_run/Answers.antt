use Rattle.std.proofs.Common.{◌+◌, ◌*◌, ◌∙◌, ℕ, List, ap, refl}
use Rattle.entry_model.specs.declared.entry.Entry.{Entry}
use Rattle.kept_report.specs.Counting.{numbers_in}
use Rattle.osq_program.specs.SelfTesting.{self_key, ticks_for}
use Rattle.osq_program.proofs.Kills.{are_killed, few_ticks, is_kill_run}
use Rattle.osq_program.proofs.killing.kill_run.Goals as goal

pub returns : goal.returns
returns c =
    let killed = are_killed c.args.kill (ticks_for c.args.count) c.args.whole (few_ticks c.args.count c.requires.few) _ _ _ _ _ _ c.in_ok-keeper.ensures.calls c.in_ok-keeper.ensures.empty c.in_ok-first.first.status c.in_ok-second.second.status c.in_ok-first.ensures.stopped c.in_ok-first.ensures.sealed c.in_ok-second.ensures.stopped c.in_ok-second.ensures.sealed c.in_ok-first.ensures.run.ended c.in_ok-second.ensures.run.ended in
    is_kill_run c.args.from c.args.count c.args.kill c.args.whole _ _ _ _ _ _ c.in_ok-first.ensures.run c.in_ok-keeper.ensures.empty c.in_ok-second.ensures.run (ap (λ (ticks : ℕ). 1000 + 60 * ticks) c.ticks_for.ensures) killed (c.in_ok-numbers.ensures ∙ ap (λ (list : List Entry). numbers_in self_key list) c.entries.ensures) refl refl refl refl
