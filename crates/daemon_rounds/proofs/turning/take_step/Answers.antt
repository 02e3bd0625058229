use Rattle.std.proofs.Common.{List, ℕ, subst, ◌∙◌}
use Rattle.daemon_rounds.specs.Adding.{AddsEntries}
use Rattle.daemon_rounds.specs.Appending.{entries_of}
use Rattle.daemon_rounds.proofs.Counting.{step_counts, still_counts}
use Rattle.daemon_rounds.proofs.Turned.{going_on, rising_on}
use Rattle.daemon_rounds.proofs.turning.take_step.Goals as goal

pub append_all-requires-clause-rising : goal.append_all-requires-clause-rising
append_all-requires-clause-rising g c =
    rising_on c.args.state.now c.args.state.now c.args.feed.now c.step.new.self c.name.result.now c.in-Ok.readings (c.name.ensures ∙ c.in-Ok.ensures.source.0) c.requires.going c.in-Ok.ensures.rise

pub returns-in-Ok-append_all-clause-gave : goal.returns-in-Ok-append_all-clause-gave
returns-in-Ok-append_all-clause-gave g c = (
  c.in-Ok.readings,
  record { steps = c.in-Ok.ensures.steps; each = c.in-Ok.ensures.each; rise = c.in-Ok.ensures.rise; same = c.in-Ok.ensures.same },
  subst (λ (source : List ℕ). AddsEntries c.args.state.now (entries_of source c.args.state.now.counts.moment c.in-Ok.readings) c.append_all.new.state) (c.name.ensures ∙ c.in-Ok.ensures.source.0) c.in-Ok-append_all.ensures.appended,
)

pub returns-in-Ok-append_all-clause-going : goal.returns-in-Ok-append_all-clause-going
returns-in-Ok-append_all-clause-going g c =
    going_on c.args.state.now c.append_all.new.state c.args.feed.now c.step.new.self c.name.result.now c.in-Ok.readings (c.name.ensures ∙ c.in-Ok.ensures.source.0) c.requires.going c.in-Ok.ensures.rise c.in-Ok.ensures.same c.in-Ok-append_all.ensures.offset

pub returns-in-Err-SourceFault-clause-counts : goal.returns-in-Err-SourceFault-clause-counts
returns-in-Err-SourceFault-clause-counts g c = still_counts g.S.Source.tells (g.S.Source.left c.args.source.now) c.args.feed.now c.step.new.self c.step.ensures.source.0 c.step.ensures.source.1 c.in-Err-SourceFault.ensures.uncounted

pub returns-in-Err-NoMemory-clause-counts : goal.returns-in-Err-NoMemory-clause-counts
returns-in-Err-NoMemory-clause-counts g c = still_counts g.S.Source.tells (g.S.Source.left c.args.source.now) c.args.feed.now c.step.new.self c.step.ensures.source.0 c.step.ensures.source.1 c.in-Err-NoMemory.ensures.uncounted

pub returns-in-Ok-append_all-clause-counts : goal.returns-in-Ok-append_all-clause-counts
returns-in-Ok-append_all-clause-counts g c =
    step_counts g.S.Source.tells (g.S.Source.left c.args.source.now) (g.S.Source.left c.step.new.source) c.args.feed.now c.step.new.self c.args.most c.in-Ok.readings (record { steps = c.in-Ok.ensures.steps; each = c.in-Ok.ensures.each; rise = c.in-Ok.ensures.rise; same = c.in-Ok.ensures.same })

pub returns-in-Err-NumbersSpent-clause-counts : goal.returns-in-Err-NumbersSpent-clause-counts
returns-in-Err-NumbersSpent-clause-counts g c =
    step_counts g.S.Source.tells (g.S.Source.left c.args.source.now) (g.S.Source.left c.step.new.source) c.args.feed.now c.step.new.self c.args.most c.in-Ok.readings (record { steps = c.in-Ok.ensures.steps; each = c.in-Ok.ensures.each; rise = c.in-Ok.ensures.rise; same = c.in-Ok.ensures.same })

pub returns-in-Err-NoMemory-append_all-clause-counts : goal.returns-in-Err-NoMemory-append_all-clause-counts
returns-in-Err-NoMemory-append_all-clause-counts g c =
    step_counts g.S.Source.tells (g.S.Source.left c.args.source.now) (g.S.Source.left c.step.new.source) c.args.feed.now c.step.new.self c.args.most c.in-Ok.readings (record { steps = c.in-Ok.ensures.steps; each = c.in-Ok.ensures.each; rise = c.in-Ok.ensures.rise; same = c.in-Ok.ensures.same })
