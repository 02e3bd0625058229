use Rattle.std.proofs.Common.{◌≡◌, ℕ, [], ◌∷◌, max, Err, ap, ◌∙◌, subst, arith}
use Rattle.entry_model.specs.declared.entry.Entry.TheVariants.{Ticked}
use Rattle.daemon_rounds.specs.Adding.{AddsEntries}
use Rattle.daemon_rounds.specs.declared.error.TakeError.TheVariants.{NumbersSpent}
use Rattle.daemon_rounds.proofs.Counting.{all_count}
use Rattle.daemon_rounds.proofs.filling.fill_tick.Goals as goal

pub returns-in_default-clause-counts : goal.returns-in_default-clause-counts
returns-in_default-clause-counts g c = all_count g.S.Source.tells g.S.Source.left c.args.feeds.now c.args.sources.now c.requires.paired

pub returns-in_default-configure_again-clause-counts : goal.returns-in_default-configure_again-clause-counts
returns-in_default-configure_again-clause-counts g c =
    all_count g.S.Source.tells g.S.Source.left c.args.feeds.now c.args.sources.now c.requires.paired

pub returns-in-Err-clause-spent : goal.returns-in-Err-clause-spent
returns-in-Err-clause-spent g c is =
    let later = c.requires.later in
    let latest : max c.args.moment c.args.state.now.counts.moment ≡ c.args.moment = omega (arith, later) in
    let spent : c.in-Err.error ≡ NumbersSpent = (cc) in
    record {
      ticked = c.begin_tick.new.state;
      ticks = subst (λ (moment : ℕ). AddsEntries c.args.state.now (Ticked moment ∷ []) c.begin_tick.new.state) latest c.in-Ok.ensures.ticked;
      free = c.in-Ok.ensures.free;
      configured = c.configure_again.new.state;
      again = c.in-Ok-configure_again.ensures.again;
      overflows = c.round.ensures.spent (c.in-Err.is ∙ ap Err spent);
    }
