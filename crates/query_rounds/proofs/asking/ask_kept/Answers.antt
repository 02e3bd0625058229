use Rattle.std.proofs.Common.{◌≡◌, ◌≤◌, ℕ, Err, ap, max, sym, ◌∙◌, subst, arith}
use Rattle.osq_value.specs.declared.moment.TheConstants.{LAST_MOMENT}
use Rattle.entry_model.specs.Fits.{Fits}
use Rattle.entry_model.specs.declared.restored.Restored.{Restored}
use Rattle.query_rounds.specs.Reading.{HasRead, IsOverfull}
use Rattle.query_rounds.specs.Refusals.{IsBehindLoading}
use Rattle.query_rounds.specs.declared.error.AskError.TheVariants.{KeeperRefused, NumbersSpent}
use Rattle.query_rounds.proofs.Answered.{answered}
use Rattle.query_rounds.proofs.Meant.{meant}
use Rattle.query_rounds.proofs.Refused.{not_loaded, unloaded_refused}
use Rattle.query_rounds.proofs.Spent.{has_spent}
use Rattle.query_rounds.proofs.asking.ask_kept.Goals as goal

none_later : (reading : ℕ) → max reading 0 ≡ reading
none_later reading = omega arith

pub returns-clause-answer : goal.returns-clause-answer
returns-clause-answer g c =
    let read = c.in-Ok-read_moment.ensures.read in
    let behind = c.in-Ok-read_behind.behind in
    let same : read.reading ≡ c.in-Ok-read_moment.moment = sym (read.is ∙ none_later read.reading) in (
      c.in-Ok-read_moment.moment,
      subst (λ (moment : ℕ). g.C.Clock.reads c.args.clock.now moment c.read_moment.new.clock) same read.reads_it,
      subst (λ (moment : ℕ). moment ≤ LAST_MOMENT) same read.calendar,
      meant g.S.Source.tells g.S.Source.left g.S.Source.faults c.args.names.now c.args.paths.now c.args.records c.args.rounds c.in-Ok.restored c.args.sources.now c.read_behind.new.sources behind.state behind.is_end c.in-Ok-read_behind.ensures.read
          g.K.Keeper.tells (g.K.Keeper.kept c.args.keeper.now) c.in-Ok.ensures.value
          c.args.text.now c.in-Ok-read_moment.moment c.in-Ok-answer_behind.rows c.in-Ok-answer_behind.ensures,
      λ told sources_told legal given is.
          answered g.S.Source.tells g.S.Source.left g.S.Source.faults c.args.names.now c.args.sources.now c.read_behind.new.sources c.args.rounds given (g.K.Keeper.kept c.args.keeper.now) behind.state behind.is_end sources_told legal c.requires.distinct c.args.paths.now c.args.records is
          (subst (λ (restored : Restored). HasRead g.S.Source.tells g.S.Source.left g.S.Source.faults c.args.names.now c.args.paths.now c.args.records c.args.rounds restored c.args.sources.now c.read_behind.new.sources behind.state behind.is_end) (c.in-Ok.ensures.value told) c.in-Ok-read_behind.ensures.read)
          c.args.text.now c.in-Ok-read_moment.moment c.in-Ok-answer_behind.rows behind.skipped c.in-Ok-answer_behind.ensures,
    )

pub returns-clause-skipped : goal.returns-clause-skipped
returns-clause-skipped g c =
    (c.in-Ok.restored.taken, λ tells. ap (λ (restored : Restored). restored.taken) (c.in-Ok.ensures.value tells), c.in-Ok-read_behind.ensures.skipped)

pub returns-in-Err-read_behind-clause-spent : goal.returns-in-Err-read_behind-clause-spent
returns-in-Err-read_behind-clause-spent g c = λ is told sources_told legal given over.
    let why : c.in-Err-read_behind.error ≡ NumbersSpent = cc in
    has_spent g.S.Source.tells g.S.Source.left g.S.Source.faults c.args.names.now c.args.sources.now c.read_behind.new.sources c.args.rounds given (g.K.Keeper.kept c.args.keeper.now) sources_told legal c.requires.distinct c.args.paths.now c.args.records over
    (subst (λ (restored : Restored). IsOverfull g.S.Source.tells g.S.Source.left g.S.Source.faults c.args.names.now c.args.paths.now c.args.records c.args.rounds restored c.args.sources.now c.read_behind.new.sources) (c.in-Ok.ensures.value told) (c.in-Err-read_behind.ensures.over (ap Err why)))

pub returns-clause-fit : goal.returns-clause-fit
returns-clause-fit g c told = subst Fits (c.in-Ok.ensures.value told) c.in-Ok.ensures.fits

pub returns-in-Err-clause-refused : goal.returns-in-Err-clause-refused
returns-in-Err-clause-refused g c = λ told is.
    let why : c.unloaded.result ≡ KeeperRefused = cc in
    let (kept, loading) = unloaded_refused c.in-Err.error (sym c.unloaded.ensures ∙ why) in
    c.load_values.ensures.refused told kept (c.in-Err.is ∙ ap Err loading)

pub returns-in-Err-clause-illegal : goal.returns-in-Err-clause-illegal
returns-in-Err-clause-illegal g c = λ told is.
    let why : c.unloaded.result ≡ KeeperRefused = cc in
    let (kept, loading) = unloaded_refused c.in-Err.error (sym c.unloaded.ensures ∙ why) in
    c.load_values.ensures.illegal told kept (c.in-Err.is ∙ ap Err loading)

pub returns-in-Err-clause-fit_behind : goal.returns-in-Err-clause-fit_behind
returns-in-Err-clause-fit_behind g c told behind = absurd (not_loaded c.in-Err.error (subst IsBehindLoading c.unloaded.ensures behind))

pub returns-in-Err-read_moment-clause-fit_behind : goal.returns-in-Err-read_moment-clause-fit_behind
returns-in-Err-read_moment-clause-fit_behind g c told behind = subst Fits (c.in-Ok.ensures.value told) c.in-Ok.ensures.fits

pub returns-in-Err-read_behind-clause-fit_behind : goal.returns-in-Err-read_behind-clause-fit_behind
returns-in-Err-read_behind-clause-fit_behind g c told behind = subst Fits (c.in-Ok.ensures.value told) c.in-Ok.ensures.fits
