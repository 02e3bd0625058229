-- From which refusal the question's comes.
use Rattle.std.proofs.Common.{◌≡◌, ℕ, refl, ap}
use Rattle.daemon_rounds.specs.declared.error.TakeError.{TakeError}
use Rattle.daemon_rounds.specs.declared.error.TakeError.TheVariants as taking
use Rattle.query_rounds.specs.declared.error.AskError.TheVariants as ask
use Rattle.replay_rounds.specs.declared.loading.LoadError.{LoadError}
use Rattle.replay_rounds.specs.declared.loading.LoadError.TheVariants as loading
use Rattle.replay_rounds.specs.declared.refused.Numbers.{Numbers}
use Rattle.query_rounds.specs.Refusals.{IsBehindLoading, unloaded_by, untaken_by}

pub untaken_fault : (error : TakeError) (place : ℕ) → untaken_by error ≡ ask.SourceFault place → error ≡ taking.SourceFault place
untaken_fault (taking.SourceFault other) place e = let same : other ≡ place = (cc) in ap taking.SourceFault same
untaken_fault taking.NumbersSpent place e = absurd (cc)
untaken_fault taking.NoMemory place e = absurd (cc)

pub untaken_spent : (error : TakeError) → untaken_by error ≡ ask.NumbersSpent → error ≡ taking.NumbersSpent
untaken_spent (taking.SourceFault other) e = absurd (cc)
untaken_spent taking.NumbersSpent e = refl
untaken_spent taking.NoMemory e = absurd (cc)

pub unloaded_refused : (error : LoadError) → unloaded_by error ≡ ask.KeeperRefused → (kept : Numbers) × (error ≡ loading.KeeperRefused kept)
unloaded_refused loading.KeeperFault e = absurd (cc)
unloaded_refused (loading.KeeperRefused kept) e = (kept, refl)
unloaded_refused loading.NoMemory e = absurd (cc)

pub not_loaded : (error : LoadError) → IsBehindLoading (unloaded_by error) → ⊥
not_loaded loading.KeeperFault behind = behind
not_loaded (loading.KeeperRefused kept) behind = behind
not_loaded loading.NoMemory behind = behind
