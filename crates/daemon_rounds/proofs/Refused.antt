-- From which refusal the caller's comes.
use Rattle.std.proofs.Common.{◌≡◌, ℕ, refl, sym, ap, ◌∙◌}
use Rattle.daemon_rounds.specs.declared.error.OpenError.{OpenError}
use Rattle.daemon_rounds.specs.declared.error.OpenError.TheVariants as opening
use Rattle.daemon_rounds.specs.declared.error.StartError.{StartError}
use Rattle.daemon_rounds.specs.declared.error.StartError.TheVariants as start
use Rattle.daemon_rounds.specs.declared.error.TakeError.{TakeError}
use Rattle.daemon_rounds.specs.declared.error.TakeError.TheVariants as taking
use Rattle.daemon_rounds.specs.Refusals.{unstarted_by, untaken_by}

pub untaken_fault : (error : TakeError) (place : ℕ) → untaken_by error ≡ opening.SourceFault place → error ≡ taking.SourceFault place
untaken_fault (taking.SourceFault other) place e = let same : other ≡ place = (cc) in ap taking.SourceFault same
untaken_fault taking.NumbersSpent place e = absurd (cc)
untaken_fault taking.NoMemory place e = absurd (cc)

pub untaken_spent : (error : TakeError) → untaken_by error ≡ opening.NumbersSpent → error ≡ taking.NumbersSpent
untaken_spent (taking.SourceFault other) e = absurd (cc)
untaken_spent taking.NumbersSpent e = refl
untaken_spent taking.NoMemory e = absurd (cc)

pub never_shrank : (error : TakeError) (place kept found : ℕ) → untaken_by error ≡ opening.SourceShrank place kept found → ⊥
never_shrank (taking.SourceFault other) place kept found e = cc
never_shrank taking.NumbersSpent place kept found e = cc
never_shrank taking.NoMemory place kept found e = cc

pub never_late : (error : TakeError) (moment : ℕ) → untaken_by error ≡ opening.MomentTooLarge moment → ⊥
never_late (taking.SourceFault other) moment e = cc
never_late taking.NumbersSpent moment e = cc
never_late taking.NoMemory moment e = cc

pub unstarted_fault : (error : StartError) (place : ℕ) → unstarted_by error ≡ opening.SourceFault place → error ≡ start.SourceFault place
unstarted_fault (start.SourceFault other) place e = let same : other ≡ place = (cc) in ap start.SourceFault same
unstarted_fault (start.SourceShrank other kept found) place e = absurd (cc)
unstarted_fault start.NoMemory place e = absurd (cc)

pub unstarted_shrank : (error : StartError) (place kept found : ℕ) → unstarted_by error ≡ opening.SourceShrank place kept found → error ≡ start.SourceShrank place kept found
unstarted_shrank (start.SourceFault other) place kept found e = absurd (cc)
unstarted_shrank (start.SourceShrank p k f) place kept found e =
    let places : p ≡ place = (cc) in
    let kepts : k ≡ kept = (cc) in
    let founds : f ≡ found = (cc) in
    λ i. start.SourceShrank (places i) (kepts i) (founds i)
unstarted_shrank start.NoMemory place kept found e = absurd (cc)

pub unstarted_unspent : (error : StartError) → unstarted_by error ≡ opening.NumbersSpent → ⊥
unstarted_unspent (start.SourceFault other) e = cc
unstarted_unspent (start.SourceShrank p k f) e = cc
unstarted_unspent start.NoMemory e = cc

pub unstarted_soon : (error : StartError) (moment : ℕ) → unstarted_by error ≡ opening.MomentTooLarge moment → ⊥
unstarted_soon (start.SourceFault other) moment e = cc
unstarted_soon (start.SourceShrank p k f) moment e = cc
unstarted_soon start.NoMemory moment e = cc
