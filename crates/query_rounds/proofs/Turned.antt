-- Rounds by the state, one after another.
use Rattle.std.proofs.Common.{◌≡◌, ℕ, zero, suc, ◌+◌, List, sym, subst, arith}
use Rattle.daemon_rounds.specs.declared.turning.Which.TheVariants as which
use Rattle.daemon_rounds.proofs.Laters.{AreLater, later_then, none_later, round_later}
use Rattle.query_rounds.specs.Running.{Place, Turns, TurnsOften}

module _ {S : Type 0} (tells : Type 0) (left : S → List ℕ) (faults : S → ℕ) (most : ℕ) where
  pub turned_once_more : (count : ℕ) (from between to : Place S) → TurnsOften tells left faults most count from between → Turns tells left faults most between to → TurnsOften tells left faults most (count + 1) from to
  turned_once_more count from between to before last =
      let next : suc count ≡ count + 1 = (omega arith) in
      subst (λ (n : ℕ). TurnsOften tells left faults most n from to) next (between, before, last)

  -- no source's count of faults fell
  pub turned_later : (count : ℕ) (from to : Place S) → TurnsOften tells left faults most count from to → AreLater faults from.sources to.sources
  turned_later zero from to same =
      subst (λ (at : Place S). AreLater faults from.sources at.sources) (sym same) (none_later faults from.sources)
  turned_later (suc count) from to (between, before, last) =
      later_then faults from.sources between.sources to.sources (turned_later count from between before) (round_later tells left faults which.Every most between.feeds to.feeds between.sources to.sources last.turns last.whole last.each)
