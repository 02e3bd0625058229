-- A tick that begins by the state begins by the list.
use Rattle.std.proofs.Common.{◌≡◌, ℕ, Bool, List, [], ◌∷◌, ◌++◌, sym, ap, ◌∙◌, subst, append_assoc}
use Rattle.std.specs.Prelude.{All}
use Rattle.source_feeds.specs.Feeding.{Feeding}
use Rattle.entry_model.specs.declared.entry.Entry.{Entry}
use Rattle.entry_model.specs.declared.entry.Entry.TheVariants.{Ticked}
use Rattle.entry_model.specs.Legal.{Legal}
use Rattle.entry_model.specs.Values.{last_of, moment_in, moment_of}
use Rattle.entry_model.proofs.Lasts.{last_of-append}
use Rattle.session_model.specs.Configuring as model
use Rattle.session_model.specs.Configuring.{configured_in}
use Rattle.session_state.specs.Kept.{Counts, Kept}
use Rattle.session_state.specs.StateOf.{HasValues}
use Rattle.daemon_rounds.specs.Adding.{AddsEntries}
use Rattle.daemon_rounds.specs.Ticking.{ConfiguresAgain, asks_again, configured_last}
use Rattle.daemon_rounds.proofs.Adding.{brings_then}
use Rattle.replay_rounds.specs.Fixed.{Fixed}
use Rattle.replay_rounds.specs.Sources.{AreFed}
use Rattle.replay_rounds.specs.Standing.{Standing}
use Rattle.replay_rounds.proofs.Again.{again_brings, again_configured, again_entries, again_last, again_listed, again_moment, again_nothing}
use Rattle.replay_rounds.proofs.Feeds.{fed_on}
use Rattle.replay_rounds.proofs.Nothing.{TakeNothing, nothing-append, nothing_behind, ticked_nothing}
use Rattle.replay_rounds.proofs.Ticks.{NoTick, again_tickless}
use Rattle.daemon_rounds.specs.AtOnce.{Gains}

-- By the list: behind what the session has added a tick begins at this moment, and the session is configured again where that is due. No source
-- had its turn yet.
pub record BeginsTick {S : Type 0} (left : S → List ℕ) (x : Fixed) (added : List Entry) (feeds : List Feeding) (objects : List S) (configured_at moment : ℕ) (old configured : Kept) : Type 0 where
  pub anew : List Entry
  pub tickless : All NoTick anew
  pub brings : AddsEntries old (Ticked moment ∷ anew) configured
  pub at : configured.counts.moment ≡ moment_of ((x.start ++ added) ++ (Ticked moment ∷ anew))
  pub last : last_of configured_in configured_at (Ticked moment ∷ anew) ≡ configured_last (asks_again x.given.config configured_at moment) configured_at moment
  pub fed : x.keeper_tells → AreFed x.source_tells left x.given.config.categories x.start ((x.start ++ added) ++ (Ticked moment ∷ anew)) x.given.sources feeds objects
  pub configures : x.keeper_tells → Legal x.start → model.ConfiguresAgain x.given ((x.start ++ added) ++ Ticked moment ∷ []) moment anew

module _ {S : Type 0} (left : S → List ℕ) (x : Fixed) (added kept : List Entry) (feeds : List Feeding) (objects : List S) (configured_at : ℕ) (old : Kept) (standing : Standing left x added kept feeds objects configured_at old) where
  -- the list with what a state gains has the state's values
  pub values_behind : (es : List Entry) (s : Kept) → Gains old es s → x.keeper_tells → Legal x.start → HasValues ((x.start ++ added) ++ es) s
  values_behind es s more tells legal =
      subst (λ (list : List Entry). HasValues list s) (sym (append_assoc x.start added es)) ((more.stands standing.base added standing.stands).values x.start legal (standing.same tells))

  module _ (moment : ℕ) (ticked configured : Kept) (ticks : AddsEntries old (Ticked moment ∷ []) ticked) (again : ConfiguresAgain (asks_again x.given.config configured_at moment) x.given.config x.given.documents x.given.host moment ticked configured) where
    abbrev asks : Bool
    asks = asks_again x.given.config configured_at moment

    -- the entries by which the session is configured again
    abbrev anew : List Entry
    anew = again_entries asks x.given.config x.given.documents x.given.host moment ticked configured again

    abbrev begun : List Entry
    begun = Ticked moment ∷ anew

    begins : AddsEntries old begun configured
    begins =
        brings_then old ticked configured (Ticked moment ∷ []) anew ticks (again_brings asks x.given.config x.given.documents x.given.host moment ticked configured again)

    -- the round is of the tick's moment by the list too
    at_moment : configured.counts.moment ≡ moment_of ((x.start ++ added) ++ begun)
    at_moment =
        again_moment asks x.given.config x.given.documents x.given.host moment ticked configured again (ap (λ (c : Counts). c.moment) ticks.counts)
        ∙ sym (last_of-append moment_in 0 (x.start ++ added) begun ∙ again_last asks x.given.config x.given.documents x.given.host moment ticked configured again)

    begun_nothing : TakeNothing begun
    begun_nothing =
        nothing-append (Ticked moment ∷ []) anew (ticked_nothing moment) (again_nothing asks x.given.config x.given.documents x.given.host moment ticked configured again)

    last_configured : last_of configured_in 0 (x.start ++ (added ++ Ticked moment ∷ [])) ≡ configured_at
    last_configured =
        last_of-append configured_in 0 x.start (added ++ Ticked moment ∷ []) ∙ last_of-append configured_in (last_of configured_in 0 x.start) added (Ticked moment ∷ []) ∙ standing.configured (last_of configured_in 0 x.start)

    pub begins_tick : BeginsTick left x added feeds objects configured_at moment old configured
    begins_tick = record {
      anew = anew;
      tickless = again_tickless asks x.given.config x.given.documents x.given.host moment ticked configured again;
      brings = begins;
      at = at_moment;
      last = again_configured asks x.given.config x.given.documents x.given.host moment ticked configured again configured_at;
      fed = λ tells. fed_on x.source_tells left x.given.config.categories x.start (x.start ++ added) ((x.start ++ added) ++ begun) x.given.sources feeds objects (nothing_behind (x.start ++ added) begun begun_nothing) (standing.fed tells);
      configures = λ tells legal.
          subst (λ (list : List Entry). model.ConfiguresAgain x.given list moment anew) (sym (append_assoc x.start added (Ticked moment ∷ [])))
          (again_listed x.given moment ticked configured standing.base (added ++ Ticked moment ∷ []) x.start (ticks.stands standing.base added standing.stands) legal (standing.same tells) configured_at again last_configured);
    }
