-- A session is configured again, by the state and by the list.
use Rattle.std.proofs.Common.{◌≡◌, ℕ, ◌+◌, Bool, true, false, List, [], ◌∷◌, ◌++◌, refl, sym, ap, ◌∙◌, subst}
use Rattle.std.specs.Prelude.{◌&&◌, nat_le}
use Rattle.osq_config.specs.declared.config.Config.{Config}
use Rattle.pack_rules.specs.declared.host.Host.{Host}
use Rattle.entry_model.specs.declared.entry.Entry.{Entry}
use Rattle.entry_model.specs.declared.entry.Entry.TheVariants.{Configured}
use Rattle.entry_model.specs.declared.restored.Restored.{Restored}
use Rattle.entry_model.specs.Legal.{Legal}
use Rattle.entry_model.specs.Summary.{summary}
use Rattle.entry_model.specs.Values.{last_of, moment_in}
use Rattle.session_model.specs.Configuring as model
use Rattle.session_model.specs.Configuring.{ConfiguresBy, configured_in, has_discovery}
use Rattle.session_model.specs.Given.{Given}
use Rattle.session_state.specs.Kept.{Counts, Kept}
use Rattle.session_state.specs.StateOf.{IsStateOf}
use Rattle.daemon_rounds.specs.Adding.{AddsEntries}
use Rattle.daemon_rounds.specs.Ticking.{ConfiguresAgain, asks_again, configured_last}
use Rattle.daemon_rounds.proofs.Adding.{brings_same}
use Rattle.replay_rounds.proofs.Nothing.{TakeNothing, configured_nothing, none_nothing}

-- the entries by which it is
abbrev pub again_entries : (asks : Bool) (config : Config) (documents : List (List ℕ)) (host : Host) (moment : ℕ) (old new : Kept) → ConfiguresAgain asks config documents host moment old new → List Entry
again_entries true config documents host moment old new configures =
    Configured documents configures.schedule moment ∷ []
again_entries false config documents host moment old new same = []

pub again_brings : (asks : Bool) (config : Config) (documents : List (List ℕ)) (host : Host) (moment : ℕ) (old new : Kept) (again : ConfiguresAgain asks config documents host moment old new) → AddsEntries old (again_entries asks config documents host moment old new again) new
again_brings true config documents host moment old new configures = configures.brings
again_brings false config documents host moment old new same = subst (AddsEntries old []) (sym same) (brings_same old)

-- the moment is the tick's
pub again_moment : (asks : Bool) (config : Config) (documents : List (List ℕ)) (host : Host) (moment : ℕ) (old new : Kept) (again : ConfiguresAgain asks config documents host moment old new) → old.counts.moment ≡ moment → new.counts.moment ≡ moment
again_moment true config documents host moment old new configures at =
    ap (λ (c : Counts). c.moment) configures.brings.counts
again_moment false config documents host moment old new same at = ap (λ (s : Kept). s.counts.moment) same ∙ at

pub again_last : (asks : Bool) (config : Config) (documents : List (List ℕ)) (host : Host) (moment : ℕ) (old new : Kept) (again : ConfiguresAgain asks config documents host moment old new) → last_of moment_in moment (again_entries asks config documents host moment old new again) ≡ moment
again_last true config documents host moment old new configures = refl
again_last false config documents host moment old new same = refl

-- when the session was configured last
pub again_configured : (asks : Bool) (config : Config) (documents : List (List ℕ)) (host : Host) (moment : ℕ) (old new : Kept) (again : ConfiguresAgain asks config documents host moment old new) (before : ℕ) → last_of configured_in before (again_entries asks config documents host moment old new again) ≡ configured_last asks before moment
again_configured true config documents host moment old new configures before = refl
again_configured false config documents host moment old new same before = refl

pub again_nothing : (asks : Bool) (config : Config) (documents : List (List ℕ)) (host : Host) (moment : ℕ) (old new : Kept) (again : ConfiguresAgain asks config documents host moment old new) → TakeNothing (again_entries asks config documents host moment old new again)
again_nothing true config documents host moment old new configures =
    configured_nothing documents configures.schedule moment
again_nothing false config documents host moment old new same = none_nothing

module _ (given : Given) (moment : ℕ) (old new : Kept) (base : Restored) (added before : List Entry) (stands : IsStateOf base added old) (legal : Legal before) (same : summary before ≡ base) where
  by_list : (asks : Bool) (again : ConfiguresAgain asks given.config given.documents given.host moment old new) → ConfiguresBy asks given (before ++ added) moment (again_entries asks given.config given.documents given.host moment old new again)
  by_list true configures =
      (Configured given.documents configures.schedule moment, record { schedule = configures.schedule; is = configures.of_list base added stands before legal same; are = refl }, refl)
  by_list false same = refl

  -- so it is by the list, which was configured last at this moment
  pub again_listed : (configured_at : ℕ) (again : ConfiguresAgain (asks_again given.config configured_at moment) given.config given.documents given.host moment old new) → last_of configured_in 0 (before ++ added) ≡ configured_at
      → model.ConfiguresAgain given (before ++ added) moment (again_entries (asks_again given.config configured_at moment) given.config given.documents given.host moment old new again)
  again_listed configured_at again last =
      subst (λ (asks : Bool). ConfiguresBy asks given (before ++ added) moment (again_entries (asks_again given.config configured_at moment) given.config given.documents given.host moment old new again)) (sym outdated) (by_list (asks_again given.config configured_at moment) again)
    where
      outdated : model.is_outdated given (before ++ added) moment ≡ asks_again given.config configured_at moment
      outdated = ap (λ (at : ℕ). has_discovery given.config && nat_le (at + 3600) moment) last
