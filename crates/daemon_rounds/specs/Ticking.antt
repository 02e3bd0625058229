-- A tick.
use Rattle.std.specs.Prelude.{◌≡◌, ℕ, ◌+◌, ◌&&◌, Bool, true, false, nat_le, nat_lt, List, [], ◌∷◌, length}
use Rattle.std.specs.List.{list_any}
use Rattle.osq_config.specs.declared.config.Config.{Config}
use Rattle.osq_config.specs.declared.config.Pack.{Pack}
use Rattle.pack_rules.specs.declared.host.Host.{Host}
use Rattle.source_feeds.specs.Feeding.{Feeding}
use Rattle.entry_model.specs.declared.entry.Entry.TheVariants.{Ticked}
use Rattle.session_state.specs.Kept.{Kept}
use Rattle.session_model.specs.Orders.{Order}
use Rattle.daemon_rounds.specs.Adding.{AddsEntries, AreFree}
use Rattle.daemon_rounds.specs.Configuring.{Configures}
use Rattle.daemon_rounds.specs.Orders.{RoundsIn, SpendsIn}
use Rattle.daemon_rounds.specs.declared.setup.Setup.{Setup}

-- some pack has discovery queries
abbrev pub has_discovery : Config → Bool
has_discovery config = list_any (λ (pack : Pack). nat_lt 0 (length pack.discovery)) config.packs

-- discovery is asked again once 3600 seconds have passed since the last configuration
abbrev pub asks_again : Config → ℕ → ℕ → Bool
asks_again config configured_at moment = has_discovery config && nat_le (configured_at + 3600) moment

abbrev pub ConfiguresAgain : Bool → Config → List (List ℕ) → Host → ℕ → Kept → Kept → Type 0
ConfiguresAgain true config documents host moment old new = Configures config documents host moment old new
ConfiguresAgain false config documents host moment old new = new ≡ old

abbrev pub configured_last : Bool → ℕ → ℕ → ℕ
configured_last true configured_at moment = moment
configured_last false configured_at moment = configured_at

-- A tick begins at this moment, and no query is claimed; directly behind that the session is configured again, where discovery is asked again; and then
-- each source has one turn, in this order.
pub record Fills {S : Type 0} (order : Order) (tells : Type 0) (left : S → List ℕ) (faults : S → ℕ) (setup : Setup) (config : Config) (documents : List (List ℕ)) (configured_at moment : ℕ) (feeds nexts : List Feeding) (sources rests : List S) (old new : Kept) : Type 0 where
  pub ticked : Kept
  pub ticks : AddsEntries old (Ticked moment ∷ []) ticked
  pub free : AreFree ticked.claims
  pub configured : Kept
  pub again : ConfiguresAgain (asks_again config configured_at moment) config documents setup.host moment ticked configured
  pub rounds : RoundsIn order tells left faults setup.records feeds nexts sources rests configured new

-- the same, but no number was left in it
pub record FillsTooMuch {S : Type 0} (order : Order) (tells : Type 0) (left : S → List ℕ) (faults : S → ℕ) (setup : Setup) (config : Config) (documents : List (List ℕ)) (configured_at moment : ℕ) (feeds nexts : List Feeding) (sources rests : List S) (old new : Kept) : Type 0 where
  pub ticked : Kept
  pub ticks : AddsEntries old (Ticked moment ∷ []) ticked
  pub free : AreFree ticked.claims
  pub configured : Kept
  pub again : ConfiguresAgain (asks_again config configured_at moment) config documents setup.host moment ticked configured
  pub overflows : SpendsIn order tells left faults setup.records feeds nexts sources rests configured new
