-- What stays the same in a session.
use Rattle.std.specs.Prelude.{ℕ, Bool, List}
use Rattle.osq_config.specs.declared.config.Config.{Config}
use Rattle.osq_outside.specs.declared.sink.Sink as sink_trait
use Rattle.osq_outside.specs.declared.source.Source as source_trait
use Rattle.entry_model.specs.declared.entry.Entry.{Entry}
use Rattle.batch_forwarder.specs.declared.link.Link as link_trait
use Rattle.batch_keeper.specs.declared.keeper.Keeper as keeper_trait
use Rattle.forward_rounds.specs.Forwarding.{View, view_of}
use Rattle.session_model.specs.Orders.{Order}
use Rattle.session_model.specs.Given.{Given}
use Rattle.daemon_rounds.specs.declared.setup.Setup.{Setup}
use Rattle.replay_rounds.specs.Sources.{sources_of}
use Rattle.replay_rounds.specs.declared.basis.Basis.{Basis}

-- Whether a session forwards what it seals; whether its link tells what it holds, and what that was before it.
pub record Linked : Type 1 where
  pub forwards : Bool
  pub tells : Type 0
  pub before : View

-- In which order its ticks are worked on; whether the keeper, the sink and the sources tell what they hold; what the session is given; the kept list
-- and the results before it; and its link.
pub record Fixed : Type 1 where
  pub order : Order
  pub keeper_tells : Type 0
  pub sink_tells : Type 0
  pub source_tells : Type 0
  pub given : Given
  pub start : List Entry
  pub written : List ℕ
  pub link : Linked

-- A run of a session: what stays the same in it, and which readings its clock gave, one after another.
pub record Run : Type 1 where
  pub fixed : Fixed
  pub has_read : List ℕ → Type 0

-- a session of this setup is given this configuration, and of each source what its object has left
abbrev pub given_of : {S : Type 0} → Setup → Config → List (List ℕ) → (S → List ℕ) → List S → Given
given_of setup config documents left objects =
    record { host = setup.host; documents = documents; config = config; sources = sources_of left setup.sources objects; records = setup.records }

-- what stays the same in a session over objects of which it is known what they tell
abbrev pub fixed_with : {S : Type 0} (order : Order) (keeper_tells sink_tells source_tells : Type 0) → (S → List ℕ) → Setup → Config → List (List ℕ) → List S → List Entry → List ℕ → Linked → Fixed
fixed_with order keeper_tells sink_tells source_tells left setup config documents objects start written link =
    record {
      order = order;
      keeper_tells = keeper_tells;
      sink_tells = sink_tells;
      source_tells = source_tells;
      given = given_of setup config documents left objects;
      start = start;
      written = written;
      link = link;
    }

-- the link of a session of this setup
abbrev pub linked_by : {L : Type 0} → link_trait.Ghosts L → Setup → L → Linked
linked_by link setup before = record { forwards = setup.forward; tells = link.tells; before = view_of link before }

-- what stays the same in a session over these objects
abbrev pub fixed_of : {K O S L : Type 0} → Order → keeper_trait.Ghosts K → sink_trait.Ghosts O → source_trait.Ghosts S → link_trait.Ghosts L → Basis → List S → K → O → L → Fixed
fixed_of order keeper sink source link basis objects before results answers =
    fixed_with order keeper.tells sink.tells source.tells source.left basis.setup basis.configured.config basis.configured.documents objects (keeper.kept before) (sink.written results) (linked_by link basis.setup answers)
