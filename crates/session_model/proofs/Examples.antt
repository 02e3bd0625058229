-- Worked sessions, checked on the definitions.
use Rattle.std.proofs.Common.{ℕ, inr, false, List, [], ◌∷◌, Some, None, refl, lit≤}
use Rattle.std.proofs.lemmas.List.Elements.{All-nil}
use Rattle.osq_config.specs.declared.config.Config.{Config}
use Rattle.config_files.specs.Configurations.{IsConfigOf}
use Rattle.pack_rules.specs.declared.host.Host.{Host}
use Rattle.pack_rules.specs.declared.schedule.Form.TheVariants as form
use Rattle.pack_rules.specs.declared.schedule.Schedule.{Schedule}
use Rattle.entry_model.specs.declared.entry.Entry.{Entry}
use Rattle.entry_model.specs.declared.entry.Entry.TheVariants.{Opened, Configured, Ticked}
use Rattle.entry_model.specs.Legal.{Legal, LegalNext, MayCome}
use Rattle.pack_rules.specs.Sound.{IsRunnable, IsSound}
use Rattle.session_model.specs.Given.{Given}
use Rattle.session_model.specs.Orders.{in_turn}
use Rattle.session_model.specs.Sessions.{IsSession, quiet}

-- what a configuration gives in which nothing is said
abbrev plain : Config
plain = record { events_expiry = 3600; events_max = 50000; is_batch_form = false; schedule = []; packs = []; categories = [] }

abbrev no_queries : Schedule
no_queries = record { queries = []; events_expiry = 3600; events_max = 50000; form = form.Event }

-- Over no source, such a configuration and an empty list, a session of two ticks opens, is configured once, and ticks twice; the clock goes
-- back before the second tick, which has the moment of the first; and there is no batch that the answers behind it could acknowledge.
module _ (host : Host) (documents : List (List ℕ)) (notes : List ℕ) (is : IsConfigOf documents plain notes) where
  abbrev given : Given
  given = record { host = host; documents = documents; config = plain; sources = []; records = 10000 }

  abbrev entries : List Entry
  entries = Opened 1 2 ∷ Configured documents no_queries 1000 ∷ Ticked 1000 ∷ Ticked 1000 ∷ []

  sound : IsSound no_queries
  sound = record {
    count = lit≤ tt;
    order = refl;
    runnable = All-nil IsRunnable;
    expiry_least = lit≤ tt;
    expiry_most = lit≤ tt;
    max_least = lit≤ tt;
    max_most = lit≤ tt;
  }

  legal : Legal entries
  legal =
      let on : MayCome 1000 1000 = record { later = lit≤ tt; calendar = lit≤ tt } in
      let tick : LegalNext (Opened 1 2 ∷ Configured documents no_queries 1000 ∷ []) (Ticked 1000) = (on, refl, λ table evented. refl) in
      let again : LegalNext (Opened 1 2 ∷ Configured documents no_queries 1000 ∷ Ticked 1000 ∷ []) (Ticked 1000) = (on, refl, λ table evented. refl) in
      ((refl, inr refl), ((sound, record { later = lit≤ tt; calendar = lit≤ tt }), (tick, (again, tt))))

  quiet_session : IsSession in_turn (Unit {0}) given [] (quiet 1000) (record { reading = 940; polled = Some 3 ∷ None ∷ [] } ∷ []) entries
  quiet_session = record {
    notes = notes;
    configuration = is;
    opening = Opened 1 2 ∷ Configured documents no_queries 1000 ∷ [];
    ticks = Ticked 1000 ∷ Ticked 1000 ∷ [];
    opens = record {
      tables = [];
      configured = Configured documents no_queries 1000;
      takes = refl;
      configures = record {
        schedule = no_queries;
        is = record { queries = record { rise = refl; first = λ name. refl }; expiry = refl; max = refl; form = refl };
        are = refl;
      };
      are = refl;
    };
    ticks_at = (
      Ticked 1000 ∷ [],
      Ticked 1000 ∷ [],
      record { configured = []; taken = []; answered = []; configures = refl; takes = refl; answers = refl; none = refl; are = refl },
      (
        Ticked 1000 ∷ [],
        [],
        record { configured = []; taken = []; answered = []; configures = refl; takes = refl; answers = refl; none = refl; are = refl },
        refl,
        refl,
      ),
      refl,
    );
    are = refl;
    legal = legal;
  }
