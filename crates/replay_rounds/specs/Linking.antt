-- What a session forwards, and what answers it polls.
use Rattle.std.specs.Prelude.{◌≡◌, ◌⊎◌, ℕ, max, Bool, true, false, List, [], ◌∷◌, ◌++◌, flat_map, map, Option}
use Rattle.batch_forwarder.specs.Polling.{AreMarks}
use Rattle.batch_forwarder.specs.declared.link.Link as link_trait
use Rattle.batch_keeper.specs.declared.keeper.Keeper as keeper_trait
use Rattle.forward_rounds.specs.Forwarding.{Forwards, View, view_of}
use Rattle.entry_model.specs.declared.entry.Entry.{Entry}
use Rattle.entry_model.specs.declared.entry.Entry.TheVariants.{Acked}
use Rattle.entry_model.specs.Legal.{Legal}
use Rattle.entry_model.specs.Values.{moment_of}
use Rattle.entry_model.specs.Views.{is_evented_table}
use Rattle.session_model.specs.Orders.{TicksIn}
use Rattle.session_model.specs.Sessions.{Beat, Opens}
use Rattle.session_model.specs.Working.{acks_of}
use Rattle.session_state.specs.Kept.{Kept}
use Rattle.session_state.specs.Ticks.{first_due, owed_at}
use Rattle.daemon_rounds.specs.Adding.{AddsEntries}
use Rattle.replay_rounds.specs.Fixed.{Fixed, Linked}
use Rattle.replay_rounds.specs.declared.basis.Basis.{Basis}
use Rattle.replay_rounds.specs.declared.refused.RunError.{RunError}
use Rattle.replay_rounds.specs.declared.refused.RunError.TheVariants as running

-- the clock's readings at these beats
abbrev pub readings_of : List Beat → List ℕ
readings_of beats = map (λ (beat : Beat). beat.reading) beats

-- the marks of all answers that were polled at these beats
abbrev pub polled_at : List Beat → List (Option ℕ)
polled_at beats = flat_map (λ (beat : Beat). beat.polled) beats

-- without a link there are none; with one they are the marks that the first of the answers give the host which waited at first
abbrev pub HeardBy : Bool → Linked → List ℕ → List (Option ℕ) → Type 0
HeardBy false link host marks = marks ≡ []
HeardBy true link host marks =
    (lines : List (List ℕ)) × AreMarks host lines marks × (link.tells → (rest : List (List ℕ)) × (link.before.waiting ≡ lines ++ rest))

abbrev pub Heard : Fixed → List Beat → Type 0
Heard x beats = HeardBy x.link.forwards x.link x.given.host.identifier (polled_at beats)

-- behind this sealed list a session forwarded, where it has a link, and these are the marks that it polled
abbrev pub ForwardsBy : Bool → Type 0 → List ℕ → List Entry → List (Option ℕ) → View → View → Type 0
ForwardsBy false tells host kept found before after = (found ≡ []) × (after ≡ before)
ForwardsBy true tells host kept found before after = Forwards tells host kept found before after

-- A tick at each of these beats, and what was forwarded behind its seal. From one to the next the link goes on as it was left.
abbrev pub ForwardsAt : Fixed → List Entry → List Beat → List Entry → View → View → Type 0
ForwardsAt x kept [] entries before after = (entries ≡ []) × (after ≡ before)
ForwardsAt x kept (beat ∷ beats) entries before after =
    (own others : List Entry) × (between : View) × TicksIn x.order x.source_tells x.given kept (max beat.reading (moment_of kept)) own
    × ForwardsBy x.link.forwards x.link.tells x.given.host.identifier (kept ++ own) beat.polled before between
    × ForwardsAt x (kept ++ (own ++ acks_of (kept ++ own) beat.polled)) beats others between after × (entries ≡ (own ++ acks_of (kept ++ own) beat.polled) ++ others)

-- a session at these beats forwarded behind each of its ticks, and left its link so
abbrev pub HasForwarded : Fixed → List Beat → List Entry → View → Type 0
HasForwarded x [] entries after = ⊥
HasForwarded x (first ∷ beats) entries after =
    (opening ticks : List Entry) × Opens x.source_tells x.given x.start first.reading opening × ForwardsAt x (x.start ++ opening) (first ∷ beats) ticks x.link.before after × (entries ≡ opening ++ ticks)

-- What a session heard behind a tick, where the list is sealed: these marks are what is acknowledged behind it. Without a link nothing is.
pub record IsHeard (legal : Type 0) (forwards : Bool) (tells : Type 0) (host : List ℕ) (kept : List Entry) (marks : List ℕ) (before after : View) : Type 0 where
  pub found : List (Option ℕ)
  pub quiet : forwards ≡ false → (found ≡ []) × (marks ≡ [])
  pub acks_are : legal → map Acked marks ≡ acks_of kept found
  pub by : legal → ForwardsBy forwards tells host kept found before after

-- the same of objects, by what they tell
abbrev pub IsHeardOf : {K L : Type 0} → keeper_trait.Ghosts K → link_trait.Ghosts L → Basis → K → List ℕ → L → L → Type 0
IsHeardOf keeper link basis k marks l m =
    IsHeard (keeper.tells × Legal (keeper.kept k)) basis.setup.forward link.tells basis.setup.host.identifier (keeper.kept k) marks (view_of link l) (view_of link m)

-- the state has an acknowledgement more for each of these marks; what keeps a tick from beginning is as before
pub record IsAcked (old : Kept) (marks : List ℕ) (new : Kept) : Type 0 where
  pub adds : AddsEntries old (map Acked marks) new
  pub due : first_due new ≡ first_due old
  pub owed : (table : ℕ) → is_evented_table table ≡ true → owed_at new table ≡ owed_at old table

-- these marks are acknowledged, and that is sealed
pub record IsSealedBy (keeper_tells : Type 0) (kept_before kept_after : List Entry) (marks : List ℕ) (old new : Kept) : Type 0 where
  pub between : Kept
  pub acked : IsAcked old marks between
  pub taken : new ≡ record between { tail = [] }
  pub kept : keeper_tells → kept_after ≡ kept_before ++ map Acked marks

-- so it is with what was heard behind the last tick
pub record IsOver (legal : Type 0) (forwards : Bool) (keeper_tells tells : Type 0) (host : List ℕ) (kept_before kept_after : List Entry) (old new : Kept) (before after : View) : Type 0 where
  pub marks : List ℕ
  pub heard : IsHeard legal forwards tells host kept_before marks before after
  pub sealed : IsSealedBy keeper_tells kept_before kept_after marks old new

abbrev pub IsOverOf : {K L : Type 0} → keeper_trait.Ghosts K → link_trait.Ghosts L → Basis → K → K → Kept → Kept → L → L → Type 0
IsOverOf keeper link basis k j old new l m =
    IsOver (keeper.tells × Legal (keeper.kept k)) basis.setup.forward keeper.tells link.tells basis.setup.host.identifier (keeper.kept k) (keeper.kept j) old new (view_of link l) (view_of link m)

-- where the keeper failed behind the last tick, its list is as it was, or has all that is acknowledged
abbrev pub IsPartlyOver : {K L : Type 0} → keeper_trait.Ghosts K → link_trait.Ghosts L → Basis → K → K → L → L → Type 0
IsPartlyOver keeper link basis k j l m =
    (keeper.kept j ≡ keeper.kept k) ⊎ ((marks : List ℕ) × IsHeardOf keeper link basis k marks l m × (keeper.kept j ≡ keeper.kept k ++ map Acked marks))

-- why nothing was forwarded or acknowledged: the keeper failed, or memory was wanting
abbrev pub IsUnforwarded : Type 0 → RunError → Type 0
IsUnforwarded failed running.KeeperFault = failed
IsUnforwarded failed running.NoMemory = Unit {0}
IsUnforwarded failed error = ⊥
