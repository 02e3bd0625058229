-- What a state gains in a tick, and how it is behind it.
use Rattle.std.proofs.Common.{◌≡◌, ◌≤◌, ℕ, Bool, true, false, List, [], ◌∷◌, ◌++◌, Option, Some, None, refl, sym, ap, ◌∙◌, subst, arith}
use Rattle.std.specs.Prelude.{filter_map, option_map}
use Rattle.std.specs.List.{cons_option}
use Rattle.osq_config.specs.declared.config.Config.{Config}
use Rattle.pack_rules.specs.declared.host.Host.{Host}
use Rattle.source_feeds.specs.Feeding.{Feeding}
use Rattle.entry_model.specs.declared.entry.Batch.{Batch}
use Rattle.entry_model.specs.declared.entry.Entry.{Entry}
use Rattle.entry_model.specs.declared.entry.Entry.TheVariants.{Expired, Ticked}
use Rattle.entry_model.specs.declared.restored.Taken.{Taken}
use Rattle.session_state.specs.Kept.{Counts, Kept}
use Rattle.session_state.specs.Ticks.{owed_at}
use Rattle.daemon_rounds.specs.Adding.{counts_after}
use Rattle.daemon_rounds.specs.Answering.{committed_all}
use Rattle.daemon_rounds.specs.Keeping.{GoesOn, Settles}
use Rattle.daemon_rounds.specs.Rounding.{AreGoing}
use Rattle.daemon_rounds.specs.Telling.{AreTellable}
use Rattle.daemon_rounds.specs.Ticking.{ConfiguresAgain, Fills, asks_again, configured_last}
use Rattle.daemon_rounds.specs.declared.setup.Setup.{Setup}
use Rattle.daemon_rounds.proofs.Adding.{counts-append, gains_of, gains_then}
use Rattle.daemon_rounds.proofs.Keeping.{still_on, tellable-append}
use Rattle.replay_rounds.specs.Standing.{IsReady}
use Rattle.replay_rounds.proofs.Again.{again_brings, again_entries, again_moment}
use Rattle.session_model.specs.Orders.{Order}
use Rattle.replay_rounds.proofs.Rounds.{Gives, gives, plain_moment}
use Rattle.daemon_rounds.specs.AtOnce.{Gains}

again_tellable : (asks : Bool) (config : Config) (documents : List (List ℕ)) (host : Host) (moment : ℕ) (old new : Kept) (again : ConfiguresAgain asks config documents host moment old new) → AreTellable (again_entries asks config documents host moment old new again)
again_tellable true config documents host moment old new configures = (tt, tt)
again_tellable false config documents host moment old new same = tt

module _ {S : Type 0} (order : Order) (tells : Type 0) (left : S → List ℕ) (faults : S → ℕ) (setup : Setup) (config : Config) (documents : List (List ℕ)) (configured_at moment : ℕ) (feeds nexts : List Feeding) (objects rests : List S) (old new : Kept) (fills : Fills order tells left faults setup config documents configured_at moment feeds nexts objects rests old new) where
  abbrev again : List Entry
  again =
      again_entries (asks_again config configured_at moment) config documents setup.host moment fills.ticked fills.configured fills.again

  round : Gives tells left faults setup.records feeds nexts objects rests fills.configured new
  round = gives order tells left faults setup.records feeds nexts objects rests fills.configured new fills.rounds

  again_gains : Gains fills.ticked again fills.configured
  again_gains =
      gains_of fills.ticked fills.configured again (again_brings (asks_again config configured_at moment) config documents setup.host moment fills.ticked fills.configured fills.again)

  filled : Gains old ((Ticked moment ∷ []) ++ again ++ round.body) new
  filled =
      gains_then old fills.ticked new (Ticked moment ∷ []) (again ++ round.body) (gains_of old fills.ticked (Ticked moment ∷ []) fills.ticks) (gains_then fills.ticked fills.configured new again round.body again_gains round.gains)

  -- the state goes on from the keeper's list
  pub filled_on : (told : Type 0) (kept : List Entry) → GoesOn told kept old → GoesOn told kept new
  filled_on told kept on = still_on told kept old new ((Ticked moment ∷ []) ++ again ++ round.body) on filled

  -- its tail can be told
  pub filled_tellable : AreTellable old.tail → AreTellable new.tail
  filled_tellable tellable =
      subst AreTellable (sym filled.tail) (tellable-append old.tail ((Ticked moment ∷ []) ++ again ++ round.body) tellable (tt, tellable-append again round.body (again_tellable (asks_again config configured_at moment) config documents setup.host moment fills.ticked fills.configured fills.again) round.tellable))

  pub filled_moment : new.counts.moment ≡ moment
  filled_moment =
      ap (λ (c : Counts). c.moment) round.gains.counts ∙ plain_moment round.body round.plain fills.configured.counts
      ∙ again_moment (asks_again config configured_at moment) config documents setup.host moment fills.ticked fills.configured fills.again (ap (λ (c : Counts). c.moment) fills.ticks.counts)

-- entries that move neither the moment nor an offset
pub record AreQuiet (entries : List Entry) : Type 0 where
  pub moment : (counts : Counts) → (counts_after counts entries).moment ≡ counts.moment
  pub taken : (counts : Counts) → (counts_after counts entries).taken ≡ counts.taken

quiet-append : (xs ys : List Entry) → AreQuiet xs → AreQuiet ys → AreQuiet (xs ++ ys)
quiet-append xs ys first second = record {
  moment = λ counts. ap (λ (c : Counts). c.moment) (counts-append counts xs ys) ∙ second.moment (counts_after counts xs) ∙ first.moment counts;
  taken = λ counts. ap (λ (c : Counts). c.taken) (counts-append counts xs ys) ∙ second.taken (counts_after counts xs) ∙ first.taken counts;
}

committed_moment : (batches : List Batch) (counts : Counts) → (counts_after counts (committed_all batches)).moment ≡ counts.moment
committed_moment [] counts = refl
committed_moment (batch ∷ batches) counts = committed_moment batches _

committed_taken : (batches : List Batch) (counts : Counts) → (counts_after counts (committed_all batches)).taken ≡ counts.taken
committed_taken [] counts = refl
committed_taken (batch ∷ batches) counts = committed_taken batches _

expired_or_none : (o : Option ℕ) (table moment : ℕ) (rest : List Entry) → AreQuiet rest → AreQuiet (cons_option (option_map (λ (floor : ℕ). Expired (record { 0 = table }) floor moment) o) rest)
expired_or_none None table moment rest quiet = quiet
expired_or_none (Some floor) table moment rest quiet =
    record { moment = λ counts. quiet.moment _; taken = λ counts. quiet.taken _ }

expired_quiet : (owed : ℕ → Option ℕ) (moment : ℕ) (tables : List ℕ) → AreQuiet (filter_map (λ (table : ℕ). option_map (λ (floor : ℕ). Expired (record { 0 = table }) floor moment) (owed table)) tables)
expired_quiet owed moment [] = record { moment = λ counts. refl; taken = λ counts. refl }
expired_quiet owed moment (table ∷ tables) =
    expired_or_none (owed table) table moment (filter_map (λ (table : ℕ). option_map (λ (floor : ℕ). Expired (record { 0 = table }) floor moment) (owed table)) tables) (expired_quiet owed moment tables)

-- what a settled state gained
settled_quiet : (old new : Kept) (settles : Settles old new) → AreQuiet (committed_all settles.batches ++ settles.expired)
settled_quiet old new settles =
    quiet-append (committed_all settles.batches) settles.expired (record { moment = committed_moment settles.batches; taken = committed_taken settles.batches }) (subst AreQuiet (sym settles.are) (expired_quiet (owed_at settles.between) settles.between.counts.moment (0 ∷ 1 ∷ 2 ∷ [])))

last_before : (asks : Bool) (at moment : ℕ) → at ≤ moment → configured_last asks at moment ≤ moment
last_before true at moment before = omega arith
last_before false at moment before = before

-- behind the seal of a settled state the next tick may begin
pub ready_behind : (feeds : List Feeding) (asks : Bool) (at last moment : ℕ) (filled settled new : Kept) → filled.counts.moment ≡ moment → AreGoing filled.counts.taken feeds → Settles filled settled → new ≡ record settled { tail = [] } → at ≤ moment → last ≡ configured_last asks at moment → IsReady feeds last new
ready_behind feeds asks at last moment filled settled new now going settles is before last_is = subst (IsReady feeds last) (sym is) (record {
  before =
      let quiet = ap (λ (c : Counts). c.moment) settles.brings.counts ∙ (settled_quiet filled settled settles).moment filled.counts in
      let low = last_before asks at moment before in
      omega (arith, quiet, now, low, last_is);
  answered = settles.answered;
  settled = settles.settled;
  going = subst (λ (offsets : List Taken). AreGoing offsets feeds) (sym (ap (λ (c : Counts). c.taken) settles.brings.counts ∙ (settled_quiet filled settled settles).taken filled.counts)) going;
  tellable = tt;
})
