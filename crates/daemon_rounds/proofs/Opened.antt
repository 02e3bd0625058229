-- What a session has once it is open.
use Rattle.std.proofs.Common.{◌≡◌, ℕ, suc, ◌+◌, ◌≤◌, Bool, true, false, List, [], ◌∷◌, ◌++◌, length, map, Some, None, refl, sym, ap, ◌∙◌, subst, append_assoc, arith, length-append}
use Rattle.std.specs.Prelude.{if◌then◌else◌}
use Rattle.std.proofs.lemmas.List.{append-nil, length-map}
use Rattle.osq_config.specs.declared.config.Config.{Config}
use Rattle.osq_value.specs.declared.reading.Reading.{Reading}
use Rattle.osq_value.specs.declared.reading.Reading.TheVariants.{Events, Table}
use Rattle.pack_rules.specs.declared.host.Host.{Host}
use Rattle.query_answers.specs.Discovery.{is_found}
use Rattle.source_feeds.specs.Feeding.{Feeding}
use Rattle.source_feeds.proofs.Cuts.{cons_same, head_same, tail_same}
use Rattle.sql_meaning.specs.Meaning.{View}
use Rattle.event_store.specs.Contents.{rows_in}
use Rattle.entry_model.specs.declared.entry.Entry.{Entry}
use Rattle.entry_model.specs.declared.entry.Entry.TheVariants.{Opened, Configured}
use Rattle.entry_model.specs.declared.restored.Restored.{Restored}
use Rattle.entry_model.specs.declared.restored.Taken.{Taken}
use Rattle.entry_model.specs.Summary.{summary}
use Rattle.entry_model.specs.Values.{last_of, tick_in}
use Rattle.entry_model.specs.Views.{is_evented_table}
use Rattle.entry_model.proofs.Lasts.{last_of-append}
use Rattle.session_state.specs.Computed.{shown_by}
use Rattle.session_state.specs.Kept.{Counts, IsState, Kept}
use Rattle.session_state.specs.StateOf.{Begins, IsStateOf}
use Rattle.session_state.specs.Ticks.{first_due, owed_at}
use Rattle.daemon_rounds.specs.Adding.{AddsEntries, counts_after}
use Rattle.daemon_rounds.specs.Appending.{entries_of}
use Rattle.daemon_rounds.specs.Keeping.{GoesOn}
use Rattle.daemon_rounds.specs.Telling.{AreTellable}
use Rattle.daemon_rounds.specs.Turns.{Turn, turn_entries}
use Rattle.daemon_rounds.specs.Rounding.{AreGoing, Overflows, Rounds, round_entries}
use Rattle.daemon_rounds.specs.Configuring.{Configures, tables_of}
use Rattle.daemon_rounds.specs.Opening.{IsFoundBy, IsOpened, Opens, OpensTooMuch, opening_entries}
use Rattle.daemon_rounds.specs.declared.turning.Which.TheVariants as which
use Rattle.daemon_rounds.proofs.Adding.{counts-append}
use Rattle.daemon_rounds.proofs.Configured.{tables_same}
use Rattle.daemon_rounds.proofs.Keeping.{readings_tellable, tellable-append}
use Rattle.daemon_rounds.proofs.Turned.{moment_same}

-- a round doesn't move the moment
pub round_moment : {S : Type 0} (counts : Counts) (moment : ℕ) (turns : List (Turn S)) → (counts_after counts (round_entries moment turns)).moment ≡ counts.moment
round_moment counts moment [] = refl
round_moment counts moment (turn ∷ turns) =
    ap (λ (c : Counts). c.moment) (counts-append counts (turn_entries moment turn) (round_entries moment turns)) ∙ round_moment (counts_after counts (turn_entries moment turn)) moment turns ∙ moment_same counts turn.feed.name moment turn.readings

ticked_by_readings : (b : Bool) (source : List ℕ) (moment : ℕ) (readings : List Reading) → last_of tick_in b (entries_of source moment readings) ≡ b
ticked_by_readings b source moment [] = refl
ticked_by_readings b source moment (Events taken events skipped ∷ readings) =
    ticked_by_readings b source moment readings
ticked_by_readings b source moment (Table taken table rows ∷ readings) =
    ticked_by_readings b source moment readings

-- nor does it begin a tick
pub round_ticked : {S : Type 0} (b : Bool) (moment : ℕ) (turns : List (Turn S)) → last_of tick_in b (round_entries moment turns) ≡ b
round_ticked b moment [] = refl
round_ticked b moment (turn ∷ turns) =
    last_of-append tick_in b (turn_entries moment turn) (round_entries moment turns) ∙ ap (λ (b : Bool). last_of tick_in b (round_entries moment turns)) (ticked_by_readings b turn.feed.name moment turn.readings) ∙ round_ticked b moment turns

-- lines can tell of it
pub round_tellable : {S : Type 0} (moment : ℕ) (turns : List (Turn S)) → AreTellable (round_entries moment turns)
round_tellable moment [] = tt
round_tellable moment (turn ∷ turns) =
    tellable-append (turn_entries moment turn) (round_entries moment turns) (readings_tellable turn.feed.name moment turn.readings) (round_tellable moment turns)

module _ {S : Type 0} (tells : Type 0) (left : S → List ℕ) (faults : S → ℕ) (most : ℕ) (restored : Restored) (feeds nexts : List Feeding) (sources rests : List S) (begun filled : Kept) (begins : Begins restored begun) where
  begun_moment : begun.counts.moment ≡ restored.moment
  begun_moment = ap (λ (c : Counts). c.moment) begins.counts

  pub begun_taken : begun.counts.taken ≡ restored.taken
  begun_taken = ap (λ (c : Counts). c.taken) begins.counts

  -- the feeds go on from what the session began with
  pub begun_going : AreGoing restored.taken feeds → AreGoing begun.counts.taken feeds
  begun_going going = subst (λ (taken : List Taken). AreGoing taken feeds) (sym begun_taken) going

  pub opens_too_much : (last : Kept) → Overflows tells left faults which.Tables most feeds nexts sources rests begun last → OpensTooMuch tells left faults most restored feeds nexts sources rests
  opens_too_much last overflows = record { begun = begun; last = last; begins = begins; overflows = overflows }

  module _ (tables : Rounds tells left faults which.Tables most feeds nexts sources rests begun filled) where
    pub filled_moment : filled.counts.moment ≡ restored.moment
    filled_moment =
        ap (λ (c : Counts). c.moment) tables.brings.counts ∙ round_moment begun.counts begun.counts.moment tables.turns ∙ begun_moment

    module _ (config : Config) (documents : List (List ℕ)) (host : Host) (moment : ℕ) (state : Kept) (configures : Configures config documents host moment filled state) where
      abbrev configured : Entry
      configured = Configured documents configures.schedule moment

      abbrev opened : Entry
      opened = Opened (restored.sessions + 1) 2

      round_is : round_entries begun.counts.moment tables.turns ≡ round_entries restored.moment tables.turns
      round_is = ap (λ (at : ℕ). round_entries at tables.turns) begun_moment

      stands : IsStateOf restored (opened ∷ round_entries begun.counts.moment tables.turns ++ configured ∷ []) state
      stands =
          configures.brings.stands restored (opened ∷ round_entries begun.counts.moment tables.turns) (tables.brings.stands restored (opened ∷ []) begins.stands)

      tail_is : state.tail ≡ opened ∷ round_entries begun.counts.moment tables.turns ++ configured ∷ []
      tail_is =
          configures.brings.tail ∙ ap (λ (es : List Entry). es ++ configured ∷ []) (tables.brings.tail ∙ ap (λ (es : List Entry). es ++ round_entries begun.counts.moment tables.turns) begins.tail)

      is_opened : IsOpened restored (opening_entries restored tables.turns documents configures.schedule moment) state
      is_opened = record {
        stands = subst (λ (es : List Entry). IsStateOf restored (opened ∷ es ++ configured ∷ []) state) round_is stands;
        tail = tail_is ∙ ap (λ (es : List Entry). opened ∷ es ++ configured ∷ []) round_is;
        tellable = tellable-append (opened ∷ round_entries restored.moment tables.turns) (configured ∷ []) (tt, round_tellable restored.moment tables.turns) (tt, tt);
        unticked = configures.brings.ticked ∙ tables.brings.ticked ∙ round_ticked begun.ticked begun.counts.moment tables.turns ∙ begins.ticked;
      }

      pub opens : Opens tells left faults most restored config documents host moment feeds nexts sources rests state
      opens =
          record { begun = begun; filled = filled; begins = begins; tables = tables; configures = configures; opened = is_opened }

      pub still_going : AreGoing filled.counts.taken nexts → AreGoing state.counts.taken nexts
      still_going going =
          subst (λ (taken : List Taken). AreGoing taken nexts) (sym (ap (λ (c : Counts). c.taken) configures.brings.counts)) going

-- what stands before the last of some entries
front_same : (xs ys : List Entry) (x y : Entry) → xs ++ x ∷ [] ≡ ys ++ y ∷ [] → xs ≡ ys
front_same [] [] x y same = refl
front_same [] (other ∷ ys) x y same = let size = ap length same ∙ ap suc (length-append ys (y ∷ [])) in absurd (omega (arith, size))
front_same (first ∷ xs) [] x y same = let size = sym (ap suc (length-append xs (x ∷ []))) ∙ ap length same in absurd (omega (arith, size))
front_same (first ∷ xs) (other ∷ ys) x y same = cons_same (head_same same) (front_same xs ys x y (tail_same same))

-- the packs that discovery finds directly before the session is configured
pub found_by : (restored : Restored) (config : Config) (moment : ℕ) (filled state : Kept) (entries : List Entry) (configured : Entry) (found : List Bool) → IsState filled → found ≡ map (is_found (rows_in (shown_by filled filled.image.last moment))) config.packs → IsStateOf restored entries filled → state.tail ≡ entries ++ configured ∷ [] → IsFoundBy restored config moment state found
found_by restored config moment filled state entries configured found is found_are stands tail = record {
  size = ap length found_are ∙ length-map config.packs (is_found (rows_in (shown_by filled filled.image.last moment)));
  of_list = λ before front last legal whole ends.
      let same : entries ≡ front = front_same entries front configured last (sym tail ∙ ends) in
      found_are ∙ ap (λ (view : View). map (is_found view) config.packs) (tables_same (before ++ entries) filled moment is (stands.values before legal whole) ∙ ap (λ (es : List Entry). tables_of (before ++ es) moment) same);
}

-- the packs that are found directly before a session's first configuration
pub opens_found : {S : Type 0} (tells : Type 0) (left : S → List ℕ) (faults : S → ℕ) (most : ℕ) (restored : Restored) (feeds nexts : List Feeding) (sources rests : List S) (begun filled : Kept) (begins : Begins restored begun) (tables : Rounds tells left faults which.Tables most feeds nexts sources rests begun filled) (config : Config) (documents : List (List ℕ)) (host : Host) (moment : ℕ) (state : Kept) (configures : Configures config documents host moment filled state) (found : List Bool) → IsState filled → found ≡ map (is_found (rows_in (shown_by filled filled.image.last moment))) config.packs → IsFoundBy restored config moment state found
opens_found tells left faults most restored feeds nexts sources rests begun filled begins tables config documents host moment state configures found is found_are =
    found_by restored config moment filled state (Opened (restored.sessions + 1) 2 ∷ round_entries begun.counts.moment tables.turns) (Configured documents configures.schedule moment) found is found_are (tables.brings.stands restored (Opened (restored.sessions + 1) 2 ∷ []) begins.stands)
    (configures.brings.tail ∙ ap (λ (es : List Entry). es ++ Configured documents configures.schedule moment ∷ []) (tables.brings.tail ∙ ap (λ (es : List Entry). es ++ round_entries begun.counts.moment tables.turns) begins.tail))

-- what is open goes on from the keeper's list, where that has these values
pub opened_goes_on : (tells : Type 0) (kept : List Entry) (restored : Restored) (entries : List Entry) (state : Kept) → IsOpened restored entries state → (tells → restored ≡ summary kept) → GoesOn tells kept state
opened_goes_on tells kept restored entries state is same = record {
  base = restored;
  sealed = [];
  stands = subst (λ (es : List Entry). IsStateOf restored es state) (sym is.tail) is.stands;
  list = λ told. record { before = kept; is = sym (append-nil kept); same = sym (same told) };
}

-- no query is due before the first tick, and nothing is to expire
pub none_due_yet : (state : Kept) → state.ticked ≡ false → first_due state ≡ None
none_due_yet state unticked = simp unticked refl

pub none_owed_yet : (state : Kept) → state.ticked ≡ false → (table : ℕ) → is_evented_table table ≡ true → owed_at state table ≡ None
none_owed_yet state unticked table evented = simp unticked refl
