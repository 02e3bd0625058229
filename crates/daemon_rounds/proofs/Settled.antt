-- Behind the expiries that a state owes, it owes none.
use Rattle.std.proofs.Common.{◌≡◌, ℕ, zero, suc, ◌-◌, ◌≤◌, ◌<◌, ◌⊎◌, inl, inr, Bool, true, false, cond, List, [], ◌∷◌, length, Option, Some, None, refl, sym, ap, ◌∙◌, subst, arith}
use Rattle.std.specs.Prelude.{nat_le, nat_lt, ◌&&◌, ◌||◌, ◌==◌, if◌then◌else◌, option_map, unwrap_or}
use Rattle.std.specs.List.{cons_option}
use Rattle.std.proofs.lemmas.Bool.Decides.{nat_tests}
use Rattle.entry_model.specs.declared.entry.Entry.{Entry}
use Rattle.entry_model.specs.declared.entry.Entry.TheVariants.{Expired}
use Rattle.entry_model.specs.declared.restored.Live.{Live}
use Rattle.entry_model.specs.declared.restored.Run.{Run}
use Rattle.entry_model.specs.Fits.{IsRisingFrom}
use Rattle.entry_model.specs.Views.{is_evented_table}
use Rattle.pack_rules.specs.declared.schedule.Schedule.{Schedule}
use Rattle.event_store.specs.Contents.{Contents, AreLive, live_at}
use Rattle.event_store.specs.Owed.{owed_of}
use Rattle.event_store.specs.Queues.{above}
use Rattle.event_store.proofs.Expiring.{owed_from, owed_is}
use Rattle.event_store.proofs.Queues.{all_above}
use Rattle.event_store.proofs.Images.{live_above}
use Rattle.session_state.specs.Kept.{Counts, Kept, IsState}
use Rattle.session_state.specs.StateOf.{Adds}
use Rattle.session_state.specs.Ticks.{first_due, owed_at, reached_at, reached_by}
use Rattle.session_state.specs.Expiries.{expiry_of, expiries, Stays, AddsAll}
use Rattle.query_cursors.specs.Due as cursors

module _ (expiry max moment reached : ℕ) where
  abbrev goes : Live → List Live → Bool
  goes event rest = nat_le expiry (moment - event.moment) && nat_le event.number reached || nat_le max (length rest)

  -- none of the events goes, or none behind the last one that does
  record IsLast (n : ℕ) (xs : List Live) (owed : Option ℕ) : Type 0 where
    pub floor : ℕ
    pub found : owed_from expiry max moment reached owed xs ≡ Some floor
    pub behind : n < floor
    pub rest : owed_from expiry max moment reached None (above floor xs) ≡ None

  abbrev IsFree : List Live → Option ℕ → Type 0
  IsFree xs owed = (owed_from expiry max moment reached owed xs ≡ owed) × (owed_from expiry max moment reached None xs ≡ None)

  walk : (n : ℕ) (xs : List Live) (owed : Option ℕ) → IsRisingFrom n xs → IsFree xs owed ⊎ IsLast n xs owed
  walk n [] owed rising = inl (refl, refl)
  walk n (x ∷ xs) owed rising = by_test (goes x xs) refl (walk x.number xs (if goes x xs then Some x.number else owed) rising.1)
    where
      here : above x.number (x ∷ xs) ≡ xs
      here =
          let itself : nat_lt x.number x.number ≡ false = grind (arith, nat_tests) in
          ap (λ (b : Bool). cond b (x ∷ above x.number xs) (above x.number xs)) itself ∙ all_above x.number x.number xs (omega arith) rising.1

      by_rest : (b : Bool) → goes x xs ≡ b → IsFree xs (cond b (Some x.number) owed) → IsFree (x ∷ xs) owed ⊎ IsLast n (x ∷ xs) owed
      by_rest true e free =
          inr (record {
            floor = x.number;
            found = ap (λ (b : Bool). owed_from expiry max moment reached (cond b (Some x.number) owed) xs) e ∙ free.0;
            behind = rising.0;
            rest = ap (owed_from expiry max moment reached None) here ∙ free.1;
          })
      by_rest false e free =
          inl (ap (λ (b : Bool). owed_from expiry max moment reached (cond b (Some x.number) owed) xs) e ∙ free.0, ap (λ (b : Bool). owed_from expiry max moment reached (cond b (Some x.number) None) xs) e ∙ free.1)

      by_test : (b : Bool) → goes x xs ≡ b → IsFree xs (cond (goes x xs) (Some x.number) owed) ⊎ IsLast x.number xs (cond (goes x xs) (Some x.number) owed) → IsFree (x ∷ xs) owed ⊎ IsLast n (x ∷ xs) owed
      by_test b e (inl free) = by_rest b e (subst (λ (b : Bool). IsFree xs (cond b (Some x.number) owed)) e free)
      by_test b e (inr last) =
          let low = rising.0 in
          let far = last.behind in
          let before : nat_lt last.floor x.number ≡ false = grind (arith, nat_tests, far) in
          inr (record {
            floor = last.floor;
            found = last.found;
            behind = omega (arith, low, far);
            rest = ap (λ (b : Bool). owed_from expiry max moment reached None (cond b (x ∷ above last.floor xs) (above last.floor xs))) before ∙ last.rest;
          })

  -- behind the owed floor no event goes
  pub none_left : (last table floor : ℕ) (xs : List Live) → AreLive last table xs → owed_of expiry max moment reached xs ≡ Some floor → owed_of expiry max moment reached (above floor xs) ≡ None
  none_left last table floor xs live owed =
      sym (owed_is expiry max moment reached (above floor xs) (live_above last table floor xs live).rising) ∙ by_walk (walk 0 xs None live.rising)
    where
      is : owed_from expiry max moment reached None xs ≡ Some floor
      is = owed_is expiry max moment reached xs live.rising ∙ owed

      by_walk : IsFree xs None ⊎ IsLast 0 xs None → owed_from expiry max moment reached None (above floor xs) ≡ None
      by_walk (inl free) = absurd (let k = sym free.0 ∙ is in cc)
      by_walk (inr last) =
          let same : last.floor ≡ floor = (let k = sym last.found ∙ is in cc) in
          ap (λ (f : ℕ). owed_from expiry max moment reached None (above f xs)) (sym same) ∙ last.rest

abbrev dropped : Option ℕ → List Live → List Live
dropped None events = events
dropped (Some floor) events = above floor events

-- of one table the events up to a floor are gone, and nothing else has changed that tells what is due or owed
record Drops (s t : Kept) (table : ℕ) (floor : Option ℕ) : Type 0 where
  pub live : (other : ℕ) → live_at t.image other ≡ (if other == table then dropped floor (live_at s.image other) else live_at s.image other)
  pub last : t.image.last ≡ s.image.last
  pub runs : t.counts.runs ≡ s.counts.runs
  pub moment : t.counts.moment ≡ s.counts.moment
  pub schedule : t.schedule ≡ s.schedule
  pub ticked : t.ticked ≡ s.ticked

drops_some : (s t : Kept) (table floor moment : ℕ) → Adds s (Expired (record { 0 = table }) floor moment) t → Drops s t table (Some floor)
drops_some s t table floor moment a = record {
  live = λ other. a.moves.image.live other;
  last = a.moves.image.last;
  runs = ap (λ (c : Counts). c.runs) a.moves.counts;
  moment = ap (λ (c : Counts). c.moment) a.moves.counts;
  schedule = a.moves.schedule;
  ticked = a.moves.ticked;
}

drops_none : (s : Kept) (table : ℕ) → Drops s s table None
drops_none s table = record {
  live = λ other. by_test other (other == table);
  last = refl;
  runs = refl;
  moment = refl;
  schedule = refl;
  ticked = refl;
}
  where
    by_test : (other : ℕ) (b : Bool) → live_at s.image other ≡ cond b (live_at s.image other) (live_at s.image other)
    by_test other true = refl
    by_test other false = refl

-- the first of some expiries was added, and the others behind it
record IsSplit (s new : Kept) (table : ℕ) (floor : Option ℕ) (es : List Entry) : Type 0 where
  pub next : Kept
  pub drops : Drops s next table floor
  pub rest : AddsAll next es new

split : (s new : Kept) (table moment : ℕ) (floor : Option ℕ) (es : List Entry) → AddsAll s (cons_option (option_map (λ (floor : ℕ). Expired (record { 0 = table }) floor moment) floor) es) new → IsSplit s new table floor es
split s new table moment None es h = record { next = s; drops = drops_none s table; rest = h }
split s new table moment (Some floor) es h =
    record { next = h.0; drops = drops_some s h.0 table floor moment h.1; rest = h.2 }

module _ (s new : Kept) (is : IsState s) (all : AddsAll s (expiries s) new) where
  abbrev owed : ℕ → Option ℕ
  owed table = owed_at s table

  first : IsSplit s new 0 (owed 0) (cons_option (expiry_of s 1) (cons_option (expiry_of s 2) []))
  first = split s new 0 s.counts.moment (owed 0) (cons_option (expiry_of s 1) (cons_option (expiry_of s 2) [])) all

  second : IsSplit first.next new 1 (owed 1) (cons_option (expiry_of s 2) [])
  second = split first.next new 1 s.counts.moment (owed 1) (cons_option (expiry_of s 2) []) first.rest

  third : IsSplit second.next new 2 (owed 2) []
  third = split second.next new 2 s.counts.moment (owed 2) [] second.rest

  after : Stays third.next new
  after = third.rest

  moment_is : new.counts.moment ≡ s.counts.moment
  moment_is =
      ap (λ (c : Counts). c.moment) after.counts ∙ third.drops.moment ∙ second.drops.moment ∙ first.drops.moment

  runs_are : new.counts.runs ≡ s.counts.runs
  runs_are = ap (λ (c : Counts). c.runs) after.counts ∙ third.drops.runs ∙ second.drops.runs ∙ first.drops.runs

  last_is : new.image.last ≡ s.image.last
  last_is =
      ap (λ (image : Contents). image.last) after.image ∙ third.drops.last ∙ second.drops.last ∙ first.drops.last

  schedule_is : new.schedule ≡ s.schedule
  schedule_is = after.schedule ∙ third.drops.schedule ∙ second.drops.schedule ∙ first.drops.schedule

  ticked_is : new.ticked ≡ s.ticked
  ticked_is = after.ticked ∙ third.drops.ticked ∙ second.drops.ticked ∙ first.drops.ticked

  live_after : (table : ℕ) → live_at new.image table ≡ live_at third.next.image table
  live_after table = ap (λ (image : Contents). live_at image table) after.image

  pub due_same : first_due new ≡ first_due s
  due_same =
      λ i. if ticked_is i then cursors.first_due (runs_are i) (schedule_is i).queries (moment_is i) else None

  -- of each table those are gone that it owed
  live_is : (table : ℕ) → is_evented_table table ≡ true → live_at new.image table ≡ dropped (owed table) (live_at s.image table)
  live_is zero evented = live_after 0 ∙ third.drops.live 0 ∙ second.drops.live 0 ∙ first.drops.live 0
  live_is (suc zero) evented =
      live_after 1 ∙ third.drops.live 1 ∙ second.drops.live 1 ∙ ap (dropped (owed 1)) (first.drops.live 1)
  live_is (suc (suc zero)) evented =
      live_after 2 ∙ third.drops.live 2 ∙ ap (dropped (owed 2)) (second.drops.live 2 ∙ first.drops.live 2)
  live_is (suc (suc (suc table))) evented = absurd (grind (arith, nat_tests, evented))

  pub none_owed : (table : ℕ) → is_evented_table table ≡ true → owed_at new table ≡ None
  none_owed table evented =
      (λ i. if ticked_is i then owed_of (schedule_is i).events_expiry (schedule_is i).events_max (moment_is i) (reached_by (runs_are i) (schedule_is i).queries (last_is i) table) (live_is table evented i) else None) ∙ by_tick s.ticked
    where
      by_owed : (o : Option ℕ) → owed_of s.schedule.events_expiry s.schedule.events_max s.counts.moment (reached_at s table) (live_at s.image table) ≡ o → owed_of s.schedule.events_expiry s.schedule.events_max s.counts.moment (reached_at s table) (dropped o (live_at s.image table)) ≡ None
      by_owed None e = e
      by_owed (Some floor) e =
          none_left s.schedule.events_expiry s.schedule.events_max s.counts.moment (reached_at s table) s.image.last table floor (live_at s.image table) (is.image.live table) e

      by_tick : (b : Bool) → (if b then owed_of s.schedule.events_expiry s.schedule.events_max s.counts.moment (reached_at s table) (dropped (if b then owed_of s.schedule.events_expiry s.schedule.events_max s.counts.moment (reached_at s table) (live_at s.image table) else None) (live_at s.image table)) else None) ≡ None
      by_tick false = refl
      by_tick true =
          by_owed (owed_of s.schedule.events_expiry s.schedule.events_max s.counts.moment (reached_at s table) (live_at s.image table)) refl
