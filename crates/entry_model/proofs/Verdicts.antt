-- What is said of the worked lists is so.
use Rattle.std.proofs.Common.{◌≡◌, ◌≢◌, ◌⊎◌, ℕ, zero, suc, ◌+◌, ◌<◌, ◌≤◌, true, false, List, [], ◌∷◌, ◌++◌, length, get_or, Some, None, refl, sym, ap, ◌∙◌, subst, inl, inr, arith}
use Rattle.std.specs.Prelude.{All, Contains, codes, bytes_eq}
use Rattle.std.proofs.lemmas.Bool.Decides.{nat_tests}
use Rattle.std.proofs.lemmas.List.Elements.{All-nil, All-cons, All-head}
use Rattle.osq_value.specs.declared.moment.TheConstants.{LAST_MOMENT}
use Rattle.osq_value.specs.declared.value.Value.{Value}
use Rattle.osq_value.specs.declared.value.Value.TheVariants.{Null}
use Rattle.osq_value.specs.Catalogue.{columns_of, tables, width_of}
use Rattle.sql_texts.proofs.KnownMeaning.{is_accepted-known, names_evented-known, names_table-known}
use Rattle.pack_rules.specs.declared.schedule.QueryKey.{QueryKey}
use Rattle.entry_model.specs.declared.entry.Entry.TheVariants.{Opened, Configured, Ticked, Appended, TableSet, Expired, Committed, Acked}
use Rattle.entry_model.specs.Views.{is_evented_table, owed_floor}
use Rattle.pack_rules.specs.Sound.{IsRunnable, IsSound}
use Rattle.entry_model.proofs.Follows.{Legal-push}
use Rattle.entry_model.specs.Legal.{IsEvent, Legal}
use Rattle.entry_model.specs.Verdicts.{change, log, bare, started, one_change, five_changes, PlainVerdicts, asked, asking, before_batch, answer, answered, second, asking_first, answer_first, unread, AskedVerdicts, Verdicts}

width_two : width_of 2 ≡ 10
unfolding width_of columns_of tables
width_two = refl

width_four : width_of 4 ≡ 2
unfolding width_of columns_of tables
width_four = refl

-- the evented tables are the first three
each_evented : (P : ℕ → Type 0) → P 0 → P 1 → P 2 → (table : ℕ) → is_evented_table table ≡ true → P table
each_evented P a b c zero h = a
each_evented P a b c (suc zero) h = b
each_evented P a b c (suc (suc zero)) h = c
each_evented P a b c (suc (suc (suc n))) h = absurd (grind (arith, nat_tests, h))

bare_sound : IsSound bare
bare_sound = record {
  count = omega arith;
  order = refl;
  runnable = All-nil IsRunnable;
  expiry_least = omega arith;
  expiry_most = omega arith;
  max_least = omega arith;
  max_most = omega arith;
}

is_event : IsEvent change
is_event = record { evented = refl; wide = sym width_two }

started_legal : Legal started
started_legal =
    ((refl, inl refl), ((bare_sound, record { later = omega arith; calendar = omega arith }), ((record { later = omega arith; calendar = omega arith }, refl, λ table is. refl), tt)))

opened_legal : Legal (Opened 1 1 ∷ [])
opened_legal = ((refl, inl refl), tt)

configured_legal : Legal (Opened 1 1 ∷ Configured [] bare 1000 ∷ [])
configured_legal = (opened_legal.0, (started_legal.1.0, tt))

one_legal : Legal one_change
one_legal =
    Legal-push started (Appended log 92 (change ∷ []) 0 1000) started_legal (omega arith, refl, All-cons IsEvent change [] is_event (All-nil IsEvent), omega arith)

five_legal : Legal five_changes
five_legal =
    let all : All IsEvent (change ∷ change ∷ change ∷ change ∷ change ∷ []) = All-cons IsEvent change (change ∷ change ∷ change ∷ change ∷ []) is_event (All-cons IsEvent change (change ∷ change ∷ change ∷ []) is_event (All-cons IsEvent change (change ∷ change ∷ []) is_event (All-cons IsEvent change (change ∷ []) is_event (All-cons IsEvent change [] is_event (All-nil IsEvent))))) in
    Legal-push started (Appended log 460 (change ∷ change ∷ change ∷ change ∷ change ∷ []) 0 1000) started_legal (omega arith, refl, all, omega arith)

neither : (rules : ℕ) → rules ≢ 1 → rules ≢ 2 → ¬ ((rules ≡ 1) ⊎ (rules ≡ 2))
neither rules not_one not_two (inl one) = not_one one
neither rules not_one not_two (inr two) = not_two two

-- at a tick behind the change of a file, at which none is to expire at the one before
ticked_legal : (moment : ℕ) → 1000 ≤ moment → moment ≤ LAST_MOMENT → Legal (one_change ++ Ticked moment ∷ [])
ticked_legal moment later calendar =
    Legal-push one_change (Ticked moment) one_legal (record { later = later; calendar = calendar }, refl, each_evented (λ table. owed_floor one_change table ≡ None) refl refl refl)

plain : PlainVerdicts
plain = record {
  nothing = record { legal = tt; has = refl };
  first_is_two = record { legal = tt; ends = λ h. (let k : 2 ≡ 1 = h.0.0 in omega (arith, k)) };
  one_twice = record { legal = opened_legal; ends = λ h. (let k : 1 ≡ 2 = h.1.0.0 in omega (arith, k)) };
  rules_none = record { legal = tt; ends = λ h. neither 0 (λ k. omega (arith, k)) (λ k. omega (arith, k)) h.0.1 };
  rules_two = record { legal = ((refl, inr refl), tt); has = refl };
  rules_three = record { legal = tt; ends = λ h. neither 3 (λ k. omega (arith, k)) (λ k. omega (arith, k)) h.0.1 };
  two_sessions = record { legal = ((refl, inl refl), ((refl, inl refl), tt)); has = refl };
  configured_back = record { legal = configured_legal; ends = λ h. (let k : 1000 ≤ 999 = h.1.1.0.1.later in omega (arith, k)) };
  ticked_back = record { legal = configured_legal; ends = λ h. (let k : 1000 ≤ 999 = h.1.1.0.0.later in omega (arith, k)) };
  past_9999 = record { legal = opened_legal; ends = λ h. (let k : 253402300800 ≤ LAST_MOMENT = h.1.0.1.calendar in omega (arith, k)) };
  a_change = record { legal = one_legal; has = refl };
  not_further = record { legal = one_legal; ends = λ h. (let k : 92 < 92 = h.1.1.1.1.0.0 in omega (arith, k)) };
  at_another_moment = record { legal = started_legal; ends = λ h. (let k : 1001 ≡ 1000 = h.1.1.1.0.1 in omega (arith, k)) };
  too_narrow = record { legal = started_legal; ends = λ h. (let k : 1 ≡ width_of 2 = (All-head IsEvent (record change { row = Null ∷ [] }) [] h.1.1.1.0.2).wide in let w = width_two in omega (arith, k, w)) };
  of_a_recorded_table = record { legal = started_legal; ends = λ h. (let k : false ≡ true = (All-head IsEvent (record change { table = record { 0 = 4 } }) [] h.1.1.1.0.2).evented in cc) };
  a_table = record {
    legal = Legal-push started (TableSet log (record { 0 = 4 }) ((Null ∷ Null ∷ []) ∷ []) 92) started_legal (omega arith, refl, All-cons (λ (row : List Value). length row ≡ width_of 4) (Null ∷ Null ∷ []) [] (sym width_four) (All-nil (λ (row : List Value). length row ≡ width_of 4)));
    has = refl;
  };
  narrow_row = record { legal = started_legal; ends = λ h. (let k : 1 ≡ width_of 4 = All-head (λ (row : List Value). length row ≡ width_of 4) (Null ∷ []) [] h.1.1.1.0.2 in let w = width_four in omega (arith, k, w)) };
  evented_table_set = record { legal = started_legal; ends = λ h. (let k : false ≡ true = h.1.1.1.0.1 in cc) };
  gone_after_29 = record { legal = ticked_legal 1029 (omega arith) (omega arith); ends = λ h. (let k : None ≡ Some 1 = h.1.1.1.1.1.0.1 in cc) };
  gone_after_30 = record {
    legal = Legal-push (one_change ++ Ticked 1030 ∷ []) (Expired (record { 0 = 2 }) 1 1030) (ticked_legal 1030 (omega arith) (omega arith)) (refl, refl, refl);
    has = refl;
  };
  gone_after_31 = record {
    legal = Legal-push (one_change ++ Ticked 1031 ∷ []) (Expired (record { 0 = 2 }) 1 1031) (ticked_legal 1031 (omega arith) (omega arith)) (refl, refl, refl);
    has = refl;
  };
  another_floor = record { legal = ticked_legal 1030 (omega arith) (omega arith); ends = λ h. (let k : Some 1 ≡ Some 2 = h.1.1.1.1.1.0.1 in cc) };
  another_table = record { legal = ticked_legal 1030 (omega arith) (omega arith); ends = λ h. (let k : None ≡ Some 1 = h.1.1.1.1.1.0.1 in cc) };
  tick_after_29 = record {
    legal = Legal-push (one_change ++ Ticked 1029 ∷ []) (Ticked 1030) (ticked_legal 1029 (omega arith) (omega arith)) (record { later = omega arith; calendar = omega arith }, refl, each_evented (λ table. owed_floor (one_change ++ Ticked 1029 ∷ []) table ≡ None) refl refl refl);
    has = refl;
  };
  tick_while_owed = record { legal = ticked_legal 1030 (omega arith) (omega arith); ends = λ h. (let k : Some 1 ≡ None = h.1.1.1.1.1.0.2 2 refl in cc) };
  crowded_out = record {
    legal = Legal-push five_changes (Expired (record { 0 = 2 }) 2 1000) five_legal (refl, refl, refl);
    has = refl;
  };
  one_too_many = record { legal = five_legal; ends = λ h. (let k : Some 2 ≡ Some 3 = h.1.1.1.1.0.1 in cc) };
  acked_unknown = record { legal = opened_legal; ends = λ h. (let k : 1 ≤ 0 = h.1.0.1 in omega (arith, k)) };
}

asking_sound : IsSound asking
asking_sound = record {
  count = omega arith;
  order = refl;
  runnable = All-cons IsRunnable (record { key = asked; interval = 60 }) [] (record { accepted = is_accepted-known; evented = λ e. names_evented-known; at_least = omega arith; at_most = omega arith }) (All-nil IsRunnable);
  expiry_least = omega arith;
  expiry_most = omega arith;
  max_least = omega arith;
  max_most = omega arith;
}

before_legal : Legal before_batch
before_legal =
    Legal-push (Opened 1 1 ∷ Configured [] asking 1000 ∷ Ticked 1000 ∷ []) (Appended log 184 (change ∷ change ∷ []) 0 1000)
    ((refl, inl refl), ((asking_sound, record { later = omega arith; calendar = omega arith }), ((record { later = omega arith; calendar = omega arith }, refl, λ table is. refl), tt)))
    (omega arith, refl, All-cons IsEvent change (change ∷ []) is_event (All-cons IsEvent change [] is_event (All-nil IsEvent)), omega arith)

answered_legal : Legal answered
answered_legal =
    Legal-push before_batch (Committed answer) before_legal (record {
      next = refl;
      bound = omega arith;
      due = (0, omega arith, refl);
      within = omega arith;
      current = refl;
      lower = refl;
      upper = refl;
      now = refl;
      answer = refl;
    })

-- at a tick behind the batch
again_legal : (moment : ℕ) → 1000 ≤ moment → moment ≤ LAST_MOMENT → Legal (answered ++ Ticked moment ∷ [])
again_legal moment later calendar =
    Legal-push answered (Ticked moment) answered_legal (record { later = later; calendar = calendar }, refl, each_evented (λ table. owed_floor answered table ≡ None) refl refl refl)

-- the changes that the query has not read
first_sound : IsSound (record asking { events_expiry = 30 })
first_sound = record {
  count = asking_sound.count;
  order = asking_sound.order;
  runnable = asking_sound.runnable;
  expiry_least = omega arith;
  expiry_most = omega arith;
  max_least = asking_sound.max_least;
  max_most = asking_sound.max_most;
}

module _ (rules : ℕ) (are : (rules ≡ 1) ⊎ (rules ≡ 2)) where
  first_legal : Legal (asking_first rules)
  first_legal =
      ((refl, are), ((first_sound, record { later = omega arith; calendar = omega arith }), ((record { later = omega arith; calendar = omega arith }, refl, λ table is. refl), tt)))

  first_answered : Legal (asking_first rules ++ Committed (answer_first rules) ∷ [])
  first_answered =
      Legal-push (asking_first rules) (Committed (answer_first rules)) first_legal (record {
        next = refl;
        bound = omega arith;
        due = (0, omega arith, refl);
        within = omega arith;
        current = refl;
        lower = refl;
        upper = refl;
        now = refl;
        answer = refl;
      })

  changed : Legal (asking_first rules ++ Committed (answer_first rules) ∷ Appended log 184 (change ∷ change ∷ []) 0 1000 ∷ [])
  changed =
      Legal-push (asking_first rules ++ Committed (answer_first rules) ∷ []) (Appended log 184 (change ∷ change ∷ []) 0 1000) first_answered
      (omega arith, refl, All-cons IsEvent change (change ∷ []) is_event (All-cons IsEvent change [] is_event (All-nil IsEvent)), omega arith)

  unread_legal : Legal (unread rules)
  unread_legal =
      Legal-push (asking_first rules ++ Committed (answer_first rules) ∷ Appended log 184 (change ∷ change ∷ []) 0 1000 ∷ []) (Ticked 1030) changed
      (record { later = omega arith; calendar = omega arith }, refl, each_evented (λ table. owed_floor (asking_first rules ++ Committed (answer_first rules) ∷ Appended log 184 (change ∷ change ∷ []) 0 1000 ∷ []) table ≡ None) refl refl refl)

-- by rules 2 they stay, since the query names their table
unread_stay : owed_floor (unread 2) 2 ≡ None
unread_stay = rw (names_table-known) refl

not_among : (query : QueryKey) → ¬ Contains [] query
not_among query h = let within : h.0 < 0 = h.1 in omega (arith, within)

another_name : Contains (asked ∷ []) (record asked { name = codes "r" }) → true ≡ false
another_name h =
    let within : h.0 < 1 = h.1 in
    let first : h.0 ≡ 0 = omega (arith, within) in
    let is : asked ≡ record asked { name = codes "r" } = subst (λ (n : ℕ). get_or (asked ∷ []) n (record asked { name = codes "r" }) ≡ record asked { name = codes "r" }) first h.2 in
    ap (λ (key : QueryKey). bytes_eq key.name (codes "q")) is

asks : AskedVerdicts
asks = record {
  tick_while_due = record { legal = before_legal; ends = λ h. (let k : asked ∷ [] ≡ [] = h.1.1.1.1.0.1 in cc) };
  committed = record { legal = answered_legal; has = refl };
  another_number = record { legal = before_legal; ends = λ h. (let k : 2 ≡ 1 = h.1.1.1.1.0.next in omega (arith, k)) };
  another_lo = record { legal = before_legal; ends = λ h. (let k : 1 ≡ 0 = h.1.1.1.1.0.lower in omega (arith, k)) };
  another_hi = record { legal = before_legal; ends = λ h. (let k : 1 ≡ 2 = h.1.1.1.1.0.upper in omega (arith, k)) };
  another_moment = record { legal = before_legal; ends = λ h. (let k : 999 ≡ 1000 = h.1.1.1.1.0.now in omega (arith, k)) };
  a_row_more = record { legal = before_legal; ends = λ h. (let k = ap (λ (rows : List (List Value)). length rows) h.1.1.1.1.0.answer in omega (arith, k)) };
  another_query = record { legal = before_legal; ends = λ h. (let k = another_name h.1.1.1.1.0.due in cc) };
  cut_before_tick = record { legal = before_legal; ends = λ h. (let k : true ≡ false = h.1.1.1.1.0.current in cc) };
  cut_past_end = record { legal = before_legal; ends = λ h. (let k : 5 ≤ 4 = h.1.1.1.1.0.within in omega (arith, k)) };
  not_due = record { legal = answered_legal; ends = λ h. not_among asked h.1.1.1.1.1.0.due };
  due_after_59 = record { legal = again_legal 1059 (omega arith) (omega arith); ends = λ h. not_among asked h.1.1.1.1.1.1.0.due };
  due_after_60 = record {
    legal = Legal-push (answered ++ Ticked 1060 ∷ []) (Committed (second 1060)) (again_legal 1060 (omega arith) (omega arith)) (record {
      next = refl;
      bound = omega arith;
      due = (0, omega arith, refl);
      within = omega arith;
      current = refl;
      lower = refl;
      upper = refl;
      now = refl;
      answer = refl;
    });
    has = refl;
  };
  acked = record {
    legal = Legal-push answered (Acked 1) answered_legal (omega arith, omega arith);
    has = refl;
  };
  acked_above = record { legal = answered_legal; ends = λ h. (let k : 2 ≤ 1 = h.1.1.1.1.1.0.1 in omega (arith, k)) };
  acked_again = record {
    legal = Legal-push answered (Acked 1) answered_legal (omega arith, omega arith);
    ends = λ h. (let k : 1 < 1 = h.1.1.1.1.1.1.0.0 in omega (arith, k));
  };
  gone_unread = Legal-push (unread 1) (Expired (record { 0 = 2 }) 2 1030) (unread_legal 1 (inl refl)) (refl, refl, refl);
  not_gone_unread = record { legal = unread_legal 2 (inr refl); ends = λ h. (let k : None ≡ Some 2 = sym unread_stay ∙ h.1.1.1.1.1.1.0.1 in cc) };
}

pub verdicts : Verdicts
verdicts = record { plain = plain; asked = asks }
