-- A reader that expiry has waited for sees each event of its slices.
use Rattle.std.proofs.Common.{◌≡◌, ◌⊎◌, ℕ, zero, suc, ◌+◌, ◌<◌, ◌≤◌, Bool, true, false, cond, List, [], ◌∷◌, ◌++◌, length, take, drop, map, refl, sym, ap, ◌∙◌, subst, inl, inr, ⊎_elim, arith, append_assoc, Option, Some, None}
use Rattle.std.specs.Prelude.{Contains, filter, nat_lt, nat_le, ◌==◌, ◌&&◌, min, unwrap_or}
use Rattle.std.proofs.lemmas.Bool.Decides.{nat_tests}
use Rattle.std.proofs.lemmas.List.{take-append-drop, append-nil}
use Rattle.std.proofs.lemmas.List.Elements.{All-contains, Contains-append_right}
use Rattle.pack_rules.specs.declared.schedule.Mode.TheVariants.{Evented}
use Rattle.pack_rules.specs.declared.schedule.QueryKey.{QueryKey}
use Rattle.pack_rules.specs.declared.schedule.Scheduled.{Scheduled}
use Rattle.sql_texts.specs.Meaning.{names_table}
use Rattle.entry_model.specs.declared.entry.Batch.{Batch}
use Rattle.entry_model.specs.declared.entry.Entry.{Entry}
use Rattle.entry_model.specs.declared.entry.Entry.TheVariants.{Committed, Expired}
use Rattle.entry_model.specs.declared.restored.Live.{Live}
use Rattle.entry_model.specs.Values.{last_of, last_number, floor_in, floor_of, commits, cursor_of, schedule_of, batches_of, same_key, same_mode}
use Rattle.entry_model.specs.Views.{is_reader, least_of, lesser, reached_of, slice_of}
use Rattle.entry_model.specs.Legal.{LegalNext, Legal, begins_at}
use Rattle.entry_model.specs.Covered.{has_number, IsSeen}
use Rattle.entry_model.specs.Laws.{IsScheduled, Waits, Patience}
use Rattle.entry_model.proofs.Lists.{Contains-filter, Contains-from_filter, and_true}
use Rattle.entry_model.proofs.Lasts.{last_of-append, batches_of-append, cursor_of-append, same_key_is}
use Rattle.entry_model.proofs.Follows.{Legal-push, Legal-take, over_legal}
use Rattle.entry_model.proofs.Slices.{IsCut, has_slices, is_seen}

-- the least of some numbers is none above one of them
least_below : (numbers : List ℕ) (number most : ℕ) → Contains numbers number → unwrap_or (least_of numbers) most ≤ number
least_below [] number most (k, lt, e) = absurd (omega (arith, lt))
least_below (x ∷ xs) number most (zero, lt, e) = by_rest (least_of xs)
  where
    is : x ≡ number
    is = cc

    by_rest : (rest : Option ℕ) → lesser x rest ≤ number
    by_rest None = omega (arith, is)
    by_rest (Some other) = omega (arith, is)
least_below (x ∷ xs) number most (suc k, lt, e) = by_rest (least_of xs) (least_below xs number (suc number) (k, omega (arith, lt), e))
  where
    by_rest : (rest : Option ℕ) → unwrap_or rest (suc number) ≤ number → lesser x rest ≤ number
    by_rest None h = absurd (omega (arith, h))
    by_rest (Some other) h = omega (arith, h)

mapped : {X Y : Type 0} (f : X → Y) (xs : List X) (x : X) → Contains xs x → Contains (map f xs) (f x)
mapped f [] x (k, lt, e) = absurd (omega (arith, lt))
mapped f (y ∷ ys) x (zero, lt, e) = (zero, omega arith, cc)
mapped f (y ∷ ys) x (suc k, lt, e) = Contains-append_right (f y ∷ []) (map f ys) (f x) (mapped f ys x (k, omega (arith, lt), e))

-- what stands in a mapped list comes of something in the list
record Comes {X Y : Type 0} (f : X → Y) (xs : List X) (y : Y) : Type 0 where
  from : X
  stands : Contains xs from
  is : f from ≡ y

comes : {X Y : Type 0} (f : X → Y) (xs : List X) (y : Y) → Contains (map f xs) y → Comes f xs y
comes f [] y (k, lt, e) = absurd (omega (arith, lt))
comes f (x ∷ xs) y (zero, lt, e) = record { from = x; stands = (zero, omega arith, refl); is = cc }
comes f (x ∷ xs) y (suc k, lt, e) =
    let rest = comes f xs y (k, omega (arith, lt), e) in
    record { from = rest.from; stands = Contains-append_right (x ∷ []) xs rest.from rest.stands; is = rest.is }

-- no reader that is scheduled has read less than what is reached
reached_below : (entries : List Entry) (query : QueryKey) (table : ℕ) → query.mode ≡ Evented → names_table query.text table ≡ true → IsScheduled entries query → reached_of entries table ≤ cursor_of entries query
reached_below entries query table evented names scheduled =
    let key : Scheduled → QueryKey = λ s. s.key in
    let one = comes key (schedule_of entries).queries query scheduled in
    let mode : same_mode one.from.key.mode Evented ≡ true = ap (λ (q : QueryKey). same_mode q.mode Evented) one.is ∙ ap (λ m. same_mode m Evented) evented in
    let named : names_table one.from.key.text table ≡ true = ap (λ (q : QueryKey). names_table q.text table) one.is ∙ names in
    let reader : is_reader table one.from ≡ true = ap (λ (b : Bool). b && names_table one.from.key.text table) mode ∙ named in
    let kept = Contains-filter (is_reader table) (schedule_of entries).queries one.from one.stands reader in
    let cursor : Scheduled → ℕ = λ s. cursor_of entries s.key in
    let low = least_below (map cursor (filter (is_reader table) (schedule_of entries).queries)) (cursor one.from) (last_number entries) (mapped cursor (filter (is_reader table) (schedule_of entries).queries) one.from kept) in
    let same : cursor one.from ≡ cursor_of entries query = ap (cursor_of entries) one.is in
    omega (arith, low, same)

module _ (query : QueryKey) (table : ℕ) (evented : query.mode ≡ Evented) (names : names_table query.text table ≡ true) where
  -- no entry takes a cursor back
  on : (entries : List Entry) (entry : Entry) → Legal entries → LegalNext entries entry → cursor_of entries query ≤ cursor_of (entries ++ entry ∷ []) query
  on entries (Committed batch) legal may = by_key (same_key batch.query query) refl
    where
      by_key : (b : Bool) → same_key batch.query query ≡ b → cursor_of entries query ≤ cursor_of (entries ++ Committed batch ∷ []) query
      by_key true same =
          let is = same_key_is batch.query query same in
          let one : batches_of (Committed batch ∷ []) query ≡ batch ∷ [] = ap (λ (t : Bool). cond t (batch ∷ []) []) same in
          let cursor : cursor_of (entries ++ Committed batch ∷ []) query ≡ batch.hi = cursor_of-append entries (Committed batch ∷ []) query ∙ ap (last_of (λ (b : Batch). Some b.hi) (cursor_of entries query)) one in
          let lower : batch.lo ≡ cursor_of entries query = may.lower ∙ ap (λ (q : QueryKey). begins_at entries q q.mode) is ∙ ap (begins_at entries query) evented in
          let h = has_slices query evented (entries ++ Committed batch ∷ []) (Legal-push entries (Committed batch) legal may) in
          let all : batches_of (entries ++ Committed batch ∷ []) query ≡ batches_of entries query ++ batch ∷ [] = batches_of-append entries (Committed batch ∷ []) query ∙ ap (λ (bs : List Batch). batches_of entries query ++ bs) one in
          let mine : Contains (batches_of (entries ++ Committed batch ∷ []) query) batch = subst (λ (bs : List Batch). Contains bs batch) (sym all) (Contains-append_right (batches_of entries query) (batch ∷ []) batch (zero, omega arith, refl)) in
          let cut = All-contains (IsCut (entries ++ Committed batch ∷ [])) (batches_of (entries ++ Committed batch ∷ []) query) batch h.cuts mine in
          let rising = cut.rising in
          omega (arith, cursor, lower, rising)
      by_key false other =
          let none : batches_of (Committed batch ∷ []) query ≡ [] = ap (λ (t : Bool). cond t (batch ∷ []) []) other in
          let cursor : cursor_of (entries ++ Committed batch ∷ []) query ≡ cursor_of entries query = cursor_of-append entries (Committed batch ∷ []) query ∙ ap (last_of (λ (b : Batch). Some b.hi) (cursor_of entries query)) none in
          omega (arith, cursor)
  on entries entry legal may = omega (arith, cursor_of-append entries (entry ∷ []) query)

  module _ (entries : List Entry) (waits : Waits entries query table) where
    abbrev Below : List Entry → Type 0
    Below front = (rest : List Entry) → entries ≡ front ++ rest → floor_of front table ≤ cursor_of front query

    step : (front : List Entry) (entry : Entry) → Legal front → Below front → LegalNext front entry → Below (front ++ entry ∷ [])
    step front (Expired expired floor moment) legal below may rest are = by_table (expired.0 == table) refl
      where
        here : entries ≡ front ++ Expired expired floor moment ∷ rest
        here = are ∙ append_assoc front (Expired expired floor moment ∷ []) rest

        cursor : cursor_of (front ++ Expired expired floor moment ∷ []) query ≡ cursor_of front query
        cursor = cursor_of-append front (Expired expired floor moment ∷ []) query

        by_table : (b : Bool) → (expired.0 == table) ≡ b → floor_of (front ++ Expired expired floor moment ∷ []) table ≤ cursor_of (front ++ Expired expired floor moment ∷ []) query
        by_table true t =
            let same : expired.0 ≡ table = grind (arith, nat_tests, t) in
            let now : floor_of (front ++ Expired expired floor moment ∷ []) table ≡ floor = last_of-append (floor_in table) 0 front (Expired expired floor moment ∷ []) ∙ ap (λ (b : Bool). unwrap_or (cond b (Some floor) None) (floor_of front table)) t in
            let it : expired ≡ record { 0 = table } = λ i. record { 0 = same i } in
            let waited = waits front rest floor moment (here ∙ ap (λ e. front ++ Expired e floor moment ∷ rest) it) in
            let low = waited.1 in
            let high = reached_below front query table evented names waited.0 in
            omega (arith, now, low, high, cursor)
        by_table false t =
            let now : floor_of (front ++ Expired expired floor moment ∷ []) table ≡ floor_of front table = last_of-append (floor_in table) 0 front (Expired expired floor moment ∷ []) ∙ ap (λ (b : Bool). unwrap_or (cond b (Some floor) None) (floor_of front table)) t in
            let old = below (Expired expired floor moment ∷ rest) here in
            omega (arith, now, old, cursor)
    step front entry legal below may rest are =
        let old = below (entry ∷ rest) (are ∙ append_assoc front (entry ∷ []) rest) in
        let same = last_of-append (floor_in table) 0 front (entry ∷ []) in
        let up = on front entry legal may in
        omega (arith, old, same, up)

    below : (front : List Entry) → Legal front → Below front
    below = over_legal Below (λ rest are. omega arith) step

pub patience : Patience
patience entries query table legal evented names waits batch event mine known of_table has =
    let h = has_slices query evented entries legal in
    let cut = All-contains (IsCut entries) (batches_of entries query) batch h.cuts mine in
    let is : batch.query ≡ query = same_key_is batch.query query (Contains-from_filter (λ (b : Batch). same_key b.query query) (commits entries) batch mine).1 in
    let begins : batch.lo ≡ cursor_of (take batch.cut entries) query = cut.begins ∙ ap (cursor_of (take batch.cut entries)) is in
    let low = below query table evented names entries waits (take batch.cut entries) (Legal-take batch.cut entries legal) (drop batch.cut entries) (sym (take-append-drop batch.cut entries)) in
    let range = and_true (nat_lt batch.lo event.number) (nat_le event.number batch.hi) has in
    let above : batch.lo < event.number = grind (arith, nat_tests, range.0) in
    let gone : floor_of (take batch.cut entries) table < event.number = omega (arith, begins, low, above) in
    let seen = is_seen entries batch event cut known has in
    subst (λ (t : ℕ). Contains (slice_of (take batch.cut entries) t batch.lo) event) of_table (seen.1 (subst (λ (t : ℕ). floor_of (take batch.cut entries) t < event.number) (sym of_table) gone))
