-- How stamps stand as a list grows.
use Rattle.std.proofs.Common.{◌≡◌, ◌⊎◌, ℕ, zero, suc, ◌+◌, ◌-◌, ◌<◌, ◌≤◌, Bool, true, false, cond, List, [], ◌∷◌, ◌++◌, length, take, drop, refl, sym, ap, ◌∙◌, subst, arith, length-append, take-append-drop, Option, Some, None}
use Rattle.std.specs.Prelude.{filter, filter_map, slice_get, option_map, ◌||◌}
use Rattle.std.specs.List.{list_any}
use Rattle.std.proofs.lemmas.List.{take_all, take-append-le}
use Rattle.std.proofs.lemmas.List.Elements.{filter-append}
use Rattle.pack_rules.specs.declared.schedule.QueryKey.{QueryKey}
use Rattle.entry_model.specs.declared.entry.Batch.{Batch}
use Rattle.entry_model.specs.declared.entry.Stamp.{Stamp}
use Rattle.entry_model.specs.declared.entry.Entry.{Entry}
use Rattle.entry_model.specs.declared.entry.Entry.TheVariants.{Opened, Configured, Ticked, Committed}
use Rattle.entry_model.specs.Values.{commits, batches_of, batch_in, same_key}
use Rattle.entry_model.specs.Legal.{LegalNext, Legal, outdates}
use Rattle.entry_model.specs.Stamps.{is_configured, configurations, stamp_behind, stamp_of}
use Rattle.entry_model.proofs.Lasts.{commits-append}
use Rattle.entry_model.proofs.Follows.{over_legal}
use Rattle.entry_model.specs.Laws.{StampsStay, StampsGrow}

get_front : {X : Type 0} (xs ys : List X) (k : ℕ) → k < length xs → slice_get (xs ++ ys) k ≡ slice_get xs k
get_front [] ys k h = absurd (omega (arith, h))
get_front (x ∷ xs) ys zero h = refl
get_front (x ∷ xs) ys (suc k) h = get_front xs ys k (omega (arith, h))

get_last : {X : Type 0} (xs : List X) (x : X) → slice_get (xs ++ x ∷ []) (length xs) ≡ Some x
get_last [] x = refl
get_last (y ∷ ys) x = get_last ys x

-- every batch is cut no further than the list goes
abbrev AllWithin : ℕ → List Batch → Type 0
AllWithin n [] = Unit {0}
AllWithin n (batch ∷ batches) = (batch.cut ≤ n) × AllWithin n batches

further : (n m : ℕ) (batches : List Batch) → n ≤ m → AllWithin n batches → AllWithin m batches
further n m [] le h = tt
further n m (batch ∷ batches) le h = (omega (arith, le, h.0), further n m batches le h.1)

joined : (n : ℕ) (ones others : List Batch) → AllWithin n ones → AllWithin n others → AllWithin n (ones ++ others)
joined n [] others h k = k
joined n (one ∷ ones) others h k = (h.0, joined n ones others h.1 k)

at : (n k : ℕ) (batches : List Batch) (batch : Batch) → AllWithin n batches → slice_get batches k ≡ Some batch → batch.cut ≤ n
at n k [] batch h e = absurd (let no : ⊥ = cc in no)
at n zero (one ∷ rest) batch h e = let same : one ≡ batch = cc in subst (λ (b : Batch). b.cut ≤ n) same h.0
at n (suc k) (one ∷ rest) batch h e = at n k rest batch h.1 e

within : (entries : List Entry) → Legal entries → AllWithin (length entries) (commits entries)
within = over_legal (λ (entries : List Entry). AllWithin (length entries) (commits entries)) tt step
  where
    step : (entries : List Entry) (entry : Entry) → Legal entries → AllWithin (length entries) (commits entries) → LegalNext entries entry → AllWithin (length (entries ++ entry ∷ [])) (commits (entries ++ entry ∷ []))
    step entries entry legal h next =
        let long = length-append entries (entry ∷ []) in
        let one : AllWithin (length entries) (commits (entry ∷ [])) = by_entry entry next in
        subst (λ (bs : List Batch). AllWithin (length (entries ++ entry ∷ [])) bs) (sym (commits-append entries (entry ∷ [])))
        (further (length entries) (length (entries ++ entry ∷ [])) (commits entries ++ commits (entry ∷ [])) (omega (arith, long)) (joined (length entries) (commits entries) (commits (entry ∷ [])) h one))
      where
        by_entry : (e : Entry) → LegalNext entries e → AllWithin (length entries) (commits (e ∷ []))
        by_entry (Committed batch) may = (may.within, tt)
        by_entry e may = tt

pub stamps_stay : StampsStay
stamps_stay before after legal number above most =
    let k = number - 1 in
    let low : k < length (commits before) = omega (arith, above, most) in
    let all = commits-append before after in
    let taken : take k (commits (before ++ after)) ≡ take k (commits before) = ap (take k) all ∙ take-append-le k (commits before) (commits after) (omega (arith, low)) in
    let got : slice_get (commits (before ++ after)) k ≡ slice_get (commits before) k = ap (λ (bs : List Batch). slice_get bs k) all ∙ get_front (commits before) (commits after) k low in
    ap (λ (o : Option Batch). option_map (stamp_behind (before ++ after) (take k (commits (before ++ after)))) o) got
    ∙ ap (λ (bs : List Batch). option_map (stamp_behind (before ++ after) bs) (slice_get (commits before) k)) taken
    ∙ by_batch (slice_get (commits before) k) (λ batch e. at (length before) k (commits before) batch (within before legal) e)
  where
    by_batch : (o : Option Batch) → ((batch : Batch) → o ≡ Some batch → batch.cut ≤ length before) → option_map (stamp_behind (before ++ after) (take (number - 1) (commits before))) o ≡ option_map (stamp_behind before (take (number - 1) (commits before))) o
    by_batch None h = refl
    by_batch (Some batch) h =
        let same : take batch.cut (before ++ after) ≡ take batch.cut before = take-append-le batch.cut before after (h batch refl) in
        ap (λ (es : List Entry). Some (record { epoch = configurations es; counter = length (filter (λ (other : Batch). same_key other.query batch.query) (take (number - 1) (commits before))) })) same

none_configures : (query : QueryKey) (es : List Entry) → list_any (outdates query) es ≡ false → configurations es ≡ 0
none_configures query [] h = refl
none_configures query (Opened session rules ∷ es) h = absurd (cc)
none_configures query (Configured document schedule moment ∷ es) h = absurd (cc)
none_configures query (Ticked moment ∷ es) h = absurd (cc)
none_configures query (Committed batch ∷ es) h = none_configures query es (by_or (same_key batch.query query) h)
  where
    by_or : (b : Bool) → (b || list_any (outdates query) es) ≡ false → list_any (outdates query) es ≡ false
    by_or true e = absurd (cc)
    by_or false e = e
none_configures query (_ ∷ es) h = none_configures query es h

configurations-append : (xs ys : List Entry) → configurations (xs ++ ys) ≡ configurations xs + configurations ys
configurations-append xs ys = ap length (filter-append is_configured xs ys) ∙ length-append (filter is_configured xs) (filter is_configured ys)

pub stamps_grow : StampsGrow
stamps_grow entries batch may =
    let e = Committed batch in
    let n = length (commits entries) in
    let at_n : n + 1 - 1 ≡ n = omega arith in
    let all : commits (entries ++ e ∷ []) ≡ commits entries ++ batch ∷ [] = commits-append entries (e ∷ []) in
    let got : slice_get (commits (entries ++ e ∷ [])) n ≡ Some batch = ap (λ (bs : List Batch). slice_get bs n) all ∙ get_last (commits entries) batch in
    let taken : take n (commits (entries ++ e ∷ [])) ≡ commits entries = ap (take n) all ∙ take-append-le n (commits entries) (batch ∷ []) (omega arith) ∙ take_all n (commits entries) (omega arith) in
    let cut : take batch.cut (entries ++ e ∷ []) ≡ take batch.cut entries = take-append-le batch.cut entries (e ∷ []) may.within in
    let whole = ap configurations (take-append-drop batch.cut entries) in
    let parts = configurations-append (take batch.cut entries) (drop batch.cut entries) in
    let none = none_configures batch.query (drop batch.cut entries) may.current in
    let epoch : configurations (take batch.cut entries) ≡ configurations entries = omega (arith, whole, parts, none) in
    ap (λ (k : ℕ). option_map (stamp_behind (entries ++ e ∷ []) (take k (commits (entries ++ e ∷ [])))) (slice_get (commits (entries ++ e ∷ [])) k)) at_n
    ∙ ap (λ (o : Option Batch). option_map (stamp_behind (entries ++ e ∷ []) (take n (commits (entries ++ e ∷ [])))) o) got
    ∙ ap (λ (bs : List Batch). Some (stamp_behind (entries ++ e ∷ []) bs batch)) taken
    ∙ ap (λ (es : List Entry). Some (record { epoch = configurations es; counter = length (batches_of entries batch.query) })) cut
    ∙ ap (λ (m : ℕ). Some (record { epoch = m; counter = length (batches_of entries batch.query) })) epoch
