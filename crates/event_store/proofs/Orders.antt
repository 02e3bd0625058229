-- Events in the order of their moments: the old ones stand in front.
use Rattle.std.proofs.Common.{◌≡◌, ℕ, zero, suc, ◌+◌, ◌-◌, ◌<◌, ◌≤◌, Bool, true, false, cond, List, [], ◌∷◌, ◌++◌, length, take, drop, get_or, Option, Some, None, refl, sym, ap, ◌∙◌, subst, arith}
use Rattle.std.specs.Prelude.{nat_le, ◌&&◌, ◌||◌, filter}
use Rattle.std.specs.List.{AllByRecursion}
use Rattle.std.specs.Option.{option_to_list}
use Rattle.std.proofs.lemmas.Bool.Decides.{nat_tests}
use Rattle.std.proofs.lemmas.List.{drop_more, length-drop, take-append-drop}
use Rattle.entry_model.specs.declared.restored.Live.{Live}
use Rattle.entry_model.specs.Fits.{IsRisingFrom}
use Rattle.event_store.specs.Orders.{IsInOrder}
use Rattle.event_store.specs.Owed.{owed_of}
use Rattle.event_store.proofs.Expiring.{owed_from, owed_is}

bounds : (first last : ℕ) (xs : List Live) → IsInOrder first last xs → first ≤ last
bounds first last [] h = h
bounds first last (x ∷ xs) h =
    let a = h.0 in
    let b = bounds x.moment last xs h.1 in
    omega (arith, a, b)

-- one event more, of a later moment
pub order_more : (first last : ℕ) (xs : List Live) (event : Live) → last ≤ event.moment → IsInOrder first last xs → IsInOrder first event.moment (xs ++ event ∷ [])
order_more first last [] event later h = (omega (arith, later, h), omega arith)
order_more first last (x ∷ xs) event later h = (h.0, order_more x.moment last xs event later h.1)

pub order_front : (first last : ℕ) (xs : List Live) (count : ℕ) → IsInOrder first last xs → IsInOrder first last (take count xs)
order_front first last xs zero h = bounds first last xs h
order_front first last [] (suc count) h = h
order_front first last (x ∷ xs) (suc count) h = (h.0, order_front x.moment last xs count h.1)

-- a first event less
pub order_rest : (last : ℕ) (taken : Option Live) (old new : List Live) → old ≡ option_to_list taken ++ new → IsInOrder 0 last old → IsInOrder 0 last new
order_rest last None old new is h = subst (IsInOrder 0 last) is h
order_rest last (Some x) old new is h = later new (subst (IsInOrder 0 last) is h).1
  where
    later : (xs : List Live) → IsInOrder x.moment last xs → IsInOrder 0 last xs
    later [] k = omega arith
    later (y ∷ ys) k = (omega arith, k.1)

-- an event that is old and has been reached
abbrev pub is_over : ℕ → ℕ → ℕ → Live → Bool
is_over expiry moment reached event = nat_le expiry (moment - event.moment) && nat_le event.number reached

-- one that came later isn't, where one before it isn't
still_wanted : (expiry moment reached : ℕ) (one other : Live) → one.moment ≤ other.moment → one.number < other.number → is_over expiry moment reached one ≡ false → is_over expiry moment reached other ≡ false
still_wanted expiry moment reached one other later greater wanted = by_causes (nat_le expiry (moment - one.moment)) (nat_le one.number reached) refl refl
  where
    never : (b : Bool) → (b && false) ≡ false
    never true = refl
    never false = refl

    by_causes : (a b : Bool) → nat_le expiry (moment - one.moment) ≡ a → nat_le one.number reached ≡ b → is_over expiry moment reached other ≡ false
    by_causes false b e f =
        let young : nat_le expiry (moment - other.moment) ≡ false = grind (arith, nat_tests, e, later) in
        ap (λ (t : Bool). t && nat_le other.number reached) young
    by_causes true false e f =
        let beyond : nat_le other.number reached ≡ false = grind (arith, nat_tests, f, greater) in
        ap (λ (t : Bool). nat_le expiry (moment - other.moment) && t) beyond ∙ never (nat_le expiry (moment - other.moment))
    by_causes true true e f = absurd (let k = sym (λ i. e i && f i) ∙ wanted in cc)

-- where an event may stay, all behind it may
pub none_goes : (expiry max moment reached : ℕ) (owed : Option ℕ) (last : ℕ) (one : Live) (xs : List Live) → is_over expiry moment reached one ≡ false → nat_le max (length xs) ≡ false → IsInOrder one.moment last xs → IsRisingFrom one.number xs → owed_from expiry max moment reached owed xs ≡ owed
none_goes expiry max moment reached owed last one [] wanted few h rising = refl
none_goes expiry max moment reached owed last one (x ∷ xs) wanted few h rising =
    let wanted' = still_wanted expiry moment reached one x h.0 rising.0 wanted in
    let few' : nat_le max (length xs) ≡ false = grind (arith, nat_tests, few) in
    (λ i. owed_from expiry max moment reached (cond (wanted' i || few' i) (Some x.number) owed) xs) ∙ none_goes expiry max moment reached owed last x xs wanted' few' h.1 rising.1

-- the walk may end at the first event that may stay
pub ends_here : (expiry max moment reached : ℕ) (owed : Option ℕ) (last : ℕ) (x : Live) (xs : List Live) → (is_over expiry moment reached x || nat_le max (length xs)) ≡ false → (first low : ℕ) → IsInOrder first last (x ∷ xs) → IsRisingFrom low (x ∷ xs) → owed_from expiry max moment reached owed (x ∷ xs) ≡ owed
ends_here expiry max moment reached owed last x xs stays first low h rising = by_causes (is_over expiry moment reached x) (nat_le max (length xs)) refl refl
  where
    by_causes : (a b : Bool) → is_over expiry moment reached x ≡ a → nat_le max (length xs) ≡ b → owed_from expiry max moment reached owed (x ∷ xs) ≡ owed
    by_causes false false e f =
        (λ i. owed_from expiry max moment reached (cond (e i || f i) (Some x.number) owed) xs) ∙ none_goes expiry max moment reached owed last x xs e f h.1 rising.1
    by_causes true b e f = absurd (let k = sym (ap (λ (t : Bool). t || nat_le max (length xs)) e) ∙ stays in cc)
    by_causes false true e f = absurd (let k = sym (λ i. e i || f i) ∙ stays in cc)

pub order_behind : (first last : ℕ) (front xs : List Live) → IsInOrder first last (front ++ xs) → (later : ℕ) × IsInOrder later last xs
order_behind first last [] xs h = (first, h)
order_behind first last (x ∷ front) xs h = order_behind x.moment last front xs h.1

rising_behind : (low : ℕ) (front xs : List Live) → IsRisingFrom low (front ++ xs) → (from : ℕ) × IsRisingFrom from xs
rising_behind low [] xs h = (low, h)
rising_behind low (x ∷ front) xs h = rising_behind x.number front xs h.1

-- the walk over the events that are left ends where one may stay
pub ends_walk : (expiry max moment reached at later last : ℕ) (owed : Option ℕ) (items : List Live) (d : Live) → at < length items → later + at ≡ length items → IsRisingFrom 0 items → IsInOrder 0 last items → (is_over expiry moment reached (get_or items at d) || nat_le max (later - 1)) ≡ false → owed_from expiry max moment reached owed (drop at items) ≡ owed_from expiry max moment reached None items → owed ≡ owed_of expiry max moment reached items
ends_walk expiry max moment reached at later last owed items d within counts rising order stays so_far =
    let x = get_or items at d in
    let rest = drop (at + 1) items in
    let left : drop at items ≡ x ∷ rest = drop_more items at d within in
    let all : take at items ++ x ∷ rest ≡ items = ap (λ (es : List Live). take at items ++ es) (sym left) ∙ take-append-drop at items in
    let behind = order_behind 0 last (take at items) (x ∷ rest) (subst (IsInOrder 0 last) (sym all) order) in
    let up = rising_behind 0 (take at items) (x ∷ rest) (subst (IsRisingFrom 0) (sym all) rising) in
    let long : length rest ≡ later - 1 = omega (arith, length-drop (at + 1) items, counts, within) in
    let stay : (is_over expiry moment reached x || nat_le max (length rest)) ≡ false = ap (λ (n : ℕ). is_over expiry moment reached x || nat_le max n) long ∙ stays in
    sym (ends_here expiry max moment reached owed last x rest stay behind.0 up.0 behind.1 up.1)
    ∙ ap (owed_from expiry max moment reached owed) (sym left)
    ∙ so_far
    ∙ owed_is expiry max moment reached items rising

order_lower : (low first last : ℕ) (xs : List Live) → low ≤ first → IsInOrder first last xs → IsInOrder low last xs
order_lower low first last [] up h = omega (arith, up, h)
order_lower low first last (x ∷ xs) up h = (let a = h.0 in omega (arith, a, up), h.1)

-- some of them
pub order_filter : (p : Live → Bool) (first last : ℕ) (xs : List Live) → IsInOrder first last xs → IsInOrder first last (filter p xs)
order_filter p first last [] h = h
order_filter p first last (x ∷ xs) h = by_test (p x) (order_filter p x.moment last xs h.1)
  where
    by_test : (b : Bool) → IsInOrder x.moment last (filter p xs) → IsInOrder first last (cond b (x ∷ filter p xs) (filter p xs))
    by_test true rest = (h.0, rest)
    by_test false rest = order_lower first x.moment last (filter p xs) h.0 rest

-- more of one moment, which is later
pub order_both : (first last moment : ℕ) (xs ys : List Live) → last ≤ moment → IsInOrder first last xs → AllByRecursion (λ (y : Live). y.moment ≡ moment) ys → IsInOrder first moment (xs ++ ys)
order_both first last moment (x ∷ xs) ys later h same = (h.0, order_both x.moment last moment xs ys later h.1 same)
order_both first last moment [] [] later h same = omega (arith, later, h)
order_both first last moment [] (y ∷ ys) later h same =
    let is = same.0 in
    (omega (arith, later, h, is), order_both y.moment moment moment [] ys (omega arith) (omega (arith, is)) same.1)
