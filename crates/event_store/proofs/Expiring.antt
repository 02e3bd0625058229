-- The walk that finds what is to expire, and what it finds.
use Rattle.std.proofs.Common.{◌≡◌, ℕ, ◌-◌, ◌<◌, Bool, true, false, cond, List, [], ◌∷◌, ◌++◌, length, Option, Some, None, refl, sym, ap, ◌∙◌, subst, arith, append_assoc}
use Rattle.std.specs.Prelude.{All, IfSome, filter, count_by, nat_lt, nat_le, ◌&&◌, ◌||◌, if◌then◌else◌}
use Rattle.std.specs.List.{AllByRecursion}
use Rattle.std.proofs.lemmas.Bool.Decides.{nat_tests}
use Rattle.std.proofs.lemmas.List.Elements.{All-filter, recursion_from_All, filter-append}
use Rattle.std.proofs.lemmas.List.Sums.{length-filter}
use Rattle.entry_model.specs.declared.restored.Live.{Live}
use Rattle.entry_model.specs.Values.{last_of}
use Rattle.entry_model.specs.Fits.{IsRisingFrom}
use Rattle.event_store.specs.Owed.{must_go, owed_of}
use Rattle.event_store.specs.Queues.{above}
use Rattle.event_store.proofs.Queues.{all_above}

-- the walk over the events that are left: what was found so far, and how many come later
abbrev pub owed_from : ℕ → ℕ → ℕ → ℕ → Option ℕ → List Live → Option ℕ
owed_from expiry max moment reached owed [] = owed
owed_from expiry max moment reached owed (event ∷ rest) =
    owed_from expiry max moment reached (if nat_le expiry (moment - event.moment) && nat_le event.number reached || nat_le max (length rest) then Some event.number else owed) rest

-- the numbers before one of rising numbers are less, and those after it are greater
below : (front rest : List Live) (event : Live) (n : ℕ) → IsRisingFrom n (front ++ event ∷ rest) → AllByRecursion (λ (x : Live). x.number < event.number) front × IsRisingFrom event.number rest × (n < event.number)
below [] rest event n r = (tt, r.1, r.0)
below (x ∷ front) rest event n r =
    let h = below front rest event x.number r.1 in
    ((h.2, h.0), h.1, (let a = h.2 in let b = r.0 in omega (arith, a, b)))

none_after : (number : ℕ) (xs : List Live) → AllByRecursion (λ (x : Live). x.number < number) xs → above number xs ≡ []
none_after number [] h = refl
none_after number (x ∷ xs) h =
    let low : nat_lt number x.number ≡ false = (let a = h.0 in grind (arith, nat_tests, a)) in
    ap (λ (b : Bool). cond b (x ∷ above number xs) (above number xs)) low ∙ none_after number xs h.1

later_is : (front rest : List Live) (event : Live) → IsRisingFrom 0 (front ++ event ∷ rest) → count_by (λ (other : Live). nat_lt event.number other.number) (front ++ event ∷ rest) ≡ length rest
later_is front rest event r =
    let h = below front rest event 0 r in
    let after = λ (other : Live). nat_lt event.number other.number in
    let itself : nat_lt event.number event.number ≡ false = grind (arith, nat_tests) in
    sym (length-filter after (front ++ event ∷ rest))
    ∙ ap length (filter-append after front (event ∷ rest))
    ∙ ap (λ (es : List Live). length (es ++ filter after (event ∷ rest))) (none_after event.number front h.0)
    ∙ ap (λ (b : Bool). length (cond b (event ∷ filter after rest) (filter after rest))) itself
    ∙ ap length (all_above event.number event.number rest (omega arith) h.1)

module _ (expiry max moment reached : ℕ) where
  found : (front xs : List Live) (owed : Option ℕ) → IsRisingFrom 0 (front ++ xs) → owed_from expiry max moment reached owed xs ≡ last_of (λ (event : Live). Some (Some event.number)) owed (filter (must_go expiry max moment reached (front ++ xs)) xs)
  found front [] owed r = refl
  found front (x ∷ xs) owed r =
      let same = append_assoc front (x ∷ []) xs in
      let r' : IsRisingFrom 0 ((front ++ x ∷ []) ++ xs) = subst (IsRisingFrom 0) (sym same) r in
      let goes : must_go expiry max moment reached (front ++ x ∷ xs) x ≡ (nat_le expiry (moment - x.moment) && nat_le x.number reached || nat_le max (length xs)) = ap (λ (n : ℕ). nat_le expiry (moment - x.moment) && nat_le x.number reached || nat_le max n) (later_is front xs x r) in
      found (front ++ x ∷ []) xs (if nat_le expiry (moment - x.moment) && nat_le x.number reached || nat_le max (length xs) then Some x.number else owed) r'
      ∙ ap (λ (es : List Live). last_of (λ (event : Live). Some (Some event.number)) (if nat_le expiry (moment - x.moment) && nat_le x.number reached || nat_le max (length xs) then Some x.number else owed) (filter (must_go expiry max moment reached es) xs)) same
      ∙ by_cause (nat_le expiry (moment - x.moment) && nat_le x.number reached || nat_le max (length xs)) goes
    where
      by_cause : (b : Bool) → must_go expiry max moment reached (front ++ x ∷ xs) x ≡ b → last_of (λ (event : Live). Some (Some event.number)) (cond b (Some x.number) owed) (filter (must_go expiry max moment reached (front ++ x ∷ xs)) xs) ≡ last_of (λ (event : Live). Some (Some event.number)) owed (cond (must_go expiry max moment reached (front ++ x ∷ xs) x) (x ∷ filter (must_go expiry max moment reached (front ++ x ∷ xs)) xs) (filter (must_go expiry max moment reached (front ++ x ∷ xs)) xs))
      by_cause true e = sym (ap (λ (b : Bool). last_of (λ (event : Live). Some (Some event.number)) owed (cond b (x ∷ filter (must_go expiry max moment reached (front ++ x ∷ xs)) xs) (filter (must_go expiry max moment reached (front ++ x ∷ xs)) xs))) e)
      by_cause false e = sym (ap (λ (b : Bool). last_of (λ (event : Live). Some (Some event.number)) owed (cond b (x ∷ filter (must_go expiry max moment reached (front ++ x ∷ xs)) xs) (filter (must_go expiry max moment reached (front ++ x ∷ xs)) xs))) e)

  pub owed_is : (events : List Live) → IsRisingFrom 0 events → owed_from expiry max moment reached None events ≡ owed_of expiry max moment reached events
  owed_is events r = found [] events None r

-- what is owed is the number of one of them
last_among : (Q : ℕ → Type 0) (so_far : Option ℕ) (xs : List Live) → IfSome so_far Q → AllByRecursion (λ (x : Live). Q x.number) xs → IfSome (last_of (λ (event : Live). Some (Some event.number)) so_far xs) Q
last_among Q so_far [] h all = h
last_among Q so_far (x ∷ xs) h all = last_among Q (Some x.number) xs all.0 all.1

pub owed_among : (Q : ℕ → Type 0) (expiry max moment reached : ℕ) (events : List Live) → All (λ (x : Live). Q x.number) events → IfSome (owed_of expiry max moment reached events) Q
owed_among Q expiry max moment reached events all =
    let kept = filter (must_go expiry max moment reached events) events in
    last_among Q None kept tt (recursion_from_All (λ (x : Live). Q x.number) kept (All-filter (must_go expiry max moment reached events) (λ (x : Live). Q x.number) events all))
