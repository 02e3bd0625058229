-- Where no query is claimed, the one that is cut next is the one that is due first.
use Rattle.std.proofs.Common.{◌≡◌, ℕ, ◌+◌, Bool, true, false, cond, List, [], ◌∷◌, length, set, Option, Some, None, refl, sym, ap, ◌∙◌, subst, arith}
use Rattle.std.specs.Prelude.{position, not, ◌&&◌, nat_lt, if◌then◌else◌}
use Rattle.std.specs.List.{position_or_len, zip}
use Rattle.std.proofs.lemmas.List.{set-set}
use Rattle.std.proofs.lemmas.List.Elements.{All-head, All-set, All-tail}
use Rattle.query_cursors.specs.Due as cursors
use Rattle.session_state.specs.Kept.{IsState, Kept}
use Rattle.session_state.specs.Ticks.{first_due}
use Rattle.session_state.specs.Cutting.{next_place}
use Rattle.daemon_rounds.specs.Adding.{AreFree}

abbrev free_one : Bool → Type 0
free_one claim = claim ≡ false

and_true : (b : Bool) → (b && true) ≡ b
and_true true = refl
and_true false = refl

module _ {X : Type 0} (p : X → Bool) where
  zipped : (xs : List X) (claims : List Bool) → length claims ≡ length xs → length (zip xs claims) ≡ length xs
  zipped [] claims long = refl
  zipped (x ∷ xs) [] long = absurd (omega (arith, long))
  zipped (x ∷ xs) (claim ∷ claims) long = let rest = zipped xs claims (omega (arith, long)) in omega (arith, rest)

  first_same : (xs : List X) (claims : List Bool) → length claims ≡ length xs → AreFree claims → position_or_len (λ (pair : X × Bool). p pair.0 && not pair.1) (zip xs claims) ≡ position_or_len p xs
  first_same [] claims long free = refl
  first_same (x ∷ xs) [] long free = absurd (omega (arith, long))
  first_same (x ∷ xs) (claim ∷ claims) long free =
      let head = All-head free_one claim claims free in
      let rest = first_same xs claims (omega (arith, long)) (All-tail free_one claim claims free) in
      (λ i. cond (not (p x && not (head i))) (1 + rest i) 0) ∙ ap (λ (b : Bool). cond (not b) (1 + position_or_len p xs) 0) (and_true (p x))

  -- the first that passes and is not claimed is the first that passes
  first_is : (xs : List X) (claims : List Bool) → length claims ≡ length xs → AreFree claims → position (λ (pair : X × Bool). p pair.0 && not pair.1) (zip xs claims) ≡ position p xs
  first_is xs claims long free =
      λ i. cond (nat_lt (first_same xs claims long free i) (zipped xs claims long i)) (Some (first_same xs claims long free i)) None

or_itself : (o : Option ℕ) → cursors.or_else o o ≡ o
or_itself None = refl
or_itself (Some place) = refl

pub next_is : (s : Kept) → IsState s → AreFree s.claims → next_place s ≡ first_due s
next_is s is free =
    ap (λ (o : Option ℕ). if s.ticked then cursors.or_else o (cursors.first_due s.counts.runs s.schedule.queries s.counts.moment) else None) (first_is (cursors.is_due_by s.counts.runs s.counts.moment) s.schedule.queries s.claims is.claims free)
    ∙ ap (λ (o : Option ℕ). if s.ticked then o else None) (or_itself (cursors.first_due s.counts.runs s.schedule.queries s.counts.moment))

-- a claim that is given back is free again
pub freed : (claims : List Bool) (place : ℕ) → AreFree claims → AreFree (set (set claims place true) place false)
freed claims place free =
    subst AreFree (sym (set-set claims place true false)) (All-set free_one claims place false refl free)
