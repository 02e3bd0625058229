-- What a seat has added, turn by turn.
use Rattle.std.proofs.Common.{◌≡◌, ◌≢◌, ℕ, List, [], ◌∷◌, ◌++◌, refl, sym, ap, ap₂, ◌∙◌, subst, append_assoc, append-nil}
use Rattle.turn_lock.specs.declared.board.Stands.{Ghosts}
use Rattle.turn_lock.specs.declared.lock.TurnSeat.{TurnSeat}
use Rattle.turn_lock.specs.Turns.{Grows, stamp}
use Rattle.turn_lock.specs.Words.{IsSame}
use Rattle.turn_lock.proofs.Owned.{own-append, own_none, own-stamp}
use Rattle.shared_store.specs.declared.noted.Noted.{Noted}
use Rattle.thread_laws.specs.Jobs.{AddsOwn, Stamped}

pub adds_none : (n : ℕ) (xs : Stamped) → AddsOwn n xs xs []
adds_none n xs = record { more = []; grown = sym (append-nil xs); are = refl }

-- a turn adds its notes to those of the turns before it
pub adds_turn : (n : ℕ) (P : ℕ → Type 0) → ((k : ℕ) → P k → k ≢ n) → (first old mid new : Stamped) (m : ℕ) (before notes : List Noted) → AddsOwn n first old before → Grows P old mid → new ≡ mid ++ stamp m notes → m ≡ n
    → AddsOwn n first new (before ++ notes)
adds_turn n P other first old mid new m before notes so grows sees same = record {
  more = so.more ++ (grows.0 ++ stamp n notes);
  grown =
      sees ∙ ap (λ (k : ℕ). mid ++ stamp k notes) same ∙ ap (λ (l : Stamped). l ++ stamp n notes) (grows.1 ∙ ap (λ (l : Stamped). l ++ grows.0) so.grown)
      ∙ append_assoc (first ++ so.more) grows.0 (stamp n notes)
      ∙ append_assoc first so.more (grows.0 ++ stamp n notes);
  are =
      own-append n so.more (grows.0 ++ stamp n notes)
      ∙ ap₂ (λ (x y : List Noted). x ++ y) so.are (own-append n grows.0 (stamp n notes) ∙ ap₂ (λ (x y : List Noted). x ++ y) (own_none n grows.0 (λ k d h. other _ (grows.2 k d h))) (own-stamp n notes));
}

-- a turn that noted nothing leaves them as they were
pub adds_nothing : (n : ℕ) (P : ℕ → Type 0) → ((k : ℕ) → P k → k ≢ n) → (first old mid new : Stamped) (m : ℕ) (before notes : List Noted) → AddsOwn n first old before → Grows P old mid → new ≡ mid ++ stamp m notes → m ≡ n → notes ≡ []
    → AddsOwn n first new before
adds_nothing n P other first old mid new m before notes so grows sees same none =
    subst (AddsOwn n first new) (ap (λ (l : List Noted). before ++ l) none ∙ append-nil before) (adds_turn n P other first old mid new m before notes so grows sees same)

module _ {T A E : Type 0} {g : Ghosts T A E} where
  pub same_self : (seat : TurnSeat T A E g) → IsSame seat seat
  same_self seat = record { table = refl; id = refl; start = refl; number = refl; given = refl; joined = refl }

  pub same_then : (first mid last : TurnSeat T A E g) → IsSame first mid → IsSame mid last → IsSame first last
  same_then first mid last x y = record {
    table = y.table ∙ x.table;
    id = y.id ∙ x.id;
    start = y.start ∙ x.start;
    number = y.number ∙ x.number;
    given = y.given ∙ x.given;
    joined = y.joined ∙ x.joined;
  }
