-- The places that are known after one more key.
use Rattle.std.proofs.Common.{◌≡◌, ℕ, Bool, true, false, cond, Option, Some, None, refl, sym, ap, ◌∙◌}
use Rattle.std.specs.Prelude.{is_some}
use Rattle.std.specs.HashMap.{HashMap, Updates}
use Rattle.pack_rules.specs.declared.schedule.QueryKey.{QueryKey}
use Rattle.pack_rules.specs.Keys.{same_key}
use Rattle.entry_model.proofs.Lasts.{same_key_is}
use Rattle.query_cursors.specs.declared.index.Lent.{Lent}
use Rattle.query_cursors.specs.Known.{known_at, first_known}

abbrev pub same_lent : Lent → Lent → Bool
same_lent left right = same_key left.key.now right.key.now

stays : (o : Option ℕ) (place : ℕ) → first_known o false place ≡ o
stays None place = refl
stays (Some before) place = refl

module _ {S : Type 0} (lent : Lent) (place : ℕ) where
  -- a key that had no place
  pub known_then : (old new : HashMap Lent ℕ S) → Updates same_lent old new lent (Some place) → known_at old lent.key.now ≡ None → (query : QueryKey) → known_at new query ≡ first_known (known_at old query) (same_key lent.key.now query) place
  known_then old new updates none query = by_same (same_key lent.key.now query) refl
    where
      other : Lent
      other = record lent { key = record lent.key { now = query } }

      by_same : (b : Bool) → same_key lent.key.now query ≡ b → known_at new query ≡ first_known (known_at old query) b place
      by_same true e =
          updates.0 other
          ∙ ap (λ (b : Bool). cond b (Some place) (known_at old query)) e
          ∙ sym (ap (λ (o : Option ℕ). first_known o true place) (ap (known_at old) (sym (same_key_is lent.key.now query e)) ∙ none))
      by_same false e =
          updates.0 other
          ∙ ap (λ (b : Bool). cond b (Some place) (known_at old query)) e
          ∙ sym (stays (known_at old query) place)

  -- a key that has one
  pub known_still : (old : HashMap Lent ℕ S) (before : ℕ) → known_at old lent.key.now ≡ Some before → (query : QueryKey) → known_at old query ≡ first_known (known_at old query) (same_key lent.key.now query) place
  known_still old before some query = by_same (same_key lent.key.now query) refl
    where
      by_same : (b : Bool) → same_key lent.key.now query ≡ b → known_at old query ≡ first_known (known_at old query) b place
      by_same true e =
          let is = ap (known_at old) (sym (same_key_is lent.key.now query e)) ∙ some in
          is ∙ sym (ap (λ (o : Option ℕ). first_known o true place) is)
      by_same false e = sym (stays (known_at old query) place)

pub missing : (o : Option ℕ) → is_some o ≡ false → o ≡ None
missing None h = refl
missing (Some x) h = absurd (cc)
