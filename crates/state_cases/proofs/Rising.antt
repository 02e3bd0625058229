-- Where names end, they rise.
use Rattle.std.proofs.Common.{◌≡◌, ℕ, zero, suc, ◌≤◌, true, List, [], ◌∷◌, length, drop, refl, arith}
use Rattle.pack_rules.specs.declared.schedule.Scheduled.{Scheduled}
use Rattle.pack_rules.specs.ByName.{names_rise}

-- of at most one behind a place
pub end_rises : (xs : List Scheduled) (i : ℕ) → length xs ≤ suc i → names_rise (drop i xs) ≡ true
end_rises [] zero within = refl
end_rises [] (suc i) within = refl
end_rises (x ∷ []) zero within = refl
end_rises (x ∷ y ∷ xs) zero within = absurd (omega arith)
end_rises (x ∷ xs) (suc i) within = end_rises xs i (omega arith)
