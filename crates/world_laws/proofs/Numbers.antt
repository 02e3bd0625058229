-- The numbers of a legal list's batches.
use Rattle.std.proofs.Common.{◌≡◌, sym, subst, ap, arith, ℕ, zero, suc, ◌+◌, ◌≤◌, ◌^◌, List, [], ◌∷◌, ◌++◌, length, Some}
use Rattle.std.specs.Prelude.{slice_get}
use Rattle.std.proofs.lemmas.List.{append-nil}
use Rattle.entry_model.specs.declared.entry.Batch.{Batch}
use Rattle.entry_model.specs.declared.entry.Entry.{Entry}
use Rattle.entry_model.specs.declared.entry.Entry.TheVariants.{Opened, Configured, Ticked, Appended, TableSet, Expired, Committed, Acked}
use Rattle.entry_model.specs.Legal.{Legal, LegalNext}
use Rattle.entry_model.specs.Values.{commits}
use Rattle.entry_model.proofs.Follows.{over_legal}
use Rattle.entry_model.proofs.Lasts.{commits-append}

-- numbered from there on, and by no number that is too great
abbrev Numbered : ℕ → List Batch → Type 0
Numbered n [] = Unit {0}
Numbered n (batch ∷ batches) = (batch.number ≡ n) × (batch.number ≤ 2 ^ 62) × Numbered (suc n) batches

numbered_more : (n : ℕ) (bs : List Batch) (b : Batch) → Numbered n bs → b.number ≡ n + length bs → b.number ≤ 2 ^ 62 → Numbered n (bs ++ b ∷ [])
numbered_more n [] b h e small = (omega (arith, e), small, tt)
numbered_more n (c ∷ bs) b h e small = (h.0, h.1, numbered_more (suc n) bs b h.2 (omega (arith, e)) small)

numbered_next : (K : List Entry) (e : Entry) → Legal K → Numbered 1 (commits K) → LegalNext K e → Numbered 1 (commits (K ++ e ∷ []))
numbered_next K e legal h may = subst (Numbered 1) (sym (commits-append K (e ∷ []))) (by e may)
  where
    quiet : Numbered 1 (commits K ++ [])
    quiet = subst (Numbered 1) (sym (append-nil (commits K))) h

    by : (e : Entry) → LegalNext K e → Numbered 1 (commits K ++ commits (e ∷ []))
    by (Opened session rules) may = quiet
    by (Configured document schedule moment) may = quiet
    by (Ticked moment) may = quiet
    by (Appended source taken events skipped moment) may = quiet
    by (TableSet source table rows taken) may = quiet
    by (Expired table floor moment) may = quiet
    by (Committed batch) may = let next = may.next in numbered_more 1 (commits K) batch h (omega (arith, next)) may.bound
    by (Acked upto) may = quiet

numbers : (K : List Entry) → Legal K → Numbered 1 (commits K)
numbers = over_legal (λ (es : List Entry). Numbered 1 (commits es)) tt numbered_next

-- the number of a batch is that of its place, counted from 1
pub record HasNumber (place : ℕ) (batch : Batch) : Type 0 where
  pub is : batch.number ≡ place + 1
  pub small : batch.number ≤ 2 ^ 62

numbered_at : (n : ℕ) (bs : List Batch) (k : ℕ) (b : Batch) → Numbered n bs → slice_get bs k ≡ Some b → (b.number ≡ n + k) × (b.number ≤ 2 ^ 62)
numbered_at n [] k b h e = absurd (cc)
numbered_at n (c ∷ bs) zero b h e =
    let here : c ≡ b = cc in
    let same : c.number ≡ b.number = ap (λ (x : Batch). x.number) here in
    let first = h.0 in
    let small = h.1 in
    (omega (arith, same, first), omega (arith, same, small))
numbered_at n (c ∷ bs) (suc k) b h e = let rest = numbered_at (suc n) bs k b h.2 e in (omega (arith, rest.0), rest.1)

pub number_at : (entries : List Entry) (place : ℕ) (batch : Batch) → Legal entries → slice_get (commits entries) place ≡ Some batch → HasNumber place batch
number_at entries place batch legal at =
    let found = numbered_at 1 (commits entries) place batch (numbers entries legal) at in
    let is = found.0 in
    record { is = omega (arith, is); small = found.1 }
