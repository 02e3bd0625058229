-- Batches that are fetched from a list.
use Rattle.std.proofs.Common.{◌≡◌, refl, sym, subst, ap, arith, ℕ, zero, suc, ◌+◌, ◌-◌, ◌<◌, Bool, true, false, List, [], ◌∷◌, ◌++◌, length, length-append, Some, None}
use Rattle.std.specs.Prelude.{if◌then◌else◌, nat_lt, slice_get}
use Rattle.std.proofs.lemmas.Bool.Decides.{nat_tests}
use Rattle.std.proofs.lemmas.List.{append-nil}
use Rattle.entry_model.specs.declared.entry.Batch.{Batch}
use Rattle.entry_model.specs.declared.entry.Entry.{Entry}
use Rattle.entry_model.specs.declared.entry.Entry.TheVariants.{Opened, Configured, Ticked, Appended, TableSet, Expired, Committed, Acked}
use Rattle.entry_model.specs.Legal.{Legal, LegalNext}
use Rattle.entry_model.specs.Values.{acked_upto, commits}
use Rattle.entry_model.proofs.Follows.{over_legal}
use Rattle.entry_model.proofs.Lasts.{commits-append}
use Rattle.frame_laws.specs.Laws.{FetchedIsCommitted, FetchedIsNumbered, FetchedMakesFrame, IsCommitted}
use Rattle.frame_laws.proofs.Made.{commits_make_frames}

-- ---- the numbers of batches

abbrev Numbered : ℕ → List Batch → Type 0
Numbered n [] = Unit {0}
Numbered n (batch ∷ batches) = (batch.number ≡ n) × Numbered (suc n) batches

numbered_more : (n : ℕ) (bs : List Batch) (b : Batch) → Numbered n bs → b.number ≡ n + length bs → Numbered n (bs ++ b ∷ [])
numbered_more n [] b h e = (omega (arith, e), tt)
numbered_more n (c ∷ bs) b h e = (h.0, numbered_more (suc n) bs b h.1 (omega (arith, e)))

numbered_next : (K : List Entry) (e : Entry) → Legal K → Numbered 1 (commits K) → LegalNext K e → Numbered 1 (commits (K ++ e ∷ []))
numbered_next K e legal h may = subst (Numbered 1) (sym (commits-append K (e ∷ []))) (by e may)
  where
    quiet : Numbered 1 (commits K ++ [])
    quiet = subst (Numbered 1) (sym (append-nil (commits K))) h

    by : (e : Entry) → LegalNext K e → Numbered 1 (commits K ++ commits (e ∷ []))
    by (Opened session rules) may = quiet
    by (Configured document schedule moment) may = quiet
    by (Ticked moment) may = quiet
    by (Appended source taken events skipped moment) may = quiet
    by (TableSet source table rows taken) may = quiet
    by (Expired table floor moment) may = quiet
    by (Committed batch) may = let next = may.next in numbered_more 1 (commits K) batch h (omega (arith, next))
    by (Acked upto) may = quiet

-- the batches of a legal list are numbered from 1
numbers : (K : List Entry) → Legal K → Numbered 1 (commits K)
numbers = over_legal (λ (es : List Entry). Numbered 1 (commits es)) tt numbered_next

numbered_at : (n : ℕ) (bs : List Batch) (k : ℕ) (b : Batch) → Numbered n bs → slice_get bs k ≡ Some b → b.number ≡ n + k
numbered_at n [] k b h e = absurd (cc)
numbered_at n (c ∷ bs) zero b h e =
    let here : c ≡ b = cc in
    let same : c.number ≡ b.number = ap (λ (x : Batch). x.number) here in
    let first = h.0 in
    omega (arith, same, first)
numbered_at n (c ∷ bs) (suc k) b h e = let rest = numbered_at (suc n) bs k b h.1 e in omega (arith, rest)

-- ---- what is fetched

-- the number is above the mark, and the batch is at its place
record IsThere (mark number : ℕ) (batches : List Batch) (batch : Batch) : Type 0 where
  above_mark : mark < number
  is : slice_get batches (number - 1) ≡ Some batch

there : (mark number : ℕ) (batches : List Batch) (batch : Batch) (t : Bool) → nat_lt mark number ≡ t → (if t then slice_get batches (number - 1) else None) ≡ Some batch → IsThere mark number batches batch
there mark number batches batch true is e = record { above_mark = grind (arith, nat_tests, is); is = e }
there mark number batches batch false is e = absurd (cc)

pub fetched_is_numbered : FetchedIsNumbered
fetched_is_numbered entries number batch legal is =
    let at = there (acked_upto entries) number (commits entries) batch (nat_lt (acked_upto entries) number) refl is in
    let higher = at.above_mark in
    let own = numbered_at 1 (commits entries) (number - 1) batch (numbers entries legal) at.is in
    omega (arith, own, higher)

with_first : (e : Entry) (es : List Entry) (b : Batch) → IsCommitted es b → IsCommitted (e ∷ es) b
with_first e es b h = record { before = e ∷ h.before; after = h.after; are = ap (λ (xs : List Entry). e ∷ xs) h.are }

committed_at : (entries : List Entry) (k : ℕ) (b : Batch) → slice_get (commits entries) k ≡ Some b → IsCommitted entries b
committed_at [] k b e = absurd (cc)
committed_at (Committed c ∷ es) zero b e = let here : c ≡ b = cc in record { before = []; after = es; are = ap (λ (x : Batch). Committed x ∷ es) here }
committed_at (Committed c ∷ es) (suc k) b e = with_first (Committed c) es b (committed_at es k b e)
committed_at (Opened session rules ∷ es) k b e = with_first (Opened session rules) es b (committed_at es k b e)
committed_at (Configured document schedule moment ∷ es) k b e = with_first (Configured document schedule moment) es b (committed_at es k b e)
committed_at (Ticked moment ∷ es) k b e = with_first (Ticked moment) es b (committed_at es k b e)
committed_at (Appended source taken events skipped moment ∷ es) k b e = with_first (Appended source taken events skipped moment) es b (committed_at es k b e)
committed_at (TableSet source table rows taken ∷ es) k b e = with_first (TableSet source table rows taken) es b (committed_at es k b e)
committed_at (Expired table floor moment ∷ es) k b e = with_first (Expired table floor moment) es b (committed_at es k b e)
committed_at (Acked upto ∷ es) k b e = with_first (Acked upto) es b (committed_at es k b e)

pub fetched_is_committed : FetchedIsCommitted
fetched_is_committed entries number batch is =
    committed_at entries (number - 1) batch (there (acked_upto entries) number (commits entries) batch (nat_lt (acked_upto entries) number) refl is).is

pub fetched_makes_frame : FetchedMakesFrame
fetched_makes_frame entries number batch host legal few is named =
    let at = fetched_is_committed entries number batch is in
    let long = ap (λ (es : List Entry). length es) at.are in
    let both = length-append at.before (Committed batch ∷ at.after) in
    commits_make_frames at.before at.after batch host (subst Legal at.are legal) (omega (arith, few, long, both)) named
