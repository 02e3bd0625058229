-- A state knows each cut that it knew before a call.
use Rattle.std.proofs.Common.{◌≡◌, ℕ, Bool, true, false, List, [], ◌∷◌, Result, Ok, Err, sym, ap, subst, arith}
use Rattle.std.specs.Prelude.{IfOk, OnOk, OnErr, MatchBool}
use Rattle.osq_value.specs.declared.memory.NoMemory.{NoMemory}
use Rattle.osq_value.specs.declared.value.Value.{Value}
use Rattle.entry_model.specs.declared.entry.Entry.{Entry}
use Rattle.entry_model.specs.declared.entry.Entry.TheVariants.{Acked}
use Rattle.session_state.specs.Kept.{Counts, Kept}
use Rattle.session_state.specs.Cut.{CutValue}
use Rattle.session_state.specs.CutOf.{IsCutOf}
use Rattle.session_state.specs.StateOf.{Adds}
use Rattle.session_state.specs.Commits.{Commits}
use Rattle.session_state.specs.Expiries.{expiries, AddsAll}
use Rattle.session_state.proofs.Known.{known_alike}

-- where one entry after another was added
all_known : (old new : Kept) (entries : List Entry) → AddsAll old entries new → (cut : CutValue) → IsCutOf old cut → IsCutOf new cut
all_known old new [] same cut of =
    known_alike old new (record {
      position = (let p = ap (λ (c : Counts). c.position) same.counts in omega (arith, p));
      batches = ap (λ (c : Counts). c.batches) same.counts;
      runs = ap (λ (c : Counts). c.runs) same.counts;
      moment = ap (λ (c : Counts). c.moment) same.counts;
      schedule = same.schedule;
      ticked = same.ticked;
      marks = same.marks;
    }) cut of
all_known old new (entry ∷ rest) all cut of = all_known all.0 new rest all.2 cut (all.1.cuts cut of)

same_known : (old new : Kept) → new ≡ old → (cut : CutValue) → IsCutOf old cut → IsCutOf new cut
same_known old new same cut of = subst (λ (state : Kept). IsCutOf state cut) (sym same) of

-- where an entry was added, or nothing
pub added_known : {A E : Type 0} (old new : Kept) (entry : Entry) (done : Result A E) → OnOk done (Adds old entry new) → OnErr done (new ≡ old) → (cut : CutValue) → IsCutOf old cut → IsCutOf new cut
added_known old new entry (Ok value) added same cut of = added.cuts cut of
added_known old new entry (Err error) added same cut of = same_known old new same cut of

-- where a batch was added, or nothing
pub committed_known : {A E : Type 0} (old new : Kept) (cut : CutValue) (rows : List (List Value)) (done : Result A E) → OnOk done (Commits old cut rows new) → OnErr done (new ≡ old) → (other : CutValue) → IsCutOf old other → IsCutOf new other
committed_known old new cut rows (Ok value) committed same other of = committed.cuts other of
committed_known old new cut rows (Err error) committed same other of = same_known old new same other of

-- where the expiries were added, or nothing
pub expired_known : (old new : Kept) (count : Result ℕ NoMemory) → OnOk count (AddsAll old (expiries old) new) → OnErr count (new ≡ old) → (cut : CutValue) → IsCutOf old cut → IsCutOf new cut
expired_known old new (Ok count) all same cut of = all_known old new (expiries old) all cut of
expired_known old new (Err error) all same cut of = same_known old new same cut of

-- where an acknowledgement was added, or nothing
pub acked_known : (old new : Kept) (upto : ℕ) (done : Result Bool NoMemory) → IfOk done (λ done. MatchBool done (Adds old (Acked upto) new) (new ≡ old)) → OnErr done (new ≡ old) → (cut : CutValue) → IsCutOf old cut → IsCutOf new cut
acked_known old new upto (Ok true) added same cut of = added.cuts cut of
acked_known old new upto (Ok false) added same cut of = same_known old new added cut of
acked_known old new upto (Err error) added same cut of = same_known old new same cut of
