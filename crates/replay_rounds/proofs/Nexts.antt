-- A tick that begins with acknowledgements, and what is heard behind one.
use Rattle.std.proofs.Common.{◌≡◌, ℕ, ◌≤◌, ◌+◌, Bool, true, false, true≢false, List, [], ◌∷◌, ◌++◌, map, Err, Ok, refl, sym, ap, ◌∙◌, subst, append-nil, arith}
use Rattle.std.proofs.lemmas.Bool.Decides.{nat_tests}
use Rattle.std.specs.Prelude.{◌==◌, length, Result, IfOk, OnErr, OnOk}
use Rattle.source_feeds.specs.Feeding.{Feeding}
use Rattle.entry_model.specs.declared.entry.Entry.{Entry}
use Rattle.entry_model.specs.declared.entry.Entry.TheVariants.{Acked}
use Rattle.entry_model.specs.declared.restored.Taken.{Taken}
use Rattle.batch_keeper.specs.declared.keeper.KeeperError.{KeeperError}
use Rattle.batch_keeper.specs.declared.keeper.KeeperError.TheVariants as keeping
use Rattle.batch_forwarder.specs.declared.sending.ForwardError.{ForwardError}
use Rattle.batch_forwarder.specs.declared.sending.ForwardError.TheVariants as forwarding
use Rattle.forward_rounds.specs.Forwarding.{Forwarded, View}
use Rattle.session_state.specs.Kept.{Counts, Kept}
use Rattle.daemon_rounds.specs.Adding.{counts_after}
use Rattle.daemon_rounds.specs.Rounding.{AreGoing}
use Rattle.daemon_rounds.specs.Telling.{AreTellable}
use Rattle.daemon_rounds.proofs.Adding.{brings_same}
use Rattle.replay_rounds.specs.Linking.{ForwardsBy, IsAcked, IsHeard, IsSealedBy, IsUnforwarded}
use Rattle.replay_rounds.specs.Refusals.{unforwarded_by, unsealed_by}
use Rattle.replay_rounds.specs.Standing.{IsReady}
use Rattle.replay_rounds.proofs.Ran.{taken_stays}

moment_stays : (counts : Counts) (marks : List ℕ) → (counts_after counts (map Acked marks)).moment ≡ counts.moment
moment_stays counts [] = refl
moment_stays counts (mark ∷ marks) = moment_stays (record counts { position = counts.position + 1; acked = mark }) marks

pub begun_moment : (old begun : Kept) (marks : List ℕ) → IsAcked old marks begun → begun.counts.moment ≡ old.counts.moment
begun_moment old begun marks acked = ap (λ (c : Counts). c.moment) acked.adds.counts ∙ moment_stays old.counts marks

pub begun_ready : (feeds : List Feeding) (configured_at : ℕ) (old begun : Kept) (marks : List ℕ) → IsReady feeds configured_at old → IsAcked old marks begun → AreTellable begun.tail → IsReady feeds configured_at begun
begun_ready feeds configured_at old begun marks ready acked tellable = record {
  before = subst (λ (m : ℕ). configured_at ≤ m) (sym (begun_moment old begun marks acked)) ready.before;
  answered = acked.due ∙ ready.answered;
  settled = λ table evented. acked.owed table evented ∙ ready.settled table evented;
  going = subst (λ (taken : List Taken). AreGoing taken feeds) (sym (ap (λ (c : Counts). c.taken) acked.adds.counts ∙ taken_stays old.counts marks)) ready.going;
  tellable = tellable;
}

-- without a link nothing is heard
pub heard_off : (legal : Type 0) (forwards : Bool) (tells : Type 0) (host : List ℕ) (kept : List Entry) (before : View) → forwards ≡ false → IsHeard legal forwards tells host kept [] before before
heard_off legal forwards tells host kept before off = record {
  found = [];
  quiet = λ same. (refl, refl);
  acks_are = λ is. refl;
  by = λ is. subst (λ (b : Bool). ForwardsBy b tells host kept [] before before) (sym off) (refl, refl);
}

pub heard_on : (legal : Type 0) (forwards : Bool) (tells : Type 0) (host : List ℕ) (kept : List Entry) (state : Kept) (marks : List ℕ) (before after : View) → forwards ≡ true → Forwarded legal tells host kept state marks before after → IsHeard legal forwards tells host kept marks before after
heard_on legal forwards tells host kept state marks before after on f = record {
  found = f.found;
  quiet = λ off. absurd (true≢false (sym on ∙ off));
  acks_are = f.acks_are;
  by = λ is. subst (λ (b : Bool). ForwardsBy b tells host kept f.found before after) (sym on) (f.forwards is);
}

-- nothing is acknowledged, and nothing is sealed
pub none_acked : (old : Kept) → IsAcked old [] old
none_acked old = record { adds = brings_same old; due = refl; owed = λ table evented. refl }

pub none_sealed : (keeper_tells : Type 0) (kept now : List Entry) (marks : List ℕ) (old : Kept) → marks ≡ [] → old.tail ≡ [] → (keeper_tells → now ≡ kept) → IsSealedBy keeper_tells kept now marks old old
none_sealed keeper_tells kept now marks old none empty same = record {
  between = old;
  acked = subst (λ (ms : List ℕ). IsAcked old ms old) (sym none) (none_acked old);
  taken = ap (λ (tail : List Entry). record old { tail = tail }) empty;
  kept = λ tells. same tells ∙ sym (append-nil kept) ∙ ap (λ (ms : List ℕ). kept ++ map Acked ms) (sym none);
}

-- the same over a list that is the same
pub sealed_still : (keeper_tells : Type 0) (kept between now : List Entry) (marks : List ℕ) (old new : Kept) → (keeper_tells → between ≡ kept) → IsSealedBy keeper_tells between now marks old new → IsSealedBy keeper_tells kept now marks old new
sealed_still keeper_tells kept between now marks old new same sealed = record {
  between = sealed.between;
  acked = sealed.acked;
  taken = sealed.taken;
  kept = λ tells. sealed.kept tells ∙ ap (λ (list : List Entry). list ++ map Acked marks) (same tells);
}

pub unforwarded_cause : (failed : Type 0) (e : ForwardError) → (e ≡ forwarding.KeeperFault → failed) → IsUnforwarded failed (unforwarded_by e)
unforwarded_cause failed forwarding.KeeperFault cause = cause refl
unforwarded_cause failed forwarding.NoMemory cause = tt

pub unsealed_cause : (failed : Type 0) (e : KeeperError) → (e ≡ keeping.Fault → failed) → IsUnforwarded failed (unsealed_by e)
unsealed_cause failed keeping.Fault cause = cause refl
unsealed_cause failed keeping.NoMemory cause = tt

-- a fact of a value, and of an answer
pub when_ok : {T E : Type 0} (P Q : T → Type 0) (result : Result T E) → IfOk result P → ((value : T) → P value → Q value) → IfOk result Q
when_ok P Q (Ok value) holds follows = follows value holds
when_ok P Q (Err error) holds follows = tt

pub when_err : {T E : Type 0} (P Q : Type 0) (result : Result T E) → OnErr result P → (P → Q) → OnErr result Q
when_err P Q (Ok value) holds follows = tt
when_err P Q (Err error) holds follows = follows holds

-- what is acknowledged and sealed
pub seals : {T E : Type 0} (keeper_tells : Type 0) (kept now : List Entry) (marks : List ℕ) (old begun new : Kept) (result : Result T E) → IsAcked old marks begun → begun.tail ≡ map Acked marks → OnOk result (new ≡ record begun { tail = [] }) → (keeper_tells → OnOk result (now ≡ kept ++ begun.tail)) → OnOk result (IsSealedBy keeper_tells kept now marks old new)
seals keeper_tells kept now marks old begun new (Ok value) acked tail taken grown = record {
  between = begun;
  acked = acked;
  taken = taken;
  kept = λ tells. grown tells ∙ ap (λ (es : List Entry). kept ++ es) tail;
}
seals keeper_tells kept now marks old begun new (Err error) acked tail taken grown = tt

-- the marks as a slice are the marks
pub acked_by : (old begun : Kept) (slice marks : List ℕ) → slice ≡ marks → IsAcked old slice begun → IsAcked old marks begun
acked_by old begun slice marks same acked = subst (λ (ms : List ℕ). IsAcked old ms begun) same acked

-- what is acknowledged behind the last tick, where that is anything, was heard of a link
pub heard_some : (legal : Type 0) (forwards : Bool) (tells : Type 0) (host : List ℕ) (kept : List Entry) (marks : List ℕ) (before after : View) → IsHeard legal forwards tells host kept marks before after → (length marks == 0) ≡ false → forwards ≡ true
heard_some legal true tells host kept marks before after heard some = refl
heard_some legal false tells host kept marks before after heard some = absurd (true≢false (sym (ap (λ (ms : List ℕ). length ms == 0) (heard.quiet refl).1) ∙ some))

pub no_marks : (marks : List ℕ) → (length marks == 0) ≡ true → marks ≡ []
no_marks [] none = refl
no_marks (mark ∷ marks) none =
    let empty : length (mark ∷ marks) ≡ 0 = grind (arith, nat_tests, none) in
    absurd (omega (arith, empty))
