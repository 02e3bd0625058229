-- The batches of a tick, one after another.
use Rattle.std.proofs.Common.{◌≡◌, ℕ, ◌+◌, ◌<◌, List, [], ◌∷◌, ◌++◌, length, Some, None, refl, sym, ap, ◌∙◌, subst, arith}
use Rattle.std.specs.Prelude.{◌^◌}
use Rattle.std.proofs.lemmas.List.{append-nil, map-append}
use Rattle.entry_model.specs.declared.entry.Batch.{Batch}
use Rattle.entry_model.specs.declared.entry.Entry.{Entry}
use Rattle.entry_model.specs.declared.entry.Entry.TheVariants.{Committed}
use Rattle.session_state.specs.Kept.{Counts, IsState, Kept, counts_next}
use Rattle.session_state.specs.Ticks.{first_due}
use Rattle.daemon_rounds.specs.Adding.{AreFree, AddsEntries, counts_after}
use Rattle.daemon_rounds.specs.Answering.{AnswersDue, AnswersEach, AnswersFirst, AreOwn, IsTellable, SpendsBatches, committed_all}
use Rattle.daemon_rounds.proofs.Adding.{brings_same, brings_then}

count-after : (c : Counts) (batches : List Batch) → (counts_after c (committed_all batches)).position ≡ c.position + length batches
count-after c [] = omega arith
count-after c (batch ∷ batches) = let h = count-after (counts_next c (Committed batch)) batches in omega (arith, h)

own_push : (place : ℕ) (batches : List Batch) (batch : Batch) → AreOwn place batches → batch.cut ≡ place + length batches → IsTellable batch → AreOwn place (batches ++ batch ∷ [])
own_push place [] batch own at told = (omega (arith, at), told, tt)
own_push place (first ∷ batches) batch own at told =
    (own.0, own.1, own_push (place + 1) batches batch own.2 (omega (arith, at)) told)

-- each batch answers the query that was due first behind the batches before it, and behind the last one the state is this
abbrev pub AnswersUpTo : Kept → List Batch → Kept → Type 0
AnswersUpTo s [] t = t ≡ s
AnswersUpTo s (batch ∷ rest) t = AnswersFirst s batch × ((next : Kept) × AddsEntries s (Committed batch ∷ []) next × AnswersUpTo next rest t)

up_to_push : (s t u : Kept) (batches : List Batch) (batch : Batch) → AnswersUpTo s batches t → AnswersFirst t batch → AddsEntries t (Committed batch ∷ []) u → AnswersUpTo s (batches ++ batch ∷ []) u
up_to_push s t u [] batch each first more =
    subst (λ (s : Kept). AnswersUpTo s (batch ∷ []) u) each (first, (u, more, refl))
up_to_push s t u (other ∷ batches) batch each first more =
    (each.0, (each.1.0, each.1.1, up_to_push each.1.0 t u batches batch each.1.2 first more))

up_to_all : (s t u : Kept) (batches : List Batch) → AnswersUpTo s batches t → AddsEntries t [] u → AnswersEach s batches u
up_to_all s t u [] each last = subst (λ (s : Kept). AddsEntries s [] u) each last
up_to_all s t u (batch ∷ batches) each last =
    (each.0, (each.1.0, each.1.1, up_to_all each.1.0 t u batches each.1.2 last))

-- some queries are answered
pub record AreAnswered (s t : Kept) : Type 0 where
  pub batches : List Batch
  pub brings : AddsEntries s (committed_all batches) t
  pub each : AnswersUpTo s batches t
  pub own : AreOwn s.counts.position batches

pub none_answered : (s : Kept) → AreAnswered s s
none_answered s = record { batches = []; brings = brings_same s; each = refl; own = tt }

-- no more is due
pub all_answered : (s t u : Kept) → AreAnswered s t → first_due u ≡ None → AddsEntries t [] u → AnswersDue s u
all_answered s t u so none last = record {
  batches = so.batches;
  brings = subst (λ (es : List Entry). AddsEntries s es u) (append-nil (committed_all so.batches)) (brings_then s t u (committed_all so.batches) [] so.brings last);
  each = up_to_all s t u so.batches so.each last;
  own = so.own;
  none = none;
}

-- no number is left for the batch of a query that is due
pub none_left : (s t : Kept) → AreAnswered s t → IsState t → (AreFree t.claims → (place : ℕ) × (first_due t ≡ Some place)) → 2 ^ 62 < t.counts.batches + 1 → SpendsBatches s
none_left s t so is due beyond = record {
  batches = so.batches;
  between = t;
  brings = so.brings;
  each = up_to_all s t t so.batches so.each (brings_same t);
  own = so.own;
  is = is;
  due = due;
  beyond = beyond;
}

-- one batch more is answered
pub one_answered : (s t u : Kept) → AreAnswered s t → (batch : Batch) → AddsEntries t (Committed batch ∷ []) u → batch.cut ≡ t.counts.position → IsTellable batch → AnswersFirst t batch → AreAnswered s u
one_answered s t u so batch more at told first = record {
  batches = so.batches ++ batch ∷ [];
  brings = subst (λ (es : List Entry). AddsEntries s es u) (sym (map-append Committed so.batches (batch ∷ []))) (brings_then s t u (committed_all so.batches) (Committed batch ∷ []) so.brings more);
  each = up_to_push s t u so.batches batch so.each first more;
  own = own_push s.counts.position so.batches batch so.own (at ∙ ap (λ (k : Counts). k.position) so.brings.counts ∙ count-after s.counts so.batches) told;
}
