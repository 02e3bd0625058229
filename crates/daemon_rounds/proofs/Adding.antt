-- What a state gains by entries, one after another.
use Rattle.std.proofs.Common.{◌≡◌, ℕ, Bool, false, List, [], ◌∷◌, ◌++◌, replicate, refl, sym, ap, ◌∙◌, subst, append_assoc}
use Rattle.std.proofs.lemmas.List.{append-nil}
use Rattle.std.proofs.lemmas.List.Elements.{All-replicate}
use Rattle.entry_model.specs.declared.entry.Entry.{Entry}
use Rattle.entry_model.specs.declared.restored.Restored.{Restored}
use Rattle.entry_model.specs.Values.{last_of, schedule_in, tick_in}
use Rattle.entry_model.proofs.Lasts.{last_of-append}
use Rattle.event_store.specs.Contents.{Contents}
use Rattle.event_store.specs.Laws.{StandsFor}
use Rattle.pack_rules.specs.declared.schedule.Schedule.{Schedule}
use Rattle.session_state.specs.Kept.{Counts, Kept, counts_next}
use Rattle.session_state.specs.StateOf.{IsStateOf, Adds}
use Rattle.session_state.specs.Expiries.{AddsAll}
use Rattle.daemon_rounds.specs.Adding.{AreFree, AddsEntries, counts_after}
use Rattle.daemon_rounds.specs.AtOnce.{Gains}

-- a state with the same values, but for its claims and room
pub record IsLike (s t : Kept) : Type 0 where
  pub counts : t.counts ≡ s.counts
  pub image : t.image ≡ s.image
  pub schedule : t.schedule ≡ s.schedule
  pub ticked : t.ticked ≡ s.ticked
  pub marks : t.marks ≡ s.marks
  pub tail : t.tail ≡ s.tail

pub stands_like : (s t : Kept) → IsLike s t → (base : Restored) (added : List Entry) → IsStateOf base added s → IsStateOf base added t
stands_like s t same base added stands = record {
  values = λ before legal is.
      let h = stands.values before legal is in
      record {
        legal = h.legal;
        counts = h.counts ∙ sym same.counts;
        image = subst (λ (image : Contents). StandsFor (before ++ added) image) (sym same.image) h.image;
        schedule = h.schedule ∙ sym same.schedule;
        ticked = h.ticked ∙ sym same.ticked;
        rules = h.rules;
      };
  marks = same.marks ∙ stands.marks;
  position = ap (λ (c : Counts). c.position) same.counts ∙ stands.position;
}

-- new claims are free
pub none_claimed : (t : Kept) (count : ℕ) → t.claims ≡ replicate count false → AreFree t.claims
none_claimed t count fresh = subst AreFree (sym fresh) (All-replicate (λ (claim : Bool). claim ≡ false) count false refl)

pub all_free : (s t : Kept) (count : ℕ) → t.claims ≡ replicate count false → AreFree s.claims → AreFree t.claims
all_free s t count fresh free = none_claimed t count fresh

-- claims that stay are free where they were
pub still_free : (s t : Kept) → t.claims ≡ s.claims → AreFree s.claims → AreFree t.claims
still_free s t same free = subst AreFree (sym same) free

gains_none : (s t : Kept) → IsLike s t → Gains s [] t
gains_none s t same = record {
  stands = λ base added stands. subst (λ (es : List Entry). IsStateOf base es t) (sym (append-nil added)) (stands_like s t same base added stands);
  counts = same.counts;
  schedule = same.schedule;
  ticked = same.ticked;
  tail = same.tail ∙ sym (append-nil s.tail);
}

gains_one : (s t : Kept) (e : Entry) → Adds s e t → Gains s (e ∷ []) t
gains_one s t e a =
    record { stands = a.stands; counts = a.moves.counts; schedule = a.moves.schedule; ticked = a.moves.ticked; tail = a.moves.tail }

pub counts-append : (c : Counts) (xs ys : List Entry) → counts_after c (xs ++ ys) ≡ counts_after (counts_after c xs) ys
counts-append c [] ys = refl
counts-append c (x ∷ xs) ys = counts-append (counts_next c x) xs ys

pub gains_then : (s t u : Kept) (xs ys : List Entry) → Gains s xs t → Gains t ys u → Gains s (xs ++ ys) u
gains_then s t u xs ys first second = record {
  stands = λ base added stands. subst (λ (es : List Entry). IsStateOf base es u) (append_assoc added xs ys) (second.stands base (added ++ xs) (first.stands base added stands));
  counts = second.counts ∙ ap (λ (c : Counts). counts_after c ys) first.counts ∙ sym (counts-append s.counts xs ys);
  schedule = second.schedule ∙ ap (λ (d : Schedule). last_of schedule_in d ys) first.schedule ∙ sym (last_of-append schedule_in s.schedule xs ys);
  ticked = second.ticked ∙ ap (λ b. last_of tick_in b ys) first.ticked ∙ sym (last_of-append tick_in s.ticked xs ys);
  tail = second.tail ∙ ap (λ (es : List Entry). es ++ ys) first.tail ∙ append_assoc s.tail xs ys;
}

gains_all : (s t : Kept) (es : List Entry) → AddsAll s es t → Gains s es t
gains_all s t [] h =
    gains_none s t (record { counts = h.counts; image = h.image; schedule = h.schedule; ticked = h.ticked; marks = h.marks; tail = h.tail })
gains_all s t (e ∷ es) h = gains_then s h.0 t (e ∷ []) es (gains_one s h.0 e h.1) (gains_all h.0 t es h.2)

-- which queries are claimed set aside
pub gains_of : (s t : Kept) (es : List Entry) → AddsEntries s es t → Gains s es t
gains_of s t es b =
    record { stands = b.stands; counts = b.counts; schedule = b.schedule; ticked = b.ticked; tail = b.tail }

with_free : (s t : Kept) (es : List Entry) → Gains s es t → (AreFree s.claims → AreFree t.claims) → AddsEntries s es t
with_free s t es g free =
    record { stands = g.stands; counts = g.counts; schedule = g.schedule; ticked = g.ticked; tail = g.tail; free = free }

pub brings_none : (s t : Kept) → IsLike s t → (AreFree s.claims → AreFree t.claims) → AddsEntries s [] t
brings_none s t same free = with_free s t [] (gains_none s t same) free

-- a state brings nothing to itself
pub brings_same : (s : Kept) → AddsEntries s [] s
brings_same s =
    brings_none s s (record { counts = refl; image = refl; schedule = refl; ticked = refl; marks = refl; tail = refl }) (λ free. free)

pub brings_one : (s t : Kept) (e : Entry) → Adds s e t → (AreFree s.claims → AreFree t.claims) → AddsEntries s (e ∷ []) t
brings_one s t e a free = with_free s t (e ∷ []) (gains_one s t e a) free

pub brings_then : (s t u : Kept) (xs ys : List Entry) → AddsEntries s xs t → AddsEntries t ys u → AddsEntries s (xs ++ ys) u
brings_then s t u xs ys first second =
    with_free s u (xs ++ ys) (gains_then s t u xs ys (gains_of s t xs first) (gains_of t u ys second)) (λ free. second.free (first.free free))

pub brings_all : (s t : Kept) (es : List Entry) → AddsAll s es t → (AreFree s.claims → AreFree t.claims) → AddsEntries s es t
brings_all s t es h free = with_free s t es (gains_all s t es h) free
