-- How a state goes on by entries.
use Rattle.std.proofs.Common.{◌≡◌, ◌+◌, List, [], ◌∷◌, ◌++◌, length, refl, sym, ap, ◌∙◌, subst, append_assoc, append-nil, arith}
use Rattle.std.specs.Prelude.{unwrap_or}
use Rattle.entry_model.specs.declared.entry.Entry.{Entry}
use Rattle.entry_model.specs.declared.entry.Entry.TheVariants.{Opened, Configured, Ticked, Appended, TableSet, Expired, Committed, Acked}
use Rattle.entry_model.specs.declared.restored.Restored.{Restored}
use Rattle.entry_model.specs.Values.{schedule_in, tick_in}
use Rattle.entry_model.proofs.Lasts.{last_of-append}
use Rattle.event_store.specs.Contents.{Contents}
use Rattle.event_store.specs.Laws.{StandsFor, Follows}
use Rattle.session_state.specs.Kept.{Counts, Kept, counts_next}
use Rattle.session_state.specs.Cut.{CutValue}
use Rattle.session_state.specs.CutOf.{IsCutOf}
use Rattle.session_state.specs.Expiries.{Stays, AddsAll}
use Rattle.session_state.specs.StateOf.{IsStateOf, Moves, Adds}
use Rattle.session_state.proofs.Known.{known_alike}
use Rattle.shared_store.specs.Shares.{StandsBehind}
use Rattle.shared_store.specs.Values.{counts_after, FollowsAll, ComesBy}

counts_after-push : (c : Counts) (es : List Entry) (e : Entry) → counts_after c (es ++ e ∷ []) ≡ counts_next (counts_after c es) e
counts_after-push c [] e = refl
counts_after-push c (x ∷ es) e = counts_after-push (counts_next c x) es e

-- each entry takes one place
placed_next : (c : Counts) (e : Entry) → (counts_next c e).position ≡ c.position + 1
placed_next c (Opened session rules) = refl
placed_next c (Configured document schedule moment) = refl
placed_next c (Ticked moment) = refl
placed_next c (Appended source taken events skipped moment) = refl
placed_next c (TableSet source table rows taken) = refl
placed_next c (Expired table floor moment) = refl
placed_next c (Committed batch) = refl
placed_next c (Acked upto) = refl

pub placed_after : (c : Counts) (es : List Entry) → (counts_after c es).position ≡ c.position + length es
placed_after c [] = omega arith
placed_after c (x ∷ es) =
    let rest = placed_after (counts_next c x) es in let one = placed_next c x in omega (arith, rest, one)

follows_push : (old mid new : Contents) (es : List Entry) (e : Entry) → FollowsAll old es mid → Follows e mid new → FollowsAll old (es ++ e ∷ []) new
follows_push old mid new [] e same follows = (new, subst (λ (image : Contents). Follows e image new) same follows, refl)
follows_push old mid new (x ∷ es) e h follows = (h.0, h.1, follows_push h.0 mid new es e h.2 follows)

pub comes_moves : (start : Kept) (es : List Entry) (was now : Kept) (e : Entry) → Moves was e now → ComesBy start es was → ComesBy start (es ++ e ∷ []) now
comes_moves start es was now e m c = record {
  image = follows_push start.image was.image now.image es e c.image m.image;
  counts = m.counts ∙ ap (λ (c : Counts). counts_next c e) c.counts ∙ sym (counts_after-push start.counts es e);
  schedule = m.schedule ∙ ap (unwrap_or (schedule_in e)) c.schedule ∙ sym (last_of-append schedule_in start.schedule es (e ∷ []));
  ticked = m.ticked ∙ ap (unwrap_or (tick_in e)) c.ticked ∙ sym (last_of-append tick_in start.ticked es (e ∷ []));
}

comes_stays : (start : Kept) (es : List Entry) (was now : Kept) → Stays was now → ComesBy start es was → ComesBy start es now
comes_stays start es was now same c = record {
  image = subst (FollowsAll start.image es) (sym same.image) c.image;
  counts = same.counts ∙ c.counts;
  schedule = same.schedule ∙ c.schedule;
  ticked = same.ticked ∙ c.ticked;
}

-- a state with the values of another stands for what that one does
pub stands_alike : (was now : Kept) → now.counts ≡ was.counts → now.image ≡ was.image → now.schedule ≡ was.schedule → now.ticked ≡ was.ticked → now.marks ≡ was.marks → (start : Restored) (added : List Entry) → IsStateOf start added was → IsStateOf start added now
stands_alike was now counts image schedule ticked marks start added stands = record {
  values = λ before legal is.
      let h = stands.values before legal is in
      record {
        legal = h.legal;
        counts = h.counts ∙ sym counts;
        image = subst (λ (image : Contents). StandsFor (before ++ added) image) (sym image) h.image;
        schedule = h.schedule ∙ sym schedule;
        ticked = h.ticked ∙ sym ticked;
        rules = h.rules;
      };
  marks = marks ∙ stands.marks;
  position = ap (λ (c : Counts). c.position) counts ∙ stands.position;
}

-- behind these entries the state goes on by those
pub record Goes (start : Kept) (added : List Entry) (was now : Kept) (es : List Entry) : Type 0 where
  pub tail : now.tail ≡ was.tail ++ es
  pub stands : StandsBehind start added was → StandsBehind start (added ++ es) now
  pub comes : ComesBy start added was → ComesBy start (added ++ es) now
  pub cuts : (cut : CutValue) → IsCutOf was cut → IsCutOf now cut

-- of one list, where a state stands behind each
pub behind_push : (start : Kept) (added : List Entry) (now : Kept) (e : Entry) → ((base : Restored) (all : List Entry) → IsStateOf base all start → IsStateOf base ((all ++ added) ++ e ∷ []) now) → StandsBehind start (added ++ e ∷ []) now
behind_push start added now e stands =
    λ base all begun. subst (λ (es : List Entry). IsStateOf base es now) (append_assoc all added (e ∷ [])) (stands base all begun)

module _ (start : Kept) (added : List Entry) where
  pub goes_stays : (was now : Kept) → Stays was now → Goes start added was now []
  goes_stays was now same = record {
    tail = same.tail ∙ sym (append-nil was.tail);
    stands = λ stands base all begun.
        subst (λ (es : List Entry). IsStateOf base (all ++ es) now) (sym (append-nil added)) (stands_alike was now same.counts same.image same.schedule same.ticked same.marks base (all ++ added) (stands base all begun));
    comes = λ comes. subst (λ (es : List Entry). ComesBy start es now) (sym (append-nil added)) (comes_stays start added was now same comes);
    cuts = known_alike was now (record {
      position = (let p = ap (λ (c : Counts). c.position) same.counts in omega (arith, p));
      batches = ap (λ (c : Counts). c.batches) same.counts;
      runs = ap (λ (c : Counts). c.runs) same.counts;
      moment = ap (λ (c : Counts). c.moment) same.counts;
      schedule = same.schedule;
      ticked = same.ticked;
      marks = same.marks;
    });
  }

  pub goes_same : (was now : Kept) → now ≡ was → Goes start added was now []
  goes_same was now same =
      subst (λ (now : Kept). Goes start added was now []) (sym same) (goes_stays was was (record { counts = refl; image = refl; schedule = refl; ticked = refl; marks = refl; tail = refl }))

  pub goes_adds : (was now : Kept) (e : Entry) → Adds was e now → Goes start added was now (e ∷ [])
  goes_adds was now e a = record {
    tail = a.moves.tail;
    stands = λ stands. behind_push start added now e (λ base all begun. a.stands base (all ++ added) (stands base all begun));
    comes = λ comes. comes_moves start added was now e a.moves comes;
    cuts = a.cuts;
  }

goes_more : (start : Kept) (added : List Entry) (was mid now : Kept) (e : Entry) (es : List Entry) → Goes start added was mid (e ∷ []) → Goes start (added ++ e ∷ []) mid now es → Goes start added was now (e ∷ es)
goes_more start added was mid now e es g h = record {
  tail = h.tail ∙ ap (λ (t : List Entry). t ++ es) g.tail ∙ append_assoc was.tail (e ∷ []) es;
  stands = λ stands. subst (λ (more : List Entry). StandsBehind start more now) (append_assoc added (e ∷ []) es) (h.stands (g.stands stands));
  comes = λ comes. subst (λ (all : List Entry). ComesBy start all now) (append_assoc added (e ∷ []) es) (h.comes (g.comes comes));
  cuts = λ cut of. h.cuts cut (g.cuts cut of);
}

pub goes_all : (start : Kept) (added : List Entry) (was now : Kept) (es : List Entry) → AddsAll was es now → Goes start added was now es
goes_all start added was now [] same = goes_stays start added was now same
goes_all start added was now (e ∷ es) h =
    goes_more start added was h.0 now e es (goes_adds start added was h.0 e h.1) (goes_all start (added ++ e ∷ []) h.0 now es h.2)

pub all_tail : (was now : Kept) (es : List Entry) → AddsAll was es now → now.tail ≡ was.tail ++ es
all_tail was now [] same = same.tail ∙ sym (append-nil was.tail)
all_tail was now (e ∷ es) h =
    all_tail h.0 now es h.2 ∙ ap (λ (t : List Entry). t ++ es) h.1.moves.tail ∙ append_assoc was.tail (e ∷ []) es
