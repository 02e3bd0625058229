-- A state goes on from the keeper's list, whatever it gains and whatever is sealed.
use Rattle.std.proofs.Common.{◌≡◌, ℕ, ◌+◌, List, [], ◌∷◌, ◌++◌, Option, Some, None, refl, sym, ap, ◌∙◌, subst, append_assoc}
use Rattle.std.specs.Prelude.{option_map, true}
use Rattle.std.specs.List.{cons_option}
use Rattle.std.proofs.lemmas.List.{append-nil}
use Rattle.osq_value.specs.declared.reading.Reading.{Reading}
use Rattle.osq_value.specs.declared.reading.Reading.TheVariants.{Events, Table}
use Rattle.entry_model.specs.declared.entry.Batch.{Batch}
use Rattle.entry_model.specs.declared.entry.Entry.{Entry}
use Rattle.entry_model.specs.declared.entry.Entry.TheVariants.{Expired}
use Rattle.entry_model.specs.declared.restored.Restored.{Restored}
use Rattle.entry_model.specs.Summary.{summary}
use Rattle.entry_model.specs.Legal.{Legal}
use Rattle.entry_model.specs.Views.{is_evented_table}
use Rattle.entry_model.proofs.Follows.{Legal-front}
use Rattle.session_state.specs.Kept.{IsState, Kept}
use Rattle.session_state.specs.Readings.{entry_of}
use Rattle.session_state.specs.StateOf.{Adds, IsStateOf}
use Rattle.session_state.specs.Ticks.{first_due, owed_at}
use Rattle.session_state.specs.Expiries.{expiry_of, expiries}
use Rattle.daemon_rounds.specs.Adding.{AddsEntries}
use Rattle.daemon_rounds.specs.Answering.{AnswersDue, AreOwn, committed_all}
use Rattle.daemon_rounds.specs.Appending.{entries_of}
use Rattle.daemon_rounds.specs.Keeping.{GoesOn, Settles}
use Rattle.daemon_rounds.specs.Telling.{AreTellable}
use Rattle.daemon_rounds.proofs.Adding.{brings_then, gains_of}
use Rattle.daemon_rounds.specs.AtOnce.{Gains}

-- what the state has in its tail may be sealed
pub may_seal : (tells : Type 0) (kept : List Entry) (s : Kept) → GoesOn tells kept s → tells → Legal kept → Legal (kept ++ s.tail)
may_seal tells kept s g told legal =
    let list = g.list told in
    let before : Legal list.before = Legal-front list.before g.sealed (subst Legal list.is legal) in
    let whole = (g.stands.values list.before before list.same).legal in
    subst Legal (sym (ap (λ (es : List Entry). es ++ s.tail) list.is ∙ append_assoc list.before g.sealed s.tail)) whole

-- it goes on with what it gains
pub still_on : (tells : Type 0) (kept : List Entry) (s t : Kept) (es : List Entry) → GoesOn tells kept s → Gains s es t → GoesOn tells kept t
still_on tells kept s t es g more = record {
  base = g.base;
  sealed = g.sealed;
  stands = subst (λ (added : List Entry). IsStateOf g.base added t) (append_assoc g.sealed s.tail es ∙ ap (λ (tail : List Entry). g.sealed ++ tail) (sym more.tail)) (more.stands g.base (g.sealed ++ s.tail) g.stands);
  list = g.list;
}

-- and with what is sealed
pub sealed_on : (tells : Type 0) (kept : List Entry) (s : Kept) → GoesOn tells kept s → GoesOn tells (kept ++ s.tail) (record s { tail = [] })
sealed_on tells kept s g = record {
  base = g.base;
  sealed = g.sealed ++ s.tail;
  stands = subst (λ (added : List Entry). IsStateOf g.base added (record s { tail = [] })) (sym (append-nil (g.sealed ++ s.tail))) (record {
    values = λ before legal same. let h = g.stands.values before legal same in record { legal = h.legal; counts = h.counts; image = h.image; schedule = h.schedule; ticked = h.ticked; rules = h.rules };
    marks = g.stands.marks;
    position = g.stands.position;
  });
  list = λ told. record {
    before = (g.list told).before;
    is = ap (λ (es : List Entry). es ++ s.tail) (g.list told).is ∙ append_assoc (g.list told).before g.sealed s.tail;
    same = (g.list told).same;
  };
}

own_tellable : (place : ℕ) (batches : List Batch) (rest : List Entry) → AreOwn place batches → AreTellable rest → AreTellable (committed_all batches ++ rest)
own_tellable place [] rest own tellable = tellable
own_tellable place (batch ∷ batches) rest own tellable =
    (own.1, own_tellable (place + 1) batches rest own.2 tellable)

expiry_tellable : (s : Kept) (table : ℕ) (rest : List Entry) → AreTellable rest → AreTellable (cons_option (expiry_of s table) rest)
expiry_tellable s table rest tellable = by_owed (owed_at s table)
  where
    by_owed : (o : Option ℕ) → AreTellable (cons_option (option_map (λ (floor : ℕ). Expired (record { 0 = table }) floor s.counts.moment) o) rest)
    by_owed None = tellable
    by_owed (Some floor) = (tt, tellable)

expiries_tellable : (s : Kept) → AreTellable (expiries s)
expiries_tellable s = expiry_tellable s 0 _ (expiry_tellable s 1 _ (expiry_tellable s 2 [] tt))

pub settles : (s t u : Kept) → IsState t → AnswersDue s t → AddsEntries t (expiries t) u → first_due u ≡ first_due t → ((table : ℕ) → is_evented_table table ≡ true → owed_at u table ≡ None) → Settles s u
settles s t u is answers expired same owed = record {
  batches = answers.batches;
  between = t;
  answers = answers.brings;
  each = answers.each;
  is = is;
  expired = expiries t;
  are = refl;
  brings = brings_then s t u (committed_all answers.batches) (expiries t) answers.brings expired;
  own = answers.own;
  tellable = own_tellable s.counts.position answers.batches (expiries t) answers.own (expiries_tellable t);
  answered = same ∙ answers.none;
  settled = owed;
}

-- of a told list it is the list that counts
pub on_list : (tells : Type 0) (kept now : List Entry) (s : Kept) → GoesOn tells kept s → (tells → now ≡ kept) → GoesOn tells now s
on_list tells kept now s g same = record {
  base = g.base;
  sealed = g.sealed;
  stands = g.stands;
  list = λ told. record { before = (g.list told).before; is = same told ∙ (g.list told).is; same = (g.list told).same };
}

pub tellable-append : (xs ys : List Entry) → AreTellable xs → AreTellable ys → AreTellable (xs ++ ys)
tellable-append [] ys first rest = rest
tellable-append (x ∷ xs) ys first rest = (first.0, tellable-append xs ys first.1 rest)

-- the tail of a settled state can be told
pub settled_tellable : (s t : Kept) → Settles s t → AreTellable s.tail → AreTellable t.tail
settled_tellable s t h tellable =
    subst AreTellable (sym h.brings.tail) (tellable-append s.tail (committed_all h.batches ++ h.expired) tellable h.tellable)

pub settled_on : (tells : Type 0) (kept : List Entry) (s t : Kept) → GoesOn tells kept s → Settles s t → GoesOn tells kept t
settled_on tells kept s t g h = still_on tells kept s t (committed_all h.batches ++ h.expired) g (gains_of s t (committed_all h.batches ++ h.expired) h.brings)

-- behind the seal
pub finished_on : (tells : Type 0) (kept now : List Entry) (s t u : Kept) → GoesOn tells kept s → Settles s t → u ≡ record t { tail = [] } → (tells → now ≡ kept ++ t.tail) → GoesOn tells now u
finished_on tells kept now s t u g h taken grown =
    subst (GoesOn tells now) (sym taken) (on_list tells (kept ++ t.tail) now (record t { tail = [] }) (sealed_on tells kept t (settled_on tells kept s t g h)) grown)

reading_tellable : (source : List ℕ) (moment : ℕ) (reading : Reading) (rest : List Entry) → AreTellable rest → AreTellable (entry_of source moment reading ∷ rest)
reading_tellable source moment (Events taken events skipped) rest tellable = (tt, tellable)
reading_tellable source moment (Table taken table rows) rest tellable = (tt, tellable)

pub readings_tellable : (source : List ℕ) (moment : ℕ) (readings : List Reading) → AreTellable (entries_of source moment readings)
readings_tellable source moment [] = tt
readings_tellable source moment (reading ∷ readings) =
    reading_tellable source moment reading (entries_of source moment readings) (readings_tellable source moment readings)
