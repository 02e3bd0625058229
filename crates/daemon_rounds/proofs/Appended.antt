-- The readings of a source, some of which are appended.
use Rattle.std.proofs.Common.{◌≡◌, ℕ, ◌+◌, ◌<◌, false, List, [], ◌∷◌, ◌++◌, refl, sym, ap, ◌∙◌, subst, append_assoc}
use Rattle.std.specs.Prelude.{All, ◌^◌, bytes_eq, map}
use Rattle.std.proofs.lemmas.List.{append-nil, map-append}
use Rattle.std.proofs.lemmas.List.Elements.{All-tail}
use Rattle.osq_value.specs.declared.reading.Reading.{Reading}
use Rattle.osq_value.specs.declared.reading.Reading.TheVariants.{Events, Table}
use Rattle.entry_model.specs.declared.entry.Entry.{Entry}
use Rattle.entry_model.specs.declared.restored.Taken.{Taken}
use Rattle.entry_model.specs.Next.{offset_at, with_offset}
use Rattle.session_state.specs.Kept.{Counts, Kept, counts_next}
use Rattle.session_state.specs.Readings.{IsReading, entry_of, event_count, taken_of}
use Rattle.daemon_rounds.specs.Adding.{AddsEntries}
use Rattle.daemon_rounds.specs.Appending.{AreRising, Exceeds, end_behind, entries_of}
use Rattle.daemon_rounds.proofs.Adding.{brings_same, brings_then}
use Rattle.daemon_rounds.proofs.Offsets.{offset_here, offset_other}

-- some of the readings are appended, and the rest is left
pub record AreAppended (s : Kept) (source : List ℕ) (all rest : List Reading) (t : Kept) : Type 0 where
  pub done : List Reading
  pub whole : all ≡ done ++ rest
  pub brings : AddsEntries s (entries_of source s.counts.moment done) t
  pub moment : t.counts.moment ≡ s.counts.moment
  pub offset : offset_at t.counts.taken source ≡ end_behind (offset_at s.counts.taken source) done
  pub others : (other : List ℕ) → bytes_eq source other ≡ false → offset_at t.counts.taken other ≡ offset_at s.counts.taken other
  pub good : All IsReading rest
  pub rising : AreRising (offset_at t.counts.taken source) rest

pub none_appended : (s : Kept) (source : List ℕ) (all : List Reading) → All IsReading all → AreRising (offset_at s.counts.taken source) all → AreAppended s source all all s
none_appended s source all good rising = record {
  done = [];
  whole = refl;
  brings = brings_same s;
  moment = refl;
  offset = refl;
  others = λ other differs. refl;
  good = good;
  rising = rising;
}

-- the moment and the offsets behind an entry of a reading
moment_kept : (c : Counts) (source : List ℕ) (at : ℕ) (reading : Reading) → (counts_next c (entry_of source at reading)).moment ≡ c.moment
moment_kept c source at (Events taken events skipped) = refl
moment_kept c source at (Table taken table rows) = refl

taken_is : (c : Counts) (source : List ℕ) (at : ℕ) (reading : Reading) → (counts_next c (entry_of source at reading)).taken ≡ with_offset c.taken source (taken_of reading)
taken_is c source at (Events taken events skipped) = refl
taken_is c source at (Table taken table rows) = refl

end-push : (offset : ℕ) (done : List Reading) (reading : Reading) → end_behind offset (done ++ reading ∷ []) ≡ taken_of reading
end-push offset [] reading = refl
end-push offset (first ∷ done) reading = end-push (taken_of first) done reading

pub one_appended : (s : Kept) (source : List ℕ) (all rest : List Reading) (reading : Reading) (t u : Kept) → AreAppended s source all (reading ∷ rest) t → AddsEntries t (entries_of source t.counts.moment (reading ∷ [])) u → AreAppended s source all rest u
one_appended s source all rest reading t u so more = record {
  done = so.done ++ reading ∷ [];
  whole = so.whole ∙ sym (append_assoc so.done (reading ∷ []) rest);
  brings = subst (λ (es : List Entry). AddsEntries s es u) (sym (map-append (entry_of source s.counts.moment) so.done (reading ∷ []))) (brings_then s t u (entries_of source s.counts.moment so.done) (entries_of source s.counts.moment (reading ∷ [])) so.brings (subst (λ (m : ℕ). AddsEntries t (entries_of source m (reading ∷ [])) u) so.moment more));
  moment = ap (λ (c : Counts). c.moment) more.counts ∙ moment_kept t.counts source t.counts.moment reading ∙ so.moment;
  offset = ends ∙ sym (end-push (offset_at s.counts.taken source) so.done reading);
  others = λ other differs. ap (λ (taken : List Taken). offset_at taken other) taken_now ∙ offset_other source (taken_of reading) other differs t.counts.taken ∙ so.others other differs;
  good = All-tail IsReading reading rest so.good;
  rising = subst (λ (n : ℕ). AreRising n rest) (sym ends) so.rising.1;
}
  where
    taken_now : u.counts.taken ≡ with_offset t.counts.taken source (taken_of reading)
    taken_now = ap (λ (c : Counts). c.taken) more.counts ∙ taken_is t.counts source t.counts.moment reading

    ends : offset_at u.counts.taken source ≡ taken_of reading
    ends = ap (λ (taken : List Taken). offset_at taken source) taken_now ∙ offset_here source (taken_of reading) t.counts.taken

-- all of them are appended
pub record AreAllAppended (s : Kept) (source : List ℕ) (all : List Reading) (t : Kept) : Type 0 where
  pub brings : AddsEntries s (entries_of source s.counts.moment all) t
  pub offset : offset_at t.counts.taken source ≡ end_behind (offset_at s.counts.taken source) all
  pub others : (other : List ℕ) → bytes_eq source other ≡ false → offset_at t.counts.taken other ≡ offset_at s.counts.taken other

pub all_appended : (s : Kept) (source : List ℕ) (all rest : List Reading) (t : Kept) → rest ≡ [] → AreAppended s source all rest t → AreAllAppended s source all t
all_appended s source all rest t none so =
    let same : so.done ≡ all = sym (append-nil so.done) ∙ ap (λ (rs : List Reading). so.done ++ rs) (sym none) ∙ sym so.whole in
    record {
      brings = subst (λ (rs : List Reading). AddsEntries s (entries_of source s.counts.moment rs) t) same so.brings;
      offset = so.offset ∙ ap (end_behind (offset_at s.counts.taken source)) same;
      others = so.others;
    }

-- the next reading has too many events, and those before it are appended
pub exceeds : (s : Kept) (source : List ℕ) (all readings rest : List Reading) (reading : Reading) (t u : Kept) → all ≡ readings → AreAppended s source all (reading ∷ rest) t → u ≡ t → 2 ^ 62 < u.image.last + event_count reading → Exceeds source readings s u
exceeds s source all readings rest reading t u same so still beyond = record {
  done = so.done;
  next = reading;
  rest = rest;
  are = sym same ∙ so.whole;
  brings = subst (AddsEntries s (entries_of source s.counts.moment so.done)) (sym still) so.brings;
  beyond = beyond;
}
