-- Where a text is cut.
use Rattle.std.proofs.Common.{◌≡◌, ◌≢◌, ℕ, zero, suc, ◌+◌, ◌<◌, Bool, true, false, cond, List, [], ◌∷◌, ◌++◌, length, take, drop, refl, sym, ap, subst, ◌∙◌, arith, Some, None, eq-eqb, add-one}
use Rattle.std.specs.Prelude.{slice_index, option_map, ◌==◌, Option}
use Rattle.std.proofs.lemmas.Bool.{false_from_ne_true}
use Rattle.std.proofs.lemmas.Bool.Decides.{Decides-eqb}
use Rattle.std.specs.Option.{MatchOption}
use Rattle.std.specs.Str.Pattern.{FindsTextPrefix, StripsPrefix}
use Rattle.memchr.specs.Find.{NoneBefore, Nowhere, Passes}
use denote.Ref.{Bor}
use Rattle.audit_records.specs.Lines.{around, before, behind, onward}

-- no byte of a text passes the test
pub record Unparted (test : ℕ → Bool) (text : List ℕ) : Type 0 where
  pub front : before test text ≡ text
  pub back : onward test text ≡ []
  pub both : around test text ≡ None

-- the first byte that passes stands at a place
pub record PartsAt (test : ℕ → Bool) (text : List ℕ) (at : ℕ) : Type 0 where
  pub front : before test text ≡ take at text
  pub back : onward test text ≡ drop at text
  pub both : around test text ≡ Some (take at text, drop (suc at) text)

nowhere_parts_of : (test : ℕ → Bool) (text : List ℕ) → Nowhere (Passes test text) 0 (length text) → Unparted test text
unfolding before onward around
nowhere_parts_of test [] nowhere = record { front = refl; back = refl; both = refl }
nowhere_parts_of test (byte ∷ rest) nowhere =
    let fails : test byte ≡ false = false_from_ne_true (test byte) (nowhere 0 (omega arith) (omega arith)) in
    let more = nowhere_parts_of test rest (λ k low within. nowhere (suc k) (omega arith) (omega (arith, within))) in
    record {
      front = rw fails (ap (λ parts. byte ∷ parts) more.front);
      back = rw fails more.back;
      both = rw fails (ap (option_map (λ parts. (byte ∷ parts.0, parts.1))) more.both);
    }

first_parts_at : (test : ℕ → Bool) (text : List ℕ) (at : ℕ) → at < length text → test (slice_index text at) ≡ true → Nowhere (Passes test text) 0 at → PartsAt test text at
unfolding before onward around
first_parts_at test [] at within is nowhere = absurd (omega (arith, within))
first_parts_at test (byte ∷ rest) zero within is nowhere = record { front = rw is refl; back = rw is refl; both = rw is refl }
first_parts_at test (byte ∷ rest) (suc at) within is nowhere =
    let fails : test byte ≡ false = false_from_ne_true (test byte) (nowhere 0 (omega arith) (omega arith)) in
    let more = first_parts_at test rest at (omega (arith, within)) is (λ k low below. nowhere (suc k) (omega arith) (omega (arith, below))) in
    record {
      front = rw fails (ap (λ parts. byte ∷ parts) more.front);
      back = rw fails more.back;
      both = rw fails (ap (option_map (λ parts. (byte ∷ parts.0, parts.1))) more.both);
    }

-- what a search of the bytes of a text says of the text
pub nowhere_parts : (test : ℕ → Bool) (bytes text : List ℕ) → bytes ≡ text → Nowhere (Passes test bytes) 0 (length bytes) → Unparted test text
nowhere_parts test bytes text same nowhere = subst (Unparted test) same (nowhere_parts_of test bytes nowhere)

pub first_parts : (test : ℕ → Bool) (bytes text : List ℕ) (at : ℕ) → bytes ≡ text → NoneBefore (Passes test bytes) 0 (length bytes) at × Passes test bytes at → PartsAt test text at
first_parts test bytes text at same found = subst (λ t. PartsAt test t at) same (first_parts_at test bytes at found.0.high found.1 found.0.before)

pub first_both : (test : ℕ → Bool) (bytes text : List ℕ) (at : ℕ) (front back : List ℕ) → bytes ≡ text → front ≡ take at text → back ≡ drop (at + 1) text
    → NoneBefore (Passes test bytes) 0 (length bytes) at × Passes test bytes at → Some (front, back) ≡ around test text
first_both test bytes text at front back same front_is back_is found =
    ap (λ f. Some (f, back)) front_is ∙ ap (λ b. Some (take at text, b)) (back_is ∙ ap (λ n. drop n text) (add-one at)) ∙ sym (first_parts test bytes text at same found).both

pub behind_front : (front rest : List ℕ) → behind front (front ++ rest) ≡ Some rest
unfolding behind
behind_front [] rest = refl
behind_front (byte ∷ front) rest = rw (eq-eqb byte byte refl) (behind_front front rest)

pub behind_none : (front text : List ℕ) → ((rest : List ℕ) → text ≢ front ++ rest) → behind front text ≡ None
unfolding behind
behind_none [] text lacks = absurd (lacks text refl)
behind_none (byte ∷ front) [] lacks = refl
behind_none (byte ∷ front) (first ∷ text) lacks =
    elim (first == byte) as (λ t. (first == byte) ≡ t → cond t (behind front text) None ≡ None) [
      | true ↦ λ is. (let same : first ≡ byte = (Decides-eqb first byte).0 is in behind_none front text (λ rest e. lacks rest (ap (λ b. b ∷ text) same ∙ ap (λ l. byte ∷ l) e)))
      | false ↦ λ is. refl
    ] refl

-- what is left of a text where a front is taken off
pub stripped : (front text : List ℕ) (result : Option (Bor (List ℕ))) → MatchOption result (FindsTextPrefix front text None) (λ rest. StripsPrefix (FindsTextPrefix front) text rest.now)
    → option_map (λ rest. rest.now) result ≡ behind front text
stripped front text None lacks = sym (behind_none front text lacks)
stripped front text (Some rest) (n, found, is, size) =
    let whole : text ≡ front ++ rest.now = found.1 ∙ ap (λ r. front ++ r) (sym is) in
    sym (ap (behind front) whole ∙ behind_front front rest.now)
