-- The parts of a text that is cut at its first byte that passes a test.
use Rattle.std.proofs.Common.{◌≡◌, ℕ, Bool, true, false, cond, List, [], ◌∷◌, ◌++◌, refl, ap, ◌∙◌, Some, None}
use Rattle.std.specs.Prelude.{option_map, option_and_then, ◌==◌, ◌&&◌, not, Option, IfSome}
use Rattle.std.proofs.lemmas.List.{append-nil}
use Rattle.std.proofs.lemmas.Bool.Decides.{Decides-eqb}
use Rattle.audit_records.specs.Lines.{around, before, behind, onward}
use Rattle.audit_records.specs.Grammar.{lacks}

pub and_true : (a b : Bool) → (a && b) ≡ true → (a ≡ true) × (b ≡ true)
and_true true b h = (refl, h)
and_true false b h = absurd (cc)

pub not_true : (b : Bool) → not b ≡ true → b ≡ false
not_true true h = absurd (cc)
not_true false h = refl

-- what holds of a value that is read in two steps
pub if_then : {A B : Type 0} (o : Option A) (f : A → Option B) (P : A → Type 0) (Q : B → Type 0) → IfSome o P → ((a : A) → P a → IfSome (f a) Q) → IfSome (option_and_then f o) Q
if_then None f P Q h k = tt
if_then (Some a) f P Q h k = k a h

pub if_map : {A B : Type 0} (o : Option A) (f : A → B) (P : A → Type 0) (Q : B → Type 0) → IfSome o P → ((a : A) → P a → Q (f a)) → IfSome (option_map f o) Q
if_map None f P Q h k = tt
if_map (Some a) f P Q h k = k a h

pub if_test : {A : Type 0} (t : Bool) (a : A) (Q : A → Type 0) → (t ≡ true → Q a) → IfSome (cond t (Some a) None) Q
if_test true a Q k = k refl
if_test false a Q k = tt

-- no byte of the front passes, and the byte behind it does
pub record IsCut (test : ℕ → Bool) (front : List ℕ) (byte : ℕ) (rest : List ℕ) : Type 0 where
  pub front_is : before test (front ++ byte ∷ rest) ≡ front
  pub back_is : onward test (front ++ byte ∷ rest) ≡ byte ∷ rest
  pub both_are : around test (front ++ byte ∷ rest) ≡ Some (front, rest)

pub cut_at : (test : ℕ → Bool) (front : List ℕ) (byte : ℕ) (rest : List ℕ) → lacks test front ≡ true → test byte ≡ true → IsCut test front byte rest
unfolding before onward around
cut_at test [] byte rest plain is = record { front_is = rw is refl; back_is = rw is refl; both_are = rw is refl }
cut_at test (x ∷ front) byte rest plain is =
    let parts = and_true (not (test x)) (lacks test front) plain in
    let fails : test x ≡ false = not_true (test x) parts.0 in
    let more = cut_at test front byte rest parts.1 is in
    record {
      front_is = rw fails (ap (λ l. x ∷ l) more.front_is);
      back_is = rw fails more.back_is;
      both_are = rw fails (ap (option_map (λ parts. (x ∷ parts.0, parts.1))) more.both_are);
    }

pub uncut : (test : ℕ → Bool) (text : List ℕ) → lacks test text ≡ true → (before test text ≡ text) × (onward test text ≡ [])
unfolding before onward
uncut test [] plain = (refl, refl)
uncut test (x ∷ text) plain =
    let parts = and_true (not (test x)) (lacks test text) plain in
    let fails : test x ≡ false = not_true (test x) parts.0 in
    let more = uncut test text parts.1 in
    (rw fails (ap (λ l. x ∷ l) more.0), rw fails more.1)

-- the text is empty or its first byte passes
abbrev pub starts : (ℕ → Bool) → List ℕ → Bool
starts test [] = true
starts test (byte ∷ rest) = test byte

-- the same, where the rest is empty or begins with a byte that passes
pub split_at : (test : ℕ → Bool) (front rest : List ℕ) → lacks test front ≡ true → starts test rest ≡ true → (before test (front ++ rest) ≡ front) × (onward test (front ++ rest) ≡ rest)
split_at test front [] plain is =
    let whole = uncut test front plain in
    (ap (before test) (append-nil front) ∙ whole.0, ap (onward test) (append-nil front) ∙ whole.1)
split_at test front (byte ∷ rest) plain is = let cut = cut_at test front byte rest plain is in (cut.front_is, cut.back_is)

-- a text is what stands before the first byte that passes and what stands from there on
pub record AreParts (test : ℕ → Bool) (text : List ℕ) : Type 0 where
  pub whole : text ≡ before test text ++ onward test text
  pub plain : lacks test (before test text) ≡ true
  pub back : starts test (onward test text) ≡ true

pub parts_of : (test : ℕ → Bool) (text : List ℕ) → AreParts test text
unfolding before onward
parts_of test [] = record { whole = refl; plain = refl; back = refl }
parts_of test (byte ∷ rest) = by_test (test byte) refl (parts_of test rest) where
  by_test : (t : Bool) → test byte ≡ t → AreParts test rest → AreParts test (byte ∷ rest)
  by_test true is more = record { whole = rw is refl; plain = rw is refl; back = rw is is }
  by_test false is more = record { whole = rw is (ap (λ l. byte ∷ l) more.whole); plain = rw (is, is) more.plain; back = rw is more.back }

-- a text is what stands before the first byte that passes, this byte, and what stands behind it
pub record AreRound (test : ℕ → Bool) (text front rest : List ℕ) : Type 0 where
  pub byte : ℕ
  pub passes : test byte ≡ true
  pub whole : text ≡ front ++ byte ∷ rest
  pub plain : lacks test front ≡ true

pub round_parts : (test : ℕ → Bool) (text : List ℕ) → IfSome {T = List ℕ × List ℕ} (around test text) (λ parts. AreRound test text parts.0 parts.1)
unfolding around
round_parts test [] = tt
round_parts test (byte ∷ rest) = by_test (test byte) refl (round_parts test rest) where
  by_test : (t : Bool) → test byte ≡ t → IfSome {T = List ℕ × List ℕ} (around test rest) (λ parts. AreRound test rest parts.0 parts.1)
      → IfSome {T = List ℕ × List ℕ} (cond t (Some ([], rest)) (option_map (λ parts. (byte ∷ parts.0, parts.1)) (around test rest))) (λ parts. AreRound test (byte ∷ rest) parts.0 parts.1)
  by_test true is more = record { byte = byte; passes = is; whole = refl; plain = refl }
  by_test false is more =
      if_map (around test rest) (λ parts. (byte ∷ parts.0, parts.1)) (λ parts. AreRound test rest parts.0 parts.1) (λ parts. AreRound test (byte ∷ rest) parts.0 parts.1) more
      (λ parts round. record { byte = round.byte; passes = round.passes; whole = ap (λ l. byte ∷ l) round.whole; plain = rw is round.plain })

widened : (byte first : ℕ) (front text : List ℕ) (o : Option (List ℕ)) → IfSome o (λ rest. text ≡ front ++ rest) → first ≡ byte → IfSome o (λ rest. first ∷ text ≡ byte ∷ front ++ rest)
widened byte first front text None h same = tt
widened byte first front text (Some rest) h same = ap (λ b. b ∷ text) same ∙ ap (λ l. byte ∷ l) h

pub behind_parts : (front text : List ℕ) → IfSome (behind front text) (λ rest. text ≡ front ++ rest)
unfolding behind
behind_parts [] text = refl
behind_parts (byte ∷ front) [] = tt
behind_parts (byte ∷ front) (first ∷ text) = by_test (first == byte) refl (behind_parts front text) where
  by_test : (t : Bool) → (first == byte) ≡ t → IfSome (behind front text) (λ rest. text ≡ front ++ rest) → IfSome (cond t (behind front text) None) (λ rest. first ∷ text ≡ byte ∷ front ++ rest)
  by_test true is more =
      let same : first ≡ byte = (Decides-eqb first byte).0 is in
      widened byte first front text (behind front text) more same
  by_test false is more = tt
