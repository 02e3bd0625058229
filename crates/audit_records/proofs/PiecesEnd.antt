-- A group has no more pieces than fields, so that the pieces of an argument end where one is missing.
use Rattle.std.proofs.Common.{◌≡◌, ℕ, zero, suc, ◌+◌, ◌^◌, ◌<◌, ◌≤◌, Bool, true, false, cond, ◌||◌, List, [], ◌∷◌, ◌++◌, length, map, refl, arith, ap, sym, ◌∙◌, subst, inl, inr, Option, Some, None}
use Rattle.std.specs.Prelude.{bytes_eq, decimal, find, codes, ◌⊎◌, option_map}
use Rattle.std.specs.List.{AllByRecursion, IsDistinct, list_any}
use Rattle.std.specs.Option.{option_map_or, option_or}
use Rattle.std.proofs.lemmas.Bool.{false≢true}
use Rattle.std.proofs.lemmas.Cmp.{nat_list_eq_equiv}
use Rattle.std.proofs.lemmas.Fmt.{decimal_injective}
use Rattle.std.proofs.lemmas.List.{append_cancel_left, append_cancel_right}
use Rattle.std.proofs.lemmas.Map.Made.{length-le_from_is_member}
use Rattle.std.proofs.lemmas.Option.{none-some}
use Rattle.std.proofs.lemmas.Slice.Eq.{bytes_eq-Decides}
use Rattle.audit_records.specs.declared.line.AuditLine.{AuditLine}
use Rattle.audit_records.specs.declared.line.Field.{Field}
use Rattle.audit_records.specs.FieldValues.{field_of}
use Rattle.audit_records.specs.Arguments.{execve_field, execve_text, field_in, is_execve, most_pieces, piece_key, pieces, shown_text, until_missing}

-- the keys of the pieces from one on
names : ℕ → ℕ → ℕ → List (List ℕ)
names place zero piece = []
names place (suc count) piece = piece_key place piece ∷ names place count (piece + 1)

length-names : (place count piece : ℕ) → length (names place count piece) ≡ count
unfolding names
length-names place zero piece = refl
length-names place (suc count) piece = ap suc (length-names place count (piece + 1))

piece_key-apart : (place i j : ℕ) → i < j → j < 2 ^ 64 → bytes_eq (piece_key place i) (piece_key place j) ≡ false
piece_key-apart place i j below small = by_test (bytes_eq (piece_key place i) (piece_key place j)) refl where
  by_test : (t : Bool) → bytes_eq (piece_key place i) (piece_key place j) ≡ t → t ≡ false
  by_test true same =
      let keys : piece_key place i ≡ piece_key place j = (bytes_eq-Decides (piece_key place i) (piece_key place j)).0 same in
      let front = codes "a" ++ decimal place ++ codes "[" in
      let texts : decimal i ≡ decimal j = append_cancel_left front (decimal i) (decimal j) (append_cancel_right (front ++ decimal i) (front ++ decimal j) (codes "]") keys) in
      let numbers : i ≡ j = decimal_injective i j (omega arith) small texts in
      absurd (omega arith)
  by_test false _ = refl

names-apart : (place count i j : ℕ) → i < j → j + count ≤ 2 ^ 64 → AllByRecursion (λ y. bytes_eq (piece_key place i) y ≡ false) (names place count j)
unfolding names
names-apart place zero i j below small = tt
names-apart place (suc count) i j below small = (piece_key-apart place i j below (omega arith), names-apart place count i (j + 1) (omega arith) (omega arith))

names-distinct : (place count piece : ℕ) → piece + count ≤ 2 ^ 64 → IsDistinct bytes_eq (names place count piece)
unfolding names IsDistinct
names-distinct place zero piece small = tt
names-distinct place (suc count) piece small = (names-apart place count piece (piece + 1) (omega arith) (omega arith), names-distinct place count (piece + 1) (omega arith))

-- the keys of the fields of the EXECVE lines
line_keys : AuditLine → List (List ℕ)
line_keys line = cond (is_execve line) (map (λ (field : Field). field.key) line.fields) []

pub field_keys : List AuditLine → List (List ℕ)
field_keys [] = []
field_keys (line ∷ lines) = line_keys line ++ field_keys lines

any-left : (test : List ℕ → Bool) (xs ys : List (List ℕ)) → list_any test xs ≡ true → list_any test (xs ++ ys) ≡ true
any-left test [] ys some = absurd (false≢true some)
any-left test (x ∷ xs) ys some = by_test (test x) some (any-left test xs ys) where
  by_test : (t : Bool) → (t || list_any test xs) ≡ true → (list_any test xs ≡ true → list_any test (xs ++ ys) ≡ true) → (t || list_any test (xs ++ ys)) ≡ true
  by_test true _ _ = refl
  by_test false found more = more found

or-right : (s t : Bool) → t ≡ true → (s || t) ≡ true
or-right true t is = refl
or-right false t is = is

any-right : (test : List ℕ → Bool) (xs ys : List (List ℕ)) → list_any test ys ≡ true → list_any test (xs ++ ys) ≡ true
any-right test [] ys some = some
any-right test (x ∷ xs) ys some = or-right (test x) (list_any test (xs ++ ys)) (any-right test xs ys some)

found-key : (key : List ℕ) (fields : List Field) (field : Field) → find (λ (f : Field). bytes_eq f.key key) fields ≡ Some field → list_any (bytes_eq key) (map (λ (f : Field). f.key) fields) ≡ true
found-key key [] field found = absurd (none-some field found)
found-key key (f ∷ fields) field found = by_test (bytes_eq f.key key) (nat_list_eq_equiv.symm key f.key) found (found-key key fields field) where
  by_test : (t : Bool) → bytes_eq key f.key ≡ t → cond t (Some f) (find (λ (g : Field). bytes_eq g.key key) fields) ≡ Some field → (find (λ (g : Field). bytes_eq g.key key) fields ≡ Some field → list_any (bytes_eq key) (map (λ (g : Field). g.key) fields) ≡ true) → (bytes_eq key f.key || list_any (bytes_eq key) (map (λ (g : Field). g.key) fields)) ≡ true
  by_test true same _ _ = ap (λ t. t || list_any (bytes_eq key) (map (λ (g : Field). g.key) fields)) same
  by_test false _ others more = or-right (bytes_eq key f.key) (list_any (bytes_eq key) (map (λ (g : Field). g.key) fields)) (more others)

line-key : (key : List ℕ) (line : AuditLine) (field : Field) → field_in key line ≡ Some field → list_any (bytes_eq key) (line_keys line) ≡ true
unfolding line_keys
line-key key line field found = by_kind (is_execve line) found where
  by_kind : (t : Bool) → cond t (field_of key line) None ≡ Some field → list_any (bytes_eq key) (cond t (map (λ (f : Field). f.key) line.fields) []) ≡ true
  by_kind true there = found-key key line.fields field there
  by_kind false there = absurd (none-some field there)

group-key : (key : List ℕ) (lines : List AuditLine) (field : Field) → execve_field key lines ≡ Some field → list_any (bytes_eq key) (field_keys lines) ≡ true
unfolding field_keys
group-key key [] field found = absurd (none-some field found)
group-key key (line ∷ lines) field found = by_line (field_in key line) refl found (group-key key lines field) where
  by_line : (o : Option Field) → field_in key line ≡ o → option_or o (execve_field key lines) ≡ Some field → (execve_field key lines ≡ Some field → list_any (bytes_eq key) (field_keys lines) ≡ true) → list_any (bytes_eq key) (line_keys line ++ field_keys lines) ≡ true
  by_line (Some first) is _ _ = any-left (bytes_eq key) (line_keys line) (field_keys lines) (line-key key line first is)
  by_line None _ others more = any-right (bytes_eq key) (line_keys line) (field_keys lines) (more others)

abbrev piece_text : ℕ → List AuditLine → ℕ → Option (List ℕ)
piece_text place lines piece = execve_text (piece_key place piece) lines

-- the pieces are all that were asked for, or the next one is missing
shape : {X : Type 0} (count piece : ℕ) (f : ℕ → Option X) → (length (until_missing count piece f) ≡ count) ⊎ (f (piece + length (until_missing count piece f)) ≡ None)
shape zero piece f = inl refl
shape {X} (suc count) piece f = by_value (f piece) refl (shape count (piece + 1) f) where
  by_value : (o : Option X) → f piece ≡ o → ((length (until_missing count (piece + 1) f) ≡ count) ⊎ (f (piece + 1 + length (until_missing count (piece + 1) f)) ≡ None))
      → (length (option_map_or (λ x. x ∷ until_missing count (piece + 1) f) o []) ≡ suc count) ⊎ (f (piece + length (option_map_or (λ x. x ∷ until_missing count (piece + 1) f) o [])) ≡ None)
  by_value None is _ = let here : piece + 0 ≡ piece = omega arith in inr (ap f here ∙ is)
  by_value (Some x) is (inl all) = inl (ap suc all)
  by_value (Some x) is (inr missing) =
      let next : piece + suc (length (until_missing count (piece + 1) f)) ≡ piece + 1 + length (until_missing count (piece + 1) f) = omega arith in
      inr (ap f next ∙ missing)

-- each piece has a field
member : (place count piece : ℕ) (lines : List AuditLine) (key : List ℕ) → list_any (bytes_eq key) (names place (length (until_missing count piece (piece_text place lines))) piece) ≡ true → list_any (bytes_eq key) (field_keys lines) ≡ true
unfolding names
member place zero piece lines key some = absurd (false≢true some)
member place (suc count) piece lines key some = by_field (execve_field (piece_key place piece) lines) refl some (member place count (piece + 1) lines key) where
  rest : List (List ℕ)
  rest = until_missing count (piece + 1) (piece_text place lines)

  by_key : (field : Field) → execve_field (piece_key place piece) lines ≡ Some field → (t : Bool) → bytes_eq key (piece_key place piece) ≡ t → (t || list_any (bytes_eq key) (names place (length (until_missing count (piece + 1) (piece_text place lines))) (piece + 1))) ≡ true → (list_any (bytes_eq key) (names place (length (until_missing count (piece + 1) (piece_text place lines))) (piece + 1)) ≡ true → list_any (bytes_eq key) (field_keys lines) ≡ true) → list_any (bytes_eq key) (field_keys lines) ≡ true
  by_key field is true same _ _ = subst (λ k. list_any (bytes_eq k) (field_keys lines) ≡ true) (sym ((bytes_eq-Decides key (piece_key place piece)).0 same)) (group-key (piece_key place piece) lines field is)
  by_key field is false _ others more = more others

  by_field : (o : Option Field) → execve_field (piece_key place piece) lines ≡ o → list_any (bytes_eq key) (names place (length (option_map_or (λ x. x ∷ until_missing count (piece + 1) (piece_text place lines)) (option_map shown_text o) [])) piece) ≡ true → (list_any (bytes_eq key) (names place (length (until_missing count (piece + 1) (piece_text place lines))) (piece + 1)) ≡ true → list_any (bytes_eq key) (field_keys lines) ≡ true) → list_any (bytes_eq key) (field_keys lines) ≡ true
  by_field None is none _ = absurd (false≢true none)
  by_field (Some field) is there more = by_key field is (bytes_eq key (piece_key place piece)) refl there more

-- the pieces of an argument end where one is missing, in a group with fewer than 2^64 - 1 fields
pub pieces-end : (place : ℕ) (lines : List AuditLine) → length (field_keys lines) < most_pieces → execve_text (piece_key place (length (pieces place lines))) lines ≡ None
unfolding most_pieces
pieces-end place lines few = by_shape (shape most_pieces 0 (piece_text place lines)) where
  by_shape : (length (pieces place lines) ≡ most_pieces) ⊎ (piece_text place lines (0 + length (pieces place lines)) ≡ None) → execve_text (piece_key place (length (pieces place lines))) lines ≡ None
  by_shape (inl all) =
      let count = length (pieces place lines) in
      let small : 0 + count ≤ 2 ^ 64 = omega (arith, all) in
      let most : length (names place count 0) ≤ length (field_keys lines) =
      length-le_from_is_member nat_list_eq_equiv (names place count 0) (field_keys lines) (names-distinct place count 0 small) (member place most_pieces 0 lines) in
      absurd (omega (arith, all, most, length-names place count 0))
  by_shape (inr missing) = let same : length (pieces place lines) ≡ 0 + length (pieces place lines) = omega arith in ap (piece_text place lines) same ∙ missing
