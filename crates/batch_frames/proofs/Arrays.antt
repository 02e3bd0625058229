-- Arrays, item by item.
use Rattle.std.proofs.Common.{◌≡◌, ℕ, ◌<◌, ◌+◌, true, false, List, [], ◌∷◌, ◌++◌, length, length-append, drop, map, refl, sym, subst, ap, ◌∙◌, append_assoc, append-nil, arith}
use Rattle.std.specs.Prelude.{not}
use Rattle.batch_frames.specs.Takes.{Takes}
use Rattle.std.specs.List.{AllByRecursion}
use Rattle.result_batches.specs.Json.{joined, each_behind_comma}
use Rattle.batch_frames.specs.Ends.{BeginsValue, BeginsWithEnd, behind_comma, has_item}

-- what stands behind an item
unfoldable pub rest_of : {T : Type 0} → (T → List ℕ) → List T → List ℕ → List ℕ
rest_of text items tail = each_behind_comma (map text items) ++ 93 ∷ tail

-- what stands behind the bracket that opens an array, or behind a comma in it
abbrev pub items_of : {T : Type 0} → (T → List ℕ) → List T → List ℕ → List ℕ
items_of text items tail = joined (map text items) ++ 93 ∷ tail

ends : {T : Type 0} → (text : T → List ℕ) (items : List T) (tail : List ℕ) → BeginsWithEnd (rest_of text items tail)
unfolding rest_of
ends text [] tail = refl
ends text (x ∷ xs) tail = refl

comma : {T : Type 0} → (text : T → List ℕ) (items : List T) (tail : List ℕ) → behind_comma (rest_of text items tail) ≡ items_of text items tail
unfolding rest_of
comma text [] tail = refl
comma text (x ∷ xs) tail = refl

first_of : {T : Type 0} → (text : T → List ℕ) (x : T) (xs : List T) (tail : List ℕ) → items_of text (x ∷ xs) tail ≡ text x ++ rest_of text xs tail
unfolding rest_of
first_of text x xs tail = append_assoc (text x) (each_behind_comma (map text xs)) (93 ∷ tail)

not_empty : (bytes : List ℕ) → BeginsValue bytes → 0 < length bytes
not_empty [] h = absurd h
not_empty (b ∷ bs) h = omega arith

item_there : (bytes rest : List ℕ) → BeginsValue bytes → has_item (bytes ++ rest) ≡ true
item_there [] rest h = absurd h
item_there (b ∷ bs) rest h = ap not h

-- another item stands in front
pub record Next {T : Type 0} (text : T → List ℕ) (held : T → Type 0) (more : List T) (rest tail : List ℕ) : Type 0 where
  pub value : T
  pub others : List T
  pub are : more ≡ value ∷ others
  pub holds : held value
  pub hold : AllByRecursion held others
  pub is : rest ≡ text value ++ rest_of text others tail
  pub ended : BeginsWithEnd (rest_of text others tail)
  pub shorter : length (rest_of text others tail) < length rest
  pub behind : behind_comma (rest_of text others tail) ≡ items_of text others tail

pub next_of : {T : Type 0} → (text : T → List ℕ) (held : T → Type 0) (law : (value : T) → held value → BeginsValue (text value)) (more : List T) (rest tail : List ℕ)
    → AllByRecursion held more → rest ≡ items_of text more tail → has_item rest ≡ true → Next text held more rest tail
next_of text held law [] rest tail hold is there =
    let at : has_item rest ≡ false = ap has_item is in let gone : ⊥ = cc in absurd gone
next_of text held law (x ∷ xs) rest tail hold is there =
    let whole : rest ≡ text x ++ rest_of text xs tail = is ∙ first_of text x xs tail in
    let count : length rest ≡ length (text x) + length (rest_of text xs tail) = ap length whole ∙ length-append (text x) (rest_of text xs tail) in
    record {
      value = x;
      others = xs;
      are = refl;
      holds = hold.0;
      hold = hold.1;
      is = whole;
      ended = ends text xs tail;
      shorter = omega (arith, count, not_empty (text x) (law x hold.0));
      behind = comma text xs tail;
    }

pub none_left : {T : Type 0} → (text : T → List ℕ) (held : T → Type 0) (law : (value : T) → held value → BeginsValue (text value)) (more : List T) (rest tail : List ℕ)
    → AllByRecursion held more → rest ≡ items_of text more tail → has_item rest ≡ false → (more ≡ []) × (rest ≡ 93 ∷ tail)
none_left text held law [] rest tail hold is gone = (refl, is)
none_left text held law (x ∷ xs) rest tail hold is gone =
    let at : has_item rest ≡ true = ap has_item (is ∙ first_of text x xs tail) ∙ item_there (text x) (rest_of text xs tail) (law x hold.0) in
    let no : ⊥ = cc in
    absurd no

-- the items so far are a front of the values, and the rest is the text of the others
pub record HasRead {T : Type 0} (text : T → List ℕ) (held : T → Type 0) (done values : List T) (rest tail : List ℕ) : Type 0 where
  pub more : List T
  pub hold : AllByRecursion held more
  pub values_are : values ≡ done ++ more
  pub rest_is : rest ≡ items_of text more tail

pub read_more : {T : Type 0} → (text : T → List ℕ) (held : T → Type 0) (law : (value : T) → held value → BeginsValue (text value)) (rest after rest2 tail : List ℕ) (done done2 values : List T) (item : T)
    → HasRead text held done values rest tail → has_item rest ≡ true → Takes text held rest item after → done2 ≡ done ++ item ∷ []
    → (length after < length rest → rest2 ≡ behind_comma after) → HasRead text held done2 values rest2 tail
read_more text held law rest after rest2 tail done done2 values item before there takes pushed behind =
    let n = next_of text held law before.more rest tail before.hold before.rest_is there in
    let t = takes n.value (rest_of text n.others tail) n.holds n.ended n.is in
    let is : after ≡ rest_of text n.others tail = t.1 in
    let short : length after < length rest = subst (λ x. length x < length rest) (sym is) n.shorter in
    record {
      more = n.others;
      hold = n.hold;
      values_are =
          before.values_are ∙ ap (λ m. done ++ m) n.are ∙ sym (append_assoc done (n.value ∷ []) n.others)
          ∙ ap (λ v. (done ++ v ∷ []) ++ n.others) (sym t.0) ∙ ap (λ d. d ++ n.others) (sym pushed);
      rest_is = behind short ∙ ap behind_comma is ∙ n.behind;
    }

pub read_all : {T : Type 0} → (text : T → List ℕ) (held : T → Type 0) (law : (value : T) → held value → BeginsValue (text value)) (rest tail : List ℕ) (done values : List T)
    → HasRead text held done values rest tail → has_item rest ≡ false → (done ≡ values) × (drop 1 rest ≡ tail)
read_all text held law rest tail done values before gone =
    let left = none_left text held law before.more rest tail before.hold before.rest_is gone in
    (sym (before.values_are ∙ ap (λ m. done ++ m) left.0 ∙ append-nil done), ap (drop 1) left.1)
