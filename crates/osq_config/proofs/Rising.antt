-- Names that rise.
use Rattle.std.proofs.Common.{◌≡◌, ℕ, Bool, true, false, List, [], ◌∷◌, ◌++◌, refl, sym, ap, ◌∙◌, bytes_eq, true≢false, Ordering, Less, Equal, Greater, is_lt}
use Rattle.std.specs.Prelude.{◌&&◌}
use Rattle.std.specs.Cmp.Lexicographic.{slice_cmp}
use Rattle.std.specs.Ordering.{nat_cmp, ordering_reverse}
use Rattle.std.proofs.lemmas.Bool.{and_parts}
use Rattle.std.proofs.lemmas.Cmp.{nat_list_cmp_total}
use Rattle.std.proofs.lemmas.Slice.Eq.{bytes_eq-Decides}
use Rattle.osq_config.specs.Names.{names_rise}

abbrev pub name_order : List ℕ → List ℕ → Ordering
name_order = slice_cmp nat_cmp

less_of : (r : Ordering) → is_lt r ≡ true → r ≡ Less
less_of Less h = refl
less_of Equal h = absurd (true≢false (sym h))
less_of Greater h = absurd (true≢false (sym h))

-- a name stands before each of these
abbrev pub StandsBefore : List ℕ → List (List ℕ) → Type 0
StandsBefore name [] = Unit {0}
StandsBefore name (other ∷ others) = (name_order name other ≡ Less) × StandsBefore name others

pub tail_rises : (name : List ℕ) (names : List (List ℕ)) → names_rise (name ∷ names) ≡ true → names_rise names ≡ true
tail_rises name [] rise = refl
tail_rises name (next ∷ names) rise = (and_parts (is_lt (name_order name next)) (names_rise (next ∷ names)) rise).1

before_more : (first second : List ℕ) (names : List (List ℕ)) → name_order first second ≡ Less → StandsBefore second names → StandsBefore first names
before_more first second [] less before = tt
before_more first second (name ∷ names) less before = (nat_list_cmp_total.trans first second name less before.0, before_more first second names less before.1)

pub before_all : (name : List ℕ) (names : List (List ℕ)) → names_rise (name ∷ names) ≡ true → StandsBefore name names
before_all name [] rise = tt
before_all name (next ∷ names) rise =
    let parts = and_parts (is_lt (name_order name next)) (names_rise (next ∷ names)) rise in
    let less = less_of (name_order name next) parts.0 in
    (less, before_more name next names less (before_all next names parts.1))

pub rise_more : (name : List ℕ) (names : List (List ℕ)) → StandsBefore name names → names_rise names ≡ true → names_rise (name ∷ names) ≡ true
rise_more name [] before rise = refl
rise_more name (next ∷ names) before rise = ap (λ t. t && names_rise (next ∷ names)) (ap is_lt before.0) ∙ rise

-- a name that stands before another is not the same
pub names_differ : (first second : List ℕ) → name_order first second ≡ Less → bytes_eq first second ≡ false
names_differ first second less = by (bytes_eq first second) refl where
  by : (t : Bool) → bytes_eq first second ≡ t → t ≡ false
  by false e = refl
  by true e =
      let same : name_order first first ≡ Less = ap (name_order first) ((bytes_eq-Decides first second).0 e) ∙ less in
      let turned : Less ≡ Greater = sym same ∙ nat_list_cmp_total.antisymm first first ∙ ap ordering_reverse same in
      let no : ⊥ = cc in
      absurd no

-- the first of a rising list is none of those behind it
pub first_differs : (name : List ℕ) (front : List (List ℕ)) (other : List ℕ) (back : List (List ℕ)) → StandsBefore name (front ++ other ∷ back) → bytes_eq name other ≡ false
first_differs name [] other back before = names_differ name other before.0
first_differs name (next ∷ front) other back before = first_differs name front other back before.1
