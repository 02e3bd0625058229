-- The category that a walk over a list has found so far.
use Rattle.std.proofs.Common.{◌≡◌, ℕ, List, [], ◌∷◌, ◌++◌, true, refl, ap, ◌∙◌, append_assoc, Option, Some, None, Ordering, Less, Equal, Greater, nat_cmp, is_lt}
use Rattle.std.proofs.lemmas.Bool.{false≢true}
use Rattle.std.proofs.lemmas.Cmp.{nat_list_cmp_total}
use Rattle.std.proofs.lemmas.List.Elements.{All-nil, All-cons, All-same, All-append, All-push, All-weaker}
use Rattle.std.specs.Cmp.{IsTotalOrder}
use Rattle.std.specs.Cmp.Lexicographic.{slice_cmp}
use Rattle.std.specs.Ordering.{ordering_reverse}
use Rattle.std.specs.List.{All}
use Rattle.osq_value.specs.declared.reading.Category.{Category}
use Rattle.change_records.specs.Events.{BeforeFound, FindsCategory, StandsBefore, Takes}

abbrev cmp : List ℕ → List ℕ → Ordering
cmp = slice_cmp nat_cmp

less : (o : Ordering) → is_lt o ≡ true → o ≡ Less
less Less h = refl
less Equal h = absurd (false≢true h)
less Greater h = absurd (false≢true h)

order : IsTotalOrder cmp
order = nat_list_cmp_total

before_before : (a b c : List ℕ) → StandsBefore a b → StandsBefore b c → StandsBefore a c
before_before a b c ab bc = ap is_lt (order.trans a b c (less (cmp a b) ab) (less (cmp b c) bc))

-- what stands before another stands before what does not stand before that one
before_rest : (a b c : List ℕ) → StandsBefore a b → (StandsBefore c b → ⊥) → StandsBefore a c
before_rest a b c ab not = by (cmp c b) refl
  where
    by : (o : Ordering) → cmp c b ≡ o → StandsBefore a c
    by Less e = absurd (not (ap is_lt e))
    by Equal e =
        ap is_lt (order.antisymm a c ∙ ap ordering_reverse (order.congr c b a e ∙ order.antisymm b a ∙ ap ordering_reverse (less (cmp a b) ab)))
    by Greater e = ap is_lt (order.trans a b c (less (cmp a b) ab) (order.antisymm b c ∙ ap ordering_reverse e))

-- one more category that is not the path's
pub keep : (path : List ℕ) (front : List Category) (next : Category) (found : Option Category) → FindsCategory path front found → (Takes next path → BeforeFound next found → ⊥) → FindsCategory path (front ++ next ∷ []) found
keep path front next None none not = All-push (λ (category : Category). Takes category path → ⊥) front next none (λ takes. not takes tt)
keep path front next (Some found) is not = record {
  before = is.before;
  after = is.after ++ next ∷ [];
  place = ap (λ (cs : List Category). cs ++ next ∷ []) is.place ∙ append_assoc is.before (found ∷ is.after) (next ∷ []);
  takes = is.takes;
  before_it = is.before_it;
  after_it = All-push (λ (other : Category). Takes other path → StandsBefore other.name found.name → ⊥) is.after next is.after_it not;
}

-- one more category, which is the path's from now on
pub change : (path : List ℕ) (front : List Category) (next : Category) (found : Option Category) → FindsCategory path front found → Takes next path → BeforeFound next found → FindsCategory path (front ++ next ∷ []) (Some next)
change path front next None none takes before = record {
  before = front;
  after = [];
  place = refl;
  takes = takes;
  before_it = All-weaker (λ (other : Category). Takes other path → ⊥) (λ (other : Category). Takes other path → StandsBefore next.name other.name) (λ other no taken. absurd (no taken)) front none;
  after_it = All-nil (λ (other : Category). Takes other path → StandsBefore other.name next.name → ⊥);
}
change path front next (Some found) is takes before =
    let P = λ (other : Category). Takes other path → StandsBefore next.name other.name in
    let earlier : All P is.before =
    All-weaker (λ (other : Category). Takes other path → StandsBefore found.name other.name) P (λ other lower taken. before_before next.name found.name other.name before (lower taken)) is.before is.before_it in
    let later : All P is.after =
    All-weaker (λ (other : Category). Takes other path → StandsBefore other.name found.name → ⊥) P (λ other no taken. before_rest next.name found.name other.name before (no taken)) is.after is.after_it in record {
      before = front;
      after = [];
      place = refl;
      takes = takes;
      before_it = All-same P front (is.before ++ found ∷ is.after) is.place (All-append P is.before (found ∷ is.after) earlier (All-cons P found is.after (λ _. before) later));
      after_it = All-nil (λ (other : Category). Takes other path → StandsBefore other.name next.name → ⊥);
    }
