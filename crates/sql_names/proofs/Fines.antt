-- The mentions of a select whose aggregates stand where they may.
use Rattle.std.proofs.Common.{◌≡◌, ℕ, ◌++◌, Bool, true, false, List, [], ◌∷◌, map, Option, Some, None, refl}
use Rattle.std.specs.Prelude.{not, ◌&&◌, if◌then◌else◌}
use Rattle.sql_scope.specs.declared.mention.Mention.{Mention}
use Rattle.sql_names.specs.Kinds.{forbids, mentioned_wrong, is_aggregate, has_aggregate}
use Rattle.sql_names.specs.Least.{lesser, least}
use Rattle.sql_scope.specs.Shown.{Names}

-- the mention stands where it may, and an aggregate is there only where rows are grouped
abbrev pub IsFine : Names → Bool → Mention → Type 0
IsFine names grouped m = (mentioned_wrong names m ≡ None) × (is_aggregate m.what ≡ true → forbids m.clause ≡ false → grouped ≡ true)

abbrev pub AreFine : Names → Bool → List Mention → Type 0
AreFine names grouped [] = Unit {0}
AreFine names grouped (m ∷ found) = IsFine names grouped m × AreFine names grouped found

pub lesser_left : (a b : Option ℕ) → lesser a b ≡ None → a ≡ None
lesser_left None b e = refl
lesser_left (Some a) None e = e
lesser_left (Some a) (Some b) e = absurd (let no : ⊥ = cc in no)

pub lesser_right : (a b : Option ℕ) → lesser a b ≡ None → b ≡ None
lesser_right None b e = e
lesser_right (Some a) None e = refl
lesser_right (Some a) (Some b) e = absurd (let no : ⊥ = cc in no)

found_here : (a f rest : Bool) → a ≡ true → f ≡ false → (if a && not f then true else rest) ≡ true
found_here true true rest e f = absurd (let no : ⊥ = cc in no)
found_here true false rest e f = refl
found_here false f rest e g = absurd (let no : ⊥ = cc in no)

found_later : (here rest : Bool) → rest ≡ true → (if here then true else rest) ≡ true
found_later true rest e = refl
found_later false rest e = e

pub fine_all : (names : Names) (grouped : Bool) (found : List Mention) → least (map (mentioned_wrong names) found) ≡ None → (has_aggregate found ≡ true → grouped ≡ true) → AreFine names grouped found
fine_all names grouped [] none has = tt
fine_all names grouped (m ∷ found) none has = (
  (lesser_left (mentioned_wrong names m) (least (map (mentioned_wrong names) found)) none, λ is free. has (found_here (is_aggregate m.what) (forbids m.clause) (has_aggregate found) is free)),
  fine_all names grouped found (lesser_right (mentioned_wrong names m) (least (map (mentioned_wrong names) found)) none) (λ is. has (found_later (is_aggregate m.what && not (forbids m.clause)) (has_aggregate found) is)),
)

pub fine_left : (names : Names) (grouped : Bool) (before after : List Mention) → AreFine names grouped (before ++ after) → AreFine names grouped before
fine_left names grouped [] after fine = tt
fine_left names grouped (m ∷ before) after fine = (fine.0, fine_left names grouped before after fine.1)

pub fine_right : (names : Names) (grouped : Bool) (before after : List Mention) → AreFine names grouped (before ++ after) → AreFine names grouped after
fine_right names grouped [] after fine = fine
fine_right names grouped (m ∷ before) after fine = fine_right names grouped before after fine.1
