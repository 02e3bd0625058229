-- What the builder of groups stands for, as lines come and groups are given.
use Rattle.std.proofs.Common.{◌≡◌, Bool, true, false, cond, ◌&&◌, not, ◌==◌, length, List, [], ◌∷◌, ◌++◌, refl, arith, sym, ap, ◌∙◌, append_assoc}
use Rattle.std.proofs.lemmas.List.{append-nil}
use Rattle.std.proofs.lemmas.Bool.{true≢false}
use Rattle.std.proofs.lemmas.Bool.Decides.{Decides-eqb}
use Rattle.audit_records.specs.declared.line.AuditLine.{AuditLine}
use Rattle.audit_records.specs.Groups.{same_id, goes_on, groups_behind, groups_of, is_ended, HasGrouped}

pub stands_new : HasGrouped [] [] []
unfolding groups_of
stands_new coming = refl

off : (b : Bool) → (b && false) ≡ false
off true = refl
off false = refl

-- a group that has ended is the first, whatever lines come
pub own_step : (held coming : List AuditLine) → is_ended held ≡ true → held ∷ groups_behind [] coming ≡ groups_behind held coming
own_step [] coming ended = absurd (true≢false (sym ended))
own_step (first ∷ held) [] ended = refl
own_step (first ∷ held) (line ∷ coming) ended =
    let stops : goes_on (first ∷ held) line ≡ false = ap (λ t. same_id first.id line.id && not t) ended ∙ off (same_id first.id line.id) in
    sym (ap (λ t. cond t (groups_behind ((first ∷ held) ++ line ∷ []) coming) ((first ∷ held) ∷ groups_behind (line ∷ []) coming)) stops)

pub stands_own : (given : List (List AuditLine)) (pushed held : List AuditLine) → is_ended held ≡ true → HasGrouped given pushed held → HasGrouped (given ++ held ∷ []) pushed []
stands_own given pushed held ended stands coming =
    append_assoc given (held ∷ []) (groups_behind [] coming) ∙ ap (λ gs. given ++ gs) (own_step held coming ended) ∙ stands coming

pub stands_none : (given : List (List AuditLine)) (pushed held : List AuditLine) → (length held == 0) ≡ true → HasGrouped given pushed held → given ++ [] ≡ groups_of pushed
stands_none given pushed [] none stands = stands [] ∙ ap groups_of (append-nil pushed)
stands_none given pushed (first ∷ held) none stands = let empty : length (first ∷ held) ≡ 0 = (Decides-eqb (length (first ∷ held)) 0).0 none in absurd (let no : ⊥ = omega arith in no)

pub stands_end : (given : List (List AuditLine)) (pushed held : List AuditLine) → (length held == 0) ≡ false → HasGrouped given pushed held → given ++ held ∷ [] ≡ groups_of pushed
stands_end given pushed [] some stands = absurd (true≢false some)
stands_end given pushed (first ∷ held) some stands = stands [] ∙ ap groups_of (append-nil pushed)
