-- A loop over the steps of a chain has one step more.
use Rattle.std.proofs.Common.{◌≡◌, ℕ, ◌+◌, ◌<◌, ◌++◌, Bool, List, length, take, get_or, map, ap, sym, ◌∙◌, append_assoc}
use Rattle.std.specs.Prelude.{◌&&◌}
use Rattle.std.proofs.lemmas.List.{map-append}
use Rattle.sql_tree.specs.declared.tree.Step.{Step}
use Rattle.sql_tree.specs.Tree.{Tree}
use Rattle.sql_tree.specs.View.{step_of, steps_of}
use Rattle.sql_names.specs.Results.{are_ands, is_and_step, right_of, rights_of}
use Rattle.sql_scope.proofs.Walks.{steps_more}

pub ands_then : (are all : Bool) (steps : List Step) (i : ℕ) (item : Step) → i < length steps → item ≡ get_or steps i item → are ≡ are_ands (steps_of (take i steps)) → all ≡ (are && is_and_step (step_of item)) → all ≡ are_ands (steps_of (take (i + 1) steps))
ands_then are all steps i item within is old one = rw (steps_more steps i item within is) (one ∙ ap (λ (x : Bool). x && is_and_step (step_of item)) old)

pub rights_then : {A : Type 0} (f : Tree → A) (before found new : List A) (steps : List Step) (i : ℕ) (item : Step) → i < length steps → item ≡ get_or steps i item → found ≡ before ++ map f (rights_of (steps_of (take i steps))) → new ≡ found ++ map f (right_of (step_of item)) → new ≡ before ++ map f (rights_of (steps_of (take (i + 1) steps)))
rights_then {A = A} f before found new steps i item within is old one =
    rw (steps_more steps i item within is)
    (one ∙ ap (λ (x : List A). x ++ map f (right_of (step_of item))) old ∙ append_assoc before _ _ ∙ ap (λ (x : List A). before ++ x) (sym (map-append f (rights_of (steps_of (take i steps))) (right_of (step_of item)))))
