-- One pack more of the loop over packs.
use Rattle.std.proofs.Common.{◌≡◌, ◌<◌, ℕ, ◌+◌, Bool, length, get_or, List, [], ◌∷◌, ◌++◌, map, take, refl, sym, ap, ◌∙◌}
use Rattle.std.proofs.lemmas.List.{take_more}
use Rattle.osq_config.specs.declared.config.Pack.{Pack}
use Rattle.sql_meaning.specs.Meaning.{View}
use Rattle.query_answers.specs.Discovery.{is_found}

found_more : (view : View) (packs : List Pack) (pack : Pack) → map (is_found view) (packs ++ pack ∷ []) ≡ map (is_found view) packs ++ is_found view pack ∷ []
found_more view [] pack = refl
found_more view (first ∷ packs) pack = ap (λ (found : List Bool). is_found view first ∷ found) (found_more view packs pack)

pub found_turn : (view : View) (packs : List Pack) (at : ℕ) (pack : Pack) → at < length packs → pack ≡ get_or packs at pack → (found next : List Bool) (all : Bool)
    → found ≡ map (is_found view) (take at packs) → all ≡ is_found view pack → next ≡ found ++ all ∷ [] → next ≡ map (is_found view) (take (at + 1) packs)
found_turn view packs at pack within is found next all earlier this pushed =
    pushed ∙ ap (λ (fs : List Bool). fs ++ all ∷ []) earlier ∙ ap (λ (f : Bool). map (is_found view) (take at packs) ++ f ∷ []) this
    ∙ sym (ap (map (is_found view)) (take_more packs at pack within ∙ ap (λ (p : Pack). take at packs ++ p ∷ []) (sym is)) ∙ found_more view (take at packs) pack)
