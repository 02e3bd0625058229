-- What stands in a table beside a word.
use Rattle.std.proofs.Common.{◌≡◌, ℕ, List, ◌∷◌, true, false, Some, refl, map}
use Rattle.std.specs.Str.{str_eq_ignore_ascii_case}
use Rattle.sql_tokens.specs.Words.{found_in}

pub found_first : {X A : Type 0} (f : X → List ℕ × A) (xs : List X) (x : X) (rest : List X) (w : List ℕ) → xs ≡ x ∷ rest → str_eq_ignore_ascii_case w (f x).0 ≡ true → Some (f x).1 ≡ found_in (map f xs) w
found_first f xs x rest w e h = rw e (rw h refl)

pub found_later : {X A : Type 0} (f : X → List ℕ × A) (xs : List X) (x : X) (rest : List X) (w : List ℕ) → xs ≡ x ∷ rest → str_eq_ignore_ascii_case w (f x).0 ≡ false → found_in (map f rest) w ≡ found_in (map f xs) w
found_later f xs x rest w e h = rw e (rw h refl)
