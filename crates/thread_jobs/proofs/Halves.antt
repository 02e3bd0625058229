-- What holds place by place of the two halves of a list holds of the whole.
use Rattle.std.proofs.Common.{◌≡◌, List, [], ◌∷◌, ◌++◌, length, subst, sym, arith}
use Rattle.std.specs.List.{AllZip}

pub all_zip_append : {A B : Type 0} (R : A → B → Type 0) (xs : List A) (ys : List B) (zs : List A) (ws : List B) → AllZip R xs ys → AllZip R zs ws → AllZip R (xs ++ zs) (ys ++ ws)
all_zip_append R [] [] zs ws front back = back
all_zip_append R [] (y ∷ ys) zs ws front back = absurd front
all_zip_append R (x ∷ xs) [] zs ws front back = absurd front
all_zip_append R (x ∷ xs) (y ∷ ys) zs ws front back = (front.0, all_zip_append R xs ys zs ws front.1 back)

-- a list that was cut in two, each half of which has changed
pub halves : {A B : Type 0} (R : A → B → Type 0) (whole xs zs : List A) (ys ws : List B) → whole ≡ xs ++ zs → AllZip R xs ys → AllZip R zs ws → AllZip R whole (ys ++ ws)
halves R whole xs zs ys ws is front back = subst (λ l. AllZip R l (ys ++ ws)) (sym is) (all_zip_append R xs ys zs ws front back)

-- of two lists that were cut at one place, it holds of the halves
pub zip_apart : {A B : Type 0} (R : A → B → Type 0) (xs zs : List A) (ys ws : List B) → length xs ≡ length ys → AllZip R (xs ++ zs) (ys ++ ws) → AllZip R xs ys × AllZip R zs ws
zip_apart R [] zs [] ws long all = (tt, all)
zip_apart R [] zs (y ∷ ys) ws long all = absurd (omega (arith, long))
zip_apart R (x ∷ xs) zs [] ws long all = absurd (omega (arith, long))
zip_apart R (x ∷ xs) zs (y ∷ ys) ws long all =
    let more = zip_apart R xs zs ys ws (omega (arith, long)) all.1 in ((all.0, more.0), more.1)
