-- Rows of frames that were gone over up to a place.
use Rattle.std.proofs.Common.{◌≡◌, ℕ, ◌+◌, ◌<◌, ◌≤◌, sym, ap, ◌∙◌, List, [], ◌∷◌, ◌++◌, length, map, take, get_or, append-nil, append_assoc, arith}
use Rattle.std.specs.Prelude.{zip, min}
use Rattle.std.proofs.lemmas.List.{map_more, take_all, take_more, length-take-le}
use Rattle.std.proofs.lemmas.Slice.Zip.{get_or-zip, length-zip}
use Rattle.osq_value.specs.declared.value.Value.{Value}
use Rattle.batch_frames.specs.declared.frame.Frame.{Frame}
use Rattle.fleet_query.specs.Tables.{cells, cells_from}

cells_push : (frame : Frame) (row : ℕ) (rows : List (List Value)) (values : List Value) → cells_from frame row (rows ++ values ∷ []) ≡ cells_from frame row rows ++ cells frame (row + length rows) values
cells_push frame row [] values = append-nil (cells frame row values) ∙ (let e : row ≡ row + 0 = omega arith in ap (λ n. cells frame n values) e)
cells_push frame row (first ∷ rows) values =
    let e : row + 1 + length rows ≡ row + length (first ∷ rows) = omega arith in
    ap (λ (made : List (List Value)). cells frame row first ++ made) (cells_push frame (row + 1) rows values ∙ ap (λ n. cells_from frame (row + 1) rows ++ cells frame n values) e)
    ∙ sym (append_assoc (cells frame row first) (cells_from frame (row + 1) rows) (cells frame (row + length (first ∷ rows)) values))

-- one row more
pub cells_more : (frame : Frame) (rows : List (List Value)) (at : ℕ) (values : List Value) → at < length rows → values ≡ get_or rows at values
    → cells_from frame 0 (take (at + 1) rows) ≡ cells_from frame 0 (take at rows) ++ cells frame at values
cells_more frame rows at values within is =
    let e : 0 + length (take at rows) ≡ at = (let l = length-take-le at rows (omega (arith, within)) in omega (arith, l)) in
    ap (cells_from frame 0) (take_more rows at values within ∙ ap (λ (v : List Value). take at rows ++ v ∷ []) (sym is))
    ∙ cells_push frame 0 (take at rows) values ∙ ap (λ n. cells_from frame 0 (take at rows) ++ cells frame n values) e

-- one name more with its value
pub zip_more : {Y : Type 0} (f : List ℕ × Value → Y) (names : List (List ℕ)) (values : List Value) (at : ℕ) (name : List ℕ) (value : Value) → at < length names → at < length values
    → name ≡ get_or names at name → value ≡ get_or values at value → map f (take (at + 1) (zip names values)) ≡ map f (take at (zip names values)) ++ f (name, value) ∷ []
zip_more f names values at name value named valued is holds =
    let long = length-zip names values in
    map_more f (zip names values) at (name, value) (omega (arith, long, named, valued))
    ∙ ap (λ (cell : List ℕ × Value). map f (take at (zip names values)) ++ f cell ∷ []) (get_or-zip names values at (name, value) named valued ∙ (λ k. (sym is k, sym holds k)))

-- all of them
pub zip_all : (names : List (List ℕ)) (values : List Value) (at : ℕ) → min (length names) (length values) ≤ at → take at (zip names values) ≡ zip names values
zip_all names values at past = let long = length-zip names values in take_all at (zip names values) (omega (arith, long, past))
