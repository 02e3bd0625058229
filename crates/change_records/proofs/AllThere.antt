-- Lists of values that are all there.
use Rattle.std.proofs.Common.{◌≡◌, ℕ, zero, suc, ◌+◌, ◌<◌, ◌≤◌, List, [], ◌∷◌, ◌++◌, length, take, get_or, map, refl, sym, subst, ap, ◌∙◌, arith, Option, Some, None, option_map, option_and_then}
use Rattle.std.proofs.lemmas.List.{take_more, take_all}
use Rattle.std.specs.Prelude.{is_some, true, Result, Ok, Err, IsErrAnd, codes}
use Rattle.serde_json.specs.Data.{Data, null, boolean, number, string, array, object}
use Rattle.serde_json.specs.Find.{get, as_array, as_object}
use Rattle.osq_value.specs.declared.catalogue.ColumnDesc.{ColumnDesc}
use Rattle.osq_value.specs.Catalogue.{Column}
use Rattle.osq_value.specs.Described.{column}
use Rattle.change_records.specs.declared.error.JsonLineError.{JsonLineError}
use Rattle.change_records.specs.declared.error.JsonLineError.TheVariants as fault
use Rattle.change_records.specs.Reads.{Reads}
use Rattle.serde_json.specs.View.{items_of, items_view, view}
use Rattle.serde_json.specs.declared.value.Value.{Value}
use Rattle.change_records.specs.Rows.{all_there, list_of, cell_of, cells_of, row_of, rows_of}

abbrev joined : {X : Type 0} → Option X → Option (List X) → Option (List X)
joined first rest = option_and_then (λ x. option_map (λ zs. x ∷ zs) rest) first

split : {X : Type 0} → (first : Option X) (rest : Option (List X)) (ys : List X) → joined first rest ≡ Some ys → (x : X) × (zs : List X) × (first ≡ Some x) × (rest ≡ Some zs) × (ys ≡ x ∷ zs)
split None rest ys e = absurd (let no : ⊥ = cc in no)
split (Some x) None ys e = absurd (let no : ⊥ = cc in no)
split (Some x) (Some zs) ys e = (x, zs, refl, refl, (cc))

joined_none : {X : Type 0} → (first : Option X) → joined first None ≡ None
joined_none None = refl
joined_none (Some x) = refl

pushed : {A X : Type 0} → (f : A → Option X) (zs : List A) (z : A) (ys : List X) (y : X) → all_there (map f zs) ≡ Some ys → f z ≡ Some y → all_there (map f (zs ++ z ∷ [])) ≡ Some (ys ++ y ∷ [])
pushed f [] z ys y e next = let none : [] ≡ ys = cc in ap (λ o. joined o (Some [])) next ∙ ap (λ zs. Some (zs ++ y ∷ [])) none
pushed f (w ∷ ws) z ys y e next =
    let (x, rest, first_is, rest_is, ys_is) = split (f w) (all_there (map f ws)) ys e in
    ap (λ o. joined o (all_there (map f (ws ++ z ∷ [])))) first_is ∙ ap (joined (Some x)) (pushed f ws z rest y rest_is next) ∙ ap (λ zs. Some (zs ++ y ∷ [])) (sym ys_is)

-- one more value
pub all_there-more : {A X : Type 0} → (f : A → Option X) (xs : List A) (i : ℕ) (d : A) (ys : List X) (y : X) → i < length xs → all_there (map f (take i xs)) ≡ Some ys → f (get_or xs i d) ≡ Some y → all_there (map f (take (i + 1) xs)) ≡ Some (ys ++ y ∷ [])
all_there-more f xs i d ys y within front next = ap (λ zs. all_there (map f zs)) (take_more xs i d within) ∙ pushed f (take i xs) (get_or xs i d) ys y front next

-- one that isn't there
pub all_there-none : {A X : Type 0} → (f : A → Option X) (xs : List A) (i : ℕ) (d : A) → i < length xs → f (get_or xs i d) ≡ None → all_there (map f xs) ≡ None
all_there-none f [] i d within none = absurd (let no : ⊥ = omega arith in no)
all_there-none f (x ∷ xs) zero d within none = ap (λ o. joined o (all_there (map f xs))) none
all_there-none f (x ∷ xs) (suc i) d within none =
    ap (joined (f x)) (all_there-none f xs i d (let h : i < length xs = omega arith in h) none) ∙ joined_none (f x)

pub all_there-all : {A X : Type 0} → (f : A → Option X) (xs : List A) (i : ℕ) (ys : List X) → length xs ≤ i → all_there (map f (take i xs)) ≡ Some ys → all_there (map f xs) ≡ Some ys
all_there-all f xs i ys past e = ap (λ zs. all_there (map f zs)) (sym (take_all i xs past)) ∙ e

pub list_of-items_of : (ds : List Data) → list_of (items_of ds) ≡ ds
list_of-items_of [] = refl
list_of-items_of (d ∷ ds) = ap (λ es. d ∷ es) (list_of-items_of ds)

pub map-map : {A B C : Type 0} → (f : B → C) (g : A → B) (xs : List A) → map f (map g xs) ≡ map (λ x. f (g x)) xs
map-map f g [] = refl
map-map f g (x ∷ xs) = ap (λ ys. f (g x) ∷ ys) (map-map f g xs)

pub row_of-object : (columns : List Column) (d : Data) → is_some (as_object d) ≡ true → row_of columns d ≡ cells_of columns d
row_of-object columns null h = absurd (let no : ⊥ = cc in no)
row_of-object columns (boolean _) h = absurd (let no : ⊥ = cc in no)
row_of-object columns (number _) h = absurd (let no : ⊥ = cc in no)
row_of-object columns (string _) h = absurd (let no : ⊥ = cc in no)
row_of-object columns (array _) h = absurd (let no : ⊥ = cc in no)
row_of-object columns (object _) h = refl

-- the cells by the descriptions of the columns
pub cells_of-described : (descs : List ColumnDesc) (columns : List Column) (d : Data) → map column descs ≡ columns → is_some (as_object d) ≡ true → all_there (map (λ (desc : ColumnDesc). cell_of desc.affinity (get desc.name.now d)) descs) ≡ row_of columns d
cells_of-described descs columns d same is =
    ap all_there (sym (map-map (λ (c : Column). cell_of c.affinity (get c.name d)) column descs)) ∙ ap (λ cs. cells_of cs d) same ∙ sym (row_of-object columns d is)

-- a fault of one value is a fault of all
pub fault_of_all : {X Y : Type 0} → (found : Option X) (all : Option Y) (e : JsonLineError) → Reads found (Err e) → (found ≡ None → all ≡ None) → Reads all (Err e)
fault_of_all found all fault.BadLine is none = none is
fault_of_all found all fault.NoMemory is none = tt

-- the fault that was passed on
pub passed_on : {Y : Type 0} → (all : Option Y) (e : JsonLineError) (r : Result Y JsonLineError) → IsErrAnd r (λ passed. passed ≡ e) → Reads all (Err e) → Reads all r
passed_on all e (Ok y) h reads = absurd h
passed_on {Y = Y} all e (Err passed) h reads = subst (λ (f : JsonLineError). Reads {X = Y} all (Err f)) (sym h) reads

-- the rows of an array of values
pub rows_found : (columns : List Column) (line found_array : Data) (items : List Value) → get (codes "rows") line ≡ Some found_array → as_array found_array ≡ Some (items_view items) → all_there (map (λ (item : Value). row_of columns (view item)) items) ≡ rows_of columns line
rows_found columns line found_array items at is =
    let found : option_and_then as_array (get (codes "rows") line) ≡ Some (items_view items) = ap (λ o. option_and_then as_array o) at ∙ is in
    ap all_there (sym (map-map (row_of columns) view items)) ∙ ap (λ ds. all_there (map (row_of columns) ds)) (sym (list_of-items_of (map view items)))
    ∙ ap (λ o. option_and_then (λ rows. all_there (map (row_of columns) (list_of rows))) o) (sym found)
