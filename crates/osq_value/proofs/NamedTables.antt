-- Where a name is found among the tables.
use Rattle.std.proofs.Common.{◌≡◌, ℕ, ◌<◌, ◌≤◌, Bool, true, false, List, length, map, get_or, refl, ap, ◌∙◌, [], arith, cond, Option, Some, None, slice_get}
use Rattle.std.specs.Option.{option_map}
use Rattle.std.specs.List.{position_or_len}
use Rattle.std.specs.Char.{to_ascii_lowercase}
use Rattle.std.specs.Str.{str_eq_ignore_ascii_case}
use Rattle.std.proofs.lemmas.Bool.{false_from_ne_true, lt-ltb, le-ltb}
use Rattle.std.proofs.lemmas.List.Sums.{position_or_len_is}
use Rattle.std.proofs.lemmas.Option.{slice_get-get_or, get_or_from_slice_get, slice_get_within}
use Rattle.std.proofs.lemmas.Slice.Eq.{bytes_eq-Decides}
use Rattle.std.proofs.Math.Dec.{ltb}
use Rattle.osq_value.specs.declared.catalogue.TableKind.TheVariants.{Computed}
use Rattle.osq_value.specs.Catalogue.{Table, Heading, tables, heading_of, heading_at, id_of}

-- the table of that number has another name, or there is none
abbrev pub Misses : List ℕ → ℕ → Type 0
Misses name id = (heading : Heading) → heading_at id ≡ Some heading → map to_ascii_lowercase heading.name ≡ map to_ascii_lowercase name → ⊥

abbrev is_named : List ℕ → Table → Bool
is_named name known = str_eq_ignore_ascii_case known.name name

misses_is : (name : List ℕ) (id : ℕ) (d : Table) → id < length tables → Misses name id → is_named name (get_or tables id d) ≡ false
unfolding heading_at
misses_is name id d within misses =
    let known = get_or tables id d in
    false_from_ne_true _ (λ same. misses (heading_of known) (ap (option_map heading_of) (slice_get-get_or tables id d within)) ((bytes_eq-Decides _ _).0 same))

position_at : (name : List ℕ) (id : ℕ) (d : Table) → id < length tables → is_named name (get_or tables id d) ≡ true → ((k : ℕ) → k < id → Misses name k) → id_of name ≡ Some id
unfolding id_of
position_at name id d within is misses =
    let at : position_or_len (is_named name) tables ≡ id =
    position_or_len_is (is_named name) tables id d (omega arith)
    (λ k before. let h : k < length tables = omega arith in misses_is name k d h (misses k before)) (λ _. is) in
    ap (λ n. cond (ltb n (length tables)) (Some n) None) at ∙ ap (λ b. cond b (Some id) None) (lt-ltb id (length tables) within)

length-tables : length tables ≡ 15
unfolding tables
length-tables = refl

some_table : (id : ℕ) (heading : Heading) → heading_at id ≡ Some heading → (table : Table) × (slice_get tables id ≡ Some table) × (heading_of table ≡ heading)
unfolding heading_at
some_table id heading = by_table (slice_get tables id) refl where
  by_table : (at : Option Table) → slice_get tables id ≡ at → option_map heading_of at ≡ Some heading → (table : Table) × (slice_get tables id ≡ Some table) × (heading_of table ≡ heading)
  by_table None e h = absurd (let no : ⊥ = cc in no)
  by_table (Some table) e h = (table, e, (cc))

-- the first table of that name
pub id_of-found : (name : List ℕ) (id : ℕ) (heading : Heading) → heading_at id ≡ Some heading → map to_ascii_lowercase heading.name ≡ map to_ascii_lowercase name → ((k : ℕ) → k < id → Misses name k) → id_of name ≡ Some id
id_of-found name id heading at same misses =
    let found = some_table id heading at in
    let within = slice_get_within tables id found.0 found.1 in
    let is = get_or_from_slice_get tables id found.0 found.0 found.1 in
    position_at name id found.0 within (ap (is_named name) is ∙ (bytes_eq-Decides _ _).1 (ap (λ (h : Heading). map to_ascii_lowercase h.name) found.2 ∙ same)) misses

no_table : Table
no_table = record { name = []; kind = Computed; columns = [] }

-- no table has that name
pub id_of-none : (name : List ℕ) → ((k : ℕ) → k < 15 → Misses name k) → id_of name ≡ None
unfolding id_of
id_of-none name misses =
    let all = length-tables in
    let at : position_or_len (is_named name) tables ≡ length tables =
    position_or_len_is (is_named name) tables (length tables) no_table (omega arith)
    (λ k before. let h : k < 15 = omega arith in misses_is name k no_table before (misses k h)) (λ h. absurd (let no : ⊥ = omega arith in no)) in
    let place = position_or_len (is_named name) tables in
    let past : length tables ≤ place = omega arith in
    ap (λ b. cond b (Some place) None) (le-ltb place (length tables) past)
