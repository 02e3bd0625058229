-- What the rows of clap's matches hold of the options.
use Rattle.std.proofs.Common.{◌≡◌, ◌∙◌, ℕ, ◌&&◌, ◌||◌, not, Bool, true, false, cond, List, [], ◌∷◌, ◌++◌, Option, Some, None, refl, ap, sym, subst, map, unwrap_or, append_assoc, append-nil}
use Rattle.std.specs.Prelude.{bytes_eq, codes, filter, is_some, option_and_then, slice_get}
use Rattle.std.specs.List.{find, list_all}
use Rattle.std.specs.Option.{option_map, option_map_or}
use Rattle.std.proofs.lemmas.Slice.Eq.{bytes_eq-Decides}
use Rattle.clap.specs.Facts.{explicit_source}
use Rattle.clap.specs.Values.{read_as}
use Rattle.clap.specs.Takes.{is_given}
use Rattle.clap.specs.Walk.{Row, Rule, Text, all_of, has_row, more_values, one_of, stronger, used, with_values, without}
use Rattle.clap.specs.declared.builder.value_parser.Reading.{Reading}
use Rattle.clap.specs.declared.builder.value_parser.Reading.TheVariants.{AsWritten}
use Rattle.clap.specs.declared.parser.matches.ValueSource.{ValueSource}
use Rattle.clap.specs.declared.parser.matches.ValueSource.TheVariants.{DefaultValue, CommandLine}
use Rattle.program_words.specs.declared.name.Name.{Name}
use Rattle.program_words.specs.declared.name.Name.TheVariants.{Other}
use Rattle.program_words.specs.declared.name.Takes.{Takes}
use Rattle.program_words.specs.declared.name.Takes.TheVariants.{Nothing, AnyText, ShortText, Number, Unknown}
use Rattle.program_words.specs.Names.{is_source, same_name, takes}
use Rattle.program_words.specs.Given.{Given, fits_none, is_named, stands, takes_word}
use Rattle.program_words.specs.Reading.{has_form, has_form_by, stand_once, values_named}
use Rattle.program_words.specs.Rules.{action_by, spelling}
use Rattle.program_words.proofs.Conditions.{first, second, not_true}
use Rattle.program_words.proofs.Spelled.{built, name_of-spelling, one_name, same_name-sym, spelled}
use Rattle.program_words.proofs.Walks.{passes, rows_from}
use Rattle.program_words.proofs.Turns.{Ruled, acting, may_stand, none_form, source_takes, texts_of}

-- ---- the row of an id
abbrev pub cell : Text → List Row → Option Row
cell id rows = find (λ r. bytes_eq r.id id) rows

-- a row with more values, or the first of its id
abbrev pub grown : Text → Reading → ValueSource → List Text → Option Row → Row
grown id how s values None = record { id = id; values = values; count = None; source = Some s; reading = how }
grown id how s values (Some r) = record r { values = r.values ++ values; source = Some (stronger r.source s) }

same_text : (a b : Text) → bytes_eq a b ≡ true → a ≡ b
same_text a b is = (bytes_eq-Decides a b).0 is

other_text : (a b x : Text) → bytes_eq a b ≡ false → bytes_eq a x ≡ true → bytes_eq b x ≡ false
other_text a b x apart is = go (bytes_eq b x) refl
  where
    go : (h : Bool) → bytes_eq b x ≡ h → h ≡ false
    go true e =
        let bad : true ≡ false = sym ((bytes_eq-Decides a b).1 (same_text a x is ∙ sym (same_text b x e))) ∙ apart in
        absurd cc
    go false e = refl

pub cell-with_values : (x id : Text) (how : Reading) (s : ValueSource) (values : List Text) (rows : List Row)
    → cell x (with_values id how s values rows) ≡ cond (bytes_eq id x) (Some (grown id how s values (cell x rows))) (cell x rows)
cell-with_values x id how s values [] = refl
cell-with_values x id how s values (r ∷ rs) = go (bytes_eq r.id id) refl (cell-with_values x id how s values rs)
  where
    go : (b : Bool) → bytes_eq r.id id ≡ b → cell x (with_values id how s values rs) ≡ cond (bytes_eq id x) (Some (grown id how s values (cell x rs))) (cell x rs)
        → cell x (cond b (more_values s values r ++ rs) (r ∷ with_values id how s values rs)) ≡ cond (bytes_eq id x) (Some (grown id how s values (cell x (r ∷ rs)))) (cell x (r ∷ rs))
    go true is rest =
        let same : bytes_eq r.id x ≡ bytes_eq id x = ap (λ t. bytes_eq t x) (same_text r.id id is) in
        here (bytes_eq r.id x) (bytes_eq id x) same
      where
        here : (a b : Bool) → a ≡ b → cond a (Some (record r { values = r.values ++ values; source = Some (stronger r.source s) })) (cell x rs)
            ≡ cond b (Some (grown id how s values (cond a (Some r) (cell x rs)))) (cond a (Some r) (cell x rs))
        here true true e = refl
        here true false e = absurd cc
        here false true e = absurd cc
        here false false e = refl
    go false is rest = there (bytes_eq r.id x) refl
      where
        there : (a : Bool) → bytes_eq r.id x ≡ a → cond a (Some r) (cell x (with_values id how s values rs))
            ≡ cond (bytes_eq id x) (Some (grown id how s values (cond a (Some r) (cell x rs)))) (cond a (Some r) (cell x rs))
        there true e = ap (λ b. cond b (Some (grown id how s values (Some r))) (Some r)) (sym (other_text r.id id x is e))
        there false e = rest

pub has_row-cell : (x : Text) (rows : List Row) → has_row x rows ≡ is_some (cell x rows)
has_row-cell x [] = refl
has_row-cell x (r ∷ rs) = go (bytes_eq r.id x) (has_row-cell x rs)
  where
    go : (b : Bool) → has_row x rs ≡ is_some (cell x rs) → b || has_row x rs ≡ is_some (cond b (Some r) (cell x rs))
    go true rest = refl
    go false rest = rest

-- without a row of the id nothing goes
nothing_goes : (id : Text) (rows : List Row) → has_row id rows ≡ false → without id rows ≡ rows
nothing_goes id [] none = refl
nothing_goes id (r ∷ rs) none = go (bytes_eq r.id id) none (nothing_goes id rs)
  where
    go : (b : Bool) → b || has_row id rs ≡ false → (has_row id rs ≡ false → without id rs ≡ rs) → cond b rs (r ∷ without id rs) ≡ r ∷ rs
    go true e rest = absurd cc
    go false e rest = ap (λ l. r ∷ l) (rest e)

-- ---- one use
abbrev pub vals : Option (List ℕ) → List (List ℕ)
vals None = codes "true" ∷ []
vals (Some text) = text ∷ []

abbrev pub put : Text → List Text → List Row → List Row
put id values rows = with_values id AsWritten CommandLine values rows

kept : (text : List ℕ) (values : List Text) (rows : List Row) → may_stand false (has_row text rows) ≡ true → put text values (without text rows) ≡ put text values rows
kept text values rows once = ap (put text values) (nothing_goes text rows (not_true (has_row text rows) once))

used_by : (must : Bool) (text : List ℕ) (kind : Takes) (source : Bool) (given : Option (List ℕ)) (rows : List Row) → has_form_by kind given ≡ true → (source ≡ true → takes_word kind ≡ true)
    → may_stand source (has_row text rows) ≡ true → used (acting must text (action_by kind source)) (texts_of given) rows ≡ put text (vals given) rows
used_by must text Nothing true None rows form word once = absurd (let bad : false ≡ true = word refl in cc)
used_by must text Nothing false None rows form word once = kept text (vals None) rows once
used_by must text Nothing source (Some given) rows form word once = absurd cc
used_by must text AnyText source None rows form word once = absurd cc
used_by must text AnyText true (Some given) rows form word once = refl
used_by must text AnyText false (Some given) rows form word once = kept text (vals (Some given)) rows once
used_by must text ShortText source None rows form word once = absurd cc
used_by must text ShortText true (Some given) rows form word once = refl
used_by must text ShortText false (Some given) rows form word once = kept text (vals (Some given)) rows once
used_by must text (Number least most) source None rows form word once = absurd cc
used_by must text (Number least most) true (Some given) rows form word once = refl
used_by must text (Number least most) false (Some given) rows form word once = kept text (vals (Some given)) rows once
used_by must text Unknown source None rows form word once = absurd cc
used_by must text Unknown source (Some given) rows form word once = absurd cc

abbrev pub free : List Row → Given → Bool
free rows g = may_stand (is_source g.name) (has_row (spelling g.name) rows)

abbrev pub put_of : Given → List Row → List Row
put_of g rows = put (spelling g.name) (vals g.value) rows

pub row_put : (must : Bool) (g : Given) (rows : List Row) → has_form g ≡ true → free rows g ≡ true → used (built must g.name) (texts_of g.value) rows ≡ put_of g rows
row_put must g rows form once = used_by must (spelling g.name) (takes g.name) (is_source g.name) g.value rows form (source_takes g.name) once

-- ---- the row of a name
abbrev pub is_real : Name → Bool
is_real n = not (same_name n Other)

pub real_so : (n : Name) → is_real n ≡ true → same_name n Other ≡ false
real_so n e = not_true (same_name n Other) e

pub spells_one : (m n : Name) → is_real m ≡ true → is_real n ≡ true → bytes_eq (spelling m) (spelling n) ≡ same_name n m
spells_one m n real_m real_n =
    spelled m (spelling n) (real_so m real_m) ∙ ap (same_name m) (name_of-spelling n (real_so n real_n)) ∙ same_name-sym m n

abbrev pub cell_of : Name → List Row → Option Row
cell_of n rows = cell (spelling n) rows

cell-put : (n : Name) (g : Given) (rows : List Row) → is_real n ≡ true → is_real g.name ≡ true
    → cell_of n (put_of g rows) ≡ cond (same_name n g.name) (Some (grown (spelling g.name) AsWritten CommandLine (vals g.value) (cell_of n rows))) (cell_of n rows)
cell-put n g rows real_n real_g =
    cell-with_values (spelling n) (spelling g.name) AsWritten CommandLine (vals g.value) rows
    ∙ ap (λ b. cond b (Some (grown (spelling g.name) AsWritten CommandLine (vals g.value) (cell_of n rows))) (cell_of n rows)) (spells_one g.name n real_g real_n)

-- the row stands
there-put : (n : Name) (g : Given) (rows : List Row) → is_real n ≡ true → is_real g.name ≡ true → has_row (spelling n) (put_of g rows) ≡ same_name n g.name || has_row (spelling n) rows
there-put n g rows real_n real_g =
    has_row-cell (spelling n) (put_of g rows) ∙ ap is_some (cell-put n g rows real_n real_g) ∙ go (same_name n g.name) ∙ ap (λ b. same_name n g.name || b) (sym (has_row-cell (spelling n) rows))
  where
    go : (b : Bool) → is_some (cond b (Some (grown (spelling g.name) AsWritten CommandLine (vals g.value) (cell_of n rows))) (cell_of n rows)) ≡ b || is_some (cell_of n rows)
    go true = refl
    go false = refl

-- its values
abbrev pub values_at : Name → List Row → List Text
values_at n rows = unwrap_or (all_of (spelling n) rows) []

abbrev pub cell_values : Option Row → List Text
cell_values o = unwrap_or (option_map (λ r. r.values) o) []

values-put : (n : Name) (g : Given) (rows : List Row) → is_real n ≡ true → is_real g.name ≡ true → values_at n (put_of g rows) ≡ values_at n rows ++ cond (is_named n g) (vals g.value) []
unfolding is_named
values-put n g rows real_n real_g = ap cell_values (cell-put n g rows real_n real_g) ∙ go (same_name n g.name) (cell_of n rows)
  where
    go : (b : Bool) (o : Option Row) → cell_values (cond b (Some (grown (spelling g.name) AsWritten CommandLine (vals g.value) o)) o) ≡ cell_values o ++ cond b (vals g.value) []
    go true None = refl
    go true (Some r) = refl
    go false o = sym (append-nil (cell_values o))

-- whether words gave it
abbrev pub cell_given : Option Row → Bool
cell_given o = option_map_or (λ r. explicit_source r.source) o false

by_words : (s : Option ValueSource) → explicit_source (Some (stronger s CommandLine)) ≡ true
by_words None = refl
by_words (Some DefaultValue) = refl
by_words (Some CommandLine) = refl

given-put : (n : Name) (g : Given) (rows : List Row) → is_real n ≡ true → is_real g.name ≡ true → is_given (spelling n) (put_of g rows) ≡ is_named n g || is_given (spelling n) rows
unfolding is_named
given-put n g rows real_n real_g = ap cell_given (cell-put n g rows real_n real_g) ∙ go (same_name n g.name) (cell_of n rows)
  where
    go : (b : Bool) (o : Option Row) → cell_given (cond b (Some (grown (spelling g.name) AsWritten CommandLine (vals g.value) o)) o) ≡ b || cell_given o
    go true None = refl
    go true (Some r) = by_words r.source
    go false o = refl

-- its texts are read as they are written
abbrev is_as_written : Reading → Bool
is_as_written AsWritten = true
is_as_written _ = false

abbrev pub cell_written : Option Row → Bool
cell_written o = option_map_or (λ r. is_as_written r.reading) o true

written-put : (n : Name) (g : Given) (rows : List Row) → is_real n ≡ true → is_real g.name ≡ true → cell_written (cell_of n rows) ≡ true → cell_written (cell_of n (put_of g rows)) ≡ true
written-put n g rows real_n real_g written = ap cell_written (cell-put n g rows real_n real_g) ∙ go (same_name n g.name) (cell_of n rows) written
  where
    go : (b : Bool) (o : Option Row) → cell_written o ≡ true → cell_written (cond b (Some (grown (spelling g.name) AsWritten CommandLine (vals g.value) o)) o) ≡ true
    go true None e = refl
    go true (Some r) e = e
    go false o e = e

as_written : (how : Reading) (text : Text) → is_as_written how ≡ true → read_as how text ≡ text
as_written AsWritten text e = refl
as_written _ text e = absurd cc

first_read : (how : Reading) (o : Option Text) → is_as_written how ≡ true → option_map (read_as how) o ≡ o
first_read how None e = refl
first_read how (Some text) e = ap Some (as_written how text e)

abbrev pub cell_text : Option Row → Option Text
cell_text o = option_and_then (λ r. option_map (read_as r.reading) (slice_get r.values 0)) o

cell_first : (o : Option Row) → cell_written o ≡ true → cell_text o ≡ slice_get (cell_values o) 0
cell_first None e = refl
cell_first (Some r) e = first_read r.reading (slice_get r.values 0) e

pub one_first : (n : Name) (rows : List Row) → cell_written (cell_of n rows) ≡ true → one_of (spelling n) rows ≡ slice_get (values_at n rows) 0
one_first n rows e = cell_first (cell_of n rows) e

-- ---- the values of the options of a name
abbrev pub vals_named : Name → List Given → List Text
vals_named n [] = []
vals_named n (g ∷ gs) = cond (is_named n g) (vals g.value) [] ++ vals_named n gs

valued : (kind : Takes) (value : Option (List ℕ)) → takes_word kind ≡ true → has_form_by kind value ≡ true → vals value ≡ unwrap_or value [] ∷ []
valued kind None word form = absurd (none_form kind word form)
valued kind (Some text) word form = refl

abbrev pub all_formed : List Given → Bool
all_formed gs = list_all has_form gs

pub vals_valued : (n : Name) (gs : List Given) → takes_word (takes n) ≡ true → all_formed gs ≡ true → vals_named n gs ≡ values_named n gs
unfolding is_named
vals_valued n [] word formed = refl
vals_valued n (g ∷ gs) word formed = go (same_name n g.name) refl (vals_valued n gs word (second (has_form g) _ formed))
  where
    go : (b : Bool) → same_name n g.name ≡ b → vals_named n gs ≡ values_named n gs
        → cond b (vals g.value) [] ++ vals_named n gs ≡ map (λ h. unwrap_or h.value []) (cond b (g ∷ filter (is_named n) gs) (filter (is_named n) gs))
    go true is rest =
        let same : n ≡ g.name = one_name n g.name is in
        let one = valued (takes g.name) g.value (subst (λ m. takes_word (takes m) ≡ true) same word) (first (has_form g) _ formed) in
        (λ i. one i ++ rest i)
    go false is rest = rest

flag_value : (kind : Takes) (value : Option (List ℕ)) → fits_none kind ≡ true → has_form_by kind value ≡ true → vals value ≡ codes "true" ∷ []
flag_value kind None flag form = refl
flag_value kind (Some text) flag form = absurd (none_form kind form flag)

pub vals_flag : (n : Name) (gs : List Given) → fits_none (takes n) ≡ true → all_formed gs ≡ true → unwrap_or (slice_get (vals_named n gs) 0) (codes "false") ≡ cond (stands n gs) (codes "true") (codes "false")
unfolding is_named stands
vals_flag n [] flag formed = refl
vals_flag n (g ∷ gs) flag formed = go (same_name n g.name) refl (vals_flag n gs flag (second (has_form g) _ formed))
  where
    go : (b : Bool) → same_name n g.name ≡ b → unwrap_or (slice_get (vals_named n gs) 0) (codes "false") ≡ cond (stands n gs) (codes "true") (codes "false")
        → unwrap_or (slice_get (cond b (vals g.value) [] ++ vals_named n gs) 0) (codes "false") ≡ cond (b || stands n gs) (codes "true") (codes "false")
    go true is rest =
        let same : n ≡ g.name = one_name n g.name is in
        let one = flag_value (takes g.name) g.value (subst (λ m. fits_none (takes m) ≡ true) same flag) (first (has_form g) _ formed) in
        ap (λ v. unwrap_or (slice_get (v ++ vals_named n gs) 0) (codes "false")) one
    go false is rest = rest

-- ---- the options one by one
or_assoc : (a b d : Bool) → a || (b || d) ≡ b || a || d
or_assoc true true d = refl
or_assoc true false d = refl
or_assoc false true d = refl
or_assoc false false d = refl

may_split : (source same there : Bool) → may_stand source (same || there) ≡ may_stand source same && may_stand source there
may_split true same there = refl
may_split false true there = refl
may_split false false there = refl

pub all-and : {X : Type 0} (p q : X → Bool) (xs : List X) → list_all (λ x. p x && q x) xs ≡ list_all p xs && list_all q xs
all-and p q [] = refl
all-and p q (x ∷ xs) = ap (λ b. p x && q x && b) (all-and p q xs) ∙ go (p x) (q x) (list_all p xs) (list_all q xs)
  where
    go : (a b d e : Bool) → a && b && (d && e) ≡ a && d && (b && e)
    go true true d e = refl
    go true false true e = refl
    go true false false e = refl
    go false b d e = refl

-- the option isn't a second one like g
abbrev apart : Given → Given → Bool
apart g h = may_stand (is_source h.name) (same_name h.name g.name)

apart_all : (g : Given) (gs : List Given) → list_all (apart g) gs ≡ may_stand (is_source g.name) (stands g.name gs)
unfolding stands is_named
apart_all g [] = go (is_source g.name)
  where
    go : (b : Bool) → true ≡ b || not false
    go true = refl
    go false = refl
apart_all g (h ∷ hs) = go (same_name g.name h.name) refl (apart_all g hs)
  where
    both : (s r : Bool) → may_stand s true && may_stand s r ≡ may_stand s true
    both true r = refl
    both false r = refl

    neither : (s : Bool) → may_stand s false ≡ true
    neither true = refl
    neither false = refl

    go : (b : Bool) → same_name g.name h.name ≡ b → list_all (apart g) hs ≡ may_stand (is_source g.name) (stands g.name hs)
        → apart g h && list_all (apart g) hs ≡ may_stand (is_source g.name) (b || stands g.name hs)
    go true is rest =
        let same : g.name ≡ h.name = one_name g.name h.name is in
        let source : is_source h.name ≡ is_source g.name = ap is_source (sym same) in
        let name : same_name h.name g.name ≡ true = same_name-sym h.name g.name ∙ is in
        (λ i. may_stand (source i) (name i) && rest i) ∙ both (is_source g.name) (stands g.name hs)
    go false is rest =
        let name : same_name h.name g.name ≡ false = same_name-sym h.name g.name ∙ is in
        (λ i. may_stand (is_source h.name) (name i) && rest i) ∙ ap (λ b. b && may_stand (is_source g.name) (stands g.name hs)) (neither (is_source h.name))

module _ (c : List Rule) (known must : Name → Bool) (ruled : Ruled c known must) where
  abbrev pub is_of : Given → Bool
  is_of g = known g.name && has_form g

  abbrev Passes : List Given → List Row → Type 0
  Passes gs rows = passes c known must ruled gs rows ≡ true

  real_of : (g : Given) → is_of g ≡ true → is_real g.name ≡ true
  real_of g is = ap not (ruled.real g.name (first (known g.name) _ is))

  abbrev made : List Given → List Row → List Row
  made gs rows = rows_from c known must ruled gs rows

  -- what a row holds behind the options, where each of them leaves something of it behind
  abbrev Step : Given → List Row → Type 0
  Step g rows = (is_of g ≡ true) × (free rows g ≡ true) × (used (built (must g.name) g.name) (texts_of g.value) rows ≡ put_of g rows)

  step : (g : Given) (gs : List Given) (rows : List Row) → Passes (g ∷ gs) rows → Step g rows × Passes gs (put_of g rows)
  step g gs rows pass =
      let is = first (is_of g) _ pass in
      let rest = second (is_of g) _ pass in
      let once = first (free rows g) _ rest in
      let put_is = row_put (must g.name) g rows (second (known g.name) _ is) once in
      ((is, once, put_is), ap (λ r. passes c known must ruled gs r) (sym put_is) ∙ second (free rows g) _ rest)

  pub values_made : (n : Name) (gs : List Given) (rows : List Row) → is_real n ≡ true → Passes gs rows → values_at n (made gs rows) ≡ values_at n rows ++ vals_named n gs
  values_made n [] rows real pass = sym (append-nil (values_at n rows))
  values_made n (g ∷ gs) rows real pass =
      let ((is, once, put_is), rest) = step g gs rows pass in
      ap (λ r. values_at n (made gs r)) put_is ∙ values_made n gs (put_of g rows) real rest
      ∙ ap (λ v. v ++ vals_named n gs) (values-put n g rows real (real_of g is)) ∙ append_assoc (values_at n rows) (cond (is_named n g) (vals g.value) []) (vals_named n gs)

  pub written_made : (n : Name) (gs : List Given) (rows : List Row) → is_real n ≡ true → Passes gs rows → cell_written (cell_of n rows) ≡ true → cell_written (cell_of n (made gs rows)) ≡ true
  written_made n [] rows real pass written = written
  written_made n (g ∷ gs) rows real pass written =
      let ((is, once, put_is), rest) = step g gs rows pass in
      ap (λ r. cell_written (cell_of n (made gs r))) put_is ∙ written_made n gs (put_of g rows) real rest (written-put n g rows real (real_of g is) written)

  pub given_made : (n : Name) (gs : List Given) (rows : List Row) → is_real n ≡ true → Passes gs rows → is_given (spelling n) (made gs rows) ≡ stands n gs || is_given (spelling n) rows
  unfolding stands
  given_made n [] rows real pass = refl
  given_made n (g ∷ gs) rows real pass =
      let ((is, once, put_is), rest) = step g gs rows pass in
      ap (λ r. is_given (spelling n) (made gs r)) put_is ∙ given_made n gs (put_of g rows) real rest
      ∙ ap (λ b. stands n gs || b) (given-put n g rows real (real_of g is)) ∙ or_assoc (stands n gs) (is_named n g) (is_given (spelling n) rows)

  -- ---- what passes, as what the options are
  abbrev all_of_command : List Given → Bool
  all_of_command gs = list_all is_of gs

  free_split : (g h : Given) (rows : List Row) → is_of g ≡ true → is_of h ≡ true → free (put_of g rows) h ≡ apart g h && free rows h
  free_split g h rows is_g is_h =
      ap (may_stand (is_source h.name)) (there-put h.name g rows (real_of h is_h) (real_of g is_g))
      ∙ may_split (is_source h.name) (same_name h.name g.name) (has_row (spelling h.name) rows)

  free_all : (g : Given) (hs : List Given) (rows : List Row) → is_of g ≡ true → all_of_command hs ≡ true → list_all (free (put_of g rows)) hs ≡ list_all (λ h. apart g h && free rows h) hs
  free_all g [] rows is all = refl
  free_all g (h ∷ hs) rows is all =
      let here = free_split g h rows is (first (is_of h) _ all) in
      let rest = free_all g hs rows is (second (is_of h) _ all) in
      (λ i. here i && rest i)

  free_is : (g : Given) (hs : List Given) (rows : List Row) → is_of g ≡ true → all_of_command hs ≡ true
      → list_all (free (put_of g rows)) hs ≡ may_stand (is_source g.name) (stands g.name hs) && list_all (free rows) hs
  free_is g hs rows is all = free_all g hs rows is all ∙ all-and (apart g) (free rows) hs ∙ ap (λ b. b && list_all (free rows) hs) (apart_all g hs)

  -- all are of the command, none that may stand once stands twice, and none of those in the rows stands again
  abbrev Apart : List Given → List Row → Type 0
  Apart gs rows = (all_of_command gs ≡ true) × (stand_once gs ≡ true) × (list_all (free rows) gs ≡ true)

  pub passes_apart : (gs : List Given) (rows : List Row) → Passes gs rows → Apart gs rows
  unfolding stand_once
  passes_apart [] rows pass = (refl, refl, refl)
  passes_apart (g ∷ gs) rows pass =
      let ((is, once, put_is), rest) = step g gs rows pass in
      let (all, alone, frees) = passes_apart gs (put_of g rows) rest in
      let two = sym (free_is g gs rows is all) ∙ frees in
      let own = first (may_stand (is_source g.name) (stands g.name gs)) _ two in
      let old = second (may_stand (is_source g.name) (stands g.name gs)) _ two in
      ((λ i. is i && all i), (λ i. own i && alone i), (λ i. once i && old i))

  pub apart_passes : (gs : List Given) (rows : List Row) → Apart gs rows → Passes gs rows
  unfolding stand_once
  apart_passes [] rows are = refl
  apart_passes (g ∷ gs) rows (all, alone, frees) =
      let is = first (is_of g) _ all in
      let all_behind = second (is_of g) _ all in
      let once = first (free rows g) _ frees in
      let own = first (may_stand (is_source g.name) (stands g.name gs)) _ alone in
      let alone_behind = second (may_stand (is_source g.name) (stands g.name gs)) _ alone in
      let old = second (free rows g) _ frees in
      let put_is = row_put (must g.name) g rows (second (known g.name) _ is) once in
      let rest = apart_passes gs (put_of g rows) (all_behind, alone_behind, free_is g gs rows is all_behind ∙ (λ i. own i && old i)) in
      (λ i. is i && (once i && passes c known must ruled gs (put_is i))) ∙ rest
