-- What is read of the matches, where they tell of the options.
use Rattle.std.proofs.Common.{◌≡◌, ◌∙◌, ℕ, ◌&&◌, ◌||◌, not, Bool, true, false, cond, List, [], ◌∷◌, ◌++◌, Option, Some, None, Result, Err, refl, ap, sym, subst, map, drop, unwrap_or}
use Rattle.std.specs.Result.{IsErrAnd}
use Rattle.std.specs.Prelude.{bytes_eq, codes, filter, option_and_then, slice_get}
use Rattle.std.specs.List.{find, list_all, list_any}
use Rattle.std.specs.Option.{option_map}
use Rattle.std.specs.Borrow.{Bor}
use Rattle.std.proofs.lemmas.List.{map-append}
use Rattle.osq_value.specs.declared.source.SourceKind.{SourceKind}
use Rattle.osq_value.specs.declared.source.SourceKind.TheVariants.{Audit as AuditLog, Changes as ChangeList, Tables as TableLines}
use Rattle.osq_value.specs.declared.source.SourceName.{SourceName}
use Rattle.clap.specs.Walk.{Row, Text, first_of}
use Rattle.program_words.specs.declared.command.CommandName.{CommandName}
use Rattle.program_words.specs.declared.name.Name.{Name}
use Rattle.program_words.specs.declared.name.Name.TheVariants.{Audit, Changes, Tables}
use Rattle.program_words.specs.declared.name.Takes.{Takes}
use Rattle.program_words.specs.declared.name.Takes.TheVariants.{Nothing, AnyText, ShortText, Number, Unknown}
use Rattle.clap.specs.Faults.{fault_of}
use Rattle.program_words.specs.Names.{is_source, same_name, takes}
use Rattle.program_words.specs.Given.{Given, fits, fits_value, is_named, none_repeats, options_of, repeats, same_value, stands, takes_word, value_of}
use Rattle.program_words.specs.Commands.{are_options, has_option, has_refused, has_required, is_right, optional, required, sources_named, sources_of}
use Rattle.program_words.specs.Reading.{Tells, all_fit, are_spelled, has_form, has_form_by, is_spelled, paths_named, stand_once, values_fit, values_named}
use Rattle.program_words.specs.Rules.{app_for, spelling}
use Rattle.program_words.proofs.Conditions.{first, second}
use Rattle.program_words.proofs.Matched.{formed_all, words_taken}
use Rattle.program_words.proofs.Rows.{all-and, all_formed}
use Rattle.program_words.proofs.Spelled.{any_name, one_name, same_name-sym}
use Rattle.program_words.proofs.Turns.{none_form}
use Rattle.program_words.proofs.Within.{parts_of}

-- the options have their values
pub told_forms : (command : CommandName) (rows : List Row) (gs : List Given) → Tells command rows gs → all_formed gs ≡ true
told_forms command rows gs told =
    formed_all command gs (first (list_all (is_spelled command) gs) _ (first (list_all (is_spelled command) gs && has_required command gs) _ told.spelled))

valued : (kind : Takes) (value : Option (List ℕ)) → takes_word kind ≡ true → has_form_by kind value ≡ true → Some (unwrap_or value []) ≡ value
valued kind None word form = absurd (none_form kind word form)
valued kind (Some text) word form = refl

first_named : (n : Name) (gs : List Given) → takes_word (takes n) ≡ true → all_formed gs ≡ true → slice_get (values_named n gs) 0 ≡ value_of n gs
unfolding is_named value_of
first_named n [] word formed = refl
first_named n (g ∷ gs) word formed = go (same_name n g.name) refl (first_named n gs word (second (has_form g) _ formed))
  where
    go : (b : Bool) → same_name n g.name ≡ b → slice_get (values_named n gs) 0 ≡ option_and_then (λ h. h.value) (find (is_named n) gs)
        → slice_get (map (λ h. unwrap_or h.value []) (cond b (g ∷ filter (is_named n) gs) (filter (is_named n) gs))) 0 ≡ option_and_then (λ h. h.value) (cond b (Some g) (find (is_named n) gs))
    go true is rest = valued (takes g.name) g.value (subst (λ m. takes_word (takes m) ≡ true) (one_name n g.name is) word) (first (has_form g) _ formed)
    go false is rest = rest

first_all : (o : Option Row) → option_and_then (λ r. slice_get r.values 0) o ≡ slice_get (unwrap_or (option_map (λ r. r.values) o) []) 0
first_all None = refl
first_all (Some r) = refl

pub value_told : (command : CommandName) (rows : List Row) (gs : List Given) (n : Name) → Tells command rows gs → takes_word (takes n) ≡ true → first_of (spelling n) rows ≡ value_of n gs
value_told command rows gs n told word =
    first_all (find (λ r. bytes_eq r.id (spelling n)) rows) ∙ ap (λ v. slice_get v 0) (told.values n word) ∙ first_named n gs word (told_forms command rows gs told)

true_or_false : codes "false" ≡ codes "true" → ⊥
true_or_false e = let bad : bytes_eq (codes "false") (codes "false") ≡ false = ap (bytes_eq (codes "false")) e in cc

-- what `get_flag` gives
pub flag_read : (flag : Bool) (o : Option Text) (stands : Bool) → (o ≡ None → flag ≡ false) → (o ≡ Some (codes "true") → flag ≡ true) → (o ≡ Some (codes "false") → flag ≡ false)
    → unwrap_or o (codes "false") ≡ cond stands (codes "true") (codes "false") → flag ≡ stands
flag_read flag None true none set unset is = absurd (true_or_false is)
flag_read flag None false none set unset is = none refl
flag_read flag (Some text) true none set unset is = set (ap Some is)
flag_read flag (Some text) false none set unset is = unset (ap Some is)

-- ---- options that aren't right
form_of : (kind : Takes) (value : Option (List ℕ)) → fits kind value ≡ true → has_form_by kind value ≡ true
unfolding fits
form_of kind None fine = fine
form_of Nothing (Some text) fine = absurd cc
form_of AnyText (Some text) fine = refl
form_of ShortText (Some text) fine = refl
form_of (Number least most) (Some text) fine = refl
form_of Unknown (Some text) fine = absurd cc

right_parts : (command : CommandName) (gs : List Given) → list_all (is_right command) gs ≡ true → (list_all (is_spelled command) gs ≡ true) × (all_fit gs ≡ true)
unfolding is_right
right_parts command [] right = (refl, refl)
right_parts command (g ∷ gs) right =
    let here = first (is_right command g) _ right in
    let fine = second (has_option command g.name) _ here in
    let known = first (has_option command g.name) _ here in
    let form = form_of (takes g.name) g.value fine in
    let rest = right_parts command gs (second (is_right command g) _ right) in
    ((λ i. (known i && form i) && rest.0 i), (λ i. fine i && rest.1 i))

pub parts_right : (command : CommandName) (gs : List Given) → list_all (is_spelled command) gs ≡ true → all_fit gs ≡ true → list_all (is_right command) gs ≡ true
unfolding is_right
parts_right command [] spelled fit = refl
parts_right command (g ∷ gs) spelled fit =
    let known = first (has_option command g.name) _ (first (is_spelled command g) _ spelled) in
    let fine = first (fits (takes g.name) g.value) _ fit in
    let rest = parts_right command gs (second (is_spelled command g) _ spelled) (second (fits (takes g.name) g.value) _ fit) in
    (λ i. (known i && fine i) && rest i)

not_repeated : (source : Bool) (same any : Bool) → not any ≡ true → (source ≡ false → same ≡ true → any ≡ true) → source || not same ≡ true
not_repeated true same any none some = refl
not_repeated false true any none some = absurd (let bad : not true ≡ true = ap not (sym (some refl refl)) ∙ none in cc)
not_repeated false false any none some = refl

any_at : (a b : Bool) → b ≡ true → a || b ≡ true
any_at true b e = refl
any_at false b e = e

any_here : (a b : Bool) → a ≡ true → a || b ≡ true
any_here true b e = refl
any_here false b e = absurd cc

-- an option of the name repeats one that is no source
repeated : (g : Given) (gs : List Given) → is_source g.name ≡ false → stands g.name gs ≡ true → list_any (repeats g) gs ≡ true
unfolding repeats stands is_named
repeated g [] alone some = absurd cc
repeated g (h ∷ hs) alone some = go (same_name g.name h.name) refl some (repeated g hs alone)
  where
    go : (b : Bool) → same_name g.name h.name ≡ b → b || stands g.name hs ≡ true → (stands g.name hs ≡ true → list_any (repeats g) hs ≡ true) → repeats g h || list_any (repeats g) hs ≡ true
    go true is some rest = any_here (repeats g h) _ (ap (λ s. cond s (is_source h.name && same_value g.value h.value) (same_name g.name h.name)) alone ∙ is)
    go false is some rest = any_at (repeats g h) _ (rest some)

pub once_of : (gs : List Given) → none_repeats gs ≡ true → stand_once gs ≡ true
unfolding none_repeats stand_once
once_of [] none = refl
once_of (g ∷ gs) none =
    let here = not_repeated (is_source g.name) (stands g.name gs) (list_any (repeats g) gs) (first (not (list_any (repeats g) gs)) _ none) (λ alone some. repeated g gs alone some) in
    let rest = once_of gs (second (not (list_any (repeats g) gs)) _ none) in
    (λ i. here i && rest i)

pub right_spelled : (command : CommandName) (gs : List Given) → are_options command gs ≡ true → (are_spelled command gs ≡ true) × (all_fit gs ≡ true)
right_spelled command gs are =
    let parts = parts_of command gs are in
    let (spelled, fit) = right_parts command gs parts.0 in
    let have = parts.1 in
    let once = once_of gs parts.3 in
    ((λ i. spelled i && have i && once i), fit)

-- where clap refuses the words, their options aren't right
pub refused_wrong : (command : CommandName) (words : List (List ℕ)) → has_refused words ≡ false → (fault_of (app_for command) words ≡ [] → ⊥) → are_options command (options_of (drop 1 words)) ≡ false
refused_wrong command words clean fault = go (are_options command (options_of (drop 1 words))) refl
  where
    go : (b : Bool) → are_options command (options_of (drop 1 words)) ≡ b → b ≡ false
    go true are =
        let (spelled, fit) = right_spelled command (options_of (drop 1 words)) are in
        absurd (fault (words_taken command words clean spelled fit))
    go false are = refl

-- ---- steps of the code
pub same_error : {X E : Type 0} (r : Result X E) (u e : E) → IsErrAnd r (λ y. y ≡ u) → r ≡ Err e → u ≡ e
same_error r u e h is = sym (subst (λ q. IsErrAnd q (λ y. y ≡ u)) is h)

pub unwrapped : {X Y : Type 0} (f : X → List Y) (o : Option X) (d : X) (want : Option (List Y)) → option_map f o ≡ want → f d ≡ [] → f (unwrap_or o d) ≡ unwrap_or want []
unwrapped f None d want is none = none ∙ ap (λ w. unwrap_or w []) is
unwrapped f (Some x) d want is none = ap (λ w. unwrap_or w []) is

abbrev pub source_at : SourceKind → List ℕ → SourceName
source_at kind path = record { kind = kind; name = path }

map-map : {X Y Z : Type 0} (f : X → Y) (g : Y → Z) (xs : List X) → map g (map f xs) ≡ map (λ x. g (f x)) xs
map-map f g [] = refl
map-map f g (x ∷ xs) = ap (λ ys. g (f x) ∷ ys) (map-map f g xs)

-- the sources of the values of a name
pub sources_read : (items : List (Bor (List ℕ))) (n : Name) (kind : SourceKind) (gs : List Given) → map (λ v. v.now) items ≡ values_named n gs → map (λ v. source_at kind v.now) items ≡ sources_named n kind gs
unfolding sources_named
sources_read items n kind gs read =
    sym (map-map (λ v. v.now) (source_at kind) items) ∙ ap (map (source_at kind)) read ∙ map-map (λ g. unwrap_or g.value []) (source_at kind) (filter (is_named n) gs)

-- ---- the values, name by name
abbrev fit_here : Given → Name → Bool
fit_here g n = cond (same_name n g.name) (fits (takes g.name) g.value) true

fit_value : (kind : Takes) (value : Option (List ℕ)) (rest : List (List ℕ)) → has_form_by kind value ≡ true
    → not (takes_word kind) || list_all (fits_value kind) (unwrap_or value [] ∷ rest) ≡ fits kind value && (not (takes_word kind) || list_all (fits_value kind) rest)
unfolding fits
fit_value Nothing None rest form = refl
fit_value Nothing (Some text) rest form = absurd cc
fit_value AnyText None rest form = absurd cc
fit_value AnyText (Some text) rest form = refl
fit_value ShortText None rest form = absurd cc
fit_value ShortText (Some text) rest form = refl
fit_value (Number least most) None rest form = absurd cc
fit_value (Number least most) (Some text) rest form = refl
fit_value Unknown None rest form = absurd cc
fit_value Unknown (Some text) rest form = absurd cc

fit_step : (n : Name) (g : Given) (gs : List Given) → has_form g ≡ true → values_fit (g ∷ gs) n ≡ fit_here g n && values_fit gs n
unfolding is_named
fit_step n g gs form = go (same_name n g.name) refl
  where
    go : (b : Bool) → same_name n g.name ≡ b
        → not (takes_word (takes n)) || list_all (fits_value (takes n)) (map (λ h. unwrap_or h.value []) (cond b (g ∷ filter (is_named n) gs) (filter (is_named n) gs)))
        ≡ cond b (fits (takes g.name) g.value) true && values_fit gs n
    go true is =
        subst (λ m. not (takes_word (takes m)) || list_all (fits_value (takes m)) (unwrap_or g.value [] ∷ values_named n gs) ≡ fits (takes g.name) g.value && (not (takes_word (takes m)) || list_all (fits_value (takes m)) (values_named n gs)))
        (sym (one_name n g.name is)) (fit_value (takes g.name) g.value (values_named n gs) form)
    go false is = refl

fit_steps : (g : Given) (gs : List Given) (ns : List Name) → has_form g ≡ true → list_all (values_fit (g ∷ gs)) ns ≡ list_all (λ n. fit_here g n && values_fit gs n) ns
fit_steps g gs [] form = refl
fit_steps g gs (n ∷ ns) form =
    let here = fit_step n g gs form in
    let rest = fit_steps g gs ns form in
    (λ i. here i && rest i)

fit_among : (g : Given) (ns : List Name) → list_all (fit_here g) ns ≡ cond (any_name g.name ns) (fits (takes g.name) g.value) true
fit_among g [] = refl
fit_among g (n ∷ ns) =
    let same = same_name-sym n g.name in
    let rest = fit_among g ns in
    (λ i. cond (same i) (fits (takes g.name) g.value) true && rest i) ∙ go (same_name g.name n) (any_name g.name ns) (fits (takes g.name) g.value)
  where
    go : (a b p : Bool) → cond a p true && cond b p true ≡ cond (a || b) p true
    go true true true = refl
    go true true false = refl
    go true false true = refl
    go true false false = refl
    go false b p = refl

fit_all : (g : Given) (gs : List Given) (ns : List Name) → has_form g ≡ true → list_all (values_fit (g ∷ gs)) ns ≡ cond (any_name g.name ns) (fits (takes g.name) g.value) true && list_all (values_fit gs) ns
fit_all g gs ns form = fit_steps g gs ns form ∙ all-and (fit_here g) (values_fit gs) ns ∙ ap (λ b. b && list_all (values_fit gs) ns) (fit_among g ns)

none_unfit : (ns : List Name) → list_all (values_fit []) ns ≡ true
none_unfit [] = refl
none_unfit (n ∷ ns) = ap (λ b. b && list_all (values_fit []) ns) (go (not (takes_word (takes n)))) ∙ none_unfit ns
  where
    go : (b : Bool) → b || true ≡ true
    go true = refl
    go false = refl

-- the values of each option of the command fit where those of each of its names do
pub fit_by_names : (command : CommandName) (gs : List Given) → list_all (is_spelled command) gs ≡ true
    → list_all (values_fit gs) (required command) && list_all (values_fit gs) (optional command) ≡ all_fit gs
unfolding has_option
fit_by_names command [] spelled = (λ i. none_unfit (required command) i && none_unfit (optional command) i)
fit_by_names command (g ∷ gs) spelled =
    let here = first (is_spelled command g) _ spelled in
    let known = first (has_option command g.name) _ here in
    let form = second (has_option command g.name) _ here in
    let req = fit_all g gs (required command) form in
    let opt = fit_all g gs (optional command) form in
    (λ i. req i && opt i) ∙ go (any_name g.name (required command)) (any_name g.name (optional command)) (fits (takes g.name) g.value) (list_all (values_fit gs) (required command)) (list_all (values_fit gs) (optional command)) known
    ∙ ap (λ b. fits (takes g.name) g.value && b) (fit_by_names command gs (second (is_spelled command g) _ spelled))
  where
    go : (r o p a b : Bool) → r || o ≡ true → cond r p true && a && (cond o p true && b) ≡ p && (a && b)
    go true true true a b e = refl
    go true true false a b e = refl
    go true false true a b e = refl
    go true false false a b e = refl
    go false true true a b e = refl
    go false true false true b e = refl
    go false true false false b e = refl
    go false false p a b e = absurd cc

pub told_fit : (command : CommandName) (rows : List Row) (gs : List Given) → Tells command rows gs → list_all (values_fit gs) (required command) && list_all (values_fit gs) (optional command) ≡ all_fit gs
told_fit command rows gs told =
    fit_by_names command gs (first (list_all (is_spelled command) gs) _ (first (list_all (is_spelled command) gs && has_required command gs) _ told.spelled))

names_of_sources : (n : Name) (kind : SourceKind) (gs : List Given) → map (λ source. source.name) (sources_named n kind gs) ≡ values_named n gs
unfolding sources_named
names_of_sources n kind gs = map-map (λ g. source_at kind (unwrap_or g.value [])) (λ source. source.name) (filter (is_named n) gs)

-- the paths of all the sources, kind by kind
pub paths_read : (audit changes tables : List (Bor (List ℕ))) (gs : List Given) → map (λ v. v.now) audit ≡ values_named Audit gs → map (λ v. v.now) changes ≡ values_named Changes gs
    → map (λ v. v.now) tables ≡ values_named Tables gs → map (λ v. v.now) ([] ++ audit ++ changes ++ tables) ≡ paths_named gs
unfolding sources_of
paths_read audit changes tables gs a b c =
    let now : Bor (List ℕ) → List ℕ = λ v. v.now in
    let name : SourceName → List ℕ = λ source. source.name in
    let audit_is = a ∙ sym (names_of_sources Audit AuditLog gs) in
    let changes_is = b ∙ sym (names_of_sources Changes ChangeList gs) in
    let tables_is = c ∙ sym (names_of_sources Tables TableLines gs) in
    map-append now (audit ++ changes) tables ∙ ap (λ l. l ++ map now tables) (map-append now audit changes)
    ∙ (λ i. audit_is i ++ changes_is i ++ tables_is i)
    ∙ ap (λ l. l ++ map name (sources_named Tables TableLines gs)) (sym (map-append name (sources_named Audit AuditLog gs) (sources_named Changes ChangeList gs)))
    ∙ sym (map-append name (sources_named Audit AuditLog gs ++ sources_named Changes ChangeList gs) (sources_named Tables TableLines gs))
