-- Conditions, the joins of FROM, GROUP BY and ORDER BY stand where their mentions do.
use Rattle.std.proofs.Common.{◌≡◌, ℕ, zero, suc, ◌+◌, ◌++◌, Bool, true, false, List, [], ◌∷◌, length, take, map, Option, Some, None, refl, ap, sym, ◌∙◌, subst, arith, inl, inr}
use Rattle.std.specs.Prelude.{slice_get, ◌⊎◌, ◌-◌, ◌<◌, ◌≤◌, not, ◌||◌, if◌then◌else◌, is_some}
use Rattle.std.specs.List.{AllByRecursion}
use Rattle.std.specs.Option.{option_map_or, option_or}
use Rattle.std.proofs.lemmas.Bool.{le-leb}
use Rattle.std.proofs.lemmas.List.{map-append, take-take}
use Rattle.std.proofs.lemmas.List.Quantifiers.{position-Some}
use Rattle.std.proofs.lemmas.Option.{none-some, same_Some, slice_get_cases}
use Rattle.std.specs.Str.{str_eq_ignore_ascii_case}
use Rattle.osq_value.specs.Catalogue.{Table, table, id_of}
use Rattle.osq_value.specs.Catalogue.{tables as catalogue}
use Rattle.osq_value.specs.declared.catalogue.TableKind.TheVariants.{Evented}
use Rattle.osq_value.specs.declared.value.Value.TheVariants.{Int}
use Rattle.sql_tree.specs.declared.tree.Name.{Name}
use Rattle.sql_tree.specs.Tree.{Tree, OneStep, Steps}
use Rattle.sql_tree.specs.Tree as tree
use Rattle.sql_tree.specs.Select.{RefTree, TermTree}
use Rattle.sql_scope.specs.declared.mention.Clause.{Clause}
use Rattle.sql_scope.specs.declared.mention.Clause.TheVariants as clause
use Rattle.sql_query.specs.declared.derived.Derived.{Derived}
use Rattle.sql_query.specs.declared.query.SourceColumn.{SourceColumn}
use Rattle.sql_query.specs.Tables.{FIRST_DERIVED, derived_at}
use Rattle.sql_names.specs.declared.results.Numbered.{Numbered}
use Rattle.sql_query.specs.declared.place.Place.{Place}
use Rattle.sql_scope.specs.declared.scope.Seen.{Seen}
use Rattle.sql_query.specs.Exprs.{ExprTree, literal}
use Rattle.sql_names.specs.Kinds.{forbids, names_in, place_of, place_if, too_many_tables, table_missing, place_at, aggregate_at, key_wrong}
use Rattle.sql_names.specs.Least.{least}
use Rattle.sql_scope.specs.Mentions.{mentions, mentions_of_step, mentions_of_steps, mentions_of_option, mentions_of_sources, mentions_of_keys, mentions_of_terms}
use Rattle.sql_scope.specs.Naming.{expr_of}
use Rattle.sql_query.specs.Resolved.{SourceTree, OrderTree}
use Rattle.sql_names.specs.Making.{joined_name, join_exprs, source_tree, source_trees, key_exprs, orders}
use Rattle.sql_names.specs.Results.{are_ands, right_of, rights_of, conjuncts, condition, index_in, numbered, term_by}
use Rattle.sql_scope.specs.Scope.{derived_from, table_meant, place_in, plain_place, columns_seen, table_number}
use Rattle.sql_scope.specs.Shown.{ShownTree, Names}
use Rattle.sql_scope.specs.Spelling.{name_text, same_name}
use Rattle.sql_query.specs.Standing.{IsScoped, IsOfTables, columns_in}
use Rattle.sql_names.proofs.Places.{AreSeen, seen_take, get_take, plain_place_is, place_at_is}
use Rattle.sql_names.proofs.Fines.{AreFine, lesser_left, lesser_right, fine_left, fine_right}
use Rattle.sql_names.proofs.Standings.{allowed, Reads, AreShown, place_stands, expr_stands, reads_columns, reads_shown, shown_stands, shown_plain}

-- each of them stands
abbrev pub StandEach : List (List SourceColumn) → Bool → List ExprTree → Type 0
StandEach tables may_fold exprs = AllByRecursion (IsScoped tables may_fold) exprs

each_append : {A : Type 0} (P : A → Type 0) (before after : List A) → AllByRecursion P before → AllByRecursion P after → AllByRecursion P (before ++ after)
each_append P [] after first second = second
each_append P (x ∷ before) after first second = (first.0, each_append P before after first.1 second)

right_stands : {tables : List (List SourceColumn)} {grouped : Bool} {names : Names} {c : Clause} {n : Names} (r : Reads tables grouped names c n) (step : OneStep) → AreFine names grouped (mentions_of_step c false step) → StandEach tables (allowed grouped (forbids c || false)) (map (expr_of n) (right_of step))
right_stands r (tree.binary op right) fine = (expr_stands r false right fine, tt)
right_stands r (tree.among is_negated items) fine = tt
right_stands r (tree.between is_negated low high) fine = tt

rights_stand : {tables : List (List SourceColumn)} {grouped : Bool} {names : Names} {c : Clause} {n : Names} (r : Reads tables grouped names c n) (steps : Steps) → AreFine names grouped (mentions_of_steps c false steps) → StandEach tables (allowed grouped (forbids c || false)) (map (expr_of n) (rights_of steps))
rights_stand r tree.no_steps fine = tt
rights_stand {tables = tables} {grouped = grouped} {names = names} {c = c} {n = n} r (tree.then before step) fine =
    subst (StandEach tables (allowed grouped (forbids c || false))) (sym (map-append (expr_of n) (rights_of before) (right_of step)))
    (each_append (IsScoped tables (allowed grouped (forbids c || false))) (map (expr_of n) (rights_of before)) (map (expr_of n) (right_of step))
    (rights_stand r before (fine_left names grouped (mentions_of_steps c false before) (mentions_of_step c false step) fine))
    (right_stands r step (fine_right names grouped (mentions_of_steps c false before) (mentions_of_step c false step) fine)))

one_stands : {tables : List (List SourceColumn)} {grouped : Bool} {names : Names} {c : Clause} {n : Names} (r : Reads tables grouped names c n) (t : Tree) → AreFine names grouped (mentions c false t) → StandEach tables (allowed grouped (forbids c || false)) (map (expr_of n) (t ∷ []))
one_stands r t fine = (expr_stands r false t fine, tt)

chain_stands : {tables : List (List SourceColumn)} {grouped : Bool} {names : Names} {c : Clause} {n : Names} (r : Reads tables grouped names c n) (parts : Bool) (first : Tree) (steps : Steps) → AreFine names grouped (mentions c false (tree.chain first steps)) → StandEach tables (allowed grouped (forbids c || false)) (map (expr_of n) (if parts then first ∷ rights_of steps else tree.chain first steps ∷ []))
chain_stands {grouped = grouped} {names = names} {c = c} r true first steps fine = (
  expr_stands r false first (fine_left names grouped (mentions c false first) (mentions_of_steps c false steps) fine),
  rights_stand r steps (fine_right names grouped (mentions c false first) (mentions_of_steps c false steps) fine),
)
chain_stands r false first steps fine = one_stands r (tree.chain first steps) fine

conjuncts_stand : {tables : List (List SourceColumn)} {grouped : Bool} {names : Names} {c : Clause} {n : Names} (r : Reads tables grouped names c n) (t : Tree) → AreFine names grouped (mentions c false t) → StandEach tables (allowed grouped (forbids c || false)) (map (expr_of n) (conjuncts t))
conjuncts_stand r (tree.chain first steps) fine = chain_stands r (are_ands steps) first steps fine
conjuncts_stand r (tree.number place number) fine = one_stands r (tree.number place number) fine
conjuncts_stand r (tree.text span) fine = one_stands r (tree.text span) fine
conjuncts_stand r tree.null fine = one_stands r tree.null fine
conjuncts_stand r (tree.column table column) fine = one_stands r (tree.column table column) fine
conjuncts_stand r (tree.negation t) fine = one_stands r (tree.negation t) fine
conjuncts_stand r (tree.minus t) fine = one_stands r (tree.minus t) fine
conjuncts_stand r (tree.plus t) fine = one_stands r (tree.plus t) fine
conjuncts_stand r (tree.cast t is_text) fine = one_stands r (tree.cast t is_text) fine
conjuncts_stand r (tree.call function arguments) fine = one_stands r (tree.call function arguments) fine
conjuncts_stand r (tree.folded place fold is_distinct t) fine = one_stands r (tree.folded place fold is_distinct t) fine
conjuncts_stand r (tree.count_all place fold is_distinct) fine = one_stands r (tree.count_all place fold is_distinct) fine

pub condition_stands : {tables : List (List SourceColumn)} {grouped : Bool} {names : Names} {c : Clause} {n : Names} (r : Reads tables grouped names c n) (o : Option Tree) → AreFine names grouped (mentions_of_option c o) → StandEach tables (allowed grouped (forbids c || false)) (condition n o)
condition_stands r None fine = tt
condition_stands r (Some t) fine = conjuncts_stand r t fine

-- the equality of a name of USING, over the tables up to its own
joined_stands : (tables : List (List SourceColumn)) (names : Names) (number : ℕ) (name : Name) → AreSeen tables (take (number + 1) names.scope) → IsScoped tables false (joined_name names number name)
joined_stands tables names number name seen =
    let spelled = name_text names.text name in
    let before : AreSeen tables (take number names.scope) = subst (AreSeen tables) (take-take number (number + 1) names.scope (omega arith)) (seen_take tables number (take (number + 1) names.scope) seen) in (
      place_stands tables false (plain_place spelled (take number names.scope)) spelled (λ (p : Place). plain_place_is tables (take number names.scope) spelled p before),
      (
        tt,
        place_stands tables false (place_at number spelled names.scope) spelled (λ (p : Place) (e : place_at number spelled names.scope ≡ Some p).
            place_at_is tables (take (number + 1) names.scope) number spelled p seen (ap (λ (o : Option Seen). option_map_or (place_in spelled) o None) (get_take names.scope number (number + 1) (omega arith)) ∙ e)),
      ),
    )

usings_stand : (tables : List (List SourceColumn)) (names : Names) (number : ℕ) (using : List Name) → AreSeen tables (take (number + 1) names.scope) → StandEach tables false (map (joined_name names number) using)
usings_stand tables names number [] seen = tt
usings_stand tables names number (name ∷ using) seen = (joined_stands tables names number name seen, usings_stand tables names number using seen)

on_stands : (tables : List (List SourceColumn)) (grouped : Bool) (names : Names) (number : ℕ) (ref : RefTree) → AreSeen tables (take (number + 1) names.scope) → AreFine names grouped (mentions_of_option (clause.On (number + 1)) ref.on) → StandEach tables false (join_exprs names number ref)
on_stands tables grouped names number ref seen fine =
    each_append (IsScoped tables false) (condition (names_in names (clause.On (number + 1))) ref.on) (map (joined_name names number) ref.using)
    (condition_stands (reads_columns tables grouped names (clause.On (number + 1)) (take (number + 1) names.scope) names.shown seen) ref.on fine)
    (usings_stand tables names number ref.using seen)

pub ons_stand : (tables : List (List SourceColumn)) (grouped : Bool) (names : Names) (refs : List RefTree) (number k reach : ℕ) (source : SourceTree) → ((n : ℕ) → AreSeen (take n tables) (take n names.scope)) → AreFine names grouped (mentions_of_sources number refs) → slice_get (source_trees names number refs) k ≡ Some source → reach ≡ number + k + 1 → StandEach (take reach tables) false source.on
ons_stand tables grouped names [] number k reach source seen fine is e = absurd (none-some source is)
ons_stand tables grouped names (ref ∷ refs) number zero reach source seen fine is e =
    let here : number + 1 ≡ reach = omega arith in
    subst (λ (s : SourceTree). StandEach (take reach tables) false s.on) (same_Some (source_tree names number ref) source is)
    (subst (λ (m : ℕ). StandEach (take m tables) false (join_exprs names number ref)) here
    (on_stands (take (number + 1) tables) grouped names number ref (seen (number + 1)) (fine_left names grouped (mentions_of_option (clause.On (number + 1)) ref.on) (mentions_of_sources (number + 1) refs) fine)))
ons_stand tables grouped names (ref ∷ refs) number (suc k) reach source seen fine is e =
    ons_stand tables grouped names refs (number + 1) k reach source seen (fine_right names grouped (mentions_of_option (clause.On (number + 1)) ref.on) (mentions_of_sources (number + 1) refs) fine) is (omega arith)

known_by : (name : List ℕ) (o : Option ℕ) → id_of name ≡ o → is_some o ≡ true → option_map_or (λ (id : ℕ). id) o 255 < length catalogue
unfolding id_of
known_by name None e some = absurd (let no : ⊥ = cc in no)
known_by name (Some id) e some = (position-Some (λ (known : Table). str_eq_ignore_ascii_case known.name name) catalogue id (table [] Evented []) e).0

-- a derived table of these has that number, where the first of them has the first
abbrev IsNumbered : List Derived → ℕ → ℕ → Type 0
IsNumbered derived first id = (first ≤ id) × ((table : Derived) × (slice_get derived (id - first) ≡ Some table))

numbered_if : (first id : ℕ) (known : Derived) (rest : List Derived) (is : Bool) (later : Option ℕ) → (if is then Some first else later) ≡ Some id → (later ≡ Some id → IsNumbered rest (first + 1) id) → IsNumbered (known ∷ rest) first id
numbered_if first id known rest true later e behind =
    let here : first ≡ id = same_Some first id e in
    let begins : id - first ≡ 0 = omega arith in (omega arith, (known, ap (slice_get (known ∷ rest)) begins))
numbered_if first id known rest false later e behind =
    let found = behind e in
    let from = found.0 in
    let further : id - first ≡ suc (id - (first + 1)) = omega arith in (omega arith, (found.1.0, ap (slice_get (known ∷ rest)) further ∙ found.1.1))

derived_numbered : (name : List ℕ) (derived : List Derived) (first id : ℕ) → derived_from name first derived ≡ Some id → IsNumbered derived first id
derived_numbered name [] first id e = absurd (none-some id e)
derived_numbered name (known ∷ rest) first id e = numbered_if first id known rest (same_name known.name name) (derived_from name (first + 1) rest) e (derived_numbered name rest (first + 1) id)

abbrev IsKnown : List Derived → ℕ → Type 0
IsKnown derived id = (id < length catalogue) ⊎ ((table : Derived) × (derived_at derived id ≡ Some table))

derived_known : (derived : List Derived) (id : ℕ) → IsNumbered derived FIRST_DERIVED id → IsKnown derived id
unfolding derived_at
derived_known derived id is = inr (is.1.0, ap (λ (b : Bool). if b then slice_get derived (id - FIRST_DERIVED) else None) (le-leb FIRST_DERIVED id is.0) ∙ is.1.1)

known_as : (derived : List Derived) (name : List ℕ) (found : Option ℕ) → derived_from name FIRST_DERIVED derived ≡ found → is_some (option_or found (id_of name)) ≡ true → IsKnown derived (option_map_or (λ (id : ℕ). id) (option_or found (id_of name)) 255)
known_as derived name None e some = inl (known_by name (id_of name) refl some)
known_as derived name (Some id) e some = derived_known derived id (derived_numbered name derived FIRST_DERIVED id e)

is_known : (derived : List Derived) (name : List ℕ) → is_some (table_meant derived name) ≡ true → IsKnown derived (table_number derived name)
unfolding table_number table_meant
is_known derived name some = known_as derived name (derived_from name FIRST_DERIVED derived) refl some

not_missing : (found : Bool) (place : ℕ) → place_if (not found) place ≡ None → found ≡ true
not_missing true place e = refl
not_missing false place e = absurd (let no : ⊥ = cc in no)

pub sources_are : (names : Names) (number : ℕ) (refs : List RefTree) → least (map (table_missing names.derived names.text) refs) ≡ None → AllByRecursion (IsOfTables names.derived) (source_trees names number refs)
sources_are names number [] none = tt
sources_are names number (ref ∷ refs) none =
    let here = lesser_left (table_missing names.derived names.text ref) (least (map (table_missing names.derived names.text) refs)) none in (
      record { is_known = is_known names.derived (name_text names.text ref.table) (not_missing (is_some (table_meant names.derived (name_text names.text ref.table))) (place_of ref.table) here); has_name = refl; has_columns = refl },
      sources_are names (number + 1) refs (lesser_right (table_missing names.derived names.text ref) (least (map (table_missing names.derived names.text) refs)) none),
    )

pub as_many_sources : (names : Names) (number : ℕ) (refs : List RefTree) → length (source_trees names number refs) ≡ length refs
as_many_sources names number [] = refl
as_many_sources names number (ref ∷ refs) = ap suc (as_many_sources names (number + 1) refs)

few_by : (refs : List RefTree) (o : Option RefTree) → slice_get refs 16 ≡ o → option_map_or (λ (ref : RefTree). Some (place_of ref.table)) o None ≡ None → length refs ≤ 16
few_by refs None e none = elim (slice_get_cases refs 16).1 [ inl there ↦ absurd (none-some there.0 (sym e ∙ there.2)) | inr past ↦ past.0 ]
few_by refs (Some ref) e none = absurd (let no : ⊥ = cc in no)

pub few_tables : (refs : List RefTree) → too_many_tables refs ≡ None → length refs ≤ 16
few_tables refs none = few_by refs (slice_get refs 16) refl none

pub source_columns : (names : Names) (number : ℕ) (refs : List RefTree) → columns_in (source_trees names number refs) ≡ map (columns_seen names.derived names.text) refs
source_columns names number [] = refl
source_columns names number (ref ∷ refs) = ap (λ (tables : List (List SourceColumn)). columns_seen names.derived names.text ref ∷ tables) (source_columns names (number + 1) refs)

index_stands : (tables : List (List SourceColumn)) (grouped : Bool) (shown : List ShownTree) (n : Numbered) (index : Option ℕ) → AreShown tables grouped shown → IsScoped tables grouped (option_map_or (λ (s : ShownTree). s.expr) (option_map_or (slice_get shown) index None) (literal (Int n.value)))
index_stands tables grouped shown n None are = tt
index_stands tables grouped shown n (Some k) are = shown_stands tables grouped shown k (Int n.value) are

index_plain : (tables : List (List SourceColumn)) (grouped : Bool) (shown : List ShownTree) (n : Numbered) (index : Option ℕ) → AreShown tables grouped shown → option_map_or (aggregate_at shown) index None ≡ None → IsScoped tables false (option_map_or (λ (s : ShownTree). s.expr) (option_map_or (slice_get shown) index None) (literal (Int n.value)))
index_plain tables grouped shown n None are none = tt
index_plain tables grouped shown n (Some k) are none = shown_plain tables grouped shown k (Int n.value) are none

key_by : (tables : List (List SourceColumn)) (grouped : Bool) (names : Names) (t : Tree) (o : Option Numbered) → AreSeen tables names.scope → AreShown tables grouped names.shown → AreFine names grouped (mentions clause.Key false t) → option_map_or (λ (n : Numbered). option_map_or (aggregate_at names.shown) (index_in (length names.shown) n.value) None) o None ≡ None → IsScoped tables false (term_by (names_in names clause.Key) t o)
key_by tables grouped names t None seen are fine none = expr_stands (reads_shown tables grouped names clause.Key seen are) false t fine
key_by tables grouped names t (Some n) seen are fine none = index_plain tables grouped names.shown n (index_in (length names.shown) n.value) are none

pub keys_stand : (tables : List (List SourceColumn)) (grouped : Bool) (names : Names) (keys : List Tree) → AreSeen tables names.scope → AreShown tables grouped names.shown → AreFine names grouped (mentions_of_keys keys) → least (map (key_wrong names.shown) keys) ≡ None → StandEach tables false (key_exprs names keys)
keys_stand tables grouped names [] seen are fine none = tt
keys_stand tables grouped names (t ∷ keys) seen are fine none = (
  key_by tables grouped names t (numbered t) seen are (fine_left names grouped (mentions clause.Key false t) (mentions_of_keys keys) fine) (lesser_left (key_wrong names.shown t) (least (map (key_wrong names.shown) keys)) none),
  keys_stand tables grouped names keys seen are (fine_right names grouped (mentions clause.Key false t) (mentions_of_keys keys) fine) (lesser_right (key_wrong names.shown t) (least (map (key_wrong names.shown) keys)) none),
)

term_by_stands : (tables : List (List SourceColumn)) (grouped : Bool) (names : Names) (t : Tree) (o : Option Numbered) → AreSeen tables names.scope → AreShown tables grouped names.shown → AreFine names grouped (mentions clause.Term false t) → IsScoped tables grouped (term_by (names_in names clause.Term) t o)
term_by_stands tables grouped names t None seen are fine = expr_stands (reads_shown tables grouped names clause.Term seen are) false t fine
term_by_stands tables grouped names t (Some n) seen are fine = index_stands tables grouped names.shown n (index_in (length names.shown) n.value) are

pub terms_stand : (tables : List (List SourceColumn)) (grouped : Bool) (names : Names) (terms : List TermTree) → AreSeen tables names.scope → AreShown tables grouped names.shown → AreFine names grouped (mentions_of_terms terms) → AllByRecursion (λ (term : OrderTree). IsScoped tables grouped term.expr) (orders names terms)
terms_stand tables grouped names [] seen are fine = tt
terms_stand tables grouped names (term ∷ terms) seen are fine = (
  term_by_stands tables grouped names term.tree (numbered term.tree) seen are (fine_left names grouped (mentions clause.Term false term.tree) (mentions_of_terms terms) fine),
  terms_stand tables grouped names terms seen are (fine_right names grouped (mentions clause.Term false term.tree) (mentions_of_terms terms) fine),
)
