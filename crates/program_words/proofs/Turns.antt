-- What one word does in clap's walk.
use Rattle.std.proofs.Common.{◌≡◌, ◌∙◌, ◌⊎◌, inl, inr, ℕ, zero, suc, ◌+◌, ◌&&◌, ◌||◌, not, Bool, true, false, cond, nat_eq, nat_lt, length, take, drop, List, [], ◌∷◌, Option, Some, None, refl, ap, sym, subst, arith}
use Rattle.std.specs.Prelude.{bytes_eq, is_none, is_some, slice_get, codes, encode_utf8, ◌==◌}
use Rattle.std.specs.List.{after_first, before_first, list_any, position_or_len}
use Rattle.std.specs.Option.{option_map, option_map_or}
use Rattle.std.specs.Str.{chars}
use Rattle.std.proofs.Math.Seq.{take-length}
use Rattle.std.proofs.lemmas.Bool.Decides.{nat_tests}
use Rattle.std.proofs.lemmas.Slice.Eq.{bytes_eq-Decides}
use Rattle.clap.specs.Lexer.{long_of, short_of}
use Rattle.clap.specs.Kinds.{Kinds, or_else}
use Rattle.clap.specs.declared.error.kind.ErrorKind.TheVariants.{ArgumentConflict, InvalidValue, TooManyValues, UnknownArgument}
use Rattle.clap.specs.Walk.{Held, Row, Rule, Step, Waiting, Walk, Outcome, idle, next, option, option_word, most_values, value, trailing, plain, arg_by_id, arg_by_index, arg_by_long, arg_by_short, after_flag, after_step, bundle_met, bundle_step, short_or_plain, flag_met, has_row, Text, long_met, long_or_other, option_met, settled_rows, takes_values, used, walk_from, walked}
use Rattle.clap.specs.declared.builder.action.ArgAction.{ArgAction}
use Rattle.clap.specs.Simple.{Shape, new_rule, new_shape, filled, with_index}
use Rattle.clap.specs.Faults.{flag_word_fault, flags_fault, long_fault, option_fault, react_fault, bundle_fault, bundle_step_fault, positional_fault, settle_fault, short_fault, step_fault, turn_fault, use_fault}
use Rattle.program_words.specs.declared.name.Name.{Name}
use Rattle.program_words.specs.declared.name.Name.TheVariants.{Config, Host, Platform, Agent, Text as TextName, Audit, Changes, Tables, Start, Step as StepName, Ticks, Records, Explain, Frames, Ledger, Store, From, Count, Workers, FramesOut, AnswersIn, Other}
use Rattle.program_words.specs.declared.name.Takes.{Takes}
use Rattle.program_words.specs.declared.name.Takes.TheVariants.{Nothing, AnyText, ShortText, Number, Unknown}
use Rattle.program_words.specs.Names.{is_source, name_of, place, same_name, takes}
use Rattle.program_words.specs.Given.{Given, behind_dashes, fits_none, is_sign, option_of, takes_word}
use Rattle.program_words.specs.Texts.{is_text}
use Rattle.program_words.specs.Reading.{has_form, has_form_by}
use Rattle.program_words.specs.Rules.{action_by, spelling}
use Rattle.program_words.proofs.Spelled.{built, same_name-refl}

-- ---- what a word spells
abbrev pub dashes : List ℕ
dashes = 45 ∷ 45 ∷ []

abbrev spells : List ℕ → Option (List ℕ) → Given
spells name text = record { name = name_of name; value = text }

abbrev no_option : Given
no_option = record { name = Other; value = None }

pub data Word (word : List ℕ) : Type 0 where
  two_dashes : bytes_eq word dashes ≡ true → Word word
  long : (name : List ℕ) (text : Option (List ℕ)) → bytes_eq word dashes ≡ false → long_of word ≡ Some (name, text) → option_of word ≡ spells name text → Word word
  other : bytes_eq word dashes ≡ false → long_of word ≡ None → option_of word ≡ no_option → Word word

sign_tells : (text : List ℕ) → nat_lt (position_or_len is_sign text) (length text) ≡ list_any (λ x. x == 61) text
sign_tells [] = refl
sign_tells (b ∷ bs) = go (is_sign b) (sign_tells bs)
  where
    go : (here : Bool) → nat_lt (position_or_len is_sign bs) (length bs) ≡ list_any (λ x. x == 61) bs
        → nat_lt (cond (not here) (1 + position_or_len is_sign bs) 0) (length (b ∷ bs)) ≡ here || list_any (λ x. x == 61) bs
    go true rest = grind (arith, nat_tests)
    go false rest = grind (arith, nat_tests)

-- a text without the sign is the name
whole_name : (text : List ℕ) → list_any (λ x. x == 61) text ≡ false → position_or_len is_sign text ≡ length text
whole_name [] none = refl
whole_name (b ∷ bs) none = go (is_sign b) none (whole_name bs)
  where
    go : (here : Bool) → here || list_any (λ x. x == 61) bs ≡ false → (list_any (λ x. x == 61) bs ≡ false → position_or_len is_sign bs ≡ length bs)
        → cond (not here) (1 + position_or_len is_sign bs) 0 ≡ length (b ∷ bs)
    go true none rest = absurd cc
    go false none rest = omega (arith, rest none)

long_word : (x : ℕ) (xs : List ℕ) → Word (45 ∷ 45 ∷ x ∷ xs)
unfolding option_of behind_dashes
long_word x xs = go (list_any (λ y. y == 61) (x ∷ xs)) refl
  where
    go : (b : Bool) → list_any (λ y. y == 61) (x ∷ xs) ≡ b → Word (45 ∷ 45 ∷ x ∷ xs)
    go true any =
        long (before_first is_sign (x ∷ xs)) (Some (after_first is_sign (x ∷ xs))) refl (ap (λ h. Some (before_first is_sign (x ∷ xs), cond h (Some (after_first is_sign (x ∷ xs))) None)) any)
        (ap (λ h. cond h (spells (before_first is_sign (x ∷ xs)) (Some (after_first is_sign (x ∷ xs)))) (spells (x ∷ xs) None)) (sign_tells (x ∷ xs) ∙ any))
    go false none =
        let all : before_first is_sign (x ∷ xs) ≡ x ∷ xs = ap (λ n. take n (x ∷ xs)) (whole_name (x ∷ xs) none) ∙ take-length (x ∷ xs) in
        long (x ∷ xs) None refl (λ i. Some (all i, cond (none i) (Some (after_first is_sign (x ∷ xs))) None))
        (ap (λ h. cond h (spells (before_first is_sign (x ∷ xs)) (Some (after_first is_sign (x ∷ xs)))) (spells (x ∷ xs) None)) (sign_tells (x ∷ xs) ∙ none))

same_byte : (b : ℕ) → b == 45 ≡ true → 45 ≡ b
same_byte b e = grind (arith, nat_tests)

other_byte : (b : ℕ) → b == 45 ≡ false → nat_eq 45 b ≡ false
other_byte b e = grind (arith, nat_tests)

not_dashes : (word : List ℕ) → (word ≡ dashes → ⊥) → bytes_eq word dashes ≡ false
not_dashes word no_way = go (bytes_eq word dashes) refl
  where
    go : (b : Bool) → bytes_eq word dashes ≡ b → b ≡ false
    go true is = absurd (no_way ((bytes_eq-Decides word dashes).0 is))
    go false is = refl

byte_at : ℕ → List ℕ → ℕ
byte_at k word = Rattle.std.specs.Prelude.slice_index_or word k 0

first_not : (b : ℕ) (bs : List ℕ) → b == 45 ≡ false → b ∷ bs ≡ dashes → ⊥
unfolding byte_at
first_not b bs apart is = let e : b ≡ 45 = ap (byte_at 0) is in grind (arith, nat_tests)

second_not : (b : ℕ) (bs : List ℕ) → b == 45 ≡ false → 45 ∷ b ∷ bs ≡ dashes → ⊥
unfolding byte_at
second_not b bs apart is = let e : b ≡ 45 = ap (byte_at 1) is in grind (arith, nat_tests)

pub word_of : (word : List ℕ) → Word word
unfolding option_of
word_of [] = other refl refl refl
word_of (b ∷ bs) = go (b == 45) refl
  where
    dash : (rest : List ℕ) → Word (45 ∷ rest)
    dash [] = other refl refl refl
    dash (x ∷ xs) = dash_second (x == 45) refl
      where
        dash_third : (rest : List ℕ) → Word (45 ∷ 45 ∷ rest)
        dash_third [] = two_dashes refl
        dash_third (y ∷ ys) = long_word y ys

        dash_second : (h : Bool) → x == 45 ≡ h → Word (45 ∷ x ∷ xs)
        dash_second true is = subst (λ y. Word (45 ∷ y ∷ xs)) (same_byte x is) (dash_third xs)
        dash_second false is = other (not_dashes (45 ∷ x ∷ xs) (second_not x xs is)) (rw is refl) (rw (other_byte x is) refl)

    go : (h : Bool) → b == 45 ≡ h → Word (b ∷ bs)
    go true is = subst (λ x. Word (x ∷ bs)) (same_byte b is) (dash bs)
    go false is = other (not_dashes (b ∷ bs) (first_not b bs is)) (rw is refl) (rw (other_byte b is) refl)

-- ---- kinds of faults
pub or_else_first : (a b : Kinds) → or_else a b ≡ [] → a ≡ []
or_else_first [] b e = refl
or_else_first (k ∷ ks) b e = e

pub or_else_second : (a b : Kinds) → or_else a b ≡ [] → b ≡ []
or_else_second [] b e = e
or_else_second (k ∷ ks) b e = absurd cc

pub or_else_none : (a b : Kinds) → a ≡ [] → b ≡ [] → or_else a b ≡ []
or_else_none a b first_none second_none = ap (λ k. or_else k b) first_none ∙ second_none

-- ---- the rules of a command
-- what clap gives an option by its action
abbrev pub acting : Bool → List ℕ → ArgAction → Rule
acting must text action = with_index 1 (filled (record (new_rule text) { long = Some text; action = Some action; required = must }))

takes_by : (must : Bool) (text : List ℕ) (kind : Takes) (source : Bool) → fits_none kind || takes_word kind ≡ true → takes_values (acting must text (action_by kind source)) ≡ takes_word kind
takes_by must text Nothing source is = refl
takes_by must text AnyText true is = refl
takes_by must text AnyText false is = refl
takes_by must text ShortText true is = refl
takes_by must text ShortText false is = refl
takes_by must text (Number least most) true is = refl
takes_by must text (Number least most) false is = refl
takes_by must text Unknown source is = absurd cc

abbrev pub texts_of : Option (List ℕ) → List (List ℕ)
texts_of None = []
texts_of (Some text) = text ∷ []

abbrev pub may_stand : Bool → Bool → Bool
may_stand source there = source || not there

set_is : (there : Bool) → or_else (cond (there && not false) (ArgumentConflict ∷ []) []) [] ≡ cond (not there) [] (ArgumentConflict ∷ [])
set_is true = refl
set_is false = refl

-- a use fails only where the option may stand once and stands already
use_by : (must : Bool) (text : List ℕ) (kind : Takes) (source : Bool) (given : Option (List ℕ)) (rows : List Row)
    → has_form_by kind given ≡ true → (source ≡ true → takes_word kind ≡ true)
    → use_fault false (acting must text (action_by kind source)) (texts_of given) rows ≡ cond (may_stand source (has_row text rows)) [] (ArgumentConflict ∷ [])
use_by must text Nothing true None rows form word = absurd (let bad : false ≡ true = word refl in cc)
use_by must text Nothing false None rows form word = set_is (has_row text rows)
use_by must text Nothing source (Some given) rows form word = absurd cc
use_by must text AnyText source None rows form word = absurd cc
use_by must text AnyText true (Some given) rows form word = refl
use_by must text AnyText false (Some given) rows form word = set_is (has_row text rows)
use_by must text ShortText source None rows form word = absurd cc
use_by must text ShortText true (Some given) rows form word = refl
use_by must text ShortText false (Some given) rows form word = set_is (has_row text rows)
use_by must text (Number least most) source None rows form word = absurd cc
use_by must text (Number least most) true (Some given) rows form word = refl
use_by must text (Number least most) false (Some given) rows form word = set_is (has_row text rows)
use_by must text Unknown source None rows form word = absurd cc
use_by must text Unknown source (Some given) rows form word = absurd cc

-- an option that awaits its value can't be used without
bare_by : (must : Bool) (text : List ℕ) (kind : Takes) (source : Bool) (rows : List Row) → takes_word kind ≡ true
    → use_fault false (acting must text (action_by kind source)) [] rows ≡ InvalidValue ∷ []
bare_by must text Nothing source rows word = absurd cc
bare_by must text AnyText true rows word = refl
bare_by must text AnyText false rows word = refl
bare_by must text ShortText true rows word = refl
bare_by must text ShortText false rows word = refl
bare_by must text (Number least most) true rows word = refl
bare_by must text (Number least most) false rows word = refl
bare_by must text Unknown source rows word = absurd cc

has_kind : (n : Name) → same_name n Other ≡ false → fits_none (takes n) || takes_word (takes n) ≡ true
unfolding takes place
has_kind Other is = absurd cc
has_kind Config is = refl
has_kind Host is = refl
has_kind Platform is = refl
has_kind Agent is = refl
has_kind TextName is = refl
has_kind Audit is = refl
has_kind Changes is = refl
has_kind Tables is = refl
has_kind Start is = refl
has_kind StepName is = refl
has_kind Ticks is = refl
has_kind Records is = refl
has_kind Explain is = refl
has_kind Frames is = refl
has_kind Ledger is = refl
has_kind Store is = refl
has_kind From is = refl
has_kind Count is = refl
has_kind Workers is = refl
has_kind FramesOut is = refl
has_kind AnswersIn is = refl

pub source_takes : (n : Name) → is_source n ≡ true → takes_word (takes n) ≡ true
unfolding takes is_source
source_takes Audit is = refl
source_takes Changes is = refl
source_takes Tables is = refl
source_takes _ is = absurd cc

pub rule_takes : (must : Bool) (n : Name) → same_name n Other ≡ false → takes_values (built must n) ≡ takes_word (takes n)
rule_takes must n real = takes_by must (spelling n) (takes n) (is_source n) (has_kind n real)

pub rule_use : (must : Bool) (n : Name) (given : Option (List ℕ)) (rows : List Row) → has_form_by (takes n) given ≡ true
    → use_fault false (built must n) (texts_of given) rows ≡ cond (may_stand (is_source n) (has_row (spelling n) rows)) [] (ArgumentConflict ∷ [])
rule_use must n given rows form = use_by must (spelling n) (takes n) (is_source n) given rows form (source_takes n)

pub rule_bare : (must : Bool) (n : Name) (rows : List Row) → takes_word (takes n) ≡ true → use_fault false (built must n) [] rows ≡ InvalidValue ∷ []
rule_bare must n rows word = bare_by must (spelling n) (takes n) (is_source n) rows word

pub none_form : (kind : Takes) → takes_word kind ≡ true → fits_none kind ≡ true → ⊥
none_form Nothing w f = absurd cc
none_form AnyText w f = absurd cc
none_form ShortText w f = absurd cc
none_form (Number least most) w f = absurd cc
none_form Unknown w f = absurd cc

-- ---- one word
abbrev pub shape : List Rule → Shape
shape c = record (new_shape (codes "osqd")) { rules = c; disable_help_flag = true; disable_help_subcommand = true; is_built = true }

abbrev pub held : List Row → Option (Text × List Text) → Held
held rows pending = record { rows = rows; pending = pending; skip = 0 }

-- between two options, with what the last one has yet to settle
abbrev pub between : List Row → Option (Text × List Text) → Walk
between rows pending = walk_from (held rows pending)

-- behind an option that awaits its value
abbrev pub awaiting : List Row → Text → Walk
awaiting rows id = record (between rows (Some (id, []))) { waiting = option id }

-- the rules are those of names that are known
pub record Ruled (c : List Rule) (known must : Name → Bool) : Type 0 where
  pub by_long : (text : List ℕ) → arg_by_long c text ≡ cond (known (name_of text)) (Some (built (must (name_of text)) (name_of text))) None
  pub by_id : (n : Name) → known n ≡ true → arg_by_id c (spelling n) ≡ Some (built (must n) n)
  pub by_short : (x : ℕ) → arg_by_short c x ≡ None
  pub by_index : (i : ℕ) → arg_by_index c i ≡ None
  pub real : (n : Name) → known n ≡ true → same_name n Other ≡ false

module _ (c : List Rule) (known must : Name → Bool) (ruled : Ruled c known must) where
  abbrev met_at : Waiting → Bool → Option (Text × Option Text) → Text → Held → Held × Step
  met_at q b lo word h = cond b (h, trailing 1) (long_or_other c q word lo h)

  abbrev fault_at : Waiting → Bool → Option (Text × Option Text) → Text → Held → Kinds
  fault_at q b lo word h =
      or_else (cond b [] (flag_word_fault c false lo word h)) (step_fault (shape c) 1 (met_at q b lo word h).0 (met_at q b lo word h).1)

  abbrev walked_at : Walk → Waiting → Bool → Option (Text × Option Text) → Text → Held → Walk
  walked_at w q b lo word h = after_step c word w (met_at q b lo word h).0 (met_at q b lo word h).1

  abbrev rule : Name → Rule
  rule n = built (must n) n

  found : (name : Text) → known (name_of name) ≡ true → arg_by_long c name ≡ Some (rule (name_of name))
  found name is = ruled.by_long name ∙ ap (λ k. cond k (Some (rule (name_of name))) None) is

  not_found : (name : Text) → known (name_of name) ≡ false → arg_by_long c name ≡ None
  not_found name is = ruled.by_long name ∙ ap (λ k. cond k (Some (rule (name_of name))) None) is

  abbrev long_step : Waiting → Option Rule → Option Text → Text → Held → Held × Step
  long_step q o v word h = after_flag c q word (long_met c o v h).0 (long_met c o v h).1

  abbrev long_fault_at : Waiting → Option Rule → Option Text → Text → Held → Kinds
  long_fault_at q o v word h = or_else (long_fault c false o v h) (step_fault (shape c) 1 (long_step q o v word h).0 (long_step q o v word h).1)

  abbrev met_by : Rule → Bool → Option Text → Held → Held × Outcome
  met_by a t v h = cond t (option_met c a v h) (flag_met c a v h)

  abbrev known_step : Waiting → Rule → Bool → Option Text → Text → Held → Held × Step
  known_step q a t v word h = after_flag c q word (met_by a t v h).0 (met_by a t v h).1

  -- the fault of an option that is known, by whether it takes a value
  abbrev known_fault : Rule → Bool → Option Text → Text → Held → Kinds
  known_fault a t v word h =
      or_else (cond t (option_fault c false a v h) (cond (is_some v) (TooManyValues ∷ []) (react_fault c false a [] h)))
      (step_fault (shape c) 1 (known_step idle a t v word h).0 (known_step idle a t v word h).1)

  takes_is : (n : Name) → known n ≡ true → takes_values (rule n) ≡ takes_word (takes n)
  takes_is n is = rule_takes (must n) n (ruled.real n is)

  fault_is : (name : Text) (v : Option Text) (word : Text) (h : Held) → known (name_of name) ≡ true
      → fault_at idle false (Some (name, v)) word h ≡ known_fault (rule (name_of name)) (takes_word (takes (name_of name))) v word h
  fault_is name v word h is =
      ap (λ o. long_fault_at idle o v word h) (found name is) ∙ ap (λ t. known_fault (rule (name_of name)) t v word h) (takes_is (name_of name) is)

  abbrev known_walked : Walk → Rule → Bool → Option Text → Text → Held → Walk
  known_walked w a t v word h = after_step c word w (known_step idle a t v word h).0 (known_step idle a t v word h).1

  walked_is : (w : Walk) (name : Text) (v : Option Text) (word : Text) (h : Held) → known (name_of name) ≡ true
      → walked_at w idle false (Some (name, v)) word h ≡ known_walked w (rule (name_of name)) (takes_word (takes (name_of name))) v word h
  walked_is w name v word h is =
      ap (λ o. after_step c word w (long_step idle o v word h).0 (long_step idle o v word h).1) (found name is)
      ∙ ap (λ t. known_walked w (rule (name_of name)) t v word h) (takes_is (name_of name) is)

  abbrev once : Name → Option (Text × List Text) → List Row → Bool
  once n p rows = may_stand (is_source n) (has_row (spelling n) (settled_rows c p rows))

  -- an option with its value, or a flag without
  abbrev pub stands_fault : Name → Option (Text × List Text) → List Row → Kinds
  stands_fault n p rows = or_else (or_else (settle_fault c false (held rows p)) (cond (once n p rows) [] (ArgumentConflict ∷ []))) []

  stands_by : (n : Name) (kind : Bool) (v : Option Text) (word : Text) (rows : List Row) (p : Option (Text × List Text)) → takes_word (takes n) ≡ kind → has_form_by (takes n) v ≡ true
      → known_fault (rule n) kind v word (held rows p) ≡ stands_fault n p rows
  stands_by n true (Some x) word rows p word_is form =
      ap (λ k. or_else (or_else (settle_fault c false (held rows p)) k) []) (rule_use (must n) n (Some x) (settled_rows c p rows) form)
  stands_by n true None word rows p word_is form = absurd (none_form (takes n) word_is form)
  stands_by n false None word rows p word_is form =
      ap (λ k. or_else (or_else (settle_fault c false (held rows p)) k) []) (rule_use (must n) n None (settled_rows c p rows) form)
  stands_by n false (Some x) word rows p word_is form = absurd (let bad : false ≡ true = sym word_is ∙ form in cc)

  stands_moves : (n : Name) (kind : Bool) (v : Option Text) (word : Text) (rows : List Row) (p : Option (Text × List Text)) → takes_word (takes n) ≡ kind → has_form_by (takes n) v ≡ true
      → known_walked (between rows p) (rule n) kind v word (held rows p) ≡ between (used (rule n) (texts_of v) (settled_rows c p rows)) None
  stands_moves n true (Some x) word rows p word_is form = refl
  stands_moves n true None word rows p word_is form = absurd (none_form (takes n) word_is form)
  stands_moves n false None word rows p word_is form = refl
  stands_moves n false (Some x) word rows p word_is form = absurd (let bad : false ≡ true = sym word_is ∙ form in cc)

  -- an option that awaits its value
  awaits_fault : (n : Name) (kind : Bool) (word : Text) (rows : List Row) (p : Option (Text × List Text)) → kind ≡ true
      → known_fault (rule n) kind None word (held rows p) ≡ or_else (settle_fault c false (held rows p)) []
  awaits_fault n kind word rows p is = ap (λ t. known_fault (rule n) t None word (held rows p)) is

  awaits_moves : (n : Name) (kind : Bool) (word : Text) (rows : List Row) (p : Option (Text × List Text)) → kind ≡ true
      → known_walked (between rows p) (rule n) kind None word (held rows p) ≡ awaiting (settled_rows c p rows) (spelling n)
  awaits_moves n kind word rows p is = ap (λ t. known_walked (between rows p) (rule n) t None word (held rows p)) is

  -- what a word that spells g comes to between two options
  pub data Turn (g : Given) (rows : List Row) (p : Option (Text × List Text)) (word : Text) : Type 0 where
    stands : known g.name ≡ true → has_form g ≡ true → turn_fault (shape c) [] (between rows p) word ≡ stands_fault g.name p rows
        → walked c [] (between rows p) word ≡ between (used (rule g.name) (texts_of g.value) (settled_rows c p rows)) None → Turn g rows p word
    awaits_word : known g.name ≡ true → takes_word (takes g.name) ≡ true → g.value ≡ None → turn_fault (shape c) [] (between rows p) word ≡ or_else (settle_fault c false (held rows p)) []
        → walked c [] (between rows p) word ≡ awaiting (settled_rows c p rows) (spelling g.name) → Turn g rows p word
    fails : (known g.name ≡ false) ⊎ ((is_some g.value ≡ true) × (has_form g ≡ false)) → (turn_fault (shape c) [] (between rows p) word ≡ [] → ⊥) → Turn g rows p word

  unknown_other : known Other ≡ false
  unknown_other = go (known Other) refl
    where
      go : (k : Bool) → known Other ≡ k → k ≡ false
      go true is = absurd (let bad : true ≡ false = sym (same_name-refl Other) ∙ ruled.real Other is in cc)
      go false is = refl

  -- a word that stands for nothing, where no option awaits one
  stray : (h : Held) → step_fault (shape c) 1 h value ≡ [] → ⊥
  stray h none =
      let bad : UnknownArgument ∷ [] ≡ [] = ap (λ o. option_map_or (λ a. positional_fault c false a h) o (UnknownArgument ∷ [])) (sym (ruled.by_index 1)) ∙ none in
      cc

  abbrev bundle_fault_at : Waiting → ℕ → Text → Text → Held → Kinds
  bundle_fault_at q k flags word h =
      or_else (flags_fault c false k flags 0 h)
      (step_fault (shape c) 1 (after_flag c q word (bundle_met c k flags 0 plain h).0 (bundle_met c k flags 0 plain h).1).0 (after_flag c q word (bundle_met c k flags 0 plain h).0 (bundle_met c k flags 0 plain h).1).1)

  -- the letters behind one dash are none of the command's, or there are none
  letters : (q : Waiting) (k : ℕ) (flags word : Text) (h : Held) → bundle_fault_at q k flags word h ≡ [] → bundle_met c k flags 0 plain h ≡ (h, plain)
  unfolding flags_fault bundle_met
  letters q zero flags word h none = refl
  letters q (suc k) flags word h none = go (slice_get (chars flags) 0) refl
    where
      go : (o : Option ℕ) → slice_get (chars flags) 0 ≡ o → bundle_met c (suc k) flags 0 plain h ≡ (h, plain)
      go None is = ap (λ o. bundle_step c o flags 0 plain h (bundle_met c k)) is
      go (Some x) is =
          let rest = drop (length (encode_utf8 x)) flags in
          let kinds : flags_fault c false (suc k) flags 0 h ≡ UnknownArgument ∷ [] =
          ap (λ o. bundle_step_fault c false o flags 0 h (flags_fault c false k)) is ∙ ap (λ o. short_fault c false o rest h (flags_fault c false k rest 0)) (ruled.by_short x) in
          let bad : UnknownArgument ∷ [] ≡ [] = sym kinds ∙ or_else_first (flags_fault c false (suc k) flags 0 h) _ none in
          cc

  abbrev other_fault_at : Waiting → Option Text → Text → Held → Kinds
  other_fault_at q so word h =
      or_else (option_map_or (λ flags. bundle_fault c false flags h) so []) (step_fault (shape c) 1 (short_or_plain c q word so h).0 (short_or_plain c q word so h).1)

  abbrev step_fault_by : Waiting → Text → Held × Outcome → Kinds
  step_fault_by q word m = step_fault (shape c) 1 (after_flag c q word m.0 m.1).0 (after_flag c q word m.0 m.1).1

  other_fails : (word : Text) (rows : List Row) (p : Option (Text × List Text)) (so : Option Text) → other_fault_at idle so word (held rows p) ≡ [] → ⊥
  other_fails word rows p None none = stray (held rows p) none
  other_fails word rows p (Some flags) none =
      let met = letters idle (length flags) flags word (held rows p) none in
      stray (held rows p) (sym (ap (step_fault_by idle word) met) ∙ or_else_second (flags_fault c false (length flags) flags 0 (held rows p)) _ none)

  module _ (rows : List Row) (p : Option (Text × List Text)) (word : Text) (none_such : bytes_eq word dashes ≡ false) where
    abbrev here : Held
    here = held rows p

    long_fault_here : (name : Text) (v : Option Text) → long_of word ≡ Some (name, v) → turn_fault (shape c) [] (between rows p) word ≡ fault_at idle false (Some (name, v)) word here
    long_fault_here name v is_long = λ i. fault_at idle (none_such i) (is_long i) word here

    long_walked_here : (name : Text) (v : Option Text) → long_of word ≡ Some (name, v) → walked c [] (between rows p) word ≡ walked_at (between rows p) idle false (Some (name, v)) word here
    unfolding walked
    long_walked_here name v is_long = λ i. walked_at (between rows p) idle (none_such i) (is_long i) word here

    fits_alone : (n : Name) → known n ≡ true → takes_word (takes n) ≡ false → fits_none (takes n) ≡ true
    fits_alone n is word_is = go (fits_none (takes n)) (takes_word (takes n)) word_is (has_kind n (ruled.real n is))
      where
        go : (f w : Bool) → w ≡ false → f || w ≡ true → f ≡ true
        go true w e any = refl
        go false w e any = sym e ∙ any

    known_turn : (name : Text) (v : Option Text) → long_of word ≡ Some (name, v) → known (name_of name) ≡ true → (kind : Bool) → takes_word (takes (name_of name)) ≡ kind → Turn (spells name v) rows p word
    known_turn name (Some x) is_long is true word_is =
        stands is word_is (long_fault_here name (Some x) is_long ∙ fault_is name (Some x) word here is ∙ stands_by (name_of name) _ (Some x) word rows p refl word_is)
        (long_walked_here name (Some x) is_long ∙ walked_is (between rows p) name (Some x) word here is ∙ stands_moves (name_of name) _ (Some x) word rows p refl word_is)
    known_turn name None is_long is true word_is =
        awaits_word is word_is refl (long_fault_here name None is_long ∙ fault_is name None word here is ∙ awaits_fault (name_of name) _ word rows p word_is)
        (long_walked_here name None is_long ∙ walked_is (between rows p) name None word here is ∙ awaits_moves (name_of name) _ word rows p word_is)
    known_turn name None is_long is false word_is =
        let form = fits_alone (name_of name) is word_is in
        stands is form (long_fault_here name None is_long ∙ fault_is name None word here is ∙ stands_by (name_of name) _ None word rows p refl form)
        (long_walked_here name None is_long ∙ walked_is (between rows p) name None word here is ∙ stands_moves (name_of name) _ None word rows p refl form)
    known_turn name (Some x) is_long is false word_is =
        fails (inr (refl, word_is)) (λ none.
        let bad : known_fault (rule (name_of name)) false (Some x) word here ≡ [] =
        ap (λ t. known_fault (rule (name_of name)) t (Some x) word here) (sym word_is) ∙ sym (fault_is name (Some x) word here is) ∙ sym (long_fault_here name (Some x) is_long) ∙ none in
        cc)

    long_turn : (name : Text) (v : Option Text) → long_of word ≡ Some (name, v) → (k : Bool) → known (name_of name) ≡ k → Turn (spells name v) rows p word
    long_turn name v is_long true is = known_turn name v is_long is (takes_word (takes (name_of name))) refl
    long_turn name v is_long false is =
        fails (inl is) (λ none.
        let bad : long_fault_at idle None v word here ≡ [] = sym (ap (λ o. long_fault_at idle o v word here) (not_found name is)) ∙ sym (long_fault_here name v is_long) ∙ none in
        cc)

    pub turn : Turn (option_of word) rows p word
    turn = go (word_of word)
      where
        go : Word word → Turn (option_of word) rows p word
        go (two_dashes is) = absurd (let bad : true ≡ false = sym is ∙ none_such in cc)
        go (long name text such is_long is) = subst (λ g. Turn g rows p word) (sym is) (long_turn name text is_long (known (name_of name)) refl)
        go (other such is_long is) =
            subst (λ g. Turn g rows p word) (sym is) (fails (inl unknown_other) (λ none. other_fails word rows p (short_of word) (sym (λ i. fault_at idle (none_such i) (is_long i) word here) ∙ none)))

  -- ---- the word behind an option that awaits one
  module _ (rows : List Row) (n : Name) (is : known n ≡ true) (word_is : takes_word (takes n) ≡ true) where
    abbrev waits_here : Held
    waits_here = held rows (Some (spelling n, []))

    -- where none comes
    pub bare_fails : settle_fault c false waits_here ≡ InvalidValue ∷ []
    bare_fails = ap (λ o. option_map_or (λ a. use_fault false a [] rows) o []) (ruled.by_id n is) ∙ rule_bare (must n) n rows word_is

    no_settle : settle_fault c false waits_here ≡ [] → ⊥
    no_settle none = let bad : InvalidValue ∷ [] ≡ [] = sym bare_fails ∙ none in cc

    long_fails : (name : Text) (v : Option Text) (word : Text) → fault_at (option (spelling n)) false (Some (name, v)) word waits_here ≡ [] → ⊥
    long_fails name v word none = go (arg_by_long c name) (or_else_first (long_fault c false (arg_by_long c name) v waits_here) _ none)
      where
        by_kind : (a : Rule) (t : Bool) (u : Option Text) → cond t (option_fault c false a u waits_here) (cond (is_some u) (TooManyValues ∷ []) (react_fault c false a [] waits_here)) ≡ [] → ⊥
        by_kind a true (Some x) e = no_settle (or_else_first (settle_fault c false waits_here) _ e)
        by_kind a true None e = no_settle e
        by_kind a false (Some x) e = absurd cc
        by_kind a false None e = no_settle (or_else_first (settle_fault c false waits_here) _ e)

        go : (o : Option Rule) → long_fault c false o v waits_here ≡ [] → ⊥
        go None e = absurd cc
        go (Some a) e = by_kind a (takes_values a) v e

    most_by : (m : Bool) (text : List ℕ) (kind : Takes) (source : Bool) → takes_word kind ≡ true → most_values (acting m text (action_by kind source)) ≡ 1
    most_by m text Nothing source w = absurd cc
    most_by m text AnyText true w = refl
    most_by m text AnyText false w = refl
    most_by m text ShortText true w = refl
    most_by m text ShortText false w = refl
    most_by m text (Number least most) true w = refl
    most_by m text (Number least most) false w = refl
    most_by m text Unknown source w = absurd cc

    abbrev taken : Text → Walk
    taken word = between rows (Some (spelling n, word ∷ []))

    abbrev took : Text → Option Rule → Walk
    took word o = after_step c word (awaiting rows (spelling n)) (option_word o (spelling n) word waits_here).0 (next (option_word o (spelling n) word waits_here).1)

    takes_it : (word : Text) → took word (arg_by_id c (spelling n)) ≡ taken word
    takes_it word =
        let same : bytes_eq (spelling n) (spelling n) ≡ true = (bytes_eq-Decides (spelling n) (spelling n)).1 refl in
        let most : most_values (rule n) ≡ 1 = most_by (must n) (spelling n) (takes n) (is_source n) word_is in
        let waiting : ℕ → ℕ → Walk = λ k m. record (taken word) { waiting = cond (nat_lt k m) (option (spelling n)) idle } in
        ap (took word) (ruled.by_id n is) ∙ (λ i. waiting (cond (same i) 1 0) (most i))

    abbrev stepped : Text → Held × Step → Walk
    stepped word m = after_step c word (awaiting rows (spelling n)) m.0 m.1

    other_takes : (word : Text) (so : Option Text) → other_fault_at (option (spelling n)) so word waits_here ≡ []
        → stepped word (short_or_plain c (option (spelling n)) word so waits_here) ≡ taken word
    other_takes word None none = takes_it word
    other_takes word (Some flags) none =
        let met = letters (option (spelling n)) (length flags) flags word waits_here none in
        ap (λ (m : Held × Outcome). stepped word (after_flag c (option (spelling n)) word m.0 m.1)) met ∙ takes_it word

    -- a word that makes no fault is the value
    pub next_word : (word : Text) → bytes_eq word dashes ≡ false → turn_fault (shape c) [] (awaiting rows (spelling n)) word ≡ [] → walked c [] (awaiting rows (spelling n)) word ≡ taken word
    unfolding walked
    next_word word none_such none = go (word_of word)
      where
        go : Word word → walked c [] (awaiting rows (spelling n)) word ≡ taken word
        go (two_dashes two) = absurd (let bad : true ≡ false = sym two ∙ none_such in cc)
        go (long name text such is_long spelled) =
            absurd (long_fails name text word (sym (λ i. fault_at (option (spelling n)) (none_such i) (is_long i) word waits_here) ∙ none))
        go (other such is_long spelled) =
            (λ i. walked_at (awaiting rows (spelling n)) (option (spelling n)) (none_such i) (is_long i) word waits_here)
            ∙ other_takes word (short_of word) (sym (λ i. fault_at (option (spelling n)) (none_such i) (is_long i) word waits_here) ∙ none)

    -- a text makes no fault
    pub text_passes : (word : Text) → is_text word ≡ true → turn_fault (shape c) [] (awaiting rows (spelling n)) word ≡ []
    text_passes [] text = absurd cc
    text_passes (b ∷ bs) text = go (b == 45) refl text
      where
        go : (h : Bool) → b == 45 ≡ h → not h ≡ true → turn_fault (shape c) [] (awaiting rows (spelling n)) (b ∷ bs) ≡ []
        go true is_dash e = absurd cc
        go false is_dash e =
            let lo : long_of (b ∷ bs) ≡ None = rw is_dash refl in
            let so : short_of (b ∷ bs) ≡ None = rw is_dash refl in
            let two = not_dashes (b ∷ bs) (first_not b bs is_dash) in
            (λ i. fault_at (option (spelling n)) (two i) (lo i) (b ∷ bs) waits_here) ∙ ap (λ o. other_fault_at (option (spelling n)) o (b ∷ bs) waits_here) so
