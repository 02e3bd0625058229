-- Clap's walk over the words, beside the options that they spell.
use Rattle.std.proofs.Common.{◌≡◌, ◌∙◌, ◌⊎◌, inl, inr, ℕ, ◌&&◌, not, Bool, true, false, cond, List, [], ◌∷◌, Option, Some, None, refl, ap, sym, subst, arith, length, nat_le}
use Rattle.std.specs.Prelude.{◌==◌, bytes_eq, is_none, is_some}
use Rattle.std.proofs.lemmas.Bool.Decides.{nat_tests}
use Rattle.std.specs.List.{fold, list_all}
use Rattle.std.specs.Option.{option_map_or}
use Rattle.clap.specs.Kinds.{or_else}
use Rattle.clap.specs.declared.error.kind.ErrorKind.TheVariants.{ArgumentConflict, InvalidValue}
use Rattle.clap.specs.Walk.{Held, Row, Rule, Text, Walk, has_row, settled_rows, used, used_by_id, walked}
use Rattle.clap.specs.Faults.{settle_fault, turn_fault, use_fault, walk_fault}
use Rattle.program_words.specs.declared.name.Name.{Name}
use Rattle.program_words.specs.declared.name.Takes.{Takes}
use Rattle.program_words.specs.declared.name.Takes.TheVariants.{Nothing, AnyText, ShortText, Number, Unknown}
use Rattle.program_words.specs.Names.{is_source, takes}
use Rattle.program_words.specs.Given.{Given, awaits, fits, fits_none, fits_value, option_of, options_of, takes_word, with_value}
use Rattle.osq_value.specs.Spelling.{is_digit, is_numeral, value_of}
use Rattle.program_words.specs.Texts.{is_number, is_text, number_in}
use Rattle.program_words.specs.Reading.{has_form, has_form_by}
use Rattle.program_words.specs.Rules.{spelling}
use Rattle.program_words.proofs.Conditions.{first, second, not_true}
use Rattle.program_words.proofs.Spelled.{built}
use Rattle.program_words.proofs.Turns.{Ruled, Turn, stands, awaits_word, fails, awaiting, bare_fails, between, dashes, held, may_stand, next_word, none_form, or_else_first, or_else_none, or_else_second, rule_use, shape, stands_fault, text_passes, texts_of, turn}

-- ---- the options that a word and those behind it spell
spelt_alone : (word : List ℕ) (words : List (List ℕ)) → awaits (option_of word) ≡ false → options_of (word ∷ words) ≡ option_of word ∷ options_of words
unfolding options_of
spelt_alone word [] is = refl
spelt_alone word (next ∷ words) is = ap (λ b. cond b (with_value (option_of word) next ∷ options_of words) (option_of word ∷ options_of (next ∷ words))) is

spelt_last : (word : List ℕ) → options_of (word ∷ []) ≡ option_of word ∷ []
unfolding options_of
spelt_last word = refl

spelt_with : (word next : List ℕ) (words : List (List ℕ)) → awaits (option_of word) ≡ true → options_of (word ∷ next ∷ words) ≡ with_value (option_of word) next ∷ options_of words
unfolding options_of
spelt_with word next words is = ap (λ b. cond b (with_value (option_of word) next ∷ options_of words) (option_of word ∷ options_of (next ∷ words))) is

formed_alone : (g : Given) → has_form g ≡ true → awaits g ≡ false
unfolding awaits
formed_alone g form = go g.value form
  where
    kinds : (kind : Takes) → fits_none kind ≡ true → takes_word kind ≡ false
    kinds Nothing f = refl
    kinds AnyText f = absurd cc
    kinds ShortText f = absurd cc
    kinds (Number least most) f = absurd cc
    kinds Unknown f = absurd cc

    go : (v : Option (List ℕ)) → has_form_by (takes g.name) v ≡ true → is_none v && takes_word (takes g.name) ≡ false
    go None f = kinds (takes g.name) f
    go (Some text) f = refl

waits : (g : Given) → takes_word (takes g.name) ≡ true → g.value ≡ None → awaits g ≡ true
unfolding awaits
waits g word none = ap (λ v. is_none v && takes_word (takes g.name)) none ∙ word

valued_alone : (g : Given) → is_some g.value ≡ true → awaits g ≡ false
unfolding awaits
valued_alone g some = go g.value some
  where
    go : (v : Option (List ℕ)) → is_some v ≡ true → is_none v && takes_word (takes g.name) ≡ false
    go None e = absurd cc
    go (Some text) e = refl

abbrev pub no_dashes : List (List ℕ) → Bool
no_dashes words = list_all (λ word. not (bytes_eq word dashes)) words

once_from : (b : Bool) → cond b [] (ArgumentConflict ∷ []) ≡ [] → b ≡ true
once_from true e = refl
once_from false e = absurd cc

some_true : {X : Type 0} (b : Bool) (x : X) → is_some (cond b (Some x) None) ≡ true → b ≡ true
some_true true x e = refl
some_true false x e = absurd cc

no_dash : (b : ℕ) → is_digit b ≡ true → not (b == 45) ≡ true
no_dash b e = grind (arith, nat_tests)

numeral_text : (text : List ℕ) → is_numeral text ≡ true → is_text text ≡ true
numeral_text [] e = absurd cc
numeral_text (b ∷ bs) e = no_dash b (first (is_digit b) _ (second (nat_le 1 (length (b ∷ bs))) _ e))

number_text : (least most : ℕ) (text : List ℕ) → is_some (number_in least most text) ≡ true → is_text text ≡ true
unfolding number_in
number_text least most text e =
    let all = some_true (is_number text && nat_le least (value_of text) && nat_le (value_of text) most) (value_of text) e in
    numeral_text text (first (is_numeral text) _ (first (is_number text) _ (first (is_number text && nat_le least (value_of text)) _ all)))

-- a value that fits behind a name that takes one is a text
text_from : (kind : Takes) (text : List ℕ) → takes_word kind ≡ true → fits_value kind text ≡ true → is_text text ≡ true
text_from Nothing text w f = absurd cc
text_from AnyText text w f = f
text_from ShortText text w f = first (is_text text) _ f
text_from (Number least most) text w f = number_text least most text f
text_from Unknown text w f = absurd cc

module _ (c : List Rule) (known must : Name → Bool) (ruled : Ruled c known must) where
  abbrev rule : Name → Rule
  rule n = built (must n) n

  abbrev row_of : Given → List Row → List Row
  row_of g rows = used (rule g.name) (texts_of g.value) rows

  -- the options pass clap's tests, behind those of the rows
  abbrev pub passes : List Given → List Row → Bool
  passes [] rows = true
  passes (g ∷ gs) rows = (known g.name && has_form g) && (may_stand (is_source g.name) (has_row (spelling g.name) rows) && passes gs (row_of g rows))

  -- the rows behind those options
  abbrev pub rows_from : List Given → List Row → List Row
  rows_from [] rows = rows
  rows_from (g ∷ gs) rows = rows_from gs (row_of g rows)

  abbrev end_of : Walk → List Text → Held
  end_of w words = (fold (walked c []) w words).held

  abbrev settled_end : Walk → List Text → List Row
  settled_end w words = settled_rows c (end_of w words).pending (end_of w words).rows

  -- the options settle, pass and make the rows
  abbrev Told : List Text → List Row → Option (Text × List Text) → Type 0
  Told words rows p =
      (settle_fault c false (held rows p) ≡ []) × (passes (options_of words) (settled_rows c p rows) ≡ true)
      × (settled_end (between rows p) words ≡ rows_from (options_of words) (settled_rows c p rows))

  abbrev Claim : List Text → Type 0
  Claim words = (rows : List Row) (p : Option (Text × List Text)) → no_dashes words ≡ true → walk_fault (shape c) [] (between rows p) words ≡ []
      → settle_fault c false (end_of (between rows p) words) ≡ [] → Told words rows p

  turn_none : (w : Walk) (word : Text) (words : List Text) → walk_fault (shape c) [] w (word ∷ words) ≡ [] → turn_fault (shape c) [] w word ≡ []
  unfolding walk_fault
  turn_none w word words none = or_else_first (turn_fault (shape c) [] w word) _ none

  walk_none : (w after : Walk) (word : Text) (words : List Text) → walked c [] w word ≡ after → walk_fault (shape c) [] w (word ∷ words) ≡ [] → walk_fault (shape c) [] after words ≡ []
  unfolding walk_fault
  walk_none w after word words moves none = subst (λ v. walk_fault (shape c) [] v words ≡ []) moves (or_else_second (turn_fault (shape c) [] w word) _ none)

  end_moved : (w after : Walk) (word : Text) (words : List Text) → walked c [] w word ≡ after → end_of w (word ∷ words) ≡ end_of after words
  end_moved w after word words moves = ap (λ v. end_of v words) moves

  tells_stands : (word : Text) (words : List Text) → Claim words → (rows : List Row) (p : Option (Text × List Text)) → no_dashes words ≡ true
      → walk_fault (shape c) [] (between rows p) (word ∷ words) ≡ [] → settle_fault c false (end_of (between rows p) (word ∷ words)) ≡ []
      → known (option_of word).name ≡ true → has_form (option_of word) ≡ true
      → turn_fault (shape c) [] (between rows p) word ≡ stands_fault c known must ruled (option_of word).name p rows
      → walked c [] (between rows p) word ≡ between (row_of (option_of word) (settled_rows c p rows)) None → Told (word ∷ words) rows p
  tells_stands word words claim rows p clean none ends is form fault moves =
      let g = option_of word in
      let once = may_stand (is_source g.name) (has_row (spelling g.name) (settled_rows c p rows)) in
      let both = or_else_first (or_else (settle_fault c false (held rows p)) (cond once [] (ArgumentConflict ∷ []))) [] (sym fault ∙ turn_none (between rows p) word words none) in
      let settles = or_else_first (settle_fault c false (held rows p)) _ both in
      let stands_once = once_from once (or_else_second (settle_fault c false (held rows p)) _ both) in
      let (rest_settles, pass, made) = claim (row_of g (settled_rows c p rows)) None clean (walk_none (between rows p) _ word words moves none) (ap (settle_fault c false) (sym (end_moved (between rows p) _ word words moves)) ∙ ends) in
      let spelt = spelt_alone word words (formed_alone g form) in (
        settles,
        ap (λ gs. passes gs (settled_rows c p rows)) spelt ∙ (λ i. (is i && form i) && (stands_once i && pass i)),
        ap (λ (h : Held). settled_rows c h.pending h.rows) (end_moved (between rows p) _ word words moves) ∙ made ∙ ap (λ gs. rows_from gs (settled_rows c p rows)) (sym spelt),
      )

  tells_awaits : (word next : Text) (words : List Text) → Claim words → (rows : List Row) (p : Option (Text × List Text)) → no_dashes (next ∷ words) ≡ true
      → walk_fault (shape c) [] (between rows p) (word ∷ next ∷ words) ≡ [] → settle_fault c false (end_of (between rows p) (word ∷ next ∷ words)) ≡ []
      → known (option_of word).name ≡ true → takes_word (takes (option_of word).name) ≡ true → (option_of word).value ≡ None
      → turn_fault (shape c) [] (between rows p) word ≡ or_else (settle_fault c false (held rows p)) []
      → walked c [] (between rows p) word ≡ awaiting (settled_rows c p rows) (spelling (option_of word).name) → Told (word ∷ next ∷ words) rows p
  unfolding with_value
  tells_awaits word next words claim rows p clean none ends is word_is bare fault moves =
      let g = option_of word in
      let n = g.name in
      let mid = settled_rows c p rows in
      let one : Option (Text × List Text) = Some (spelling n, next ∷ []) in
      let settles = or_else_first (settle_fault c false (held rows p)) [] (sym fault ∙ turn_none (between rows p) word (next ∷ words) none) in
      let none_next = walk_none (between rows p) _ word (next ∷ words) moves none in
      let clear = not_true _ (first (not (bytes_eq next dashes)) _ clean) in
      let moves_next = next_word c known must ruled mid n is word_is next clear (turn_none (awaiting mid (spelling n)) next words none_next) in
      let ends_next = ap (settle_fault c false) (sym (end_moved (awaiting mid (spelling n)) _ next words moves_next) ∙ sym (end_moved (between rows p) _ word (next ∷ words) moves)) ∙ ends in
      let (rest_settles, pass, made) = claim mid one (second (not (bytes_eq next dashes)) _ clean) (walk_none (awaiting mid (spelling n)) _ next words moves_next none_next) ends_next in
      let uses = sym (ap (λ o. option_map_or (λ a. use_fault false a (next ∷ []) mid) o []) (ruled.by_id n is)) ∙ rest_settles in
      let once = may_stand (is_source n) (has_row (spelling n) mid) in
      let stands_once = once_from once (sym (rule_use (must n) n (Some next) mid word_is) ∙ uses) in
      let spelt = spelt_with word next words (waits g word_is bare) in
      let rows_are : settled_rows c one mid ≡ used (rule n) (next ∷ []) mid = ap (λ o. used_by_id o (next ∷ []) mid) (ruled.by_id n is) in (
        settles,
        ap (λ gs. passes gs mid) spelt ∙ (λ i. (is i && word_is i) && (stands_once i && passes (options_of words) (sym rows_are i))) ∙ pass,
        ap (λ (h : Held). settled_rows c h.pending h.rows) (end_moved (between rows p) _ word (next ∷ words) moves ∙ end_moved (awaiting mid (spelling n)) _ next words moves_next)
            ∙ made ∙ ap (rows_from (options_of words)) rows_are ∙ ap (λ gs. rows_from gs mid) (sym spelt),
      )

  awaits_last : (word : Text) (rows : List Row) (p : Option (Text × List Text)) → settle_fault c false (end_of (between rows p) (word ∷ [])) ≡ []
      → known (option_of word).name ≡ true → takes_word (takes (option_of word).name) ≡ true
      → walked c [] (between rows p) word ≡ awaiting (settled_rows c p rows) (spelling (option_of word).name) → ⊥
  awaits_last word rows p ends is word_is moves =
      let bare = bare_fails c known must ruled (settled_rows c p rows) (option_of word).name is word_is in
      let bad : InvalidValue ∷ [] ≡ [] = sym bare ∙ ap (settle_fault c false) (sym (end_moved (between rows p) _ word [] moves)) ∙ ends in
      cc

  tells_last : (word : Text) → Claim [] → (rows : List Row) (p : Option (Text × List Text)) → no_dashes [] ≡ true → walk_fault (shape c) [] (between rows p) (word ∷ []) ≡ []
      → settle_fault c false (end_of (between rows p) (word ∷ [])) ≡ [] → Turn c known must ruled (option_of word) rows p word → Told (word ∷ []) rows p
  tells_last word claim rows p clean none ends (stands is form fault moves) = tells_stands word [] claim rows p clean none ends is form fault moves
  tells_last word claim rows p clean none ends (awaits_word is word_is bare fault moves) = absurd (awaits_last word rows p ends is word_is moves)
  tells_last word claim rows p clean none ends (fails why never) = absurd (never (turn_none (between rows p) word [] none))

  tells_more : (word next : Text) (words : List Text) → Claim (next ∷ words) → Claim words → (rows : List Row) (p : Option (Text × List Text)) → no_dashes (next ∷ words) ≡ true
      → walk_fault (shape c) [] (between rows p) (word ∷ next ∷ words) ≡ [] → settle_fault c false (end_of (between rows p) (word ∷ next ∷ words)) ≡ []
      → Turn c known must ruled (option_of word) rows p word → Told (word ∷ next ∷ words) rows p
  tells_more word next words claim later rows p clean none ends (stands is form fault moves) = tells_stands word (next ∷ words) claim rows p clean none ends is form fault moves
  tells_more word next words claim later rows p clean none ends (awaits_word is word_is bare fault moves) =
      tells_awaits word next words later rows p clean none ends is word_is bare fault moves
  tells_more word next words claim later rows p clean none ends (fails why never) = absurd (never (turn_none (between rows p) word (next ∷ words) none))

  abbrev clear_of : (word : Text) (words : List Text) → no_dashes (word ∷ words) ≡ true → bytes_eq word dashes ≡ false
  clear_of word words clean = not_true _ (first (not (bytes_eq word dashes)) _ clean)

  -- clap's walk over the words, where it has no fault, makes the rows of their options
  pub walk_tells : (words : List Text) → Claim words
  unfolding options_of
  walk_tells [] rows p clean none ends = (ends, refl, refl)
  walk_tells (word ∷ []) rows p clean none ends =
      tells_last word (walk_tells []) rows p refl none ends (turn c known must ruled rows p word (clear_of word [] clean))
  walk_tells (word ∷ next ∷ words) rows p clean none ends =
      tells_more word next words (walk_tells (next ∷ words)) (walk_tells words) rows p (second (not (bytes_eq word dashes)) _ clean) none ends
      (turn c known must ruled rows p word (clear_of word (next ∷ words) clean))

  -- ---- the other way round: options that pass make no fault
  abbrev valued : List Given → Bool
  valued gs = list_all (λ g. fits (takes g.name) g.value) gs

  abbrev Silent : List Text → List Row → Option (Text × List Text) → Type 0
  Silent words rows p = (walk_fault (shape c) [] (between rows p) words ≡ []) × (settle_fault c false (end_of (between rows p) words) ≡ [])

  abbrev Quiet : List Text → Type 0
  Quiet words = (rows : List Row) (p : Option (Text × List Text)) → no_dashes words ≡ true → settle_fault c false (held rows p) ≡ []
      → passes (options_of words) (settled_rows c p rows) ≡ true → valued (options_of words) ≡ true → Silent words rows p

  silent_after : (w after : Walk) (word : Text) (words : List Text) → turn_fault (shape c) [] w word ≡ [] → walked c [] w word ≡ after
      → walk_fault (shape c) [] after words ≡ [] → walk_fault (shape c) [] w (word ∷ words) ≡ []
  unfolding walk_fault
  silent_after w after word words none moves rest =
      or_else_none _ _ none (subst (λ v. walk_fault (shape c) [] v words ≡ []) (sym moves) rest)

  abbrev pass_known : Given → List Given → List Row → Bool
  pass_known g gs rows = may_stand (is_source g.name) (has_row (spelling g.name) rows) && passes gs (row_of g rows)

  silent_stands : (word : Text) (words : List Text) → Quiet words → (rows : List Row) (p : Option (Text × List Text)) → no_dashes words ≡ true → settle_fault c false (held rows p) ≡ []
      → passes (options_of (word ∷ words)) (settled_rows c p rows) ≡ true → valued (options_of (word ∷ words)) ≡ true → has_form (option_of word) ≡ true
      → turn_fault (shape c) [] (between rows p) word ≡ stands_fault c known must ruled (option_of word).name p rows
      → walked c [] (between rows p) word ≡ between (row_of (option_of word) (settled_rows c p rows)) None → Silent (word ∷ words) rows p
  silent_stands word words quiet rows p clean settles pass good form fault moves =
      let g = option_of word in
      let mid = settled_rows c p rows in
      let spelt = spelt_alone word words (formed_alone g form) in
      let passing : passes (g ∷ options_of words) mid ≡ true = ap (λ gs. passes gs mid) (sym spelt) ∙ pass in
      let fitting : valued (g ∷ options_of words) ≡ true = ap valued (sym spelt) ∙ good in
      let two = second (known g.name && has_form g) _ passing in
      let stands_once = first (may_stand (is_source g.name) (has_row (spelling g.name) mid)) _ two in
      let (walk_silent, end_silent) = quiet (row_of g mid) None clean refl (second (may_stand (is_source g.name) (has_row (spelling g.name) mid)) _ two) (second (fits (takes g.name) g.value) _ fitting) in
      let none : stands_fault c known must ruled g.name p rows ≡ [] = λ i. or_else (or_else (settles i) (cond (stands_once i) [] (ArgumentConflict ∷ []))) [] in
      (silent_after (between rows p) _ word words (fault ∙ none) moves walk_silent, ap (settle_fault c false) (end_moved (between rows p) _ word words moves) ∙ end_silent)

  -- what awaited its value and passes
  silent_awaits : (word next : Text) (words : List Text) → Quiet words → (rows : List Row) (p : Option (Text × List Text)) → no_dashes (next ∷ words) ≡ true → settle_fault c false (held rows p) ≡ []
      → passes (options_of (word ∷ next ∷ words)) (settled_rows c p rows) ≡ true → valued (options_of (word ∷ next ∷ words)) ≡ true
      → known (option_of word).name ≡ true → takes_word (takes (option_of word).name) ≡ true → (option_of word).value ≡ None
      → turn_fault (shape c) [] (between rows p) word ≡ or_else (settle_fault c false (held rows p)) []
      → walked c [] (between rows p) word ≡ awaiting (settled_rows c p rows) (spelling (option_of word).name) → Silent (word ∷ next ∷ words) rows p
  unfolding with_value fits
  silent_awaits word next words quiet rows p clean settles pass good is word_is bare fault moves =
      let g = option_of word in
      let n = g.name in
      let mid = settled_rows c p rows in
      let one : Option (Text × List Text) = Some (spelling n, next ∷ []) in
      let spelt = spelt_with word next words (waits g word_is bare) in
      let passing : passes (with_value g next ∷ options_of words) mid ≡ true = ap (λ gs. passes gs mid) (sym spelt) ∙ pass in
      let fitting : valued (with_value g next ∷ options_of words) ≡ true = ap valued (sym spelt) ∙ good in
      let once = may_stand (is_source n) (has_row (spelling n) mid) in
      let two : once && passes (options_of words) (used (rule n) (next ∷ []) mid) ≡ true = second (known n && takes_word (takes n)) _ passing in
      let stands_once = first once _ two in
      let text = text_from (takes n) next word_is (first (fits_value (takes n) next) _ fitting) in
      let none = fault ∙ or_else_none _ [] settles refl in
      let clear = not_true _ (first (not (bytes_eq next dashes)) _ clean) in
      let none_next = text_passes c known must ruled mid n is word_is next text in
      let moves_next = next_word c known must ruled mid n is word_is next clear none_next in
      let rows_are : settled_rows c one mid ≡ used (rule n) (next ∷ []) mid = ap (λ o. used_by_id o (next ∷ []) mid) (ruled.by_id n is) in
      let settles_next : settle_fault c false (held mid one) ≡ [] =
      ap (λ o. option_map_or (λ a. use_fault false a (next ∷ []) mid) o []) (ruled.by_id n is) ∙ rule_use (must n) n (Some next) mid word_is ∙ ap (λ b. cond b [] (ArgumentConflict ∷ [])) stands_once in
      let (walk_silent, end_silent) = quiet mid one (second (not (bytes_eq next dashes)) _ clean) settles_next (ap (passes (options_of words)) rows_are ∙ second once _ two) (second (fits_value (takes n) next) _ fitting) in (
        silent_after (between rows p) _ word (next ∷ words) none moves (silent_after (awaiting mid (spelling n)) _ next words none_next moves_next walk_silent),
        ap (settle_fault c false) (end_moved (between rows p) _ word (next ∷ words) moves ∙ end_moved (awaiting mid (spelling n)) _ next words moves_next) ∙ end_silent,
      )

  -- an option that isn't the command's, or whose form is another, doesn't pass
  unfit : (g : Given) (gs : List Given) (rows : List Row) → (known g.name ≡ false) ⊎ (has_form g ≡ false) → passes (g ∷ gs) rows ≡ true → ⊥
  unfit g gs rows (inl is) pass =
      let bad : false ≡ true = sym is ∙ first (known g.name) _ (first (known g.name && has_form g) _ pass) in
      cc
  unfit g gs rows (inr is) pass =
      let bad : false ≡ true = sym is ∙ second (known g.name) _ (first (known g.name && has_form g) _ pass) in
      cc

  fails_first : (word : Text) (words : List Text) (rows : List Row) → (known (option_of word).name ≡ false) ⊎ ((is_some (option_of word).value ≡ true) × (has_form (option_of word) ≡ false))
      → passes (options_of (word ∷ words)) rows ≡ true → ⊥
  unfolding with_value
  fails_first word words rows (inr why) pass =
      unfit (option_of word) (options_of words) rows (inr why.1) (ap (λ gs. passes gs rows) (sym (spelt_alone word words (valued_alone (option_of word) why.0))) ∙ pass)
  fails_first word [] rows (inl why) pass = unfit (option_of word) [] rows (inl why) (ap (λ gs. passes gs rows) (sym (spelt_last word)) ∙ pass)
  fails_first word (next ∷ words) rows (inl why) pass = go (awaits (option_of word)) refl
    where
      go : (b : Bool) → awaits (option_of word) ≡ b → ⊥
      go true is = unfit (with_value (option_of word) next) (options_of words) rows (inl why) (ap (λ gs. passes gs rows) (sym (spelt_with word next words is)) ∙ pass)
      go false is = unfit (option_of word) (options_of (next ∷ words)) rows (inl why) (ap (λ gs. passes gs rows) (sym (spelt_alone word (next ∷ words) is)) ∙ pass)

  bare_unfit : (g : Given) (gs : List Given) (rows : List Row) → takes_word (takes g.name) ≡ true → g.value ≡ None → passes (g ∷ gs) rows ≡ true → ⊥
  bare_unfit g gs rows word_is bare pass =
      none_form (takes g.name) word_is (ap (has_form_by (takes g.name)) (sym bare) ∙ second (known g.name) _ (first (known g.name && has_form g) _ pass))

  silent_last : (word : Text) → Quiet [] → (rows : List Row) (p : Option (Text × List Text)) → settle_fault c false (held rows p) ≡ [] → passes (options_of (word ∷ [])) (settled_rows c p rows) ≡ true
      → valued (options_of (word ∷ [])) ≡ true → Turn c known must ruled (option_of word) rows p word → Silent (word ∷ []) rows p
  silent_last word quiet rows p settles pass good (stands is form fault moves) = silent_stands word [] quiet rows p refl settles pass good form fault moves
  silent_last word quiet rows p settles pass good (awaits_word is word_is bare fault moves) =
      absurd (bare_unfit (option_of word) [] (settled_rows c p rows) word_is bare (ap (λ gs. passes gs (settled_rows c p rows)) (sym (spelt_last word)) ∙ pass))
  silent_last word quiet rows p settles pass good (fails why never) = absurd (fails_first word [] (settled_rows c p rows) why pass)

  silent_more : (word next : Text) (words : List Text) → Quiet (next ∷ words) → Quiet words → (rows : List Row) (p : Option (Text × List Text)) → no_dashes (next ∷ words) ≡ true
      → settle_fault c false (held rows p) ≡ [] → passes (options_of (word ∷ next ∷ words)) (settled_rows c p rows) ≡ true → valued (options_of (word ∷ next ∷ words)) ≡ true
      → Turn c known must ruled (option_of word) rows p word → Silent (word ∷ next ∷ words) rows p
  silent_more word next words quiet later rows p clean settles pass good (stands is form fault moves) = silent_stands word (next ∷ words) quiet rows p clean settles pass good form fault moves
  silent_more word next words quiet later rows p clean settles pass good (awaits_word is word_is bare fault moves) =
      silent_awaits word next words later rows p clean settles pass good is word_is bare fault moves
  silent_more word next words quiet later rows p clean settles pass good (fails why never) = absurd (fails_first word (next ∷ words) (settled_rows c p rows) why pass)

  -- words whose options pass, with values that fit, make no fault in clap's walk
  pub walk_silent : (words : List Text) → Quiet words
  unfolding walk_fault
  walk_silent [] rows p clean settles pass good = (refl, settles)
  walk_silent (word ∷ []) rows p clean settles pass good =
      silent_last word (walk_silent []) rows p settles pass good (turn c known must ruled rows p word (clear_of word [] clean))
  walk_silent (word ∷ next ∷ words) rows p clean settles pass good =
      silent_more word next words (walk_silent (next ∷ words)) (walk_silent words) rows p (second (not (bytes_eq word dashes)) _ clean) settles pass good
      (turn c known must ruled rows p word (clear_of word (next ∷ words) clean))
