-- What clap's matches of a command's words tell, and when it gives none.
use Rattle.std.proofs.Common.{◌≡◌, ◌∙◌, ℕ, ◌&&◌, ◌||◌, not, Bool, true, false, cond, List, [], ◌∷◌, ◌++◌, Option, Some, None, refl, ap, sym, subst, map, drop, unwrap_or, append-nil}
use Rattle.std.specs.Prelude.{◌==◌, bytes_eq, codes, is_some, slice_get}
use Rattle.std.specs.List.{find, fold, list_all, list_any}
use Rattle.std.specs.Option.{option_map_or}
use Rattle.clap.specs.Kinds.{Kinds, or_else}
use Rattle.clap.specs.declared.error.kind.ErrorKind.TheVariants.{MissingRequiredArgument}
use Rattle.clap.specs.Words.{App, matches_of}
use Rattle.clap.specs.Simple.{built as built_app, on_top}
use Rattle.clap.specs.Takes.{is_given}
use Rattle.clap.specs.Faults.{default_fault, defaults_fault, fault_of, is_simple_and_free, level_fault, settle_fault, walk_fault}
use Rattle.clap.specs.Walk.{Held, Row, Rule, Text, all_of, finished, has_long, has_row, has_short, nothing_held, one_of, settled_rows, with_default, with_values}
use Rattle.clap.specs.Simple.{filled_from}
use Rattle.clap.proofs.FaultLemmas.{leaf_fault}
use Rattle.clap.specs.declared.builder.value_parser.Reading.TheVariants.{AsWritten}
use Rattle.clap.specs.declared.parser.matches.ValueSource.TheVariants.{DefaultValue}
use Rattle.program_words.specs.declared.command.CommandName.{CommandName}
use Rattle.program_words.specs.declared.command.CommandName.TheVariants.{Replay, Daemon, Query, Check, Collect, Generate, SelfTest, Report, Fleet}
use Rattle.program_words.specs.declared.name.Name.{Name}
use Rattle.program_words.specs.declared.name.Name.TheVariants.{Other}
use Rattle.program_words.specs.declared.name.Takes.{Takes}
use Rattle.program_words.specs.declared.name.Takes.TheVariants.{Nothing, AnyText, ShortText, Number, Unknown}
use Rattle.program_words.specs.Names.{is_source, place, same_name, takes}
use Rattle.program_words.specs.Given.{Given, fits, fits_none, options_of, stands, takes_word}
use Rattle.program_words.specs.Commands.{has_option, has_refused, has_required, is_refused, optional, refused, required}
use Rattle.program_words.specs.Reading.{Tells, are_spelled, has_form, is_spelled, values_named}
use Rattle.program_words.specs.Rules.{action_by, app_for, bare, rule_for, spelling, with_options}
use Rattle.program_words.proofs.Conditions.{first, second, neither_first, neither_second}
use Rattle.program_words.proofs.Spelled.{any_name, are_names, built, found, name_of-spelling, none_found, one_name, with_options-is}
use Rattle.program_words.proofs.Turns.{Ruled, acting, none_form, or_else_first, or_else_none, or_else_second, between, dashes, shape}
use Rattle.program_words.proofs.Walks.{no_dashes, passes, rows_from, walk_silent, walk_tells}
use Rattle.program_words.proofs.Rows.{all-and, all_formed, apart_passes, cell_given, cell_of, cell_text, cell_values, cell-with_values, free, given_made, grown, has_row-cell, is_real, one_first, passes_apart, real_so, spells_one, vals_flag, vals_valued, values_made, written_made}

-- ---- the value of a flag that doesn't stand
abbrev unset : Text → List Row → List Row
unset id rows = with_values id AsWritten DefaultValue (codes "false" ∷ []) rows

default_is : (must : Bool) (text : List ℕ) (kind : Takes) (source : Bool) (rows : List Row)
    → with_default rows (acting must text (action_by kind source)) ≡ cond (has_row text rows) rows (cond (fits_none kind) (unset text rows) rows)
default_is must text Nothing source rows = refl
default_is must text AnyText true rows = refl
default_is must text AnyText false rows = refl
default_is must text ShortText true rows = refl
default_is must text ShortText false rows = refl
default_is must text (Number least most) true rows = refl
default_is must text (Number least most) false rows = refl
default_is must text Unknown true rows = refl
default_is must text Unknown false rows = refl

abbrev unset_cell : Name → Option Row → Option Row
unset_cell m o = Some (grown (spelling m) AsWritten DefaultValue (codes "false" ∷ []) o)

cell_default : (must : Bool) (n m : Name) (rows : List Row) → is_real n ≡ true → is_real m ≡ true
    → cell_of n (with_default rows (built must m)) ≡ cond (has_row (spelling m) rows) (cell_of n rows) (cond (fits_none (takes m)) (cond (same_name n m) (unset_cell m (cell_of n rows)) (cell_of n rows)) (cell_of n rows))
cell_default must n m rows real_n real_m = ap (cell_of n) (default_is must (spelling m) (takes m) (is_source m) rows) ∙ go (has_row (spelling m) rows) (fits_none (takes m))
  where
    go : (there flag : Bool) → cell_of n (cond there rows (cond flag (unset (spelling m) rows) rows))
        ≡ cond there (cell_of n rows) (cond flag (cond (same_name n m) (unset_cell m (cell_of n rows)) (cell_of n rows)) (cell_of n rows))
    go true flag = refl
    go false true =
        cell-with_values (spelling n) (spelling m) AsWritten DefaultValue (codes "false" ∷ []) rows
        ∙ ap (λ b. cond b (unset_cell m (cell_of n rows)) (cell_of n rows)) (spells_one m n real_m real_n)
    go false false = refl

no_cell : (n m : Name) (rows : List Row) → same_name n m ≡ true → has_row (spelling m) rows ≡ false → cell_of n rows ≡ None
no_cell n m rows same none =
    let gone : is_some (cell_of n rows) ≡ false = sym (has_row-cell (spelling n) rows) ∙ ap (λ k. has_row (spelling k) rows) (one_name n m same) ∙ none in
    go (cell_of n rows) gone
  where
    go : (o : Option Row) → is_some o ≡ false → o ≡ None
    go None e = refl
    go (Some r) e = absurd cc

-- what can't tell a flag that doesn't stand from one that nothing is known of
default_keeps : {X : Type 0} (f : Option Row → X) → ((m : Name) → f (unset_cell m None) ≡ f None) → (n : Name) → is_real n ≡ true → (must : Bool) (m : Name) (rows : List Row) → is_real m ≡ true
    → f (cell_of n (with_default rows (built must m))) ≡ f (cell_of n rows)
default_keeps f blind n real_n must m rows real_m = ap f (cell_default must n m rows real_n real_m) ∙ go (has_row (spelling m) rows) refl (fits_none (takes m)) (same_name n m) refl
  where
    go : (there : Bool) → has_row (spelling m) rows ≡ there → (flag same : Bool) → same_name n m ≡ same
        → f (cond there (cell_of n rows) (cond flag (cond same (unset_cell m (cell_of n rows)) (cell_of n rows)) (cell_of n rows))) ≡ f (cell_of n rows)
    go true is flag same e = refl
    go false is false same e = refl
    go false is true false e = refl
    go false is true true e =
        let none = no_cell n m rows e is in
        ap (λ o. f (unset_cell m o)) none ∙ blind m ∙ ap f (sym none)

-- a flag is no option that takes a value
default_leaves : (n : Name) → is_real n ≡ true → takes_word (takes n) ≡ true → (must : Bool) (m : Name) (rows : List Row) → is_real m ≡ true → cell_of n (with_default rows (built must m)) ≡ cell_of n rows
default_leaves n real_n word must m rows real_m = cell_default must n m rows real_n real_m ∙ go (has_row (spelling m) rows) (fits_none (takes m)) refl (same_name n m) refl
  where
    go : (there flag : Bool) → fits_none (takes m) ≡ flag → (same : Bool) → same_name n m ≡ same
        → cond there (cell_of n rows) (cond flag (cond same (unset_cell m (cell_of n rows)) (cell_of n rows)) (cell_of n rows)) ≡ cell_of n rows
    go true flag is same e = refl
    go false false is same e = refl
    go false true is false e = refl
    go false true is true e = absurd (none_form (takes m) (subst (λ k. takes_word (takes k) ≡ true) (one_name n m e) word) is)

-- ---- over all the rules
abbrev table : List Name → List Name → List Rule
table req opt = map (rule_for true) req ++ map (rule_for false) opt

fold_keeps : {X : Type 0} (g : List Row → X) → ((must : Bool) (m : Name) (rows : List Row) → is_real m ≡ true → g (with_default rows (built must m)) ≡ g rows)
    → (must : Bool) (ns : List Name) (behind : List Rule) → are_names ns ≡ true → ((rows : List Row) → g (fold with_default rows (filled_from 1 behind)) ≡ g rows)
    → (rows : List Row) → g (fold with_default rows (filled_from 1 (map (rule_for must) ns ++ behind))) ≡ g rows
fold_keeps g keeps must [] behind all rest rows = rest rows
fold_keeps g keeps must (n ∷ ns) behind all rest rows =
    fold_keeps g keeps must ns behind (second (is_real n) _ all) rest (with_default rows (built must n)) ∙ keeps must n rows (first (is_real n) _ all)

finish_keeps : {X : Type 0} (g : List Row → X) → ((must : Bool) (m : Name) (rows : List Row) → is_real m ≡ true → g (with_default rows (built must m)) ≡ g rows)
    → (req opt : List Name) → are_names req ≡ true → are_names opt ≡ true → (rows : List Row) → g (fold with_default rows (filled_from 1 (table req opt))) ≡ g rows
finish_keeps g keeps req opt right allowed rows =
    fold_keeps g keeps true req (map (rule_for false) opt) right (λ r. ap (λ rules. g (fold with_default r (filled_from 1 rules))) (sym (append-nil (map (rule_for false) opt))) ∙ fold_keeps g keeps false opt [] allowed (λ q. refl) r) rows

either_way : (b : Bool) → ◌≡◌ {A = Kinds} (cond b [] []) []
either_way true = refl
either_way false = refl

nothing_by_default : (b : Bool) (kinds : Kinds) → cond (b || true) [] kinds ≡ []
nothing_by_default true kinds = refl
nothing_by_default false kinds = refl

default_silent : (must : Bool) (text : List ℕ) (kind : Takes) (source : Bool) (rows : List Row) → default_fault rows (acting must text (action_by kind source)) ≡ []
default_silent must text Nothing source rows = either_way (has_row text rows || false)
default_silent must text AnyText true rows = nothing_by_default (has_row text rows) _
default_silent must text AnyText false rows = nothing_by_default (has_row text rows) _
default_silent must text ShortText true rows = nothing_by_default (has_row text rows) _
default_silent must text ShortText false rows = nothing_by_default (has_row text rows) _
default_silent must text (Number least most) true rows = nothing_by_default (has_row text rows) _
default_silent must text (Number least most) false rows = nothing_by_default (has_row text rows) _
default_silent must text Unknown true rows = nothing_by_default (has_row text rows) _
default_silent must text Unknown false rows = nothing_by_default (has_row text rows) _

defaults_silent : (must : Bool) (ns : List Name) (behind : List Rule) → ((rows : List Row) → defaults_fault rows (filled_from 1 behind) ≡ []) → (rows : List Row)
    → defaults_fault rows (filled_from 1 (map (rule_for must) ns ++ behind)) ≡ []
unfolding defaults_fault
defaults_silent must [] behind rest rows = rest rows
defaults_silent must (n ∷ ns) behind rest rows =
    or_else_none (default_fault rows (built must n)) _ (default_silent must (spelling n) (takes n) (is_source n) rows) (defaults_silent must ns behind rest (with_default rows (built must n)))

no_defaults : (rows : List Row) → defaults_fault rows (filled_from 1 []) ≡ []
unfolding defaults_fault
no_defaults rows = refl

all_defaults_silent : (req opt : List Name) (rows : List Row) → defaults_fault rows (filled_from 1 (table req opt)) ≡ []
all_defaults_silent req opt rows =
    defaults_silent true req (map (rule_for false) opt) (λ r. ap (λ rules. defaults_fault r (filled_from 1 rules)) (sym (append-nil (map (rule_for false) opt))) ∙ defaults_silent false opt [] no_defaults r) rows

-- ---- the required ones
abbrev is_missing : List Row → Rule → Bool
is_missing rows a = a.required && not (is_given a.id rows)

missing_required : (rows : List Row) (ns : List Name) (behind : List Rule)
    → list_any (is_missing rows) (filled_from 1 (map (rule_for true) ns ++ behind)) ≡ not (list_all (λ n. is_given (spelling n) rows) ns) || list_any (is_missing rows) (filled_from 1 behind)
missing_required rows [] behind = refl
missing_required rows (n ∷ ns) behind =
    ap (λ b. not (is_given (spelling n) rows) || b) (missing_required rows ns behind) ∙ go (is_given (spelling n) rows) (list_all (λ m. is_given (spelling m) rows) ns) (list_any (is_missing rows) (filled_from 1 behind))
  where
    go : (a b d : Bool) → not a || (not b || d) ≡ not (a && b) || d
    go true b d = refl
    go false b d = refl

missing_optional : (rows : List Row) (ns : List Name) (behind : List Rule)
    → list_any (is_missing rows) (filled_from 1 (map (rule_for false) ns ++ behind)) ≡ list_any (is_missing rows) (filled_from 1 behind)
missing_optional rows [] behind = refl
missing_optional rows (n ∷ ns) behind = missing_optional rows ns behind

or_false : (b : Bool) → b || false ≡ b
or_false true = refl
or_false false = refl

missing_is : (req opt : List Name) (rows : List Row) → list_any (is_missing rows) (filled_from 1 (table req opt)) ≡ not (list_all (λ n. is_given (spelling n) rows) req)
missing_is req opt rows =
    missing_required rows req (map (rule_for false) opt)
    ∙ ap (λ b. not (list_all (λ n. is_given (spelling n) rows) req) || b) (ap (λ rules. list_any (is_missing rows) (filled_from 1 rules)) (sym (append-nil (map (rule_for false) opt))) ∙ missing_optional rows opt [])
    ∙ or_false _

-- ---- the rules of a command
real_among : (ns : List Name) (n : Name) → are_names ns ≡ true → any_name n ns ≡ true → same_name n Other ≡ false
real_among [] n all any = absurd cc
real_among (m ∷ ms) n all any = go (same_name n m) refl any (real_among ms n (second (is_real m) _ all))
  where
    go : (b : Bool) → same_name n m ≡ b → b || any_name n ms ≡ true → (any_name n ms ≡ true → same_name n Other ≡ false) → same_name n Other ≡ false
    go true is e rest = real_so n (subst (λ k. is_real k ≡ true) (sym (one_name n m is)) (first (is_real m) _ all))
    go false is e rest = rest e

required_real : (command : CommandName) → are_names (required command) ≡ true
unfolding required place
required_real Replay = refl
required_real Daemon = refl
required_real Query = refl
required_real Check = refl
required_real Collect = refl
required_real Generate = refl
required_real SelfTest = refl
required_real Report = refl
required_real Fleet = refl

optional_real : (command : CommandName) → are_names (optional command) ≡ true
unfolding optional place
optional_real Replay = refl
optional_real Daemon = refl
optional_real Query = refl
optional_real Check = refl
optional_real Collect = refl
optional_real Generate = refl
optional_real SelfTest = refl
optional_real Report = refl
optional_real Fleet = refl

abbrev rules_of : CommandName → List Rule
rules_of command = filled_from 1 (table (required command) (optional command))

abbrev is_required : CommandName → Name → Bool
is_required command n = any_name n (required command)

option_real : (command : CommandName) (n : Name) → has_option command n ≡ true → same_name n Other ≡ false
unfolding has_option
option_real command n is = go (any_name n (required command)) refl is
  where
    go : (b : Bool) → any_name n (required command) ≡ b → b || any_name n (optional command) ≡ true → same_name n Other ≡ false
    go true among e = real_among (required command) n (required_real command) among
    go false among e = real_among (optional command) n (optional_real command) e

none_at_all : (command : CommandName) (p : Rule → Bool) → ((must : Bool) (n : Name) → p (built must n) ≡ false) → find p (rules_of command) ≡ None
none_at_all command p fails =
    none_found p fails true (required command) (map (rule_for false) (optional command))
    ∙ ap (λ rules. find p (filled_from 1 rules)) (sym (append-nil (map (rule_for false) (optional command)))) ∙ none_found p fails false (optional command) []

ruled_by : (command : CommandName) → Ruled (rules_of command) (has_option command) (is_required command)
unfolding has_option
ruled_by command = record {
  by_long = λ text. found text (λ a. not (is_some a.index) && has_long a text) (λ must n. or_false (bytes_eq (spelling n) text)) (required command) (optional command) (required_real command) (optional_real command);
  by_id = λ n is.
      found (spelling n) (λ a. bytes_eq a.id (spelling n)) (λ must m. refl) (required command) (optional command) (required_real command) (optional_real command)
      ∙ ap (λ m. cond (has_option command m) (Some (built (is_required command m) m)) None) (name_of-spelling n (option_real command n is))
      ∙ ap (λ b. cond b (Some (built (is_required command n) n)) None) is;
  by_short = λ x. none_at_all command (λ a. not (is_some a.index) && has_short a x) (λ must n. refl);
  by_index = λ i. none_at_all command (λ a. option_map_or (λ k. k == i) a.index false) (λ must n. refl);
  real = option_real command;
}

-- ---- the command
abbrev with_rules : List Rule → App
with_rules rules = on_top (λ s. record s { rules = rules }) bare

app_is : (command : CommandName) → app_for command ≡ with_rules (table (required command) (optional command))
app_is command =
    ap (λ app. with_options app false (optional command)) (with_options-is bare true (required command))
    ∙ with_options-is (with_rules (map (rule_for true) (required command))) false (optional command)

pub simple : (command : CommandName) → is_simple_and_free (app_for command) ≡ true
unfolding required optional takes is_source
simple Replay = refl
simple Daemon = refl
simple Query = refl
simple Check = refl
simple Collect = refl
simple Generate = refl
simple SelfTest = refl
simple Report = refl
simple Fleet = refl

-- the words that clap reads, with no `--` among them
no_two : (word : List ℕ) → is_refused word ≡ false → not (bytes_eq word dashes) ≡ true
unfolding is_refused refused
no_two word is = ap not (neither_first (bytes_eq word dashes) _ is)

clean_words : (words : List (List ℕ)) → has_refused words ≡ false → no_dashes words ≡ true
unfolding has_refused
clean_words [] none = refl
clean_words (word ∷ words) none =
    let here = no_two word (neither_first (is_refused word) _ none) in
    let rest = clean_words words (neither_second (is_refused word) _ none) in
    (λ i. here i && rest i)

clean_behind : (words : List (List ℕ)) → has_refused words ≡ false → no_dashes (drop 1 words) ≡ true
unfolding has_refused
clean_behind [] none = refl
clean_behind (word ∷ words) none = clean_words words (neither_second (is_refused word) _ none)

real_taking : (n : Name) → takes_word (takes n) ≡ true → is_real n ≡ true
unfolding takes
real_taking n word = go (same_name n Other) refl
  where
    go : (b : Bool) → same_name n Other ≡ b → not b ≡ true
    go true is = absurd (let bad : false ≡ true = subst (λ m. takes_word (takes m) ≡ true) (one_name n Other is) word in cc)
    go false is = refl

real_flag : (n : Name) → takes n ≡ Nothing → is_real n ≡ true
unfolding takes
real_flag n flag = go (same_name n Other) refl
  where
    go : (b : Bool) → same_name n Other ≡ b → not b ≡ true
    go true is = absurd (let bad : false ≡ true = ap fits_none (subst (λ m. takes m ≡ Nothing) (one_name n Other is) flag) in cc)
    go false is = refl

pub formed_all : (command : CommandName) (gs : List Given) → list_all (is_spelled command) gs ≡ true → all_formed gs ≡ true
formed_all command gs all = second (list_all (λ g. has_option command g.name) gs) _ (sym (all-and (λ g. has_option command g.name) has_form gs) ∙ all)

module _ (command : CommandName) (gs : List Given) where
  abbrev c : List Rule
  c = rules_of command

  abbrev knows : Name → Bool
  knows = has_option command

  abbrev wants : Name → Bool
  wants = is_required command

  abbrev made : List Row
  made = rows_from c knows wants (ruled_by command) gs []

  abbrev Pass : Type 0
  Pass = passes c knows wants (ruled_by command) gs [] ≡ true

  abbrev end : List Row
  end = fold with_default made c

  kept : {X : Type 0} (g : List Row → X) → ((must : Bool) (m : Name) (rows : List Row) → is_real m ≡ true → g (with_default rows (built must m)) ≡ g rows) → g end ≡ g made
  kept g keeps = finish_keeps g keeps (required command) (optional command) (required_real command) (optional_real command) made

  given_end : (n : Name) → is_real n ≡ true → Pass → is_given (spelling n) end ≡ stands n gs
  given_end n real pass =
      kept (λ rows. is_given (spelling n) rows) (default_keeps cell_given (λ m. refl) n real) ∙ given_made c knows wants (ruled_by command) n gs [] real pass ∙ or_false (stands n gs)

  all_given : (ns : List Name) → are_names ns ≡ true → Pass → list_all (λ n. is_given (spelling n) end) ns ≡ list_all (λ n. stands n gs) ns
  all_given [] real pass = refl
  all_given (n ∷ ns) real pass =
      let here = given_end n (first (is_real n) _ real) pass in
      let rest = all_given ns (second (is_real n) _ real) pass in
      (λ i. here i && rest i)

  missing_end : Pass → list_any (is_missing end) c ≡ not (has_required command gs)
  unfolding has_required
  missing_end pass = missing_is (required command) (optional command) end ∙ ap not (all_given (required command) (required_real command) pass)

  values_end : (n : Name) → takes_word (takes n) ≡ true → Pass → all_formed gs ≡ true → unwrap_or (all_of (spelling n) end) [] ≡ values_named n gs
  values_end n word pass formed =
      let real = real_taking n word in
      ap cell_values (kept (λ rows. cell_of n rows) (default_leaves n real word)) ∙ values_made c knows wants (ruled_by command) n gs [] real pass ∙ vals_valued n gs word formed

  abbrev flag_text : Option Row → Text
  flag_text o = unwrap_or (cell_text o) (codes "false")

  flags_end : (n : Name) → takes n ≡ Nothing → Pass → all_formed gs ≡ true → unwrap_or (one_of (spelling n) end) (codes "false") ≡ cond (stands n gs) (codes "true") (codes "false")
  flags_end n flag pass formed =
      let real = real_flag n flag in
      let written = written_made c knows wants (ruled_by command) n gs [] real pass refl in
      kept (λ rows. flag_text (cell_of n rows)) (default_keeps flag_text (λ m. refl) n real)
      ∙ ap (λ o. unwrap_or o (codes "false")) (one_first n made written ∙ ap (λ v. slice_get v 0) (values_made c knows wants (ruled_by command) n gs [] real pass))
      ∙ vals_flag n gs (ap fits_none flag) formed

  free_none : (hs : List Given) → list_all (free []) hs ≡ true
  free_none [] = refl
  free_none (h ∷ hs) = ap (λ b. b && list_all (free []) hs) (go (is_source h.name)) ∙ free_none hs
    where
      go : (b : Bool) → b || true ≡ true
      go true = refl
      go false = refl

  -- what passes is what clap tells apart
  pass_from : are_spelled command gs ≡ true → Pass
  pass_from are =
      let two = first (list_all (is_spelled command) gs && has_required command gs) _ are in
      apart_passes c knows wants (ruled_by command) gs [] (first (list_all (is_spelled command) gs) _ two, second (list_all (is_spelled command) gs && has_required command gs) _ are, free_none gs)

  pass_to : Pass → has_required command gs ≡ true → are_spelled command gs ≡ true
  pass_to pass have =
      let (all, alone, frees) = passes_apart c knows wants (ruled_by command) gs [] pass in
      (λ i. all i && have i && alone i)

missing_kinds : (b : Bool) → cond b (MissingRequiredArgument ∷ []) [] ≡ [] → b ≡ false
missing_kinds true e = absurd cc
missing_kinds false e = refl

not_not : (b : Bool) → not b ≡ false → b ≡ true
not_not true e = refl
not_not false e = absurd cc

module _ (command : CommandName) (words : List Text) (clean : has_refused words ≡ false) where
  abbrev rules : List Rule
  rules = rules_of command

  abbrev app : App
  app = with_rules (table (required command) (optional command))

  abbrev behind : List Text
  behind = drop 1 words

  abbrev options : List Given
  options = options_of behind

  abbrev last : Held
  last = (Rattle.clap.specs.Walk.walk rules [] nothing_held behind).held

  abbrev settled_last : List Row
  settled_last = settled_rows rules last.pending last.rows

  level_is : fault_of app words ≡ level_fault (shape rules) [] nothing_held behind false []
  level_is = leaf_fault (built_app app) nothing_held behind refl

  -- the parts of the level's fault
  abbrev checked : List Row → Kinds
  checked rows = cond (list_any (is_missing (fold with_default rows rules)) rules) (MissingRequiredArgument ∷ []) []

  parts_is : level_fault (shape rules) [] nothing_held behind false []
      ≡ or_else (walk_fault (shape rules) [] (between [] None) behind) (or_else (settle_fault rules false last) (or_else (defaults_fault settled_last rules) (checked settled_last)))
  parts_is = refl

  tells_all : fault_of (app_for command) words ≡ [] → Tells command (matches_of (app_for command) words) options
  tells_all none =
      let level = sym (parts_is) ∙ sym level_is ∙ ap (λ a. fault_of a words) (sym (app_is command)) ∙ none in
      let walk_none = or_else_first (walk_fault (shape rules) [] (between [] None) behind) _ level in
      let three = or_else_second (walk_fault (shape rules) [] (between [] None) behind) _ level in
      let settle_none = or_else_first (settle_fault rules false last) _ three in
      let two = or_else_second (settle_fault rules false last) _ three in
      let check_none = or_else_second (defaults_fault settled_last rules) _ two in
      let (held_none, pass, are) = walk_tells rules (knows command options) (wants command options) (ruled_by command) behind [] None (clean_behind words clean) walk_none settle_none in
      let all = passes_apart rules (has_option command) (is_required command) (ruled_by command) options [] pass in
      let formed = formed_all command options all.0 in
      let missing = missing_kinds _ (ap checked (sym are) ∙ check_none) in
      let have = not_not (has_required command options) (sym (missing_end command options pass) ∙ missing) in
      let rows_are : matches_of (app_for command) words ≡ end command options = ap (λ a. matches_of a words) (app_is command) ∙ ap (λ rows. fold with_default rows rules) are in
      subst (λ rows. Tells command rows options) (sym rows_are) (record {
        spelled = pass_to command options pass have;
        values = λ n word. values_end command options n word pass formed;
        flags = λ n flag. flags_end command options n flag pass formed;
      })

  silent_all : are_spelled command options ≡ true → list_all (λ g. fits (takes g.name) g.value) options ≡ true → fault_of (app_for command) words ≡ []
  silent_all are good =
      let pass = pass_from command options are in
      let (walk_none, settle_none) = walk_silent rules (has_option command) (is_required command) (ruled_by command) behind [] None (clean_behind words clean) refl pass good in
      let (held_none, again, rows_are) = walk_tells rules (has_option command) (is_required command) (ruled_by command) behind [] None (clean_behind words clean) walk_none settle_none in
      let have = second (list_all (is_spelled command) options) _ (first (list_all (is_spelled command) options && has_required command options) _ are) in
      let missing : list_any (is_missing (end command options)) rules ≡ false = missing_end command options pass ∙ ap not have in
      let check_none : checked settled_last ≡ [] = ap checked rows_are ∙ ap (λ b. cond b (MissingRequiredArgument ∷ []) []) missing in
      ap (λ a. fault_of a words) (app_is command) ∙ level_is ∙ parts_is
      ∙ or_else_none _ _ walk_none (or_else_none _ _ settle_none (or_else_none _ _ (all_defaults_silent (required command) (optional command) settled_last) check_none))

-- where clap takes the words, its matches tell of the options
pub words_told : (command : CommandName) (words : List (List ℕ)) → has_refused words ≡ false → fault_of (app_for command) words ≡ [] → Tells command (matches_of (app_for command) words) (options_of (drop 1 words))
words_told command words clean none = tells_all command words clean none

-- clap takes the words of options that are those of the command
pub words_taken : (command : CommandName) (words : List (List ℕ)) → has_refused words ≡ false → are_spelled command (options_of (drop 1 words)) ≡ true
    → list_all (λ g. fits (takes g.name) g.value) (options_of (drop 1 words)) ≡ true → fault_of (app_for command) words ≡ []
words_taken command words clean are good = silent_all command words clean are good
