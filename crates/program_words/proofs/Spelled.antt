-- How the names of options are spelled, and how clap finds what is spelled.
use Rattle.std.proofs.Common.{◌≡◌, ◌∙◌, ℕ, ◌||◌, not, Bool, true, false, cond, nat_eq, List, [], ◌∷◌, ◌++◌, Some, None, refl, ap, sym, subst, arith, map, append_assoc, append-nil}
use Rattle.std.specs.Prelude.{bytes_eq, slice_index_or}
use Rattle.std.specs.Bool.{beq}
use Rattle.std.specs.List.{find, list_all, list_any}
use Rattle.std.specs.Option.{option_map_or}
use Rattle.std.proofs.lemmas.Bool.Decides.{nat_tests}
use Rattle.std.proofs.lemmas.Slice.Eq.{bytes_eq-Decides}
use Rattle.clap.specs.Walk.{Rule}
use Rattle.clap.specs.Simple.{App, filled, filled_from, on_top, with_index}
use Rattle.program_words.specs.declared.name.Name.{Name}
use Rattle.program_words.specs.declared.name.Name.TheVariants.{Config, Host, Platform, Agent, Text as TextName, Audit, Changes, Tables, Start, Step, Ticks, Records, Explain, Frames, Ledger, Store, From, Count, Workers, FramesOut, AnswersIn, Other}
use Rattle.program_words.specs.Names.{name_of, names, place, same_name}
use Rattle.program_words.specs.Rules.{rule_for, spelling, with_options}
use Rattle.program_words.proofs.Conditions.{first, second, not_true}

-- ---- names
in_order : List Name
in_order =
    Config ∷ Host ∷ Platform ∷ Agent ∷ TextName ∷ Audit ∷ Changes ∷ Tables ∷ Start ∷ Step ∷ Ticks ∷ Records ∷ Explain ∷ Frames ∷ Ledger ∷ Store
    ∷ From ∷ Count ∷ Workers ∷ FramesOut ∷ AnswersIn ∷ []

at_place : ℕ → Name
at_place k = slice_index_or in_order k Other

placed : (n : Name) → at_place (place n) ≡ n
unfolding at_place in_order place
placed Config = refl
placed Host = refl
placed Platform = refl
placed Agent = refl
placed TextName = refl
placed Audit = refl
placed Changes = refl
placed Tables = refl
placed Start = refl
placed Step = refl
placed Ticks = refl
placed Records = refl
placed Explain = refl
placed Frames = refl
placed Ledger = refl
placed Store = refl
placed From = refl
placed Count = refl
placed Workers = refl
placed FramesOut = refl
placed AnswersIn = refl
placed Other = refl

same_place : (a b : ℕ) → nat_eq a b ≡ true → a ≡ b
same_place a b same = grind (arith, nat_tests)

-- names that are the same by their places are the same
pub one_name : (a b : Name) → same_name a b ≡ true → a ≡ b
one_name a b same = sym (placed a) ∙ ap at_place (same_place (place a) (place b) same) ∙ placed b

pub same_name-refl : (n : Name) → same_name n n ≡ true
same_name-refl n = grind (arith, nat_tests)

nat_eq-swap : (a b : ℕ) → nat_eq a b ≡ nat_eq b a
nat_eq-swap a b = grind (arith, nat_tests)

pub same_name-sym : (a b : Name) → same_name a b ≡ same_name b a
same_name-sym a b = nat_eq-swap (place a) (place b)

-- ---- spellings
abbrev Entry : Type 0
Entry = List ℕ × Name

abbrev agrees : Name → Entry → Bool
agrees n e = beq (bytes_eq (spelling n) e.0) (same_name n e.1)

-- the name is that of an option, is spelled in one place of the table, and there alone
abbrev IsKnown : Name → Type 0
IsKnown n =
    (same_name n Other ≡ false) × (list_all (agrees n) names ≡ true) × (list_any (λ e. bytes_eq (spelling n) e.0) names ≡ true)

known : (n : Name) → same_name n Other ≡ false → IsKnown n
unfolding place names spelling
known Config is = (refl, refl, refl)
known Host is = (refl, refl, refl)
known Platform is = (refl, refl, refl)
known Agent is = (refl, refl, refl)
known TextName is = (refl, refl, refl)
known Audit is = (refl, refl, refl)
known Changes is = (refl, refl, refl)
known Tables is = (refl, refl, refl)
known Start is = (refl, refl, refl)
known Step is = (refl, refl, refl)
known Ticks is = (refl, refl, refl)
known Records is = (refl, refl, refl)
known Explain is = (refl, refl, refl)
known Frames is = (refl, refl, refl)
known Ledger is = (refl, refl, refl)
known Store is = (refl, refl, refl)
known From is = (refl, refl, refl)
known Count is = (refl, refl, refl)
known Workers is = (refl, refl, refl)
known FramesOut is = (refl, refl, refl)
known AnswersIn is = (refl, refl, refl)
known Other is = absurd cc

beq-same : (a b : Bool) → beq a b ≡ true → a ≡ b
beq-same true true e = refl
beq-same true false e = absurd cc
beq-same false true e = absurd cc
beq-same false false e = refl

not_so : (b : Bool) → (b ≡ true → false ≡ true) → b ≡ false
not_so true h = absurd (let e : false ≡ true = h refl in cc)
not_so false h = refl

spelled_in : (n : Name) (text : List ℕ) → same_name n Other ≡ false → (es : List Entry) → list_all (agrees n) es ≡ true
    → (bytes_eq (spelling n) text ≡ true → list_any (λ e. bytes_eq text e.0) es ≡ true)
    → bytes_eq (spelling n) text ≡ same_name n (option_map_or (λ e. e.1) (find (λ e. bytes_eq text e.0) es) Other)
spelled_in n text other [] all has = not_so _ has ∙ sym other
spelled_in n text other (e ∷ es) all has =
    go (bytes_eq text e.0) refl has (spelled_in n text other es (second (agrees n e) _ all))
  where
    go : (b : Bool) → bytes_eq text e.0 ≡ b → (bytes_eq (spelling n) text ≡ true → b || list_any (λ e. bytes_eq text e.0) es ≡ true)
        → ((bytes_eq (spelling n) text ≡ true → list_any (λ e. bytes_eq text e.0) es ≡ true) → bytes_eq (spelling n) text ≡ same_name n (option_map_or (λ e. e.1) (find (λ e. bytes_eq text e.0) es) Other))
        → bytes_eq (spelling n) text ≡ same_name n (option_map_or (λ e. e.1) (cond b (Some e) (find (λ e. bytes_eq text e.0) es)) Other)
    go true is more rest =
        let same : text ≡ e.0 = (bytes_eq-Decides text e.0).0 is in
        ap (bytes_eq (spelling n)) same ∙ beq-same _ _ (first (agrees n e) _ all)
    go false is more rest = rest more

-- a text is the spelling of a name where it spells it
pub spelled : (n : Name) (text : List ℕ) → same_name n Other ≡ false → bytes_eq (spelling n) text ≡ same_name n (name_of text)
unfolding name_of
spelled n text other =
    let (_, all, any) = known n other in
    spelled_in n text other names all (λ is. subst (λ t. list_any (λ e. bytes_eq t e.0) names ≡ true) ((bytes_eq-Decides (spelling n) text).0 is) any)

bytes_eq-same : (xs : List ℕ) → bytes_eq xs xs ≡ true
bytes_eq-same xs = (bytes_eq-Decides xs xs).1 refl

pub name_of-spelling : (n : Name) → same_name n Other ≡ false → name_of (spelling n) ≡ n
name_of-spelling n other = sym (one_name n (name_of (spelling n)) (sym (spelled n (spelling n) other) ∙ bytes_eq-same (spelling n)))

-- ---- rules
-- an option as clap has it once the command is built
abbrev pub built : Bool → Name → Rule
built must n = with_index 1 (filled (rule_for must n))

abbrev pub are_names : List Name → Bool
are_names ns = list_all (λ n. not (same_name n Other)) ns

abbrev pub any_name : Name → List Name → Bool
any_name name ns = list_any (same_name name) ns

module _ (text : List ℕ) (p : Rule → Bool) (tests : (must : Bool) (n : Name) → p (built must n) ≡ bytes_eq (spelling n) text) where
  -- the first rule of these names that has the text
  pub found_in : (must : Bool) (ns : List Name) (behind : List Rule) → are_names ns ≡ true
      → find p (filled_from 1 (map (rule_for must) ns ++ behind)) ≡ cond (any_name (name_of text) ns) (Some (built must (name_of text))) (find p (filled_from 1 behind))
  found_in must [] behind all = refl
  found_in must (n ∷ ns) behind all =
      let other = not_true _ (first (not (same_name n Other)) _ all) in
      let here : p (built must n) ≡ same_name (name_of text) n = tests must n ∙ spelled n text other ∙ same_name-sym n (name_of text) in
      go (same_name (name_of text) n) refl here (found_in must ns behind (second (not (same_name n Other)) _ all))
    where
      go : (b : Bool) → same_name (name_of text) n ≡ b → p (built must n) ≡ b
          → find p (filled_from 1 (map (rule_for must) ns ++ behind)) ≡ cond (any_name (name_of text) ns) (Some (built must (name_of text))) (find p (filled_from 1 behind))
          → find p (built must n ∷ filled_from 1 (map (rule_for must) ns ++ behind)) ≡ cond (b || any_name (name_of text) ns) (Some (built must (name_of text))) (find p (filled_from 1 behind))
      go true same here rest =
          ap (λ h. cond h (Some (built must n)) (find p (filled_from 1 (map (rule_for must) ns ++ behind)))) here ∙ ap (λ m. Some (built must m)) (sym (one_name (name_of text) n same))
      go false same here rest =
          ap (λ h. cond h (Some (built must n)) (find p (filled_from 1 (map (rule_for must) ns ++ behind)))) here ∙ rest

  pub found : (req opt : List Name) → are_names req ≡ true → are_names opt ≡ true
      → find p (filled_from 1 (map (rule_for true) req ++ map (rule_for false) opt)) ≡ cond (any_name (name_of text) req || any_name (name_of text) opt) (Some (built (any_name (name_of text) req) (name_of text))) None
  found req opt right allowed =
      found_in true req (map (rule_for false) opt) right
      ∙ ap (λ rules. cond (any_name (name_of text) req) (Some (built true (name_of text))) (find p (filled_from 1 rules))) (sym (append-nil (map (rule_for false) opt)))
      ∙ ap (λ o. cond (any_name (name_of text) req) (Some (built true (name_of text))) o) (found_in false opt [] allowed)
      ∙ split (any_name (name_of text) req)
    where
      split : (b : Bool) → cond b (Some (built true (name_of text))) (cond (any_name (name_of text) opt) (Some (built false (name_of text))) None)
          ≡ cond (b || any_name (name_of text) opt) (Some (built b (name_of text))) None
      split true = refl
      split false = refl

-- no rule of these names passes
pub none_found : (p : Rule → Bool) → ((must : Bool) (n : Name) → p (built must n) ≡ false) → (must : Bool) (ns : List Name) (behind : List Rule)
    → find p (filled_from 1 (map (rule_for must) ns ++ behind)) ≡ find p (filled_from 1 behind)
none_found p fails must [] behind = refl
none_found p fails must (n ∷ ns) behind =
    ap (λ h. cond h (Some (built must n)) (find p (filled_from 1 (map (rule_for must) ns ++ behind)))) (fails must n) ∙ none_found p fails must ns behind

-- a command with more options
pub with_options-is : (app : App) (must : Bool) (ns : List Name) → with_options app must ns ≡ on_top (λ s. record s { rules = s.rules ++ map (rule_for must) ns }) app
with_options-is app must [] = ap (λ rules. on_top (λ s. record s { rules = rules }) app) (sym (append-nil app.top.rules))
with_options-is app must (n ∷ ns) =
    with_options-is (on_top (λ s. record s { rules = s.rules ++ rule_for must n ∷ [] }) app) must ns
    ∙ ap (λ rules. on_top (λ s. record s { rules = rules }) app) (append_assoc app.top.rules (rule_for must n ∷ []) (map (rule_for must) ns))
