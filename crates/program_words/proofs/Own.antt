-- Options of which none repeats another: none that may stand once stands twice, and no two sources have one path.
use Rattle.std.proofs.Common.{◌≡◌, ◌∙◌, ℕ, ◌&&◌, ◌||◌, not, Bool, true, false, cond, length, List, [], ◌∷◌, ◌++◌, Option, Some, None, refl, ap, sym, subst, map, nat_le, unwrap_or, append_assoc}
use Rattle.std.specs.Prelude.{bytes_eq, filter, is_some, option_and_then}
use Rattle.std.specs.List.{find, list_all, list_any}
use Rattle.std.proofs.lemmas.List.{length-map}
use Rattle.std.specs.Borrow.{Bor}
use Rattle.std.specs.Option.{option_copied}
use Rattle.clap.specs.Walk.{Row}
use Rattle.osq_value.specs.declared.source.SourceKind.TheVariants.{Audit as AuditLog, Changes as ChangeList, Tables as TableLines}
use Rattle.osq_value.specs.declared.source.SourceName.{SourceName}
use Rattle.program_words.specs.declared.command.CommandName.{CommandName}
use Rattle.program_words.specs.declared.name.Name.{Name}
use Rattle.program_words.specs.declared.name.Takes.{Takes}
use Rattle.program_words.specs.declared.name.Name.TheVariants.{Config, Host, Platform, Agent, Text, Audit, Changes, Tables, Start, Step, Ticks, Records, Explain, Frames, Ledger, Store, From, Count, Workers, FramesOut, AnswersIn, Other}
use Rattle.program_words.specs.Names.{is_source, place, same_name, takes}
use Rattle.program_words.specs.Given.{Given, is_named, none_repeats, repeats, same_value, stands, takes_word, value_of}
use Rattle.program_words.specs.Commands.{are_options, has_few_sources, has_required, is_right, sources_named, sources_of}
use Rattle.program_words.specs.Reading.{Tells, all_fit, are_apart, are_paired, has_form, has_form_by, is_spelled, paths_named, stand_once}
use Rattle.program_words.proofs.Conditions.{first, second, neither_first, neither_second, not_true}
use Rattle.program_words.proofs.Mapped.{list_any-map}
use Rattle.program_words.proofs.Orders.{same_bytes}
use Rattle.program_words.proofs.Rows.{all_formed}
use Rattle.program_words.proofs.Sources.{by_kinds, has_path, kinds_apart, own_paths, own_paths-sources_of, path_of, source_by}
use Rattle.program_words.proofs.Spelled.{one_name}
use Rattle.program_words.proofs.Told.{parts_right, right_spelled, told_forms}
use Rattle.program_words.proofs.Turns.{none_form, source_takes}
use Rattle.program_words.proofs.Within.{parts_of, sources_counted}

-- ---- lists of sources with one more, or one fewer
any-more : {X : Type 0} (p : X → Bool) (front behind : List X) (x : X) → list_any p (front ++ x ∷ behind) ≡ p x || list_any p (front ++ behind)
any-more p [] behind x = refl
any-more p (y ∷ ys) behind x = ap (λ b. p y || b) (any-more p ys behind x) ∙ go (p y) (p x) (list_any p (ys ++ behind))
  where
    go : (a b d : Bool) → a || (b || d) ≡ b || (a || d)
    go true true d = refl
    go true false d = refl
    go false b d = refl

-- what is left of sources that have paths of their own has them too, without the path of the one that is gone
abbrev Fewer : SourceName → List SourceName → Type 0
Fewer source sources = (own_paths sources ≡ true) × (list_any (has_path source.name) sources ≡ false)

own_paths-less : (front behind : List SourceName) (source : SourceName) → own_paths (front ++ source ∷ behind) ≡ true → Fewer source (front ++ behind)
own_paths-less [] behind source own =
    (second (not (list_any (has_path source.name) behind)) _ own, not_true _ (first (not (list_any (has_path source.name) behind)) _ own))
own_paths-less (other ∷ others) behind source own =
    let none = not_true _ (first (not (list_any (has_path other.name) (others ++ source ∷ behind))) _ own) in
    let either : has_path other.name source || list_any (has_path other.name) (others ++ behind) ≡ false = sym (any-more (has_path other.name) others behind source) ∙ none in
    let (rest, apart) = own_paths-less others behind source (second (not (list_any (has_path other.name) (others ++ source ∷ behind))) _ own) in
    let differs : has_path source.name other ≡ false = same_bytes source.name other.name ∙ neither_first (has_path other.name source) _ either in
    ((λ i. not (neither_second (has_path other.name source) _ either i) && rest i), (λ i. differs i || apart i))

abbrev kinds : Bool → Bool → Bool → Given → List Given → List Given → List Given → List SourceName
kinds a c t g audit changes tables = by_kinds (cond a (g ∷ audit) audit) (cond c (g ∷ changes) changes) (cond t (g ∷ tables) tables)

kinds-less : (a c t : Bool) (g : Given) (audit changes tables : List Given) → a && c ≡ false → a && t ≡ false → c && t ≡ false → own_paths (kinds a c t g audit changes tables) ≡ true
    → (own_paths (by_kinds audit changes tables) ≡ true) × (a || c || t ≡ true → list_any (has_path (path_of g)) (by_kinds audit changes tables) ≡ false)
kinds-less true true t g audit changes tables ac at ct own = absurd cc
kinds-less true false true g audit changes tables ac at ct own = absurd cc
kinds-less true false false g audit changes tables ac at ct own =
    let (rest, apart) = own_paths-less [] (by_kinds audit changes tables) (source_by AuditLog g) own in
    (rest, λ any. apart)
kinds-less false true true g audit changes tables ac at ct own = absurd cc
kinds-less false true false g audit changes tables ac at ct own =
    let front = map (source_by AuditLog) audit in
    let middle = map (source_by ChangeList) changes in
    let behind = map (source_by TableLines) tables in
    let (rest, apart) = own_paths-less front (middle ++ behind) (source_by ChangeList g) (ap own_paths (sym (append_assoc front (source_by ChangeList g ∷ middle) behind)) ∙ own) in
    (ap own_paths (append_assoc front middle behind) ∙ rest, λ any. ap (list_any (has_path (path_of g))) (append_assoc front middle behind) ∙ apart)
kinds-less false false true g audit changes tables ac at ct own =
    let (rest, apart) = own_paths-less (map (source_by AuditLog) audit ++ map (source_by ChangeList) changes) (map (source_by TableLines) tables) (source_by TableLines g) own in
    (rest, λ any. apart)
kinds-less false false false g audit changes tables ac at ct own = (own, λ any. absurd cc)

kinds-any : (a c t : Bool) (path : List ℕ) (g : Given) (audit changes tables : List Given) → a && c ≡ false → a && t ≡ false → c && t ≡ false
    → list_any (has_path path) (kinds a c t g audit changes tables) ≡ (a || c || t) && bytes_eq path (path_of g) || list_any (has_path path) (by_kinds audit changes tables)
kinds-any true true t path g audit changes tables ac at ct = absurd cc
kinds-any true false true path g audit changes tables ac at ct = absurd cc
kinds-any true false false path g audit changes tables ac at ct = refl
kinds-any false true true path g audit changes tables ac at ct = absurd cc
kinds-any false true false path g audit changes tables ac at ct =
    let front = map (source_by AuditLog) audit in
    let middle = map (source_by ChangeList) changes in
    let behind = map (source_by TableLines) tables in
    ap (list_any (has_path path)) (append_assoc front (source_by ChangeList g ∷ middle) behind) ∙ any-more (has_path path) front (middle ++ behind) (source_by ChangeList g)
    ∙ ap (λ l. bytes_eq path (path_of g) || list_any (has_path path) l) (sym (append_assoc front middle behind))
kinds-any false false true path g audit changes tables ac at ct =
    any-more (has_path path) (map (source_by AuditLog) audit ++ map (source_by ChangeList) changes) (map (source_by TableLines) tables) (source_by TableLines g)
kinds-any false false false path g audit changes tables ac at ct = refl

is_kind : (n : Name) → same_name Audit n || same_name Changes n || same_name Tables n ≡ is_source n
unfolding place is_source
is_kind Config = refl
is_kind Host = refl
is_kind Platform = refl
is_kind Agent = refl
is_kind Text = refl
is_kind Audit = refl
is_kind Changes = refl
is_kind Tables = refl
is_kind Start = refl
is_kind Step = refl
is_kind Ticks = refl
is_kind Records = refl
is_kind Explain = refl
is_kind Frames = refl
is_kind Ledger = refl
is_kind Store = refl
is_kind From = refl
is_kind Count = refl
is_kind Workers = refl
is_kind FramesOut = refl
is_kind AnswersIn = refl
is_kind Other = refl

-- ---- the sources of the options
sources_less : (g : Given) (gs : List Given) → own_paths (sources_of (g ∷ gs)) ≡ true → (own_paths (sources_of gs) ≡ true) × (is_source g.name ≡ true → list_any (has_path (path_of g)) (sources_of gs) ≡ false)
unfolding sources_of sources_named is_named
sources_less g gs own =
    let (ac, at, ct, source) = kinds_apart g.name in
    let (rest, apart) = kinds-less (is_named Audit g) (is_named Changes g) (is_named Tables g) g (filter (is_named Audit) gs) (filter (is_named Changes) gs) (filter (is_named Tables) gs) ac at ct own in
    (rest, λ is. apart (is_kind g.name ∙ is))

sources_any : (path : List ℕ) (gs : List Given) → list_any (has_path path) (sources_of gs) ≡ list_any (λ h. is_source h.name && bytes_eq path (path_of h)) gs
unfolding sources_of sources_named is_named
sources_any path [] = refl
sources_any path (g ∷ gs) =
    let (ac, at, ct, source) = kinds_apart g.name in
    let kind = is_kind g.name in
    let rest = sources_any path gs in
    kinds-any (is_named Audit g) (is_named Changes g) (is_named Tables g) path g (filter (is_named Audit) gs) (filter (is_named Changes) gs) (filter (is_named Tables) gs) ac at ct
    ∙ (λ i. kind i && bytes_eq path (path_of g) || rest i)

same_paths : (a b : Option (List ℕ)) → is_some a ≡ true → is_some b ≡ true → same_value a b ≡ bytes_eq (unwrap_or a []) (unwrap_or b [])
same_paths None b some other = absurd cc
same_paths (Some x) None some other = absurd cc
same_paths (Some x) (Some y) some other = refl

formed_some : (kind : Takes) (value : Option (List ℕ)) → takes_word kind ≡ true → has_form_by kind value ≡ true → is_some value ≡ true
formed_some kind None word form = absurd (none_form kind word form)
formed_some kind (Some text) word form = refl

source_some : (g : Given) → is_source g.name ≡ true → has_form g ≡ true → is_some g.value ≡ true
source_some g source form = formed_some (takes g.name) g.value (source_takes g.name source) form

-- a source repeats another where it is one of the same path
repeats_source : (g h : Given) → is_source g.name ≡ true → has_form g ≡ true → has_form h ≡ true → repeats g h ≡ is_source h.name && bytes_eq (path_of g) (path_of h)
unfolding repeats
repeats_source g h source form_g form_h =
    ap (λ b. cond b (is_source h.name && same_value g.value h.value) (same_name g.name h.name)) source ∙ go (is_source h.name) refl
  where
    go : (b : Bool) → is_source h.name ≡ b → b && same_value g.value h.value ≡ b && bytes_eq (path_of g) (path_of h)
    go true is = same_paths g.value h.value (source_some g source form_g) (source_some h is form_h)
    go false is = refl

repeats_sources : (g : Given) (gs : List Given) → is_source g.name ≡ true → has_form g ≡ true → all_formed gs ≡ true → list_any (repeats g) gs ≡ list_any (λ h. is_source h.name && bytes_eq (path_of g) (path_of h)) gs
repeats_sources g [] source form formed = refl
repeats_sources g (h ∷ hs) source form formed =
    let here = repeats_source g h source form (first (has_form h) _ formed) in
    let rest = repeats_sources g hs source form (second (has_form h) _ formed) in
    (λ i. here i || rest i)

repeats_names : (g : Given) (gs : List Given) → is_source g.name ≡ false → list_any (repeats g) gs ≡ stands g.name gs
unfolding repeats stands is_named
repeats_names g [] alone = refl
repeats_names g (h ∷ hs) alone =
    let here : repeats g h ≡ same_name g.name h.name = ap (λ b. cond b (is_source h.name && same_value g.value h.value) (same_name g.name h.name)) alone in
    let rest = repeats_names g hs alone in
    (λ i. here i || rest i)

none_again : (g : Given) (gs : List Given) → has_form g ≡ true → all_formed gs ≡ true → is_source g.name || not (stands g.name gs) ≡ true
    → (is_source g.name ≡ true → list_any (has_path (path_of g)) (sources_of gs) ≡ false) → list_any (repeats g) gs ≡ false
none_again g gs form formed once apart = go (is_source g.name) refl once
  where
    go : (b : Bool) → is_source g.name ≡ b → b || not (stands g.name gs) ≡ true → list_any (repeats g) gs ≡ false
    go true is e = repeats_sources g gs is form formed ∙ sym (sources_any (path_of g) gs) ∙ apart is
    go false is e = repeats_names g gs is ∙ not_true (stands g.name gs) e

none_from : (gs : List Given) → all_formed gs ≡ true → stand_once gs ≡ true → own_paths (sources_of gs) ≡ true → none_repeats gs ≡ true
unfolding none_repeats stand_once
none_from [] formed once own = refl
none_from (g ∷ gs) formed once own =
    let (rest, apart) = sources_less g gs own in
    let here = none_again g gs (first (has_form g) _ formed) (second (has_form g) _ formed) (first (is_source g.name || not (stands g.name gs)) _ once) apart in
    let behind = none_from gs (second (has_form g) _ formed) (second (is_source g.name || not (stands g.name gs)) _ once) rest in
    (λ i. not (here i) && behind i)

own_is : (sources : List SourceName) → are_apart (map (λ source. source.name) sources) ≡ own_paths sources
unfolding are_apart
own_is [] = refl
own_is (source ∷ sources) =
    let rest = own_is sources in
    let any = sym (list_any-map (λ other. other.name) (bytes_eq source.name) sources) in
    (λ i. not (any i) && rest i)

-- ---- the options of a run
paths_length : (gs : List Given) → length (paths_named gs) ≡ length (sources_of gs)
paths_length gs = length-map (sources_of gs) (λ source. source.name)

few_is : (gs : List Given) → nat_le (length (paths_named gs)) 1000 ≡ has_few_sources gs
unfolding has_few_sources
few_is gs = ap (λ n. nat_le n 1000) (paths_length gs ∙ sources_counted gs)

both_ways : (a b : Bool) → (a ≡ true → b ≡ true) → (b ≡ true → a ≡ true) → a ≡ b
both_ways true true to from = refl
both_ways true false to from = sym (to refl)
both_ways false true to from = from refl
both_ways false false to from = refl

-- the options are those of a run where their values fit, their pairs are whole, and their sources are few and have paths of their own
pub right_is : (command : CommandName) (rows : List Row) (gs : List Given) → Tells command rows gs
    → all_fit gs && are_paired gs && (nat_le (length (paths_named gs)) 1000 && are_apart (paths_named gs)) ≡ are_options command gs
unfolding are_options
right_is command rows gs told = both_ways _ _ to from
  where
    spelled : list_all (is_spelled command) gs ≡ true
    spelled = first (list_all (is_spelled command) gs) _ (first (list_all (is_spelled command) gs && has_required command gs) _ told.spelled)

    have : has_required command gs ≡ true
    have = second (list_all (is_spelled command) gs) _ (first (list_all (is_spelled command) gs && has_required command gs) _ told.spelled)

    once : stand_once gs ≡ true
    once = second (list_all (is_spelled command) gs && has_required command gs) _ told.spelled

    to : all_fit gs && are_paired gs && (nat_le (length (paths_named gs)) 1000 && are_apart (paths_named gs)) ≡ true → are_options command gs ≡ true
    to all =
        let two = first (all_fit gs && are_paired gs) _ all in
        let own = second (all_fit gs && are_paired gs) _ all in
        let fit = first (all_fit gs) _ two in
        let paired = second (all_fit gs) _ two in
        let right = parts_right command gs spelled fit in
        let few = sym (few_is gs) ∙ first (nat_le (length (paths_named gs)) 1000) _ own in
        let none = none_from gs (told_forms command rows gs told) once (sym (own_is (sources_of gs)) ∙ second (nat_le (length (paths_named gs)) 1000) _ own) in
        let clock = first (stands Start gs || not (stands Step gs)) _ paired in
        let link = second (stands Start gs || not (stands Step gs)) _ paired in
        (λ i. right i && have i && few i && none i && clock i && link i)

    from : are_options command gs ≡ true → all_fit gs && are_paired gs && (nat_le (length (paths_named gs)) 1000 && are_apart (paths_named gs)) ≡ true
    from are =
        let parts = parts_of command gs are in
        let fit = (right_spelled command gs are).1 in
        let five = list_all (is_right command) gs && has_required command gs && has_few_sources gs && none_repeats gs in
        let link = second (five && (stands Start gs || not (stands Step gs))) _ are in
        let clock = second five _ (first (five && (stands Start gs || not (stands Step gs))) _ are) in
        let few = few_is gs ∙ parts.2 in
        let apart = own_is (sources_of gs) ∙ own_paths-sources_of command gs parts.0 parts.3 in
        (λ i. fit i && (clock i && link i) && (few i && apart i))

stands_some : (n : Name) (gs : List Given) → takes_word (takes n) ≡ true → all_formed gs ≡ true → is_some (value_of n gs) ≡ stands n gs
unfolding value_of stands is_named
stands_some n [] word formed = refl
stands_some n (g ∷ gs) word formed = go (same_name n g.name) refl (stands_some n gs word (second (has_form g) _ formed))
  where
    go : (b : Bool) → same_name n g.name ≡ b → is_some (option_and_then (λ h. h.value) (find (is_named n) gs)) ≡ list_any (is_named n) gs
        → is_some (option_and_then (λ h. h.value) (cond b (Some g) (find (is_named n) gs))) ≡ b || list_any (is_named n) gs
    go true is rest = formed_some (takes g.name) g.value (subst (λ m. takes_word (takes m) ≡ true) (one_name n g.name is) word) (first (has_form g) _ formed)
    go false is rest = rest

pub stands_told : (command : CommandName) (rows : List Row) (gs : List Given) (n : Name) → Tells command rows gs → takes_word (takes n) ≡ true → is_some (value_of n gs) ≡ stands n gs
stands_told command rows gs n told word = stands_some n gs word (told_forms command rows gs told)

pub copied_some : {T : Type 0} (o : Option (Bor T)) → is_some o ≡ is_some (option_copied o)
copied_some None = refl
copied_some (Some x) = refl

module _ (command : CommandName) (rows : List Row) (gs : List Given) (told : Tells command rows gs) where
  abbrev own : Bool
  own = nat_le (length (paths_named gs)) 1000 && are_apart (paths_named gs)

  pub wrong_fit : all_fit gs ≡ false → false ≡ are_options command gs
  wrong_fit fails = sym (ap (λ b. b && are_paired gs && own) fails) ∙ right_is command rows gs told

  pub wrong_pairs : are_paired gs ≡ false → false ≡ are_options command gs
  wrong_pairs fails = sym (ap (λ b. all_fit gs && b && own) fails ∙ go (all_fit gs)) ∙ right_is command rows gs told
    where
      go : (b : Bool) → b && false && own ≡ false
      go true = refl
      go false = refl

  pub right_own : all_fit gs ≡ true → are_paired gs ≡ true → own ≡ are_options command gs
  right_own fit paired = sym (λ i. fit i && paired i && own) ∙ right_is command rows gs told
