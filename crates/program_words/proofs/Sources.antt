-- No two sources of a command have one path.
use Rattle.std.proofs.Common.{◌≡◌, ◌≢◌, ℕ, zero, suc, ◌<◌, ◌&&◌, ◌||◌, not, Bool, true, false, cond, length, List, [], ◌∷◌, ◌++◌, Option, Some, None, refl, ap, sym, ◌∙◌, arith, map, unwrap_or, append_assoc}
use Rattle.std.specs.Prelude.{bytes_eq, filter, is_some, slice_index_or, AllPairs}
use Rattle.std.specs.List.{All, list_all, list_any}
use Rattle.std.proofs.lemmas.List.Folds.{list_any-append}
use Rattle.std.proofs.lemmas.List.Kept.{AllPairs-cons}
use Rattle.std.proofs.lemmas.Slice.Eq.{bytes_eq-Decides}
use Rattle.program_words.specs.declared.name.Name.{Name}
use Rattle.program_words.specs.declared.name.Name.TheVariants.{Audit, Changes, Tables}
use Rattle.program_words.specs.declared.command.CommandName.{CommandName}
use Rattle.osq_value.specs.declared.source.SourceKind.{SourceKind}
use Rattle.osq_value.specs.declared.source.SourceKind.TheVariants.{Audit as AuditLog, Changes as ChangeList, Tables as TableLines}
use Rattle.osq_value.specs.declared.source.SourceName.{SourceName}
use Rattle.program_words.specs.Names.{is_source, place, same_name, takes}
use Rattle.program_words.specs.Given.{Given, fits, is_named, none_repeats, repeats, same_value}
use Rattle.program_words.specs.Commands.{has_option, is_right, sources_named, sources_of}
use Rattle.program_words.proofs.Conditions.{first, second, neither_first, neither_second, not_true}
use Rattle.program_words.proofs.Orders.{same_bytes}

-- ---- lists of sources
abbrev pub has_path : List ℕ → SourceName → Bool
has_path path source = bytes_eq path source.name

abbrev pub own_paths : List SourceName → Bool
own_paths [] = true
own_paths (source ∷ sources) = not (list_any (has_path source.name) sources) && own_paths sources

any-insert : {X : Type 0} (p : X → Bool) (front behind : List X) (x : X) → list_any p (front ++ behind) ≡ false → p x ≡ false → list_any p (front ++ x ∷ behind) ≡ false
any-insert p [] behind x none fails = ap (λ b. b || list_any p behind) fails ∙ none
any-insert p (y ∷ ys) behind x none fails =
    ap (λ b. b || list_any p (ys ++ x ∷ behind)) (neither_first (p y) _ none) ∙ any-insert p ys behind x (neither_second (p y) _ none) fails

any-front : {X : Type 0} (p : X → Bool) (front behind : List X) (x : X) → list_any p (front ++ behind) ≡ false → list_any p behind ≡ false
any-front p [] behind x none = none
any-front p (y ∷ ys) behind x none = any-front p ys behind x (neither_second (p y) _ none)

own_paths-insert : (front behind : List SourceName) (source : SourceName) → own_paths (front ++ behind) ≡ true → list_any (has_path source.name) (front ++ behind) ≡ false → own_paths (front ++ source ∷ behind) ≡ true
own_paths-insert [] behind source own none =
    ap (λ b. not b && own_paths behind) none ∙ own
own_paths-insert (other ∷ others) behind source own none =
    let apart = not_true _ (first (not (list_any (has_path other.name) (others ++ behind))) _ own) in
    let rest = second (not (list_any (has_path other.name) (others ++ behind))) _ own in
    let differs : has_path other.name source ≡ false = same_bytes other.name source.name ∙ neither_first (has_path source.name other) _ none in
    let kept = any-insert (has_path other.name) others behind source apart differs in
    ap (λ b. not b && own_paths (others ++ source ∷ behind)) kept ∙ own_paths-insert others behind source rest (neither_second (has_path source.name other) _ none)

none_at : (p : SourceName → Bool) (xs : List SourceName) → list_any p xs ≡ false → (k : ℕ) (d : SourceName) → k < length xs → p (slice_index_or xs k d) ≡ false
none_at p [] none k d within = absurd (omega arith)
none_at p (x ∷ xs) none zero d within = neither_first (p x) _ none
none_at p (x ∷ xs) none (suc k) d within = none_at p xs (neither_second (p x) _ none) k d (omega arith)

pub pairs_from : (sources : List SourceName) → own_paths sources ≡ true → AllPairs (λ a b. a.name ≢ b.name) sources
pairs_from [] own = λ i j d before within. absurd (omega arith)
pairs_from (source ∷ sources) own =
    let none = not_true _ (first (not (list_any (has_path source.name) sources)) _ own) in
    let apart : All (λ other. source.name ≢ other.name) sources =
    λ k d within e. let fails = none_at (has_path source.name) sources none k d within in
    let holds = (bytes_eq-Decides source.name (slice_index_or sources k d).name).1 e in
    cc
    in
    AllPairs-cons (λ a b. a.name ≢ b.name) source sources apart (pairs_from sources (second (not (list_any (has_path source.name) sources)) _ own))

-- ---- the sources that options name
abbrev pub source_by : SourceKind → Given → SourceName
source_by kind g = record { kind = kind; name = unwrap_or g.value [] }

audit_is_source : (name : Name) → same_name Audit name ≡ true → is_source name ≡ true
unfolding place is_source
audit_is_source Audit same = refl
audit_is_source _ same = absurd cc

changes_is_source : (name : Name) → same_name Changes name ≡ true → is_source name ≡ true
unfolding place is_source
changes_is_source Changes same = refl
changes_is_source _ same = absurd cc

tables_is_source : (name : Name) → same_name Tables name ≡ true → is_source name ≡ true
unfolding place is_source
tables_is_source Tables same = refl
tables_is_source _ same = absurd cc

-- a source has a value
has_value : (name : Name) (value : Option (List ℕ)) → is_source name ≡ true → fits (takes name) value ≡ true → is_some value ≡ true
unfolding is_source takes fits
has_value name (Some text) source fine = refl
has_value Audit None source fine = absurd cc
has_value Changes None source fine = absurd cc
has_value Tables None source fine = absurd cc
has_value _ None source fine = absurd cc

values_apart : (a b : Option (List ℕ)) → is_some a ≡ true → is_some b ≡ true → same_value a b ≡ false → bytes_eq (unwrap_or a []) (unwrap_or b []) ≡ false
values_apart None b some other apart = absurd cc
values_apart (Some x) None some other apart = absurd cc
values_apart (Some x) (Some y) some other apart = apart

-- two sources of which one doesn't repeat the other
source_apart : (g h : Given) → is_source g.name ≡ true → is_source h.name ≡ true → repeats g h ≡ false → same_value g.value h.value ≡ false
unfolding repeats
source_apart g h one other apart =
    let left = ap (λ b. cond b (is_source h.name && same_value g.value h.value) (same_name g.name h.name)) one in
    let right = ap (λ b. b && same_value g.value h.value) other in
    sym right ∙ sym left ∙ apart

abbrev pub path_of : Given → List ℕ
path_of g = unwrap_or g.value []

path_fails : (command : CommandName) (g h : Given) → is_source g.name ≡ true → is_some g.value ≡ true → is_source h.name ≡ true → is_right command h ≡ true → repeats g h ≡ false → bytes_eq (path_of g) (path_of h) ≡ false
unfolding is_right
path_fails command g h one some other right apart =
    values_apart g.value h.value some (has_value h.name h.value other (second (has_option command h.name) _ right)) (source_apart g h one other apart)

any_kept : (here : Bool) (test : SourceName → Bool) (kind : SourceKind) (h : Given) (kept : List Given) → (here ≡ true → test (source_by kind h) ≡ false) → list_any test (map (source_by kind) kept) ≡ false → list_any test (map (source_by kind) (cond here (h ∷ kept) kept)) ≡ false
any_kept true test kind h kept fails none = ap (λ b. b || list_any test (map (source_by kind) kept)) (fails refl) ∙ none
any_kept false test kind h kept fails none = none

-- no source of a kind has the path of an option that none of them repeats
named_apart : (command : CommandName) (g : Given) (name : Name) (kind : SourceKind) → is_source g.name ≡ true → is_some g.value ≡ true → ((other : Name) → same_name name other ≡ true → is_source other ≡ true) → (gs : List Given) → list_all (is_right command) gs ≡ true → list_any (repeats g) gs ≡ false → list_any (has_path (path_of g)) (sources_named name kind gs) ≡ false
unfolding sources_named is_named
named_apart command g name kind one some source [] right none = refl
named_apart command g name kind one some source (h ∷ gs) right none =
    any_kept (is_named name h) (has_path (path_of g)) kind h (filter (is_named name) gs) (λ same. path_fails command g h one some (source h.name same) (first (is_right command h) _ right) (neither_first (repeats g h) _ none)) (named_apart command g name kind one some source gs (second (is_right command h) _ right) (neither_second (repeats g h) _ none))

sources_apart : (command : CommandName) (g : Given) → is_source g.name ≡ true → is_some g.value ≡ true → (gs : List Given) → list_all (is_right command) gs ≡ true → list_any (repeats g) gs ≡ false → list_any (has_path (path_of g)) (sources_of gs) ≡ false
unfolding sources_of
sources_apart command g one some gs right none =
    let test = has_path (path_of g) in
    let audit = named_apart command g Audit AuditLog one some audit_is_source gs right none in
    let changes = named_apart command g Changes ChangeList one some changes_is_source gs right none in
    let tables = named_apart command g Tables TableLines one some tables_is_source gs right none in
    let front = list_any-append test (sources_named Audit AuditLog gs) (sources_named Changes ChangeList gs) in
    let all = list_any-append test (sources_named Audit AuditLog gs ++ sources_named Changes ChangeList gs) (sources_named Tables TableLines gs) in
    all ∙ ap (λ b. b || list_any test (sources_named Tables TableLines gs)) (front ∙ ap (λ b. b || list_any test (sources_named Changes ChangeList gs)) audit ∙ changes) ∙ tables

abbrev pub by_kinds : List Given → List Given → List Given → List SourceName
by_kinds audit changes tables =
    map (source_by AuditLog) audit ++ map (source_by ChangeList) changes ++ map (source_by TableLines) tables

-- one option more, of at most one kind
own_paths-more : (a c t : Bool) (g : Given) (audit changes tables : List Given) → a && c ≡ false → a && t ≡ false → c && t ≡ false → own_paths (by_kinds audit changes tables) ≡ true → (a || c || t ≡ true → list_any (has_path (path_of g)) (by_kinds audit changes tables) ≡ false) → own_paths (by_kinds (cond a (g ∷ audit) audit) (cond c (g ∷ changes) changes) (cond t (g ∷ tables) tables)) ≡ true
own_paths-more true true t g audit changes tables ac at ct own none = absurd cc
own_paths-more true false true g audit changes tables ac at ct own none = absurd cc
own_paths-more true false false g audit changes tables ac at ct own none =
    own_paths-insert [] (by_kinds audit changes tables) (source_by AuditLog g) own (none refl)
own_paths-more false true true g audit changes tables ac at ct own none = absurd cc
own_paths-more false true false g audit changes tables ac at ct own none =
    let front = map (source_by AuditLog) audit in
    let middle = map (source_by ChangeList) changes in
    let behind = map (source_by TableLines) tables in
    let old = append_assoc front middle behind in
    let new = append_assoc front (source_by ChangeList g ∷ middle) behind in
    ap own_paths new ∙ own_paths-insert front (middle ++ behind) (source_by ChangeList g) (ap own_paths (sym old) ∙ own) (ap (list_any (has_path (path_of g))) (sym old) ∙ none refl)
own_paths-more false false true g audit changes tables ac at ct own none =
    own_paths-insert (map (source_by AuditLog) audit ++ map (source_by ChangeList) changes) (map (source_by TableLines) tables) (source_by TableLines g) own (none refl)
own_paths-more false false false g audit changes tables ac at ct own none = own

pub kinds_apart : (name : Name) → (same_name Audit name && same_name Changes name ≡ false) × (same_name Audit name && same_name Tables name ≡ false) × (same_name Changes name && same_name Tables name ≡ false) × (same_name Audit name || same_name Changes name || same_name Tables name ≡ true → is_source name ≡ true)
unfolding place is_source
kinds_apart Audit = (refl, refl, refl, λ e. refl)
kinds_apart Changes = (refl, refl, refl, λ e. refl)
kinds_apart Tables = (refl, refl, refl, λ e. refl)
kinds_apart _ = (refl, refl, refl, λ e. absurd cc)

pub own_paths-sources_of : (command : CommandName) (gs : List Given) → list_all (is_right command) gs ≡ true → none_repeats gs ≡ true → own_paths (sources_of gs) ≡ true
unfolding sources_of sources_named none_repeats is_named is_right
own_paths-sources_of command [] right none = refl
own_paths-sources_of command (g ∷ gs) right none =
    let (ac, at, ct, source) = kinds_apart g.name in
    let apart = not_true _ (first (not (list_any (repeats g) gs)) _ none) in
    let fine = second (has_option command g.name) _ (first (is_right command g) _ right) in
    own_paths-more (is_named Audit g) (is_named Changes g) (is_named Tables g) g (filter (is_named Audit) gs) (filter (is_named Changes) gs) (filter (is_named Tables) gs) ac at ct (own_paths-sources_of command gs (second (is_right command g) _ right) (second (not (list_any (repeats g) gs)) _ none)) (λ any. sources_apart command g (source any) (has_value g.name g.value (source any) fine) gs (second (is_right command g) _ right) apart)

pub sources_own : (command : CommandName) (gs : List Given) → list_all (is_right command) gs ≡ true → none_repeats gs ≡ true → AllPairs (λ a b. a.name ≢ b.name) (sources_of gs)
sources_own command gs right none = pairs_from (sources_of gs) (own_paths-sources_of command gs right none)
