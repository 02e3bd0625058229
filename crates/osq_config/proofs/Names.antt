-- The names of what is read rise, since the members of each JSON object do.
use Rattle.std.proofs.Common.{◌≡◌, ℕ, Bool, true, false, List, [], ◌∷◌, refl, sym, ap, ◌∙◌, subst, codes, map, Option, Some, None, Ordering, Less, Equal, Greater, is_lt, bytes_eq, cond}
use Rattle.std.specs.Prelude.{◌&&◌, All, option_and_then, option_map, IfOk, Result, Ok, Err}
use Rattle.std.specs.Cmp.Lexicographic.{slice_cmp}
use Rattle.std.specs.Option.{option_map_or}
use Rattle.std.specs.Ordering.{nat_cmp, match_ordering, ordering_reverse}
use Rattle.std.proofs.lemmas.Bool.{and_parts}
use Rattle.std.proofs.lemmas.Cmp.{nat_list_cmp_total}
use Rattle.std.proofs.lemmas.List.Elements.{All-nil, All-cons, All-head, All-tail}
use Rattle.json.specs.Json as json
use Rattle.json.specs.Lex.{tokens}
use Rattle.serde_json.specs.Data.{Data, null, boolean, number, string, array, object, Members, no_members, member, put}
use Rattle.serde_json.specs.Find.{get, get_member, as_str, as_object}
use Rattle.serde_json.specs.Read.{max_depth, number_of, of_items, of_json, of_members}
use Rattle.osq_config.specs.declared.config.Config.{Config}
use Rattle.osq_config.specs.declared.config.Pack.{Pack}
use Rattle.osq_config.specs.declared.error.ConfigError.{ConfigError}
use Rattle.osq_config.specs.declared.file.PackFile.{PackFile}
use Rattle.osq_config.specs.Counts.{fault_of_config}
use Rattle.osq_config.specs.Documents.{HasValue, text_of}
use Rattle.osq_config.specs.Files.{file_names, file_of, file_pack, files_of, filled, left_out, refilled}
use Rattle.osq_config.specs.Names.{names_rise, entry_names, pack_names, category_names, QueriesRise, NamesRise}
use Rattle.osq_config.specs.Reads.{Answers}
use Rattle.osq_config.specs.Values.{entries_of, entries_in, pack_with, pack_by_path, pack_of, packs_of, packs_in, categories_of, categories_in, config_of}
use Rattle.osq_config.proofs.Rising.{StandsBefore, before_all, name_order, rise_more, tail_rises}

-- what holds of a value, where there is one
abbrev Given : {X : Type 0} → (X → Type 0) → Option X → Type 0
Given P None = Unit {0}
Given P (Some x) = P x

given_then : {X Y : Type 0} (P : X → Type 0) (Q : Y → Type 0) (f : X → Option Y) (found : Option X) → Given P found → ((x : X) → P x → Given Q (f x)) → Given Q (option_and_then f found)
given_then P Q f None holds more = tt
given_then P Q f (Some x) holds more = more x holds

given_map : {X Y : Type 0} (P : X → Type 0) (Q : Y → Type 0) (f : X → Y) (found : Option X) → Given P found → ((x : X) → P x → Q (f x)) → Given Q (option_map f found)
given_map P Q f None holds more = tt
given_map P Q f (Some x) holds more = more x holds

abbrev keys : Members → List (List ℕ)
keys no_members = []
keys (member key d ms) = key ∷ keys ms

-- the keys of each object rise; what arrays hold isn't looked at
abbrev mutual
  IsOrdered : Data → Type 0
  IsOrdered null = Unit {0}
  IsOrdered (boolean b) = Unit {0}
  IsOrdered (number n) = Unit {0}
  IsOrdered (string s) = Unit {0}
  IsOrdered (array ds) = Unit {0}
  IsOrdered (object ms) = (names_rise (keys ms) ≡ true) × AreOrdered ms

  AreOrdered : Members → Type 0
  AreOrdered no_members = Unit {0}
  AreOrdered (member key d ms) = IsOrdered d × AreOrdered ms

-- a key that stands before others, and before one that is put among them
before_put : (first key : List ℕ) (d : Data) (ms : Members) → name_order first key ≡ Less → StandsBefore first (keys ms) → StandsBefore first (keys (put key d ms))
before_put first key d no_members less before = (less, tt)
before_put first key d (member other e ms) less before = by (before_put first key d ms less before.1) (name_order key other) where
  by : StandsBefore first (keys (put key d ms)) → (r : Ordering) → StandsBefore first (keys (match_ordering r (member key d (member other e ms)) (member other d ms) (member other e (put key d ms))))
  by rest Less = (less, before)
  by rest Equal = before
  by rest Greater = (before.0, rest)

put_rises : (key : List ℕ) (d : Data) (ms : Members) → names_rise (keys ms) ≡ true → names_rise (keys (put key d ms)) ≡ true
put_rises key d no_members rise = refl
put_rises key d (member other e ms) rise = by (put_rises key d ms (tail_rises other (keys ms) rise)) (name_order key other) refl where
  by : names_rise (keys (put key d ms)) ≡ true → (r : Ordering) → name_order key other ≡ r
      → names_rise (keys (match_ordering r (member key d (member other e ms)) (member other d ms) (member other e (put key d ms)))) ≡ true
  by rest Less is = ap (λ t. t && names_rise (keys (member other e ms))) (ap is_lt is) ∙ rise
  by rest Equal is = rise
  by rest Greater is =
      let less : name_order other key ≡ Less = nat_list_cmp_total.antisymm other key ∙ ap ordering_reverse is in
      rise_more other (keys (put key d ms)) (before_put other key d ms less (before_all other (keys ms) rise)) rest

put_ordered : (key : List ℕ) (d : Data) (ms : Members) → IsOrdered d → AreOrdered ms → AreOrdered (put key d ms)
put_ordered key d no_members is are = (is, tt)
put_ordered key d (member other e ms) is are = by (put_ordered key d ms is are.1) (name_order key other) where
  by : AreOrdered (put key d ms) → (r : Ordering) → AreOrdered (match_ordering r (member key d (member other e ms)) (member other d ms) (member other e (put key d ms)))
  by rest Less = (is, are)
  by rest Equal = (is, are.1)
  by rest Greater = (are.0, rest)

abbrev HasOrder : Members → Type 0
HasOrder ms = (names_rise (keys ms) ≡ true) × AreOrdered ms

anything : {X : Type 0} → (found : Option X) → Given (λ (x : X). Unit {0}) found
anything None = tt
anything (Some x) = tt

mutual
  json_ordered : (j : json.Json) → Given IsOrdered (of_json j)
  json_ordered json.null = tt
  json_ordered (json.boolean b) = tt
  json_ordered (json.number s) = given_map (λ n. Unit {0}) IsOrdered number (number_of s) (anything (number_of s)) (λ n holds. tt)
  json_ordered (json.string s) = tt
  json_ordered (json.array js) = given_map (λ ds. Unit {0}) IsOrdered array (of_items js) (anything (of_items js)) (λ ds holds. tt)
  json_ordered (json.object ms) = given_map HasOrder IsOrdered object (of_members ms no_members) (members_ordered ms no_members (refl, tt)) (λ all holds. holds)

  members_ordered : (ms : json.Members) (found : Members) → HasOrder found → Given HasOrder (of_members ms found)
  members_ordered json.no_members found has = has
  members_ordered (json.member key j ms) found has =
      given_then IsOrdered HasOrder (λ d. of_members ms (put key d found)) (of_json j) (json_ordered j)
      (λ d is. members_ordered ms (put key d found) (put_rises key d found has.0, put_ordered key d found is has.1))

value_ordered : (document : List ℕ) (d : Data) → HasValue document d → IsOrdered d
value_ordered document d has = subst (Given IsOrdered) has.is_json (by (option_and_then (λ p. json.if_last p.0 p.1) (json.value max_depth (tokens (text_of document))))) where
  by : (parsed : Option json.Json) → Given IsOrdered (option_and_then of_json parsed)
  by None = tt
  by (Some j) = json_ordered j

get_ordered : (key : List ℕ) (d : Data) → IsOrdered d → Given IsOrdered (get key d)
get_ordered key null is = tt
get_ordered key (boolean b) is = tt
get_ordered key (number n) is = tt
get_ordered key (string s) is = tt
get_ordered key (array ds) is = tt
get_ordered key (object ms) is = among ms is.1 where
  among : (ms : Members) → AreOrdered ms → Given IsOrdered (get_member key ms)
  among no_members are = tt
  among (member other e ms) are = by (name_order key other) (among ms are.1) where
    by : (r : Ordering) → Given IsOrdered (get_member key ms) → Given IsOrdered (match_ordering r (get_member key ms) (Some e) (get_member key ms))
    by Less rest = rest
    by Equal rest = are.0
    by Greater rest = rest

entry_keys : (ms : Members) → entry_names (entries_of ms) ≡ keys ms
entry_keys no_members = refl
entry_keys (member name d ms) = ap (λ (names : List (List ℕ)). name ∷ names) (entry_keys ms)

-- the members of a value that is an object
object_in : (found : Option Data) → Given IsOrdered found → Given HasOrder (option_and_then as_object found)
object_in None is = tt
object_in (Some null) is = tt
object_in (Some (boolean b)) is = tt
object_in (Some (number n)) is = tt
object_in (Some (string s)) is = tt
object_in (Some (array ds)) is = tt
object_in (Some (object ms)) is = is

entries_rise : (found : Option Data) → Given IsOrdered found → names_rise (entry_names (entries_in found)) ≡ true
entries_rise found is = by (option_and_then as_object found) (object_in found is) where
  by : (members : Option Members) → Given HasOrder members → names_rise (entry_names (option_map_or entries_of members [])) ≡ true
  by None has = refl
  by (Some ms) has = ap names_rise (entry_keys ms) ∙ has.0

pack_name : (name : List ℕ) (d : Data) → (pack_of name d).name ≡ name
pack_name name d = by (as_str d) where
  by : (path : Option (List ℕ)) → (option_map_or (pack_by_path name) path (pack_with name None d)).name ≡ name
  by None = refl
  by (Some path) = refl

pack_keys : (ms : Members) → pack_names (packs_of ms) ≡ keys ms
pack_keys no_members = refl
pack_keys (member name d ms) = ap (λ (first : List ℕ). first ∷ pack_names (packs_of ms)) (pack_name name d) ∙ ap (λ (names : List (List ℕ)). name ∷ names) (pack_keys ms)

packs_rise : (found : Option Data) → Given IsOrdered found → names_rise (pack_names (packs_in found)) ≡ true
packs_rise found is = by (option_and_then as_object found) (object_in found is) where
  by : (members : Option Members) → Given HasOrder members → names_rise (pack_names (option_map_or packs_of members [])) ≡ true
  by None has = refl
  by (Some ms) has = ap names_rise (pack_keys ms) ∙ has.0

pack_queries : (name : List ℕ) (d : Data) → IsOrdered d → QueriesRise (pack_of name d)
pack_queries name d is = by (as_str d) where
  by : (path : Option (List ℕ)) → QueriesRise (option_map_or (pack_by_path name) path (pack_with name None d))
  by None = entries_rise (get (codes "queries") d) (get_ordered (codes "queries") d is)
  by (Some path) = refl

all_queries : (ms : Members) → AreOrdered ms → All QueriesRise (packs_of ms)
all_queries no_members are = All-nil QueriesRise
all_queries (member name d ms) are = All-cons QueriesRise (pack_of name d) (packs_of ms) (pack_queries name d are.0) (all_queries ms are.1)

queries_rise : (found : Option Data) → Given IsOrdered found → All QueriesRise (packs_in found)
queries_rise found is = by (option_and_then as_object found) (object_in found is) where
  by : (members : Option Members) → Given HasOrder members → All QueriesRise (option_map_or packs_of members [])
  by None has = All-nil QueriesRise
  by (Some ms) has = all_queries ms has.1

category_keys : (excluded : Option Data) (ms : Members) → category_names (categories_of excluded ms) ≡ keys ms
category_keys excluded no_members = refl
category_keys excluded (member name d ms) = ap (λ (names : List (List ℕ)). name ∷ names) (category_keys excluded ms)

categories_rise : (excluded found : Option Data) → Given IsOrdered found → names_rise (category_names (categories_in excluded found)) ≡ true
categories_rise excluded found is = by (option_and_then as_object found) (object_in found is) where
  by : (members : Option Members) → Given HasOrder members → names_rise (category_names (option_map_or (categories_of excluded) members [])) ≡ true
  by None has = refl
  by (Some ms) has = ap names_rise (category_keys excluded ms) ∙ has.0

config_rises : (d : Data) → IsOrdered d → NamesRise (config_of d)
unfolding config_of
config_rises d is = record {
  schedule = entries_rise (get (codes "schedule") d) (get_ordered (codes "schedule") d is);
  packs = packs_rise (get (codes "packs") d) (get_ordered (codes "packs") d is);
  queries = queries_rise (get (codes "packs") d) (get_ordered (codes "packs") d is);
  categories = categories_rise (get (codes "exclude_paths") d) (get (codes "file_paths") d) (get_ordered (codes "file_paths") d is);
}

-- an answered configuration
pub answer_rises : (document : List ℕ) (read : Result Config ConfigError) → Answers fault_of_config config_of document read → IfOk read NamesRise
answer_rises document (Ok config) (d, has, none, is) = subst NamesRise (sym is) (config_rises d (value_ordered document d has))
answer_rises document (Err error) answer = tt

-- the queries of a pack's file
file_rises : (document : List ℕ) (d : Data) → HasValue document d → QueriesRise (file_pack d)
unfolding file_pack
file_rises document d has = entries_rise (get (codes "queries") d) (get_ordered (codes "queries") d (value_ordered document d has))

pub filled_names : (name : List ℕ) (read : Pack) (packs : List Pack) → pack_names (filled name read packs) ≡ pack_names packs
filled_names name read [] = refl
filled_names name read (pack ∷ packs) = by (bytes_eq pack.name name) (filled_names name read packs) where
  by : (t : Bool) → pack_names (filled name read packs) ≡ pack_names packs → pack_names (cond t (refilled pack read ∷ packs) (pack ∷ filled name read packs)) ≡ pack.name ∷ pack_names packs
  by true rest = refl
  by false rest = ap (λ (names : List (List ℕ)). pack.name ∷ names) rest

filled_queries : (name : List ℕ) (read : Pack) (packs : List Pack) → QueriesRise read → All QueriesRise packs → All QueriesRise (filled name read packs)
filled_queries name read [] rise all = All-nil QueriesRise
filled_queries name read (pack ∷ packs) rise all =
    elim (bytes_eq pack.name name) as (λ t. All QueriesRise (cond t (refilled pack read ∷ packs) (pack ∷ filled name read packs))) [
      | true ↦ All-cons QueriesRise (refilled pack read) packs rise (All-tail QueriesRise pack packs all)
      | false ↦
          All-cons QueriesRise pack (filled name read packs) (All-head QueriesRise pack packs all) (filled_queries name read packs rise (All-tail QueriesRise pack packs all))
    ]

pub filled_rises : (config : Config) (name document : List ℕ) (d : Data) → HasValue document d → NamesRise config → NamesRise (record config { packs = filled name (file_pack d) config.packs })
filled_rises config name document d has rise = record {
  schedule = rise.schedule;
  packs = ap names_rise (filled_names name (file_pack d) config.packs) ∙ rise.packs;
  queries = filled_queries name (file_pack d) config.packs (file_rises document d has) rise.queries;
  categories = rise.categories;
}

before_left : (first name : List ℕ) (packs : List Pack) → StandsBefore first (pack_names packs) → StandsBefore first (pack_names (left_out name packs))
before_left first name [] before = tt
before_left first name (pack ∷ packs) before = by (bytes_eq pack.name name) (before_left first name packs before.1) where
  by : (t : Bool) → StandsBefore first (pack_names (left_out name packs)) → StandsBefore first (pack_names (cond t packs (pack ∷ left_out name packs)))
  by true rest = before.1
  by false rest = (before.0, rest)

pub left_names : (name : List ℕ) (packs : List Pack) → names_rise (pack_names packs) ≡ true → names_rise (pack_names (left_out name packs)) ≡ true
left_names name [] rise = refl
left_names name (pack ∷ packs) rise = by (bytes_eq pack.name name) (left_names name packs (tail_rises pack.name (pack_names packs) rise)) where
  by : (t : Bool) → names_rise (pack_names (left_out name packs)) ≡ true → names_rise (pack_names (cond t packs (pack ∷ left_out name packs))) ≡ true
  by true rest = tail_rises pack.name (pack_names packs) rise
  by false rest = rise_more pack.name (pack_names (left_out name packs)) (before_left pack.name name packs (before_all pack.name (pack_names packs) rise)) rest

left_queries : (name : List ℕ) (packs : List Pack) → All QueriesRise packs → All QueriesRise (left_out name packs)
left_queries name [] all = All-nil QueriesRise
left_queries name (pack ∷ packs) all =
    elim (bytes_eq pack.name name) as (λ t. All QueriesRise (cond t packs (pack ∷ left_out name packs))) [
      | true ↦ All-tail QueriesRise pack packs all
      | false ↦ All-cons QueriesRise pack (left_out name packs) (All-head QueriesRise pack packs all) (left_queries name packs (All-tail QueriesRise pack packs all))
    ]

pub left_rises : (config : Config) (name : List ℕ) → NamesRise config → NamesRise (record config { packs = left_out name config.packs })
left_rises config name rise = record {
  schedule = rise.schedule;
  packs = left_names name config.packs rise.packs;
  queries = left_queries name config.packs rise.queries;
  categories = rise.categories;
}

before_files : (first : List ℕ) (packs : List Pack) → StandsBefore first (pack_names packs) → StandsBefore first (file_names (files_of packs))
before_files first [] before = tt
before_files first (pack ∷ packs) before = by pack.path (before_files first packs before.1) where
  by : (path : Option (List ℕ)) → StandsBefore first (file_names (files_of packs))
      → StandsBefore first (file_names (files_of (record pack { path = path } ∷ packs)))
  by None rest = rest
  by (Some path) rest = (before.0, rest)

pub files_rise : (packs : List Pack) → names_rise (pack_names packs) ≡ true → names_rise (file_names (files_of packs)) ≡ true
files_rise [] rise = refl
files_rise (pack ∷ packs) rise = by pack.path (files_rise packs (tail_rises pack.name (pack_names packs) rise)) where
  by : (path : Option (List ℕ)) → names_rise (file_names (files_of packs)) ≡ true → names_rise (file_names (files_of (record pack { path = path } ∷ packs))) ≡ true
  by None rest = rest
  by (Some path) rest = rise_more pack.name (file_names (files_of packs)) (before_files pack.name packs (before_all pack.name (pack_names packs) rise)) rest
