-- Every schedule of a configuration whose numbers are within their bounds is sound.
use Rattle.std.proofs.Common.{◌≡◌, ℕ, refl, sym, ap, ◌∙◌, subst, Bool, true, false, cond, List, [], ◌∷◌, flat_map, All, Option, Some, None, find, arith}
use Rattle.std.proofs.lemmas.List.Elements.{All-nil, All-cons, All-head, All-tail, All-append}
use Rattle.std.proofs.lemmas.Slice.Eq.{bytes_eq-Decides}
use Rattle.osq_config.specs.declared.config.Config.{Config}
use Rattle.osq_config.specs.declared.config.Pack.{Pack}
use Rattle.osq_config.specs.declared.config.QueryEntry.{QueryEntry}
use Rattle.osq_config.specs.Bounds.{IsBoundedEntry, IsBoundedPack, IsBounded}
use Rattle.sql_query.specs.Resolved.{QueryTree}
use Rattle.sql_query.specs.Answers.{is_evented_query}
use Rattle.sql_texts.specs.Texts.{query_in}
use Rattle.sql_texts.specs.Meaning.{is_accepted, is_evented_if, is_query, names_evented}
use Rattle.pack_rules.specs.declared.host.Host.{Host}
use Rattle.pack_rules.specs.declared.schedule.Mode.TheVariants.{Evented}
use Rattle.pack_rules.specs.declared.schedule.Scheduled.{Scheduled}
use Rattle.pack_rules.specs.declared.schedule.Schedule.{Schedule}
use Rattle.pack_rules.specs.ByName.{names_rise, has_name}
use Rattle.pack_rules.specs.Hosts.{rules_hold}
use Rattle.pack_rules.specs.Offers.{mode_of, mode_in, taken_mode, named, own_query, pack_query, own_queries, entries_in_pack, pack_queries, all_pack_queries, name_in_pack, offered}
use Rattle.pack_rules.specs.Schedules.{IsScheduleOf}
use Rattle.pack_rules.specs.Sound.{IsRunnable, IsSound}
use Rattle.pack_rules.proofs.Counted.{offered_count, rising_count}
use Rattle.pack_rules.proofs.Rising.{behind_first, other_name, tail_rises}

module _ {X A : Type 0} (Q : X → Type 0) (P : A → Type 0) (f : X → List A) (h : (x : X) → Q x → All P (f x)) where
  all_flat : (xs : List X) → All Q xs → All P (flat_map f xs)
  all_flat [] all = All-nil P
  all_flat (x ∷ xs) all = All-append P (f x) (flat_map f xs) (h x (All-head Q x xs all)) (all_flat xs (All-tail Q x xs all))

evented_names : (is_snapshot is_evented : Bool) → mode_of is_snapshot is_evented ≡ Evented → is_evented ≡ true
evented_names true e h = absurd (let no : ⊥ = cc in no)
evented_names false true h = refl
evented_names false false h = absurd (let no : ⊥ = cc in no)

named_runnable : (name : List ℕ) (entry : QueryEntry) → IsBoundedEntry entry → (query : Option QueryTree) → query_in entry.text ≡ query
    → All IsRunnable (named name entry (mode_in entry.is_snapshot query))
unfolding is_accepted names_evented
named_runnable name entry ranged None is = All-nil IsRunnable
named_runnable name entry ranged (Some query) is =
    All-cons IsRunnable _ []
    (record {
      accepted = ap is_query is;
      evented = λ mode. ap is_evented_if is ∙ evented_names entry.is_snapshot (is_evented_query query) mode;
      at_least = ranged.interval.0;
      at_most = ranged.interval.1;
    })
    (All-nil IsRunnable)

taken_runnable : (host : Host) (name : List ℕ) (entry : QueryEntry) → IsBoundedEntry entry → All IsRunnable (named name entry (taken_mode host entry))
taken_runnable host name entry ranged =
    elim (rules_hold host entry.rules) as (λ t. All IsRunnable (named name entry (cond t (mode_in entry.is_snapshot (query_in entry.text)) None))) [
      | true ↦ named_runnable name entry ranged (query_in entry.text) refl
      | false ↦ All-nil IsRunnable
    ]

pack_runnable : (host : Host) (pack : Pack) (is_found : Bool) → All IsBoundedEntry pack.queries → All IsRunnable (pack_queries host pack is_found)
pack_runnable host pack false ranged = All-nil IsRunnable
pack_runnable host pack true ranged =
    elim (rules_hold host pack.rules) as (λ t. All IsRunnable (cond t (entries_in_pack host pack.name pack.queries) [])) [
      | true ↦ all_flat IsBoundedEntry IsRunnable (pack_query host pack.name) (λ entry in_range. taken_runnable host (name_in_pack pack.name entry.name) entry in_range) pack.queries ranged
      | false ↦ All-nil IsRunnable
    ]

packs_runnable : (host : Host) (packs : List Pack) (found : List Bool) → All IsBoundedPack packs → All IsRunnable (all_pack_queries host packs found)
packs_runnable host [] found ranged = All-nil IsRunnable
packs_runnable host (pack ∷ packs) [] ranged = All-nil IsRunnable
packs_runnable host (pack ∷ packs) (is_found ∷ found) ranged =
    All-append IsRunnable (pack_queries host pack is_found) (all_pack_queries host packs found)
    (pack_runnable host pack is_found (All-head IsBoundedPack pack packs ranged).queries) (packs_runnable host packs found (All-tail IsBoundedPack pack packs ranged))

offered_runnable : (config : Config) (host : Host) (found : List Bool) → IsBounded config → All IsRunnable (offered config host found)
offered_runnable config host found ranged =
    All-append IsRunnable (own_queries host config.schedule) (all_pack_queries host config.packs found)
    (all_flat IsBoundedEntry IsRunnable (own_query host) (λ entry in_range. taken_runnable host entry.name entry in_range) config.schedule ranged.schedule)
    (packs_runnable host config.packs found ranged.packs)

-- what is found has what all have
found_holds : (P : Scheduled → Type 0) (test : Scheduled → Bool) (xs : List Scheduled) (q : Scheduled) → All P xs → find test xs ≡ Some q → P q
found_holds P test [] q all is = absurd (let no : ⊥ = cc in no)
found_holds P test (x ∷ xs) q all is = by (found_holds P test xs q (All-tail P x xs all)) (test x) is where
  by : (find test xs ≡ Some q → P q) → (t : Bool) → cond t (Some x) (find test xs) ≡ Some q → P q
  by rest true e = let same : x ≡ q = cc in subst P same (All-head P x xs all)
  by rest false e = rest e

-- where the names rise each query is found by its name
all_found : (P : Scheduled → Type 0) (qs : List Scheduled) → names_rise qs ≡ true → ((q : Scheduled) → find (has_name q.key.name) qs ≡ Some q → P q) → All P qs
all_found P [] rise h = All-nil P
all_found P (q ∷ qs) rise h =
    All-cons P q qs
    (h q (ap (λ t. cond t (Some q) (find (has_name q.key.name) qs)) ((bytes_eq-Decides q.key.name q.key.name).1 refl)))
    (all_found P qs (tail_rises q qs rise)
    (λ r found. h r (ap (λ t. cond t (Some q) (find (has_name r.key.name) qs)) (other_name q r.key.name (behind_first q qs rise r.key.name r found)) ∙ found)))

pub schedule_sound : (config : Config) (host : Host) (found : List Bool) (schedule : Schedule) → IsBounded config → IsScheduleOf config host found schedule → IsSound schedule
schedule_sound config host found schedule ranged is = record {
  count =
      let offers = rising_count schedule.queries (offered config host found) is.queries.rise (λ name q there. sym (is.queries.first name) ∙ there) in
      let all = offered_count config host found in
      let most = ranged.count in
      omega (arith, offers, all, most);
  order = is.queries.rise;
  runnable =
      all_found IsRunnable schedule.queries is.queries.rise
      (λ q there. found_holds IsRunnable (has_name q.key.name) (offered config host found) q (offered_runnable config host found ranged) (sym (is.queries.first q.key.name) ∙ there));
  expiry_least = rw is.expiry ranged.events_expiry.0;
  expiry_most = rw is.expiry (let most = ranged.events_expiry.1 in omega (arith, most));
  max_least = rw is.max ranged.events_max.0;
  max_most = rw is.max ranged.events_max.1;
}
