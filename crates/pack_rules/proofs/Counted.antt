-- A schedule has at most as many queries as its configuration.
use Rattle.std.proofs.Common.{◌≡◌, ℕ, ◌≤◌, ◌<◌, refl, sym, ap, ◌∙◌, Bool, true, false, cond, List, [], ◌∷◌, length, length-append, flat_map, Option, Some, None, bytes_eq, find, arith}
use Rattle.std.proofs.lemmas.Slice.Eq.{bytes_eq-Decides}
use Rattle.osq_config.specs.declared.config.Config.{Config}
use Rattle.osq_config.specs.declared.config.Pack.{Pack}
use Rattle.osq_config.specs.declared.config.QueryEntry.{QueryEntry}
use Rattle.osq_config.specs.Counts.{packed_count, query_count}
use Rattle.osq_config.proofs.Bounded.{packed_count-cons}
use Rattle.pack_rules.specs.declared.host.Host.{Host}
use Rattle.pack_rules.specs.declared.schedule.Mode.{Mode}
use Rattle.pack_rules.specs.declared.schedule.Scheduled.{Scheduled}
use Rattle.pack_rules.specs.ByName.{names_rise, has_name}
use Rattle.pack_rules.specs.Hosts.{rules_hold}
use Rattle.pack_rules.specs.Offers.{taken_mode, named, own_query, pack_query, own_queries, entries_in_pack, pack_queries, all_pack_queries, name_in_pack, offered}
use Rattle.pack_rules.proofs.Rising.{behind_first, other_name, tail_rises}

-- the queries of other names
others : List ℕ → List Scheduled → List Scheduled
others name [] = []
others name (x ∷ xs) = cond (has_name name x) (others name xs) (x ∷ others name xs)

no_more : (name : List ℕ) (xs : List Scheduled) → length (others name xs) ≤ length xs
unfolding others
no_more name [] = omega arith
no_more name (x ∷ xs) = by (no_more name xs) (has_name name x) where
  by : length (others name xs) ≤ length xs → (t : Bool) → length (cond t (others name xs) (x ∷ others name xs)) ≤ length (x ∷ xs)
  by rest true = omega (arith, rest)
  by rest false = omega (arith, rest)

-- there are fewer, where the name stood there
fewer : (name : List ℕ) (xs : List Scheduled) (q : Scheduled) → find (has_name name) xs ≡ Some q → length (others name xs) < length xs
unfolding others
fewer name [] q found = absurd (let no : ⊥ = cc in no)
fewer name (x ∷ xs) q found = by (fewer name xs q) (no_more name xs) (has_name name x) found where
  by : (find (has_name name) xs ≡ Some q → length (others name xs) < length xs) → length (others name xs) ≤ length xs
      → (t : Bool) → cond t (Some x) (find (has_name name) xs) ≡ Some q → length (cond t (others name xs) (x ∷ others name xs)) < length (x ∷ xs)
  by rest all true e = omega (arith, all)
  by rest all false e = let less = rest e in omega (arith, less)

find_other : (name other : List ℕ) (xs : List Scheduled) → bytes_eq other name ≡ false → find (has_name other) (others name xs) ≡ find (has_name other) xs
unfolding others
find_other name other [] differ = refl
find_other name other (x ∷ xs) differ = by (find_other name other xs differ) (has_name name x) refl where
  by : find (has_name other) (others name xs) ≡ find (has_name other) xs
      → (t : Bool) → has_name name x ≡ t → find (has_name other) (cond t (others name xs) (x ∷ others name xs)) ≡ find (has_name other) (x ∷ xs)
  by rest true is =
      let unlike : has_name other x ≡ false = ap (bytes_eq other) (sym ((bytes_eq-Decides name x.key.name).0 is)) ∙ differ in
      rest ∙ sym (ap (λ t. cond t (Some x) (find (has_name other) xs)) unlike)
  by rest false is = ap (cond (has_name other x) (Some x)) rest

-- names that rise are no more than those among which each stands
pub rising_count : (qs offers : List Scheduled) → names_rise qs ≡ true
    → ((name : List ℕ) (q : Scheduled) → find (has_name name) qs ≡ Some q → find (has_name name) offers ≡ Some q)
    → length qs ≤ length offers
rising_count [] offers rise there = omega arith
rising_count (q ∷ qs) offers rise there =
    let first = there q.key.name q (ap (λ t. cond t (Some q) (find (has_name q.key.name) qs)) ((bytes_eq-Decides q.key.name q.key.name).1 refl)) in
    let less = fewer q.key.name offers q first in
    let rest =
    rising_count qs (others q.key.name offers) (tail_rises q qs rise)
    (λ name p at.
    let unlike = other_name q name (behind_first q qs rise name p at) in
    find_other q.key.name name offers unlike ∙ there name p (ap (λ t. cond t (Some q) (find (has_name name) qs)) unlike ∙ at)) in
    omega (arith, less, rest)

flat_count : {X A : Type 0} (f : X → List A) → ((x : X) → length (f x) ≤ 1) → (xs : List X) → length (flat_map f xs) ≤ length xs
flat_count f one [] = omega arith
flat_count f one (x ∷ xs) =
    let first = one x in
    let rest = flat_count f one xs in
    omega (arith, first, rest, length-append (f x) (flat_map f xs))

named_count : (name : List ℕ) (entry : QueryEntry) (mode : Option Mode) → length (named name entry mode) ≤ 1
named_count name entry None = omega arith
named_count name entry (Some mode) = omega arith

pack_count : (host : Host) (pack : Pack) (is_found : Bool) → length (pack_queries host pack is_found) ≤ length pack.queries
pack_count host pack false = omega arith
pack_count host pack true = by (rules_hold host pack.rules) where
  by : (t : Bool) → length (cond t (entries_in_pack host pack.name pack.queries) []) ≤ length pack.queries
  by true = flat_count (pack_query host pack.name) (λ entry. named_count (name_in_pack pack.name entry.name) entry (taken_mode host entry)) pack.queries
  by false = omega arith

packs_count : (host : Host) (packs : List Pack) (found : List Bool) → length (all_pack_queries host packs found) ≤ packed_count packs
packs_count host [] found = omega arith
packs_count host (pack ∷ packs) [] = omega arith
packs_count host (pack ∷ packs) (is_found ∷ found) =
    let first = pack_count host pack is_found in
    let rest = packs_count host packs found in
    omega (arith, first, rest, length-append (pack_queries host pack is_found) (all_pack_queries host packs found), packed_count-cons pack packs)

pub offered_count : (config : Config) (host : Host) (found : List Bool) → length (offered config host found) ≤ query_count config.schedule config.packs
offered_count config host found =
    let own = flat_count (own_query host) (λ entry. named_count entry.name entry (taken_mode host entry)) config.schedule in
    let packed = packs_count host config.packs found in
    omega (arith, own, packed, length-append (own_queries host config.schedule) (all_pack_queries host config.packs found))
