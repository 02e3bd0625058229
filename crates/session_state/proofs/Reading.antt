-- How far the readers of a table have read, by their places.
use Rattle.std.proofs.Common.{◌≡◌, ℕ, zero, suc, ◌+◌, ◌<◌, Bool, true, false, cond, List, [], ◌∷◌, ◌++◌, length, map, take, get_or, Option, Some, refl, ap, ◌∙◌, arith}
use Rattle.std.specs.Prelude.{filter, slice_get, slice_index_or, unwrap_or}
use Rattle.std.specs.Option.{option_map_or}
use Rattle.std.proofs.lemmas.Bool.Decides.{nat_tests}
use Rattle.std.proofs.lemmas.List.{length-take, take_more}
use Rattle.pack_rules.specs.declared.schedule.Scheduled.{Scheduled}
use Rattle.entry_model.specs.declared.restored.Run.{Run}
use Rattle.entry_model.specs.Views.{is_evented_table, is_reader, least_of}
use Rattle.query_cursors.specs.Due as cursors
use Rattle.query_cursors.specs.Places.{Indexed, places_of, cursor_at}
use Rattle.query_cursors.proofs.Placing.{placed_run_is}
use Rattle.session_state.specs.Readers.{readers_from, readers_of}
use Rattle.session_state.specs.Ticks.{reached_by}

-- the place of one query more, where it is a reader
abbrev pub one_reader : ℕ → ℕ → Scheduled → List ℕ
one_reader table at scheduled = cond (is_reader table scheduled) (at ∷ []) []

from_more : (table at : ℕ) (queries : List Scheduled) (scheduled : Scheduled) → readers_from table at (queries ++ scheduled ∷ []) ≡ readers_from table at queries ++ one_reader table (at + length queries) scheduled
from_more table at [] scheduled = ap (λ (place : ℕ). one_reader table place scheduled) (omega arith)
from_more table at (first ∷ rest) scheduled = by_first (is_reader table first) (from_more table (at + 1) rest scheduled ∙ ap (λ (place : ℕ). readers_from table (at + 1) rest ++ one_reader table place scheduled) there)
  where
    there : at + 1 + length rest ≡ at + length (first ∷ rest)
    there = omega arith

    by_first : (b : Bool) → readers_from table (at + 1) (rest ++ scheduled ∷ []) ≡ readers_from table (at + 1) rest ++ one_reader table (at + length (first ∷ rest)) scheduled → cond b (at ∷ readers_from table (at + 1) (rest ++ scheduled ∷ [])) (readers_from table (at + 1) (rest ++ scheduled ∷ [])) ≡ cond b (at ∷ readers_from table (at + 1) rest) (readers_from table (at + 1) rest) ++ one_reader table (at + length (first ∷ rest)) scheduled
    by_first true more = ap (λ (places : List ℕ). at ∷ places) more
    by_first false more = more

pub readers_more : (table : ℕ) (queries : List Scheduled) (at : ℕ) (d : Scheduled) → at < length queries → readers_from table 0 (take (at + 1) queries) ≡ readers_from table 0 (take at queries) ++ one_reader table at (get_or queries at d)
readers_more table queries at d within =
    let long : 0 + length (take at queries) ≡ at = omega (arith, length-take at queries, within) in
    ap (readers_from table 0) (take_more queries at d within)
    ∙ from_more table 0 (take at queries) (get_or queries at d)
    ∙ ap (λ (place : ℕ). readers_from table 0 (take at queries) ++ one_reader table place (get_or queries at d)) long

module _ (c : Indexed) (table : ℕ) where
  abbrev cursor : Scheduled → ℕ
  cursor scheduled = cursors.cursor_of c.runs scheduled.key

  cursors_from : (queries : List Scheduled) (at : ℕ) → ((k : ℕ) (scheduled : Scheduled) → slice_get queries k ≡ Some scheduled → cursor_at c (at + k) ≡ cursor scheduled) → map (cursor_at c) (readers_from table at queries) ≡ map cursor (filter (is_reader table) queries)
  cursors_from [] at placed = refl
  cursors_from (first ∷ rest) at placed = by_first (is_reader table first) (cursors_from rest (at + 1) later)
    where
      later : (k : ℕ) (scheduled : Scheduled) → slice_get rest k ≡ Some scheduled → cursor_at c (at + 1 + k) ≡ cursor scheduled
      later k scheduled there =
          let same : at + 1 + k ≡ at + suc k = omega arith in
          ap (cursor_at c) same ∙ placed (suc k) scheduled there

      here : cursor_at c at ≡ cursor first
      here =
          let same : at ≡ at + 0 = omega arith in
          ap (cursor_at c) same ∙ placed 0 first refl

      by_first : (b : Bool) → map (cursor_at c) (readers_from table (at + 1) rest) ≡ map cursor (filter (is_reader table) rest) → map (cursor_at c) (cond b (at ∷ readers_from table (at + 1) rest) (readers_from table (at + 1) rest)) ≡ map cursor (cond b (first ∷ filter (is_reader table) rest) (filter (is_reader table) rest))
      by_first true more = λ i. here i ∷ more i
      by_first false more = more

  pub cursors_are : (queries : List Scheduled) → c.places ≡ places_of c.runs queries → map (cursor_at c) (readers_from table 0 queries) ≡ map cursor (filter (is_reader table) queries)
  cursors_are queries placed =
      cursors_from queries 0 (λ k scheduled there. first k ∙ ap (λ (o : Option Run). option_map_or (λ (run : Run). run.hi) o 0) (placed_run_is c queries k scheduled placed there))
    where
      first : (k : ℕ) → cursor_at c (0 + k) ≡ cursor_at c k
      first k =
          let same : 0 + k ≡ k = omega arith in
          ap (cursor_at c) same

-- the readers of an evented table
readers_at : (queries : List Scheduled) (table : ℕ) → is_evented_table table ≡ true → slice_index_or (readers_of queries) table [] ≡ readers_from table 0 queries
readers_at queries zero is = refl
readers_at queries (suc zero) is = refl
readers_at queries (suc (suc zero)) is = refl
readers_at queries (suc (suc (suc table))) is = absurd (grind (arith, nat_tests, is))

-- what is reached by the places of the readers
pub reached_is : (c : Indexed) (queries : List Scheduled) (readers : List (List ℕ)) (last table : ℕ) → is_evented_table table ≡ true → c.places ≡ places_of c.runs queries → readers ≡ readers_of queries → unwrap_or (least_of (map (cursor_at c) (slice_index_or readers table []))) last ≡ reached_by c.runs queries last table
reached_is c queries readers last table is placed are =
    ap (λ (numbers : List ℕ). unwrap_or (least_of numbers) last) (ap (λ (all : List (List ℕ)). map (cursor_at c) (slice_index_or all table [])) are ∙ ap (map (cursor_at c)) (readers_at queries table is) ∙ cursors_are c table queries placed)
