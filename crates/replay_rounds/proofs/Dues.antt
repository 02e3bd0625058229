-- Which queries are due behind a batch of the one that was due first.
use Rattle.std.proofs.Common.{◌≡◌, ℕ, zero, suc, ◌+◌, ◌≤◌, Bool, true, false, cond, List, [], ◌∷◌, Ordering, Less, Equal, Greater, is_lt, Option, Some, refl, sym, ap, ◌∙◌, arith}
use Rattle.std.specs.Prelude.{All, filter, nat_le, not, slice_get, bytes_eq, ◌&&◌}
use Rattle.std.specs.List.{position_or_len}
use Rattle.std.specs.Ordering.{is_eq, nat_cmp}
use Rattle.std.specs.Cmp.Lexicographic.{slice_cmp}
use Rattle.std.proofs.lemmas.Bool.Decides.{nat_tests}
use Rattle.std.proofs.lemmas.Cmp.{nat_list_cmp_total}
use Rattle.std.proofs.lemmas.List.Elements.{All-cons, All-head, All-nil, All-tail}
use Rattle.std.proofs.lemmas.Map.Text.{is_eq-slice_cmp}
use Rattle.pack_rules.specs.declared.schedule.QueryKey.{QueryKey}
use Rattle.pack_rules.specs.declared.schedule.Scheduled.{Scheduled}
use Rattle.pack_rules.specs.Keys.{same_key, same_mode}
use Rattle.entry_model.specs.declared.restored.Run.{Run}
use Rattle.entry_model.specs.Runs.{with_batch}
use Rattle.pack_rules.specs.ByName.{names_rise}
use Rattle.pack_rules.specs.Sound.{IsRunnable}
use Rattle.entry_model.proofs.Lasts.{same_key_is}
use Rattle.entry_model.proofs.Lists.{and_true}
use Rattle.query_cursors.specs.Due.{is_due, is_due_by, run_of}
use Rattle.session_state.proofs.Rooms.{noted_run, other_run}

less_of : (o : Ordering) → is_lt o ≡ true → o ≡ Less
less_of Less h = refl
less_of Equal h = absurd (cc)
less_of Greater h = absurd (cc)

abbrev name_order : Scheduled → Scheduled → Ordering
name_order one other = slice_cmp nat_cmp one.key.name other.key.name

tail_rises : (one : Scheduled) (rest : List Scheduled) → names_rise (one ∷ rest) ≡ true → names_rise rest ≡ true
tail_rises one [] rise = refl
tail_rises one (other ∷ rest) rise = (and_true (is_lt (name_order one other)) (names_rise (other ∷ rest)) rise).1

all_behind : (one other : Scheduled) (rest : List Scheduled) → name_order one other ≡ Less → All (λ (third : Scheduled). name_order other third ≡ Less) rest → All (λ (third : Scheduled). name_order one third ≡ Less) rest
all_behind one other [] less each = All-nil (λ (third : Scheduled). name_order one third ≡ Less)
all_behind one other (third ∷ rest) less each =
    All-cons (λ (third : Scheduled). name_order one third ≡ Less) third rest
    (nat_list_cmp_total.trans one.key.name other.key.name third.key.name less (All-head (λ (third : Scheduled). name_order other third ≡ Less) third rest each))
    (all_behind one other rest less (All-tail (λ (third : Scheduled). name_order other third ≡ Less) third rest each))

-- a query whose name rises to the others' stands before each of them
before_all : (one : Scheduled) (rest : List Scheduled) → names_rise (one ∷ rest) ≡ true → All (λ (other : Scheduled). name_order one other ≡ Less) rest
before_all one [] rise = All-nil (λ (other : Scheduled). name_order one other ≡ Less)
before_all one (other ∷ rest) rise =
    let parts = and_true (is_lt (name_order one other)) (names_rise (other ∷ rest)) rise in
    let less = less_of (name_order one other) parts.0 in
    All-cons (λ (other : Scheduled). name_order one other ≡ Less) other rest less (all_behind one other rest less (before_all other rest parts.1))

-- and is another query than they
other_key : (one other : Scheduled) → name_order one other ≡ Less → same_key one.key other.key ≡ false
other_key one other less =
    let named : bytes_eq one.key.name other.key.name ≡ false = sym (is_eq-slice_cmp one.key.name other.key.name) ∙ ap is_eq less in
    ap (λ (b : Bool). b && (bytes_eq one.key.text other.key.text && same_mode one.key.mode other.key.mode)) named

module _ (query : QueryKey) (number hi moment : ℕ) (runs : List Run) where
  abbrev was_due : Scheduled → Bool
  was_due scheduled = is_due_by runs moment scheduled

  abbrev still_due : Scheduled → Bool
  still_due scheduled = is_due_by (with_batch runs query number hi moment) moment scheduled

  -- the query of the batch is not due
  not_due : (scheduled : Scheduled) → query ≡ scheduled.key → 1 ≤ scheduled.interval → still_due scheduled ≡ false
  not_due scheduled same least =
      let noted = noted_run query number hi moment runs in
      let at = noted.moment_is in
      let late : nat_le (noted.run.moment + scheduled.interval) moment ≡ false = grind (arith, nat_tests, at, least) in
      ap (λ (k : QueryKey). is_due scheduled (run_of (with_batch runs query number hi moment) k) moment) (sym same) ∙ ap (λ (o : Option Run). is_due scheduled o moment) noted.is ∙ late

  -- another one is due as before
  as_before : (scheduled : Scheduled) → same_key query scheduled.key ≡ false → still_due scheduled ≡ was_due scheduled
  as_before scheduled differs =
      ap (λ (o : Option Run). is_due scheduled o moment) (other_run query number hi moment scheduled.key differs runs)

  still_not : (scheduled : Scheduled) → 1 ≤ scheduled.interval → was_due scheduled ≡ false → still_due scheduled ≡ false
  still_not scheduled least before = by_key (same_key query scheduled.key) refl
    where
      by_key : (b : Bool) → same_key query scheduled.key ≡ b → still_due scheduled ≡ false
      by_key true e = not_due scheduled (same_key_is query scheduled.key e) least
      by_key false e = as_before scheduled e ∙ before

  others_due : (one : Scheduled) (rest : List Scheduled) → query ≡ one.key → All (λ (other : Scheduled). name_order one other ≡ Less) rest → filter still_due rest ≡ filter was_due rest
  others_due one [] same each = refl
  others_due one (other ∷ rest) same each =
      let less = All-head (λ (other : Scheduled). name_order one other ≡ Less) other rest each in
      let here = as_before other (ap (λ (k : QueryKey). same_key k other.key) same ∙ other_key one other less) in
      let later = others_due one rest same (All-tail (λ (other : Scheduled). name_order one other ≡ Less) other rest each) in
      λ i. cond (here i) (other ∷ later i) (later i)

  -- where the batch is that of the first due query, the others that were due are left
  pub one_less : (queries : List Scheduled) (place : ℕ) (scheduled : Scheduled) → names_rise queries ≡ true → All IsRunnable queries → position_or_len was_due queries ≡ place → slice_get queries place ≡ Some scheduled → query ≡ scheduled.key → filter was_due queries ≡ scheduled ∷ filter still_due queries
  one_less [] place scheduled rise runnable first at same = absurd (cc)
  one_less (one ∷ queries) zero scheduled rise runnable first at same = by_due (was_due one) refl
    where
      is : one ≡ scheduled
      is = cc

      by_due : (b : Bool) → was_due one ≡ b → filter was_due (one ∷ queries) ≡ scheduled ∷ filter still_due (one ∷ queries)
      by_due false e =
          absurd (let k = sym (ap (λ (b : Bool). cond (not b) (1 + position_or_len was_due queries) 0) e) ∙ first in omega (arith, k))
      by_due true e =
          let own : query ≡ one.key = same ∙ ap (λ (s : Scheduled). s.key) (sym is) in
          let gone = not_due one own (All-head IsRunnable one queries runnable).at_least in
          let rest = others_due one queries own (before_all one queries rise) in
          ap (λ (b : Bool). cond b (one ∷ filter was_due queries) (filter was_due queries)) e
          ∙ (λ i. is i ∷ sym rest i)
          ∙ ap (λ (b : Bool). scheduled ∷ cond b (one ∷ filter still_due queries) (filter still_due queries)) (sym gone)
  one_less (one ∷ queries) (suc place) scheduled rise runnable first at same =
      by_due (was_due one) refl (λ (k : position_or_len was_due queries ≡ place). one_less queries place scheduled (tail_rises one queries rise) (All-tail IsRunnable one queries runnable) k at same)
    where
      by_due : (b : Bool) → was_due one ≡ b → (position_or_len was_due queries ≡ place → filter was_due queries ≡ scheduled ∷ filter still_due queries) → filter was_due (one ∷ queries) ≡ scheduled ∷ filter still_due (one ∷ queries)
      by_due true e rest =
          absurd (let k = sym (ap (λ (b : Bool). cond (not b) (1 + position_or_len was_due queries) 0) e) ∙ first in omega (arith, k))
      by_due false e rest =
          let k = sym (ap (λ (b : Bool). cond (not b) (1 + position_or_len was_due queries) 0) e) ∙ first in
          let still = still_not one (All-head IsRunnable one queries runnable).at_least e in
          ap (λ (b : Bool). cond b (one ∷ filter was_due queries) (filter was_due queries)) e
          ∙ rest (omega (arith, k))
          ∙ ap (λ (b : Bool). scheduled ∷ cond b (one ∷ filter still_due queries) (filter still_due queries)) (sym still)
