-- The batches of legal lists make valid frames.
use Rattle.std.proofs.Common.{◌≡◌, refl, sym, subst, arith, ℕ, ◌≤◌, ◌<◌, ◌^◌, true, ◌&&◌, nat_le, List, [], ◌∷◌, length, take}
use Rattle.std.specs.Prelude.{All}
use Rattle.std.proofs.lemmas.Bool.{eq-eqb}
use Rattle.std.proofs.lemmas.Bool.Decides.{nat_tests}
use Rattle.std.proofs.lemmas.List.Elements.{All-head, All-tail}
use Rattle.osq_value.specs.declared.value.Value.{Value}
use Rattle.pack_rules.specs.declared.schedule.Mode.{Mode}
use Rattle.pack_rules.specs.declared.schedule.Mode.TheVariants.{Evented, Snapshot}
use Rattle.pack_rules.specs.declared.schedule.QueryKey.{QueryKey}
use Rattle.sql_texts.specs.Meaning.{names_of}
use Rattle.sql_texts.proofs.Wide.{are_wide as meaning_is_wide}
use Rattle.entry_model.specs.declared.entry.Batch.{Batch}
use Rattle.entry_model.specs.declared.entry.Entry.{Entry}
use Rattle.entry_model.specs.declared.entry.Entry.TheVariants.{Committed}
use Rattle.entry_model.specs.Fits.{Fits}
use Rattle.entry_model.specs.Legal.{Legal, MayCommit, begins_at}
use Rattle.entry_model.specs.Summary.{summary}
use Rattle.entry_model.specs.Values.{last_number}
use Rattle.entry_model.specs.Views.{view_of}
use Rattle.entry_model.proofs.Fitting.{fits}
use Rattle.entry_model.proofs.Follows.{Follow-split}
use Rattle.entry_model.proofs.Slices.{has_slices, last_number-take}
use Rattle.batch_frames.specs.Valid.{are_wide, has_numbers, is_host, is_number, is_valid}
use Rattle.frame_laws.specs.Laws.{CommitsMakeFrames, frame_of}

all_wide : (width : ℕ) (rows : List (List Value)) → All (λ (row : List Value). length row ≡ width) rows → are_wide width rows ≡ true
all_wide width [] all = refl
all_wide width (row ∷ rows) all =
    let first = eq-eqb (length row) width (All-head (λ (row : List Value). length row ≡ width) row rows all) in
    let others = all_wide width rows (All-tail (λ (row : List Value). length row ≡ width) row rows all) in
    λ i. first i && others i

is_small : (number : ℕ) → number ≤ 2 ^ 62 → is_number number ≡ true
is_small number small = grind (arith, nat_tests, small)

is_below : (number : ℕ) → number < 2 ^ 63 → is_number number ≡ true
is_below number below = grind (arith, nat_tests, below)

is_some : (number : ℕ) → 1 ≤ number → nat_le 1 number ≡ true
is_some number some = grind (arith, nat_tests, some)

-- a slice begins at no number beyond the last
begins_within : (entries : List Entry) → Legal entries → (query : QueryKey) (mode : Mode) → query.mode ≡ mode → begins_at entries query mode ≤ last_number entries
begins_within entries legal query Evented is = (has_slices query is entries legal).known
begins_within entries legal query Snapshot is = omega arith

module _ (before : List Entry) (batch : Batch) (legal : Legal before) (may : MayCommit before batch) where
  values : Fits (summary before)
  values = fits before legal

  has_all_numbers : length before < 2 ^ 63 → has_numbers batch ≡ true
  has_all_numbers few =
      let number = may.next in
      let begins = begins_within before legal batch.query batch.query.mode refl in
      let first = is_some batch.number (omega (arith, number)) in
      let bound = is_small batch.number may.bound in
      let lo = is_small batch.lo (omega (arith, may.lower, begins, values.last)) in
      let hi = is_small batch.hi (omega (arith, may.upper, last_number-take batch.cut before, values.last)) in
      let cut = is_below batch.cut (omega (arith, may.within, few)) in
      let moment = is_small batch.moment (omega (arith, may.now, values.moment)) in
      λ i. first i && bound i && lo i && hi i && cut i && moment i

  has_wide_rows : are_wide (length (names_of batch.query.text)) batch.rows ≡ true
  has_wide_rows =
      all_wide (length (names_of batch.query.text)) batch.rows
      (subst (λ (rows : List (List Value)). All (λ (row : List Value). length row ≡ length (names_of batch.query.text)) rows) (sym may.answer) (meaning_is_wide batch.query.text (view_of (take batch.cut before) batch.lo batch.moment)))

  makes_frame : (host : List ℕ) → length before < 2 ^ 63 → is_host host ≡ true → is_valid (frame_of host batch) ≡ true
  makes_frame host few named =
      let numbers = has_all_numbers few in
      λ i. named i && numbers i && has_wide_rows i

pub commits_make_frames : CommitsMakeFrames
commits_make_frames before after batch host legal few named =
    let split = Follow-split [] before (Committed batch ∷ after) legal in
    makes_frame before batch split.0 split.1.0 host few named
