-- Lines of which a front part was written.
use Rattle.std.proofs.Common.{◌≡◌, ℕ, zero, suc, ◌+◌, ◌-◌, ◌≤◌, length, List, [], ◌++◌, take, drop, refl, sym, ap, ◌∙◌, arith}
use Rattle.std.proofs.lemmas.List.{append_assoc, append-nil, take-append-drop}
use Rattle.std.proofs.Math.Seq.{take-append_seam}
use Rattle.generated_changes.specs.Generated.{line_of, lines_of, number_after, number_behind}
use Rattle.generated_changes.specs.Writing.{IsBehind, IsHeld}

lines_front : (from made more : ℕ) → (rest : List ℕ) × (lines_of from (more + made) ≡ lines_of from made ++ rest)
unfolding lines_of
lines_front from made zero =
    let all : 0 + made ≡ made = omega arith in
    ([], ap (lines_of from) all ∙ sym (append-nil (lines_of from made)))
lines_front from made (suc more) =
    let (rest, is) = lines_front from made more in
    let line = line_of (number_after (suc (more + made)) from) (suc (more + made)) in
    let next : suc more + made ≡ suc (more + made) = omega arith in
    (rest ++ line, ap (lines_of from) next ∙ ap (λ text. text ++ line) is ∙ append_assoc (lines_of from made) rest line)

-- before the first line nothing is held
pub none_held : (before : List ℕ) (from : ℕ) (held : List ℕ) → held ≡ [] → IsBehind before before from 0 held
unfolding lines_of
none_held before from held none = ([], sym (append-nil before), none)

-- the number of the next line
pub next_number : (from made number : ℕ) → number ≡ number_after made from → number_behind number ≡ number_after (suc made) from
unfolding number_after
next_number from made number is = ap number_behind is

-- what was written is a front part of all lines
pub front_of : (before after : List ℕ) (from made count : ℕ) (held : List ℕ) → made ≤ count → IsBehind before after from made held → (n : ℕ) × (after ≡ before ++ take n (lines_of from count))
front_of before after from made count held within (done, is, whole) =
    let (rest, all) = lines_front from made (count - made) in
    let sum : count - made + made ≡ count = omega arith in
    let text : lines_of from count ≡ done ++ (held ++ rest) = ap (lines_of from) (sym sum) ∙ all ∙ ap (λ t. t ++ rest) (sym whole) ∙ append_assoc done held rest in
    (length done, is ∙ ap (λ t. before ++ t) (sym (ap (take (length done)) text ∙ take-append_seam done (held ++ rest))))

-- a front part of what is held was written
pub part_written : (before middle after : List ℕ) (from made : ℕ) (held : List ℕ) (n : ℕ) → IsBehind before middle from made held → after ≡ middle ++ take n held → IsBehind before after from made (drop n held)
part_written before middle after from made held n (done, is, whole) written = (
  done ++ take n held,
  written ∙ ap (λ t. t ++ take n held) is ∙ append_assoc before done (take n held),
  append_assoc done (take n held) (drop n held) ∙ ap (λ t. done ++ t) (take-append-drop n held) ∙ whole,
)

-- a line more is held, and then some of what is held was written
pub line_more : (before middle after : List ℕ) (from made : ℕ) (held more rest : List ℕ) → IsBehind before middle from made held
    → more ≡ held ++ line_of (number_after (suc made) from) (suc made) → IsHeld middle after more rest → IsBehind before after from (suc made) rest
unfolding lines_of
line_more before middle after from made held more rest (done, is, whole) pushed (written, then, kept) =
    let line = line_of (number_after (suc made) from) (suc made) in (
      done ++ written,
      then ∙ ap (λ t. t ++ written) is ∙ append_assoc before done written,
      append_assoc done written rest ∙ ap (λ t. done ++ t) (kept ∙ pushed) ∙ sym (append_assoc done held line) ∙ ap (λ t. t ++ line) whole,
    )

-- a line more is held, and nothing of it was written
pub line_held : (before after : List ℕ) (from made : ℕ) (held more : List ℕ) → IsBehind before after from made held
    → more ≡ held ++ line_of (number_after (suc made) from) (suc made) → IsBehind before after from (suc made) more
line_held before after from made held more behind pushed =
    line_more before after after from made held more more behind pushed ([], sym (append-nil after), refl)

pub all_written : (before middle after : List ℕ) (from made : ℕ) (held : List ℕ) → IsBehind before middle from made held → after ≡ middle ++ held → after ≡ before ++ lines_of from made
all_written before middle after from made held (done, is, whole) written =
    written ∙ ap (λ t. t ++ held) is ∙ append_assoc before done held ∙ ap (λ t. before ++ t) whole

-- the line of the next number was added
pub line_pushed : (held more : List ℕ) (from made next number : ℕ) → next ≡ suc made → number ≡ number_after (suc made) from → more ≡ held ++ line_of number next → more ≡ held ++ line_of (number_after (suc made) from) (suc made)
line_pushed held more from made next number one is pushed =
    pushed ∙ ap (λ (n : ℕ). held ++ line_of n next) is ∙ ap (λ (n : ℕ). held ++ line_of (number_after (suc made) from) n) one

-- a front part of what was held was written, and no more is held
pub front_written : (before middle after : List ℕ) (from made count : ℕ) (held text : List ℕ) (n : ℕ) → made ≤ count → IsBehind before middle from made held → text ≡ held → after ≡ middle ++ take n text → (m : ℕ) × (after ≡ before ++ take m (lines_of from count))
front_written before middle after from made count held text n within behind same written =
    front_of before after from made count (drop n held) within (part_written before middle after from made held n behind (written ∙ ap (λ (t : List ℕ). middle ++ take n t) same))
