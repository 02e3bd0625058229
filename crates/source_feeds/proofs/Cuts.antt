-- How the bytes of a source are cut into lines.
use Rattle.std.proofs.Common.{◌≡◌, ◌⊎◌, inl, inr, ℕ, zero, suc, ◌+◌, ◌-◌, ◌≤◌, ◌<◌, List, [], ◌∷◌, ◌++◌, length, take, refl, sym, ap, subst, ◌∙◌, arith, append_assoc, append-nil, length-append}
use Rattle.std.proofs.lemmas.Bool.{cases_lt}
use Rattle.std.proofs.lemmas.List.{take-append-le}
use Rattle.std.proofs.Math.Seq.{take-append-add}
use Rattle.record_lines.specs.Lines.{HasNoFeed, lines_of}
use Rattle.record_lines.proofs.Cuts.{lines_of-first, no_cuts}
use Rattle.publisher_core.specs.Records.{ended, HaveNoFeed}
use Rattle.publisher_core.proofs.Given.{size_ended}
use Rattle.source_feeds.specs.Taking.{BeginWith}

pub head_same : {X : Type 0} → {x y : X} → {xs ys : List X} → x ∷ xs ≡ y ∷ ys → x ≡ y
head_same e = cc

pub tail_same : {X : Type 0} → {x y : X} → {xs ys : List X} → x ∷ xs ≡ y ∷ ys → xs ≡ ys
tail_same e = cc

pub cons_same : {X : Type 0} → {x y : X} → {xs ys : List X} → x ≡ y → xs ≡ ys → x ∷ xs ≡ y ∷ ys
cons_same e f = cc

-- of two spellings of the same bytes the first lines are one
first_same : (a b x y : List ℕ) → HasNoFeed a → HasNoFeed b → a ++ 10 ∷ x ≡ b ++ 10 ∷ y → (a ≡ b) × (x ≡ y)
first_same [] [] x y plain other e = (refl, tail_same e)
first_same [] (c ∷ b) x y plain other e = absurd (other.0 (sym (head_same e)))
first_same (c ∷ a) [] x y plain other e = absurd (plain.0 (head_same e))
first_same (c ∷ a) (d ∷ b) x y plain other e =
    let rest = first_same a b x y plain.1 other.1 (tail_same e) in
    (cons_same (head_same e) rest.0, rest.1)

pub begins_line : (line : List ℕ) (lines : List (List ℕ)) (rest : List ℕ) → ended (line ∷ lines) ++ rest ≡ line ++ 10 ∷ (ended lines ++ rest)
begins_line line lines rest = append_assoc (line ++ 10 ∷ []) (ended lines) rest ∙ append_assoc line (10 ∷ []) (ended lines ++ rest)

pub plain_first : (front back : List (List ℕ)) → HaveNoFeed (front ++ back) → HaveNoFeed front
plain_first [] back plain = tt
plain_first (line ∷ front) back plain = (plain.0, plain_first front back plain.1)

pub plain_last : (front back : List (List ℕ)) → HaveNoFeed (front ++ back) → HaveNoFeed back
plain_last [] back plain = plain
plain_last (line ∷ front) back plain = plain_last front back plain.1

plain_take : (n : ℕ) (bytes : List ℕ) → HasNoFeed bytes → HasNoFeed (take n bytes)
plain_take zero bytes plain = tt
plain_take (suc n) [] plain = tt
plain_take (suc n) (byte ∷ bytes) plain = (plain.0, plain_take n bytes plain.1)

-- of two spellings of the same bytes the longer one begins with the lines of the shorter one
pub more_lines : (few many : List (List ℕ)) (x y : List ℕ) → HaveNoFeed few → HaveNoFeed many → ended few ++ x ≡ ended many ++ y → length (ended few) ≤ length (ended many) → BeginWith few many
more_lines [] many x y plain other e less = (many, refl)
more_lines (line ∷ few) [] x y plain other e less = absurd (let size = size_ended line few in omega (arith, less, size))
more_lines (line ∷ few) (first ∷ many) x y plain other e less =
    let same = first_same line first (ended few ++ x) (ended many ++ y) plain.0 other.0 (sym (begins_line line few x) ∙ e ∙ begins_line first many y) in
    let few_size = size_ended line few in
    let many_size = size_ended first many in
    let long = ap length same.0 in
    let rest = more_lines few many x y plain.1 other.1 same.1 (omega (arith, less, few_size, many_size, long)) in
    (rest.0, cons_same (sym same.0) rest.1)

-- the lines of bytes that are spelt as lines
pub whole_lines : (lines : List (List ℕ)) (rest : List ℕ) → HaveNoFeed lines → HasNoFeed rest → lines_of (ended lines ++ rest) ≡ lines
whole_lines [] rest plain none = no_cuts rest none
whole_lines (line ∷ lines) rest plain none =
    ap lines_of (begins_line line lines rest) ∙ lines_of-first line (ended lines ++ rest) plain.0 ∙ ap (λ (ls : List (List ℕ)). line ∷ ls) (whole_lines lines rest plain.1 none)

-- The lines that end among the first bytes are the first of these lines, where so many bytes stand before what is told of no line.
pub front_taken : (n : ℕ) (lines : List (List ℕ)) (rest unread : List ℕ) → HaveNoFeed lines → HasNoFeed rest → (n ≤ length (ended lines ++ rest)) ⊎ (unread ≡ [])
    → BeginWith (lines_of (take n (ended lines ++ (rest ++ unread)))) lines
front_taken n [] rest unread plain none within = ([], sym (append-nil (lines_of (take n (rest ++ unread))) ∙ no_cuts (take n (rest ++ unread)) (by_within within))) where
  by_within : (n ≤ length rest) ⊎ (unread ≡ []) → HasNoFeed (take n (rest ++ unread))
  by_within (inl less) = subst HasNoFeed (sym (take-append-le n rest unread less)) (plain_take n rest none)
  by_within (inr over) = subst (λ (tail : List ℕ). HasNoFeed (take n (rest ++ tail))) (sym over) (subst (λ (bytes : List ℕ). HasNoFeed (take n bytes)) (sym (append-nil rest)) (plain_take n rest none))
front_taken n (line ∷ lines) rest unread plain none within = by_size (λ k less. front_taken k lines rest unread plain.1 none less) (cases_lt (length line) n) where
  tail : List ℕ
  tail = ended lines ++ (rest ++ unread)

  size : length (ended (line ∷ lines) ++ rest) ≡ length line + 1 + length (ended lines ++ rest)
  size =
      let all = ap length (begins_line line lines rest) in
      let sum = length-append line (10 ∷ (ended lines ++ rest)) in
      omega (arith, all, sum)

  by_more : (k : ℕ) → n ≡ length (line ++ 10 ∷ []) + k → ((k ≤ length (ended lines ++ rest)) ⊎ (unread ≡ []) → BeginWith (lines_of (take k tail)) lines) → BeginWith (lines_of (take n (ended (line ∷ lines) ++ (rest ++ unread)))) (line ∷ lines)
  by_more k is rec =
      let long = length-append line (10 ∷ []) in
      let more = rec (elim within [
        | inl less ↦ inl (let whole = size in omega (arith, less, whole, is, long))
        | inr over ↦ inr over
      ]) in
      let bytes : take n (ended (line ∷ lines) ++ (rest ++ unread)) ≡ line ++ 10 ∷ take k tail =
      ap (λ (m : ℕ). take m (ended (line ∷ lines) ++ (rest ++ unread))) is
      ∙ ap (take (length (line ++ 10 ∷ []) + k)) (append_assoc (line ++ 10 ∷ []) (ended lines) (rest ++ unread))
      ∙ take-append-add (line ++ 10 ∷ []) tail k
      ∙ append_assoc line (10 ∷ []) (take k tail) in
      let front : lines_of (take n (ended (line ∷ lines) ++ (rest ++ unread))) ≡ line ∷ lines_of (take k tail) = ap lines_of bytes ∙ lines_of-first line (take k tail) plain.0 in
      (more.0, ap (λ (ls : List (List ℕ)). line ∷ ls) more.1 ∙ ap (λ (ls : List (List ℕ)). ls ++ more.0) (sym front))

  by_size : ((k : ℕ) → (k ≤ length (ended lines ++ rest)) ⊎ (unread ≡ []) → BeginWith (lines_of (take k tail)) lines) → (length line < n) ⊎ (n ≤ length line) → BeginWith (lines_of (take n (ended (line ∷ lines) ++ (rest ++ unread)))) (line ∷ lines)
  by_size rec (inl more) =
      let long = length-append line (10 ∷ []) in
      by_more (n - (length line + 1)) (omega (arith, more, long)) (rec (n - (length line + 1)))
  by_size rec (inr few) =
      let bytes : take n (ended (line ∷ lines) ++ (rest ++ unread)) ≡ take n line =
      ap (take n) (begins_line line lines (rest ++ unread)) ∙ take-append-le n line (10 ∷ tail) few in
      let none_front : lines_of (take n (ended (line ∷ lines) ++ (rest ++ unread))) ≡ [] = ap lines_of bytes ∙ no_cuts (take n line) (plain_take n line plain.0) in
      (line ∷ lines, ap (λ (ls : List (List ℕ)). ls ++ (line ∷ lines)) (sym none_front))

-- of two fronts of the same lines one begins with the other
pub record Longer (front taken behind others : List (List ℕ)) : Type 0 where
  pub first : List ℕ
  pub more : List (List ℕ)
  pub front_is : front ≡ taken ++ first ∷ more
  pub behind_is : others ≡ (first ∷ more) ++ behind

pub compare : (front taken behind others : List (List ℕ)) → front ++ behind ≡ taken ++ others → BeginWith front taken ⊎ Longer front taken behind others
compare [] taken behind others e = inl (taken, refl)
compare (line ∷ front) [] behind others e = inr (record { first = line; more = front; front_is = refl; behind_is = sym e })
compare (line ∷ front) (other ∷ taken) behind others e = by_rest (compare front taken behind others (tail_same e)) where
  by_rest : BeginWith front taken ⊎ Longer front taken behind others → BeginWith (line ∷ front) (other ∷ taken) ⊎ Longer (line ∷ front) (other ∷ taken) behind others
  by_rest (inl begins) = inl (begins.0, cons_same (sym (head_same e)) begins.1)
  by_rest (inr longer) = inr (record { first = longer.first; more = longer.more; front_is = cons_same (head_same e) longer.front_is; behind_is = longer.behind_is })

-- lines of as many bytes, in front of the same lines
pub same_lines : (a b x y : List (List ℕ)) → a ++ x ≡ b ++ y → length (ended a) ≡ length (ended b) → a ≡ b
same_lines [] [] x y e size = refl
same_lines [] (line ∷ b) x y e size = absurd (let long = size_ended line b in omega (arith, size, long))
same_lines (line ∷ a) [] x y e size = absurd (let long = size_ended line a in omega (arith, size, long))
same_lines (line ∷ a) (other ∷ b) x y e size =
    let a_size = size_ended line a in
    let b_size = size_ended other b in
    let long = ap length (head_same e) in
    cons_same (head_same e) (same_lines a b x y (tail_same e) (omega (arith, size, a_size, b_size, long)))
