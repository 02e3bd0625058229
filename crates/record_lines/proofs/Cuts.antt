-- How a byte string is cut, as more of it comes.
use Rattle.std.proofs.Common.{◌≡◌, ◌≢◌, ℕ, zero, suc, ◌+◌, ◌<◌, ◌≤◌, ◌==◌, ◌⊎◌, inl, inr, Bool, true, false, cond, List, [], ◌∷◌, ◌++◌, length, take, drop, get_or, refl, sym, ap, ◌∙◌, subst, arith, append_assoc, length-append, length-drop, take-append-drop, drop-cons, flat_map, Some, None}
use Rattle.std.proofs.lemmas.List.{append-nil, take_all}
use Rattle.std.proofs.lemmas.Bool.Decides.{Decides-eqb}
use Rattle.std.proofs.lemmas.Bool.{false_from_ne_true, true≢false}
use Rattle.memchr.specs.Find.{IsFirstByte, is_byte}
use Rattle.record_lines.specs.declared.line.Cut.{Cut}
use Rattle.record_lines.specs.Lines.{lines_behind, rest_behind, lines_of, rest_of, HasNoFeed, cut_of, cuts_of}

lines_behind-append : (b xs ys : List ℕ) → lines_behind b (xs ++ ys) ≡ lines_behind b xs ++ lines_behind (rest_behind b xs) ys
lines_behind-append b [] ys = refl
lines_behind-append b (x ∷ xs) ys =
    elim (x == 10) as (λ t. cond t (b ∷ lines_behind [] (xs ++ ys)) (lines_behind (b ++ x ∷ []) (xs ++ ys)) ≡ cond t (b ∷ lines_behind [] xs) (lines_behind (b ++ x ∷ []) xs) ++ lines_behind (cond t (rest_behind [] xs) (rest_behind (b ++ x ∷ []) xs)) ys) [
      | true ↦ ap (λ ls. b ∷ ls) (lines_behind-append [] xs ys)
      | false ↦ lines_behind-append (b ++ x ∷ []) xs ys
    ]

rest_behind-append : (b xs ys : List ℕ) → rest_behind b (xs ++ ys) ≡ rest_behind (rest_behind b xs) ys
rest_behind-append b [] ys = refl
rest_behind-append b (x ∷ xs) ys =
    elim (x == 10) as (λ t. cond t (rest_behind [] (xs ++ ys)) (rest_behind (b ++ x ∷ []) (xs ++ ys)) ≡ rest_behind (cond t (rest_behind [] xs) (rest_behind (b ++ x ∷ []) xs)) ys) [
      | true ↦ rest_behind-append [] xs ys
      | false ↦ rest_behind-append (b ++ x ∷ []) xs ys
    ]

no_feed : (x : ℕ) → x ≢ 10 → (x == 10) ≡ false
no_feed x other = false_from_ne_true _ (λ same. other ((Decides-eqb x 10).0 same))

lines_behind-plain : (b xs : List ℕ) → HasNoFeed xs → lines_behind b xs ≡ []
lines_behind-plain b [] plain = refl
lines_behind-plain b (x ∷ xs) plain = rw (no_feed x plain.0) (lines_behind-plain (b ++ x ∷ []) xs plain.1)

rest_behind-plain : (b xs : List ℕ) → HasNoFeed xs → rest_behind b xs ≡ b ++ xs
rest_behind-plain b [] plain = sym (append-nil b)
rest_behind-plain b (x ∷ xs) plain = rw (no_feed x plain.0) (rest_behind-plain (b ++ x ∷ []) xs plain.1 ∙ append_assoc b (x ∷ []) xs)

lines_behind-line : (b front ys : List ℕ) → HasNoFeed front → lines_behind b (front ++ 10 ∷ ys) ≡ (b ++ front) ∷ lines_behind [] ys
lines_behind-line b front ys plain =
    lines_behind-append b front (10 ∷ ys) ∙ rw (lines_behind-plain b front plain, rest_behind-plain b front plain)

rest_behind-line : (b front ys : List ℕ) → HasNoFeed front → rest_behind b (front ++ 10 ∷ ys) ≡ rest_behind [] ys
rest_behind-line b front ys plain = rest_behind-append b front (10 ∷ ys)

-- a stream goes on without a line feed
pub lines_of-plain : (stream piece : List ℕ) → HasNoFeed piece → lines_of (stream ++ piece) ≡ lines_of stream
unfolding lines_of
lines_of-plain stream piece plain =
    lines_behind-append [] stream piece ∙ rw (lines_behind-plain (rest_behind [] stream) piece plain) (append-nil (lines_behind [] stream))

pub rest_of-plain : (stream piece : List ℕ) → HasNoFeed piece → rest_of (stream ++ piece) ≡ rest_of stream ++ piece
unfolding rest_of
rest_of-plain stream piece plain = rest_behind-append [] stream piece ∙ rest_behind-plain (rest_behind [] stream) piece plain

-- a stream goes on with a line's end and what stands behind it
pub lines_of-ended : (stream front behind : List ℕ) → HasNoFeed front → lines_of (stream ++ front ++ 10 ∷ behind) ≡ lines_of stream ++ (rest_of stream ++ front) ∷ lines_of behind
unfolding lines_of rest_of
lines_of-ended stream front behind plain =
    ap (lines_behind []) (append_assoc stream front (10 ∷ behind)) ∙ lines_behind-append [] stream (front ++ 10 ∷ behind)
    ∙ ap (λ ls. lines_behind [] stream ++ ls) (lines_behind-line (rest_behind [] stream) front behind plain)

pub rest_of-ended : (stream front behind : List ℕ) → HasNoFeed front → rest_of (stream ++ front ++ 10 ∷ behind) ≡ rest_of behind
unfolding rest_of
rest_of-ended stream front behind plain =
    ap (rest_behind []) (append_assoc stream front (10 ∷ behind)) ∙ rest_behind-append [] stream (front ++ 10 ∷ behind)
    ∙ rest_behind-line (rest_behind [] stream) front behind plain

pub lines_of-nil : lines_of [] ≡ []
unfolding lines_of
lines_of-nil = refl

pub rest_of-nil : rest_of [] ≡ []
unfolding rest_of
rest_of-nil = refl

-- how many bytes the lines take, each with its line feed
abbrev pub span : List (List ℕ) → ℕ
span [] = 0
span (line ∷ lines) = length line + 1 + span lines

span_behind : (b xs : List ℕ) → span (lines_behind b xs) + length (rest_behind b xs) ≡ length b + length xs
span_behind b [] = omega arith
span_behind b (x ∷ xs) =
    elim (x == 10) as (λ t. span (cond t (b ∷ lines_behind [] xs) (lines_behind (b ++ x ∷ []) xs)) + length (cond t (rest_behind [] xs) (rest_behind (b ++ x ∷ []) xs)) ≡ length b + length (x ∷ xs)) [
      | true ↦ (let more : span (lines_behind [] xs) + length (rest_behind [] xs) ≡ 0 + length xs = span_behind [] xs in omega arith)
      | false ↦ (let more = span_behind (b ++ x ∷ []) xs in let size = length-append b (x ∷ []) in omega arith)
    ]

pub span_of : (xs : List ℕ) → span (lines_of xs) + length (rest_of xs) ≡ length xs
unfolding lines_of rest_of
span_of xs = span_behind [] xs ∙ (let e : 0 + length xs ≡ length xs = omega arith in e)

pub cuts_of-append : (limit start : ℕ) (xs ys : List (List ℕ)) → cuts_of limit start (xs ++ ys) ≡ cuts_of limit start xs ++ cuts_of limit (start + span xs) ys
cuts_of-append limit start [] ys = ap (λ n. cuts_of limit n ys) (let e : start ≡ start + 0 = omega arith in e)
cuts_of-append limit start (x ∷ xs) ys =
    let next = start + length x + 1 in
    let e : next + span xs ≡ start + (length x + 1 + span xs) = omega arith in
    ap (λ cs. cut_of limit next x ∷ cs) (cuts_of-append limit next xs ys ∙ ap (λ n. cuts_of limit next xs ++ cuts_of limit n ys) e)

-- a list of bytes without a line feed, or a first line
pub first_line : (xs : List ℕ) → HasNoFeed xs ⊎ ((line : List ℕ) × (behind : List ℕ) × (xs ≡ line ++ 10 ∷ behind) × HasNoFeed line)
first_line [] = inl tt
first_line (x ∷ xs) = by_byte (x == 10) refl (first_line xs) where
  by_rest : x ≢ 10 → HasNoFeed xs ⊎ ((line : List ℕ) × (behind : List ℕ) × (xs ≡ line ++ 10 ∷ behind) × HasNoFeed line) → HasNoFeed (x ∷ xs) ⊎ ((line : List ℕ) × (behind : List ℕ) × (x ∷ xs ≡ line ++ 10 ∷ behind) × HasNoFeed line)
  by_rest other (inl plain) = inl (other, plain)
  by_rest other (inr (line, behind, e, plain)) = inr (x ∷ line, behind, ap (λ ys. x ∷ ys) e, (other, plain))

  by_byte : (t : Bool) → (x == 10) ≡ t → HasNoFeed xs ⊎ ((line : List ℕ) × (behind : List ℕ) × (xs ≡ line ++ 10 ∷ behind) × HasNoFeed line) → HasNoFeed (x ∷ xs) ⊎ ((line : List ℕ) × (behind : List ℕ) × (x ∷ xs ≡ line ++ 10 ∷ behind) × HasNoFeed line)
  by_byte true is rest = inr ([], xs, ap (λ n. n ∷ xs) ((Decides-eqb x 10).0 is), tt)
  by_byte false is rest = by_rest (λ same. true≢false (sym ((Decides-eqb x 10).1 same) ∙ is)) rest

plain_front : (xs : List ℕ) (n : ℕ) → n ≤ length xs → ((k : ℕ) → k < n → get_or xs k 0 ≢ 10) → HasNoFeed (take n xs)
plain_front xs zero within none = tt
plain_front [] (suc n) within none = tt
plain_front (x ∷ xs) (suc n) within none =
    (none 0 (omega arith), plain_front xs n (let h : n ≤ length xs = omega arith in h) (λ k h. none (suc k) (let g : suc k < suc n = omega arith in g)))

-- a search for a line feed found none
pub plain-none : (xs : List ℕ) → IsFirstByte (is_byte 10) xs None → HasNoFeed xs
plain-none xs nowhere =
    subst HasNoFeed (take_all (length xs) xs (let h : length xs ≤ length xs = omega arith in h))
    (plain_front xs (length xs) (omega arith) (λ k h is. nowhere k (omega arith) h ((Decides-eqb (get_or xs k 0) 10).1 is)))

-- it found the first one
pub plain-some : (xs : List ℕ) (at : ℕ) → IsFirstByte (is_byte 10) xs (Some at) → (at < length xs) × HasNoFeed (take at xs) × (xs ≡ take at xs ++ 10 ∷ drop 1 (drop at xs))
plain-some xs at found =
    let within : at < length xs = found.0.high in
    let is : get_or xs at 0 ≡ 10 = (Decides-eqb (get_or xs at 0) 10).0 found.1 in
    let front = plain_front xs at (omega arith) (λ k h same. found.0.before k (omega arith) h ((Decides-eqb (get_or xs k 0) 10).1 same)) in
    let behind : drop at xs ≡ 10 ∷ drop (suc at) xs = drop-cons xs at 0 within ∙ ap (λ n. n ∷ drop (suc at) xs) is in
    (within, front, sym (take-append-drop at xs) ∙ ap (λ ys. take at xs ++ ys) (behind ∙ ap (λ ys. 10 ∷ ys) (ap (drop 1) (sym behind))))

-- what a search for the first line feed says of the cuts
pub record FirstCut (xs : List ℕ) (at : ℕ) : Type 0 where
  pub within : at < length xs
  pub lines : lines_of xs ≡ take at xs ∷ lines_of (drop 1 (drop at xs))
  pub rest : rest_of xs ≡ rest_of (drop 1 (drop at xs))
  pub size : length xs ≡ at + 1 + length (drop 1 (drop at xs))
  pub plain : HasNoFeed (take at xs)
  pub is : xs ≡ take at xs ++ 10 ∷ drop 1 (drop at xs)

pub first_cut : (xs : List ℕ) (at : ℕ) → IsFirstByte (is_byte 10) xs (Some at) → FirstCut xs at
unfolding lines_of rest_of
first_cut xs at found =
    let (within, plain, is) = plain-some xs at found in
    let behind = drop 1 (drop at xs) in
    let size = length-drop 1 (drop at xs) in
    let size_at = length-drop at xs in
    record {
      within = within;
      lines = ap (lines_behind []) is ∙ lines_behind-line [] (take at xs) behind plain;
      rest = ap (rest_behind []) is ∙ rest_behind-line [] (take at xs) behind plain;
      size = omega arith;
      plain = plain;
      is = is;
    }

pub step_cuts : (limit start begun at : ℕ) (bytes rest line behind : List ℕ) (before : List Cut) (cut : Cut) → before ++ cuts_of limit begun (lines_of rest) ≡ cuts_of limit start (lines_of bytes) → lines_of rest ≡ line ∷ lines_of behind → length line ≡ at → cut ≡ cut_of limit (begun + (at + 1)) line → (before ++ cut ∷ []) ++ cuts_of limit (begun + (at + 1)) (lines_of behind) ≡ cuts_of limit start (lines_of bytes)
step_cuts limit start begun at bytes rest line behind before cut all lines size is =
    let e : begun + length line + 1 ≡ begun + (at + 1) = omega arith in
    append_assoc before (cut ∷ []) (cuts_of limit (begun + (at + 1)) (lines_of behind))
    ∙ ap (λ cs. before ++ cs) (ap (λ c. c ∷ cuts_of limit (begun + (at + 1)) (lines_of behind)) is ∙ ap (λ n. cut_of limit n line ∷ cuts_of limit n (lines_of behind)) (sym e) ∙ ap (cuts_of limit begun) (sym lines))
    ∙ all

pub no_cuts : (xs : List ℕ) → HasNoFeed xs → lines_of xs ≡ []
unfolding lines_of
no_cuts xs plain = lines_behind-plain [] xs plain

pub all_rest : (xs : List ℕ) → HasNoFeed xs → rest_of xs ≡ xs
unfolding rest_of
all_rest xs plain = rest_behind-plain [] xs plain

pub lines_of-first : (line behind : List ℕ) → HasNoFeed line → lines_of (line ++ 10 ∷ behind) ≡ line ∷ lines_of behind
unfolding lines_of
lines_of-first line behind plain = lines_behind-line [] line behind plain

pub rest_of-first : (line behind : List ℕ) → HasNoFeed line → rest_of (line ++ 10 ∷ behind) ≡ rest_of behind
unfolding rest_of
rest_of-first line behind plain = rest_behind-line [] line behind plain

abbrev ended : List (List ℕ) → List ℕ
ended lines = flat_map (λ line. line ++ 10 ∷ []) lines

whole_behind : (b xs : List ℕ) → ended (lines_behind b xs) ++ rest_behind b xs ≡ b ++ xs
whole_behind b [] = sym (append-nil b)
whole_behind b (x ∷ xs) = by_byte (x == 10) refl (whole_behind [] xs) (whole_behind (b ++ x ∷ []) xs) where
  by_byte : (t : Bool) → (x == 10) ≡ t → ended (lines_behind [] xs) ++ rest_behind [] xs ≡ xs → ended (lines_behind (b ++ x ∷ []) xs) ++ rest_behind (b ++ x ∷ []) xs ≡ (b ++ x ∷ []) ++ xs → ended (cond t (b ∷ lines_behind [] xs) (lines_behind (b ++ x ∷ []) xs)) ++ cond t (rest_behind [] xs) (rest_behind (b ++ x ∷ []) xs) ≡ b ++ x ∷ xs
  by_byte true is rest _ =
      append_assoc (b ++ 10 ∷ []) (ended (lines_behind [] xs)) (rest_behind [] xs) ∙ ap (λ ys. (b ++ 10 ∷ []) ++ ys) rest
      ∙ append_assoc b (10 ∷ []) xs ∙ ap (λ n. b ++ n ∷ xs) (sym ((Decides-eqb x 10).0 is))
  by_byte false is _ rest = rest ∙ append_assoc b (x ∷ []) xs

-- the lines with their line feeds, and the rest, are the bytes
pub lines_of-whole : (bytes : List ℕ) → flat_map (λ line. line ++ 10 ∷ []) (lines_of bytes) ++ rest_of bytes ≡ bytes
unfolding lines_of rest_of
lines_of-whole bytes = whole_behind [] bytes
