-- Passing blanks and comments.
use Rattle.std.proofs.Common.{◌≡◌, ◌≤◌, ◌<◌, ◌==◌, ◌&&◌, ℕ, zero, suc, List, [], ◌∷◌, length, Option, Some, None, Bool, true, false, cond, refl, ap, ◌∙◌, arith}
use Rattle.sql_tokens.specs.Lexing.{after_line, after_comment, is_blank, past_pair, past_one, past_blanks}

line_shorter : (cs : List ℕ) → length (after_line cs) ≤ length cs
line_shorter [] = omega arith
line_shorter (c ∷ cs) = go (c == 10) cs (line_shorter cs) where
  go : (b : Bool) (cs : List ℕ) → length (after_line cs) ≤ length cs → length (cond b cs (after_line cs)) ≤ suc (length cs)
  go true cs h = omega arith
  go false cs h = omega arith

comment_shorter : (cs : List ℕ) → length (after_comment cs) ≤ length cs
comment_shorter [] = omega arith
comment_shorter (c ∷ []) = omega arith
comment_shorter (c ∷ d ∷ cs) = go (c == 42) (d == 47) (comment_shorter (d ∷ cs)) where
  go : (b e : Bool) → length (after_comment (d ∷ cs)) ≤ suc (length cs) → length (cond b (cond e cs (after_comment (d ∷ cs))) (after_comment (d ∷ cs))) ≤ suc (suc (length cs))
  go true true h = omega arith
  go true false h = omega arith
  go false e h = omega arith

pair_shorter : (c : ℕ) (cs rest : List ℕ) → past_pair c cs ≡ Some rest → length rest ≤ length cs
pair_shorter c [] rest e = absurd (cc)
pair_shorter c (d ∷ cs) rest e = go (c == 45 && d == 45) (c == 47 && d == 42) e where
  go : (a b : Bool) → cond a (Some (after_line cs)) (cond b (Some (after_comment cs)) None) ≡ Some rest → length rest ≤ suc (length cs)
  go true b e = let h : after_line cs ≡ rest = cc in let k = line_shorter cs in let m = ap length h in omega arith
  go false true e = let h : after_comment cs ≡ rest = cc in let k = comment_shorter cs in let m = ap length h in omega arith
  go false false e = absurd (cc)

pub one_shorter : (text rest : List ℕ) → past_one text ≡ Some rest → length rest < length text
one_shorter [] rest e = absurd (cc)
one_shorter (c ∷ cs) rest e = go (is_blank c) e where
  go : (b : Bool) → cond b (Some cs) (past_pair c cs) ≡ Some rest → length rest < suc (length cs)
  go true e = let h : cs ≡ rest = cc in let m = ap length h in omega arith
  go false e = let h = pair_shorter c cs rest e in omega arith

pub one_turn : (n : ℕ) (text rest : List ℕ) → length text ≤ n → past_one text ≡ Some rest → (m : ℕ) × (length rest ≤ m) × (past_blanks n text ≡ past_blanks m rest)
one_turn zero text rest le e = let h = one_shorter text rest e in absurd (omega arith)
one_turn (suc n) text rest le e = let h = one_shorter text rest e in (n, omega arith, ap (λ (o : Option (List ℕ)). elim o as (λ _. List ℕ) [ None ↦ text | Some r ↦ past_blanks n r ]) e)

pub more_turns : (all n : ℕ) (whole text rest : List ℕ) → length text ≤ n → past_blanks all whole ≡ past_blanks n text → past_one text ≡ Some rest → (m : ℕ) × (length rest ≤ m) × (past_blanks all whole ≡ past_blanks m rest)
more_turns all n whole text rest le so_far e = let h = one_turn n text rest le e in (h.0, h.1, so_far ∙ h.2)

pub no_turn : (n : ℕ) (text : List ℕ) → past_one text ≡ None → past_blanks n text ≡ text
no_turn zero text e = refl
no_turn (suc n) text e = ap (λ (o : Option (List ℕ)). elim o as (λ _. List ℕ) [ None ↦ text | Some r ↦ past_blanks n r ]) e
