-- The tokens of a text, one after another.
use Rattle.std.proofs.Common.{◌≡◌, ◌≤◌, ◌<◌, ◌+◌, ◌-◌, ◌*◌, ◌==◌, ℕ, zero, suc, List, [], ◌∷◌, ◌++◌, length, Option, Some, None, Bool, true, false, cond, refl, sym, ap, ◌∙◌, arith, append_assoc, slice_index_or, take, drop}
use Rattle.std.proofs.lemmas.List.{take_all}
use Rattle.std.proofs.lemmas.Bool.{le-ltb}
use Rattle.std.specs.Char.{is_ascii_digit}
use Rattle.sql_tokens.specs.declared.token.Kind.{Kind}
use Rattle.sql_tokens.specs.declared.token.Kind.TheVariants as kind
use Rattle.sql_tokens.specs.declared.token.Token.{Token}
use Rattle.sql_tokens.specs.Lexing.{past_one, past_blanks, is_name_byte, is_name_start, after_name, after_digits, after_quote, decimal_from, within, text_piece, quoted_piece, double_sign, sign_by, sign_piece, before, piece, token_at, tokens_at, tokens_from, tokens_of}
use Rattle.sql_tokens.specs.Words.{kind_of_word}
use Rattle.sql_tokens.proofs.Blanks.{one_shorter}

-- ---- numbers

digits_grow : (v : ℕ) (cs : List ℕ) → v ≤ decimal_from v cs
digits_grow v [] = omega arith
digits_grow v (c ∷ cs) = let h = digits_grow (10 * v + (c - 48)) cs in omega arith

not_within : (n : ℕ) → 9223372036854775808 ≤ n → None ≡ within n
not_within n h = rw (le-ltb n 9223372036854775808 h) refl

pub too_wide : (v c : ℕ) (cs : List ℕ) → 922337203685477581 ≤ v → None ≡ within (decimal_from v (c ∷ cs))
too_wide v c cs h = let g = digits_grow (10 * v + (c - 48)) cs in not_within (decimal_from (10 * v + (c - 48)) cs) (omega arith)

-- ---- what follows a token is shorter

past_by : (n : ℕ) (text : List ℕ) (o : Option (List ℕ)) → past_one text ≡ o → ((rest : List ℕ) → length (past_blanks n rest) ≤ length rest) → length (elim o as (λ _. List ℕ) [ None ↦ text | Some rest ↦ past_blanks n rest ]) ≤ length text
past_by n text None e k = omega arith
past_by n text (Some rest) e k = let h = one_shorter text rest e in let m = k rest in omega arith

past_shorter : (n : ℕ) (text : List ℕ) → length (past_blanks n text) ≤ length text
past_shorter zero text = omega arith
past_shorter (suc n) text = past_by n text (past_one text) refl (past_shorter n)

name_shorter : (cs : List ℕ) → length (after_name cs) ≤ length cs
name_shorter [] = omega arith
name_shorter (c ∷ cs) = go (is_name_byte c) (name_shorter cs) where
  go : (b : Bool) → length (after_name cs) ≤ length cs → length (cond b (after_name cs) (c ∷ cs)) ≤ suc (length cs)
  go true h = omega arith
  go false h = omega arith

digits_shorter : (cs : List ℕ) → length (after_digits cs) ≤ length cs
digits_shorter [] = omega arith
digits_shorter (c ∷ cs) = go (is_ascii_digit c) (digits_shorter cs) where
  go : (b : Bool) → length (after_digits cs) ≤ length cs → length (cond b (after_digits cs) (c ∷ cs)) ≤ suc (length cs)
  go true h = omega arith
  go false h = omega arith

abbrev pub rest_of : Option (List ℕ) → List ℕ
rest_of None = []
rest_of (Some rest) = rest

quote_shorter : (q : ℕ) (cs : List ℕ) → length (rest_of (after_quote q cs)) ≤ length cs
quote_shorter q [] = omega arith
quote_shorter q (c ∷ []) = go (c == q) where
  go : (b : Bool) → length (rest_of (cond b (Some []) None)) ≤ 1
  go true = omega arith
  go false = omega arith
quote_shorter q (c ∷ d ∷ cs) = go (c == q) (d == q) (quote_shorter q cs) (quote_shorter q (d ∷ cs)) where
  go : (b e : Bool) → length (rest_of (after_quote q cs)) ≤ length cs → length (rest_of (after_quote q (d ∷ cs))) ≤ suc (length cs) → length (rest_of (cond b (cond e (after_quote q cs) (Some (d ∷ cs))) (after_quote q (d ∷ cs)))) ≤ suc (suc (length cs))
  go true true h k = omega arith
  go true false h k = omega arith
  go false e h k = omega arith

text_shorter : (o : Option (List ℕ)) (n : ℕ) → length (rest_of o) ≤ n → length (text_piece o).1 ≤ n
text_shorter None n h = h
text_shorter (Some rest) n h = h

quoted_shorter : (text : List ℕ) (o : Option (List ℕ)) (n : ℕ) → length (rest_of o) ≤ n → length (quoted_piece text o).1 ≤ n
quoted_shorter text None n h = h
quoted_shorter text (Some rest) n h = h

by_shorter : (c d : ℕ) (cs : List ℕ) (o : Option Kind) → length (sign_by c (d ∷ cs) o cs).1 ≤ suc (length cs)
by_shorter c d cs None = omega arith
by_shorter c d cs (Some k) = omega arith

sign_shorter : (c : ℕ) (cs : List ℕ) → length (sign_piece c cs).1 ≤ length cs
sign_shorter c [] = omega arith
sign_shorter c (d ∷ cs) = by_shorter c d cs (double_sign c d)

pub piece_shorter : (c : ℕ) (cs : List ℕ) → length (piece c cs).1 ≤ length cs
unfolding piece
piece_shorter c cs = go (is_name_start c) (is_ascii_digit c) (c == 34) (c == 39) where
  go : (a b d e : Bool) → length (cond a (kind_of_word (before (c ∷ cs) (after_name cs)), after_name cs) (cond b (kind.Number (within (decimal_from 0 (before (c ∷ cs) (after_digits cs)))), after_digits cs) (cond d (quoted_piece cs (after_quote 34 cs)) (cond e (text_piece (after_quote 39 cs)) (sign_piece c cs))))).1 ≤ length cs
  go true b d e = name_shorter cs
  go false true d e = digits_shorter cs
  go false false true e = quoted_shorter cs (after_quote 34 cs) (length cs) (quote_shorter 34 cs)
  go false false false true = text_shorter (after_quote 39 cs) (length cs) (quote_shorter 39 cs)
  go false false false false = sign_shorter c cs

-- ---- one token after another

-- a list with a first item
pub split_first : {X : Type 0} (xs : List X) (d : X) → 0 < length xs → xs ≡ slice_index_or xs 0 d ∷ take (length xs - 1) (drop 1 xs)
split_first [] d h = absurd (omega arith)
split_first (x ∷ xs) d h = ap (λ (y : List _). x ∷ y) (sym (take_all (length (x ∷ xs) - 1) xs (omega arith)))

-- the tokens so far, and how many turns are left
pub record IsLexed (whole done : List Token) (all place : ℕ) (rest : List ℕ) : Type 0 where
  pub turns : ℕ
  pub enough : length rest < turns
  pub joined : whole ≡ done ++ tokens_from turns place rest
  pub placed : place + length rest ≡ all

pub lexed_start : (text : List ℕ) → IsLexed (tokens_of text) [] (length text) 0 text
unfolding tokens_of
lexed_start text = record { turns = length text + 1; enough = omega arith; joined = refl; placed = omega arith }

pub from_shorter : (rest from : List ℕ) → from ≡ past_blanks (length rest) rest → length from ≤ length rest
from_shorter rest from e = let h = past_shorter (length rest) rest in let m = ap length e in omega arith

next_tokens : (n place : ℕ) (rest from : List ℕ) → from ≡ past_blanks (length rest) rest → tokens_from (suc n) place rest ≡ tokens_at (tokens_from n) (place + (length rest - length from)) place from
next_tokens n place rest from e = sym (ap (λ (x : List ℕ). tokens_at (tokens_from n) (place + (length rest - length x)) place x) e)

one_token : (n start place end : ℕ) (c : ℕ) (cs : List ℕ) (k : Kind) (more : List ℕ) → k ≡ (piece c cs).0 → more ≡ (piece c cs).1 → end ≡ start + (length (c ∷ cs) - length more)
    → tokens_at (tokens_from n) start place (c ∷ cs) ≡ token_at k start end place ∷ tokens_from n end more
one_token n start place end c cs k more f g h =
    ap (λ (x : ℕ). token_at (piece c cs).0 start x place ∷ tokens_from n x (piece c cs).1) (sym (h ∙ ap (λ (x : List ℕ). start + (length (c ∷ cs) - length x)) g))
    ∙ ap (λ (x : Kind). token_at x start end place ∷ tokens_from n end (piece c cs).1) (sym f) ∙ ap (λ (x : List ℕ). token_at k start end place ∷ tokens_from n end x) (sym g)

pub lexed_more : (whole done now : List Token) (all place start end : ℕ) (rest from : List ℕ) (c : ℕ) (cs : List ℕ) (k : Kind) (more : List ℕ) (t : Token) → IsLexed whole done all place rest → from ≡ past_blanks (length rest) rest → from ≡ c ∷ cs
    → k ≡ (piece c cs).0 → more ≡ (piece c cs).1 → start ≡ place + (length rest - length from) → end ≡ start + (length from - length more) → t ≡ token_at k start end place → now ≡ done ++ t ∷ [] → IsLexed whole now all end more
lexed_more whole done now all place start end rest from c cs k more t h e f g m s n o p = go h.turns h.enough h.joined where
  go : (turns : ℕ) → length rest < turns → whole ≡ done ++ tokens_from turns place rest → IsLexed whole now all end more
  go zero lt j = absurd (omega arith)
  go (suc left) lt j =
      let a = from_shorter rest from e in
      let b = piece_shorter c cs in
      let d = ap length f in
      let w = ap length m in
      let q = h.placed in
      record {
        turns = left;
        enough = omega arith;
        joined = j ∙ ap (λ (x : List Token). done ++ x) (next_tokens left place rest from e ∙ ap (λ (x : ℕ). tokens_at (tokens_from left) x place from) (sym s) ∙ ap (tokens_at (tokens_from left) start place) f ∙ one_token left start place end c cs k more g m (n ∙ ap (λ (x : List ℕ). start + (length x - length more)) f) ∙ ap (λ (x : Token). x ∷ tokens_from left end more) (sym o))
            ∙ sym (append_assoc done (t ∷ []) (tokens_from left end more)) ∙ ap (λ (x : List Token). x ++ tokens_from left end more) (sym p);
        placed = omega arith;
      }

pub lexed_end : (whole done now : List Token) (all place start : ℕ) (rest from : List ℕ) (t : Token) → IsLexed whole done all place rest → from ≡ past_blanks (length rest) rest → from ≡ []
    → start ≡ place + (length rest - length from) → t ≡ token_at kind.End start start place → now ≡ done ++ t ∷ [] → now ≡ whole
lexed_end whole done now all place start rest from t h e f s o p = go h.turns h.enough h.joined where
  go : (turns : ℕ) → length rest < turns → whole ≡ done ++ tokens_from turns place rest → now ≡ whole
  go zero lt j = absurd (omega arith)
  go (suc left) lt j = p ∙ ap (λ (x : Token). done ++ x ∷ []) o ∙ sym (j ∙ ap (λ (x : List Token). done ++ x) (next_tokens left place rest from e ∙ ap (λ (x : ℕ). tokens_at (tokens_from left) x place from) (sym s) ∙ ap (tokens_at (tokens_from left) start place) f))
