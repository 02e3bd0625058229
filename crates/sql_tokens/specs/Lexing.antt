-- The tokens of a text, which is a list of bytes.
use Rattle.std.specs.Prelude.{ℕ, ℤ, pos, suc, zero, ◌+◌, ◌-◌, ◌*◌, ◌==◌, nat_lt, ◌||◌, ◌&&◌, if◌then◌else◌, List, [], ◌∷◌, length, take, Option, Some, None, Bool}
use Rattle.std.specs.Char.{is_ascii_alphabetic, is_ascii_alphanumeric, is_ascii_digit}
use Rattle.sql_tokens.specs.declared.token.Kind.{Kind}
use Rattle.sql_tokens.specs.declared.token.Kind.TheVariants as kind
use Rattle.sql_tokens.specs.declared.token.Token.{Token}
use Rattle.sql_tokens.specs.Words.{kind_of_word, word_of}

-- ---- blanks and comments

abbrev pub after_line : List ℕ → List ℕ
after_line [] = []
after_line (c ∷ cs) = if c == 10 then cs else after_line cs

-- behind `*/`
abbrev pub after_comment : List ℕ → List ℕ
after_comment [] = []
after_comment (c ∷ []) = []
after_comment (c ∷ d ∷ cs) = if c == 42 then (if d == 47 then cs else after_comment (d ∷ cs)) else after_comment (d ∷ cs)

-- space, tab, line feed, carriage return
abbrev pub is_blank : ℕ → Bool
is_blank c = c == 32 || c == 9 || c == 10 || c == 13

-- `--` begins a comment to the end of its line, and `/*` one to the next `*/`
abbrev pub past_pair : ℕ → List ℕ → Option (List ℕ)
past_pair c [] = None
past_pair c (d ∷ cs) = if c == 45 && d == 45 then Some (after_line cs) else (if c == 47 && d == 42 then Some (after_comment cs) else None)

-- what follows one blank or comment
abbrev pub past_one : List ℕ → Option (List ℕ)
past_one [] = None
past_one (c ∷ cs) = if is_blank c then Some cs else past_pair c cs

-- The number bounds the turns. The length is always enough.
abbrev pub past_blanks : ℕ → List ℕ → List ℕ
past_blanks zero text = text
past_blanks (suc n) text = elim (past_one text) [ None ↦ text | Some rest ↦ past_blanks n rest ]

-- ---- one token: what it is, and what follows it

-- what stands before the rest of a text
abbrev pub before : List ℕ → List ℕ → List ℕ
before text rest = take (length text - length rest) text

abbrev pub is_name_start : ℕ → Bool
is_name_start c = is_ascii_alphabetic c || c == 95

abbrev pub is_name_byte : ℕ → Bool
is_name_byte c = is_ascii_alphanumeric c || c == 95

abbrev pub after_name : List ℕ → List ℕ
after_name [] = []
after_name (c ∷ cs) = if is_name_byte c then after_name cs else c ∷ cs

abbrev pub after_digits : List ℕ → List ℕ
after_digits [] = []
after_digits (c ∷ cs) = if is_ascii_digit c then after_digits cs else c ∷ cs

-- behind the quote that closes; a quote inside is written twice
abbrev pub after_quote : ℕ → List ℕ → Option (List ℕ)
after_quote q [] = None
after_quote q (c ∷ []) = if c == q then Some [] else None
after_quote q (c ∷ d ∷ cs) = if c == q then (if d == q then after_quote q cs else Some (d ∷ cs)) else after_quote q (d ∷ cs)

-- the number that digits write, after those that were read
abbrev pub decimal_from : ℕ → List ℕ → ℕ
decimal_from value [] = value
decimal_from value (c ∷ cs) = decimal_from (10 * value + (c - 48)) cs

-- at most 9223372036854775807
abbrev pub within : ℕ → Option ℤ
within n = if nat_lt n 9223372036854775808 then Some (pos n) else None

-- the kind, and the rest
abbrev pub Piece : Type 0
Piece = Kind × List ℕ

-- an open quote is a token to the text's end
abbrev pub text_piece : Option (List ℕ) → Piece
text_piece None = (kind.Bad, [])
text_piece (Some rest) = (kind.Text, rest)

abbrev pub quoted_piece : List ℕ → Option (List ℕ) → Piece
quoted_piece text None = (kind.Bad, [])
quoted_piece text (Some rest) = (kind.QuotedName (word_of (take (length text - length rest - 1) text)), rest)

-- signs of two bytes
abbrev pub double_sign : ℕ → ℕ → Option Kind
double_sign c d =
    if c == 61 && d == 61 then Some kind.Equal
    else (if c == 60 && d == 62 then Some kind.NotEqual
    else (if c == 33 && d == 61 then Some kind.NotEqual
    else (if c == 60 && d == 61 then Some kind.LessEqual
    else (if c == 62 && d == 61 then Some kind.GreaterEqual
    else (if c == 124 && d == 124 then Some kind.Concat else None)))))

-- signs of one byte; another byte begins no token
abbrev pub single_sign : ℕ → Kind
single_sign c =
    if c == 44 then kind.Comma
    else (if c == 46 then kind.Dot
    else (if c == 40 then kind.Open
    else (if c == 41 then kind.Close
    else (if c == 42 then kind.Star
    else (if c == 47 then kind.Slash
    else (if c == 37 then kind.Percent
    else (if c == 43 then kind.Plus
    else (if c == 45 then kind.Minus
    else (if c == 61 then kind.Equal
    else (if c == 60 then kind.Less
    else (if c == 62 then kind.Greater
    else (if c == 59 then kind.Semicolon else kind.Bad))))))))))))

abbrev pub sign_by : ℕ → List ℕ → Option Kind → List ℕ → Piece
sign_by c cs None rest = (single_sign c, cs)
sign_by c cs (Some k) rest = (k, rest)

abbrev pub sign_piece : ℕ → List ℕ → Piece
sign_piece c [] = (single_sign c, [])
sign_piece c (d ∷ cs) = sign_by c (d ∷ cs) (double_sign c d) cs

unfoldable pub piece : ℕ → List ℕ → Piece
piece c cs =
    if is_name_start c then (kind_of_word (before (c ∷ cs) (after_name cs)), after_name cs)
    else (if is_ascii_digit c then (kind.Number (within (decimal_from 0 (before (c ∷ cs) (after_digits cs)))), after_digits cs)
    else (if c == 34 then quoted_piece cs (after_quote 34 cs)
    else (if c == 39 then text_piece (after_quote 39 cs) else sign_piece c cs)))

-- ---- all tokens

abbrev pub token_at : Kind → ℕ → ℕ → ℕ → Token
token_at k start end previous = record { kind = k; span = record { start = start; end = end }; previous_end = previous }

-- one token, and others from where it ends
abbrev pub tokens_by : (ℕ → List ℕ → List Token) → ℕ → ℕ → List ℕ → Piece → List Token
tokens_by others start previous text p = token_at p.0 start (start + (length text - length p.1)) previous ∷ others (start + (length text - length p.1)) p.1

abbrev pub tokens_at : (ℕ → List ℕ → List Token) → ℕ → ℕ → List ℕ → List Token
tokens_at others start previous [] = token_at kind.End start start previous ∷ []
tokens_at others start previous (c ∷ cs) = tokens_by others start previous (c ∷ cs) (piece c cs)

-- the tokens of a text at the place where the token before ends; the first number bounds how many they are
abbrev pub tokens_from : ℕ → ℕ → List ℕ → List Token
tokens_from zero place text = []
tokens_from (suc n) place text = tokens_at (tokens_from n) (place + (length text - length (past_blanks (length text) text))) place (past_blanks (length text) text)

-- each token takes a byte, and the end none
unfoldable pub tokens_of : List ℕ → List Token
tokens_of text = tokens_from (length text + 1) 0 text
