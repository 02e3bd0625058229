-- Texts on a line: a byte below 32 is written as JSON escapes it.
use Rattle.std.specs.Prelude.{ℕ, ◌+◌, ◌/◌, ◌%◌, ◌==◌, nat_lt, if◌then◌else◌, List, [], ◌∷◌, ◌++◌, flat_map, codes}

-- a hexadecimal digit
abbrev pub hex_digit : ℕ → ℕ
hex_digit n = if nat_lt n 10 then 48 + n else 87 + n

-- a byte of a text on a line: `\b`, `\t`, `\n`, `\f`, `\r` or `\u00` and two digits for one below 32, and every other as it is
abbrev pub escaped_control : ℕ → List ℕ
escaped_control b =
    if b == 8 then 92 ∷ 98 ∷ []
    else (if b == 9 then 92 ∷ 116 ∷ []
    else (if b == 10 then 92 ∷ 110 ∷ []
    else (if b == 12 then 92 ∷ 102 ∷ []
    else (if b == 13 then 92 ∷ 114 ∷ []
    else (if nat_lt b 32 then codes "\\u00" ++ hex_digit (b / 16) ∷ hex_digit (b % 16) ∷ []
    else b ∷ [])))))

abbrev pub escaped_controls : List ℕ → List ℕ
escaped_controls text = flat_map escaped_control text
