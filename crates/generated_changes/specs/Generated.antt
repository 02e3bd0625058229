-- Change lines that are made by a sequence of numbers, each from the one before: the linear congruential generator of MMIX (D. E. Knuth, The
-- Art of Computer Programming, volume 2, section 3.3.4), modulo 2^64.
use Rattle.std.specs.Prelude.{ℕ, zero, suc, ◌+◌, ◌*◌, ◌/◌, ◌%◌, ◌^◌, List, [], ◌++◌, codes}
use Rattle.std.specs.Fmt.{decimal}

-- the number behind this one
unfoldable pub number_behind : ℕ → ℕ
number_behind number = (number * 6364136223846793005 + 1442695040888963407) % 2 ^ 64

-- so many numbers behind this one
unfoldable pub number_after : ℕ → ℕ → ℕ
number_after zero number = number
number_after (suc count) number = number_behind (number_after count number)

-- the name of the file that a number names: one of a hundred
unfoldable pub file_of : ℕ → ℕ
file_of number = (number / 2 ^ 33) % 100

unfoldable pub action_named : ℕ → List ℕ
action_named zero = codes "CREATED"
action_named (suc zero) = codes "UPDATED"
action_named _ = codes "DELETED"

-- what a number says was done
unfoldable pub action_of : ℕ → List ℕ
action_of number = action_named ((number / 2 ^ 20) % 3)

-- the front of a number's line, what it says was done, and when
abbrev pub path_part : ℕ → List ℕ
path_part number = codes "{\"path\":\"/etc/f" ++ decimal (file_of number)

abbrev pub action_part : ℕ → List ℕ
action_part number = codes "\",\"action\":\"" ++ action_of number

abbrev pub time_part : ℕ → List ℕ
time_part time = codes "\",\"time\":" ++ decimal time ++ codes "}\n"

-- the change line of a number, at this moment: `{"path":"/etc/f74","action":"DELETED","time":1}`
abbrev pub line_of : ℕ → ℕ → List ℕ
line_of number time = path_part number ++ action_part number ++ time_part time

-- the first so many lines: the n-th is that of the n-th number behind `from`, at the moment n
unfoldable pub lines_of : ℕ → ℕ → List ℕ
lines_of from zero = []
lines_of from (suc count) = lines_of from count ++ line_of (number_after (suc count) from) (suc count)
