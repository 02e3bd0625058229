-- The one text of an answer.
use Rattle.std.specs.Prelude.{ℕ, List, ◌++◌, codes}
use Rattle.std.specs.Fmt.{decimal}
use Rattle.result_batches.specs.Frames.{hexadecimal}
use Rattle.result_batches.specs.Json.{quoted}
use Rattle.collector_answers.specs.declared.answer.Answer.{Answer}
use Rattle.collector_answers.specs.declared.answer.Answer.TheVariants.{Recorded, Repeat, Gap, Conflict, Bad}
use Rattle.collector_answers.specs.declared.answer.BadAnswer.{BadAnswer}
use Rattle.collector_answers.specs.declared.answer.BadAnswer.TheVariants.{TooLong, NotJson, WrongShape, BadDigest, NotCanonical}

abbrev pub kind_name : BadAnswer → List ℕ
kind_name TooLong = codes "TooLong"
kind_name NotJson = codes "NotJson"
kind_name WrongShape = codes "WrongShape"
kind_name BadDigest = codes "BadDigest"
kind_name NotCanonical = codes "NotCanonical"

-- what stands before the host
abbrev pub front_of : List ℕ → List ℕ
front_of name = codes "{\"answer\":" ++ quoted name ++ codes ",\"host\":"

-- what every answer to a frame tells, behind a front
unfoldable pub told : List ℕ → List ℕ → ℕ → ℕ → List ℕ
told front host number recorded = front ++ quoted host ++ codes ",\"number\":" ++ decimal number ++ codes ",\"recorded\":" ++ decimal recorded

unfoldable pub counted_line : List ℕ → List ℕ → ℕ → ℕ → List ℕ
counted_line front host number recorded = told front host number recorded ++ codes "}"

-- both digests of frames that conflict
unfoldable pub conflict_line : List ℕ → List ℕ → List ℕ
conflict_line kept found = codes ",\"kept\":" ++ quoted (hexadecimal kept) ++ codes ",\"found\":" ++ quoted (hexadecimal found) ++ codes "}"

unfoldable pub bad_line : BadAnswer → List ℕ
bad_line kind = codes "{\"answer\":\"bad\",\"kind\":" ++ quoted (kind_name kind) ++ codes "}"

-- the text of an answer
abbrev pub line_of : Answer → List ℕ
line_of (Recorded host number recorded) = counted_line (front_of (codes "recorded")) host number recorded
line_of (Repeat host number recorded) = counted_line (front_of (codes "repeat")) host number recorded
line_of (Gap host number recorded) = counted_line (front_of (codes "gap")) host number recorded
line_of (Conflict host number recorded kept found) = told (front_of (codes "conflict")) host number recorded ++ conflict_line kept found
line_of (Bad kind) = bad_line kind
