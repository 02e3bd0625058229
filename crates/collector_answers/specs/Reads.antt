-- What a reader answers of a line.
use Rattle.std.specs.Prelude.{◌≡◌, ℕ, ◌<◌, ◌^◌, List, length, Option, Some, None}
use Rattle.std.specs.List.{AllByRecursion}
use Rattle.std.specs.Str.{IsUtf8}
use Rattle.collector_answers.specs.declared.answer.Answer.{Answer}
use Rattle.collector_answers.specs.declared.answer.Answer.TheVariants.{Recorded, Repeat, Gap, Conflict, Bad}
use Rattle.collector_answers.specs.Lines.{line_of}

-- 32 bytes
pub record IsDigest (digest : List ℕ) : Type 0 where
  pub size : length digest ≡ 32
  pub bytes : AllByRecursion (λ byte. byte < 256) digest

-- the host is UTF-8, and the numbers have 64 bits
pub record IsHeldTold (host : List ℕ) (number recorded : ℕ) : Type 0 where
  pub text : IsUtf8 host
  pub numbered : number < 2 ^ 64
  pub counted : recorded < 2 ^ 64

-- what an answer can hold
abbrev pub IsHeld : Answer → Type 0
IsHeld (Recorded host number recorded) = IsHeldTold host number recorded
IsHeld (Repeat host number recorded) = IsHeldTold host number recorded
IsHeld (Gap host number recorded) = IsHeldTold host number recorded
IsHeld (Conflict host number recorded kept found) = IsHeldTold host number recorded × IsDigest kept × IsDigest found
IsHeld (Bad kind) = Unit {0}

-- where the line is the text of an answer, this is that answer
abbrev pub Shows : List ℕ → Option Answer → Type 0
Shows line shown = (answer : Answer) → IsHeld answer → line ≡ line_of answer → shown ≡ Some answer

-- the answer whose text the line is, or nothing where it is the text of none
abbrev pub Reads : List ℕ → Option Answer → Type 0
Reads line (Some answer) = (line ≡ line_of answer) × Shows line (Some answer)
Reads line None = (answer : Answer) → IsHeld answer → line ≡ line_of answer → ⊥
