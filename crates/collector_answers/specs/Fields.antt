-- What the fields of an answer's text are read to.
use Rattle.std.specs.Prelude.{◌≡◌, ℕ, ◌<◌, ◌^◌, List, ◌++◌, codes, Option, Some, None}
use Rattle.std.specs.Fmt.{decimal}
use Rattle.std.specs.Str.{IsUtf8}
use Rattle.result_batches.specs.Frames.{hexadecimal}
use Rattle.result_batches.specs.Json.{quoted}
use Rattle.collector_answers.specs.declared.answer.Answer.{Answer}
use Rattle.collector_answers.specs.declared.answer.Answer.TheVariants.{Conflict}
use Rattle.collector_answers.specs.declared.read.Told.{Told}
use Rattle.collector_answers.specs.declared.read.Counted.{Counted}
use Rattle.collector_answers.specs.declared.answer.BadAnswer.{BadAnswer}
use Rattle.collector_answers.specs.Lines.{bad_line, counted_line, line_of}
use Rattle.collector_answers.specs.Reads.{IsDigest, IsHeld, IsHeldTold}

-- no bytes that don't begin with the front give anything
abbrev pub IsBehind : {T : Type 0} → List ℕ → List ℕ → Option T → Type 0
IsBehind line front None = Unit {0}
IsBehind line front (Some taken) = (rest : List ℕ) × (line ≡ front ++ rest)

-- the host and the number, and what stands behind the key of the count
pub record TakesTold (line front : List ℕ) (taken : Option (Told × List ℕ)) : Type 0 where
  pub behind : IsBehind line front taken
  pub is : (host rest : List ℕ) (number : ℕ) → IsUtf8 host → number < 2 ^ 64
      → line ≡ front ++ quoted host ++ codes ",\"number\":" ++ decimal number ++ codes ",\"recorded\":" ++ rest
      → taken ≡ Some (record { host = host; number = number }, rest)

-- what is told of a frame
pub record TakesCounted (line front : List ℕ) (taken : Option Counted) : Type 0 where
  pub behind : IsBehind line front taken
  pub is : (host : List ℕ) (number recorded : ℕ) → IsHeldTold host number recorded → line ≡ counted_line front host number recorded
      → taken ≡ Some (record { host = host; number = number; recorded = recorded })

-- the digest behind the front, and what stands behind its digits
abbrev pub TakesDigest : List ℕ → List ℕ → Option (List ℕ × List ℕ) → Type 0
TakesDigest bytes front taken =
    (digest rest : List ℕ) → IsDigest digest → bytes ≡ front ++ hexadecimal digest ++ rest → taken ≡ Some (digest, rest)

-- the kind of bad line that is told
pub record TakesBad (line : List ℕ) (taken : Option BadAnswer) : Type 0 where
  pub behind : IsBehind line (codes "{\"answer\":\"bad\",\"kind\":\"") taken
  pub is : (kind : BadAnswer) → line ≡ bad_line kind → taken ≡ Some kind

-- an answer that tells of no digests
abbrev pub IsPlain : Answer → Type 0
IsPlain (Conflict host number recorded kept found) = ⊥
IsPlain answer = Unit {0}

-- where the line is the text of such an answer, this is that answer; where it is that of a conflict, there is none
pub record ShowsPlain (line : List ℕ) (shown : Option Answer) : Type 0 where
  pub is : (answer : Answer) → IsHeld answer → IsPlain answer → line ≡ line_of answer → shown ≡ Some answer
  pub none : (host kept found : List ℕ) (number recorded : ℕ) → line ≡ line_of (Conflict host number recorded kept found) → shown ≡ None
