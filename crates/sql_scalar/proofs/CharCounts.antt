-- A text has no more characters than bytes.
use Rattle.std.proofs.Common.{ℕ, ◌≤◌, List, length, subst}
use Rattle.std.specs.Str.{chars, IsUtf8}
use Rattle.std.proofs.lemmas.Str.{length-le-encodes, encodes-chars}

pub chars_le : (s : List ℕ) → IsUtf8 s → length (chars s) ≤ length s
chars_le s told = subst (λ t. length (chars s) ≤ length t) (encodes-chars s told) (length-le-encodes (chars s))
