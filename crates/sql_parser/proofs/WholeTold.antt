-- Tokens that have no fault as an expression have a tree.
use Rattle.std.proofs.Common.{◌≡◌, inl, inr, List, [], ◌∷◌}
use Rattle.sql_tokens.specs.declared.token.Token.{Token}
use Rattle.sql_faults.specs.declared.part.Part.TheVariants.{One}
use Rattle.sql_faults.specs.declared.part.Expected.TheVariants as expected
use Rattle.sql_tokens.specs.Tokens.{next, is_end}
use Rattle.sql_tree.specs.Tree.{Tree}
use Rattle.sql_faults.specs.Reading.{faults, whole}
use Rattle.sql_parser.specs.Whole.{IsTree}
use Rattle.sql_parser.proofs.Whole.{whole_read, whole_unended, is_end_yes, is_end_no}
use Rattle.sql_parser.proofs.Told.{flag_or, expression_told}

pub faultless_expression : (ts : List Token) → faults whole ts ≡ [] → (t : Tree) × IsTree ts t
faultless_expression ts f = elim (expression_told ts) as (λ _. (t : Tree) × IsTree ts t) [
  | inl (t, rest, h) ↦ elim (flag_or (is_end (next rest).kind)) as (λ _. (t : Tree) × IsTree ts t) [
    | inl e ↦ (t, (whole_read ts rest t h (is_end_yes (next rest).kind e)).is_tree)
    | inr e ↦ absurd (whole_unended ts rest t h (is_end_no (next rest).kind e) f)
  ]
  | inr g ↦ absurd (g.holds (One expected.End ∷ []) f)
]
