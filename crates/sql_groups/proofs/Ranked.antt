-- Rows of the result beside what they are sorted by, in the order of that.
use Rattle.std.proofs.Common.{◌≡◌, sym, ap, ◌∙◌, Bool, List, map}
use Rattle.osq_value.specs.declared.value.Value.{Value}
use Rattle.sql_query.specs.Resolved.{OrderTree, ResultTree}
use Rattle.sql_meaning.specs.declared.joined.Joined.{Joined}
use Rattle.sql_meaning.specs.Lent.{values_in}
use Rattle.sql_meaning.specs.Order.{ordered_by}
use Rattle.sql_meaning.proofs.Mapped.{map_twice, ordered_mapped}
use Rattle.sql_groups.specs.declared.sorted.KeyedRow.{KeyedRow}
use Rattle.sql_groups.specs.Leading.{sort_keys}
use Rattle.sql_groups.specs.Sorted.{columns, key_values, keyed_row, pair_of}

abbrev pub keys_in : KeyedRow → List Value
keys_in row = key_values row.keys

abbrev pub row_in : KeyedRow → List Value
row_in row = row.row

module _ (terms : List OrderTree) (items : List ResultTree) (ways : List Bool) where
  abbrev keys : Joined → List Value
  keys row = sort_keys terms (values_in row)

  -- the columns of rows that were put in order
  pub ranked-columns : (made : List KeyedRow) (kept : List Joined) → map pair_of made ≡ map (keyed_row terms items) kept
      → map row_in (ordered_by keys_in ways made) ≡ map (columns items) (ordered_by keys ways kept)
  ranked-columns made kept are =
      sym (map_twice (λ (pair : List Value × List Value). pair.1) pair_of (ordered_by keys_in ways made))
      ∙ ap (map (λ (pair : List Value × List Value). pair.1))
      (sym (ordered_mapped pair_of (λ (pair : List Value × List Value). pair.0) ways made)
      ∙ ap (ordered_by (λ (pair : List Value × List Value). pair.0) ways) are
      ∙ ordered_mapped (keyed_row terms items) (λ (pair : List Value × List Value). pair.0) ways kept)
      ∙ map_twice (λ (pair : List Value × List Value). pair.1) (keyed_row terms items) (ordered_by keys ways kept)
