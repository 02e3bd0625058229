-- How wide rows of the product of tables are.
use Rattle.std.proofs.Common.{◌≡◌, ◌+◌, ◌++◌, List, [], ◌∷◌, arith}
use Rattle.sql_query.specs.declared.query.SourceColumn.{SourceColumn}
use Rattle.sql_query.specs.Standing.{row_width}

pub row_width-append : (before after : List (List SourceColumn)) → row_width (before ++ after) ≡ row_width before + row_width after
row_width-append [] after = omega arith
row_width-append (columns ∷ before) after = let more = row_width-append before after in omega arith
