use Rattle.std.proofs.Common.{◌≡◌, ◌∙◌, [], inl, inr, sym}
use Rattle.keeper_sqlite.proofs.Seals.{clean_before, none_of}
use Rattle.keeper_sqlite.proofs.connection.ready.Goals as goal

pub returns-then-is_empty-clause-tables : goal.returns-then-is_empty-clause-tables
returns-then-is_empty-clause-tables g c = λ clean.
    let made = c.in_ok-execute_batch.ensures in
    let none : c.in_ok-names.names ≡ [] = sym c.as_slice.ensures ∙ none_of _ c.is_empty.result c.is_empty.ensures c.if-is_empty.true in
    (c.in_ok-names.names, c.show.new.tx.conn.now, c.in_ok-names.ensures.found (clean_before _ _ made.survives clean), inl (none, made.ran clean))

pub returns-then-has_layout-clause-tables : goal.returns-then-has_layout-clause-tables
returns-then-has_layout-clause-tables g c = λ clean.
    let found = c.in_ok-found.ensures in
    (c.in_ok-names.names, c.show.new.tx.conn.now, c.in_ok-names.ensures.found (clean_before _ _ found.survives clean), inr (c.in_ok-found.found, found.found clean, sym c.has_layout.ensures ∙ c.if-has_layout.true))
