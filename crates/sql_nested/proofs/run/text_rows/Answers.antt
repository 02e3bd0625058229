use Rattle.std.proofs.Common.{◌≡◌, ◌∙◌, List, ap, arith, length, map, rules, take}
use Rattle.sql_query.specs.declared.query.Query.{Query}
use Rattle.sql_meaning.specs.Meaning.{View}
use Rattle.sql_nested.specs.Extending.{extended, with_part_rows}
use Rattle.sql_nested.specs.Meanings.{chain_rows}
use Rattle.sql_nested.specs.Trees.{chain_of}
use Rattle.sql_nested.proofs.Beside.{Rows, extended-parts, parts-kept}
use Rattle.sql_nested.proofs.run.text_rows.Goals as goal

pub returns-clause-rows : goal.returns-clause-rows
returns-clause-rows g c =
    let view = g.V.Tables.rows_of c.args.view.now in
    let made = c.args.made.now.items in
    let chain = chain_of c.args.text.now.chain in
    c.in_ok-rows.ensures
    ∙ ap (λ (selects : List Query). chain_rows (extended view c.as_slice-3.result.now) (chain_of selects)) c.as_slice-2.ensures
    ∙ ap (λ (tables : List Rows). chain_rows (extended view tables) chain) c.as_slice-3.ensures.value
    ∙ ap (λ (tables : List Rows). chain_rows (extended view tables) chain) c.in_ok-push_parts.ensures
    ∙ ap (λ (parts : List (List Query)). chain_rows (extended view (with_part_rows view made (map chain_of parts))) chain) c.as_slice.ensures
    ∙ ap (λ (v : View). chain_rows v chain) (extended-parts view made (map chain_of c.args.text.now.parts))

pub returns-clause-kept : goal.returns-clause-kept
returns-clause-kept g c =
    let view = g.V.Tables.rows_of c.args.view.now in
    let made = c.args.made.now.items in
    let count = c.len-count.result in
    let long : length made ≡ count = first_of (omega (arith, c.args.made.now.ok.0, c.len-count.ensures), first_of (omega arith, search rules)) in
    c.truncate.ensures.items ∙ ap (take count) c.in_ok-push_parts.ensures
    ∙ ap (λ (parts : List (List Query)). take count (with_part_rows view made (map chain_of parts))) c.as_slice.ensures
    ∙ parts-kept view made (map chain_of c.args.text.now.parts) count long
