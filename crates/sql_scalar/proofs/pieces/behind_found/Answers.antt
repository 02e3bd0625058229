use Rattle.std.proofs.Common.{◌<◌, ℕ, subst, rules, IsUtf8}
use Rattle.sql_scalar.proofs.PieceFits.{found_piece, found_nowhere}
use Rattle.sql_scalar.proofs.Replacing.{whole_split}
use Rattle.sql_scalar.proofs.pieces.behind_found.Goals as goal

pub returns-in-Some : goal.returns-in-Some
returns-in-Some c =
    let found = c.in-Some.ensures.cases in
    let text = found.2.1 in
    let told : IsUtf8 c.in-Some.behind.now = search rules in
    let front = c.in-Some.field-0-0.now in
    let split = whole_split c.args.piece.now c.args.text.now front c.in-Some.behind.now found.0 found.1 found.3 found.4 text.split in
    found_piece c.args.piece.now c.args.text.now front c.in-Some.behind.now c.utf8.piece c.utf8.text told c.requires.plain c.requires.exact
    c.requires.signs c.requires.characters split
    (λ place before. found.2.0 place (subst (λ (n : ℕ). place < n) found.6 before))

pub returns-in-None : goal.returns-in-None
returns-in-None c =
    λ others. found_nowhere c.args.piece.now c.args.text.now others c.utf8.piece c.utf8.text c.requires.plain c.requires.exact c.requires.signs
    c.requires.characters c.in-None.ensures.cases
