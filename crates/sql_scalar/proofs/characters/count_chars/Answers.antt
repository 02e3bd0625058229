use Rattle.std.proofs.Common.{rules, ◌≡◌, ◌<◌, ◌^◌, length, arith}
use Rattle.std.specs.Str.{chars}
use Rattle.std.proofs.lemmas.Int.{ints}
use Rattle.std.proofs.lemmas.Str.{chars_from_encodes}
use Rattle.sql_scalar.proofs.CharCounts.{chars_le}
use Rattle.sql_scalar.proofs.characters.count_chars.Goals as goal

pub returns : goal.returns
returns c =
    let counted : c.count.result ≡ length (chars c.args.text.now) = search (rules, chars_from_encodes) in
    let small : length c.args.text.now < 2 ^ 63 = omega arith in
    let fewer = chars_le c.args.text.now c.utf8.text in
    omega (arith, ints, counted, small, fewer)
