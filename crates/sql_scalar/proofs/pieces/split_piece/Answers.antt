use Rattle.std.proofs.Common.{◌<◌, arith, rules, IsUtf8}
use Rattle.sql_scalar.proofs.Fitting.{lacks_byte, split_at_place, boundary_behind}
use Rattle.sql_scalar.proofs.pieces.split_piece.Goals as goal

pub returns-in-Some : goal.returns-in-Some
returns-in-Some c =
    let ascii : 37 < 128 = omega arith in
    split_at_place 37 c.args.pattern.now c.as_bytes.result.now c.split_at.result.0.now c.split_at.result.1.now c.split_at-in-Some.result.1.now c.in-Some.at ascii
    c.utf8.pattern c.as_bytes.ensures.value c.in-Some.ensures c.split_at.ensures.front c.split_at.ensures.back c.split_at-in-Some.ensures.back

pub returns-in-None : goal.returns-in-None
returns-in-None c =
    let ascii : 37 < 128 = omega arith in
    lacks_byte 37 c.args.pattern.now c.as_bytes.result.now ascii c.utf8.pattern c.as_bytes.ensures.value c.in-None.ensures

pub split_at-requires-in-Some : goal.split_at-requires-in-Some
split_at-requires-in-Some c =
    let ascii : 37 < 128 = omega arith in
    let told : IsUtf8 c.split_at.result.1.now = search rules in
    boundary_behind 37 c.args.pattern.now c.as_bytes.result.now c.split_at.result.1.now c.in-Some.at ascii told c.as_bytes.ensures.value c.in-Some.ensures
    c.split_at.ensures.back
