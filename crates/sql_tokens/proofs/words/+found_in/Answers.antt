use Rattle.std.proofs.Common.{◌∙◌, ◌-◌, arith, length, take, drop, rules}
use Rattle.sql_tokens.proofs.Lexed.{split_first}
use Rattle.sql_tokens.proofs.Tables.{found_first, found_later}
use Rattle.sql_tokens.proofs.words.+found_in.Goals as goal

pub returns-then-eq_ignore_ascii_case : goal.returns-then-eq_ignore_ascii_case
returns-then-eq_ignore_ascii_case g t c =
    found_first (λ entry. (entry.0.now, entry.1)) c.args.table.now _ (take (length c.args.table.now - 1) (drop 1 c.args.table.now)) c.args.word.now (split_first c.args.table.now c.index-table-0-2.result (omega arith)) (search rules)

pub returns : goal.returns
returns g t c =
    c.found_in.ensures ∙ found_later (λ entry. (entry.0.now, entry.1)) c.args.table.now _ (take (length c.args.table.now - 1) (drop 1 c.args.table.now)) c.args.word.now (split_first c.args.table.now c.index-table-0-2.result (omega arith)) (search rules)
