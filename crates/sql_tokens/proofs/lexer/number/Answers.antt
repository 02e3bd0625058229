use Rattle.std.proofs.Common.{◌∙◌, sym, ap, arith, drop, ◌+◌, slice_index_or}
use Rattle.std.proofs.lemmas.List.{drop_more}
use Rattle.sql_tokens.specs.Lexing.{within, decimal_from}
use Rattle.sql_tokens.proofs.Lexed.{too_wide}
use Rattle.sql_tokens.proofs.lexer.number.Goals as goal

pub returns-then-value-ge-WIDE_TENTHS : goal.returns-then-value-ge-WIDE_TENTHS
returns-then-value-ge-WIDE_TENTHS c =
    too_wide c.loop-digit.value (slice_index_or c.args.digits.now c.loop-digit.digit-index 0) (drop (c.loop-digit.digit-index + 1) c.args.digits.now) (omega arith) ∙ ap within (sym (c.loop-digit.invariant ∙ ap (decimal_from c.loop-digit.value) (drop_more c.args.digits.now c.loop-digit.digit-index 0 (omega arith))))
