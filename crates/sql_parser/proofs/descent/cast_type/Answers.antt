use Rattle.std.proofs.Common.{ap}
use Rattle.std.proofs.lemmas.Result.{err_from_is_err_and}
use Rattle.sql_tokens.specs.declared.token.Token.{Token}
use Rattle.sql_parser.proofs.Arms.{kind_at, kind_not}
use Rattle.sql_parser.proofs.Calls.{fails_as, type_refused, type_unclosed, type_read}
use Rattle.sql_parser.proofs.descent.cast_type.Goals as goal

pub returns-in_default : goal.returns-in_default
returns-in_default c = fails_as c.args.reader.now (kind_not c.args.reader.now c.peek.ensures c.in_default.not-As)

pub returns-in_err-is_text : goal.returns-in_err-is_text
returns-in_err-is_text c =
    let ts = c.args.reader.now in
    let p = err_from_is_err_and c.from_residual.result c.from_residual.ensures.1 in
    rw (p.1, p.2) (type_refused ts c.advance.new.self c.peek-2.result.kind c.in_err-is_text.field-0.0 (kind_at ts c.peek.ensures c.in-As.is) c.advance.ensures (ap (λ (x : Token). x.kind) c.peek-2.ensures) c.in_err-is_text.ensures)

pub returns-in_default-kind : goal.returns-in_default-kind
returns-in_default-kind c =
    let ts = c.args.reader.now in
    type_unclosed ts c.advance.new.self c.advance-2.new.self c.peek-2.result.kind c.in_ok-is_text.is_text (kind_at ts c.peek.ensures c.in-As.is) c.advance.ensures (ap (λ (x : Token). x.kind) c.peek-2.ensures) c.in_ok-is_text.ensures c.advance-2.ensures (kind_not c.advance-2.new.self c.peek-3.ensures c.in_default-kind.not-Close)

pub returns : goal.returns
returns c =
    let ts = c.args.reader.now in
    type_read ts c.advance.new.self c.advance-2.new.self c.advance-3.new.self c.peek-2.result.kind c.in_ok-is_text.is_text (kind_at ts c.peek.ensures c.in-As.is) c.advance.ensures (ap (λ (x : Token). x.kind) c.peek-2.ensures) c.in_ok-is_text.ensures c.advance-2.ensures
    (kind_at c.advance-2.new.self c.peek-3.ensures c.in-Close.is) c.advance-3.ensures
