use Rattle.std.proofs.Common.{◌≡◌, [], ◌∷◌, Some, sym, ap, ◌∙◌, arith}
use Rattle.json.specs.Reads.{token_of}
use Rattle.json.specs.Token.{Token}
use Rattle.serde_json.specs.Data.{object}
use Rattle.change_records.specs.Tokens.{data_of}
use Rattle.change_records.proofs.LineObject.{begins, no_object, nothing, object_and_more, object_read, object_refused, refused_line}
use Rattle.change_records.proofs.TokenReading.{on_err}
use Rattle.change_records.proofs.members.Members.read_line.Goals as goal

pub returns-in_default-clause-err : goal.returns-in_default-clause-err
returns-in_default-clause-err c = λ line is.
    let none : c.args.reader.now ≡ [] = grind arith in
    nothing (object line) (ap data_of (sym none) ∙ is)

pub returns-in_default-token-clause-err : goal.returns-in_default-token-clause-err
returns-in_default-token-clause-err c = λ line is.
    let first : c.args.reader.now ≡ token_of c.in-Some.token ∷ c.next.new.self = grind arith in
    no_object (token_of c.in-Some.token) c.next.new.self line (λ e. c.in_default-token.not-BeginObject (begins c.in-Some.token e)) (ap data_of (sym first) ∙ is)

pub returns-in_err-read_members-clause-err : goal.returns-in_err-read_members-clause-err
returns-in_err-read_members-clause-err c =
    let ts = c.next.new.self in
    let first : c.args.reader.now ≡ Token.begin_object ∷ ts = grind arith in
    on_err c.from_residual.result (λ line is. refused_line c.args.reader.now (object line) (ap data_of first ∙ object_refused ts c.in_err-read_members.ensures.err) is)

pub returns-in-None-clause-ok : goal.returns-in-None-clause-ok
returns-in-None-clause-ok c =
    let ts = c.next.new.self in
    let first : c.args.reader.now ≡ Token.begin_object ∷ ts = grind arith in
    let done = c.in_ok-read_members.ensures.ok in
    let end : c.read_members.new.reader ≡ [] = grind arith in
    (done.0, ap data_of first ∙ object_read ts done.0 (done.1 ∙ ap (λ r. Some (done.0, r)) end), done.2)

pub returns-in-Some-next-clause-err : goal.returns-in-Some-next-clause-err
returns-in-Some-next-clause-err c =
    let ts = c.next.new.self in
    let first : c.args.reader.now ≡ Token.begin_object ∷ ts = grind arith in
    let done = c.in_ok-read_members.ensures.ok in
    let more : c.read_members.new.reader ≡ token_of c.in-Some-next.field-0 ∷ c.next-2.new.self = grind arith in
    λ line is. refused_line c.args.reader.now (object line) (ap data_of first ∙ object_and_more ts done.0 (token_of c.in-Some-next.field-0) c.next-2.new.self (done.1 ∙ ap (λ r. Some (done.0, r)) more)) is
