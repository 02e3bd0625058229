use Rattle.std.proofs.Common.{◌≡◌, ◌-◌, ◌<◌, [], ◌∷◌, length, Some, None, refl, ap, ap₂, ◌∙◌, arith, rules}
use Rattle.json.specs.Token.{Token}
use Rattle.json.specs.Json.{parse_map, after_end_array, read_key, items, members, value}
use Rattle.json.specs.Reads.{token_of}
use Rattle.json.proofs.Grammar.{value_is, value-begin_array, value-begin_object, read_key-shorter}
use Rattle.serde_json.specs.Data.{null, boolean, number, string, array, object, no_items, item, no_members, put}
use Rattle.serde_json.specs.Read.{of_json, of_items, converted}
use Rattle.serde_json.specs.View.{number_view}
use Rattle.change_records.proofs.TokenReading.{converted-array, converted-object, item_read, item_refused, items_over, member_read, member_refused, key_refused, members_over, on_err, one_more, none_before}
use Rattle.change_records.proofs.token.+read.Goals as goal

pub read-returns-in_err-token-clause-err : goal.read-returns-in_err-token-clause-err
read-returns-in_err-token-clause-err t c =
    let empty : c.args.reader.now ≡ [] = grind arith in
    on_err c.from_residual.result (ap (converted of_json) (ap (value c.args.depth) empty ∙ value_is c.args.depth []))

pub read-returns-then-depth-eq0-clause-err : goal.read-returns-then-depth-eq0-clause-err
unfolding value
read-returns-then-depth-eq0-clause-err t c =
    let first : c.args.reader.now ≡ token_of c.in_ok-token.token ∷ c.next.new.self = grind arith in
    let none : c.args.depth ≡ 0 = omega arith in
    ap (converted of_json) (ap₂ value none (first ∙ ap (λ k. token_of k ∷ c.next.new.self) c.in-BeginArray.is))

pub read-returns-then-depth-eq0-2-clause-err : goal.read-returns-then-depth-eq0-2-clause-err
unfolding value
read-returns-then-depth-eq0-2-clause-err t c =
    let first : c.args.reader.now ≡ token_of c.in_ok-token.token ∷ c.next.new.self = grind arith in
    let none : c.args.depth ≡ 0 = omega arith in
    ap (converted of_json) (ap₂ value none (first ∙ ap (λ k. token_of k ∷ c.next.new.self) c.in-BeginObject.is))

pub read-returns-in_err-pass_items-in-BeginArray-clause-err : goal.read-returns-in_err-pass_items-in-BeginArray-clause-err
read-returns-in_err-pass_items-in-BeginArray-clause-err t c =
    let first : c.args.reader.now ≡ token_of c.in_ok-token.token ∷ c.next.new.self = grind arith in
    let opened = ap (converted of_json) (ap (value c.args.depth) (first ∙ ap (λ k. token_of k ∷ c.next.new.self) c.in-BeginArray.is) ∙ value-begin_array c.args.depth c.next.new.self (omega arith)) ∙ converted-array (items (value (c.args.depth - 1)) (length c.next.new.self) c.next.new.self) in
    on_err c.from_residual-in_err-pass_items-in-BeginArray.result (opened ∙ ap (parse_map array) c.in_err-pass_items-in-BeginArray.ensures.err)

pub read-returns-in_err-pass_members-in-BeginObject-clause-err : goal.read-returns-in_err-pass_members-in-BeginObject-clause-err
read-returns-in_err-pass_members-in-BeginObject-clause-err t c =
    let first : c.args.reader.now ≡ token_of c.in_ok-token.token ∷ c.next.new.self = grind arith in
    let opened = ap (converted of_json) (ap (value c.args.depth) (first ∙ ap (λ k. token_of k ∷ c.next.new.self) c.in-BeginObject.is) ∙ value-begin_object c.args.depth c.next.new.self (omega arith)) ∙ converted-object (members (value (c.args.depth - 1)) (length c.next.new.self) c.next.new.self) in
    on_err c.from_residual-in_err-pass_members-in-BeginObject.result (opened ∙ ap (parse_map object) c.in_err-pass_members-in-BeginObject.ensures.err)

pub read-returns-in-Null-clause-ok : goal.read-returns-in-Null-clause-ok
read-returns-in-Null-clause-ok t c =
    let first : c.args.reader.now ≡ token_of c.in_ok-token.token ∷ c.next.new.self = grind arith in
    let is : c.args.reader.now ≡ Token.null ∷ c.next.new.self = grind (arith, first) in
    (null, ap (converted of_json) (ap (value c.args.depth) is ∙ value_is c.args.depth _), search rules)

pub read-returns-in-Bool-clause-ok : goal.read-returns-in-Bool-clause-ok
read-returns-in-Bool-clause-ok t c =
    let first : c.args.reader.now ≡ token_of c.in_ok-token.token ∷ c.next.new.self = grind arith in
    let is : c.args.reader.now ≡ Token.boolean c.in-Bool.truth ∷ c.next.new.self = grind (arith, first) in
    (boolean c.in-Bool.truth, ap (converted of_json) (ap (value c.args.depth) is ∙ value_is c.args.depth _), search rules)

pub read-returns-in-String-clause-ok : goal.read-returns-in-String-clause-ok
read-returns-in-String-clause-ok t c =
    let first : c.args.reader.now ≡ token_of c.in_ok-token.token ∷ c.next.new.self = grind arith in
    let is : c.args.reader.now ≡ Token.string c.in-String.text.now ∷ c.next.new.self = grind (arith, first) in
    (string c.in-String.text.now, ap (converted of_json) (ap (value c.args.depth) is ∙ value_is c.args.depth _), search rules)

pub read-returns-in-Some-clause-ok : goal.read-returns-in-Some-clause-ok
read-returns-in-Some-clause-ok t c =
    let first : c.args.reader.now ≡ token_of c.in_ok-token.token ∷ c.next.new.self = grind arith in
    let is : c.args.reader.now ≡ Token.number c.in-Number.text.now ∷ c.next.new.self = grind (arith, first) in
    (number (number_view c.in-Some.number), ap (converted of_json) (ap (value c.args.depth) is ∙ value_is c.args.depth _) ∙ rw (← c.in-Some.ensures), search rules)

pub read-returns-in-None-clause-err : goal.read-returns-in-None-clause-err
read-returns-in-None-clause-err t c =
    let first : c.args.reader.now ≡ token_of c.in_ok-token.token ∷ c.next.new.self = grind arith in
    let is : c.args.reader.now ≡ Token.number c.in-Number.text.now ∷ c.next.new.self = grind (arith, first) in
    ap (converted of_json) (ap (value c.args.depth) is ∙ value_is c.args.depth _) ∙ rw (← c.in-None.ensures)

pub read-returns-in-EndObject-clause-err : goal.read-returns-in-EndObject-clause-err
read-returns-in-EndObject-clause-err t c =
    let first : c.args.reader.now ≡ token_of c.in_ok-token.token ∷ c.next.new.self = grind arith in
    let none : value c.args.depth c.args.reader.now ≡ None = rw (value_is c.args.depth c.args.reader.now, first) (grind arith) in
    ap (converted of_json) none

pub read-returns-in_ok-pass_items-in-BeginArray-clause-ok : goal.read-returns-in_ok-pass_items-in-BeginArray-clause-ok
read-returns-in_ok-pass_items-in-BeginArray-clause-ok t c =
    let first : c.args.reader.now ≡ token_of c.in_ok-token.token ∷ c.next.new.self = grind arith in
    let opened = ap (converted of_json) (ap (value c.args.depth) (first ∙ ap (λ k. token_of k ∷ c.next.new.self) c.in-BeginArray.is) ∙ value-begin_array c.args.depth c.next.new.self (omega arith)) ∙ converted-array (items (value (c.args.depth - 1)) (length c.next.new.self) c.next.new.self) in
    let passed = c.in_ok-pass_items-in-BeginArray.ensures.ok in
    (array passed.0, opened ∙ ap (parse_map array) passed.1, search rules)

pub read-returns-in_ok-pass_members-in-BeginObject-clause-ok : goal.read-returns-in_ok-pass_members-in-BeginObject-clause-ok
read-returns-in_ok-pass_members-in-BeginObject-clause-ok t c =
    let first : c.args.reader.now ≡ token_of c.in_ok-token.token ∷ c.next.new.self = grind arith in
    let opened = ap (converted of_json) (ap (value c.args.depth) (first ∙ ap (λ k. token_of k ∷ c.next.new.self) c.in-BeginObject.is) ∙ value-begin_object c.args.depth c.next.new.self (omega arith)) ∙ converted-object (members (value (c.args.depth - 1)) (length c.next.new.self) c.next.new.self) in
    let passed = c.in_ok-pass_members-in-BeginObject.ensures.ok in
    (object passed.0, opened ∙ ap (parse_map object) passed.1, search rules)

pub pass_items-items-init : goal.pass_items-items-init
pass_items-items-init t c =
    let all = converted of_items (items (value c.args.depth) (length c.args.reader.now) c.args.reader.now) in
    (length c.args.reader.now, omega arith, (λ rest. rest), none_before all, omega arith)

pub pass_items-returns-in_err-read-clause-err : goal.pass_items-returns-in_err-read-clause-err
pass_items-returns-in_err-read-clause-err t c =
    let p = value c.args.depth in
    let l = c.items in
    let going : (after_end_array l.reader ≡ None) × (c.take_end_array.new.self ≡ l.reader) = grind arith in
    on_err c.from_residual.result (l.invariant.3 ∙ ap (parse_map l.invariant.2) (item_refused p l.invariant.0 l.reader going.0 (rw (← going.1) c.in_err-read.ensures.err)))

pub pass_items-items-preserved : goal.pass_items-items-preserved
pass_items-items-preserved t c =
    let p = value c.args.depth in
    let l = c.items in
    let n = l.invariant.0 in
    let before = l.invariant.2 in
    let going : (after_end_array l.reader ≡ None) × (c.take_end_array.new.self ≡ l.reader) = grind arith in
    let done = c.in_ok-read.ensures in
    let d = done.ok.0 in
    let r = c.read.new.reader in
    let less : length r < length l.reader = rw (← going.1) done.shorter in
    let turn = item_read p n l.reader r d (omega (arith, l.invariant.1)) going.0 (rw (← going.1) done.ok.1) in
    (n - 1, omega (arith, l.invariant.1), (λ rest. before (item d rest)), l.invariant.3 ∙ ap (parse_map before) turn ∙ one_more before d _, omega (arith, l.invariant.4))

pub pass_items-returns-clause-ok : goal.pass_items-returns-clause-ok
pass_items-returns-clause-ok t c =
    let p = value c.args.depth in
    let l = c.items in
    let before = l.invariant.2 in
    (before no_items, l.invariant.3 ∙ ap (parse_map before) (items_over p l.invariant.0 l.reader c.take_end_array.new.self l.invariant.1 (grind arith)))

pub pass_members-members-init : goal.pass_members-members-init
pass_members-members-init t c = (length c.args.reader.now, omega arith, no_members, refl, omega arith)

pub pass_members-returns-in_err-next_key-clause-err : goal.pass_members-returns-in_err-next_key-clause-err
pass_members-returns-in_err-next_key-clause-err t c =
    let p = value c.args.depth in
    let l = c.members in
    on_err c.from_residual.result (l.invariant.3 ∙ key_refused p l.invariant.2 l.invariant.0 l.reader c.in_err-next_key.ensures.value)

pub pass_members-returns-in_err-read-clause-err : goal.pass_members-returns-in_err-read-clause-err
pass_members-returns-in_err-read-clause-err t c =
    let p = value c.args.depth in
    let l = c.members in
    let k = c.in-Some.field-0.now in
    let s = c.next_key.new.self in
    let named : read_key l.reader ≡ Some (Some k, s) = grind arith in
    on_err c.from_residual-in_err-read.result (l.invariant.3 ∙ member_refused p l.invariant.2 l.invariant.0 k l.reader s named c.in_err-read.ensures.err)

pub pass_members-members-preserved : goal.pass_members-members-preserved
pass_members-members-preserved t c =
    let p = value c.args.depth in
    let l = c.members in
    let n = l.invariant.0 in
    let old = l.invariant.2 in
    let k = c.in-Some.field-0.now in
    let s = c.next_key.new.self in
    let named : read_key l.reader ≡ Some (Some k, s) = grind arith in
    let done = c.in_ok-read.ensures in
    let d = done.ok.0 in
    let r = c.read.new.reader in
    let less = read_key-shorter l.reader (Some k) s named in
    let lesser = done.shorter in
    (n - 1, omega (arith, l.invariant.1), put k d old, l.invariant.3 ∙ member_read p old n k l.reader s r d (omega (arith, l.invariant.1)) named done.ok.1, omega (arith, l.invariant.4))

pub pass_members-returns-clause-ok : goal.pass_members-returns-clause-ok
pass_members-returns-clause-ok t c =
    let p = value c.args.depth in
    let l = c.members in
    (l.invariant.2, l.invariant.3 ∙ members_over p l.invariant.2 l.invariant.0 l.reader c.next_key.new.self l.invariant.1 (grind arith))
