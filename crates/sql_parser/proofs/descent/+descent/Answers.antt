use Rattle.std.proofs.Common.{◌≡◌, ◌+◌, [], ◌∷◌, length, Some, None, true, false, sym, ap, ◌∙◌, arith}
use Rattle.std.proofs.lemmas.Result.{err_from_is_err_and}
use Rattle.sql_tokens.specs.declared.token.Token.{Token}
use Rattle.sql_tokens.specs.declared.token.Kind.TheVariants as kind
use Rattle.sql_faults.specs.declared.part.Part.TheVariants.{One, Must}
use Rattle.sql_faults.specs.declared.part.Expected.TheVariants as expected
use Rattle.sql_faults.specs.declared.part.Rule.TheVariants as rule
use Rattle.sql_tokens.specs.declared.level.Level.TheVariants as level
use Rattle.sql_tokens.specs.declared.level.Sign.TheVariants as sign
use Rattle.sql_tree.specs.declared.tree.Operator.TheVariants as op
use Rattle.sql_tokens.specs.Tokens.{next}
use Rattle.sql_tree.specs.Tree.{no_steps, no_trees, Trees, and_tree}
use Rattle.sql_tree.specs.declared.tree.Node.{Text}
use Rattle.sql_tokens.specs.Levels.{sign_at}
use Rattle.sql_tree.specs.View.{tree_of, step_of, steps_of, trees_of}
use Rattle.sql_faults.specs.Reading.{operand_rule, further}
use Rattle.sql_parser.proofs.Laws.{leads_on, leads_with, leads_chain, fails_with, fails_later}
use Rattle.sql_tree.proofs.Trees.{view-Binary, view-In, view-Between, view-Text, view-Null, view-Column}
use Rattle.sql_parser.proofs.Arms.{stopped_later, stopped_with, same_descent, kind_at, kind_not, sign_is, leads_not, fails_not, leads_no_not, leads_minus, fails_minus, leads_plus, fails_plus, leads_no_sign, stopped_step, fails_close, fails_and, fails_open, fails_deep_open, leads_parenthesis, fails_parenthesis, refuses_atom, leads_like, leads_not_in, fails_negatable}
use Rattle.sql_parser.specs.Grammar.{no_not, no_sign}
use Rattle.sql_parser.specs.Grammar as grammar
use Rattle.sql_parser.proofs.Read.{read_not, read_minus, read_plus, number_descent, read_text, read_null, read_parentheses, read_binary, is_leads, read_is, read_in, read_between, read_negated, read_not_like, read_not_in, read_two_ends, stopped_high, same_negated, stopped_chain, chain_full, no_step, list_unclosed, chain_start, chain_more, chain_end, stopped_first, list_start, stopped_item, list_more, list_end, list_empty}
use Rattle.sql_tree.specs.Tree as tree
use Rattle.sql_faults.specs.Calls.{name_of as token_name}
use Rattle.sql_parser.proofs.Calls.{IsOpening, read_column, member_descent, call_descent, fails_unknown, fails_deep_call, fails_empty_call, all_descent, distinct_descent, plain_descent, counted_start, stopped_argument, counted_more, counted_end, fails_cast_open, fails_deep_cast, stopped_inner, stopped_type, cast_read, cast_descent}
use Rattle.sql_parser.proofs.Shorter.{shorter, after_shorter}
use Rattle.sql_parser.proofs.descent.+descent.Goals as goal

pub atom-returns-then-depth-eq-MAX_DEPTH : goal.atom-returns-then-depth-eq-MAX_DEPTH
atom-returns-then-depth-eq-MAX_DEPTH t c =
    let ts = c.args.reader.now in
    let d = c.args.depth in
    fails_parenthesis d ts (kind_at ts c.peek-token.ensures c.in-Open.is) (omega arith)

pub atom-returns-in_err-inner-in-Open : goal.atom-returns-in_err-inner-in-Open
atom-returns-in_err-inner-in-Open t c =
    let ts = c.args.reader.now in
    let d = c.args.depth in
    let p = err_from_is_err_and c.from_residual.result c.from_residual.ensures.1 in
    rw (p.1, p.2) (stopped_later c.in_err-inner-in-Open.field-0.0 (leads_parenthesis d ts c.advance-in-Open.new.self (kind_at ts c.peek-token.ensures c.in-Open.is) (omega arith) c.advance-in-Open.ensures) (stopped_with (Must (rule.Chain level.Or (d + 1)) ∷ []) (One expected.Close ∷ []) c.advance-in-Open.new.self c.in_err-inner-in-Open.field-0.0 c.in_err-inner-in-Open.ensures))

pub atom-returns-in_default-kind : goal.atom-returns-in_default-kind
atom-returns-in_default-kind t c =
    let ts = c.args.reader.now in
    let d = c.args.depth in
    let h = c.in_ok-inner-in-Open.ensures in
    fails_later (leads_on (leads_parenthesis d ts c.advance-in-Open.new.self (kind_at ts c.peek-token.ensures c.in-Open.is) (omega arith) c.advance-in-Open.ensures) (leads_with (One expected.Close ∷ []) h.reads)) (fails_close c.chain.new.reader (kind_not c.chain.new.reader c.peek.ensures c.in_default-kind.not-Close))

pub atom-returns-in-Number : goal.atom-returns-in-Number
atom-returns-in-Number t c =
    let ts = c.args.reader.now in
    let d = c.args.depth in
    number_descent d c.peek-token.result.span.start c.in-Number.value ts c.number.new.reader c.number.result (ap (λ (x : Token). x.span.start) c.peek-token.ensures) (kind_at ts c.peek-token.ensures c.in-Number.is) c.number.ensures

pub atom-returns-in-Text : goal.atom-returns-in-Text
atom-returns-in-Text t c =
    let ts = c.args.reader.now in
    let d = c.args.depth in
    read_text d ts c.advance.new.self _ (kind_at ts c.peek-token.ensures c.in-Text.is) c.advance.ensures (ap (λ (x : Token). tree_of (Text x.span)) c.peek-token.ensures ∙ view-Text (next ts).span)

pub atom-returns-in-Null : goal.atom-returns-in-Null
atom-returns-in-Null t c =
    let ts = c.args.reader.now in
    let d = c.args.depth in
    read_null d ts c.advance-in-Null.new.self _ (kind_at ts c.peek-token.ensures c.in-Null.is) c.advance-in-Null.ensures view-Null

pub atom-returns-in-Close : goal.atom-returns-in-Close
atom-returns-in-Close t c =
    let ts = c.args.reader.now in
    let d = c.args.depth in
    read_parentheses d ts c.advance-in-Open.new.self c.chain.new.reader c.advance-in-Open-2.new.self (tree_of c.in_ok-inner-in-Open.inner) (kind_at ts c.peek-token.ensures c.in-Open.is) (omega arith) c.advance-in-Open.ensures c.in_ok-inner-in-Open.ensures (kind_at c.chain.new.reader c.peek.ensures c.in-Close.is) c.advance-in-Open-2.ensures

pub atom-returns-in_default : goal.atom-returns-in_default
atom-returns-in_default t c =
    let ts = c.args.reader.now in
    let d = c.args.depth in
    refuses_atom d c.peek-token.result ts c.peek-token.ensures c.in_default.not-Number c.in_default.not-Text c.in_default.not-Null c.in_default.not-Open c.in_default.not-Name c.in_default.not-QuotedName c.in_default.not-Cast

pub negated-returns-then-depth-eq-MAX_DEPTH : goal.negated-returns-then-depth-eq-MAX_DEPTH
negated-returns-then-depth-eq-MAX_DEPTH t c =
    let ts = c.args.reader.now in
    let d = c.args.depth in
    fails_not d ts (kind_at ts c.peek.ensures c.in-Not.is) (omega arith)

pub negated-returns-in_err-inner-in-Not : goal.negated-returns-in_err-inner-in-Not
negated-returns-in_err-inner-in-Not t c =
    let ts = c.args.reader.now in
    let d = c.args.depth in
    let p = err_from_is_err_and c.from_residual.result c.from_residual.ensures.1 in
    rw (p.1, p.2) (stopped_later c.in_err-inner-in-Not.field-0.0 (leads_not d ts c.advance.new.self (kind_at ts c.peek.ensures c.in-Not.is) (omega arith) c.advance.ensures) c.in_err-inner-in-Not.ensures)

pub negated-returns-in_ok-negation-in-Not : goal.negated-returns-in_ok-negation-in-Not
negated-returns-in_ok-negation-in-Not t c =
    let ts = c.args.reader.now in
    let d = c.args.depth in
    read_not d ts c.advance.new.self c.negated.new.reader (tree_of c.in_ok-inner-in-Not.inner) _ (kind_at ts c.peek.ensures c.in-Not.is) (omega arith) c.advance.ensures c.in_ok-inner-in-Not.ensures c.in_ok-negation-in-Not.ensures

pub negated-returns-in_default : goal.negated-returns-in_default
negated-returns-in_default t c =
    let ts = c.args.reader.now in
    let d = c.args.depth in
    let n = (kind_not ts c.peek.ensures c.in_default.not-Not) in
    same_descent grammar.negated (grammar.chain level.Equal) (rule.Negated d) (rule.Chain level.Equal d) ts c.chain.result c.chain.new.reader (λ tree s. no_not n s) (leads_no_not d ts n) c.chain.ensures

pub signed-returns-then-depth-eq-MAX_DEPTH : goal.signed-returns-then-depth-eq-MAX_DEPTH
signed-returns-then-depth-eq-MAX_DEPTH t c =
    let ts = c.args.reader.now in
    let d = c.args.depth in
    fails_minus d ts (kind_at ts c.peek.ensures c.in-Minus.is) (omega arith)

pub signed-returns-in_err-inner-in-Minus : goal.signed-returns-in_err-inner-in-Minus
signed-returns-in_err-inner-in-Minus t c =
    let ts = c.args.reader.now in
    let d = c.args.depth in
    let p = err_from_is_err_and c.from_residual.result c.from_residual.ensures.1 in
    rw (p.1, p.2) (stopped_later c.in_err-inner-in-Minus.field-0.0 (leads_minus d ts c.advance.new.self (kind_at ts c.peek.ensures c.in-Minus.is) (omega arith) c.advance.ensures) c.in_err-inner-in-Minus.ensures)

pub signed-returns-in_ok-minus-in-Minus : goal.signed-returns-in_ok-minus-in-Minus
signed-returns-in_ok-minus-in-Minus t c =
    let ts = c.args.reader.now in
    let d = c.args.depth in
    read_minus d ts c.advance.new.self c.signed.new.reader (tree_of c.in_ok-inner-in-Minus.inner) _ (kind_at ts c.peek.ensures c.in-Minus.is) (omega arith) c.advance.ensures c.in_ok-inner-in-Minus.ensures c.in_ok-minus-in-Minus.ensures

pub signed-returns-then-depth-eq-MAX_DEPTH-2 : goal.signed-returns-then-depth-eq-MAX_DEPTH-2
signed-returns-then-depth-eq-MAX_DEPTH-2 t c =
    let ts = c.args.reader.now in
    let d = c.args.depth in
    fails_plus d ts (kind_at ts c.peek.ensures c.in-Plus.is) (omega arith)

pub signed-returns-in_err-inner-in-Plus : goal.signed-returns-in_err-inner-in-Plus
signed-returns-in_err-inner-in-Plus t c =
    let ts = c.args.reader.now in
    let d = c.args.depth in
    let p = err_from_is_err_and c.from_residual-in_err-inner-in-Plus.result c.from_residual-in_err-inner-in-Plus.ensures.1 in
    rw (p.1, p.2) (stopped_later c.in_err-inner-in-Plus.field-0.0 (leads_plus d ts c.advance-in-Plus.new.self (kind_at ts c.peek.ensures c.in-Plus.is) (omega arith) c.advance-in-Plus.ensures) c.in_err-inner-in-Plus.ensures)

pub signed-returns-in_ok-plus-in-Plus : goal.signed-returns-in_ok-plus-in-Plus
signed-returns-in_ok-plus-in-Plus t c =
    let ts = c.args.reader.now in
    let d = c.args.depth in
    read_plus d ts c.advance-in-Plus.new.self c.signed-in-Plus.new.reader (tree_of c.in_ok-inner-in-Plus.inner) _ (kind_at ts c.peek.ensures c.in-Plus.is) (omega arith) c.advance-in-Plus.ensures c.in_ok-inner-in-Plus.ensures c.in_ok-plus-in-Plus.ensures

pub signed-returns-in_default : goal.signed-returns-in_default
signed-returns-in_default t c =
    let ts = c.args.reader.now in
    let d = c.args.depth in
    let m = (kind_not ts c.peek.ensures c.in_default.not-Minus) in
    let p = (kind_not ts c.peek.ensures c.in_default.not-Plus) in
    same_descent grammar.signed grammar.atom (rule.Signed d) (rule.Atom d) ts c.atom.result c.atom.new.reader (λ tree s. no_sign m p s) (leads_no_sign d ts m p) c.atom.ensures

pub between-returns-in_default : goal.between-returns-in_default
between-returns-in_default t c =
    let ts = c.args.reader.now in
    let d = c.args.depth in
    let h = c.in_ok-low.ensures in
    fails_later (leads_with (One expected.And ∷ Must (operand_rule c.args.level d) ∷ []) h.reads) (fails_with (Must (operand_rule c.args.level d) ∷ []) (fails_and c.operand.new.reader (kind_not c.operand.new.reader c.peek.ensures c.in_default.not-And)))

pub between-returns-in_err-high : goal.between-returns-in_err-high
between-returns-in_err-high t c =
    let ts = c.args.reader.now in
    let d = c.args.depth in
    let p = err_from_is_err_and c.from_residual-in_err-high.result c.from_residual-in_err-high.ensures.1 in
    rw (p.1, p.2) (stopped_high c.args.level d ts c.operand.new.reader c.advance.new.self _ c.in_err-high.field-0.0 c.in_ok-low.ensures (kind_at c.operand.new.reader c.peek.ensures c.in-And.is) c.advance.ensures c.in_err-high.ensures)

pub between-returns : goal.between-returns
between-returns t c =
    let ts = c.args.reader.now in
    let d = c.args.depth in
    read_two_ends c.args.level d c.args.is_negated ts c.operand.new.reader c.advance.new.self c.operand-2.new.reader (tree_of c.in_ok-low.low) (tree_of c.in_ok-high.high) _ c.in_ok-low.ensures (kind_at c.operand.new.reader c.peek.ensures c.in-And.is) c.advance.ensures c.in_ok-high.ensures (view-Between c.args.is_negated c.in_ok-low.low c.in_ok-high.high)

pub chain-returns-in_err-first : goal.chain-returns-in_err-first
chain-returns-in_err-first t c =
    let ts = c.args.reader.now in
    let d = c.args.depth in
    let p = err_from_is_err_and c.from_residual.result c.from_residual.ensures.1 in
    rw (p.1, p.2) (stopped_later c.in_err-first.field-0.0 (leads_chain c.args.level d ts) (stopped_with (Must (operand_rule c.args.level d) ∷ []) (further c.args.level d 0 ∷ []) ts c.in_err-first.field-0.0 c.in_err-first.ensures))

pub chain-loop-count-init : goal.chain-loop-count-init
chain-loop-count-init t c =
    let ts = c.args.reader.now in
    let d = c.args.depth in
    let s : steps_of c.new-steps.result.items ≡ no_steps = ap steps_of c.new-steps.ensures.items in
    rw s (chain_start c.args.level d ts c.operand.new.reader (tree_of c.in_ok-first.first) c.in_ok-first.ensures)

pub chain-returns-in_err-step : goal.chain-returns-in_err-step
chain-returns-in_err-step t c =
    let ts = c.args.reader.now in
    let d = c.args.depth in
    let p = err_from_is_err_and c.from_residual-in_err-step.result c.from_residual-in_err-step.ensures.1 in
    rw (p.1, p.2) (stopped_chain c.args.level d c.loop-count._count ts c.loop-count.reader _ _ c.in_err-step.field-0.0 c.loop-count.invariant c.in_err-step.ensures)

pub chain-returns-in-None : goal.chain-returns-in-None
chain-returns-in-None t c =
    let ts = c.args.reader.now in
    let d = c.args.depth in
    chain_end c.args.level d c.loop-count._count ts c.loop-count.reader c.step.new.reader _ (steps_of c.loop-count.steps.items) _ c.loop-count.invariant (rw c.in-None.is at c.in_ok-step.ensures) c.in_ok-chain-in-None.ensures

pub chain-loop-count-preserved : goal.chain-loop-count-preserved
chain-loop-count-preserved t c =
    let ts = c.args.reader.now in
    let d = c.args.depth in
    let s = rw c.in-Some.is at c.in_ok-step.ensures in
    rw c.in_ok-push_step-in-Some.ensures (chain_more c.args.level d c.loop-count._count ts c.loop-count.reader c.step.new.reader _ (steps_of c.loop-count.steps.items) (step_of c.in-Some.step) c.loop-count.invariant (omega arith) s)

pub chain-returns-then-is_some : goal.chain-returns-then-is_some
chain-returns-then-is_some t c =
    let ts = c.args.reader.now in
    let d = c.args.depth in
    chain_full c.args.level d c.loop-count._count ts c.loop-count.reader _ _ c.sign_at_level.result c.loop-count.invariant (omega arith) (c.sign_at_level.ensures ∙ ap (λ (x : Token). sign_at c.args.level x.kind) c.peek.ensures) (sym c.is_some.ensures ∙ c.if-is_some.true)

pub chain-returns : goal.chain-returns
chain-returns t c =
    let ts = c.args.reader.now in
    let d = c.args.depth in
    chain_end c.args.level d c.loop-count._count ts c.loop-count.reader c.loop-count.reader _ (steps_of c.loop-count.steps.items) _ c.loop-count.invariant (no_step c.args.level c.loop-count.reader c.sign_at_level.result (c.sign_at_level.ensures ∙ ap (λ (x : Token). sign_at c.args.level x.kind) c.peek.ensures) (sym c.is_some.ensures ∙ c.if-is_some.false)) c.in_ok-chain.ensures

pub list-returns-in_default : goal.list-returns-in_default
list-returns-in_default t c =
    let ts = c.args.reader.now in
    let d = c.args.depth in
    fails_open d ts (kind_not ts c.peek.ensures c.in_default.not-Open)

pub list-returns-then-depth-eq-MAX_DEPTH : goal.list-returns-then-depth-eq-MAX_DEPTH
list-returns-then-depth-eq-MAX_DEPTH t c =
    let ts = c.args.reader.now in
    let d = c.args.depth in
    fails_deep_open d ts (kind_at ts c.peek.ensures c.in-Open.is) (omega arith)

pub list-returns-in-Close : goal.list-returns-in-Close
list-returns-in-Close t c =
    let ts = c.args.reader.now in
    let d = c.args.depth in
    list_empty d ts c.advance.new.self c.advance-in-Close.new.self _ (kind_at ts c.peek.ensures c.in-Open.is) (omega arith) c.advance.ensures (kind_at c.advance.new.self c.peek-2.ensures c.in-Close.is) c.advance-in-Close.ensures (ap trees_of c.new-items.ensures.items)

pub list-returns-in_err-first : goal.list-returns-in_err-first
list-returns-in_err-first t c =
    let ts = c.args.reader.now in
    let d = c.args.depth in
    let p = err_from_is_err_and c.from_residual.result c.from_residual.ensures.1 in
    rw (p.1, p.2) (stopped_first d ts c.advance.new.self c.in_err-first.field-0.0 (kind_at ts c.peek.ensures c.in-Open.is) (omega arith) c.advance.ensures (kind_not c.advance.new.self c.peek-2.ensures c.in_default-kind.not-Close) c.in_err-first.ensures)

pub list-loop-reader-init : goal.list-loop-reader-init
list-loop-reader-init t c =
    let ts = c.args.reader.now in
    let d = c.args.depth in
    list_start d ts c.advance.new.self c.chain.new.reader (tree_of c.in_ok-first.first) _ (kind_at ts c.peek.ensures c.in-Open.is) (omega arith) c.advance.ensures (kind_not c.advance.new.self c.peek-2.ensures c.in_default-kind.not-Close) c.in_ok-first.ensures (c.in_ok-push_node.ensures ∙ ap (λ (x : Trees). and_tree x (tree_of c.in_ok-first.first)) (ap trees_of c.new-items.ensures.items))

pub list-returns-in_err-item : goal.list-returns-in_err-item
list-returns-in_err-item t c =
    let ts = c.args.reader.now in
    let d = c.args.depth in
    let p = err_from_is_err_and c.from_residual-in_err-item.result c.from_residual-in_err-item.ensures.1 in
    rw (p.1, p.2) (stopped_item d ts c.loop-reader.reader c.advance-in-Comma.new.self _ c.in_err-item.field-0.0 c.loop-reader.invariant (kind_at c.loop-reader.reader c.peek-in-loop-reader.ensures c.in-Comma.is) c.advance-in-Comma.ensures c.in_err-item.ensures)

pub list-loop-reader-smaller : goal.list-loop-reader-smaller
list-loop-reader-smaller t c =
    let ts = c.args.reader.now in
    let d = c.args.depth in
    let k : (next c.loop-reader.reader).kind ≡ kind.Comma = kind_at c.loop-reader.reader c.peek-in-loop-reader.ensures c.in-Comma.is in
    let a = after_shorter c.loop-reader.reader (λ e. cc) in
    let b = shorter c.in_ok-item.ensures.spelled in
    let m = ap length c.advance-in-Comma.ensures in
    omega arith

pub list-loop-reader-preserved : goal.list-loop-reader-preserved
list-loop-reader-preserved t c =
    let ts = c.args.reader.now in
    let d = c.args.depth in
    list_more d ts c.loop-reader.reader c.advance-in-Comma.new.self c.chain-in-Comma.new.reader (trees_of c.loop-reader.items.items) _ (tree_of c.in_ok-item.item) c.loop-reader.invariant (kind_at c.loop-reader.reader c.peek-in-loop-reader.ensures c.in-Comma.is) c.advance-in-Comma.ensures c.in_ok-item.ensures c.in_ok-push_node-2.ensures

pub list-returns-in_default-kind-3 : goal.list-returns-in_default-kind-3
list-returns-in_default-kind-3 t c =
    let ts = c.args.reader.now in
    let d = c.args.depth in
    list_unclosed d ts c.loop-reader.reader _ c.loop-reader.invariant (kind_not c.loop-reader.reader c.peek-in-loop-reader.ensures c.in_default-kind-2.not-Comma) (kind_not c.loop-reader.reader c.peek-3.ensures c.in_default-kind-3.not-Close)

pub list-returns : goal.list-returns
list-returns t c =
    let ts = c.args.reader.now in
    let d = c.args.depth in
    list_end d ts c.loop-reader.reader c.advance-2.new.self _ c.loop-reader.invariant (kind_not c.loop-reader.reader c.peek-in-loop-reader.ensures c.in_default-kind-2.not-Comma) (kind_at c.loop-reader.reader c.peek-3.ensures c.in-Close-kind.is) c.advance-2.ensures

pub negated_step-returns-in_err-right-in-Like : goal.negated_step-returns-in_err-right-in-Like
negated_step-returns-in_err-right-in-Like t c =
    let ts = c.args.reader.now in
    let d = c.args.depth in
    let p = err_from_is_err_and c.from_residual.result c.from_residual.ensures.1 in
    rw (p.1, p.2) (stopped_later c.in_err-right-in-Like.field-0.0 (leads_like c.args.level d ts c.advance.new.self (kind_at ts c.peek.ensures c.in-Like.is) c.advance.ensures) c.in_err-right-in-Like.ensures)

pub negated_step-returns-in_err-items-in-In : goal.negated_step-returns-in_err-items-in-In
negated_step-returns-in_err-items-in-In t c =
    let ts = c.args.reader.now in
    let d = c.args.depth in
    let p = err_from_is_err_and c.from_residual-in_err-items-in-In.result c.from_residual-in_err-items-in-In.ensures.1 in
    rw (p.1, p.2) (stopped_later c.in_err-items-in-In.field-0.0 (leads_not_in c.args.level d ts c.advance-in-In.new.self (kind_at ts c.peek.ensures c.in-In.is) c.advance-in-In.ensures) c.in_err-items-in-In.ensures)

pub negated_step-returns-in_ok-right-in-Like : goal.negated_step-returns-in_ok-right-in-Like
negated_step-returns-in_ok-right-in-Like t c =
    let ts = c.args.reader.now in
    let d = c.args.depth in
    read_not_like c.args.level d ts c.advance.new.self c.operand.new.reader (tree_of c.in_ok-right-in-Like.right) _ (kind_at ts c.peek.ensures c.in-Like.is) c.advance.ensures c.in_ok-right-in-Like.ensures (view-Binary op.NotLike c.in_ok-right-in-Like.right)

pub negated_step-returns-in_ok-items-in-In : goal.negated_step-returns-in_ok-items-in-In
negated_step-returns-in_ok-items-in-In t c =
    let ts = c.args.reader.now in
    let d = c.args.depth in
    read_not_in c.args.level d ts c.advance-in-In.new.self c.list.new.reader (trees_of c.in_ok-items-in-In.items.items) _ (kind_at ts c.peek.ensures c.in-In.is) c.advance-in-In.ensures c.in_ok-items-in-In.ensures (view-In true c.in_ok-items-in-In.items)

pub negated_step-returns-in-Between : goal.negated_step-returns-in-Between
negated_step-returns-in-Between t c =
    let ts = c.args.reader.now in
    let d = c.args.depth in
    same_negated c.args.level d ts c.advance-in-Between.new.self c.between.new.reader c.between.result (kind_at ts c.peek.ensures c.in-Between.is) c.advance-in-Between.ensures c.between.ensures

pub negated_step-returns-in_default : goal.negated_step-returns-in_default
negated_step-returns-in_default t c =
    let ts = c.args.reader.now in
    let d = c.args.depth in
    fails_negatable c.args.level d ts (kind_not ts c.peek.ensures c.in_default.not-Like) (kind_not ts c.peek.ensures c.in_default.not-In) (kind_not ts c.peek.ensures c.in_default.not-Between)

pub step-returns-in_err-right-in-Some-Binary : goal.step-returns-in_err-right-in-Some-Binary
step-returns-in_err-right-in-Some-Binary t c =
    let ts = c.args.reader.now in
    let d = c.args.depth in
    let p = err_from_is_err_and c.from_residual.result c.from_residual.ensures.1 in
    rw (p.1, p.2) (stopped_step c.args.level d (sign.Binary c.in-Some-Binary.op) ts c.advance.new.self c.in_err-right-in-Some-Binary.field-0.0 (sign_is ts c.args.level (sign.Binary c.in-Some-Binary.op) c.peek.ensures c.sign_at_level.ensures (c.in-Some-Binary.is ∙ ap Some c.in-Some-Binary.field-0-is)) c.advance.ensures c.in_err-right-in-Some-Binary.ensures)

pub step-returns-in_ok-right-in-Some-Binary : goal.step-returns-in_ok-right-in-Some-Binary
step-returns-in_ok-right-in-Some-Binary t c =
    let ts = c.args.reader.now in
    let d = c.args.depth in
    read_binary c.args.level d c.in-Some-Binary.op ts c.advance.new.self c.operand.new.reader (tree_of c.in_ok-right-in-Some-Binary.right) _ (sign_is ts c.args.level (sign.Binary c.in-Some-Binary.op) c.peek.ensures c.sign_at_level.ensures (c.in-Some-Binary.is ∙ ap Some c.in-Some-Binary.field-0-is)) c.advance.ensures c.in_ok-right-in-Some-Binary.ensures (view-Binary c.in-Some-Binary.op c.in_ok-right-in-Some-Binary.right)

pub step-returns-in_err-right-in-Some-Is : goal.step-returns-in_err-right-in-Some-Is
step-returns-in_err-right-in-Some-Is t c =
    let ts = c.args.reader.now in
    let d = c.args.depth in
    let p = err_from_is_err_and c.from_residual-in_err-right-in-Some-Is.result c.from_residual-in_err-right-in-Some-Is.ensures.1 in
    rw (p.1, p.2) (stopped_step c.args.level d sign.Is ts c.advance-in-Some-Is.new.self c.in_err-right-in-Some-Is.field-0.0 (sign_is ts c.args.level sign.Is c.peek.ensures c.sign_at_level.ensures (c.in-Some-Is.is ∙ ap Some c.in-Some-Is.field-0-is)) c.advance-in-Some-Is.ensures (stopped_later c.in_err-right-in-Some-Is.field-0.0 (leads_with (Must (operand_rule c.args.level d) ∷ []) (is_leads c.is_operator-op.result c.advance-in-Some-Is.new.self c.is_operator-op.new.reader c.is_operator-op.ensures)) c.in_err-right-in-Some-Is.ensures))

pub step-returns-in_ok-right-in-Some-Is : goal.step-returns-in_ok-right-in-Some-Is
step-returns-in_ok-right-in-Some-Is t c =
    let ts = c.args.reader.now in
    let d = c.args.depth in
    read_is c.args.level d c.is_operator-op.result ts c.advance-in-Some-Is.new.self c.is_operator-op.new.reader c.operand-in-Some-Is.new.reader (tree_of c.in_ok-right-in-Some-Is.right) _ (sign_is ts c.args.level sign.Is c.peek.ensures c.sign_at_level.ensures (c.in-Some-Is.is ∙ ap Some c.in-Some-Is.field-0-is)) c.advance-in-Some-Is.ensures c.is_operator-op.ensures c.in_ok-right-in-Some-Is.ensures (view-Binary c.is_operator-op.result c.in_ok-right-in-Some-Is.right)

pub step-returns-in_err-items-in-Some-In : goal.step-returns-in_err-items-in-Some-In
step-returns-in_err-items-in-Some-In t c =
    let ts = c.args.reader.now in
    let d = c.args.depth in
    let p = err_from_is_err_and c.from_residual-in_err-items-in-Some-In.result c.from_residual-in_err-items-in-Some-In.ensures.1 in
    rw (p.1, p.2) (stopped_step c.args.level d sign.In ts c.advance-in-Some-In.new.self c.in_err-items-in-Some-In.field-0.0 (sign_is ts c.args.level sign.In c.peek.ensures c.sign_at_level.ensures (c.in-Some-In.is ∙ ap Some c.in-Some-In.field-0-is)) c.advance-in-Some-In.ensures c.in_err-items-in-Some-In.ensures)

pub step-returns-in_ok-items-in-Some-In : goal.step-returns-in_ok-items-in-Some-In
step-returns-in_ok-items-in-Some-In t c =
    let ts = c.args.reader.now in
    let d = c.args.depth in
    read_in c.args.level d ts c.advance-in-Some-In.new.self c.list.new.reader (trees_of c.in_ok-items-in-Some-In.items.items) _ (sign_is ts c.args.level sign.In c.peek.ensures c.sign_at_level.ensures (c.in-Some-In.is ∙ ap Some c.in-Some-In.field-0-is)) c.advance-in-Some-In.ensures c.in_ok-items-in-Some-In.ensures (view-In false c.in_ok-items-in-Some-In.items)

pub step-returns-in_err-between-in-Some-Between : goal.step-returns-in_err-between-in-Some-Between
step-returns-in_err-between-in-Some-Between t c =
    let ts = c.args.reader.now in
    let d = c.args.depth in
    let p = err_from_is_err_and c.from_residual-in_err-between-in-Some-Between.result c.from_residual-in_err-between-in-Some-Between.ensures.1 in
    rw (p.1, p.2) (stopped_step c.args.level d sign.Between ts c.advance-in-Some-Between.new.self c.in_err-between-in-Some-Between.field-0.0 (sign_is ts c.args.level sign.Between c.peek.ensures c.sign_at_level.ensures (c.in-Some-Between.is ∙ ap Some c.in-Some-Between.field-0-is)) c.advance-in-Some-Between.ensures c.in_err-between-in-Some-Between.ensures)

pub step-returns-in_ok-between-in-Some-Between : goal.step-returns-in_ok-between-in-Some-Between
step-returns-in_ok-between-in-Some-Between t c =
    let ts = c.args.reader.now in
    let d = c.args.depth in
    read_between c.args.level d ts c.advance-in-Some-Between.new.self c.between.new.reader _ (sign_is ts c.args.level sign.Between c.peek.ensures c.sign_at_level.ensures (c.in-Some-Between.is ∙ ap Some c.in-Some-Between.field-0-is)) c.advance-in-Some-Between.ensures c.in_ok-between-in-Some-Between.ensures

pub step-returns-in_err-negated_step-in-Some-Not : goal.step-returns-in_err-negated_step-in-Some-Not
step-returns-in_err-negated_step-in-Some-Not t c =
    let ts = c.args.reader.now in
    let d = c.args.depth in
    let p = err_from_is_err_and c.from_residual-in_err-negated_step-in-Some-Not.result c.from_residual-in_err-negated_step-in-Some-Not.ensures.1 in
    rw (p.1, p.2) (stopped_step c.args.level d sign.Not ts c.advance-in-Some-Not.new.self c.in_err-negated_step-in-Some-Not.field-0.0 (sign_is ts c.args.level sign.Not c.peek.ensures c.sign_at_level.ensures (c.in-Some-Not.is ∙ ap Some c.in-Some-Not.field-0-is)) c.advance-in-Some-Not.ensures c.in_err-negated_step-in-Some-Not.ensures)

pub step-returns-in_ok-negated_step-in-Some-Not : goal.step-returns-in_ok-negated_step-in-Some-Not
step-returns-in_ok-negated_step-in-Some-Not t c =
    let ts = c.args.reader.now in
    let d = c.args.depth in
    read_negated c.args.level d ts c.advance-in-Some-Not.new.self c.negated_step.new.reader _ (sign_is ts c.args.level sign.Not c.peek.ensures c.sign_at_level.ensures (c.in-Some-Not.is ∙ ap Some c.in-Some-Not.field-0-is)) c.advance-in-Some-Not.ensures c.in_ok-negated_step-in-Some-Not.ensures

pub named-returns-in-Dot : goal.named-returns-in-Dot
named-returns-in-Dot t c =
    let ts = c.args.reader.now in
    let d = c.args.depth in
    member_descent d c.args.word ts c.advance.new.self c.advance-in-Dot.new.self c.member.new.reader c.member.result c.requires.named c.advance.ensures (kind_at c.advance.new.self c.peek.ensures c.in-Dot.is) c.advance-in-Dot.ensures (rw (c.name_of.ensures, c.peek-token.ensures) at c.member.ensures)

pub named-returns-in-Open : goal.named-returns-in-Open
named-returns-in-Open t c =
    let ts = c.args.reader.now in
    let d = c.args.depth in
    call_descent d c.peek-token.result.span.start c.args.word ts c.advance.new.self c.call.new.reader c.call.result c.requires.named c.advance.ensures (kind_at c.advance.new.self c.peek.ensures c.in-Open.is) (ap (λ (x : Token). x.span.start) c.peek-token.ensures) c.call.ensures

pub named-returns-in_default : goal.named-returns-in_default
named-returns-in_default t c =
    let ts = c.args.reader.now in
    let d = c.args.depth in
    read_column d c.args.word ts c.advance.new.self _ c.requires.named c.advance.ensures (kind_not c.advance.new.self c.peek.ensures c.in_default.not-Dot) (kind_not c.advance.new.self c.peek.ensures c.in_default.not-Open) (view-Column None c.name_of-in_default.result ∙ ap (tree.column None) (c.name_of-in_default.ensures ∙ ap token_name c.peek-token.ensures))

pub call-returns-then-not-is_function : goal.call-returns-then-not-is_function
call-returns-then-not-is_function t c =
    let ts = c.args.reader.now in
    let d = c.args.depth in
    fails_unknown d c.args.place c.args.word ts (sym c.is_function.ensures ∙ c.if-not-is_function.true)

pub call-returns-then-depth-eq-MAX_DEPTH : goal.call-returns-then-depth-eq-MAX_DEPTH
call-returns-then-depth-eq-MAX_DEPTH t c =
    let ts = c.args.reader.now in
    let d = c.args.depth in
    fails_deep_call d c.args.place c.args.word ts (omega arith)

pub call-returns-in-Close : goal.call-returns-in-Close
call-returns-in-Close t c =
    let ts = c.args.reader.now in
    let d = c.args.depth in
    let o : IsOpening d c.args.place c.args.word ts c.advance.new.self = record { known = sym c.is_function.ensures ∙ c.if-not-is_function.false; opened = c.requires.opened; room = omega arith; takes = c.advance.ensures } in
    fails_empty_call d c.args.place c.args.word ts c.advance.new.self o (kind_at c.advance.new.self c.peek.ensures c.in-Close.is)

pub call-returns-in-Star : goal.call-returns-in-Star
call-returns-in-Star t c =
    let ts = c.args.reader.now in
    let d = c.args.depth in
    let o : IsOpening d c.args.place c.args.word ts c.advance.new.self = record { known = sym c.is_function.ensures ∙ c.if-not-is_function.false; opened = c.requires.opened; room = omega arith; takes = c.advance.ensures } in
    all_descent d c.args.place c.args.word ts c.advance.new.self c.advance-in-Star.new.self c.close_call.new.reader (trees_of c.new-none.result.items) c.close_call.result o (kind_at c.advance.new.self c.peek.ensures c.in-Star.is) c.advance-in-Star.ensures (ap trees_of c.new-none.ensures.items) c.close_call.ensures

pub call-returns-in-Distinct : goal.call-returns-in-Distinct
call-returns-in-Distinct t c =
    let ts = c.args.reader.now in
    let d = c.args.depth in
    let o : IsOpening d c.args.place c.args.word ts c.advance.new.self = record { known = sym c.is_function.ensures ∙ c.if-not-is_function.false; opened = c.requires.opened; room = omega arith; takes = c.advance.ensures } in
    distinct_descent d c.args.place c.args.word ts c.advance.new.self c.advance-in-Distinct.new.self c.counted.new.reader c.counted.result o (kind_at c.advance.new.self c.peek.ensures c.in-Distinct.is) c.advance-in-Distinct.ensures c.counted.ensures

pub call-returns-in_default : goal.call-returns-in_default
call-returns-in_default t c =
    let ts = c.args.reader.now in
    let d = c.args.depth in
    let o : IsOpening d c.args.place c.args.word ts c.advance.new.self = record { known = sym c.is_function.ensures ∙ c.if-not-is_function.false; opened = c.requires.opened; room = omega arith; takes = c.advance.ensures } in
    plain_descent d c.args.place c.args.word ts c.advance.new.self c.counted-in_default.new.reader c.counted-in_default.result o (kind_not c.advance.new.self c.peek.ensures c.in_default.not-Close) (kind_not c.advance.new.self c.peek.ensures c.in_default.not-Star) (kind_not c.advance.new.self c.peek.ensures c.in_default.not-Distinct) c.counted-in_default.ensures

pub counted-returns-in_err-first : goal.counted-returns-in_err-first
counted-returns-in_err-first t c =
    let ts = c.args.reader.now in
    let d = c.args.depth in
    let e = err_from_is_err_and c.from_residual.result c.from_residual.ensures.1 in
    rw (e.1, e.2) (stopped_with (Must (rule.Chain level.Or d) ∷ []) (Must (rule.AfterArgument d c.args.place c.args.word c.args.one) ∷ []) ts c.in_err-first.field-0.0 c.in_err-first.ensures)

pub counted-loop-reader-init : goal.counted-loop-reader-init
counted-loop-reader-init t c =
    let ts = c.args.reader.now in
    let d = c.args.depth in
    counted_start d c.args.place c.args.word c.args.one ts c.chain.new.reader (tree_of c.in_ok-first.first) _ c.in_ok-first.ensures (c.in_ok-push_node.ensures ∙ ap (λ (x : Trees). and_tree x (tree_of c.in_ok-first.first)) (ap trees_of c.new-arguments.ensures.items))

pub counted-returns-in_err-argument : goal.counted-returns-in_err-argument
counted-returns-in_err-argument t c =
    let ts = c.args.reader.now in
    let d = c.args.depth in
    let e = err_from_is_err_and c.from_residual-in_err-argument.result c.from_residual-in_err-argument.ensures.1 in
    rw (e.1, e.2) (stopped_argument d c.args.place c.args.word c.args.one ts c.loop-reader.reader c.advance.new.self _ c.loop-reader.shape c.in_err-argument.field-0.0 c.loop-reader.invariant (kind_at c.loop-reader.reader c.peek.ensures c.in-Comma.is) c.advance.ensures c.in_err-argument.ensures)

pub counted-loop-reader-smaller : goal.counted-loop-reader-smaller
counted-loop-reader-smaller t c =
    let ts = c.args.reader.now in
    let d = c.args.depth in
    let k : (next c.loop-reader.reader).kind ≡ kind.Comma = (kind_at c.loop-reader.reader c.peek.ensures c.in-Comma.is) in
    let a = after_shorter c.loop-reader.reader (λ e. cc) in
    let b = shorter c.in_ok-argument.ensures.spelled in
    let m = ap length c.advance.ensures in
    omega arith

pub counted-loop-reader-preserved : goal.counted-loop-reader-preserved
counted-loop-reader-preserved t c =
    let ts = c.args.reader.now in
    let d = c.args.depth in
    counted_more d c.args.place c.args.word c.args.one ts c.loop-reader.reader c.advance.new.self c.chain-in-Comma.new.reader (trees_of c.loop-reader.arguments.items) _ (tree_of c.in_ok-argument.argument) c.loop-reader.shape c.one_more_argument-shape.result c.loop-reader.invariant (kind_at c.loop-reader.reader c.peek.ensures c.in-Comma.is) c.advance.ensures c.in_ok-argument.ensures c.in_ok-push_node-2.ensures c.one_more_argument-shape.ensures

pub counted-returns : goal.counted-returns
counted-returns t c =
    let ts = c.args.reader.now in
    let d = c.args.depth in
    counted_end d c.args.place c.args.word c.args.one ts c.loop-reader.reader c.close_call.new.reader (trees_of c.loop-reader.arguments.items) c.loop-reader.shape c.close_call.result c.loop-reader.invariant (kind_not c.loop-reader.reader c.peek.ensures c.in_default.not-Comma) c.close_call.ensures

pub cast-returns-in_default : goal.cast-returns-in_default
cast-returns-in_default t c =
    let ts = c.args.reader.now in
    let d = c.args.depth in
    fails_cast_open d ts (kind_not ts c.peek.ensures c.in_default.not-Open)

pub cast-returns-then-depth-eq-MAX_DEPTH : goal.cast-returns-then-depth-eq-MAX_DEPTH
cast-returns-then-depth-eq-MAX_DEPTH t c =
    let ts = c.args.reader.now in
    let d = c.args.depth in
    fails_deep_cast d ts (kind_at ts c.peek.ensures c.in-Open.is) (omega arith)

pub cast-returns-in_err-inner : goal.cast-returns-in_err-inner
cast-returns-in_err-inner t c =
    let ts = c.args.reader.now in
    let d = c.args.depth in
    let e = err_from_is_err_and c.from_residual.result c.from_residual.ensures.1 in
    rw (e.1, e.2) (stopped_inner d ts c.advance.new.self c.in_err-inner.field-0.0 (kind_at ts c.peek.ensures c.in-Open.is) (omega arith) c.advance.ensures c.in_err-inner.ensures)

pub cast-returns-in_err-is_text : goal.cast-returns-in_err-is_text
cast-returns-in_err-is_text t c =
    let ts = c.args.reader.now in
    let d = c.args.depth in
    let e = err_from_is_err_and c.from_residual-in_err-is_text.result c.from_residual-in_err-is_text.ensures.1 in
    rw (e.1, e.2) (stopped_type d ts c.advance.new.self c.chain.new.reader (tree_of c.in_ok-inner.inner) c.in_err-is_text.field-0.0 (kind_at ts c.peek.ensures c.in-Open.is) (omega arith) c.advance.ensures c.in_ok-inner.ensures c.in_err-is_text.ensures)

pub cast-returns : goal.cast-returns
cast-returns t c =
    let ts = c.args.reader.now in
    let d = c.args.depth in
    cast_read d ts c.advance.new.self c.chain.new.reader c.cast_type.new.reader (tree_of c.in_ok-inner.inner) _ c.in_ok-is_text.is_text (kind_at ts c.peek.ensures c.in-Open.is) (omega arith) c.advance.ensures c.in_ok-inner.ensures c.in_ok-is_text.ensures c.in_ok-cast.ensures

pub atom-returns-in-Cast : goal.atom-returns-in-Cast
atom-returns-in-Cast t c =
    let ts = c.args.reader.now in
    let d = c.args.depth in
    cast_descent d ts c.advance-in-Cast.new.self c.cast.new.reader c.cast.result (kind_at ts c.peek-token.ensures c.in-Cast.is) c.advance-in-Cast.ensures c.cast.ensures
