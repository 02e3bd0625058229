use Rattle.std.proofs.lemmas.Result.{err_from_is_err_and}
use Rattle.std.proofs.Common.{[], ◌∷◌, ◌++◌, ap, ◌∙◌, map}
use Rattle.sql_faults.specs.declared.part.Part.TheVariants.{Must, May}
use Rattle.sql_faults.specs.declared.part.Rule.TheVariants as rule
use Rattle.sql_faults.specs.declared.part.Optional.TheVariants as optional
use Rattle.sql_tokens.specs.declared.level.Level.TheVariants as level
use Rattle.std.proofs.lemmas.List.{map-append}
use Rattle.sql_tree.specs.Select.{term_of}
use Rattle.sql_parser.specs.SelectGrammar as grammar
use Rattle.sql_parser.proofs.Arms.{kind_at, kind_not, stopped_with}
use Rattle.sql_parser.proofs.SelectArms.{comma_start, comma_more, comma_end, comma_stopped, terms_comma, terms_no_comma}
use Rattle.sql_parser.proofs.clauses.term_list.Goals as goal

pub returns-in_err-first : goal.returns-in_err-first
returns-in_err-first c =
    let p = err_from_is_err_and c.from_residual.result c.from_residual.ensures.1 in
    rw (p.1, p.2) (stopped_with (Must (rule.Chain level.Or 0) ∷ May optional.Direction ∷ []) (May optional.Terms ∷ []) c.args.reader.now c.in_err-first.field-0.0 c.in_err-first.ensures)

pub loop-reader-init : goal.loop-reader-init
loop-reader-init c =
    comma_start grammar.SpellsTerm (Must (rule.Chain level.Or 0) ∷ May optional.Direction ∷ []) optional.Terms c.args.reader.now c.term.new.reader (term_of c.in_ok-first.first) _ c.in_ok-first.ensures (ap (map term_of) (c.in_ok-push.ensures.ok ∙ ap (λ xs. xs ++ c.in_ok-first.first ∷ []) c.new-terms.ensures))

pub returns-in_err-further : goal.returns-in_err-further
returns-in_err-further c =
    let p = err_from_is_err_and c.from_residual-in_err-further.result c.from_residual-in_err-further.ensures.1 in
    rw (p.1, p.2) (comma_stopped grammar.SpellsTerm (grammar.WithCommas grammar.SpellsTerm) (Must (rule.Chain level.Or 0) ∷ May optional.Direction ∷ May optional.Terms ∷ []) (Must (rule.Chain level.Or 0) ∷ May optional.Direction ∷ []) optional.Terms c.args.reader.now c.loop-reader.reader c.advance.new.self (map term_of c.loop-reader.terms) c.in_err-further.field-0.0 c.loop-reader.invariant (kind_at c.loop-reader.reader c.peek.ensures c.in-Comma.is) c.advance.ensures terms_comma c.in_err-further.ensures)

pub loop-reader-preserved : goal.loop-reader-preserved
loop-reader-preserved c =
    comma_more grammar.SpellsTerm (grammar.WithCommas grammar.SpellsTerm) (Must (rule.Chain level.Or 0) ∷ May optional.Direction ∷ May optional.Terms ∷ []) (Must (rule.Chain level.Or 0) ∷ May optional.Direction ∷ []) optional.Terms c.args.reader.now c.loop-reader.reader c.advance.new.self c.term-in-Comma.new.reader (term_of c.in_ok-further.further) (map term_of c.loop-reader.terms) _ c.loop-reader.invariant (kind_at c.loop-reader.reader c.peek.ensures c.in-Comma.is) c.advance.ensures terms_comma c.in_ok-further.ensures (ap (map term_of) (c.in_ok-push-2.ensures.ok) ∙ map-append term_of c.loop-reader.terms (c.in_ok-further.further ∷ []))

pub returns : goal.returns
returns c =
    comma_end grammar.SpellsTerm (grammar.WithCommas grammar.SpellsTerm) (Must (rule.Chain level.Or 0) ∷ May optional.Direction ∷ May optional.Terms ∷ []) optional.Terms c.args.reader.now c.loop-reader.reader (map term_of c.loop-reader.terms) c.loop-reader.invariant (kind_not c.loop-reader.reader c.peek.ensures c.in_default.not-Comma) (terms_no_comma _ (kind_not c.loop-reader.reader c.peek.ensures c.in_default.not-Comma))
