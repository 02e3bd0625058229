use Rattle.std.proofs.lemmas.Result.{err_from_is_err_and}
use Rattle.std.proofs.Common.{[], ◌∷◌, ◌++◌, ap, ◌∙◌}
use Rattle.sql_faults.specs.declared.part.Part.TheVariants.{One, May}
use Rattle.sql_faults.specs.declared.part.Expected.TheVariants as expected
use Rattle.sql_faults.specs.declared.part.Optional.TheVariants as optional
use Rattle.sql_parser.specs.SelectGrammar as grammar
use Rattle.sql_parser.proofs.Arms.{kind_at, kind_not, stopped_with}
use Rattle.sql_parser.proofs.SelectArms.{comma_start, comma_more, comma_end, comma_stopped, names_comma, names_no_comma}
use Rattle.sql_parser.proofs.clauses.name_list.Goals as goal

pub returns-in_err-first : goal.returns-in_err-first
returns-in_err-first c =
    let p = err_from_is_err_and c.from_residual.result c.from_residual.ensures.1 in
    rw (p.1, p.2) (stopped_with (One expected.Name ∷ []) (May optional.Names ∷ []) c.args.reader.now c.in_err-first.field-0.0 c.in_err-first.ensures)

pub loop-reader-init : goal.loop-reader-init
loop-reader-init c =
    comma_start grammar.SpellsName (One expected.Name ∷ []) optional.Names c.args.reader.now c.name.new.reader c.in_ok-first.first _ c.in_ok-first.ensures (c.in_ok-push.ensures.ok ∙ ap (λ xs. xs ++ c.in_ok-first.first ∷ []) c.new-names.ensures)

pub returns-in_err-further : goal.returns-in_err-further
returns-in_err-further c =
    let p = err_from_is_err_and c.from_residual-in_err-further.result c.from_residual-in_err-further.ensures.1 in
    rw (p.1, p.2) (comma_stopped grammar.SpellsName (grammar.WithCommas grammar.SpellsName) (One expected.Name ∷ May optional.Names ∷ []) (One expected.Name ∷ []) optional.Names c.args.reader.now c.loop-reader.reader c.advance.new.self c.loop-reader.names c.in_err-further.field-0.0 c.loop-reader.invariant (kind_at c.loop-reader.reader c.peek.ensures c.in-Comma.is) c.advance.ensures names_comma c.in_err-further.ensures)

pub loop-reader-preserved : goal.loop-reader-preserved
loop-reader-preserved c =
    comma_more grammar.SpellsName (grammar.WithCommas grammar.SpellsName) (One expected.Name ∷ May optional.Names ∷ []) (One expected.Name ∷ []) optional.Names c.args.reader.now c.loop-reader.reader c.advance.new.self c.name-in-Comma.new.reader c.in_ok-further.further c.loop-reader.names _ c.loop-reader.invariant (kind_at c.loop-reader.reader c.peek.ensures c.in-Comma.is) c.advance.ensures names_comma c.in_ok-further.ensures (c.in_ok-push-2.ensures.ok)

pub returns : goal.returns
returns c =
    comma_end grammar.SpellsName (grammar.WithCommas grammar.SpellsName) (One expected.Name ∷ May optional.Names ∷ []) optional.Names c.args.reader.now c.loop-reader.reader c.loop-reader.names c.loop-reader.invariant (kind_not c.loop-reader.reader c.peek.ensures c.in_default.not-Comma) (names_no_comma _ (kind_not c.loop-reader.reader c.peek.ensures c.in_default.not-Comma))
