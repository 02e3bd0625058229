use Rattle.std.proofs.Common.{[], ◌∷◌, ◌++◌, ap, ◌∙◌, map, Ok, Option, subst}
use Rattle.std.proofs.lemmas.List.{map-append}
use Rattle.sql_parser.specs.declared.clauses.Form.{Form}
use Rattle.sql_tree.specs.Select.{ref_of}
use Rattle.sql_parser.specs.SelectDescent.{FormFound}
use Rattle.sql_parser.proofs.SelectArms.{sources_start, sources_more, sources_end}
use Rattle.std.proofs.lemmas.Result.{err_from_is_err_and}
use Rattle.sql_faults.specs.declared.part.Part.TheVariants.{One, May}
use Rattle.sql_faults.specs.declared.part.Expected.TheVariants as expected
use Rattle.sql_faults.specs.declared.part.Optional.TheVariants as optional
use Rattle.sql_parser.proofs.Arms.{stopped_with}
use Rattle.sql_parser.proofs.clauses.source_list.Goals as goal

pub returns-in_err-first : goal.returns-in_err-first
returns-in_err-first c =
    let p = err_from_is_err_and c.from_residual.result c.from_residual.ensures.1 in
    rw (p.1, p.2) (stopped_with (One expected.Name ∷ May optional.Alias ∷ []) (May optional.Sources ∷ []) c.args.reader.now c.in_err-first.field-0.0 c.in_err-first.ensures)

pub loop-sources-init : goal.loop-sources-init
loop-sources-init c =
    sources_start c.args.reader.now c.source.new.reader (ref_of c.in_ok-first.first) _ c.in_ok-first.ensures (ap (map ref_of) (c.in_ok-push.ensures.ok ∙ ap (λ xs. xs ++ c.in_ok-first.first ∷ []) c.new-sources.ensures))

pub loop-sources-preserved : goal.loop-sources-preserved
loop-sources-preserved c =
    let found = subst (λ (x : Option Form). FormFound c.loop-sources.reader (Ok x) c.join_form.new.reader) c.in-Some.is c.in_ok-form.ensures in
    sources_more c.in-Some.form c.args.reader.now c.loop-sources.reader c.join_form.new.reader c.source-in-Some.new.reader (ref_of c.in_ok-further.further) (map ref_of c.loop-sources.sources) _ c.loop-sources.invariant found c.in_ok-further.ensures (ap (map ref_of) c.in_ok-push-2.ensures.ok ∙ map-append ref_of c.loop-sources.sources (c.in_ok-further.further ∷ []))

pub returns : goal.returns
returns c =
    let found = subst (λ (x : Option Form). FormFound c.loop-sources.reader (Ok x) c.join_form.new.reader) c.in_default.is c.in_ok-form.ensures in
    sources_end c.args.reader.now c.loop-sources.reader c.join_form.new.reader (map ref_of c.loop-sources.sources) c.loop-sources.invariant found
